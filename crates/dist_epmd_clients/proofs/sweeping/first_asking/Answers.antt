use Rattle.std.proofs.Common.{rules, tests, ◌≡◌, ◌∙◌, Option, Some, None, refl}
use Rattle.std.proofs.lemmas.Iterator.Consumers.{nth_from_yields_List, YieldsList-from_filter_map, YieldsList-from_rest, YieldsList-at}
use Rattle.std.specs.Option.{option_map}
use Rattle.dist_epmd_clients.proofs.Sweepings.{first_is_asking}
use Rattle.dist_epmd_clients.proofs.sweeping.first_asking.Goals as goal

same-option : {X : Type 0} (o : Option X) → o ≡ option_map (λ x. x) o
same-option None = refl
same-option (Some x) = refl

pub returns : goal.returns
returns g c =
    let first = same-option c.nth.result ∙ nth_from_yields_List c.nth.result c.nth.new.self 0 c.nth.ensures.ran (YieldsList-from_filter_map _ _ (YieldsList-at c.filter_map.ensures.source (YieldsList-from_rest c.args.clients.now.entries c.iter.ensures.rest)) c.filter_map.ensures.closure (λ x r q k. search (rules, tests))) in
    record { first = first; asking = first_is_asking c.args.clients.now c.nth.result c.iter.ensures.ordered first }
