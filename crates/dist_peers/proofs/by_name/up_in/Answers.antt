use Rattle.std.proofs.Common.{rules, tests, ◌∙◌}
use Rattle.std.proofs.lemmas.Iterator.Consumers.{nth_from_yields_List, YieldsList-from_filter_map, YieldsList-from_rest, YieldsList-at}
use Rattle.dist_peers.proofs.Maps.{same-option}
use Rattle.dist_peers.proofs.by_name.up_in.Goals as goal

pub returns : goal.returns
returns c = same-option c.nth.result ∙ nth_from_yields_List c.nth.result c.nth.new.self c.args.i c.nth.ensures.ran (YieldsList-from_filter_map _ _ (YieldsList-at c.filter_map.ensures.source (YieldsList-from_rest c.args.entries.now.entries c.iter.ensures.rest)) c.filter_map.ensures.closure (λ x r q k. search (rules, tests)))
