use Rattle.std.proofs.Common.{rules, tests, ◌∙◌}
use Rattle.std.proofs.lemmas.Iterator.Consumers.{nth_from_yields_List, YieldsList-from_filter_map, YieldsList-from_rest, YieldsList-at}
use Rattle.std.specs.{BTreeMap.Range.entries_between, declared.ops.Bound.TheVariants.Excluded, declared.ops.Bound.TheVariants.Unbounded}
use Rattle.dist_names.specs.Order.{name_cmp}
use Rattle.dist_peers.proofs.Maps.{same-option}
use Rattle.dist_peers.proofs.by_name.up_behind.Goals as goal

pub returns : goal.returns
returns c =
    let behind = YieldsList-from_rest (entries_between name_cmp (Excluded c.args.name.now) Unbounded c.args.entries.now.entries) (c.range-behind.ensures.between tt) in
    same-option c.nth.result ∙ nth_from_yields_List c.nth.result c.nth.new.self 0 c.nth.ensures.ran (YieldsList-from_filter_map _ _ (YieldsList-at c.filter_map.ensures.source behind) c.filter_map.ensures.closure (λ x r q k. search (rules, tests)))
