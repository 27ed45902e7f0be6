-- The talk knows its place.
use Rattle.std.proofs.Common.{◌∙◌}
use Rattle.distcheck.proofs.Order.{one_place_more}
use Rattle.distcheck.proofs.wanted.WantedTalks.push.Goals as goal

pub invariant_of-self : goal.invariant_of-self
invariant_of-self c = record {
  placed = one_place_more (λ talk. talk.place) _ _ _ _ c.args.self.now.placed (c.len-place.ensures ∙ c.args.self.now.talks.ok.0) c.push.ensures.items;
}
