-- One talk more is confirmed.
use Rattle.std.proofs.Common.{rules, ◌++◌, ◌∷◌, []}
use Rattle.std.specs.Prelude.{option_copied, Some, ◌≡◌}
use Rattle.dist_conformance.specs.declared.verdicts.TalkVerdict.TheVariants as verdict
use Rattle.distcheck.specs.Played.{played_verdict}
use Rattle.distcheck.proofs.Confirmed.{IsSoFar, known_more, other_more, talks_more}
use Rattle.distcheck.proofs.running.TalkCrew.confirm_all.Goals as goal
use Rattle.distcheck.proofs.running.TalkCrew.confirm_all.Goals.{then-eq, else-eq}

pub loop-played-preserved : goal.loop-played-preserved
loop-played-preserved c =
    let row = option_copied c.loop-played.deviating in
    let ps = c.loop-played.confirmed.items in
    let p = c.in_ok-played.played in
    let more : IsSoFar (option_copied c.if-eq.deviating) (ps ++ p ∷ []) = elim c.if-eq.branch as (λ _. IsSoFar (option_copied c.if-eq.deviating) (ps ++ p ∷ [])) [
      | then-eq w ↦
          let is : option_copied c.if-eq.deviating ≡ Some p.queued.row.now.id = search rules in
          let deviates : played_verdict p ≡ verdict.Deviates = search rules in
          rw is (known_more row ps p c.loop-played.invariant.so_far c.in_ok-played.ensures.twice deviates)
      | else-eq w ↦
          let is : c.if-eq.deviating ≡ c.loop-played.deviating = search rules in
          rw is (other_more row ps p c.loop-played.invariant.so_far c.in_ok-played.ensures.twice (λ d. search rules))
    ] in
    record {
      talks = rw c.in_ok-push.ensures.items (talks_more ps c.loop-played.yielded p c.in-Some.played c.loop-played.invariant.talks c.in_ok-played.ensures.same);
      so_far = rw c.in_ok-push.ensures.items more;
    }
