-- With one talk more, that is the worst so far, or the old one still is.
use Rattle.std.proofs.Common.{◌≡◌, ◌∙◌, ◌+◌, ◌<◌, length, ap, arith}
use Rattle.std.specs.Borrow.{Bor}
use Rattle.dist_conformance.specs.Verdicts.{rank_of}
use Rattle.distcheck.specs.{Played.played_verdict, declared.tries.PlayedTalk.PlayedTalk}
use Rattle.distcheck.proofs.Worst.{WorstOf, next_is_worst, old_is_worst}
use Rattle.distcheck.proofs.results.row_of.Goals.{then-rank, else-rank}
use Rattle.distcheck.proofs.results.row_of.Goals as goal

pub loop-talk-preserved : goal.loop-talk-preserved
loop-talk-preserved c =
    let talks = c.args.talks.now in
    let i = c.loop-talk.talk-index in
    let old = c.loop-talk.shown.now in
    let item = c.talk-item.result in
    let new = c.if-rank.shown.now in
    let within : i < length talks = omega (arith, c.loop-talk-test.true) in
    let of_old : c.rank.result ≡ rank_of (played_verdict old) = c.rank.ensures ∙ ap rank_of c.verdict.ensures in
    let of_item : c.rank-in-loop-talk.result ≡ rank_of (played_verdict item) = c.rank-in-loop-talk.ensures ∙ ap rank_of c.verdict-in-loop-talk.ensures in
    let it : WorstOf talks (i + 1) new = elim c.if-rank.branch as (λ _. WorstOf talks (i + 1) new) [
      | then-rank w ↦ next_is_worst talks i item old new within c.talk-item.is (ap (λ (r : Bor PlayedTalk). r.now) w.shown-is)
          (omega (arith, of_old, of_item)) c.loop-talk.invariant.none_worse
      | else-rank w ↦ old_is_worst talks i item old new within c.talk-item.is (ap (λ (r : Bor PlayedTalk). r.now) w.shown-is)
          (omega (arith, of_old, of_item)) c.loop-talk.invariant.one_of_them c.loop-talk.invariant.none_worse
    ] in record { one_of_them = it.one_of_them; none_worse = it.none_worse }
