use Rattle.std.proofs.{Common.ℕ, Common.List, Common.count_by, Common.take, Common.arith, Common.sym, Common.ap, Common.◌∙◌, lemmas.List.take_more}
use Rattle.dist_cluster.specs.Summary.{comes_to, tallied}
use Rattle.dist_cluster.proofs.Counts.{one_more, words_of}
use Rattle.dist_cluster.proofs.summary.tally_verdicts.Goals as goal

pub loop-word-preserved : goal.loop-word-preserved
loop-word-preserved c =
    let i = c.loop-word.word-index in
    let words = c.args.words.now in
    one_more (λ (word : List ℕ). count_by (comes_to word) c.args.halves.now) (take i words) _ _ _ _ c.count_verdicts.ensures c.loop-word.invariant c.in_ok-push_tally.ensures
    ∙ sym (ap (λ l. tallied (λ (word : List ℕ). count_by (comes_to word) c.args.halves.now) (words_of l)) (take_more words i _ (omega arith)))
