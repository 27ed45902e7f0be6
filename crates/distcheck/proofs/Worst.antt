-- The worst of the talks of a row so far, with one talk more.
use Rattle.std.proofs.Common.{◌≡◌, ℕ, ◌+◌, ◌<◌, ◌≤◌, List, length, get_or, take, sym, arith}
use Rattle.std.specs.Prelude.{Contains}
use Rattle.std.proofs.lemmas.{List.take_more, List.Elements.All-push}
use Rattle.dist_conformance.specs.Verdicts.{rank_of}
use Rattle.distcheck.specs.{Played.played_verdict, Rows.NoneWorse, declared.tries.PlayedTalk.PlayedTalk}

-- no verdict of so many talks is worse than the old one, and neither that nor the next is worse than the new one
none_worse_more : (talks : List PlayedTalk) (i : ℕ) (d old new : PlayedTalk) → i < length talks
    → rank_of (played_verdict old) ≤ rank_of (played_verdict new) → rank_of (played_verdict (get_or talks i d)) ≤ rank_of (played_verdict new)
    → NoneWorse (take i talks) old → NoneWorse (take (i + 1) talks) new
none_worse_more talks i d old new within up here before = record {
  each = rw (take_more talks i d within)
      (All-push (λ talk. rank_of (played_verdict talk) ≤ rank_of (played_verdict new)) (take i talks) (get_or talks i d)
      (λ k e h. omega (arith, before.each k e h, up)) here);
}

-- one of all talks, and none of so many is worse
pub record WorstOf (talks : List PlayedTalk) (n : ℕ) (worst : PlayedTalk) : Type 0 where
  pub one_of_them : Contains talks worst
  pub none_worse : NoneWorse (take n talks) worst

-- the next talk is it
pub next_is_worst : (talks : List PlayedTalk) (i : ℕ) (item old new : PlayedTalk) → i < length talks → item ≡ get_or talks i item → new ≡ item
    → rank_of (played_verdict old) ≤ rank_of (played_verdict item) → NoneWorse (take i talks) old → WorstOf talks (i + 1) new
next_is_worst talks i item old new within at is up before = rw is record {
  one_of_them = (i, within, sym at);
  none_worse = none_worse_more talks i item old item within up (rw (← at) (omega arith)) before;
}

-- the old one still is
pub old_is_worst : (talks : List PlayedTalk) (i : ℕ) (item old new : PlayedTalk) → i < length talks → item ≡ get_or talks i item → new ≡ old
    → rank_of (played_verdict item) ≤ rank_of (played_verdict old) → Contains talks old → NoneWorse (take i talks) old → WorstOf talks (i + 1) new
old_is_worst talks i item old new within at is up there before = rw is record {
  one_of_them = there;
  none_worse = none_worse_more talks i item old old within (omega arith) (rw (← at) up) before;
}
