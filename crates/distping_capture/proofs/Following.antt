-- Connections are followed.
use Rattle.std.proofs.Common.{◌≡◌, inl, inr, ℕ, suc, ◌<◌, Bool, true, false, List, [], ◌∷◌, ◌++◌, length, take, drop, get_or, slice_get, Option, Some, None, IfSome, Result, Ok, Err, IfOk, sym, ap, subst, ◌∙◌}
use Rattle.std.specs.{Global.Global, List.All, List.remove, declared.boxed.Box.Box}
use Rattle.std.proofs.lemmas.{Bool.false≢true, Option.slice_get-get_or}
use Rattle.std.proofs.lemmas.List.Elements.{All-append, All-drop, All-get_or, All-push, All-take, All-weaker}
use Rattle.dist_capture.specs.declared.segment.Segment.{Segment}
use Rattle.dist_talk.specs.declared.terms.Terms.{Terms}
use Rattle.dist_conversation.specs.Conversations.{IsBetween, Takes, begun}
use Rattle.dist_conversation.specs.Verdicts.{verdict_on}
use Rattle.dist_conversation.specs.declared.{carried.Conclusion.Conclusion, conversation.Conversation.Conversation}
use Rattle.distping_report.specs.Sinks.{SinkState}
use Rattle.distping_capture.specs.Captures.{Awaits, Ends, Follows, FollowsAll, GoesOnBy, IsGiven, IsJudged, IsWhen, Keeps, Renews, TakesInAll, TakesNext}
use Rattle.distping_capture.specs.declared.{connections.CapturedConnection.CapturedConnection, connections.CapturedConnections.CapturedConnections, journal.CaptureJournal.CaptureJournal}
use Rattle.distping_capture.proofs.Keeping.{IsStill, keeps_more, keeps_still}
use Rattle.distping_capture.proofs.Talking.{given_of, judged_given_more, new_between, of_more, of_taken}

pub both_ok : {T E : Type 0} (r : Result T E) (P Q : T → Type 0) → IfOk r P → IfOk r Q → IfOk r (λ x. P x × Q x)
both_ok (Ok x) P Q p q = (p, q)
both_ok (Err e) P Q p q = tt

none_some : {X : Type 0} (o : Option X) (x : X) → o ≡ Some x → o ≡ None → ⊥
none_some o x p q = absurd cc

-- one that is over is followed
pub over_follows : (t : Terms) (port : ℕ) (segments : List Segment) (c : CapturedConnection) → c.is_over ≡ true → c.judged ≡ None → Follows t port segments c
over_follows t port segments c over none = record {
  open_ = λ _ open_. absurd (false≢true (sym open_ ∙ over));
  given = subst (λ (o : Option Conclusion). IfSome o (λ j. IfSome j.verdict (IsGiven t port segments))) (sym none) tt;
}

-- the same segments, and one more
pub follows_more : (t : Terms) (port : ℕ) (segments : List Segment) (s : Segment) (c : CapturedConnection) → Follows t port segments c → Follows t port (segments ++ s ∷ []) c
follows_more t port segments s c p = record {
  open_ = λ none open_. of_more port segments s c.seen (p.open_ none open_);
  given = judged_given_more t port segments s c.judged p.given;
}

-- it takes a segment
follows_taken : (t : Terms) (port : ℕ) (segments : List Segment) (s : Segment) (c : CapturedConnection) (e : Conversation) → Takes c.seen s e → Awaits t port segments s c
    → Follows t port (segments ++ s ∷ []) (record c { seen = e })
follows_taken t port segments s c e takes p = record {
  open_ = λ none open_. of_taken port segments s c.seen e p.between takes (p.open_ none open_);
  given = judged_given_more t port segments s c.judged p.given;
}

pub new_awaits : (t : Terms) (port : ℕ) (segments : List Segment) (s : Segment) (c : CapturedConnection) → c.seen ≡ begun port s → c.judged ≡ None → Awaits t port segments s c
new_awaits t port segments s c new none = record {
  between = new_between port s c.seen new;
  open_ = λ _ _. inr new;
  given = subst (λ (o : Option Conclusion). IfSome o (λ j. IfSome j.verdict (IsGiven t port segments))) (sym none) tt;
}

pub goes_awaits : (t : Terms) (port : ℕ) (segments : List Segment) (s : Segment) (c : CapturedConnection) → IsBetween c.seen s → Follows t port segments c → Awaits t port segments s c
goes_awaits t port segments s c between p = record { between = between; open_ = λ none open_. inl (p.open_ none open_); given = p.given }

module _ {W : Type 0} where
  -- it stays as it is
  pub ends_same : (c : CapturedConnection) (r : CaptureJournal W) → Ends c c r r
  ends_same c r t port segments json old follows keeps = record { keeps = keeps; follows = follows }

  -- it is judged
  pub ends_judged : (c e : CapturedConnection) (now : ℕ) (j : Conclusion) (r s : CaptureJournal W) → c.judged ≡ None → c.is_over ≡ false → e.judged ≡ Some j → IsWhen r.terms c.seen now j
      → j.verdict ≡ verdict_on r.terms c.seen.is_at_mapper j.carried → GoesOnBy c.seen now j r s → Ends c e r s
  ends_judged c e now j r s none open_ is when verdict goes t port segments json old follows keeps =
      let judged : IsJudged t port segments c.seen now j = record {
        of = follows.open_ none open_;
        carried = subst (λ (x : Terms). IsWhen x c.seen now j) keeps.terms when;
        verdict = subst (λ (x : Terms). j.verdict ≡ verdict_on x c.seen.is_at_mapper j.carried) keeps.terms verdict;
      } in
      record {
        keeps = goes t port segments json old judged keeps;
        follows = record {
          open_ = λ other _. absurd (none_some e.judged j is other);
          given = subst (λ (o : Option Conclusion). IfSome o (λ x. IfSome x.verdict (IsGiven t port segments))) (sym is) (given_of t port segments c.seen now j judged);
        };
      }

  -- it ends
  pub ends_over : (c d e : CapturedConnection) (r s u : CaptureJournal W) → e.is_over ≡ true → e.judged ≡ None → Ends c d r s
      → ((t : Terms) (port : ℕ) (segments : List Segment) (json : Bool) (old : SinkState) → Follows t port segments d → Keeps t port segments json old s → Keeps t port segments json old u) → Ends c e r u
  ends_over c d e r s u over none judges prints t port segments json old follows keeps =
      let h = judges t port segments json old follows keeps in
      record { keeps = prints t port segments json old h.follows h.keeps; follows = over_follows t port segments e over none }

  -- it takes a segment
  pub takes_next : (s : Segment) (c d e : CapturedConnection) (seen : Conversation) (r before between u : CaptureJournal W) → Takes c.seen s seen → IsStill r before → Ends (record c { seen = seen }) d before between
      → Ends d e between u → TakesNext s c e r u
  takes_next s c d e seen r before between u takes still judges ends t port segments json old awaits keeps =
      let more = keeps_still r before still t port (segments ++ s ∷ []) json old (keeps_more t port segments s json old r keeps) in
      let h = judges t port (segments ++ s ∷ []) json old (follows_taken t port segments s c seen takes awaits) more in
      ends t port (segments ++ s ∷ []) json old h.follows h.keeps

  -- it is over, and takes no more
  pub takes_late : (s : Segment) (c e : CapturedConnection) (r : CaptureJournal W) → c.is_over ≡ true → e.is_over ≡ c.is_over → e.judged ≡ c.judged → TakesNext s c e r r
  takes_late s c e r over same judged t port segments json old awaits keeps = record {
    keeps = keeps_more t port segments s json old r keeps;
    follows = record {
      open_ = λ _ open_. absurd (false≢true (sym open_ ∙ same ∙ over));
      given = subst (λ (o : Option Conclusion). IfSome o (λ j. IfSome j.verdict (IsGiven t port (segments ++ s ∷ [])))) (sym judged) (judged_given_more t port segments s c.judged awaits.given);
    };
  }

  -- another one takes its place, or none
  pub renews_new : (s : Segment) (port : ℕ) (c d e : CapturedConnection) (r u : CaptureJournal W) → Ends c d r u → e.seen ≡ begun port s → e.judged ≡ None → Renews s port c e r u
  renews_new s port c d e r u ends new none t segments json old between follows keeps =
      ((ends t port segments json old follows keeps).keeps, new_awaits t port segments s e new none)

  pub renews_not : (s : Segment) (port : ℕ) (c : CapturedConnection) (r : CaptureJournal W) → Renews s port c c r r
  renews_not s port c r t segments json old between follows keeps = (keeps, goes_awaits t port segments s c between follows)

-- ---- all of them

abbrev pub Boxed : Type 0
Boxed = Box CapturedConnection Global

abbrev pub IsOn : Terms → ℕ → List Segment → Boxed → Type 0
IsOn t port segments b = Follows t port segments b.value

pub here_is : (xs : List Boxed) (place : ℕ) (b : Boxed) → place < length xs → b ≡ get_or xs place b → slice_get xs place ≡ Some b
here_is xs place b within is = slice_get-get_or xs place b within ∙ ap (λ (x : Boxed). Some x) (sym is)

-- the one at a place
pub on_at : (t : Terms) (port : ℕ) (segments : List Segment) (xs : List Boxed) (place : ℕ) (b : Boxed) (c : CapturedConnection) → place < length xs → b ≡ get_or xs place b → c ≡ b.value → All (IsOn t port segments) xs
    → Follows t port segments c
on_at t port segments xs place b c within is value all =
    subst (Follows t port segments) (sym value) (subst (IsOn t port segments) (sym is) (All-get_or (IsOn t port segments) xs place b within all))

-- one is given up
pub on_removed : (t : Terms) (port : ℕ) (segments : List Segment) (xs ys : List Boxed) (place : ℕ) → ys ≡ remove xs place → All (IsOn t port segments) xs → All (IsOn t port segments) ys
on_removed t port segments xs ys place left all =
    subst (All (IsOn t port segments)) (sym left)
    (All-append (IsOn t port segments) (take place xs) (drop (suc place) xs) (All-take (IsOn t port segments) place xs all) (All-drop (IsOn t port segments) (suc place) xs all))

-- one more segment
pub on_more : (t : Terms) (port : ℕ) (segments : List Segment) (s : Segment) (xs : List Boxed) → All (IsOn t port segments) xs → All (IsOn t port (segments ++ s ∷ [])) xs
on_more t port segments s xs all = All-weaker (IsOn t port segments) (IsOn t port (segments ++ s ∷ [])) (λ b p. follows_more t port segments s b.value p) xs all

pub between_at : (s : Segment) (xs : List Boxed) (place : ℕ) (b : Boxed) (c : CapturedConnection) → place < length xs → b ≡ get_or xs place b → c ≡ b.value → IfSome (slice_get xs place) (λ x. IsBetween x.value.seen s) → IsBetween c.seen s
between_at s xs place b c within is value of =
    subst (λ (x : CapturedConnection). IsBetween x.seen s) (sym value) (subst (λ (o : Option Boxed). IfSome o (λ (x : Boxed). IsBetween x.value.seen s)) (here_is xs place b within is) of)

-- one is between the two ports
pub place_found : (s : Segment) (xs : List Boxed) (place : ℕ) (b : Boxed) → slice_get xs place ≡ Some b → IsBetween b.value.seen s → IfSome (slice_get xs place) (λ x. IsBetween x.value.seen s)
place_found s xs place b here of = subst (λ (o : Option Boxed). IfSome o (λ (x : Boxed). IsBetween x.value.seen s)) (sym here) of

-- one is added
pub on_added : (t : Terms) (port : ℕ) (segments : List Segment) (s : Segment) (xs ys : List Boxed) (b : Boxed) (c : CapturedConnection) → ys ≡ xs ++ b ∷ [] → b.value ≡ c → Follows t port (segments ++ s ∷ []) c
    → All (IsOn t port segments) xs → All (IsOn t port (segments ++ s ∷ [])) ys
on_added t port segments s xs ys b c items value follows all =
    subst (All (IsOn t port (segments ++ s ∷ []))) (sym items)
    (All-push (IsOn t port (segments ++ s ∷ [])) xs b (on_more t port segments s xs all) (subst (Follows t port (segments ++ s ∷ [])) (sym value) follows))

module _ {W : Type 0} where
  -- the port of port mappers is that which is remembered
  pub at_port : (s : Segment) (f e : CapturedConnections W) → ((t : Terms) (segments : List Segment) (json : Bool) (old : SinkState) → FollowsAll t f.mapper_port segments json old f
      → FollowsAll t f.mapper_port (segments ++ s ∷ []) json old e) → TakesInAll s f e
  at_port s f e by t port segments json old p =
      subst (λ (n : ℕ). FollowsAll t n (segments ++ s ∷ []) json old e) p.port_is (by t segments json old (subst (λ (n : ℕ). FollowsAll t n segments json old f) (sym p.port_is) p))
