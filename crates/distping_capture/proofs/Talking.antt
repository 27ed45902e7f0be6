-- A conversation of a capture takes a segment.
use Rattle.std.proofs.Common.{◌≡◌, ◌⊎◌, inl, inr, ℕ, Bool, true, false, cond, List, [], ◌∷◌, ◌++◌, Option, Some, None, IfSome, refl, sym, ap, subst}
use Rattle.std.proofs.lemmas.{Fn.FoldsTo-push, List.Elements.All-nil, List.Elements.All-push, List.Elements.All-weaker}
use Rattle.dist_capture.specs.declared.segment.Segment.{Segment}
use Rattle.dist_talk.specs.declared.{terms.Terms.Terms, verdict.HandshakeVerdict.HandshakeVerdict}
use Rattle.dist_conversation.specs.Conversations.{Goes, IsBetween, Takes, begun, is_from_dialler}
use Rattle.dist_conversation.specs.declared.{carried.Conclusion.Conclusion, conversation.Conversation.Conversation}
use Rattle.dist_conversation.proofs.Ports.{between_taken}
use Rattle.distping_capture.specs.Captures.{IsGiven, IsJudged, IsOf, IsOfOrNew, IsPart, Leaves, NoPart, Shares}

-- ---- some of the segments

pub part_none : (all : List Segment) → IsPart [] all
part_none [] = NoPart
part_none (s ∷ all) = Leaves [] all s (part_none all)

pub part_more : (part all : List Segment) (next : Segment) → IsPart part all → IsPart part (all ++ next ∷ [])
part_more part all next NoPart = Leaves [] [] next NoPart
part_more part all next (Shares p a s q) = Shares p (a ++ next ∷ []) s (part_more p a next q)
part_more part all next (Leaves p a s q) = Leaves p (a ++ next ∷ []) s (part_more p a next q)

pub part_push : (part all : List Segment) (next : Segment) → IsPart part all → IsPart (part ++ next ∷ []) (all ++ next ∷ [])
part_push part all next NoPart = Shares [] [] next NoPart
part_push part all next (Shares p a s q) = Shares (p ++ next ∷ []) (a ++ next ∷ []) s (part_push p a next q)
part_push part all next (Leaves p a s q) = Leaves (p ++ next ∷ []) (a ++ next ∷ []) s (part_push p a next q)

-- ---- the two ports

new_by : (b : Bool) (s : Segment) → Goes (cond b s.from s.to) (cond b s.to s.from) s ⊎ Goes (cond b s.to s.from) (cond b s.from s.to) s
new_by true s = inl (refl, refl)
new_by false s = inr (refl, refl)

-- a conversation is between the ports of the segment that begins it
pub new_between : (port : ℕ) (s : Segment) (c : Conversation) → c ≡ begun port s → IsBetween c s
new_between port s c is = subst (λ (x : Conversation). IsBetween x s) (sym is) (new_by (is_from_dialler port s) s)

-- ---- a segment is taken

pub of_taken : (port : ℕ) (segments : List Segment) (s : Segment) (c e : Conversation) → IsBetween c s → Takes c s e → IsOfOrNew port segments s c → IsOf port (segments ++ s ∷ []) e
of_taken port segments s c e between takes (inl p) = record {
  talk = p.talk ++ s ∷ [];
  part = part_push p.talk segments s p.part;
  between = All-push (IsBetween e) p.talk s (All-weaker (IsBetween c) (IsBetween e) (λ x q. between_taken c s e x takes q) p.talk p.between) (between_taken c s e s takes between);
  is = (p.is.0, p.is.1 ++ s ∷ [], ap (λ (l : List Segment). l ++ s ∷ []) p.is.2, FoldsTo-push (λ (a : Conversation) (x : Segment) (b : Conversation). Takes a x b) (begun port p.is.0) p.talk c s e p.is.3 takes);
}
of_taken port segments s c e between takes (inr new) = record {
  talk = s ∷ [];
  part = part_push [] segments s (part_none segments);
  between = All-push (IsBetween e) [] s (All-nil (IsBetween e)) (between_taken c s e s takes between);
  is = (s, [], refl, FoldsTo-push (λ (a : Conversation) (x : Segment) (b : Conversation). Takes a x b) (begun port s) [] c s e (sym new) takes);
}

-- ---- the same of more segments

pub of_more : (port : ℕ) (segments : List Segment) (s : Segment) (c : Conversation) → IsOf port segments c → IsOf port (segments ++ s ∷ []) c
of_more port segments s c p = record { talk = p.talk; part = part_more p.talk segments s p.part; between = p.between; is = p.is }

pub judged_more : (t : Terms) (port : ℕ) (segments : List Segment) (s : Segment) (c : Conversation) (now : ℕ) (j : Conclusion) → IsJudged t port segments c now j → IsJudged t port (segments ++ s ∷ []) c now j
judged_more t port segments s c now j p = record { of = of_more port segments s c p.of; carried = p.carried; verdict = p.verdict }

pub given_more : (t : Terms) (port : ℕ) (segments : List Segment) (s : Segment) (v : HandshakeVerdict) → IsGiven t port segments v → IsGiven t port (segments ++ s ∷ []) v
given_more t port segments s v p = record { seen = p.seen; now = p.now; judged = p.judged; is = judged_more t port segments s p.seen p.now p.judged p.is; verdict = p.verdict }

some_more : (t : Terms) (port : ℕ) (segments : List Segment) (s : Segment) (o : Option HandshakeVerdict) → IfSome o (IsGiven t port segments) → IfSome o (IsGiven t port (segments ++ s ∷ []))
some_more t port segments s None p = tt
some_more t port segments s (Some v) p = given_more t port segments s v p

pub judged_given_more : (t : Terms) (port : ℕ) (segments : List Segment) (s : Segment) (o : Option Conclusion) → IfSome o (λ j. IfSome j.verdict (IsGiven t port segments))
    → IfSome o (λ j. IfSome j.verdict (IsGiven t port (segments ++ s ∷ [])))
judged_given_more t port segments s None p = tt
judged_given_more t port segments s (Some j) p = some_more t port segments s j.verdict p

pub given_of : (t : Terms) (port : ℕ) (segments : List Segment) (c : Conversation) (now : ℕ) (j : Conclusion) → IsJudged t port segments c now j → IfSome j.verdict (IsGiven t port segments)
given_of t port segments c now j p = by j.verdict refl where
  by : (o : Option HandshakeVerdict) → j.verdict ≡ o → IfSome o (IsGiven t port segments)
  by None e = tt
  by (Some v) e = record { seen = c; now = now; judged = j; is = p; verdict = e }
