-- An end that is noted behind a handshake.
use Rattle.std.proofs.Common.{◌≡◌, ℕ, ◌⊎◌, Option, Some, None, refl, sym, ◌∙◌, inl, inr}
use Rattle.dist_stream.specs.Stream.{StreamState}
use Rattle.dist_talk.specs.{Handshake.or_first, Speaking.Spoke}
use Rattle.dist_talk.specs.declared.{handshake.Handshake.Handshake, handshake.HandshakeEnd.HandshakeEnd, own_side.OwnSide.OwnSide}
use Rattle.distping.specs.Coming.{GoesOnAs, IsSpoken}

-- the first end stays, or there was none
pub first_stays : (old new : Option HandshakeEnd) (e : HandshakeEnd) → new ≡ or_first old e → (new ≡ old) ⊎ (old ≡ None)
first_stays None new e h = inr refl
first_stays (Some first) new e h = inl h

-- nothing was noted
pub goes_on : (h : Handshake) → GoesOnAs h h
goes_on h = (refl, refl, refl, inl refl)

-- what is noted twice is noted once
goes_further : (a b c : Handshake) → GoesOnAs a b → GoesOnAs b c → GoesOnAs a c
goes_further a b c (d, n, m, e) (d2, n2, m2, e2) = (d2 ∙ d, n2 ∙ n, m2 ∙ m, ending e e2)
  where
    ending : (b.ending ≡ a.ending) ⊎ (a.ending ≡ None) → (c.ending ≡ b.ending) ⊎ (b.ending ≡ None) → (c.ending ≡ a.ending) ⊎ (a.ending ≡ None)
    ending (inr none) f = inr none
    ending (inl same) (inl on) = inl (on ∙ same)
    ending (inl same) (inr none) = inr (sym same ∙ none)

-- a handshake that was spoken, behind which an end was noted
pub spoken_on : (own : OwnSide) (turns : ℕ) (h k : Handshake) → IsSpoken own turns h → GoesOnAs h k → IsSpoken own turns k
spoken_on own turns h k s on = record { talk = s.talk; before = s.before; after = s.after; spoke = s.spoke; behind = goes_further s.talk h k s.behind on }

-- a handshake that was spoken, and no more
pub spoken_only : (own : OwnSide) (turns : ℕ) (h : Handshake) (old new : StreamState) → Spoke own h old new turns → IsSpoken own turns h
spoken_only own turns h old new spoke = record { talk = h; before = old; after = new; spoke = spoke; behind = goes_on h }
