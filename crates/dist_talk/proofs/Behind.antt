-- One frame, put together from its length, its tag and what stands behind them.
use Rattle.dist_epmd_calls.proofs.Words.{get_or, StreamState, TurnError, Hears-trans, ◌≡◌, ℕ, ◌+◌, ◌^◌, ◌<◌, List, [], ◌∷◌, ◌++◌, length, Ok, Err, sym, refl}
use Rattle.dist_epmd_calls.proofs.Words.{ap, ◌∙◌, inr, arith, w16, to_be_bytes}
use Rattle.dist_talk.specs.{Bodies.Fills, Bodies.HearsBehind, Bodies.HearsFrameOf, declared.bodies.Came.Came}
use Rattle.dist_talk.specs.declared.bodies.Came.TheVariants as came

-- one byte
pub only_byte : (room : List ℕ) → length room ≡ 1 → room ≡ get_or room 0 0 ∷ []
only_byte [] h = absurd (omega (arith, h))
only_byte (x ∷ []) h = refl
only_byte (x ∷ y ∷ ys) h = absurd (omega (arith, h))

-- ---- behind the length

pub cut_behind_tag : {old mid new : StreamState} {turns between left : ℕ} (len tag : ℕ) (tags front room : List ℕ) (fault : TurnError) (at : ℕ)
    → front ≡ tag ∷ [] → at < length room → length room + 1 ≡ len → Fills old mid turns between (Ok tt) front
    → Fills mid new between left (Err (fault, at)) room → HearsBehind old new turns left len tags (came.Stopped fault (at + 3))
cut_behind_tag len tag tags front room fault at one few size p q =
    let whole : length (p.heard ++ q.heard) ≡ length (tag ∷ q.heard) = ap (λ (l : List ℕ). length (l ++ q.heard)) (p.means.0 ∙ one) in
    let came_in : length q.heard ≡ at = q.means.1 in
    record { heard = p.heard ++ q.heard; hears = Hears-trans p.hears q.hears; means = (omega (arith, whole, came_in, few, size), omega (arith, whole, came_in)) }

-- ---- the whole frame

pub behind_length : {old mid new : StreamState} {turns between left : ℕ} (room : List ℕ) (len : ℕ) (tags : List ℕ) (c : Came) → to_be_bytes w16 len ≡ room → len < 2 ^ 16 → Fills old mid turns between (Ok tt) room → HearsBehind mid new between left len tags c → HearsFrameOf old new turns left tags c
behind_length room len tags (came.Body body) is fits p q =
    record {
      heard = p.heard ++ q.heard;
      hears = Hears-trans p.hears q.hears;
      means = (ap (λ (l : List ℕ). l ++ q.heard) (p.means.0 ∙ sym is ∙ ap (to_be_bytes w16) (sym q.means.1)) ∙ ap (λ (l : List ℕ). to_be_bytes w16 (length body) ++ l) q.means.0, inr q.means.2);
    }
behind_length room len tags (came.Front n) is fits p q =
    record {
      heard = p.heard ++ q.heard;
      hears = Hears-trans p.hears q.hears;
      means = (q.means.1.0, ap (λ (l : List ℕ). l ++ q.heard) (p.means.0 ∙ sym is ∙ ap (to_be_bytes w16) (sym q.means.0)) ∙ ap (λ (l : List ℕ). to_be_bytes w16 n ++ l) q.means.1.1, q.means.1.2);
    }
behind_length room len tags (came.Stopped fault count) is fits p q =
    let front : p.heard ++ q.heard ≡ to_be_bytes w16 len ++ q.heard = ap (λ (l : List ℕ). l ++ q.heard) (p.means.0 ∙ sym is) in
    let size : length (p.heard ++ q.heard) ≡ length (to_be_bytes w16 len ++ q.heard) = ap length front in
    let before : 2 + length q.heard ≡ count = q.means.1 in
    let many : length (p.heard ++ q.heard) ≡ count = omega arith in
    record {
      heard = p.heard ++ q.heard;
      hears = Hears-trans p.hears q.hears;
      means = (inr (len, q.heard, fits, front, q.means.0), many);
    }
behind_length room len tags came.NoMemory is fits p q = record { heard = p.heard ++ q.heard; hears = Hears-trans p.hears q.hears; means = tt }
