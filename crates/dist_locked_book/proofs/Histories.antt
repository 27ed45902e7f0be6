-- Histories and lists of receipts that are one line longer.
use Rattle.std.proofs.Common.{◌≡◌, ℕ, ◌+◌, ◌<◌, ◌≤◌, true, false, MatchBool, List, [], ◌∷◌, ◌++◌, Ok, refl, sym, ap, ◌∙◌, subst, arith}
use Rattle.dist_core_ends.specs.Ends.{AreLegal}
use Rattle.dist_core_setup.specs.declared.setup.Setup.{Setup}
use Rattle.dist_core.specs.{Losses.is_loss, Node.NodeState, Runs.opening, Step.step, declared.event.Event.Event, declared.reply.Reply.Reply}
use Rattle.dist_locked_book.specs.{History.IsReplay, History.ends_in_loss, Opens.open_count, declared.line.Line.Line, declared.seat.Receipt.Receipt}

-- ---- one step

-- the setup stays
abbrev pub KeepsSetup : Type 0
KeepsSetup = (n : NodeState) (v : Event) (fresh : ℕ) (r : Reply) (m : NodeState) → step n v fresh ≡ Ok (r, m) → m.setup ≡ n.setup

-- at most one more end is open
abbrev pub OpensOne : Type 0
OpensOne = (n : NodeState) (v : Event) (fresh : ℕ) (r : Reply) (m : NodeState) → AreLegal n.ends → step n v fresh ≡ Ok (r, m) → open_count m ≤ open_count n + 1

-- a loss closes one end
abbrev pub ClosesOne : Type 0
ClosesOne = (n : NodeState) (v : Event) (fresh : ℕ) (r : Reply) (m : NodeState) → is_loss v ≡ true → step n v fresh ≡ Ok (r, m) → open_count m + 1 ≡ open_count n

-- ---- histories

pub IsReplay-push : (n : NodeState) (ls : List Line) (m : NodeState) (l : Line) (next : NodeState) → IsReplay n ls m → step m l.event l.fresh ≡ Ok (l.reply, next) → IsReplay n (ls ++ l ∷ []) next
IsReplay-push n [] m l next e h = (next, ap (λ k. step k l.event l.fresh) e ∙ h, refl)
IsReplay-push n (x ∷ xs) m l next r h = (r.0, r.1, IsReplay-push r.0 xs m l next r.2 h)

pub ends_in_loss-push : (rs : List Receipt) (r : Receipt) → ends_in_loss (rs ++ r ∷ []) ≡ is_loss r.line.event
ends_in_loss-push [] r = refl
ends_in_loss-push (x ∷ []) r = refl
ends_in_loss-push (x ∷ y ∷ ys) r = ends_in_loss-push (y ∷ ys) r

-- behind a receipt that is not of a loss there is room for one more
pub room_left : (rs kept : List Receipt) (r : Receipt) (n : ℕ) → kept ≡ rs ++ r ∷ [] → ends_in_loss kept ≡ false → MatchBool (is_loss r.line.event) (0 < n) (1 < n) → 1 < n
room_left rs kept r n is h room = subst (λ b. MatchBool b (0 < n) (1 < n)) (sym (ends_in_loss-push rs r) ∙ ap ends_in_loss (sym is) ∙ h) room

-- a legal history with one more line is legal
pub legal-push : KeepsSetup → (n : NodeState) (ls kept : List Line) (l : Line) (m : NodeState) → IsReplay (opening n.setup) ls n → step n l.event l.fresh ≡ Ok (l.reply, m) → kept ≡ ls ++ l ∷ [] → IsReplay (opening m.setup) kept m
legal-push keeps n ls kept l m legal e is =
    let P : Setup → Type 0 = λ s. IsReplay (opening s) kept m in
    let Q : List Line → Type 0 = λ k. IsReplay (opening n.setup) k m in
    subst P (sym (keeps n l.event l.fresh l.reply m e)) (subst Q (sym is) (IsReplay-push (opening n.setup) ls n l m legal e))

-- after a step there is room for its line, and then for one line for each open end
pub room-step : OpensOne → ClosesOne → (n : NodeState) (event : Event) (fresh : ℕ) (r : Reply) (m : NodeState) (len cap : ℕ) → AreLegal n.ends → step n event fresh ≡ Ok (r, m) → len + open_count n ≤ cap → (is_loss event ≡ false → len + open_count n + 2 ≤ cap) → len + 1 + open_count m ≤ cap
room-step opens closes n event fresh r m len cap legal e has more =
    elim (is_loss event) as (λ b. is_loss event ≡ b → (b ≡ false → len + open_count n + 2 ≤ cap) → len + 1 + open_count m ≤ cap) [
      | true ↦ λ is _. omega (arith, closes n event fresh r m is e)
      | false ↦ λ is room. omega (arith, room refl, opens n event fresh r m legal e)
    ] refl more
