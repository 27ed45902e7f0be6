-- What is due on a link, by what was read and written.
use Rattle.std.proofs.Common.{◌≡◌, ◌≢◌, ℕ, ◌+◌, ◌-◌, ◌*◌, ◌<◌, ◌≤◌, Bool, true, false, List, [], ◌∷◌, ◌++◌, refl, sym, ap, subst, ◌∙◌, arith, leb, cond, min}
use Rattle.std.proofs.Common.{max}
use Rattle.std.proofs.lemmas.{Bool.false≢true, Bool.Decides.nat_tests}
use Rattle.std.specs.List.{AllByRecursion}
use Rattle.dist_frames.specs.Ticking.{Ticking, Act, Heard, Said, after_one, after_acts, due_at, WasHeardBefore, WasSaidBefore}
use Rattle.dist_frames.specs.declared.ticker.Due.{Due}
use Rattle.dist_frames.specs.declared.ticker.Due.TheVariants as due

-- ---- what the acts leave

-- what each of these acts keeps, all of them keep
kept : (P : Ticking → Type 0) (Q : Act → Type 0) → ((act : Act) (t : Ticking) → Q act → P t → P (after_one act t)) → (acts : List Act) (t : Ticking) → AllByRecursion Q acts → P t → P (after_acts acts t)
kept P Q step [] t all h = h
kept P Q step (act ∷ acts) t all h = kept P Q step acts (after_one act t) all.1 (step act t all.0 h)

abbrev Any : Act → Type 0
Any act = Unit {0}

any : (acts : List Act) → AllByRecursion Any acts
any [] = tt
any (act ∷ acts) = (tt, any acts)

in_turn : (early late : List Act) (t : Ticking) → after_acts (early ++ late) t ≡ after_acts late (after_acts early t)
in_turn [] late t = refl
in_turn (act ∷ early) late t = in_turn early late (after_one act t)

-- the quarter stays, and what is said of one of the two times, where the times of these acts keep it
heard_kept : (quarter : ℕ) (R : ℕ → Type 0) (Q : Act → Type 0) → ((n a : ℕ) → Q (Heard n) → R a → R (max a n)) → (act : Act) (t : Ticking) → Q act → (t.quarter ≡ quarter) × R t.heard → (let u = after_one act t in (u.quarter ≡ quarter) × R u.heard)
heard_kept quarter R Q later (Heard n) t w h = (h.0, later n t.heard w h.1)
heard_kept quarter R Q later (Said n) t w h = h

said_kept : (quarter : ℕ) (R : ℕ → Type 0) (Q : Act → Type 0) → ((n a : ℕ) → Q (Said n) → R a → R (max a n)) → (act : Act) (t : Ticking) → Q act → (t.quarter ≡ quarter) × R t.said → (let u = after_one act t in (u.quarter ≡ quarter) × R u.said)
said_kept quarter R Q later (Heard n) t w h = h
said_kept quarter R Q later (Said n) t w h = (h.0, later n t.said w h.1)

quarter_kept : (acts : List Act) (t : Ticking) → (let u = after_acts acts t in u.quarter) ≡ t.quarter
quarter_kept [] t = refl
quarter_kept (Heard n ∷ acts) t = quarter_kept acts (after_one (Heard n) t)
quarter_kept (Said n ∷ acts) t = quarter_kept acts (after_one (Said n) t)

-- ---- what is due then

abbrev due_by : Bool → Bool → ℕ → Due
due_by silent quiet wait = cond silent due.GiveUp (cond quiet due.Tick (due.Nothing wait))

-- what is due says which tests hold
abbrev Says : Bool → Bool → ℕ → Due → Type 0
Says silent quiet wait due.GiveUp = silent ≡ true
Says silent quiet wait due.Tick = quiet ≡ true
Says silent quiet wait (due.Nothing left) = (silent ≡ false) × (quiet ≡ false) × (wait ≡ left)

said_by : (silent quiet : Bool) (wait : ℕ) → Says silent quiet wait (due_by silent quiet wait)
said_by true quiet wait = refl
said_by false true wait = refl
said_by false false wait = (refl, refl, refl)

says : (silent quiet : Bool) (wait : ℕ) (d : Due) → due_by silent quiet wait ≡ d → Says silent quiet wait d
says silent quiet wait d e = subst (Says silent quiet wait) e (said_by silent quiet wait)

pub heard-in-time : (t : Ticking) (early late : List Act) (m now : ℕ) → 0 < t.quarter → now < m + 4 * t.quarter → due_at now (after_acts (early ++ Heard m ∷ late) t) ≢ due.GiveUp
heard-in-time t early late m now some soon e =
    let u = after_acts (early ++ Heard m ∷ late) t in
    let first = after_acts early t in
    let h = kept (λ v. (v.quarter ≡ t.quarter) × (m ≤ v.heard)) Any (heard_kept t.quarter (λ a. m ≤ a) Any (λ n a w le. omega (arith, le))) late (after_one (Heard m) first) (any late) (quarter_kept early t, omega arith) in
    let h' = subst (λ v. (v.quarter ≡ t.quarter) × (m ≤ v.heard)) (sym (in_turn early (Heard m ∷ late) t)) h in
    let q : u.quarter ≡ t.quarter = h'.0 in
    let l : m ≤ u.heard = h'.1 in
    let not-silent : leb (4 * u.quarter) (now - u.heard) ≡ false = grind (arith, nat_tests) in
    false≢true (sym not-silent ∙ says _ (leb u.quarter (now - u.said)) _ due.GiveUp e)

pub said-in-time : (t : Ticking) (early late : List Act) (m now : ℕ) → 0 < t.quarter → now < m + t.quarter → due_at now (after_acts (early ++ Said m ∷ late) t) ≢ due.Tick
said-in-time t early late m now some soon e =
    let u = after_acts (early ++ Said m ∷ late) t in
    let first = after_acts early t in
    let h = kept (λ v. (v.quarter ≡ t.quarter) × (m ≤ v.said)) Any (said_kept t.quarter (λ a. m ≤ a) Any (λ n a w le. omega (arith, le))) late (after_one (Said m) first) (any late) (quarter_kept early t, omega arith) in
    let h' = subst (λ v. (v.quarter ≡ t.quarter) × (m ≤ v.said)) (sym (in_turn early (Said m ∷ late) t)) h in
    let q : u.quarter ≡ t.quarter = h'.0 in
    let l : m ≤ u.said = h'.1 in
    let not-quiet : leb u.quarter (now - u.said) ≡ false = grind (arith, nat_tests) in
    false≢true (sym not-quiet ∙ says (leb (4 * u.quarter) (now - u.heard)) _ _ due.Tick e)

pub silent-given-up : (t : Ticking) (acts : List Act) (now : ℕ) → t.heard + 4 * t.quarter ≤ now → AllByRecursion (WasHeardBefore (4 * t.quarter) now) acts → due_at now (after_acts acts t) ≡ due.GiveUp
silent-given-up t acts now late all =
    let u = after_acts acts t in
    let h = kept (λ v. (v.quarter ≡ t.quarter) × (v.heard + 4 * t.quarter ≤ now)) (WasHeardBefore (4 * t.quarter) now) (heard_kept t.quarter (λ a. a + 4 * t.quarter ≤ now) (WasHeardBefore (4 * t.quarter) now) (λ n a w le. omega (arith, w, le))) acts t all (refl, late) in
    let q : u.quarter ≡ t.quarter = h.0 in
    let l : u.heard + 4 * t.quarter ≤ now = h.1 in
    let silent : leb (4 * u.quarter) (now - u.heard) ≡ true = grind (arith, nat_tests) in
    ap (λ b. due_by b (leb u.quarter (now - u.said)) (min (4 * u.quarter - (now - u.heard)) (u.quarter - (now - u.said)))) silent

pub quiet-ticks : (t : Ticking) (acts : List Act) (now wait : ℕ) → t.said + t.quarter ≤ now → AllByRecursion (WasSaidBefore t.quarter now) acts → due_at now (after_acts acts t) ≢ due.Nothing wait
quiet-ticks t acts now wait late all e =
    let u = after_acts acts t in
    let h = kept (λ v. (v.quarter ≡ t.quarter) × (v.said + t.quarter ≤ now)) (WasSaidBefore t.quarter now) (said_kept t.quarter (λ a. a + t.quarter ≤ now) (WasSaidBefore t.quarter now) (λ n a w le. omega (arith, w, le))) acts t all (refl, late) in
    let q : u.quarter ≡ t.quarter = h.0 in
    let l : u.said + t.quarter ≤ now = h.1 in
    let quiet : leb u.quarter (now - u.said) ≡ true = grind (arith, nat_tests) in
    false≢true (sym (says (leb (4 * u.quarter) (now - u.heard)) _ _ (due.Nothing wait) e).1 ∙ quiet)

-- ---- what a caller may wait for

rested : (silent quiet : Bool) (most : ℕ) → silent ≡ false → quiet ≡ false → (left : ℕ) × (due_by silent quiet most ≡ due.Nothing left)
rested silent quiet most x y = (most, rw (x, y) refl)

pub rests-before : (t : Ticking) (now wait more : ℕ) → t.heard ≤ now → t.said ≤ now → due_at now t ≡ due.Nothing wait → more < wait → (left : ℕ) × (due_at (now + more) t ≡ due.Nothing left)
rests-before t now wait more h s is soon =
    let r = says (leb (4 * t.quarter) (now - t.heard)) (leb t.quarter (now - t.said)) _ (due.Nothing wait) is in
    let a = r.0 in let b = r.1 in let w : min (4 * t.quarter - (now - t.heard)) (t.quarter - (now - t.said)) ≡ wait = r.2 in
    let x : leb (4 * t.quarter) (now + more - t.heard) ≡ false = grind (arith, nat_tests) in
    let y : leb t.quarter (now + more - t.said) ≡ false = grind (arith, nat_tests) in
    rested (leb (4 * t.quarter) (now + more - t.heard)) (leb t.quarter (now + more - t.said)) _ x y

pub wakes-then : (t : Ticking) (now wait left : ℕ) → t.heard ≤ now → t.said ≤ now → due_at now t ≡ due.Nothing wait → due_at (now + wait) t ≢ due.Nothing left
wakes-then t now wait left h s is e =
    let r = says (leb (4 * t.quarter) (now - t.heard)) (leb t.quarter (now - t.said)) _ (due.Nothing wait) is in
    let a = r.0 in let b = r.1 in let w : min (4 * t.quarter - (now - t.heard)) (t.quarter - (now - t.said)) ≡ wait = r.2 in
    let then = says (leb (4 * t.quarter) (now + wait - t.heard)) (leb t.quarter (now + wait - t.said)) _ (due.Nothing left) e in
    let x = then.0 in let y = then.1 in
    grind (arith, nat_tests)
