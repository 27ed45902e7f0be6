-- A node stays within its limits.
use Rattle.std.specs.FinMap as map
use Rattle.dist_core_setup.specs.{Limits.usual_limits, declared.limits.Limits.Limits}
use Rattle.dist_core.specs.declared.{effect.Effect.Effect, event.Event.Event}
use Rattle.dist_core.proofs.{Numbers.counted, Rows.row-in}
use Rattle.dist_core.proofs.Words.{len-empty, agree-empty, table-agreed, ◌≡◌, ℕ, ◌+◌, ◌≤◌, true, false, ◌||◌, List, [], length, Ok, count_by, sym, refl, ap}
use Rattle.dist_core.proofs.Words.{◌∙◌, subst, arith, nat_tests, name_cmp, Entry, AreLegal, is_open, table_of, Setup, NodeState, is_crowded, is_given_out}
use Rattle.dist_core.proofs.Words.{is_spent, limits_of, node_after, opening, run, Begins, Ceases, Comes_in, Dials, Fails, Hears, Loses, StepRow, Ticks, after}
use Rattle.dist_core.proofs.Words.{effect_of, step}
use Rattle.dist_core_laws.specs.Laws.{IsWithinLimits, given_by}
use Rattle.dist_core_laws.proofs.{Constant.after-run, Constant.after-step, EntryCounts.entries_after, Legal.legal_opening, Legal.legal_step}
use Rattle.dist_core_laws.proofs.OpenCounts.{open_change}

-- a number is left while a step is left
number-left : (n : NodeState) → limits_of n ≡ usual_limits → length n.ends ≤ n.steps → is_spent n ≡ false → is_given_out n ≡ false
number-left n usual few left =
    let steps : (let l = limits_of n in l.steps) ≡ 1048576 = ap (λ (l : Limits). l.steps) usual in
    let given : (let l = limits_of n in l.ends) ≡ 1048576 = ap (λ (l : Limits). l.ends) usual in
    grind (arith, nat_tests, steps, given, few, left)

pub usual_numbers : (n : NodeState) → limits_of n ≡ usual_limits → length n.ends ≤ n.steps → (is_spent n || is_given_out n) ≡ is_spent n
usual_numbers n usual few =
    elim (is_spent n) as (λ b. is_spent n ≡ b → (b || is_given_out n) ≡ b) [
      | true ↦ λ b. refl
      | false ↦ λ b. number-left n usual few b
    ] refl

module _ (n : NodeState) where
  -- there is room for the ends that an event gives out
  abbrev Fits : Event → Type 0
  Fits v = count_by is_open n.ends + given_by v ≤ (let l = limits_of n in l.open_ends)

  uncrowded : is_crowded n ≡ false → count_by is_open n.ends + 1 ≤ (let l = limits_of n in l.open_ends)
  uncrowded h = grind (arith, nat_tests, h)

  finds-room : (v : Event) (fresh : ℕ) (f : Effect) → count_by is_open n.ends ≤ (let l = limits_of n in l.open_ends) → StepRow n v fresh f → Fits v
  finds-room v fresh f h (Dials p o is idle sp full cr k) = subst Fits (sym is) (uncrowded cr)
  finds-room v fresh f h (Comes_in link is sp cr k) = subst Fits (sym is) (uncrowded cr)
  finds-room v fresh f h (Begins id link b is at ph sp k) = subst Fits (sym is) (omega (arith, h))
  finds-room v fresh f h (Ceases id link b is at ph sp k) = subst Fits (sym is) (omega (arith, h))
  finds-room v fresh f h (Loses id w e is at opened k) = subst Fits (sym is) (omega (arith, h))
  finds-room v fresh f h (Ticks id r is at sp k) = subst Fits (sym is) (omega (arith, h))
  finds-room v fresh f h (Fails id body e side y is at to sp says k) = subst Fits (sym is) (omega (arith, h))
  finds-room v fresh f h (Hears id body e side m is at to sp says d) = subst Fits (sym is) (omega (arith, h))

  within-after : (v : Event) (fresh : ℕ) (f : Effect) → AreLegal n.ends → IsWithinLimits n → effect_of n v fresh ≡ Ok f → IsWithinLimits (after n v f)
  within-after v fresh f legal h is =
      let kept = counted n v fresh f is h.steps h.given_out in
      let room : Fits v = finds-room v fresh f h.open_ends (row-in n v fresh f is) in
      record { steps = kept.0; given_out = kept.2; open_ends = omega (arith, room, open_change n legal v fresh f is); entries = entries_after n v fresh f legal h.entries is }

pub within_step : (n : NodeState) (v : Event) (fresh : ℕ) → AreLegal n.ends → IsWithinLimits n → IsWithinLimits (node_after n (step n v fresh))
within_step n v fresh legal h = after-step IsWithinLimits n v fresh h (λ f e. within-after n v fresh f legal h e)

pub no-entries : map.len (table_of []) ≡ 0
no-entries = ap map.len (sym (table-agreed map.empty [] (agree-empty map.empty [] refl refl))) ∙ len-empty name_cmp Entry

pub within_first : (s : Setup) → IsWithinLimits (opening s)
within_first s = record { steps = omega arith; given_out = omega arith; open_ends = omega arith; entries = omega (arith, no-entries) }

pub within_runs : (s : Setup) (xs : List (Event × ℕ)) → IsWithinLimits (run xs (opening s))
within_runs s xs =
    let h = after-run (λ m. AreLegal m.ends × IsWithinLimits m) (λ m v fresh h. (legal_step m v fresh h.0, within_step m v fresh h.0 h.1)) xs (opening s) (legal_opening s, within_first s) in
    h.1
