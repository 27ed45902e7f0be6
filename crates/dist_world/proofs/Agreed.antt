-- What is returned of two nodes that each count the other as up is what they agree on.
use Rattle.std.proofs.Common.{OnOk, IfErr, ◌≢◌, ◌≡◌, ℕ, ◌<◌, List, length, take, Some, None, Ok, Err, Option, Result, sym, ap, ◌∙◌, subst}
use Rattle.dist_core_setup.specs.declared.setup.Setup.{Setup}
use Rattle.dist_world_model.specs.{Agreement.Agreement as NodesAgree, Agreement.AllFit, Agreement.Counts, Agreement.IsFooled, Agreement.IsReached, Agreement.IsUp, Run.run}
use Rattle.dist_world_model.specs.{Laws.AllLives, Laws.Decided, World.World, World.empty, declared.happening.Happening.Happening}
use Rattle.dist_world.specs.Ups.{FindsBoth, FindsAgreed, IsReported, agreement_on}
use Rattle.dist_world.specs.declared.{agreement.Agreement.Agreement, run.Stopped.Stopped}

pub finds_agreed : (w : World) (a b : ℕ) → NodesAgree w → (o : Option Agreement) → FindsBoth w a b o → FindsAgreed w a b o
finds_agreed w a b all None k = tt
finds_agreed w a b all (Some g) k =
    let m = k.1 in
    let both = all a b g.conn m.0 k.0 m.1 m.2 in
    (m.0, m.1, m.2, both, ap (λ (h : Agreement). h.common.0) m.3 ∙ both.at_a.flags, ap (λ (h : Agreement). h.creation_a) m.3 ∙ both.at_b.creation, ap (λ (h : Agreement). h.creation_b) m.3 ∙ both.at_a.creation)

-- ---- worlds that can be

pub reached_after : ((w : World) (hs : List Happening) → IsReached w → AllFit hs → IsReached (run hs w)) → (r : Result ℕ Stopped) (w v : World) (hs : List Happening) → IsReached w
    → OnOk r (v ≡ run hs w) → IfErr r (λ s. (s.done < length hs) × (v ≡ run (take s.done hs) w)) → OnOk r (AllFit hs) → IfErr r (λ s. AllFit (take s.done hs)) → IsReached v
reached_after law (Ok n) w v hs k after stopped fit so_far = subst IsReached (sym after) (law w hs k fit)
reached_after law (Err s) w v hs k after stopped fit so_far = subst IsReached (sym stopped.1) (law w (take s.done hs) k so_far)

pub decided_there : ((setups : List Setup) (hs : List Happening) → AllLives Decided (run hs (empty setups))) → (w : World) → IsReached w → AllLives Decided w
decided_there law w k = subst (AllLives Decided) (sym k.is) (law k.setups k.happenings)

pub notified_counted : (w : World) (a b : ℕ) (o : Option Agreement) → ((e f : ℕ) → (IsFooled w e f → ⊥) → (u : Counts w e f) → (c : ℕ) × (x : IsUp w e f c) × (x.kept ≡ u.kept))
    → ((c d : ℕ) (x : IsUp w a b c) (y : IsUp w b a d) → a ≢ b → o ≡ Some (agreement_on c x.kept y.kept)) → (x : Counts w a b) (y : Counts w b a) → a ≢ b → (IsFooled w a b → ⊥) → (IsFooled w b a → ⊥) → IsReported o x.kept y.kept
notified_counted w a b o linked only x y apart wise other_wise =
    let k = linked a b wise x in
    let m = linked b a other_wise y in
    (k.0, only k.0 m.0 k.1 m.1 apart ∙ (λ i. Some (agreement_on k.0 (k.2 i) (m.2 i))))
