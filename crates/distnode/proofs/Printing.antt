-- What is printed in parts.
use Rattle.std.proofs.Common.{◌≡◌, ◌∙◌, inl, inr, ℕ, zero, suc, ◌+◌, ◌<◌, Bool, true, false, ◌||◌, List, [], ◌∷◌, ◌++◌, codes, Option, Some, None, length, take, get_or, refl, sym, ap, subst, arith, append-nil, append_assoc, add-one}
use Rattle.std.proofs.{KnownBytes.Appends-nil, KnownBytes.Appends-trans, lemmas.Bool.cases_lt}
use Rattle.std.specs.{List.flat_map, Io.KnownBytes.Appends, Io.KnownBytes.Consumes, Io.KnownBytes.IsAtEnd}
use Rattle.dist_world_model.specs.World.{World}
use Rattle.dist_locked_book.specs.declared.closing.Closed.{Closed}
use Rattle.dist_audit.specs.{declared.audit_error.AuditError.AuditError, Audit.IsWorldOf, Audit.IsWorldAmong, Audit.Reports, Audit.ReportsFirst}
use Rattle.distnode.specs.declared.fault.Fault.{Fault}
use Rattle.distnode.specs.declared.fault.Fault.TheVariants as fault
use Rattle.distnode.specs.Fault.{status_of}
use Rattle.distnode.specs.RunPrinted.{order_line, orders_text, closed_node, closed_text, refusal_text, Puts, IsHeld, IsAudited, IsOfRun, PrintsRun, PrintsRunOf}
use Rattle.distnode.specs.RunPrinted.{strangers_line, fooled_end, IsAmong}
use Rattle.dist_run_plan.specs.{declared.plan.Plan.Plan, Plans.plan_of}
use Rattle.dist_run_hosts.specs.{Setups.AreOfPlans, Orders.AreObeyed, declared.order_fault.OrderFault.OrderFault, Runs.AreInOrder}
use Rattle.dist_script_play.specs.Worlds.{nodes_text, FoolsNobody, PutsAgreements, PutsFooled}
use Rattle.dist_script_play.proofs.Printing.{in_three}

-- nothing more
pub nothing : (a : Option (List ℕ)) → Appends a a []
nothing a = Appends-nil a

more : {X : Type 0} (line : X → List ℕ) (xs : List X) (i : ℕ) (d : X) → i < length xs → flat_map line (take (suc i) xs) ≡ flat_map line (take i xs) ++ line (get_or xs i d)
more line [] i d lt = absurd (omega arith)
more line (x ∷ xs) zero d lt = append-nil (line x)
more line (x ∷ xs) (suc i) d lt = ap (λ t. line x ++ t) (more line xs i d (omega arith)) ∙ sym (append_assoc (line x) (flat_map line (take i xs)) (line (get_or xs i d)))

line_more : {X : Type 0} (line : X → List ℕ) (a b c : Option (List ℕ)) (xs : List X) (i : ℕ) (d : X) → i < length xs → Appends a b (flat_map line (take i xs)) → Appends b c (line (get_or xs i d)) → Appends a c (flat_map line (take (i + 1) xs))
line_more line a b c xs i d lt p q = rw (add-one i, more line xs i d lt) (Appends-trans a b c _ _ p q)

-- one order more
pub order_more : (a b c : Option (List ℕ)) (fs : List OrderFault) (i : ℕ) (d : OrderFault) → i < length fs → Appends a b (orders_text (take i fs)) → Appends b c (order_line (get_or fs i d)) → Appends a c (orders_text (take (i + 1) fs))
order_more = line_more order_line

-- one node more
pub closed_more : (a b c : Option (List ℕ)) (cs : List Closed) (i : ℕ) (d : Closed) → i < length cs → Appends a b (closed_text (take i cs)) → Appends b c (closed_node (get_or cs i d)) → Appends a c (closed_text (take (i + 1) cs))
closed_more = line_more closed_node

-- ---- the whole

-- the world, its agreements, and that the audit holds
pub held : (w : World) (a b c d : Option (List ℕ)) → Appends a b (nodes_text w) → PutsAgreements w b c → Appends c d (codes "audit holds\n") → Puts (IsHeld w) a d
held w a b c d p q r = (nodes_text w ++ q.0 ++ codes "audit holds\n", (q.0, q.1, refl), in_three a b c d (nodes_text w) q.0 (codes "audit holds\n") p q.2 r)

-- where the audit holds
pub says_held : (cs : List Closed) (w : World) (a b : Option (List ℕ)) → IsWorldOf cs w → Puts (IsHeld w) a b → Puts (IsAudited None cs) a b
says_held cs w a b is p = (p.0, inl (w, is, p.1), p.2)

-- where it refuses
pub says_refused : (cs : List Closed) (e : AuditError) (a b : Option (List ℕ)) → Reports e true cs → ReportsFirst e true cs → Appends a b (refusal_text e cs) → Puts (IsAudited (Some (fault.AuditRefused e)) cs) a b
says_refused cs e a b reports first p = (refusal_text e cs, (reports, first, refl), p)

-- ---- others

-- the world, and what is printed of others
pub among : (w : World) (count : ℕ) (any : Bool) (a b c d e : Option (List ℕ)) → Puts (IsHeld w) a b → Appends b c (strangers_line count) → PutsFooled w any c d → Appends d e (fooled_end any) → Puts (IsAmong w count any) a e
among w count any a b c d e p q r s =
    let line = strangers_line count in (
      p.0 ++ line ++ r.0 ++ fooled_end any,
      (p.0, r.0, p.1, r.1, refl),
      Appends-trans a d e (p.0 ++ line ++ r.0) (fooled_end any) (in_three a b c d p.0 line r.0 p.2 q r.2) s,
    )

-- where the audit holds among others, and nobody is fooled, and where a node is
pub says_among : (cs : List Closed) (w : World) (count : ℕ) (a b : Option (List ℕ)) → IsWorldAmong cs w count → FoolsNobody w → Puts (IsAmong w count false) a b
    → Puts (IsAudited None cs) a b
says_among cs w count a b is nobody p = (p.0, inr (w, count, is, nobody, p.1), p.2)

pub says_fooled : (cs : List Closed) (w : World) (count : ℕ) (a b : Option (List ℕ)) → IsWorldAmong cs w count → Puts (IsAmong w count true) a b → Puts (IsAudited (Some fault.Fooled) cs) a b
says_fooled cs w count a b is p = (p.0, (w, count, is, p.1), p.2)

-- the orders, and then what is printed
pub of_run : (refusal : Option Fault) (fs gs : List OrderFault) (cs ds : List Closed) (a b c : Option (List ℕ)) → gs ≡ fs → ds ≡ cs → Appends a b (orders_text gs) → Puts (IsAudited refusal ds) b c → Puts (IsOfRun refusal fs cs) a c
of_run refusal fs gs cs ds a b c e d p q = (orders_text fs ++ q.0, (q.0, subst (λ x. IsAudited refusal x q.0) d q.1, refl), Appends-trans a b c (orders_text fs) q.0 (subst (λ x. Appends a b (orders_text x)) e p) q.2)

-- the text of a nodes file, run
pub of_text : (file : List ℕ) (plan : Plan) (faults : List OrderFault) (closed : List Closed) (refusal : Option Fault) (a b : Option (List ℕ)) → plan_of file ≡ Some plan → AreOfPlans plan.node closed → AreInOrder faults → AreObeyed plan faults closed → Puts (IsOfRun refusal faults closed) a b → PrintsRun file refusal a b
of_text file plan faults closed refusal a b says nodes order orders put = record { plan = plan; faults = faults; closed = closed; says = says; nodes = nodes; order = order; orders = orders; text = put }

-- a nodes file that was read to its end, run
pub of_file : (before after : Option (List ℕ)) (file text : List ℕ) (refusal : Option Fault) (a b : Option (List ℕ)) → text ≡ file → Consumes before after file → IsAtEnd after → PrintsRun text refusal a b → PrintsRunOf before after refusal a b
of_file before after file text refusal a b same taken end prints = (file, taken, end, subst (λ t. PrintsRun t refusal a b) same prints)

-- no fault ends with status 0
pub never_zero : (f : Fault) → status_of f ≡ 0 → ⊥
never_zero fault.BadCommandLine e = cc
never_zero other e = cc
