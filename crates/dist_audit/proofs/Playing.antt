-- A whole play.
use Rattle.dist_audit.proofs.Words.{◌≡◌, Bool, false, List, [], length, IsTrue, None, sym, ap, ◌∙◌, subst, inr, run, World, empty, run-append, Closed, AllApply}
use Rattle.dist_audit.proofs.Words.{AreFollowed, AreOfOneWorld, AreRefused, AreTold, HasTables, PlayUpTo, world_before_lines, world_of, fault_of, nodes_unpaired}
use Rattle.dist_audit.proofs.Words.{begins, of_lines, setups_of, NodeLine}
use Rattle.dist_audit.proofs.{Beginning.all-begin, Faultless.few-nodes, Faultless.paired, Homing.all-come-home, Marking.told-known, Walking.all-apply}
use Rattle.dist_audit.proofs.{Quiet.FramesAlone, Quiet.all-take-theirs, Unchanged.KeepsSetups, Unchanged.own-digests, Unchanged.own-setups}
use Rattle.dist_audit.specs.declared.audit_error.AuditError.TheVariants as error

-- all nodes begin in the opening world
pub has-begun : (cs : List Closed) (first : World) → first ≡ empty (setups_of cs) → nodes_unpaired cs ≡ false → AllApply (begins 0 first.setups) first
has-begun cs first opening none = subst (λ (w : World). AllApply (begins 0 w.setups) w) (sym opening) (all-begin (setups_of cs) (few-nodes cs none))

module _ (cs : List Closed) (first second last : World) (lines : List NodeLine) (opening : first ≡ empty (setups_of cs)) (began : second ≡ run (begins 0 first.setups) first) where
  -- the world once all nodes began
  has_begun : second ≡ world_before_lines cs
  has_begun = began ∙ ap (λ (w : World). run (begins 0 w.setups) w) opening

  pub followed-all : AreFollowed lines (length cs) [] second lines → AreFollowed lines (length cs) [] (world_before_lines cs) lines
  followed-all f = subst (λ (w : World). AreFollowed lines (length cs) [] w lines) has_begun f

  pub is_played : last ≡ run (of_lines lines (length cs) [] lines) second → last ≡ world_of cs lines
  is_played played =
      played ∙ (ap (λ (w : World). run (of_lines lines (length cs) [] lines) w) has_begun
      ∙ sym (run-append (begins 0 (setups_of cs)) (of_lines lines (length cs) [] lines) (empty (setups_of cs))))

  pub is_one : last ≡ run (of_lines lines (length cs) [] lines) second → AreFollowed lines (length cs) [] second lines → HasTables last cs → AreOfOneWorld cs lines
  is_one played f t = record {
    followed = followed-all f;
    tables = subst (λ (w : World). HasTables w cs) (is_played played) t;
  }

  pub is_other : last ≡ run (of_lines lines (length cs) [] lines) second → (HasTables last cs → IsTrue false) → AreOfOneWorld cs lines → ⊥
  is_other played unlike one = let e : IsTrue false = unlike (subst (λ (w : World). HasTables w cs) (sym (is_played played)) one.tables) in cc

  -- all lines are followed, and the tables differ
  pub other-tables : last ≡ run (of_lines lines (length cs) [] lines) second → AreFollowed lines (length cs) [] second lines → (HasTables last cs → IsTrue false) → AreRefused error.OtherReply cs lines
  other-tables played f unlike = inr (followed-all f, λ tables. let e : IsTrue false = unlike (subst (λ (w : World). HasTables w cs) (sym (is_played played)) tables) in cc)

-- the lines were played in the order of their tickets, and the histories have no fault
pub plays-up : FramesAlone → KeepsSetups → (others : Bool) (cs : List Closed) (w : World) (ts : List NodeLine) → fault_of others cs ≡ None → AreTold others cs ts → w ≡ world_of cs ts → AreOfOneWorld cs ts → PlayUpTo others cs w ts
plays-up alone keeps others cs w ts none told is one =
    let pairs = paired others cs none in
    record {
      lines = told;
      world = is;
      applied = all-apply cs ts (all-begin (setups_of cs) (few-nodes cs pairs.0)) one;
      one_world = one;
      links = all-come-home cs ts (told-known others cs ts told pairs.1) one;
      bodies = all-take-theirs alone cs ts one;
      setups = own-setups keeps cs ts w is;
      digests = own-digests keeps cs ts w is;
    }
