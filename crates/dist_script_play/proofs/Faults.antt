-- The faults that stop the playing of a script.
use Rattle.dist_script_play.proofs.Words.{◌≡◌, ℕ, ◌+◌, ◌≤◌, true, false, cond, ◌⊎◌, List, [], ◌∷◌, length, IfErr, OnOk, Some, None, Ok, Err, Option, Result}
use Rattle.dist_script_play.proofs.Words.{sym, refl, ap, ◌∙◌, subst, inl, inr, ⊎_elim, arith, lt-ltb, Keeps-refl, StartsWith, Consumes, IsAtEnd, Setup, World}
use Rattle.dist_script_play.proofs.Words.{empty, Happening, names_repeat, Happenings, PutsFront, lines_of, ScriptFault, NoMemory, SameName, TooLong}
use Rattle.dist_script_play.proofs.Words.{WriteFailed, BreaksOff, IsOfSystem, IsFront, IsPrinted, IsPrintedFrom, fault_said, happenings_text, steps_text}
use Rattle.dist_script_play.proofs.Words.{BreaksOne, IsBad, IsCut, PutsOneOn, PutsOnePart, Stops, StopsWorld}
use Rattle.dist_script_play.proofs.{Lines.not_long, Worlds.breaks_world}
use Rattle.dist_script.specs.Fault.{status_of, fault_line, StopsReading}
use Rattle.dist_script.specs.Scripts.{SoFar, nothing, with_line, unless_bad, with_lines, whole, all_good, Says, script_in}

-- ---- a text that says nothing has a fault of status 2

abbrev status_in : {X : Type 0} → Result X ScriptFault → ℕ
status_in (Ok x) = 2
status_in (Err fault) = status_of fault

of_lines : (lines : List (List ℕ)) (s : SoFar) (number : ℕ) → status_in (with_lines s number lines) ≡ 2
of_lines [] s number = refl
of_lines (l ∷ ls) s number =
    elim (with_line s l) as (λ o. status_in (unless_bad number o (λ more. with_lines more (number + 1) ls)) ≡ 2) [
      | None ↦ refl
      | Some more ↦ of_lines ls more (number + 1)
    ]

of_nodes : (nodes : List Setup) (s : SoFar) → status_in (whole nodes s) ≡ 2
of_nodes [] s = refl
of_nodes (n ∷ []) s = refl
of_nodes (n ∷ m ∷ ns) s = refl

of_all : (r : Result SoFar ScriptFault) → status_in r ≡ 2 → status_in (all_good r) ≡ 2
of_all (Err fault) e = e
of_all (Ok s) e = of_nodes s.nodes s

of_script : (text : List ℕ) (fault : ScriptFault) → script_in text ≡ Err fault → status_of fault ≡ 2
of_script text fault e = sym (ap status_in e) ∙ of_all (with_lines nothing 1 (lines_of text)) (of_lines (lines_of text) nothing 1)

-- ---- the faults of each call

-- reading was stopped
pub unread : (before after a : Option (List ℕ)) (fault : ScriptFault) → StopsReading before after fault → Stops before after a a fault
unread before after a fault s =
    ⊎_elim (λ long. inr (
      ap status_of long.0,
      record {
        script = s.read;
        taken = s.taken;
        end = inr long.0;
        fault_is = ap (λ b. cond b (Some TooLong) (fault_said (script_in s.read))) (lt-ltb 1048576 (length s.read) long.1) ∙ ap Some (sym long.0);
        kept = Keeps-refl a;
      },
    )) (λ other. inl (
      ⊎_elim (λ e. ap status_of e) (λ e. ap status_of e) other,
      inl (record { read = s.read; taken = s.taken; cause = other; kept = Keeps-refl a }),
    )) s.cause

-- what was read says nothing
pub bad_script : (before after a : Option (List ℕ)) (text read : List ℕ) (fault : ScriptFault)
    → Consumes before after text → IsAtEnd after → length text ≤ 1048576 → read ≡ text → (fault ≡ NoMemory) ⊎ (script_in read ≡ Err fault) → Stops before after a a fault
bad_script before after a text read fault taken end few is cause =
    ⊎_elim (λ e. inl (ap status_of e, inl (record { read = text; taken = taken; cause = inr e; kept = Keeps-refl a }))) (λ e.
    let said : script_in text ≡ Err fault = subst (λ t. script_in t ≡ Err fault) is e in
    inr (
      of_script text fault said,
      record {
        script = text;
        taken = taken;
        end = inl end;
        fault_is = not_long text few ∙ ap fault_said said;
        kept = Keeps-refl a;
      },
    )) cause

-- memory ran out, or a write failed
of_system : (fault : ScriptFault) → IsOfSystem fault → status_of fault ≡ 1
of_system fault cause = ⊎_elim (λ e. ap status_of e) (λ e. ap status_of e) cause

-- a script without a fault was played in part
pub cut_short : (before after a b : Option (List ℕ)) (text read : List ℕ) (said reported : Says) (fault : ScriptFault)
    → Consumes before after text → IsAtEnd after → length text ≤ 1048576 → read ≡ text → script_in read ≡ Ok said → reported ≡ said → fault_said (Ok said) ≡ None
    → BreaksOne (steps_text reported) (IsPrinted reported) a b fault → Stops before after a b fault
cut_short before after a b text read said reported fault taken end few is says same good breaks =
    let known : script_in text ≡ Ok said = subst (λ t. script_in t ≡ Ok said) is says in
    let part : (whole : List ℕ) → BreaksOff whole a b fault → ((front : List ℕ) → StartsWith whole front → IsFront said front) → Stops before after a b fault = λ whole x is_front.
    inl (
      of_system fault x.cause,
      inr (record {
        script = text;
        front = x.front.front;
        taken = taken;
        end = end;
        cause = x.cause;
        printed = (not_long text few ∙ ap fault_said known ∙ good, said, known, is_front x.front.front x.front.begins);
        put = x.front.put;
      }),
    ) in
    ⊎_elim (λ x. part (steps_text said) x (λ f b. inl b)) (λ x. part x.0 x.2 (λ f b. inr (x.0, x.1, b))) (subst (λ y. BreaksOne (steps_text y) (IsPrinted y) a b fault) same breaks)

-- several nodes were no world
pub same_name : (setups : List Setup) (hs : List Happening) (a : Option (List ℕ)) (fault : ScriptFault) → (fault ≡ SameName) × (names_repeat setups ≡ true) → StopsWorld setups hs a a fault
same_name setups hs a fault two = inl (two.0, two.1, Keeps-refl a)

-- or what they print breaks off
pub of_world : {X : Type 0} (played : Result X ScriptFault) (setups : List Setup) (hs : List Happening) (w0 : World) (a b c : Option (List ℕ)) (p q : List ℕ) (fault : ScriptFault)
    → w0 ≡ empty setups → names_repeat setups ≡ false → p ≡ [] → OnOk played (PutsOneOn (IsPrintedFrom w0 hs) a b p q) → IfErr played (PutsOnePart (happenings_text w0 hs) (IsPrintedFrom w0 hs) a b p q) → PutsFront q b c
    → (fault ≡ WriteFailed) ⊎ (played ≡ Err fault) → StopsWorld setups hs a c fault
of_world played setups hs w0 a b c p q fault first apart none puts part front cause =
    inr (apart, breaks_world played setups hs w0 a b c p q fault first none puts part front cause)

-- a script of several was stopped
pub stopped_world : (before after a b : Option (List ℕ)) (text read : List ℕ) (setups : List Setup) (happenings reported : List Happening) (fault : ScriptFault)
    → Consumes before after text → IsAtEnd after → length text ≤ 1048576 → read ≡ text → script_in read ≡ Ok (Happenings setups happenings) → reported ≡ happenings → StopsWorld setups reported a b fault
    → Stops before after a b fault
stopped_world before after a b text read setups happenings reported fault taken end few is says same cause =
    let said : script_in text ≡ Ok (Happenings setups happenings) = subst (λ t. script_in t ≡ Ok (Happenings setups happenings)) is says in
    ⊎_elim (λ twice. inr (
      ap status_of twice.0,
      record {
        script = text;
        taken = taken;
        end = inl end;
        fault_is = not_long text few ∙ ap fault_said said ∙ ap (λ b. cond b (Some SameName) None) twice.1 ∙ ap Some (sym twice.0);
        kept = twice.2;
      },
    )) (λ breaks.
    cut_short before after a b text read (Happenings setups happenings) (Happenings setups reported) fault taken end few is says (ap (Happenings setups) same)
    (ap (λ b. cond b (Some SameName) None) breaks.0) breaks.1) cause

-- ---- the exit status

pub is_bad : (before after a b c d : Option (List ℕ)) (fault : ScriptFault) (status : ℕ) → Stops before after a b fault → status ≡ status_of fault → PutsFront (fault_line fault) c d → status ≡ 2 → (f : ScriptFault) × IsBad before after a b f × PutsFront (fault_line f) c d
is_bad before after a b c d fault status stops is front two =
    ⊎_elim (λ cut. absurd (omega (arith, cut.0, is, two))) (λ bad. (fault, bad.1, front)) stops

pub is_cut : (before after a b c d : Option (List ℕ)) (fault : ScriptFault) (status : ℕ) → Stops before after a b fault → status ≡ status_of fault → PutsFront (fault_line fault) c d → status ≡ 1
    → (f : ScriptFault) × IsCut before after a b f × (status_of f ≡ 1) × PutsFront (fault_line f) c d
is_cut before after a b c d fault status stops is front one =
    ⊎_elim (λ cut. (fault, cut.1, cut.0, front)) (λ bad. absurd (omega (arith, bad.0, is, one))) stops
