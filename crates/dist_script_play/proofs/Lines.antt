-- What the lines of a script for one node print, in turn.
use Rattle.dist_script_play.proofs.Words.{◌≡◌, ℕ, ◌+◌, ◌<◌, ◌≤◌, cond, ◌⊎◌, List, [], ◌++◌, length, get_or, drop, IfErr, OnOk, Some, None, Ok, Err, Option}
use Rattle.dist_script_play.proofs.Words.{Result, sym, refl, ap, ◌∙◌, subst, append_assoc, append-nil, le-ltb, at_drop_all, at_drop_more, Consumes, IsAtEnd}
use Rattle.dist_script_play.proofs.Words.{Setup, PutsFront, ScriptFault, SameName, TooLong, WriteFailed, table_text, BreaksOff, Puts, PutsPart, IsPrinted}
use Rattle.dist_script_play.proofs.Words.{Standing, after_line, at_first, fault_in, fault_said, line_text, lines_text, Plays, PutsOne}
use Rattle.dist_script_play.proofs.Pages.{puts_none, puts_more, part_more, breaks_off}
use Rattle.dist_script.specs.{Fault.status_of, Scripts.Says, Scripts.script_in, declared.script.ScriptLine.ScriptLine}
use Rattle.dist_script.specs.declared.fault.ScriptFault.TheVariants as fault

-- what is not too long has the fault that its lines have
pub not_long : (script : List ℕ) → length script ≤ 1048576 → fault_in script ≡ fault_said (script_in script)
not_long script few = ap (λ b. cond b (Some TooLong) (fault_said (script_in script))) (le-ltb 1048576 (length script) few)

-- the lines so far, and those of what is left, are those of all
pub record PlayedSoFar (s0 : Standing) (all : List ScriptLine) (old now : Option (List ℕ)) (page left : List ℕ) (s : Standing) (place : ℕ) : Type 0 where
  pub done : List ℕ
  pub put : Puts done old now page left
  pub text : done ++ lines_text s (drop place all) ≡ lines_text s0 all

pub none_played : (s0 : Standing) (all : List ScriptLine) (old : Option (List ℕ)) (page : List ℕ) → PlayedSoFar s0 all old old page page s0 0
none_played s0 all old page = record { done = []; put = puts_none old page; text = refl }

one_line : (s : Standing) (all : List ScriptLine) (place : ℕ) (d : ScriptLine) → place < length all → lines_text s (drop place all) ≡ line_text s (get_or all place d) ++ lines_text (after_line s (get_or all place d)) (drop (place + 1) all)
one_line s all place d lt = at_drop_more (lines_text s) all place d lt

-- one more
pub one_played : (s0 : Standing) (all : List ScriptLine) (old mid new : Option (List ℕ)) (page p q : List ℕ) (s : Standing) (place : ℕ) (d : ScriptLine) (s2 : Standing)
    → PlayedSoFar s0 all old mid page p s place → place < length all → Puts (line_text s (get_or all place d)) mid new p q → s2 ≡ after_line s (get_or all place d)
    → PlayedSoFar s0 all old new page q s2 (place + 1)
one_played s0 all old mid new page p q s place d s2 so lt put is_after =
    let l = get_or all place d in
    let others = drop (place + 1) all in
    let rest : lines_text s2 others ≡ lines_text (after_line s l) others = ap (λ z. lines_text z others) is_after in
    let both : line_text s l ++ lines_text s2 others ≡ lines_text s (drop place all) = ap (λ t. line_text s l ++ t) rest ∙ sym (one_line s all place d lt) in
    record {
      done = so.done ++ line_text s l;
      put = puts_more old mid new page p q so.done (line_text s l) so.put put;
      text = append_assoc so.done (line_text s l) (lines_text s2 others) ∙ ap (λ t. so.done ++ t) both ∙ so.text;
    }

-- or a beginning of one more
pub cut_played : (s0 : Standing) (all : List ScriptLine) (old mid new : Option (List ℕ)) (page p q : List ℕ) (s : Standing) (place : ℕ) (d : ScriptLine) (fault : ScriptFault)
    → PlayedSoFar s0 all old mid page p s place → place < length all → PutsPart (line_text s (get_or all place d)) mid new p q fault → PutsPart (lines_text s0 all) old new page q fault
cut_played s0 all old mid new page p q s place d fault so lt part =
    let l = get_or all place d in
    part_more old mid new page p q so.done (line_text s l) (lines_text (after_line s l) (drop (place + 1) all)) (lines_text s0 all) fault so.put part (ap (λ t. so.done ++ t) (sym (one_line s all place d lt)) ∙ so.text)

no_line : (s : Standing) (all : List ScriptLine) (place : ℕ) → length all ≤ place → lines_text s (drop place all) ≡ table_text s.node
no_line s all place le = at_drop_all (lines_text s) all place le

-- the table behind all of them
pub all_played : (s0 : Standing) (all : List ScriptLine) (old mid new : Option (List ℕ)) (page p q : List ℕ) (s : Standing) (place : ℕ)
    → PlayedSoFar s0 all old mid page p s place → length all ≤ place → Puts (table_text s.node) mid new p q → Puts (lines_text s0 all) old new page q
all_played s0 all old mid new page p q s place so le put =
    subst (λ t. Puts t old new page q) (ap (λ t. so.done ++ t) (sym (no_line s all place le)) ∙ so.text) (puts_more old mid new page p q so.done (table_text s.node) so.put put)

-- or a beginning of it
pub cut_table : (s0 : Standing) (all : List ScriptLine) (old mid new : Option (List ℕ)) (page p q : List ℕ) (s : Standing) (place : ℕ) (fault : ScriptFault)
    → PlayedSoFar s0 all old mid page p s place → length all ≤ place → PutsPart (table_text s.node) mid new p q fault → PutsPart (lines_text s0 all) old new page q fault
cut_table s0 all old mid new page p q s place fault so le part =
    part_more old mid new page p q so.done (table_text s.node) [] (lines_text s0 all) fault so.put part (ap (λ t. so.done ++ t) (append-nil (table_text s.node) ∙ sym (no_line s all place le)) ∙ so.text)

-- a script without a fault was played
pub was_played : (script read : List ℕ) (said reported : Says) (before after a b : Option (List ℕ))
    → Consumes before after script → IsAtEnd after → length script ≤ 1048576 → read ≡ script → script_in read ≡ Ok said → reported ≡ said → fault_said (Ok said) ≡ None
    → PutsOne (IsPrinted reported) a b → Plays before after a b
was_played script read said reported before after a b taken end few is says same good puts =
    let known : script_in script ≡ Ok said = subst (λ t. script_in t ≡ Ok said) is says in
    let here = subst (λ x. PutsOne (IsPrinted x) a b) same puts in
    record {
      script = script;
      text = here.0;
      taken = taken;
      end = end;
      printed = (not_long script few ∙ ap fault_said known ∙ good, said, known, here.1);
      put = here.2;
    }

-- no fault ends with status 0
pub never_zero : (f : ScriptFault) → status_of f ≡ 0 → ⊥
never_zero fault.TooLong e = cc
never_zero (fault.BadLine number) e = cc
never_zero fault.NoNode e = cc
never_zero fault.SameName e = cc
never_zero fault.ReadFailed e = cc
never_zero fault.WriteFailed e = cc
never_zero fault.NoMemory e = cc

-- the same of a line that was read off
pub cut_item : (s0 : Standing) (all : List ScriptLine) (old mid new : Option (List ℕ)) (page p q : List ℕ) (s : Standing) (place : ℕ) (x : ScriptLine) (fault : ScriptFault)
    → PlayedSoFar s0 all old mid page p s place → place < length all → x ≡ get_or all place x → PutsPart (line_text s x) mid new p q fault → PutsPart (lines_text s0 all) old new page q fault
cut_item s0 all old mid new page p q s place x fault so lt is part =
    cut_played s0 all old mid new page p q s place x fault so lt (subst (λ l. PutsPart (line_text s l) mid new p q fault) is part)

-- all of them were played from the beginning of a node and of a page, and that broke off
pub node_breaks : {X : Type 0} (played : Result X ScriptFault) (setup : Setup) (lines : List ScriptLine) (s : Standing) (a b c : Option (List ℕ)) (p q : List ℕ) (fault : ScriptFault)
    → s ≡ at_first setup → p ≡ [] → OnOk played (Puts (lines_text s lines) a b p q) → IfErr played (λ f. PutsPart (lines_text s lines) a b p q f) → PutsFront q b c → (fault ≡ WriteFailed) ⊎ (played ≡ Err fault)
    → BreaksOff (lines_text (at_first setup) lines) a c fault
node_breaks played setup lines s a b c p q fault first none puts part front cause =
    subst (λ z. BreaksOff (lines_text z lines) a c fault) first (breaks_off played a b c p q (lines_text s lines) fault none puts part front cause)

-- what lines do in turn
pub ruleset lines_in_turn = (none_played, one_played, cut_played, all_played, cut_table)
