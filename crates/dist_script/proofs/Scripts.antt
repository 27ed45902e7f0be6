-- The lines of a script, one after the other.
use Rattle.std.proofs.{Common.codes, Common.MatchResult, Common.IsErrAnd, Common.is_some, lemmas.Bool.cond-true, lemmas.Bool.cond-false}
use Rattle.dist_core.proofs.Words.{◌≡◌, ℕ, suc, ◌+◌, ◌<◌, ◌≤◌, Bool, true, false, cond, ◌||◌, ◌⊎◌, List, [], ◌∷◌, ◌++◌, length, drop, Some, None, Ok, Err}
use Rattle.dist_core.proofs.Words.{Option, Result, sym, refl, ap, ◌∙◌, subst, inl, inr, arith, length-append, Setup}
use Rattle.dist_world_model.specs.declared.happening.Happening.{Happening}
use Rattle.dist_script.specs.{Events.line_in, Fields.Makes, Happenings.happening_line, Words.lines_of, Words.parts_in}
use Rattle.dist_script.specs.Scripts.{SoFar, nothing, with_node, with_event, with_happening, is_either, with_reported, with_words, with_line, unless_bad}
use Rattle.dist_script.specs.Scripts.{with_lines, Events, Happenings, whole, all_good, script_in}
use Rattle.dist_script.specs.declared.{fault.ScriptFault.ScriptFault, script.ScriptLine.ScriptLine, words.LineFault.LineFault, words.LineFault.TheVariants.Bad}
use Rattle.dist_script.specs.declared.fault.ScriptFault.TheVariants.{BadLine, NoNode, NoMemory}
use Rattle.dist_script.proofs.Reading.{begun, not_begun}

-- ---- one line

-- what a line does, by whether it sets a node up
abbrev by_node : Bool → SoFar → List (List ℕ) → Option SoFar
by_node b s words = cond b (with_node s (drop 1 words)) (with_reported s.nodes (record s { has_lines = true }) words)

pub a_node : (s : SoFar) (words rest : List (List ℕ)) → words ≡ codes "node" ∷ rest → with_words s words ≡ with_node s rest
a_node s words rest e = ap (λ b. by_node b s words) (begun (codes "node") words rest e) ∙ ap (λ ws. with_node s (drop 1 ws)) e

-- a line that sets no node up
pub no_node : (s : SoFar) (words : List (List ℕ)) → ((rest : List (List ℕ)) → words ≡ codes "node" ∷ rest → ⊥) → with_words s words ≡ with_reported s.nodes (record s { has_lines = true }) words
no_node s words h = ap (λ b. by_node b s words) (not_begun (codes "node") words h)

pub none_there : (nodes : List Setup) (s : SoFar) (words : List (List ℕ)) → length nodes ≡ 0 → with_reported nodes s words ≡ cond (is_either words) (Some s) None
none_there [] s words e = refl
none_there (node ∷ nodes) s words e = absurd (omega arith)

pub one_there : (nodes : List Setup) (s : SoFar) (words : List (List ℕ)) → length nodes ≡ 1 → with_reported nodes s words ≡ with_event s words
one_there [] s words e = absurd (omega arith)
one_there (node ∷ []) s words e = refl
one_there (node ∷ other ∷ nodes) s words e = absurd (omega arith)

pub more_there : (nodes : List Setup) (s : SoFar) (words : List (List ℕ)) → 1 < length nodes → with_reported nodes s words ≡ with_happening s words
more_there [] s words lt = absurd (omega arith)
more_there (node ∷ []) s words lt = absurd (omega arith)
more_there (node ∷ other ∷ nodes) s words lt = refl

-- ---- all lines in turn

-- what was read so far, and then the lines that are left, are all lines
module _ (all : Result SoFar ScriptFault) (s : SoFar) (number : ℕ) (text line : List ℕ) (behind : Option (List ℕ)) (so : all ≡ with_lines s (number + 1) (lines_of text)) (parts : lines_of text ≡ line ∷ parts_in 10 behind) where
  by_line : (o : Option SoFar) → with_line s line ≡ o → all ≡ unless_bad (number + 1) o (λ more. with_lines more (number + 1 + 1) (parts_in 10 behind))
  by_line o e =
      so
      ∙ ap (with_lines s (number + 1)) parts
      ∙ ap (λ (p : Option SoFar). unless_bad (number + 1) p (λ more. with_lines more (number + 1 + 1) (parts_in 10 behind))) e

  pub line_taken : (more : SoFar) → with_line s line ≡ Some more → all ≡ with_lines more (number + 1 + 1) (parts_in 10 behind)
  line_taken more e = by_line (Some more) e

  pub line_bad : (fault : ScriptFault) → (fault ≡ NoMemory) ⊎ ((fault ≡ BadLine (number + 1)) × (with_line s line ≡ None)) → (fault ≡ NoMemory) ⊎ (all ≡ Err fault)
  line_bad fault (inl e) = inl e
  line_bad fault (inr e) = inr (by_line None e.1 ∙ ap Err (sym e.0))

-- a line that may be of either form
pub by_either : {A : Type 0} (r : Result A LineFault) (is : Bool) (line : Option SoFar) (more : SoFar) → line ≡ cond is (Some more) None → MatchResult r (λ _. is ≡ true) (λ fault. fault ≡ Bad → is ≡ false) → Makes r more line
by_either (Ok u) is line more e h = e ∙ cond-true is _ _ h
by_either (Err fault) is line more e h = λ bad. e ∙ cond-false is _ _ (h bad)

-- a line that is of one form
pub an_event : (words : List (List ℕ)) (line : ScriptLine) → line_in words ≡ Some line → is_either words ≡ true
an_event words line e = ap (λ (o : Option ScriptLine). is_some o || is_some (happening_line words)) e

-- of the other, or of none
pub no_event : {A : Type 0} (r : Result A LineFault) (words : List (List ℕ)) → line_in words ≡ None
    → MatchResult r (λ _. is_some (happening_line words) ≡ true) (λ fault. fault ≡ Bad → happening_line words ≡ None) → MatchResult r (λ _. is_either words ≡ true) (λ fault. fault ≡ Bad → is_either words ≡ false)
no_event (Ok u) words none h = ap (λ o. is_some o || is_some (happening_line words)) none ∙ h
no_event (Err fault) words none h = λ bad. ap (λ o. is_some o || is_some (happening_line words)) none ∙ ap is_some (h bad)

-- ---- the whole script

last_alone : (nodes before : List Setup) (node : Setup) → nodes ≡ before ++ node ∷ [] → length nodes ≤ 1 → nodes ≡ node ∷ []
last_alone nodes [] node e le = e
last_alone nodes (first ∷ before) node e le = let n : length nodes ≡ suc (length (before ++ node ∷ [])) = ap (λ (x : List Setup). length x) e in absurd (omega (arith, n, le, length-append before (node ∷ [])))

of_several : (nodes : List Setup) (s : SoFar) → 1 < length nodes → whole nodes s ≡ Ok (Happenings nodes s.happenings)
of_several [] s lt = absurd (omega arith)
of_several (node ∷ []) s lt = absurd (omega arith)
of_several (node ∷ other ∷ nodes) s lt = refl

of_none : (nodes : List Setup) (s : SoFar) → length nodes ≡ 0 → whole nodes s ≡ Err NoNode
of_none [] s e = refl
of_none (node ∷ nodes) s e = absurd (omega arith)

module _ (text : List ℕ) (nodes : List Setup) (has : Bool) (reported : List ScriptLine) (done : List Happening) (s : SoFar) (so : with_lines nothing 1 (lines_of text) ≡ Ok s) (is : record { nodes = nodes; has_lines = has; events = reported; happenings = done } ≡ s) where
  read : script_in text ≡ whole nodes (record { nodes = nodes; has_lines = has; events = reported; happenings = done })
  read = ap all_good (so ∙ ap Ok (sym is))

  pub several : 1 < length nodes → script_in text ≡ Ok (Happenings nodes done)
  several lt = read ∙ of_several nodes (record { nodes = nodes; has_lines = has; events = reported; happenings = done }) lt

  pub one_node : (node : Setup) (before : List Setup) → nodes ≡ before ++ node ∷ [] → length nodes ≤ 1 → script_in text ≡ Ok (Events node reported)
  one_node node before e le = read ∙ ap (λ ns. whole ns (record { nodes = nodes; has_lines = has; events = reported; happenings = done })) (last_alone nodes before node e le)

  pub no_nodes : length nodes ≡ 0 → script_in text ≡ Err NoNode
  no_nodes e = read ∙ of_none nodes (record { nodes = nodes; has_lines = has; events = reported; happenings = done }) e

pub not_read : (text : List ℕ) (fault : ScriptFault) → (fault ≡ NoMemory) ⊎ (with_lines nothing 1 (lines_of text) ≡ Err fault) → (fault ≡ NoMemory) ⊎ (script_in text ≡ Err fault)
not_read text fault (inl e) = inl e
not_read text fault (inr e) = inr (ap all_good e)

-- what an exit by `?` returns
pub at_fault : {X : Type 0} (P : X → Type 0) (Q : ScriptFault → Type 0) (r : Result X ScriptFault) (fault : ScriptFault) → IsErrAnd r (λ y. y ≡ fault) → Q fault → MatchResult r P Q
at_fault P Q (Ok x) fault h q = absurd h
at_fault P Q (Err y) fault h q = subst Q (sym h) q
