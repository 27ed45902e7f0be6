-- The last line, and what is printed behind a heading.
use Rattle.std.proofs.Common.{◌≡◌, ◌∙◌, ℕ, zero, suc, Bool, true, false, List, ◌++◌, Option, refl, sym, ap, append_assoc}
use Rattle.std.specs.Prelude.{codes}
use Rattle.std.specs.Io.KnownBytes.{Appends}
use Rattle.std.proofs.KnownBytes.{Appends-trans}
use Rattle.distcheck.specs.Reports.{BeginsWith, EndsByOutcome, IsOutcome, IsReported}

ends_behind : {exit : ℕ} {conforms : Bool} {text : List ℕ} (heading : List ℕ) → EndsByOutcome exit conforms text → EndsByOutcome exit conforms (heading ++ text)
ends_behind heading e = record {
  before = heading ++ e.before;
  line = e.line;
  text_is = ap (λ l. heading ++ l) e.text_is ∙ sym (append_assoc heading e.before e.line);
  is_outcome = e.is_outcome;
}

pub reported_behind : (strict json : Bool) (a b c : Option (List ℕ)) (heading : List ℕ) (status : ℕ) → Appends a b heading
    → IsReported strict json b c status → IsReported strict json a c status
reported_behind strict json a b c heading status p r = record {
  talks = r.talks;
  rows = r.rows;
  all = r.all;
  text = heading ++ r.text;
  confirmed = r.confirmed;
  status_is = r.status_is;
  there = r.there;
  in_rows = r.in_rows;
  are_rows = r.are_rows;
  printed = Appends-trans a b c heading r.text p r.printed;
  last = λ j. ends_behind heading (r.last j);
}

pub not_conforming : (exit : ℕ) (conforms : Bool) (line : List ℕ) → (exit ≡ 0 → ⊥) → BeginsWith (codes "Does not conform:") line → IsOutcome exit conforms line
not_conforming zero conforms line not is = absurd (not refl)
not_conforming (suc exit) conforms line not is = is

pub conforming : (exit : ℕ) (conforms : Bool) (line : List ℕ) → exit ≡ 0 → conforms ≡ true → BeginsWith (codes "Conforms.") line → IsOutcome exit conforms line
conforming zero true line none all is = is
conforming zero false line none all is = absurd (cc)
conforming (suc exit) conforms line none all is = absurd (cc)

pub not_deviating : (exit : ℕ) (conforms : Bool) (line : List ℕ) → exit ≡ 0 → conforms ≡ false → BeginsWith (codes "No deviation") line → IsOutcome exit conforms line
not_deviating zero false line none not_all is = is
not_deviating zero true line none not_all is = absurd (cc)
not_deviating (suc exit) conforms line none not_all is = absurd (cc)
