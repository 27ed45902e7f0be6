-- What stands on a page, and what was written of it.
use Rattle.dist_script_play.proofs.Words.{◌≡◌, ℕ, ◌⊎◌, List, [], ◌++◌, length, drop, IsErrAnd, IfErr, OnOk, IsOk, Some, Ok, Err, Option, Result, sym, refl, ap}
use Rattle.dist_script_play.proofs.Words.{◌∙◌, subst, inl, inr, ⊎_elim, append_assoc, append-nil, Appends-kept, Appends-nil, Appends-trans, Keeps-refl}
use Rattle.dist_script_play.proofs.Words.{starts_with_rest, StartsWith, Appends, Keeps, PutsFront, ScriptFault, NoMemory, WriteFailed, front_of_front, starts}
use Rattle.dist_script_play.proofs.Words.{there, BreaksOff, IsOfSystem, Puts, PutsPart}

-- what holds of the fault of a call holds of what `?` returns
pub at_err : {X : Type 0} (P : ScriptFault → Type 0) (r : Result X ScriptFault) (f : ScriptFault) → IsErrAnd r (λ g. g ≡ f) → P f → IfErr r P
at_err P (Ok x) f is p = absurd is
at_err P (Err g) f is p = subst P (sym is) p

-- nothing is written
pub kept : (a : Option (List ℕ)) → Keeps a a
kept a = Keeps-refl a

-- ---- what was written

-- and a flush
pub flushed : (a b c : Option (List ℕ)) (p : List ℕ) → Appends a b p → Keeps b c → Appends a c p
flushed a b c p put keeps = Appends-kept a b c p put keeps

pub front_flushed : (a b c : Option (List ℕ)) (p : List ℕ) → PutsFront p a b → Keeps b c → PutsFront p a c
front_flushed a b c p f keeps = record { front = f.front; begins = f.begins; put = Appends-kept a b c f.front f.put keeps }

-- ---- what is put on a page

-- nothing
pub puts_none : (a : Option (List ℕ)) (p : List ℕ) → Puts [] a a p p
puts_none a p = record { written = []; put = Appends-nil a; whole = sym (append-nil p) }

-- a line, which stands there
pub line_kept : (a : Option (List ℕ)) (p q line : List ℕ) → q ≡ p ++ line → Puts line a a p q
line_kept a p q line e = record { written = []; put = Appends-nil a; whole = e }

-- or was written, with what stood there
pub line_written : (a b : Option (List ℕ)) (p q r line : List ℕ) → q ≡ p ++ line → Appends a b q → r ≡ [] → Puts line a b p r
line_written a b p q r line e put none =
    record { written = q; put = put; whole = ap (λ l. q ++ l) none ∙ append-nil q ∙ e }

-- or of which a beginning was
pub line_broken : (a b : Option (List ℕ)) (p q r line : List ℕ) (fault : ScriptFault) → q ≡ p ++ line → PutsFront q a b → r ≡ [] → fault ≡ WriteFailed → PutsPart line a b p r fault
line_broken a b p q r line fault e f none is =
    record {
      written = f.front;
      put = f.put;
      begins = subst (λ t. StartsWith t (f.front ++ r)) e (subst (StartsWith q) (sym (ap (λ l. f.front ++ l) none ∙ append-nil f.front)) f.begins);
      cause = inl is;
    }

-- or for which memory ran out
pub line_lost : (a : Option (List ℕ)) (p q line : List ℕ) (fault : ScriptFault) → q ≡ p → fault ≡ NoMemory → PutsPart line a a p q fault
line_lost a p q line fault e is =
    record { written = []; put = Appends-nil a; begins = starts (p ++ line) q line (ap (λ l. l ++ line) e); cause = inr is }

-- a line that was empty, and to which a text was put
line_is : (p q t : List ℕ) → p ≡ [] → Appends (Some p) (Some q) t → q ≡ t
line_is p q t none put = put ∙ ap (λ l. l ++ t) none

-- it is put on the page
pub put_on_page : (a b : Option (List ℕ)) (p q x y t : List ℕ) → x ≡ [] → Appends (Some x) (Some y) t → Puts y a b p q → Puts t a b p q
put_on_page a b p q x y t none put puts = subst (λ l. Puts l a b p q) (line_is x y t none put) puts

-- or a beginning of it is
pub broken_on_page : (a b : Option (List ℕ)) (p q x y t : List ℕ) (fault : ScriptFault) → x ≡ [] → Appends (Some x) (Some y) t → PutsPart y a b p q fault → PutsPart t a b p q fault
broken_on_page a b p q x y t fault none put part = subst (λ l. PutsPart l a b p q fault) (line_is x y t none put) part

-- the same behind a call that succeeded
pub line_on_page : {X E : Type 0} (r : Result X E) (a b : Option (List ℕ)) (p q x y t : List ℕ) → x ≡ [] → IsOk r → OnOk r (Appends (Some x) (Some y) t) → Puts y a b p q → Puts t a b p q
line_on_page r a b p q x y t none is put puts = put_on_page a b p q x y t none (there r put is) puts

pub line_broken_on_page : {X E : Type 0} (r : Result X E) (a b : Option (List ℕ)) (p q x y t : List ℕ) (fault : ScriptFault)
    → x ≡ [] → IsOk r → OnOk r (Appends (Some x) (Some y) t) → PutsPart y a b p q fault → PutsPart t a b p q fault
line_broken_on_page r a b p q x y t fault none is put part = broken_on_page a b p q x y t fault none (there r put is) part

-- one text behind another
pub puts_more : (a b c : Option (List ℕ)) (p q r t u : List ℕ) → Puts t a b p q → Puts u b c q r → Puts (t ++ u) a c p r
puts_more a b c p q r t u x y =
    record {
      written = x.written ++ y.written;
      put = Appends-trans a b c x.written y.written x.put y.put;
      whole = append_assoc x.written y.written r ∙ ap (λ l. x.written ++ l) y.whole ∙ sym (append_assoc x.written q u) ∙ ap (λ l. l ++ u) x.whole ∙ append_assoc p t u;
    }

-- a beginning of one behind another, which begin all
pub part_more : (a b c : Option (List ℕ)) (p q r t u rest all : List ℕ) (fault : ScriptFault) → Puts t a b p q → PutsPart u b c q r fault → t ++ (u ++ rest) ≡ all → PutsPart all a c p r fault
part_more a b c p q r t u rest all fault x y e =
    let here = y.written ++ r in
    let left = drop (length here) (q ++ u) in
    let whole : here ++ left ≡ q ++ u = sym (starts_with_rest (q ++ u) here y.begins) in
    let behind : (x.written ++ y.written) ++ r ≡ x.written ++ here = append_assoc x.written y.written r in
    let first : (x.written ++ here) ++ left ≡ p ++ (t ++ u) =
    append_assoc x.written here left ∙ ap (λ l. x.written ++ l) whole ∙ sym (append_assoc x.written q u) ∙ ap (λ l. l ++ u) x.whole ∙ append_assoc p t u in
    let total : ((x.written ++ y.written) ++ r) ++ (left ++ rest) ≡ p ++ all =
    ap (λ l. l ++ (left ++ rest)) behind ∙ sym (append_assoc (x.written ++ here) left rest) ∙ ap (λ l. l ++ rest) first ∙ append_assoc p (t ++ u) rest ∙ ap (λ l. p ++ l) (append_assoc t u rest ∙ e) in
    record {
      written = x.written ++ y.written;
      put = Appends-trans a b c x.written y.written x.put y.put;
      begins = starts (p ++ all) ((x.written ++ y.written) ++ r) (left ++ rest) total;
      cause = y.cause;
    }

-- ---- the last page is written out

-- whole
pub whole : (a b c : Option (List ℕ)) (p q t : List ℕ) → p ≡ [] → Puts t a b p q → Appends b c q → Appends a c t
whole a b c p q t none x put =
    subst (Appends a c) (x.whole ∙ ap (λ l. l ++ t) none) (Appends-trans a b c x.written q x.put put)

-- or a beginning of it
pub whole_front : (a b c : Option (List ℕ)) (p q t : List ℕ) → p ≡ [] → Puts t a b p q → PutsFront q b c → PutsFront t a c
whole_front a b c p q t none x f =
    let left = drop (length f.front) q in
    let is : f.front ++ left ≡ q = sym (starts_with_rest q f.front f.begins) in
    record {
      front = x.written ++ f.front;
      begins = starts t (x.written ++ f.front) left (append_assoc x.written f.front left ∙ ap (λ l. x.written ++ l) is ∙ x.whole ∙ ap (λ l. l ++ t) none);
      put = Appends-trans a b c x.written f.front x.put f.put;
    }

-- or of a beginning
pub part_front : (a b c : Option (List ℕ)) (p q t : List ℕ) (fault : ScriptFault) → p ≡ [] → PutsPart t a b p q fault → PutsFront q b c → PutsFront t a c
part_front a b c p q t fault none x f =
    let here = x.written ++ q in
    front_of_front a c here t (subst (λ l. StartsWith l here) (ap (λ l. l ++ t) none) x.begins) (whole_front a b c [] q here refl (record { written = x.written; put = x.put; whole = refl }) f)

-- what was played stands there in part where it was stopped, or could not be written
pub breaks_off : {X : Type 0} (played : Result X ScriptFault) (a b c : Option (List ℕ)) (p q t : List ℕ) (fault : ScriptFault)
    → p ≡ [] → OnOk played (Puts t a b p q) → IfErr played (λ f. PutsPart t a b p q f) → PutsFront q b c → (fault ≡ WriteFailed) ⊎ (played ≡ Err fault) → BreaksOff t a c fault
breaks_off (Ok x) a b c p q t fault none puts part front cause =
    ⊎_elim (λ e. record { front = whole_front a b c p q t none puts front; cause = inl e }) (λ e. absurd cc) cause
breaks_off (Err f) a b c p q t fault none puts part front cause =
    record {
      front = part_front a b c p q t f none part front;
      cause = ⊎_elim (λ e. inl e) (λ e. let same : f ≡ fault = cc in subst IsOfSystem same part.cause) cause;
    }

-- what a line does on a page
pub ruleset line_put = (line_kept, line_written, line_broken, line_lost)

-- what a text does there that was put to an empty line
pub ruleset text_put = (line_on_page, line_broken_on_page, put_on_page, broken_on_page, line_lost)
