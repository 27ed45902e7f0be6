-- The units of a capture, one after another.
use Rattle.std.proofs.Common.{◌≡◌, ℕ, false, List, [], ◌++◌, take, Option, Some, None, Result, Ok, refl, sym, ap, subst, ◌∙◌, is_some, append_assoc, option_map}
use Rattle.std.proofs.Common.{option_to_list}
use Rattle.std.proofs.lemmas.Option.{same_Some}
use Rattle.dist_capture.specs.{Formats.unit_of, Tcp.Said, declared.fault.CaptureFault.CaptureFault, declared.segment.Segment.Segment, declared.unit.Unit.Unit}
use Rattle.dist_capture.specs.Reading.{Reading, whole, heard, after, Gives, Reads, Done, Next, IsRead, Was, Opened, Fed, Asked, unread, with_bytes, view_of}
use Rattle.dist_capture.proofs.Growing.{good, gives_more}

none_seen : (s : Option Segment) → is_some s ≡ false → option_map view_of s ≡ None
none_seen None e = refl
none_seen (Some x) e = absurd cc

reads_on : (r mid later : Reading) (xs ys : List (ℕ × Said)) → Reads r xs mid → Reads mid ys later → Reads r (xs ++ ys) later
reads_on r mid later xs ys (Done s) q = q
reads_on r mid later xs ys (Next s next end segment others all g p e) q =
    Next s next later segment (others ++ ys) (all ++ ys) g (reads_on next end later others ys p q) (ap (λ (l : List (ℕ × Said)). l ++ ys) e ∙ append_assoc (option_to_list segment) others ys)

-- one more unit gave no segment
pub passes_on : (r mid later : Reading) (s : Option Segment) → Reads r [] mid → Gives mid (option_map view_of s) later → is_some s ≡ false → Reads r [] later
passes_on r mid later s p g e = reads_on r mid later [] [] p (Next mid later later None [] [] (subst (λ (o : Option (ℕ × Said)). Gives mid o later) (none_seen s e) g) (Done later) refl)

-- what is read of a capture is read of it once more bytes have come
reads_more : (r later : Reading) (xs : List (ℕ × Said)) (more : List ℕ) → Reads r xs later → Reads (with_bytes r more) xs (with_bytes later more)
reads_more r later xs more (Done s) = Done (with_bytes s more)
reads_more r later xs more (Next s next end segment others all g p e) =
    Next (with_bytes s more) (with_bytes next more) (with_bytes end more) segment others all (gives_more s next segment more g) (reads_more next end others more p) e

pub whole_lem : (r : Reading) (stream : List ℕ) (segments : List (ℕ × Said)) → Was r stream segments → Reads (with_bytes unread stream) segments r
whole_lem r stream segments Opened = Done unread
whole_lem r stream segments (Fed s came found piece p) = reads_more (with_bytes unread came) s found piece (whole_lem s came found p)
whole_lem r stream segments (Asked s later came found others p q) = reads_on (with_bytes unread came) s later found others (whole_lem s came found p) q

-- ---- no other segments are

ok_same : {A : Type 0} (x y : A) (r : Result A CaptureFault) → r ≡ Ok x → r ≡ Ok y → x ≡ y
ok_same x y r p q = let e : good x ≡ good y = sym p ∙ q in cc

pub record Same (a b : Option (ℕ × Said)) (s t : Reading) : Type 0 where
  pub segment : a ≡ b
  pub later : s ≡ t

gives_same : (r s t : Reading) (a b : Option (ℕ × Said)) → Gives r a s → Gives r b t → Same a b s t
gives_same r s t a b g h =
    let len : g.len ≡ h.len = same_Some g.len h.len (ok_same (Some g.len) (Some h.len) (whole r) g.is_next.is_whole h.is_next.is_whole) in
    let bytes : take g.len r.pending ≡ take h.len r.pending = ap (λ (n : ℕ). take n r.pending) len in
    let says : g.says ≡ h.says = ok_same g.says h.says (unit_of r.format r.interfaces (take g.len r.pending)) g.is_next.is_said (ap (unit_of r.format r.interfaces) bytes ∙ h.is_next.is_said) in
    record {
      segment = g.is_heard ∙ ap (λ (u : Unit). heard u (take g.len r.pending)) says ∙ ap (heard h.says) bytes ∙ sym h.is_heard;
      later = g.is_later ∙ ap (λ (u : Unit). after r g.len u) says ∙ ap (λ (n : ℕ). after r n h.says) len ∙ sym h.is_later;
    }

pub only_lem : (r one other : Reading) (xs ys : List (ℕ × Said)) → Reads r xs one → IsRead one → Reads r ys other → IsRead other → xs ≡ ys
only_lem r one other xs ys (Done s) end (Done t) stop = refl
only_lem r one other xs ys (Done s) end (Next t next later segment others all g q e) stop = absurd (end segment next g)
only_lem r one other xs ys (Next s next later segment others all g p e) end (Done t) stop = absurd (stop segment next g)
only_lem r one other xs ys (Next s next later segment others all g p e) end (Next t next' later' segment' others' all' h q d) stop =
    let same = gives_same r next next' segment segment' g h in
    let rest : others ≡ others' = only_lem next' one other others others' (subst (λ (m : Reading). Reads m others one) same.later p) end q stop in
    e ∙ ap (λ (o : Option (ℕ × Said)). option_to_list o ++ others) same.segment ∙ ap (λ (l : List (ℕ × Said)). option_to_list segment' ++ l) rest ∙ sym d
