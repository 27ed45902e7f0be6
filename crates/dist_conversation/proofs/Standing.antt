-- What a stream has, and what waits in it, stands in the segments that it took; each byte has a number.
use Rattle.std.proofs.Common.{◌≡◌, ℕ, zero, suc, ◌+◌, ◌-◌, ◌%◌, ◌^◌, ◌<◌, ◌≤◌, ◌⊎◌, inl, inr, Bool, true, false, cond, ltb, leb, eqb, List, [], ◌∷◌, ◌++◌, length, take, drop, Option, Some, None}
use Rattle.std.proofs.Common.{refl, sym, ap, subst, ◌∙◌, arith, slice_get, append-nil, append_assoc, length-append, option_map, unwrap_or, not, ◌&&◌, ◌||◌}
use Rattle.std.proofs.lemmas.{Bool.cases_lt, Bool.lt-leb, List.get_or-drop}
use Rattle.std.specs.List.{All, FoldsTo}
use Rattle.std.proofs.lemmas.List.Elements.{Contains-append_left, Contains-push}
use Rattle.dist_capture.specs.declared.segment.{Endpoint.Endpoint, Segment.Segment}
use Rattle.dist_capture.specs.Streams.{Gathering, awaiting, byte_at, first_of, is_near, known_at, laid, leading, new_part, past, settled, taken, with_new}
use Rattle.dist_capture.proofs.Known.{known_laid, slice_get-drop}
use Rattle.dist_messages.specs.declared.message.Side.{Side, TheVariants.Dialler, TheVariants.Acceptor}
use Rattle.dist_conversation.specs.Conversations.{IsBetween, IsConversation, IsFrom, Stand, StandsAt, Takes, begun, can_end, recognized_from, with_end_of, with_ending, with_pieces, with_shown, with_sign}
use Rattle.dist_conversation.specs.Flows.{begun_by, bytes_of, first_read, gathered, with_answer, with_end, with_segment}
use Rattle.dist_conversation.specs.Numbers.{distance, number_of_first}
use Rattle.dist_conversation.specs.declared.{conversation.Conversation.Conversation, flow.Flow.Flow, looks.Shown.Shown}
use Rattle.dist_conversation.specs.declared.looks.Shown.TheVariants as shown
use Rattle.dist_conversation.proofs.Ports.{between_before}

-- these bytes have the numbers from one on
abbrev pub BytesAt : (ℕ → ℕ → Type 0) → ℕ → List ℕ → Type 0
BytesAt P first bytes = (i b : ℕ) → slice_get bytes i ≡ Some b → P ((first + i) % 2 ^ 32) b

-- so have these, as far as they are known
abbrev pub KnownAt : (ℕ → ℕ → Type 0) → ℕ → List (Option ℕ) → Type 0
KnownAt P first known = (i b : ℕ) → known_at known i ≡ Some b → P ((first + i) % 2 ^ 32) b

-- ---- the new part of a segment

past_again : (next number i : ℕ) → next < 2 ^ 32 → number < 2 ^ 32 → ((next + past number next) + i) % 2 ^ 32 ≡ (number + i) % 2 ^ 32
past_again next number i small less = omega arith

past_old : (next number i : ℕ) → next < 2 ^ 32 → number < 2 ^ 32 → ((next + 0) + i) % 2 ^ 32 ≡ (number + (past next number + i)) % 2 ^ 32
past_old next number i small less = omega arith

-- the new part, by whether the segment is not before the awaited byte
abbrev new_if : ℕ → ℕ → List ℕ → Bool → ℕ × List ℕ
new_if next number bytes t = cond {A = ℕ × List ℕ} t (past number next, bytes) (0, drop (past next number) bytes)

new_by : (P : ℕ → ℕ → Type 0) (next number : ℕ) (bytes : List ℕ) (t : Bool) → next < 2 ^ 32 → number < 2 ^ 32 → BytesAt P number bytes
    → BytesAt P (next + (new_if next number bytes t).0) (new_if next number bytes t).1
new_by P next number bytes true small less at i b e = subst (λ (n : ℕ). P n b) (sym (past_again next number i small less)) (at i b e)
new_by P next number bytes false small less at i b e =
    subst (λ (n : ℕ). P n b) (sym (past_old next number i small less)) (at (past next number + i) b (sym (slice_get-drop (past next number) bytes i) ∙ e))

new_at : (P : ℕ → ℕ → Type 0) (next number : ℕ) (bytes : List ℕ) → next < 2 ^ 32 → number < 2 ^ 32 → BytesAt P number bytes
    → BytesAt P (next + (new_part next number bytes).0) (new_part next number bytes).1
new_at P next number bytes small less at = new_by P next number bytes (ltb (past number next) (2 ^ 31)) small less at

-- ---- what is known once a segment came

one_of : (a c : Option ℕ) (b : ℕ) → first_of a c ≡ Some b → (a ≡ Some b) ⊎ (c ≡ Some b)
one_of None c b e = inr e
one_of (Some x) c b e = inl e

byte_is : (t : Bool) (x : Option ℕ) (b : ℕ) → cond t x None ≡ Some b → (t ≡ true) × (x ≡ Some b)
byte_is true x b e = (refl, e)
byte_is false x b e = absurd cc

laid_at : (P : ℕ → ℕ → Type 0) (next place : ℕ) (bytes : List ℕ) (known : List (Option ℕ)) → KnownAt P next known → BytesAt P (next + place) bytes → KnownAt P next (laid place bytes known)
laid_at P next place bytes known old new i b e = elim (one_of (known_at known i) (byte_at place bytes i) b (sym (known_laid place bytes known i) ∙ e)) [
  | inl before ↦ old i b before
  | inr now ↦
      let q = byte_is (leb place i) (slice_get bytes (i - place)) b now in
      elim (cases_lt i place) [
        | inl lt ↦ let no : leb place i ≡ false = lt-leb place i lt in absurd cc
        | inr le ↦
            let same : ((next + place) + (i - place)) % 2 ^ 32 ≡ (next + i) % 2 ^ 32 = ap (λ (n : ℕ). n % 2 ^ 32) (omega arith) in
            subst (λ (n : ℕ). P n b) same (new (i - place) b q.1)
      ]
]

-- ---- what is in order then

leading_known : (known : List (Option ℕ)) (i b : ℕ) → slice_get (leading known) i ≡ Some b → known_at known i ≡ Some b
leading_known [] i b e = absurd cc
leading_known (None ∷ known) i b e = absurd cc
leading_known (Some a ∷ known) zero b e = e
leading_known (Some a ∷ known) (suc i) b e = leading_known known i b e

rest_at : (P : ℕ → ℕ → Type 0) (next count : ℕ) (known : List (Option ℕ)) → KnownAt P next known → KnownAt P ((next + count) % 2 ^ 32) (drop count known)
rest_at P next count known at i b e =
    let same : (next + (count + i)) % 2 ^ 32 ≡ ((next + count) % 2 ^ 32 + i) % 2 ^ 32 = omega arith in
    subst (λ (n : ℕ). P n b) same (at (count + i) b (sym (get_or-drop count known i None) ∙ e))

behind : (xs ys : List ℕ) (i b : ℕ) → slice_get (xs ++ ys) i ≡ Some b → (slice_get xs i ≡ Some b) ⊎ ((length xs ≤ i) × (slice_get ys (i - length xs) ≡ Some b))
behind [] ys i b e = let same : i - 0 ≡ i = omega arith in inr (omega arith, rw same e)
behind (x ∷ xs) ys zero b e = inl e
behind (x ∷ xs) ys (suc i) b e = elim (behind xs ys i b e) [
  | inl here ↦ inl here
  | inr far ↦ let same : suc i - suc (length xs) ≡ i - length xs = omega arith in inr (omega (arith, far.0), rw same far.1)
]

append_at : (P : ℕ → ℕ → Type 0) (first : ℕ) (bytes piece : List ℕ) → BytesAt P first bytes → BytesAt P ((first + length bytes) % 2 ^ 32) piece → BytesAt P first (bytes ++ piece)
append_at P first bytes piece old new i b e = elim (behind bytes piece i b e) [
  | inl here ↦ old i b here
  | inr far ↦
      let same : ((first + length bytes) % 2 ^ 32 + (i - length bytes)) % 2 ^ 32 ≡ (first + i) % 2 ^ 32 = omega (arith, far.0) in
      subst (λ (n : ℕ). P n b) same (new (i - length bytes) b far.1)
]

-- ---- a stream

-- what a stream has stands from some number on, and what waits behind that
pub record Held (P : ℕ → ℕ → Type 0) (g : Gathering) : Type 0 where
  pub first : ℕ
  pub each : BytesAt P first g.ready
  pub next : g.next ≡ (first + length g.ready) % 2 ^ 32
  pub waiting : KnownAt P g.next g.waiting

settles : (P : ℕ → ℕ → Type 0) (g : Gathering) (known : List (Option ℕ)) → Held P g → KnownAt P g.next known → Held P (settled g known)
settles P g known p at =
    let front : BytesAt P g.next (leading known) = λ i b e. at i b (leading_known known i b e) in
    record {
      first = p.first;
      each = append_at P p.first g.ready (leading known) p.each (subst (λ (n : ℕ). BytesAt P n (leading known)) p.next front);
      next = ap (λ (n : ℕ). (n + length (leading known)) % 2 ^ 32) p.next ∙ omega (arith, length-append g.ready (leading known));
      waiting = rest_at P g.next (length (leading known)) known at;
    }

by_test : (P : ℕ → ℕ → Type 0) (t : Bool) (h k : Gathering) → Held P h → Held P k → Held P (cond t h k)
by_test P true h k p q = p
by_test P false h k p q = q

new_held : (P : ℕ → ℕ → Type 0) (g : Gathering) (new : ℕ × List ℕ) → Held P g → BytesAt P (g.next + new.0) new.1 → Held P (with_new g new)
new_held P g new p at =
    by_test P (eqb (length new.1) 0) g _ p
    (by_test P (is_near g.most new) (settled g (laid new.0 new.1 g.waiting)) g (settles P g (laid new.0 new.1 g.waiting) p (laid_at P g.next new.0 new.1 g.waiting p.waiting at)) p)

taken_held : (P : ℕ → ℕ → Type 0) (g : Gathering) (number : ℕ) (new : List ℕ) → number < 2 ^ 32 → Held P g → BytesAt P number new → Held P (taken g number new)
taken_held P g number new small p at =
    let less : g.next < 2 ^ 32 = omega (arith, p.next) in
    new_held P g (new_part g.next number new) p (new_at P g.next number new less small at)

-- ---- a side

-- the same of a side that may not be read
abbrev Backed : (ℕ → ℕ → Type 0) → Option Gathering → Type 0
Backed P None = Unit {0}
Backed P (Some g) = Held P g

backed_weaker : (P Q : ℕ → ℕ → Type 0) (o : Option Gathering) → ((n b : ℕ) → P n b → Q n b) → Backed P o → Backed Q o
backed_weaker P Q None f p = tt
backed_weaker P Q (Some g) f p = record { first = p.first; each = λ i b e. f _ b (p.each i b e); next = p.next; waiting = λ i b e. f _ b (p.waiting i b e) }

small_if : (b : Bool) (m n : ℕ) → m < 2 ^ 32 → n < 2 ^ 32 → cond b m n < 2 ^ 32
small_if true m n p q = p
small_if false m n p q = q

first_small : (o : Option ℕ) (s : Segment) → first_read o s < 2 ^ 32
first_small None s = omega arith
first_small (Some number) s = small_if (not s.is_syn && ltb (distance (number_of_first s) number) 65536) (number % 2 ^ 32) (number_of_first s) (omega arith) (omega arith)

begun_backed : (P : ℕ → ℕ → Type 0) (reads : Bool) (o : Option Gathering) (first : ℕ) → first < 2 ^ 32 → Backed P o → Backed P (cond reads (Some (unwrap_or o (awaiting first 4096))) o)
begun_backed P false o first small p = p
begun_backed P true (Some g) first small p = p
begun_backed P true None first small p = record { first = first; each = λ i b e. absurd cc; next = omega (arith, small); waiting = λ i b e. absurd cc }

front_at : (n : ℕ) (xs : List ℕ) (i b : ℕ) → slice_get (take n xs) i ≡ Some b → slice_get xs i ≡ Some b
front_at zero xs i b e = absurd cc
front_at (suc n) [] i b e = absurd cc
front_at (suc n) (x ∷ xs) zero b e = e
front_at (suc n) (x ∷ xs) (suc i) b e = front_at n xs i b e

gathered_backed : (P : ℕ → ℕ → Type 0) (s : Segment) (o : Option Gathering) → BytesAt P (number_of_first s) s.payload.items → Backed P o → Backed P (option_map (gathered s) o)
gathered_backed P s None at p = tt
gathered_backed P s (Some g) at p =
    let n = 8192 - length g.ready in
    taken_held P g (number_of_first s) (take n s.payload.items) (omega arith) p (λ i b e. at i b (front_at n s.payload.items i b e))

backed_if : (P : ℕ → ℕ → Type 0) (t : Bool) (o u : Option Gathering) → Backed P o → Backed P u → Backed P (cond t o u)
backed_if P true o u p q = p
backed_if P false o u p q = q

-- a segment of a side came
segment_backed : (P : ℕ → ℕ → Type 0) (room : Bool) (s : Segment) (f : Flow) → BytesAt P (number_of_first s) s.payload.items → Backed P f.stream → Backed P (with_segment room s f).stream
segment_backed P room s f at p =
    let begun = begun_backed P f.is_read f.stream (first_read f.received s) (first_small f.received s) p in
    backed_if P room (option_map (gathered s) (begun_by s f)) (begun_by s f) (gathered_backed P s (begun_by s f) at begun) begun

-- ---- both sides

-- the segments have the bytes of both
record Both (talk : List Segment) (c : Conversation) : Type 0 where
  pub dialler : Backed (StandsAt talk c.dialler) c.from_dialler.stream
  pub acceptor : Backed (StandsAt talk c.acceptor) c.from_acceptor.stream

-- the same bytes and ports
record Alike (c e : Conversation) : Type 0 where
  pub ports : (e.dialler ≡ c.dialler) × (e.acceptor ≡ c.acceptor)
  pub dialler : e.from_dialler.stream ≡ c.from_dialler.stream
  pub acceptor : e.from_acceptor.stream ≡ c.from_acceptor.stream

alike_itself : (c : Conversation) → Alike c c
alike_itself c = record { ports = (refl, refl); dialler = refl; acceptor = refl }

alike_if : (b : Bool) (c d e : Conversation) → Alike c d → Alike c e → Alike c (cond b d e)
alike_if true c d e p q = p
alike_if false c d e p q = q

stream_if : (b : Bool) (f h k : Flow) → h.stream ≡ f.stream → k.stream ≡ f.stream → (cond b h k).stream ≡ f.stream
stream_if true f h k p q = p
stream_if false f h k p q = q

answer_stream : (o : Option ℕ) (f : Flow) → (with_answer o f).stream ≡ f.stream
answer_stream None f = refl
answer_stream (Some number) f = stream_if _ f _ f refl refl

end_stream : (s : Segment) (other f : Flow) → (with_end s other f).stream ≡ f.stream
end_stream s other f = stream_if _ f f _ refl refl

end_alike : (side : Side) (s : Segment) (c : Conversation) → Alike c (with_end_of side s c)
end_alike Dialler s c = record { ports = (refl, refl); dialler = end_stream s (with_answer s.acknowledges c.from_acceptor) c.from_dialler; acceptor = answer_stream s.acknowledges c.from_acceptor }
end_alike Acceptor s c = record { ports = (refl, refl); dialler = answer_stream s.acknowledges c.from_dialler; acceptor = end_stream s (with_answer s.acknowledges c.from_dialler) c.from_acceptor }

ending_alike : (side : Side) (s : Segment) (c : Conversation) → Alike c (with_ending side s c)
ending_alike side s c =
    alike_if (not (s.is_fin || s.is_reset)) c c _ (alike_itself c)
    (alike_if (can_end side s c) c (with_end_of side s c) _ (end_alike side s c) (record { ports = (refl, refl); dialler = refl; acceptor = refl }))

both_alike : (talk : List Segment) (c e : Conversation) → Alike c e → Both talk c → Both talk e
both_alike talk c e same p = record {
  dialler = subst (λ (x : Endpoint). Backed (StandsAt talk x) e.from_dialler.stream) (sym same.ports.0) (subst (Backed (StandsAt talk c.dialler)) (sym same.dialler) p.dialler);
  acceptor = subst (λ (x : Endpoint). Backed (StandsAt talk x) e.from_acceptor.stream) (sym same.ports.1) (subst (Backed (StandsAt talk c.acceptor)) (sym same.acceptor) p.acceptor);
}

shown_both : (talk : List Segment) (p : Shown × Bool) (c : Conversation) → Both talk c → Both talk (with_shown p c)
shown_both talk (shown.Nothing, true) c q = record { dialler = q.acceptor; acceptor = q.dialler }
shown_both talk (shown.Nothing, false) c q = record { dialler = q.dialler; acceptor = q.acceptor }
shown_both talk (shown.Handshake, true) c q = record { dialler = q.acceptor; acceptor = q.dialler }
shown_both talk (shown.Handshake, false) c q = record { dialler = q.dialler; acceptor = q.acceptor }
shown_both talk (shown.Mapper, true) c q = record { dialler = q.acceptor; acceptor = q.dialler }
shown_both talk (shown.Mapper, false) c q = record { dialler = q.dialler; acceptor = q.acceptor }
shown_both talk (shown.Tls, true) c q = record { dialler = tt; acceptor = tt }
shown_both talk (shown.Tls, false) c q = record { dialler = tt; acceptor = tt }
shown_both talk (shown.Other, true) c q = record { dialler = tt; acceptor = tt }
shown_both talk (shown.Other, false) c q = record { dialler = tt; acceptor = tt }

recognized_both : (talk : List Segment) (found : Shown) (c : Conversation) → Both talk c → Both talk (recognized_from found c)
recognized_both talk shown.Nothing c p = shown_both talk _ c p
recognized_both talk shown.Handshake c p = p
recognized_both talk shown.Mapper c p = p
recognized_both talk shown.Tls c p = p
recognized_both talk shown.Other c p = p

-- ---- a segment is taken

-- one more segment
later_stands : (talk : List Segment) (s : Segment) (from : Endpoint) (n b : ℕ) → StandsAt talk from n b → StandsAt (talk ++ s ∷ []) from n b
later_stands talk s from n b p = record {
  segment = p.segment;
  is_one = Contains-append_left talk (s ∷ []) p.segment p.is_one;
  is_from = p.is_from;
  no_reset = p.no_reset;
  place = p.place;
  byte_is = p.byte_is;
  number_is = p.number_is;
}

both_more : (talk : List Segment) (s : Segment) (c : Conversation) → Both talk c → Both (talk ++ s ∷ []) c
both_more talk s c p = record {
  dialler = backed_weaker (StandsAt talk c.dialler) (StandsAt (talk ++ s ∷ []) c.dialler) c.from_dialler.stream (later_stands talk s c.dialler) p.dialler;
  acceptor = backed_weaker (StandsAt talk c.acceptor) (StandsAt (talk ++ s ∷ []) c.acceptor) c.from_acceptor.stream (later_stands talk s c.acceptor) p.acceptor;
}

-- its own bytes
own_stands : (talk : List Segment) (s : Segment) (from : Endpoint) → s.from ≡ from → s.is_reset ≡ false → BytesAt (StandsAt (talk ++ s ∷ []) from) (number_of_first s) s.payload.items
own_stands talk s from is real i b e = record { segment = s; is_one = Contains-push talk s; is_from = is; no_reset = real; place = i; byte_is = e; number_is = refl }

from_acceptor : (c : Conversation) (s : Segment) → IsBetween c s → (s.from ≡ c.dialler → ⊥) → s.from ≡ c.acceptor
from_acceptor c s (inl g) other = absurd (other g.0)
from_acceptor c s (inr g) other = g.0

not_dialler : Acceptor ≡ Dialler → ⊥
not_dialler e = absurd cc

pieces_both : (talk : List Segment) (side : Side) (s : Segment) (c : Conversation) → IsBetween c s → IsFrom c s side → s.is_reset ≡ false → Both talk c → Both (talk ++ s ∷ []) (with_pieces side s c)
pieces_both talk Dialler s c between from real p =
    let q = both_more talk s c p in
    record {
      dialler = segment_backed (StandsAt (talk ++ s ∷ []) c.dialler) _ s c.from_dialler (own_stands talk s c.dialler (from.0 refl) real) q.dialler;
      acceptor = subst (Backed (StandsAt (talk ++ s ∷ []) c.acceptor)) (sym (answer_stream s.acknowledges c.from_acceptor)) q.acceptor;
    }
pieces_both talk Acceptor s c between from real p =
    let q = both_more talk s c p in
    record {
      dialler = subst (Backed (StandsAt (talk ++ s ∷ []) c.dialler)) (sym (answer_stream s.acknowledges c.from_dialler)) q.dialler;
      acceptor = segment_backed (StandsAt (talk ++ s ∷ []) c.acceptor) _ s c.from_acceptor
          (own_stands talk s c.acceptor (from_acceptor c s between (λ h. not_dialler (from.1 h))) real) q.acceptor;
    }

taken_both : (talk : List Segment) (s : Segment) (c e : Conversation) → IsBetween c s → Takes c s e → Both talk c → Both (talk ++ s ∷ []) e
taken_both talk s c e between (side, from, is) p =
    let n = with_sign s c in
    let all = talk ++ s ∷ [] in
    let m = cond s.is_reset n (with_pieces side s n) in
    let signed : Both talk n = record { dialler = p.dialler; acceptor = p.acceptor } in
    let one : Both all m = by s.is_reset refl signed in
    let two : Both all (with_ending side s m) = both_alike all m (with_ending side s m) (ending_alike side s m) one in
    subst (Both all) (sym is) (recognized_both all (with_ending side s m).shown (with_ending side s m) two) where
      by : (b : Bool) → s.is_reset ≡ b → Both talk (with_sign s c) → Both (talk ++ s ∷ []) (cond b (with_sign s c) (with_pieces side s (with_sign s c)))
      by true real q = both_more talk s (with_sign s c) q
      by false real q = pieces_both talk side s (with_sign s c) between from real q

-- ---- all of them

-- all are between the ports of the last one, and so of each
first_between : (c e : Conversation) (talk : List Segment) (x : Segment) → FoldsTo Takes c talk e → IsBetween e x → IsBetween c x
first_between c e [] x folds g = subst (λ (y : Conversation). IsBetween y x) (sym folds) g
first_between c e (s ∷ talk) x (d, takes, rest) g = between_before c s d x takes (first_between d e talk x rest g)

all_both : (done talk : List Segment) (c e : Conversation) → Both done c → FoldsTo Takes c talk e → All (IsBetween e) talk → Both (done ++ talk) e
all_both done [] c e p folds between = subst (λ (l : List Segment). Both l e) (sym (append-nil done)) (subst (Both done) folds p)
all_both done (s ∷ talk) c e p (d, takes, rest) between =
    let here : IsBetween c s = between_before c s d s takes (first_between d e talk s rest (between 0 s (omega arith))) in
    let more = all_both (done ++ s ∷ []) talk d e (taken_both done s c d here takes p) rest (λ k x within. between (suc k) x (omega (arith, within))) in
    subst (λ (l : List Segment). Both l e) (append_assoc done (s ∷ []) talk) more

stands_by : (P : ℕ → ℕ → Type 0) (f : Flow) → Backed P f.stream → (first : ℕ) × ((i b : ℕ) → slice_get (bytes_of f) i ≡ Some b → P ((first + i) % 2 ^ 32) b)
stands_by P f p = by f.stream refl p where
  by : (o : Option Gathering) → f.stream ≡ o → Backed P o → (first : ℕ) × ((i b : ℕ) → slice_get (bytes_of f) i ≡ Some b → P ((first + i) % 2 ^ 32) b)
  by None e q = (0, λ i b h. absurd (let no : slice_get [] i ≡ Some b = rw e at h in cc))
  by (Some g) e q = (q.first, λ i b h. q.each i b (rw e at h))

pub bytes_stand : (port : ℕ) (talk : List Segment) (c : Conversation) (side : Side) → IsConversation port talk c → All (IsBetween c) talk → Stand talk side c
bytes_stand port talk c side (first, later, is, folds) between =
    let p = all_both [] talk (begun port first) c (record { dialler = tt; acceptor = tt }) folds between in
    by side p where
      by : (x : Side) → Both talk c → Stand talk x c
      by Dialler q = stands_by (StandsAt talk c.dialler) c.from_dialler q.dialler
      by Acceptor q = stands_by (StandsAt talk c.acceptor) c.from_acceptor q.acceptor
