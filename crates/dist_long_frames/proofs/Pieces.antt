-- Pieces of a stream of long frames, and what short frames have of them.
use Rattle.std.proofs.Common.{◌≡◌, ℕ, zero, suc, ◌-◌, ◌<◌, ◌≤◌, Bool, true, false, ◌||◌, ◌==◌, cond, List, [], ◌∷◌, ◌++◌, length, take, Option, None, Some, refl, sym, ap, ◌∙◌, subst}
use borrow.Rule.Slice.PartMut.{put_mid, post_of}
use lib.Seq.{take-append-le}
use Rattle.std.proofs.Common.{arith, length-append, length-take, take-take}
use Rattle.std.specs.{Int.w16, Int.from_be_bytes, Io.KnownBytes.prepend_known, Io.KnownBytes.append_known, Io.KnownBytes.IsAtEnd, Option.ForSome, Prelude.option_map}
use Rattle.dist_stream.specs.Stream.{Reads, StreamState, Writes, heard_count, is_failed_read, took_count}
use Rattle.dist_stream.specs.declared.stream.{Heard.Heard, Took.Took}
use Rattle.dist_stream.specs.declared.stream.Heard.TheVariants as heard
use Rattle.dist_stream.specs.declared.stream.Took.TheVariants as took
use Rattle.dist_long_frames.specs.Shortened.{after, frame_end, front_place, is_last_tag, is_shared, is_too_long, place_after, rest_place, room_at, shared_before, shortened}
use Rattle.dist_long_frames.specs.State.{long_state}
use Rattle.dist_long_frames.specs.declared.place.Place.{Place}
use Rattle.dist_long_frames.specs.declared.place.Place.TheVariants as place

not_true : false ≡ true → ⊥
not_true h = cc

no : {P : Type 0} → false ≡ true → P
no h = absurd (not_true h)

-- a number that is not 0, where it is compared with 0
pub some-test : (n : ℕ) → 0 < n → (n == 0) ≡ false
some-test n h = grind arith

pub rest-at : (n : ℕ) (last : Bool) → 0 < n → rest_place n last ≡ place.Body n last
rest-at n last h = ap (λ b. cond b (frame_end last) (place.Body n last)) (some-test n h)

pub front-at : (n : ℕ) → 0 < n → front_place n ≡ place.Tag n
front-at n h = ap (λ b. cond b place.First (place.Tag n)) (some-test n h)

-- ---- bytes

shared-append : (shared : Bool) (byte : ℕ) (xs ys : List ℕ) → shared_before shared byte (xs ++ ys) ≡ shared_before shared byte xs ++ ys
shared-append true byte xs ys = refl
shared-append false byte xs ys = refl

-- what comes behind a piece is shortened from the place behind it
pub shortened-append : (p : Place) (xs ys : List ℕ) → shortened p (xs ++ ys) ≡ shortened p xs ++ shortened (place_after p xs) ys
shortened-append p [] ys = refl
shortened-append p (byte ∷ rest) ys =
    ap (shared_before (is_shared p) byte) (shortened-append (after p byte) rest ys) ∙ shared-append (is_shared p) byte (shortened (after p byte) rest) _

pub place-append : (p : Place) (xs ys : List ℕ) → place_after p (xs ++ ys) ≡ place_after (place_after p xs) ys
place-append p [] ys = refl
place-append p (byte ∷ rest) ys = place-append (after p byte) rest ys

rest-fine : (n : ℕ) (last : Bool) → is_too_long (rest_place n last) ≡ false
rest-fine zero true = refl
rest-fine zero false = refl
rest-fine (suc n) last = ap is_too_long (rest-at (suc n) last (omega arith))

front-fine : (n : ℕ) → is_too_long (front_place n) ≡ false
front-fine zero = refl
front-fine (suc n) = ap is_too_long (front-at (suc n) (omega arith))

-- bytes of a body are kept
body-kept : (n : ℕ) (last : Bool) (xs : List ℕ) → length xs ≤ n
    → (shortened (rest_place n last) xs ≡ xs) × (is_too_long (place_after (rest_place n last) xs) ≡ false)
body-kept n last [] h = (refl, rest-fine n last)
body-kept zero last (x ∷ xs) h = absurd (omega arith)
body-kept (suc n) last (x ∷ xs) h =
    let at = rest-at (suc n) last (omega arith) in
    let r = body-kept (suc n - 1) last xs (omega arith) in
    (ap (λ p. shortened p (x ∷ xs)) at ∙ ap (λ (l : List ℕ). x ∷ l) r.0, ap (λ p. is_too_long (place_after p (x ∷ xs))) at ∙ r.1)

-- what comes behind the last frame is kept
pub beyond-kept : (xs : List ℕ) → shortened place.Beyond xs ≡ xs
beyond-kept [] = refl
beyond-kept (x ∷ xs) = ap (λ (l : List ℕ). x ∷ l) (beyond-kept xs)

beyond-fine : (xs : List ℕ) → is_too_long (place_after place.Beyond xs) ≡ false
beyond-fine [] = refl
beyond-fine (x ∷ xs) = beyond-fine xs

-- a piece that is shared is kept
pub shared-kept : (p : Place) (xs : List ℕ) → is_shared p ≡ true → length xs ≤ room_at p → (shortened p xs ≡ xs) × (is_too_long (place_after p xs) ≡ false)
shared-kept place.Third [] shared h = (refl, refl)
shared-kept place.Third (x ∷ []) shared h = (refl, refl)
shared-kept place.Third (x ∷ y ∷ xs) shared h = absurd (omega arith)
shared-kept (place.Fourth high) [] shared h = (refl, refl)
shared-kept (place.Fourth high) (x ∷ []) shared h = (refl, front-fine (from_be_bytes w16 (high ∷ x ∷ [])))
shared-kept (place.Fourth high) (x ∷ y ∷ xs) shared h = absurd (omega arith)
shared-kept (place.Tag n) [] shared h = (refl, refl)
shared-kept (place.Tag n) (x ∷ []) shared h = (refl, rest-fine (n - 1) (is_last_tag x))
shared-kept (place.Tag n) (x ∷ y ∷ xs) shared h = absurd (omega arith)
shared-kept (place.Body zero last) [] shared h = (refl, refl)
shared-kept (place.Body zero last) (x ∷ []) shared h = (refl, rest-fine (zero - 1) last)
shared-kept (place.Body zero last) (x ∷ y ∷ xs) shared h = absurd (omega arith)
shared-kept (place.Body (suc n) last) xs shared h =
    let at = rest-at (suc n) last (omega arith) in
    let room : room_at (place.Body (suc n) last) ≡ suc n = ap (λ b. cond b 1 (suc n)) (some-test (suc n) (omega arith)) in
    let r = body-kept (suc n) last xs (subst (λ (m : ℕ). length xs ≤ m) room h) in
    (ap (λ p. shortened p xs) (sym at) ∙ r.0, ap (λ p. is_too_long (place_after p xs)) (sym at) ∙ r.1)
shared-kept place.Beyond xs shared h = (beyond-kept xs, beyond-fine xs)
shared-kept place.First xs shared h = no shared
shared-kept place.Second xs shared h = no shared
shared-kept place.TooLong xs shared h = no shared

one-dropped : (p : Place) (xs : List ℕ) → is_shared p ≡ false → length xs ≤ 1 → shortened p xs ≡ []
one-dropped p [] shared h = refl
one-dropped p (x ∷ []) shared h = rw shared refl
one-dropped p (x ∷ y ∷ xs) shared h = absurd (omega arith)

-- a piece that is not shared is dropped
pub unshared-dropped : (p : Place) (xs : List ℕ) → is_shared p ≡ false → length xs ≤ room_at p → shortened p xs ≡ []
unshared-dropped place.First xs shared h = one-dropped place.First xs shared h
unshared-dropped place.Second xs shared h = one-dropped place.Second xs shared h
unshared-dropped place.TooLong xs shared h = one-dropped place.TooLong xs shared h
unshared-dropped place.Third xs shared h = no (sym shared)
unshared-dropped (place.Fourth high) xs shared h = no (sym shared)
unshared-dropped (place.Tag n) xs shared h = no (sym shared)
unshared-dropped (place.Body n last) xs shared h = no (sym shared)
unshared-dropped place.Beyond xs shared h = no (sym shared)

shared-fine : (p : Place) → is_shared p ≡ true → is_too_long p ≡ false
shared-fine place.Third h = refl
shared-fine (place.Fourth high) h = refl
shared-fine (place.Tag n) h = refl
shared-fine (place.Body n last) h = refl
shared-fine place.Beyond h = refl
shared-fine place.First h = refl
shared-fine place.Second h = refl
shared-fine place.TooLong h = no h

-- ---- states

unread-after : (p : Place) (xs : List ℕ) (known : Option (List ℕ))
    → option_map (shortened p) (prepend_known xs known) ≡ prepend_known (shortened p xs) (option_map (shortened (place_after p xs)) known)
unread-after p xs None = refl
unread-after p xs (Some ys) = ap Some (shortened-append p xs ys)

end-after : (p : Place) (known : Option (List ℕ)) → IsAtEnd known → IsAtEnd (option_map (shortened p) known)
end-after p None h = tt
end-after p (Some xs) h = ap (shortened p) h

or-swap : (a b c : Bool) → (a || (b || c)) ≡ (b || (a || c))
or-swap true true c = refl
or-swap true false c = refl
or-swap false b c = refl

-- a read that gave no bytes, or failed
pub reads-none : (p : Place) (old new : StreamState) (room : List ℕ) (heard : Heard) → take (heard_count heard) room ≡ []
    → Reads old new room heard → Reads (long_state p old) (long_state p new) room heard
reads-none p old new room heard none reads = record {
  fits = reads.fits;
  unread = ap (option_map (shortened p)) (reads.unread ∙ ap (λ l. prepend_known l new.unread) none) ∙ unread-after p [] new.unread
      ∙ ap (λ l. prepend_known l (option_map (shortened p) new.unread)) (sym none);
  written = ap (option_map (shortened place.First)) reads.written;
  calls = reads.calls;
  ended = reads.ended;
  all = λ e. end-after p new.unread (reads.all e);
  read_failed = ap (λ b. is_too_long p || b) reads.read_failed ∙ or-swap (is_too_long p) (is_failed_read heard) old.read_failed;
  write_failed = reads.write_failed;
}

-- a read of bytes that short frames have
pub reads-shared : (p : Place) (old new : StreamState) (room : List ℕ) (n : ℕ) → is_shared p ≡ true → length room ≤ room_at p
    → Reads old new room (heard.Bytes n) → Reads (long_state p old) (long_state (place_after p (take n room)) new) room (heard.Bytes n)
reads-shared p old new room n shared here reads =
    let kept = shared-kept p (take n room) shared (omega (arith, here, length-take n room)) in
    record {
      fits = reads.fits;
      unread = ap (option_map (shortened p)) reads.unread ∙ unread-after p (take n room) new.unread
          ∙ ap (λ l. prepend_known l (option_map (shortened (place_after p (take n room))) new.unread)) kept.0;
      written = ap (option_map (shortened place.First)) reads.written;
      calls = reads.calls;
      ended = reads.ended;
      all = λ e. end-after (place_after p (take n room)) new.unread (reads.all e);
      read_failed = ap (λ b. b || new.read_failed) kept.1 ∙ reads.read_failed ∙ sym (ap (λ b. b || old.read_failed) (shared-fine p shared));
      write_failed = reads.write_failed;
    }

stays-too-long : (xs : List ℕ) → is_too_long (place_after place.TooLong xs) ≡ true
stays-too-long [] = refl
stays-too-long (x ∷ xs) = stays-too-long xs

was-fine : (p : Place) (xs : List ℕ) → is_too_long (place_after p xs) ≡ false → is_too_long p ≡ false
was-fine place.First xs h = refl
was-fine place.Second xs h = refl
was-fine place.Third xs h = refl
was-fine (place.Fourth high) xs h = refl
was-fine (place.Tag n) xs h = refl
was-fine (place.Body n last) xs h = refl
was-fine place.Beyond xs h = refl
was-fine place.TooLong xs h = no (sym h ∙ stays-too-long xs)

-- a read of a part of a length that short frames lack
record Drops (p : Place) (old new : StreamState) (room : List ℕ) (n : ℕ) : Type 0 where
  unread : option_map (shortened p) old.unread ≡ prepend_known [] (option_map (shortened (place_after p (take n room))) new.unread)
  ended : new.ended ≡ old.ended

drops : (p : Place) (old new : StreamState) (room : List ℕ) (n : ℕ) → is_shared p ≡ false → 0 < n → length room ≤ room_at p
    → Reads old new room (heard.Bytes n) → Drops p old new room n
drops p old new room n shared some here reads = record {
  unread = ap (option_map (shortened p)) reads.unread ∙ unread-after p (take n room) new.unread
      ∙ ap (λ l. prepend_known l (option_map (shortened (place_after p (take n room))) new.unread))
      (unshared-dropped p (take n room) shared (omega (arith, here, length-take n room)));
  ended = reads.ended ∙ ap (λ b. b || old.ended) (some-test n some);
}

pub reads-dropped : (p : Place) (old new : StreamState) (room : List ℕ) (n : ℕ) → is_shared p ≡ false → 0 < n → length room ≤ room_at p
    → is_too_long (place_after p (take n room)) ≡ false
    → Reads old new room (heard.Bytes n) → Reads (long_state p old) (long_state (place_after p (take n room)) new) room heard.Quiet
reads-dropped p old new room n shared some here fine reads =
    let d = drops p old new room n shared some here reads in
    record {
      fits = omega arith;
      unread = d.unread;
      written = ap (option_map (shortened place.First)) reads.written;
      calls = reads.calls;
      ended = d.ended;
      all = λ e. no e;
      read_failed = ap (λ b. b || new.read_failed) fine ∙ reads.read_failed
          ∙ sym (ap (λ b. b || old.read_failed) (was-fine p (take n room) fine));
      write_failed = reads.write_failed;
    }

-- the same, if the length is too great
pub reads-too-long : (p : Place) (old new : StreamState) (room : List ℕ) (n : ℕ) → is_shared p ≡ false → 0 < n → length room ≤ room_at p
    → is_too_long (place_after p (take n room)) ≡ true
    → Reads old new room (heard.Bytes n) → Reads (long_state p old) (long_state (place_after p (take n room)) new) room heard.Failed
reads-too-long p old new room n shared some here long reads =
    let d = drops p old new room n shared some here reads in
    record {
      fits = omega arith;
      unread = d.unread;
      written = ap (option_map (shortened place.First)) reads.written;
      calls = reads.calls;
      ended = d.ended;
      all = λ e. no e;
      read_failed = ap (λ b. b || new.read_failed) long;
      write_failed = reads.write_failed;
    }

-- a read into the front of a room
pub reads-wider : (old new : StreamState) (part room : List ℕ) (most : ℕ) (heard : Heard)
    → Reads old new part heard → Reads old new (put_mid 0 most room part) heard
reads-wider old new part room most heard reads = record {
  fits = omega (arith, reads.fits, length-append part (post_of 0 most room));
  unread = reads.unread ∙ ap (λ l. prepend_known l new.unread) (sym (take-append-le (heard_count heard) part (post_of 0 most room) reads.fits));
  written = reads.written;
  calls = reads.calls;
  ended = reads.ended;
  all = reads.all;
  read_failed = reads.read_failed;
  write_failed = reads.write_failed;
}

-- ---- writes

written-after : (known : Option (List ℕ)) (xs : List ℕ) (q : Place) → ForSome known (λ bytes. q ≡ place_after place.First bytes)
    → option_map (shortened place.First) (append_known known xs) ≡ append_known (option_map (shortened place.First) known) (shortened q xs)
written-after None xs q led = refl
written-after (Some ys) xs q led = ap Some (shortened-append place.First ys xs ∙ ap (λ p. shortened place.First ys ++ shortened p xs) (sym (led ys refl)))

some-same : (x y : List ℕ) → Some x ≡ Some y → x ≡ y
some-same x y h = cc

led-on : (known : Option (List ℕ)) (xs : List ℕ) (q : Place) → ForSome known (λ bytes. q ≡ place_after place.First bytes)
    → ForSome (append_known known xs) (λ bytes. place_after q xs ≡ place_after place.First bytes)
led-on None xs q led = λ bytes e. absurd (cc)
led-on (Some ys) xs q led = λ bytes e.
    ap (λ p. place_after p xs) (led ys refl) ∙ sym (place-append place.First ys xs) ∙ ap (place_after place.First) (some-same (ys ++ xs) bytes e)

-- the place of the next byte, once more was written
pub led-after : (old new : Option (List ℕ)) (xs : List ℕ) (q : Place) → new ≡ append_known old xs → ForSome old (λ bytes. q ≡ place_after place.First bytes)
    → ForSome new (λ bytes. place_after q xs ≡ place_after place.First bytes)
led-after old new xs q grows led = λ bytes e. led-on old xs q led bytes (sym grows ∙ e)

-- a write of nothing, of whatever bytes
pub writes-none : (p q : Place) (old new : StreamState) (below bytes : List ℕ) (took : Took) → took_count took ≡ 0
    → ForSome old.written (λ bytes. q ≡ place_after place.First bytes)
    → Writes old new below took → Writes (long_state p old) (long_state p new) bytes took
writes-none p q old new below bytes took none led writes = record {
  fits = omega (arith, none);
  written = ap (option_map (shortened place.First)) (writes.written ∙ ap (append_known old.written) (ap (λ n. take n below) none))
      ∙ written-after old.written [] q led ∙ ap (append_known (option_map (shortened place.First) old.written)) (sym (ap (λ n. take n bytes) none));
  unread = ap (option_map (shortened p)) writes.unread;
  calls = writes.calls;
  ended = writes.ended;
  read_failed = ap (λ b. is_too_long p || b) writes.read_failed;
  write_failed = writes.write_failed;
}

-- a write of bytes that short frames have
pub writes-shared : (p q : Place) (old new : StreamState) (bytes : List ℕ) (n : ℕ) → is_shared q ≡ true → length bytes ≤ room_at q
    → ForSome old.written (λ bytes. q ≡ place_after place.First bytes)
    → Writes old new bytes (took.Bytes n) → Writes (long_state p old) (long_state p new) bytes (took.Bytes n)
writes-shared p q old new bytes n shared here led writes = record {
  fits = writes.fits;
  written = ap (option_map (shortened place.First)) writes.written ∙ written-after old.written (take n bytes) q led
      ∙ ap (append_known (option_map (shortened place.First) old.written)) (shared-kept q (take n bytes) shared (omega (arith, here, length-take n bytes))).0;
  unread = ap (option_map (shortened p)) writes.unread;
  calls = writes.calls;
  ended = writes.ended;
  read_failed = ap (λ b. is_too_long p || b) writes.read_failed;
  write_failed = writes.write_failed;
}

-- a write of a byte that short frames lack
pub writes-dropped : (p q : Place) (old new : StreamState) (below bytes : List ℕ) (n : ℕ) → is_shared q ≡ false → 0 < n → length below ≡ 1
    → ForSome old.written (λ bytes. q ≡ place_after place.First bytes)
    → Writes old new below (took.Bytes n) → Writes (long_state p old) (long_state p new) bytes took.Quiet
writes-dropped p q old new below bytes n shared some one led writes = record {
  fits = omega arith;
  written = ap (option_map (shortened place.First)) writes.written ∙ written-after old.written (take n below) q led
      ∙ ap (append_known (option_map (shortened place.First) old.written)) (one-dropped q (take n below) shared (omega (arith, one, length-take n below)));
  unread = ap (option_map (shortened p)) writes.unread;
  calls = writes.calls;
  ended = writes.ended;
  read_failed = ap (λ b. is_too_long p || b) writes.read_failed;
  write_failed = writes.write_failed ∙ ap (λ b. b || old.write_failed) (some-test n some);
}

-- a write of the front of some bytes
pub writes-wider : (old new : StreamState) (bytes : List ℕ) (most : ℕ) (took : Took)
    → Writes old new (take most bytes) took → Writes old new bytes took
writes-wider old new bytes most took writes = record {
  fits = omega (arith, writes.fits, length-take most bytes);
  written = writes.written ∙ ap (append_known old.written) (take-take (took_count took) most bytes (omega (arith, writes.fits, length-take most bytes)));
  unread = writes.unread;
  calls = writes.calls;
  ended = writes.ended;
  read_failed = writes.read_failed;
  write_failed = writes.write_failed;
}
