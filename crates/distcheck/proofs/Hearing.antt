-- What is read in no read, and in one more; and what is written.
use Rattle.std.proofs.Common.{◌≡◌, List, ℕ, ◌+◌, ◌-◌, ◌≤◌, [], ◌++◌, length, take, drop, Bool, true, false, refl, sym, ap, subst, ◌∙◌, append_assoc, append-nil, length-drop, take-add, arith}
use Rattle.std.proofs.KnownBytes.{prepend_known-nil}
use Rattle.std.specs.Io.KnownBytes.{prepend_known}
use Rattle.dist_stream.specs.{Stream.StreamState, Stream.Writes, Stream.took_count, declared.stream.Took.Took}
use Rattle.std.specs.Io.KnownBytes.{append_known}
use Rattle.std.proofs.lemmas.List.{length-take, take-take}
use Rattle.dist_stream.proofs.Talks.{append_known-append, append_known-none, prepend_known-append}
use Rattle.distcheck.specs.Seeing.{HearsMore, SaysFront, Wrote}

pub hears_none : (s : StreamState) (bytes : List ℕ) → HearsMore s s bytes bytes
hears_none s bytes = record { heard = []; unread = sym (prepend_known-nil s.unread); written = refl; after_is = sym (append-nil bytes) }

pub hears_on : {old mid new : StreamState} {a b c : List ℕ} → HearsMore old mid a b → HearsMore mid new b c → HearsMore old new a c
hears_on {new = new} {a = a} p q = record {
  heard = p.heard ++ q.heard;
  unread = p.unread ∙ ap (λ known. prepend_known p.heard known) q.unread ∙ prepend_known-append new.unread p.heard q.heard;
  written = q.written ∙ p.written;
  after_is = q.after_is ∙ ap (λ l. l ++ q.heard) p.after_is ∙ append_assoc a p.heard q.heard;
}

pub wrote_none : (s : StreamState) (bytes : List ℕ) → Wrote s s bytes 0
wrote_none s bytes = record { within = omega arith; written = sym (append_known-none s.written); unread = refl }

-- so many more of the bytes from there up to another place
pub wrote_more : {old mid new : StreamState} (bytes : List ℕ) (n e m : ℕ) → n ≤ e → e ≤ length bytes → Wrote old mid bytes n
    → Wrote mid new (take (e - n) (drop n bytes)) m → Wrote old new bytes (n + m)
wrote_more {old = old} bytes n e m order within p q =
    let part : m ≤ e - n = omega (arith, q.within, length-take (e - n) (drop n bytes)) in
    let front : take n bytes ++ take m (take (e - n) (drop n bytes)) ≡ take (n + m) bytes =
    ap (λ l. take n bytes ++ l) (take-take m (e - n) (drop n bytes) part) ∙ sym (take-add n m bytes) in
    record {
      within = omega (arith, part, order, within);
      written = q.written ∙ ap (λ known. append_known known (take m (take (e - n) (drop n bytes)))) p.written
          ∙ append_known-append old.written (take n bytes) (take m (take (e - n) (drop n bytes))) ∙ ap (append_known old.written) front;
      unread = q.unread ∙ p.unread;
    }

-- by one write of what is left
pub wrote_by : {old mid new : StreamState} (bytes : List ℕ) (n : ℕ) (took : Took) → n ≤ length bytes → Wrote old mid bytes n
    → Writes mid new (take (length bytes - n) (drop n bytes)) took → Wrote old new bytes (n + took_count took)
wrote_by bytes n took within p q =
    wrote_more bytes n (length bytes) (took_count took) within (omega arith) p record { within = q.fits; written = q.written; unread = q.unread }

-- to another place, if the part before it was written whole; else to some place
pub wrote_part : {old mid new : StreamState} (bytes : List ℕ) (n e : ℕ) (is_whole : Bool) → n ≤ e → e ≤ length bytes → Wrote old mid bytes n
    → SaysFront mid new (take (e - n) (drop n bytes)) is_whole → is_whole ≡ true → Wrote old new bytes e
wrote_part bytes n e is_whole order within p q all =
    let long : q.count ≡ length (take (e - n) (drop n bytes)) = q.whole all in
    let to : n + q.count ≡ e = omega (arith, long, length-take (e - n) (drop n bytes), length-drop n bytes, order, within) in
    subst (Wrote _ _ bytes) to (wrote_more bytes n e q.count order within p q.wrote)

pub wrote_some : {old mid new : StreamState} (bytes : List ℕ) (n e : ℕ) (is_whole : Bool) → n ≤ e → e ≤ length bytes → Wrote old mid bytes n
    → SaysFront mid new (take (e - n) (drop n bytes)) is_whole → SaysFront old new bytes false
wrote_some bytes n e is_whole order within p q = record { count = n + q.count; wrote = wrote_more bytes n e q.count order within p q.wrote; whole = λ f. absurd (cc) }
