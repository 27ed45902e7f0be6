-- A read and a write of a connection, as one sees them who takes the front of what comes.
use Rattle.std.proofs.Common.{◌≡◌, ℕ, ◌≤◌, Bool, true, false, List, ◌||◌, length, take, None, refl, sym, ap, ◌∙◌, arith}
use Rattle.std.specs.Io.KnownBytes.{prepend_known}
use Rattle.dist_stream.specs.Stream.{Reads, StreamState, Writes, heard_count, is_end}
use Rattle.dist_stream.specs.declared.stream.{Heard.Heard, Took.Took}
use Rattle.dist_stream.specs.declared.stream.Heard.TheVariants as heard
use Rattle.distping.specs.Fronts.{front_meaning}

or_swap : (a b c : Bool) → (a || (b || c)) ≡ (b || (a || c))
or_swap true true c = refl
or_swap true false c = refl
or_swap false b c = refl

-- a read whose bytes have room
pub reads_front : (cut : Bool) (old new : StreamState) (part room : List ℕ) (heard : Heard) → heard_count heard ≤ length room
    → Reads old new part heard → Reads (front_meaning cut old) (front_meaning cut new) room heard
reads_front cut old new part room heard fits reads = record {
  fits = fits;
  unread = refl;
  written = reads.written;
  calls = reads.calls;
  ended = ap (λ e. cut || e) reads.ended ∙ or_swap cut (is_end heard) old.ended;
  all = λ e. tt;
  read_failed = reads.read_failed;
  write_failed = reads.write_failed;
}

-- a read of such a stream into a part of a room
pub reads_wider : (old new : StreamState) (part room : List ℕ) (heard : Heard) → length part ≤ length room → (new.unread ≡ None) → (old.unread ≡ None)
    → Reads old new part heard → Reads old new room heard
reads_wider old new part room heard wider none none_before reads = record {
  fits = omega (arith, wider, reads.fits);
  unread = none_before ∙ ap (prepend_known (take (heard_count heard) room)) (sym none);
  written = reads.written;
  calls = reads.calls;
  ended = reads.ended;
  all = reads.all;
  read_failed = reads.read_failed;
  write_failed = reads.write_failed;
}

-- a read whose bytes are left out, which is an end
pub reads_behind : (cut : Bool) (old new : StreamState) (part room : List ℕ) (n : ℕ)
    → Reads old new part (heard.Bytes n) → Reads (front_meaning cut old) (front_meaning true new) room (heard.Bytes 0)
reads_behind cut old new part room n reads = record {
  fits = omega arith;
  unread = refl;
  written = reads.written;
  calls = reads.calls;
  ended = refl;
  all = λ e. tt;
  read_failed = reads.read_failed;
  write_failed = reads.write_failed;
}

-- a write
pub writes_front : (cut : Bool) (old new : StreamState) (bytes : List ℕ) (took : Took)
    → Writes old new bytes took → Writes (front_meaning cut old) (front_meaning cut new) bytes took
writes_front cut old new bytes took writes = record {
  fits = writes.fits;
  written = writes.written;
  unread = refl;
  calls = writes.calls;
  ended = ap (λ e. cut || e) writes.ended;
  read_failed = writes.read_failed;
  write_failed = writes.write_failed;
}
