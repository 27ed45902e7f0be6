-- What a reader of a stream has to return: bodies of short frames and, once it is linked, counts of packets. It speaks
-- of the stream, so that it says nothing of how the bytes are kept.
use Rattle.std.specs.Prelude.{ℕ, ◌+◌, ◌-◌, ◌^◌, List, [], ◌++◌, Option, None, min}
use Rattle.std.specs.Int.{w16}
use Rattle.dist_frames.specs.Stream.{first_body, after_first, bodies, packets, partial}

-- a reader, before and after it is linked
pub data Reader : Type 0 where
  -- the bytes fed that were not moved out
  Short : List ℕ → Reader
  -- How many packets ended and were not reported. And what is kept of the next, as a stream that goes on as the original does:
  -- the bytes of its length that came, or a length that counts only the bytes still to come.
  Linked : ℕ → List ℕ → Reader

-- a count as the reader keeps it: at most the greatest number of 64 bits (our own choice)
abbrev pub capped_count : ℕ → ℕ
capped_count count = min count (2 ^ 64 - 1)

-- the reader when more bytes have come
abbrev pub with_bytes : Reader → List ℕ → Reader
with_bytes (Short pending) piece = Short (pending ++ piece)
with_bytes (Linked ended rest) piece = Linked (capped_count (ended + packets (rest ++ piece))) (partial (rest ++ piece))

-- the body that is moved out next
abbrev pub next_body : Reader → Option (List ℕ)
next_body (Short pending) = first_body w16 pending
next_body (Linked ended rest) = None

-- the bodies still to come of what was fed
abbrev pub to_come : Reader → List (List ℕ)
to_come (Short pending) = bodies pending
to_come (Linked ended rest) = []

-- the reader once that body was moved out; without a next body it is unchanged
abbrev pub without_next : Reader → Reader
without_next (Short pending) = Short (after_first w16 pending)
without_next (Linked ended rest) = Linked ended rest

-- the reader that treats all bytes not yet moved out as packets; a linked one is unchanged
abbrev pub as_linked : Reader → Reader
as_linked (Short pending) = with_bytes (Linked 0 []) pending
as_linked (Linked ended rest) = Linked ended rest

-- how many packets ended and were not reported
abbrev pub unreported : Reader → ℕ
unreported (Short pending) = 0
unreported (Linked ended rest) = ended

-- the reader once these packets are reported
abbrev pub without_count : Reader → Reader
without_count (Short pending) = Short pending
without_count (Linked ended rest) = Linked 0 rest

-- the bytes that were fed and not moved out; a linked reader keeps none of packets
abbrev pub rest_of : Reader → List ℕ
rest_of (Short pending) = pending
rest_of (Linked ended rest) = []

-- the reader is linked
abbrev pub IsLinked : Reader → Type 0
IsLinked (Short pending) = ⊥
IsLinked (Linked ended rest) = Unit {0}
