-- What is owed to a client that has left: the rest of a text.
use Rattle.std.specs.{Prelude.◌≡◌, Prelude.ℕ, Prelude.List, Prelude.Option, Prelude.take, Prelude.drop, Io.KnownBytes.append_known}
use Rattle.dist_stream.specs.Stream.{StreamState}
use Rattle.dist_epmd_server.specs.declared.owed.Owed.{Owed}

module _ {S : Type 0} where
  -- the stream
  abbrev pub stream_of : Owed S → S
  stream_of owed = owed.stream

  -- the whole text
  abbrev pub owed_text : Owed S → List ℕ
  owed_text owed = owed.text

  -- when its client left
  abbrev pub since_of : Owed S → ℕ
  since_of owed = owed.since

  -- the front of it that the stream took
  abbrev pub said_of : Owed S → List ℕ
  said_of owed = take owed.done owed.text

  -- the rest of it
  abbrev pub left_of : Owed S → List ℕ
  left_of owed = drop owed.done owed.text

  -- That front of this text was written on the stream, behind what was written before, and no other byte.
  abbrev pub IsSent : (S → StreamState) → Option (List ℕ) → Owed S → Type 0
  IsSent meaning before owed = (meaning owed.stream).written ≡ append_known before (said_of owed)

  -- WHAT A CLIENT THAT HAS LEFT IS SENT IN ALL: what was written on its stream, and then what is left.
  abbrev pub sent_in_all : (S → StreamState) → Owed S → Option (List ℕ)
  sent_in_all meaning owed = append_known (meaning owed.stream).written (left_of owed)
