-- What is owed to all clients that have left.
use Rattle.std.specs.Prelude.{◌≡◌, ℕ, ◌==◌, ◌||◌, ◌++◌, Bool, true, false, List, Option, Some, None, length, take, drop, nat_le, if◌then◌else◌}
use Rattle.std.specs.{Io.KnownBytes.append_known, Ordering.nat_cmp, BTreeMap.BTreeMap, BTreeMap.get, BTreeMap.insert_entry, BTreeMap.Updates}
use Rattle.dist_stream.specs.Stream.{StreamState}
use Rattle.dist_epmd_server.specs.Owed.{stream_of, owed_text, since_of, said_of, left_of, sent_in_all, IsSent}
use Rattle.dist_epmd_server.specs.declared.{owed.Owed.Owed, owing.Owing.Owing}

module _ {S : Type 0} where
  -- all that is owed, with the numbers of the connections, in the order in which they came
  abbrev pub all_owed : Owing S → List (ℕ × Owed S)
  all_owed owing = owing.owed.entries

  -- what is owed on a connection
  abbrev pub owed_to : Owing S → ℕ → Option (Owed S)
  owed_to owing conn = get nat_cmp owing.owed conn

  -- what stays where one more is to be kept: of 64 the oldest connection's is dropped
  abbrev pub but_oldest : List (ℕ × Owed S) → List (ℕ × Owed S)
  but_oldest all = if nat_le 64 (length all) then drop 1 all else all

  -- on every other connection is owed what was
  abbrev pub OthersOwed : ℕ → Owing S → Owing S → Type 0
  OthersOwed conn old new = (other : ℕ) → (conn == other) ≡ false → owed_to new other ≡ owed_to old other

module _ {S : Type 0} (meaning : S → StreamState) where
  -- A FIRST TRY TO SEND A TEXT, behind what was written on its stream before. It is over where the write failed or all is sent.
  pub record FirstTry (stream : S) (text : List ℕ) (now : ℕ) (owed : Owed S) (over : Bool) : Type 0 where
    pub whole : owed_text owed ≡ text
    pub since : since_of owed ≡ now
    pub sent : IsSent meaning (meaning stream).written owed
    pub in_all : sent_in_all meaning owed ≡ append_known (meaning stream).written text
    pub failed : Bool
    pub marked : (meaning (stream_of owed)).write_failed ≡ (failed || (meaning stream).write_failed)
    pub is_over : over ≡ (failed || nat_le (length (left_of owed)) 0)

  -- ONE TRY MORE: some of what was left is sent, from its first byte, and nothing else. It is over where the write failed or
  -- all is sent.
  pub record TryMore (old new : Owed S) (over : Bool) : Type 0 where
    pub whole : owed_text new ≡ owed_text old
    pub since : since_of new ≡ since_of old
    pub count : ℕ
    pub said : said_of new ≡ said_of old ++ take count (left_of old)
    pub left : left_of new ≡ drop count (left_of old)
    pub written : (meaning (stream_of new)).written ≡ append_known (meaning (stream_of old)).written (take count (left_of old))
    pub in_all : sent_in_all meaning new ≡ sent_in_all meaning old
    pub failed : Bool
    pub marked : (meaning (stream_of new)).write_failed ≡ (failed || (meaning (stream_of old)).write_failed)
    pub is_over : over ≡ (failed || nat_le (length (left_of new)) 0)

  -- Something is owed before and after, and one try more leads from one to the other.
  abbrev pub Tried : Bool → Option (Owed S) → Option (Owed S) → Type 0
  Tried over (Some old) (Some new) = TryMore old new over
  Tried over (Some old) None = ⊥
  Tried over None new = ⊥

  -- The same in a table, where all others are as they were.
  pub record TriedIn (conn : ℕ) (old new : BTreeMap ℕ (Owed S)) (over : Bool) : Type 0 where
    pub there : Tried over (get nat_cmp old conn) (get nat_cmp new conn)
    pub others : Updates nat_cmp old new conn (get nat_cmp new conn)

  -- WHAT IS OWED ON A CONNECTION AFTER ONE TRY MORE: what goes on stays, and what is over is owed no longer
  abbrev pub AfterTry : Bool → Option (Owed S) → Option (Owed S) → Type 0
  AfterTry goes None new = (new ≡ None) × (goes ≡ false)
  AfterTry goes (Some old) None = (goes ≡ false) × ((last : Owed S) × TryMore old last true)
  AfterTry goes (Some old) (Some new) = (goes ≡ true) × TryMore old new false

  -- A CLIENT LEFT WITH A TEXT, of which its stream took a front at once. The rest is owed to it; else all was sent, the write
  -- failed, or memory ran out. Where something was left, a place among what is owed was made first.
  abbrev pub AfterLeave : Bool → S → List ℕ → ℕ → ℕ → Owing S → Owing S → Type 0
  AfterLeave true stream text now conn old new = (owed : Owed S) × FirstTry stream text now owed false
      × (all_owed new ≡ insert_entry nat_cmp (but_oldest (all_owed old)) conn owed)
  AfterLeave false stream text now conn old new = (owed : Owed S) × (over : Bool) × FirstTry stream text now owed over
      × (all_owed new ≡ (if over then all_owed old else but_oldest (all_owed old)))
