-- What a read or a write of a connection changes: its stream, and nothing else.
use Rattle.std.specs.Prelude.{◌≡◌, ℕ, Option, Some, None}
use Rattle.std.specs.{Ordering.nat_cmp, BTreeMap.BTreeMap, BTreeMap.get, BTreeMap.Updates}
use Rattle.dist_epmd_clients.specs.Clients.{registrations_of, client_of, OthersStay}
use Rattle.dist_epmd_clients.specs.declared.{client.Client.Client, holding.Clients.Clients}

module _ {S : Type 0} where
  -- the client with another stream
  abbrev pub with_stream : S → Client S → Client S
  with_stream stream client = record client { stream = stream }

  -- The client is here before and after, and only its stream is another, to which P leads.
  abbrev pub Moved : (S → S → Type 0) → Option (Client S) → Option (Client S) → Type 0
  Moved P (Some a) (Some b) = (b ≡ with_stream b.stream a) × P a.stream b.stream
  Moved P (Some a) None = ⊥
  Moved P None b = ⊥

  -- The same in a table, where all others are as they were.
  pub record Moves (P : S → S → Type 0) (conn : ℕ) (old new : BTreeMap ℕ (Client S)) : Type 0 where
    pub there : Moved P (get nat_cmp old conn) (get nat_cmp new conn)
    pub others : Updates nat_cmp old new conn (get nat_cmp new conn)

  -- The stream of a connection is another, to which P leads; nothing else changed.
  pub record Carries (P : S → S → Type 0) (conn : ℕ) (old new : Clients S) : Type 0 where
    pub registry : registrations_of new ≡ registrations_of old
    pub there : Moved P (client_of old conn) (client_of new conn)
    pub others : OthersStay conn old new
