-- What a contract sees of the clients of a port mapper.
use Rattle.std.specs.Prelude.{◌≡◌, ◌≢◌, ℕ, ◌≤◌, Bool, false, ◌==◌, List, [], Option, Some, None}
use Rattle.std.specs.{Ordering.nat_cmp, BTreeMap.get}
use Rattle.dist_epmd.specs.Registrations.{Registrations, after_closed}
use Rattle.dist_epmd_clients.specs.Standing.{is_registered}
use Rattle.dist_epmd_clients.specs.declared.{client.Client.Client, client.Talk.TheVariants.Asking, holding.Clients.Clients}

-- The registrations are those that there were, at the same port. A creation may be used up.
pub record Keeps (before after : Registrations) : Type 0 where
  pub port : after.port ≡ before.port
  pub rows : after.rows ≡ before.rows
  pub creations : before.next ≤ after.next

module _ {S : Type 0} where
  -- the registry
  abbrev pub registrations_of : Clients S → Registrations
  registrations_of c = c.registry

  -- the number that the connection of the next client gets
  abbrev pub next_of : Clients S → ℕ
  next_of c = c.next

  -- the clients with the numbers of their connections, in the order in which they came
  abbrev pub clients_of : Clients S → List (ℕ × Client S)
  clients_of c = c.clients.entries

  -- the client of a connection
  abbrev pub client_of : Clients S → ℕ → Option (Client S)
  client_of c conn = get nat_cmp c.clients conn

  -- a client that just came
  abbrev pub new_client : S → Bool → ℕ → Client S
  new_client stream local since = record { stream = stream; local = local; since = since; talk = Asking [] }

  -- every other connection has the client that it had, or none
  abbrev pub OthersStay : ℕ → Clients S → Clients S → Type 0
  OthersStay conn old new = (other : ℕ) → (conn == other) ≡ false → client_of new other ≡ client_of old other

  -- A connection has this client now, or none, the registry is this one, and the other connections are as they were.
  pub record Becomes (client : Option (Client S)) (registrations : Registrations) (conn : ℕ) (old new : Clients S) : Type 0 where
    pub registry : registrations_of new ≡ registrations
    pub there : client_of new conn ≡ client
    pub others : OthersStay conn old new

  -- A connection has no client any more and no registration, and everything else is as it was, but that a creation may be used
  -- up.
  pub record Drops (conn : ℕ) (old new : Clients S) : Type 0 where
    pub registry : Keeps (after_closed conn (registrations_of old)) (registrations_of new)
    pub gone : client_of new conn ≡ None
    pub others : OthersStay conn old new

  -- Nothing is changed.
  pub record IsSame (old new : Clients S) : Type 0 where
    pub registry : registrations_of new ≡ registrations_of old
    pub clients : clients_of new ≡ clients_of old
    pub next : next_of new ≡ next_of old

  -- The clients and the registrations are those that there were.
  pub record IsKept (old new : Clients S) : Type 0 where
    pub registry : Keeps (registrations_of old) (registrations_of new)
    pub clients : clients_of new ≡ clients_of old

  -- Bytes take memory only where they are some, from a client that has not asked yet.
  abbrev pub CanLack : Option (Client S) → List ℕ → Type 0
  CanLack None piece = ⊥
  CanLack (Some client) piece = (is_registered (Some client) ≡ false) × (piece ≢ [])
