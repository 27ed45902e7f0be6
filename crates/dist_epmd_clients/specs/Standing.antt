-- Which clients are registered, and that the registrations are theirs.
use Rattle.std.specs.Prelude.{◌≡◌, ℕ, ◌<◌, Bool, true, false, List, Option, Some, None, is_some}
use Rattle.std.specs.{Ordering.nat_cmp, BTreeMap.BTreeMap, BTreeMap.get}
use Rattle.dist_epmd.specs.Registrations.{Registrations, registered_name}
use Rattle.dist_epmd_clients.specs.declared.client.{Client.Client, Talk.Talk, Talk.TheVariants.Asking, Talk.TheVariants.Registered}

-- whether this is where the talk of a registered client stands
abbrev pub is_registered_talk : Talk → Bool
is_registered_talk (Asking said) = false
is_registered_talk (Registered name) = true

-- the name in the talk of a registered client
abbrev pub talk_name : Talk → Option (List ℕ)
talk_name (Asking said) = None
talk_name (Registered name) = Some name

module _ {S : Type 0} where
  -- whether there is a client, and its node is registered
  abbrev pub is_registered : Option (Client S) → Bool
  is_registered None = false
  is_registered (Some client) = is_registered_talk client.talk

  -- the name under which a client is registered, where there is a client and it is registered
  abbrev pub client_name : Option (Client S) → Option (List ℕ)
  client_name None = None
  client_name (Some client) = talk_name client.talk

  -- the number of a client that has not asked yet, and when it came
  abbrev pub asking_at : ℕ → Client S → Talk → Option (ℕ × ℕ)
  asking_at conn client (Asking said) = Some (conn, client.since)
  asking_at conn client (Registered name) = None

  -- the same of a client of the table, which has its number beside it
  abbrev pub asking_since : ℕ × Client S → Option (ℕ × ℕ)
  asking_since entry = asking_at entry.0 entry.1 entry.1.talk

  -- A REGISTRATION STANDS EXACTLY WHILE ITS CONNECTION DOES (Unregister a Node from EPMD): of each connection there is one where
  -- its client is here and was told that its node is registered, under the name that it was told, and none where it is not
  abbrev pub Stand : Registrations → BTreeMap ℕ (Client S) → Type 0
  Stand registrations clients = (conn : ℕ) → registered_name conn registrations ≡ client_name (get nat_cmp clients conn)

  -- the numbers of connections are below this one
  abbrev pub NumbersBelow : ℕ → BTreeMap ℕ (Client S) → Type 0
  NumbersBelow next clients = (conn : ℕ) → is_some (get nat_cmp clients conn) ≡ true → conn < next
