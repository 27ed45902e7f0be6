-- What a contract sees of a port mapper at its sockets.
use Rattle.std.specs.Prelude.{◌≡◌, ◌⊎◌, IfSome, ℕ, ◌+◌, Bool, true, false, Option, Some, None, drop, length, nat_lt, slice_get}
use Rattle.std.specs.List.{filter_map}
use Rattle.dist_epmd.specs.Registrations.{after_closed}
use Rattle.dist_stream.specs.{Stream.StreamState, declared.socket.SocketStream.SocketStream}
use Rattle.dist_epmd_clients.specs.Clients.{registrations_of, clients_of, next_of, new_client, Becomes, IsSame}
use Rattle.dist_epmd_clients.specs.{declared.holding.Clients.Clients, Journal.most_in, Standing.asking_since}
use Rattle.dist_epmd_server.specs.{declared.owing.Owing.Owing, declared.server.Server.Server, Attending.Attends, Owing.all_owed}

-- its clients
abbrev pub clients_at : Server → Clients SocketStream
clients_at server = server.clients

-- what it owes to those that have left
abbrev pub owing_at : Server → Owing SocketStream
owing_at server = server.owing

-- when it looked for late ones
abbrev pub swept_at : Server → ℕ
swept_at server = server.swept

-- after how many seconds one is late
abbrev pub seconds_of : Server → ℕ
seconds_of server = server.limits.seconds

-- how many events may wait
abbrev pub most_events : Server → ℕ
most_events server = most_in server.clients.journal

-- a connection, where it is ready
abbrev pub if_ready : Option ℕ → Bool → Option ℕ
if_ready None ready = None
if_ready (Some conn) true = Some conn
if_ready (Some conn) false = None

-- the client that came last, which is waited for by itself, where it is ready
abbrev pub ready_newest : Server → Option ℕ
ready_newest server = if_ready server.newest server.is_newest_ready

-- how many clients there may be at once, with those that have left and are owed something
abbrev pub most_of : Server → ℕ
most_of server = server.limits.clients

module _ {S : Type 0} where
  -- who is here for the longest of those that have not asked, and since when
  abbrev pub oldest_of : Clients S → Option (ℕ × ℕ)
  oldest_of clients = slice_get (filter_map asking_since (clients_of clients)) 0

  -- WHO MAKES ROOM: the oldest that has not asked is closed; where all have asked, what is owed on the oldest connection is
  -- dropped
  abbrev pub MakesRoom : Option (ℕ × ℕ) → Clients S → Clients S → Owing S → Owing S → Bool → Type 0
  MakesRoom None old new owing left made = IsSame old new × (all_owed left ≡ drop 1 (all_owed owing)) × (made ≡ nat_lt 0 (length (all_owed owing)))
  MakesRoom (Some oldest) old new owing left made = Becomes None (registrations_of old) oldest.0 old new × (all_owed left ≡ all_owed owing)
      × (made ≡ true)

  -- A PLACE IS FOUND: one is free, or somebody makes room
  abbrev pub FindsPlace : Bool → Clients S → Clients S → Owing S → Owing S → Bool → Type 0
  FindsPlace true old new owing left found = IsSame old new × (all_owed left ≡ all_owed owing) × (found ≡ true)
  FindsPlace false old new owing left found = MakesRoom (oldest_of old) old new owing left found

  -- the client that came on a connection is here under the next number, or, where it was not taken in, nothing is changed
  abbrev pub IsTakenIn : Option ℕ → S → Bool → ℕ → Clients S → Clients S → Type 0
  IsTakenIn None stream local now old new = IsSame old new
  IsTakenIn (Some conn) stream local now old new = (conn ≡ next_of old) × Becomes (Some (new_client stream local now)) (registrations_of old) conn old new

  -- A CLIENT COMES: a place is found for it, by what makes room where all are taken, and then it is taken in; where there is no
  -- place it is not
  pub record TakesIn (stream : S) (local : Bool) (now most : ℕ) (old new : Clients S) (owing left : Owing S) (taken : Option ℕ) : Type 0 where
    pub mid : Clients S
    pub found : Bool
    pub place : FindsPlace (nat_lt (length (clients_of old) + length (all_owed owing)) most) old mid owing left found
    pub shut_out : found ≡ false → taken ≡ None
    pub comes : IsTakenIn taken stream local now mid new

-- A CONNECTION COMES to a server: a client is taken in, and closed again where the system does not watch it
pub record ComesTo (now most : ℕ) (old new : Clients SocketStream) (owing left : Owing SocketStream) : Type 0 where
  pub stream : SocketStream
  pub local : Bool
  pub taken : Option ℕ
  pub mid : Clients SocketStream
  pub takes : TakesIn stream local now most old mid owing left taken
  pub watched : (new ≡ mid) ⊎ IfSome taken (λ conn. Becomes None (after_closed conn (registrations_of mid)) conn mid new)

-- THE CLIENT THAT CAME LAST IS SERVED where it is ready, like any other; else nothing is done for any client
abbrev pub ServesNewest : (SocketStream → StreamState) → Option ℕ → ℕ →
    Clients SocketStream → Clients SocketStream → Owing SocketStream → Owing SocketStream → Type 0
ServesNewest meaning None now old new owing after = (new ≡ old) × (after ≡ owing)
ServesNewest meaning (Some conn) now old new owing after = (again : Bool) × Attends meaning conn now old new owing after again
