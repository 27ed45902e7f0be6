-- What a read of a connection leads to.
use Rattle.std.specs.Prelude.{◌≡◌, ◌≢◌, ◌⊎◌, ℕ, ◌==◌, Bool, true, false, List, Option, None, IfSome, take, length}
use Rattle.std.specs.Option.{MatchOption}
use Rattle.dist_epmd.specs.Registrations.{Registrations, after_closed}
use Rattle.dist_stream.specs.{Stream.StreamState, Stream.Reads, Stream.Writes, declared.stream.Heard.Heard, declared.stream.Took.Took}
use Rattle.dist_stream.specs.declared.stream.Heard.TheVariants as heard
use Rattle.dist_stream.specs.declared.stream.Took.TheVariants as took
use Rattle.dist_epmd_clients.specs.Clients.{registrations_of, client_of, OthersStay, Becomes, CanLack, Drops, IsSame}
use Rattle.dist_epmd_clients.specs.{Carrying.Carries, Carrying.Moved, Replying.Outcome, Replying.after_piece}
use Rattle.dist_epmd_clients.specs.declared.{client.Client.Client, holding.Clients.Clients, client.Turn.Turn}
use Rattle.dist_epmd_clients.specs.declared.client.Turn.TheVariants as turn
use Rattle.dist_epmd_server.specs.declared.turns.ReadStep.{ReadStep}
use Rattle.dist_epmd_server.specs.declared.turns.ReadStep.TheVariants as step

-- the step says that the client has left
abbrev pub HasLeft : {S : Type 0} → ReadStep S → Type 0
HasLeft step.Quiet = ⊥
HasLeft step.More = ⊥
HasLeft step.Closed = Unit {0}
HasLeft (step.Leaves stream text) = Unit {0}

module _ {S : Type 0} (meaning : S → StreamState) where
  -- A text was written on the stream whole, by one write.
  abbrev pub SaidWhole : List ℕ → S → S → Type 0
  SaidWhole text a b = Writes (meaning a) (meaning b) text (took.Bytes (length text))

  -- A text could not be written whole on a stream: one write took less of it, or nothing yet, or failed.
  pub record CutShort (text : List ℕ) (stream : S) : Type 0 where
    pub answer : Took
    pub after : S
    pub write : Writes (meaning stream) (meaning after) text answer
    pub less : answer ≢ took.Bytes (length text)

  -- A client is this one, with a text that was said to it, and the registry is this one.
  pub record Stays (text : List ℕ) (client : Option (Client S)) (registrations : Registrations) (conn : ℕ) (old new : Clients S) : Type 0 where
    pub registry : registrations_of new ≡ registrations
    pub there : Moved (SaidWhole text) client (client_of new conn)
    pub others : OthersStay conn old new

  -- A client goes on: it has not asked yet, or was answered that it is registered. Any other does not.
  abbrev pub GoesOn : Turn S → Option (Client S) → Registrations → ℕ → Clients S → Clients S → Type 0
  GoesOn turn.Wait client registrations conn old new = Becomes client registrations conn old new
  GoesOn (turn.Stay text) client registrations conn old new = Stays text client registrations conn old new
  GoesOn (turn.Leave stream text) client registrations conn old new = ⊥

  -- What was to be sent to a client that stays could not be sent whole.
  abbrev pub Unsaid : Turn S → Option (Client S) → Type 0
  Unsaid turn.Wait client = ⊥
  Unsaid (turn.Stay text) client = IfSome client (λ c. CutShort text c.stream)
  Unsaid (turn.Leave stream text) client = ⊥

  -- WHY A CLIENT IS CLOSED FOR A PIECE: it was to stay, but its answer could not be sent whole by one write, and so it leaves
  -- with its registration; or memory ran out for what it sent.
  abbrev pub IsClosed : Outcome S → List ℕ → ℕ → Clients S → Clients S → Type 0
  IsClosed after piece conn old new =
      (Unsaid after.turn after.client × Becomes None (after_closed conn after.registrations) conn old new)
      ⊎ (CanLack (client_of old conn) piece × Drops conn old new)

  -- WHAT A PIECE LEADS TO: what is to be sent to a client that leaves is returned with its stream; one that is registered is
  -- sent its answer whole, by one write; and a stream is let go only where its client has left.
  abbrev pub Follows : Outcome S → List ℕ → ℕ → Clients S → Clients S → ReadStep S → Type 0
  Follows after piece conn old new step.Quiet = ⊥
  Follows after piece conn old new step.More = GoesOn after.turn after.client after.registrations conn old new
  Follows after piece conn old new step.Closed = IsClosed after piece conn old new
  Follows after piece conn old new (step.Leaves stream text) = (after.turn ≡ turn.Leave stream text) × Becomes None after.registrations conn old new

  -- what follows from a piece; where there is none the connection is over
  abbrev pub FollowsPiece : Bool → List ℕ → ℕ → Clients S → Clients S → ReadStep S → Type 0
  FollowsPiece true piece conn old new made = (made ≡ step.Closed) × Becomes None (after_closed conn (registrations_of old)) conn old new
  FollowsPiece false piece conn old new made = Follows (after_piece conn (client_of old conn) piece (registrations_of old)) piece conn old new made

  -- what follows from what was read
  abbrev pub FollowsRead : Heard → List ℕ → ℕ → Clients S → Clients S → ReadStep S → Type 0
  FollowsRead heard.Quiet room conn old new made = (made ≡ step.Quiet) × IsSame old new
  FollowsRead heard.Failed room conn old new made = (made ≡ step.Closed) × Becomes None (after_closed conn (registrations_of old)) conn old new
  FollowsRead (heard.Bytes count) room conn old new made = FollowsPiece (count == 0) (take count room) conn old new made

  -- A read of a connection, and what follows.
  pub record Turns (room : List ℕ) (conn : ℕ) (old new : Clients S) (made : ReadStep S) : Type 0 where
    pub heard : Heard
    pub mid : Clients S
    pub read : Carries (λ a b. Reads (meaning a) (meaning b) room heard) conn old mid
    pub follows : FollowsRead heard room conn mid new made

  -- A read where nobody may be here: then nothing happens.
  abbrev pub TurnsAny : List ℕ → ℕ → Clients S → Clients S → ReadStep S → Type 0
  TurnsAny room conn old new made = MatchOption (client_of old conn) ((made ≡ step.Quiet) × IsSame old new) (λ client. Turns room conn old new made)

-- READS OF A CONNECTION, one after another: each but the first is made where the one before said that more may have come.
pub data Chain {S : Type 0} (meaning : S → StreamState) (conn : ℕ) (old : Clients S) : Clients S → ReadStep S → Type 0 where
  none : Chain meaning conn old old step.More
  next : (room : List ℕ) → (mid new : Clients S) → (made : ReadStep S) → Chain meaning conn old mid step.More →
      TurnsAny meaning room conn mid new made → Chain meaning conn old new made
