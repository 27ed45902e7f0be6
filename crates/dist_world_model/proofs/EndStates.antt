-- How an end stands, read off the end and read off its row.
use Rattle.dist_world_model.proofs.Words.{◌≡◌, ℕ, Bool, true, false, not, ◌&&◌, ◌||◌, List, is_some, if◌then◌else◌, slice_get, Some, None, Option, refl, Name}
use Rattle.dist_world_model.proofs.Words.{Side, Acceptor, Dialler, Claim, End, Phase, Reply, EndRow, claim_when, holds_peer, past, peer_by, rises, says_reply}
use Rattle.dist_world_model.proofs.Words.{takes_name}
use Rattle.dist_core_ends.specs.declared.known.End.TheVariants as ends
use Rattle.dist_core_ends.specs.declared.phase.Phase.TheVariants as phase

-- an open end's side and peer, and which numbers its row has
pub record Stand : Type 0 where
  pub side : Side
  pub peer : Option Name
  pub named : Bool
  pub doomed : Bool
  pub replied : Bool
  pub rose : Bool

abbrev pub dialled_stand : Name → Bool → Bool → Stand
dialled_stand p doomed replied = record { side = Dialler; peer = Some p; named = false; doomed = doomed; replied = replied; rose = false }

abbrev pub named_stand : Name → Stand
named_stand p = record { side = Acceptor; peer = Some p; named = true; doomed = false; replied = false; rose = false }

-- an end of this side that may come up
abbrev pub ready_stand : Side → Name → Stand
ready_stand Dialler p = dialled_stand p false true
ready_stand Acceptor p = named_stand p

abbrev pub stand_in : Name → Phase → Stand
stand_in p phase.Dialing = dialled_stand p false false
stand_in p phase.DoomedDialing = dialled_stand p true false
stand_in p phase.AwaitStatus = dialled_stand p false false
stand_in p phase.Doomed = dialled_stand p true false
stand_in p phase.AwaitChallenge = dialled_stand p false false
stand_in p phase.AwaitAck = dialled_stand p false true
stand_in p phase.AwaitTrue = named_stand p
stand_in p phase.AwaitComplement = named_stand p
stand_in p phase.AwaitReply = named_stand p

-- the end was dialled
abbrev pub is_dialler : Side → Bool
is_dialler Dialler = true
is_dialler Acceptor = false

-- how an end stands; one that is up stands by its side
abbrev pub stand_of : Side → End → Option Stand
stand_of side ends.Unnamed = Some (record { side = Acceptor; peer = None; named = false; doomed = false; replied = false; rose = false })
stand_of side (ends.Attempt a) = Some (stand_in a.peer a.phase)
stand_of side (ends.Up r) = Some (record { side = side; peer = Some r.peer; named = not (is_dialler side); doomed = false; replied = is_dialler side; rose = true })
stand_of side (ends.Closed w) = None

abbrev pub stand_row : EndRow → Stand
stand_row row = record { side = row.side; peer = row.peer; named = is_some row.named; doomed = is_some row.doomed; replied = is_some row.replied; rose = is_some row.rose }

abbrev pub row_stand : EndRow → Option Stand
row_stand row = if is_some row.closed then None else Some (stand_row row)

-- the row is that of the end
abbrev pub Fits : End → EndRow → Type 0
Fits e row = stand_of row.side e ≡ row_stand row

abbrev pub Beside : Option End → Option EndRow → Type 0
Beside None None = Unit {0}
Beside (Some e) (Some row) = Fits e row
Beside o q = ⊥

-- EACH ROW STANDS BESIDE ITS END
abbrev pub AreBeside : List End → List EndRow → Type 0
AreBeside es rows = (i : ℕ) → Beside (slice_get es i) (slice_get rows i)

-- what a reply makes of it, where it does not close the end
abbrev pub stand_after : Bool → Bool → Reply → Stand → Stand
stand_after own doomed r s = record {
  side = s.side;
  peer = if own && takes_name r.note then peer_by r.note s.peer else s.peer;
  named = s.named || (own && takes_name r.note);
  doomed = s.doomed || doomed;
  replied = s.replied || (own && says_reply r.note);
  rose = s.rose || (own && rises r.up);
}

-- what it holds
abbrev pub stand_claim : Option Stand → Option Claim
stand_claim None = None
stand_claim (Some s) = claim_when s.side s.peer (holds_peer s.side true s.named) s.doomed s.rose

-- each number of a row is before t
pub record Below (t : ℕ) (row : EndRow) : Type 0 where
  pub given : past t (Some row.given) ≡ true
  pub named : past t row.named ≡ is_some row.named
  pub doomed : past t row.doomed ≡ is_some row.doomed
  pub replied : past t row.replied ≡ is_some row.replied
  pub rose : past t row.rose ≡ is_some row.rose
  pub closed : past t row.closed ≡ is_some row.closed

-- how an open end stands is what its row says
pub open-row : (s : Stand) (row : EndRow) → Some s ≡ row_stand row → (is_some row.closed ≡ false) × (s ≡ stand_row row)
open-row s row f = by (is_some row.closed) refl f
  where
    by : (b : Bool) → is_some row.closed ≡ b → Some s ≡ (if b then None else Some (stand_row row)) → (is_some row.closed ≡ false) × (s ≡ stand_row row)
    by true e q = absurd cc
    by false e q = (e, cc)
