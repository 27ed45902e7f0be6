-- A connection is read whose client is here.
use Rattle.std.proofs.Common.{Option, Some, None}
use Rattle.std.specs.Option.{MatchOption}
use Rattle.dist_epmd_clients.specs.{declared.client.Client.Client, Carrying.Moved}

-- a client is here that was read from
pub matched : {S : Type 0} (P : S → S → Type 0) (a b : Option (Client S)) (A B : Type 0) → Moved P a b → B → MatchOption a A (λ client. B)
matched P (Some a) (Some b) A B h q = q
matched P (Some a) None A B h q = absurd h
matched P None b A B h q = absurd h
