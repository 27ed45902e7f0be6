-- What is done for a connection that is ready.
use Rattle.std.specs.{Prelude.◌≡◌, Prelude.ℕ, Prelude.Bool, Prelude.true, Prelude.false, Option.MatchOption}
use Rattle.dist_stream.specs.Stream.{StreamState}
use Rattle.dist_epmd_clients.specs.{declared.holding.Clients.Clients, Clients.client_of}
use Rattle.dist_epmd_server.specs.Owing.{all_owed, owed_to, AfterLeave, AfterTry, OthersOwed}
use Rattle.dist_epmd_server.specs.{declared.owing.Owing.Owing, declared.turns.ReadStep.ReadStep, Turns.Chain}
use Rattle.dist_epmd_server.specs.declared.turns.ReadStep.TheVariants as step

module _ {S : Type 0} (meaning : S → StreamState) where
  -- WHAT IS OWED AFTER A STEP, and whether the connection is watched again: a client that leaves is sent its text, or the text is owed
  -- to it; no other step changes what is owed.
  abbrev pub SettlesOwed : ReadStep S → ℕ → ℕ → Owing S → Owing S → Bool → Type 0
  SettlesOwed step.Quiet conn now old new again = (again ≡ false) × (all_owed new ≡ all_owed old)
  SettlesOwed step.More conn now old new again = (again ≡ true) × (all_owed new ≡ all_owed old)
  SettlesOwed step.Closed conn now old new again = (again ≡ false) × (all_owed new ≡ all_owed old)
  SettlesOwed (step.Leaves stream text) conn now old new again = AfterLeave meaning again stream text now conn old new

  -- A client is served: by reads one after another, each of which gives what came to the table, and then what the last of them
  -- asks for is done.
  pub record ServesClient (conn now : ℕ) (old new : Clients S) (owing after : Owing S) (again : Bool) : Type 0 where
    pub step : ReadStep S
    pub reads : Chain meaning conn old new step
    pub settles : SettlesOwed step conn now owing after again

  -- What is owed on a connection goes on by one write, and on no other. It is watched again exactly where something is left.
  pub record GoesOnOwed (conn : ℕ) (old new : Owing S) (again : Bool) : Type 0 where
    pub there : AfterTry meaning again (owed_to old conn) (owed_to new conn)
    pub others : OthersOwed conn old new

  -- WHAT IS DONE FOR A CONNECTION THAT IS READY: its client is served; where none is here, what is owed on it goes on, and no
  -- client is touched
  abbrev pub Attends : ℕ → ℕ → Clients S → Clients S → Owing S → Owing S → Bool → Type 0
  Attends conn now old new owing after again = MatchOption (client_of old conn)
      ((new ≡ old) × GoesOnOwed conn owing after again)
      (λ client. ServesClient conn now old new owing after again)
