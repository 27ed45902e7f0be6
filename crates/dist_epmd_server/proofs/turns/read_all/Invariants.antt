-- The reads that were made, and all other clients are as they were.
use Rattle.std.proofs.Common.{◌<◌, length}
use Rattle.dist_epmd_clients.specs.Clients.{OthersStay}
use Rattle.dist_epmd_server.specs.{declared.turns.ReadStep.TheVariants.More, Turns.Chain}
use Rattle.dist_epmd_server.proofs.turns.read_all.Given as goal

abbrev pub invariant-loop : goal.invariant-loop
invariant-loop g l = record {
  turns : Chain g.S.Stream.meaning l.conn l.initial.clients l.clients More;
  others : OthersStay l.conn l.initial.clients l.clients;
  room : 0 < length l.room;
}
