use Rattle.std.proofs.Common.{◌≡◌, ◌≤◌, take}
use Rattle.dist_world_model.specs.{Agreement.AllFit, Run.count_applied, Run.run}
use Rattle.dist_world.proofs.scene.Scene.run.Given as goal

abbrev pub invariant-loop-i : goal.invariant-loop-i
invariant-loop-i l = record {
  world : l.self ≡ run (take l.i l.happenings) l.fn.self;
  counted : l.count ≡ count_applied (take l.i l.happenings) l.fn.self;
  few : l.count ≤ l.i;
  fit : AllFit (take l.i l.happenings);
}
