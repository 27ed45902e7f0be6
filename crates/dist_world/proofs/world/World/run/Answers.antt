use Rattle.dist_world_model.specs.Agreement.{IsReached}
use Rattle.dist_world.proofs.Agreed.{reached_after, decided_there}
use Rattle.dist_world.proofs.world.World.run.Goals as goal

pub invariant_of-self : goal.invariant_of-self
invariant_of-self c = reached_after c.worlds_are_reached.ensures.run c.run.result c.self.inside.scene c.run.new.self c.args.happenings.now c.self.invariant c.run.ensures.after c.run.ensures.stopped c.run.ensures.fit c.run.ensures.fit_so_far

pub returns-clause-decided : goal.returns-clause-decided
returns-clause-decided c =
    let reached : IsReached c.run.new.self = reached_after c.worlds_are_reached.ensures.run c.run.result c.self.inside.scene c.run.new.self c.args.happenings.now c.self.invariant c.run.ensures.after c.run.ensures.stopped c.run.ensures.fit c.run.ensures.fit_so_far in
    decided_there c.crossings_are_decided.ensures c.run.new.self reached

pub returns-clause-agree : goal.returns-clause-agree
returns-clause-agree c =
    let reached : IsReached c.run.new.self = reached_after c.worlds_are_reached.ensures.run c.run.result c.self.inside.scene c.run.new.self c.args.happenings.now c.self.invariant c.run.ensures.after c.run.ensures.stopped c.run.ensures.fit c.run.ensures.fit_so_far in
    c.nodes_agree.ensures.reached c.run.new.self reached

pub returns-clause-strangers : goal.returns-clause-strangers
returns-clause-strangers c =
    let reached : IsReached c.run.new.self = reached_after c.worlds_are_reached.ensures.run c.run.result c.self.inside.scene c.run.new.self c.args.happenings.now c.self.invariant c.run.ensures.after c.run.ensures.stopped c.run.ensures.fit c.run.ensures.fit_so_far in
    c.nodes_agree.ensures.strangers c.run.new.self reached
