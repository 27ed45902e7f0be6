use Rattle.std.proofs.Common.{arith, refl, ◌∙◌, sym}
use Rattle.dist_world_lives.proofs.Reset.{forbids_past, forbids_refused, has_reset, not_reset}
use Rattle.dist_world_lives.proofs.incarnations.reset_life.Goals as goal

pub returns-then-place-len : goal.returns-then-place-len
returns-then-place-len c = (forbids_past c.args.lives.now.items c.args.place c.args.wanted (omega arith), refl)

pub returns-in-Ok : goal.returns-in-Ok
returns-in-Ok c = has_reset c.args.lives.now.items c.args.place c.index_mut-life.result.now (omega arith) c.index_mut-life.ensures.value c.args.wanted c.reset.new.self c.in-Ok.ensures.node c.in-Ok.ensures.same

pub returns-then-is_out_of_memory : goal.returns-then-is_out_of_memory
returns-then-is_out_of_memory c = not_reset c.args.lives.now.items c.args.place c.index_mut-life.result.now (omega arith) c.index_mut-life.ensures.value c.args.wanted c.in-Err.refusal c.reset.new.self c.in-Err.ensures.node c.in-Err.ensures.same

pub returns-else-is_out_of_memory : goal.returns-else-is_out_of_memory
returns-else-is_out_of_memory c = (
  forbids_refused c.args.lives.now.items c.args.place c.index_mut-life.result.now (omega arith) c.index_mut-life.ensures.value c.args.wanted c.in-Err.refusal c.reset.new.self (sym c.is_out_of_memory.ensures ∙ c.if-is_out_of_memory.false) c.in-Err.ensures.node,
  not_reset c.args.lives.now.items c.args.place c.index_mut-life.result.now (omega arith) c.index_mut-life.ensures.value c.args.wanted c.in-Err.refusal c.reset.new.self c.in-Err.ensures.node c.in-Err.ensures.same,
)
