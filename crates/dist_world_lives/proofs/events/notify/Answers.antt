use Rattle.dist_world_model.proofs.Words.{◌≡◌, true, sym, refl, ◌∙◌, arith, step, runs}
use Rattle.dist_world_lives.proofs.Notified.{stands, put_back, has_notified, declines_over, declines_refused, refused}
use Rattle.dist_world_lives.proofs.events.notify.Goals as goal

pub returns-then-not-runs-clause-ok : goal.returns-then-not-runs-clause-ok
returns-then-not-runs-clause-ok c =
    let l = c.index_mut-life.result.now in
    let at = stands c.args.lives.now.items c.args.place l (omega arith) c.index_mut-life.ensures.value in
    (declines_over c.args.lives.now.items c.args.place c.args.occasion.now.event.now c.args.occasion.now.fresh l at (sym c.runs.ensures ∙ c.if-not-runs.true), put_back c.args.lives.now.items c.args.place l (omega arith) c.index_mut-life.ensures.value l refl, refl)

pub returns-in-Ok-clause-ok : goal.returns-in-Ok-clause-ok
returns-in-Ok-clause-ok c =
    let l = c.index_mut-life.result.now in
    let run : runs l ≡ true = sym c.runs.ensures ∙ c.if-not-runs.false in
    has_notified c.args.lives.now.items c.args.place l (omega arith) c.index_mut-life.ensures.value c.a_reply_is_of_its_end.ensures.step c.args.occasion.now.clock c.args.occasion.now.event.now c.args.occasion.now.fresh c.args.conns.now c.step.new.conns c.step.new.self c.in-Ok.made c.who.result c.event_wire-wire.result run c.who.ensures c.event_wire-wire.ensures c.in-Ok.ensures

pub returns-else-is_out_of_memory-clause-ok : goal.returns-else-is_out_of_memory-clause-ok
returns-else-is_out_of_memory-clause-ok c =
    let l = c.index_mut-life.result.now in
    let at = stands c.args.lives.now.items c.args.place l (omega arith) c.index_mut-life.ensures.value in
    let k = c.in-Err.ensures in
    (declines_refused c.args.lives.now.items c.args.place c.args.occasion.now.event.now c.args.occasion.now.fresh l c.in-Err.refusal at (refused c.in-Err.refusal (step l.node c.args.occasion.now.event.now c.args.occasion.now.fresh) (sym c.is_out_of_memory.ensures ∙ c.if-is_out_of_memory.false) k.0), put_back c.args.lives.now.items c.args.place l (omega arith) c.index_mut-life.ensures.value c.step.new.self k.1, k.2)
