use Rattle.dist_script_play.proofs.Words.{cond, Some, None, Ok, refl, ap, ◌∙◌, inl, Events, Happenings, SameName}
use Rattle.dist_script_play.proofs.{Faults.bad_script, Faults.cut_short, Faults.stopped_world, Lines.was_played, Pages.at_err}
use Rattle.dist_script_play.proofs.playing.perform.Goals as goal
use Rattle.dist_script.specs.Scripts.{says}

pub returns-in-Events-clause-played : goal.returns-in-Events-clause-played
returns-in-Events-clause-played g c =
    was_played c.in_ok-text.text.items c.deref.result.now (Events c.in-Events.node c.in-Events.lines.items) (Events c.in-Events.node c.deref-in-Events.result.now) _ _ _ _
    c.in_ok-text.ensures.bytes c.in_ok-text.ensures.end c.in_ok-text.ensures.most c.deref.ensures.value (c.in_ok-node.ensures ∙ ap (λ s. Ok (says s)) c.in-Events.is)
    (ap (Events c.in-Events.node) c.deref-in-Events.ensures.value) refl (_, refl, c.in_ok-play_node-in-Events.ensures.text)

pub returns-clause-played : goal.returns-clause-played
returns-clause-played g c =
    was_played c.in_ok-text.text.items c.deref.result.now (Happenings c.in-Happenings.nodes.items c.in-Happenings.lines.items) (Happenings c.in-Happenings.nodes.items c.deref-in-Happenings.result.now) _ _ _ _
    c.in_ok-text.ensures.bytes c.in_ok-text.ensures.end c.in_ok-text.ensures.most c.deref.ensures.value (c.in_ok-node.ensures ∙ ap (λ s. Ok (says s)) c.in-Happenings.is)
    (ap (Happenings c.in-Happenings.nodes.items) c.deref-in-Happenings.ensures.value) (ap (λ b. cond b (Some SameName) None) c.in_ok-play_nodes-in-Happenings.ensures.names) c.in_ok-play_nodes-in-Happenings.ensures.text

pub returns-in_err-node-clause-fault : goal.returns-in_err-node-clause-fault
returns-in_err-node-clause-fault g c =
    at_err _ c.from_residual-in_err-node.result c.in_err-node.field-0.0 c.from_residual-in_err-node.ensures.1
    (bad_script _ _ _ c.in_ok-text.text.items c.deref.result.now _ c.in_ok-text.ensures.bytes c.in_ok-text.ensures.end c.in_ok-text.ensures.most c.deref.ensures.value c.in_err-node.ensures)

pub returns-in_err-play_node-in-Events-clause-fault : goal.returns-in_err-play_node-in-Events-clause-fault
returns-in_err-play_node-in-Events-clause-fault g c =
    at_err _ c.from_residual-in_err-play_node-in-Events.result c.in_err-play_node-in-Events.field-0.0 c.from_residual-in_err-play_node-in-Events.ensures.1
    (cut_short _ _ _ _ c.in_ok-text.text.items c.deref.result.now (Events c.in-Events.node c.in-Events.lines.items) (Events c.in-Events.node c.deref-in-Events.result.now) _
    c.in_ok-text.ensures.bytes c.in_ok-text.ensures.end c.in_ok-text.ensures.most c.deref.ensures.value (c.in_ok-node.ensures ∙ ap (λ s. Ok (says s)) c.in-Events.is)
    (ap (Events c.in-Events.node) c.deref-in-Events.ensures.value) refl (inl c.in_err-play_node-in-Events.ensures.cut))

pub returns-in_err-play_nodes-in-Happenings-clause-fault : goal.returns-in_err-play_nodes-in-Happenings-clause-fault
returns-in_err-play_nodes-in-Happenings-clause-fault g c =
    at_err _ c.from_residual-in_err-play_nodes-in-Happenings.result c.in_err-play_nodes-in-Happenings.field-0.0 c.from_residual-in_err-play_nodes-in-Happenings.ensures.1
    (stopped_world _ _ _ _ c.in_ok-text.text.items c.deref.result.now c.in-Happenings.nodes.items c.in-Happenings.lines.items c.deref-in-Happenings.result.now _
    c.in_ok-text.ensures.bytes c.in_ok-text.ensures.end c.in_ok-text.ensures.most c.deref.ensures.value (c.in_ok-node.ensures ∙ ap (λ s. Ok (says s)) c.in-Happenings.is) c.deref-in-Happenings.ensures.value c.in_err-play_nodes-in-Happenings.ensures.fault)
