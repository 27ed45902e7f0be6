-- One node more.
use Rattle.std.proofs.Common.{rules, ◌++◌, ◌∷◌, [], sym, ap, ◌∙◌}
use Rattle.std.proofs.lemmas.List.{append_assoc}
use Rattle.dist_cluster.specs.Statuses.{first_of}
use Rattle.distping.proofs.Named.{one_more}
use Rattle.distping.proofs.gathering.gather.Goals as goal

pub loop-target-preserved : goal.loop-target-preserved
loop-target-preserved g c = λ names same.
    let one = one_more c.args.context.now.wanted.now.targets.items names c.loop-target.target-index c.target-item.result same (search rules) (search rules) in
    let before = c.loop-target.invariant names same in
    let added = c.in_ok-take_target.ensures.node one.0 one.1 in (
      c.first_of-status.ensures ∙ ap (λ x. first_of x c.in_ok-take_target.field-0) before.0 ∙ added.0,
      added.1 ∙ ap (λ xs. xs ++ one.0 ∷ []) before.1 ∙ append_assoc c.args.nodes.now.names.items _ _ ∙ ap (λ xs. c.args.nodes.now.names.items ++ xs) (sym one.2),
    )
