use Rattle.std.proofs.Common.{[], ◌∷◌, ◌++◌, arith, refl, sym, append-nil, ap, take, take_all, ◌∙◌}
use Rattle.dist_names.specs.Flags.{has_all}
use Rattle.distping_report.specs.Objects.{names_among}
use Rattle.distping_report.proofs.Members.{names_more, text_tokens, texts_more, writes_texts}
use Rattle.distping_report.proofs.objects.member.put_names.Goals as goal
use Rattle.distping_report.proofs.objects.member.put_names.Goals.{then-has+in_ok-string, else-has}

pub loop-flag-init : goal.loop-flag-init
loop-flag-init c = (refl, sym (append-nil _))

pub loop-flag-preserved : goal.loop-flag-preserved
loop-flag-preserved c =
    let flags = c.args.flags.0 in
    let opened = c.begin_array.new.self in
    let names = names_among flags (take c.loop-flag.flag-index c.args.some.now) in
    elim c.if-has.branch [
      | then-has+in_ok-string w ↦ (
        ap (λ o. o.before) w.out-is ∙ w.in_ok-string.ensures.room.0 ∙ c.loop-flag.invariant.0,
        ap (λ o. o.tokens) w.out-is ∙ texts_more opened c.loop-flag.out w.string.new.self names w.name.result.now c.loop-flag.invariant.1 w.in_ok-string.ensures.ok
            ∙ ap (λ ss. opened.tokens ++ text_tokens ss) (ap (λ s. names ++ s ∷ []) w.name.ensures
            ∙ sym (names_more flags c.args.some.now c.loop-flag.flag-index _ _ (omega arith) (w.if-has.ensures.computed ∙ ap (has_all flags) c.flags.ensures))),
      )
      | else-has w ↦ (
        ap (λ o. o.before) w.out-is ∙ c.loop-flag.invariant.0,
        ap (λ o. o.tokens) w.out-is ∙ c.loop-flag.invariant.1
            ∙ ap (λ ss. opened.tokens ++ text_tokens ss) (sym (append-nil names)
            ∙ sym (names_more flags c.args.some.now c.loop-flag.flag-index _ _ (omega arith) (w.if-has.ensures.computed ∙ ap (has_all flags) c.flags.ensures))),
      )
    ]

pub returns : goal.returns
returns c =
    let opened = c.begin_array.new.self in
    let inside = c.loop-flag.invariant.1 ∙ ap (λ fs. opened.tokens ++ text_tokens (names_among c.args.flags.0 fs)) (take_all c.loop-flag.flag-index c.args.some.now (omega arith)) in
    writes_texts c.args.out.now opened c.loop-flag.out c.end_array.new.self (names_among c.args.flags.0 c.args.some.now) c.end_array.result c.in_ok-begin_array.ensures.ok c.in_ok-begin_array.ensures.room.0 inside c.loop-flag.invariant.0 c.end_array.ensures
