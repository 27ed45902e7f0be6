-- The word and the status are those of the verdict.
use Rattle.std.proofs.Common.{ℕ, List, codes, ap, ◌∙◌}
use Rattle.dist_talk.specs.Words.{verdict_word}
use Rattle.distping_report.specs.Objects.{Layout, Shape, member, no_member, number, shape_of, text}
use Rattle.distping_report.proofs.objects.parts.verdict_members.Goals as goal

abbrev made : List ℕ → List ℕ → Shape → List ℕ → Shape → Layout
made cause remedy lacking word exit =
    member (codes "lacking") lacking (member (codes "verdict") (text word)
    (member (codes "cause") (text cause) (member (codes "remedy") (text remedy) (member (codes "exit") exit no_member))))

pub returns : goal.returns
returns c =
    let j = c.args.judged in
    let make : List ℕ → Shape → Layout = made j.cause.now j.remedy.now (shape_of c.args.lacking) in
    ap (λ w. make w (shape_of c.small_number.result)) c.name.ensures
    ∙ ap (λ e. make (verdict_word j.verdict) e) (c.small_number.ensures ∙ ap number (c.from.ensures ∙ c.status.ensures))
