use Rattle.std.proofs.Common.{◌≡◌, ◌∙◌, ◌++◌, codes, sym, ap, subst, append_assoc}
use Rattle.dist_script.specs.{Fault.fault_line, Texts.text_of, Texts.PutsFront}
use Rattle.dist_script.proofs.Fronts.{front_either}
use Rattle.dist_script.proofs.fault.ScriptFault.report_to.Goals as goal

pub returns-clause-line : goal.returns-clause-line
returns-clause-line g c =
    let same : codes "distnode: " ++ (text_of c.message.result.0 ++ (text_of c.message.result.1 ++ codes "\n")) ≡ fault_line c.args.self =
    ap (λ t. codes "distnode: " ++ t) (sym (append_assoc (text_of c.message.result.0) (text_of c.message.result.1) (codes "\n")) ∙ ap (λ t. t ++ codes "\n") c.message.ensures) in
    subst (λ t. PutsFront t (g.E.Write.contents c.args.err.now) (g.E.Write.contents c.put.new.out)) same (front_either c.put.result _ _ _ c.put.ensures.text c.put.ensures.cut)
