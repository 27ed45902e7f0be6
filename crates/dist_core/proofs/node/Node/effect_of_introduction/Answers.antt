use Rattle.dist_core.proofs.Words.{◌≡◌, true, sym, ap, ◌∙◌, form_of_old, knows_six, Setup}
use Rattle.dist_core.proofs.node.Node.effect_of_introduction.Goals as goal

pub returns-in-NewName : goal.returns-in-NewName
returns-in-NewName c =
    let six : knows_six c.args.self.now.setup ≡ true = ap knows_six (sym c.setup.ensures) ∙ sym c.knows_six.ensures ∙ c.if-knows_six.true in
    rw (c.in-NewName.is, six) c.effect_of_name.ensures

pub returns-in-OldName : goal.returns-in-OldName
returns-in-OldName c =
    let form : c.form_of_old-form.result ≡ form_of_old c.args.self.now.setup c.in-OldName.flags = c.form_of_old-form.ensures ∙ ap (λ (s : Setup). form_of_old s c.in-OldName.flags) c.setup-in-OldName.ensures in
    rw (c.in-OldName.is, ← form) c.effect_of_name-in-OldName.ensures
