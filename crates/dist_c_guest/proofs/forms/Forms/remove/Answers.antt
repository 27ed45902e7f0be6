use Rattle.dist_c_guest.proofs.Common.{not, List, ap, ◌∙◌, rules, filter_same, Name, same_name}
use Rattle.dist_c_guest.proofs.forms.Forms.remove.Goals as goal
use Rattle.dist_core_setup.specs.Changing.{without_name}

pub returns : goal.returns
returns c = filter_same _ (λ one. not (same_name c.args.form.now one)) _ (λ x b f k. search rules) _ _ c.retain.ensures.filtered ∙ ap (λ (names : List Name). without_name names c.args.form.now) c.self.view_is
