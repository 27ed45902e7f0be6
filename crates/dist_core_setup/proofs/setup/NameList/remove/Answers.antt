use Rattle.std.proofs.{Common.◌≡◌, Common.rules, Common.not, Common.List, Common.ap, Common.◌∙◌, lemmas.Fn.filter_same}
use Rattle.dist_names.specs.Order.{Name, same_name, is_listed}
use Rattle.dist_core_setup.specs.Changing.{without_name}
use Rattle.dist_core_setup.proofs.Lists.{gone-without, others-without}
use Rattle.dist_core_setup.proofs.setup.NameList.remove.Goals as goal

kept : (c : goal.After-retain) → c.retain.new.self.items ≡ without_name c.args.self.now c.args.name.now
kept c = filter_same _ (λ one. not (same_name c.args.name.now one)) _ (λ x b f k. search rules) _ _ c.retain.ensures.filtered ∙ ap (λ (names : List Name). without_name names c.args.name.now) c.self.view_is

pub returns-clause-exact : goal.returns-clause-exact
returns-clause-exact c = kept c

pub returns-clause-gone : goal.returns-clause-gone
returns-clause-gone c = ap (λ (names : List Name). is_listed names c.args.name.now) (kept c) ∙ gone-without c.args.self.now c.args.name.now

pub returns-clause-others : goal.returns-clause-others
returns-clause-others c other apart = ap (λ (names : List Name). is_listed names other) (kept c) ∙ others-without c.args.self.now c.args.name.now other apart
