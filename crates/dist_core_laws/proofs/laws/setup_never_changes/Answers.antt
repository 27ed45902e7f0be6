use Rattle.std.proofs.Common.{◌≡◌, refl, ◌∙◌}
use Rattle.dist_core_laws.proofs.Constant.{after-run, setup_step}
use Rattle.dist_core_laws.proofs.laws.setup_never_changes.Goals as goal

pub returns : goal.returns
returns c = record { step = setup_step; run = λ n events. after-run (λ m. m.setup ≡ n.setup) (λ m v fresh h. setup_step m v fresh ∙ h) events n refl }
