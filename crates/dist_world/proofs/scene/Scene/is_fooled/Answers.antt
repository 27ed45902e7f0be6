use Rattle.dist_world_model.proofs.Words.{◌≡◌, slice_get, Some, sym, ap, ◌∙◌, World}
use Rattle.dist_world.proofs.UpLinks.{fooled_as}
use Rattle.dist_world.proofs.scene.Scene.is_fooled.Goals as goal

pub returns : goal.returns
returns c =
    let w = c.args.self.now in
    let life = c.in-Some-at.life.now in
    let other = c.in-Some-setup_at.setup.now in
    let at = c.in-Some.place in
    let lives : slice_get w.lives at ≡ Some life = sym (c.in-Some-at.ensures ∙ ap (λ (w : World). slice_get w.lives at) c.self.view_is) in
    let named : slice_get w.setups c.args.b ≡ Some other = sym (c.in-Some-setup_at.ensures ∙ ap (λ ss. slice_get ss c.args.b) c.deref.ensures.value ∙ ap (λ (w : World). slice_get w.setups c.args.b) c.self.view_is) in
    fooled_as w c.args.a c.args.b at life other (sym c.in-Some.ensures) lives named _ c.is_fooled_by.ensures
