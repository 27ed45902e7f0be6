use Rattle.dist_world_model.proofs.Words.{◌≡◌, slice_get, Some, sym, ap, ◌∙◌, World}
use Rattle.dist_world.proofs.UpLinks.{peer_found, peer_only}
use Rattle.dist_world.proofs.scene.Scene.up_with.Goals as goal

pub returns : goal.returns
returns c =
    let w = c.args.self.now in
    let life = c.in_ok-life.life.now in
    let other = c.in_ok-setup.setup.now in
    let at = c.in_ok-place.place in
    let lives : slice_get w.lives at ≡ Some life = sym (c.in_ok-life.ensures ∙ ap (λ (w : World). slice_get w.lives at) c.self.view_is) in
    let named : slice_get w.setups c.args.b ≡ Some other = sym (c.in_ok-setup.ensures ∙ ap (λ ss. slice_get ss c.args.b) c.deref.ensures.value ∙ ap (λ (w : World). slice_get w.setups c.args.b) c.self.view_is) in
    record {
      found = peer_found w c.args.a c.args.b at life other (sym c.in_ok-place.ensures) lives named _ c.up_with.ensures.found;
      only = peer_only w c.args.a c.args.b at life other (sym c.in_ok-place.ensures) lives named _ c.up_with.ensures.only;
    }
