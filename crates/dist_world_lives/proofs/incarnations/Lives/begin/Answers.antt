use Rattle.dist_world_model.proofs.Words.{◌≡◌, length, None, ap, ◌∙◌, arith, new_life, first_where, Life, runs_for}
use Rattle.dist_world_lives.proofs.Indexes.{pushed, as_wide}
use Rattle.dist_world_lives.proofs.incarnations.Lives.begin.Goals as goal

pub invariant_of-self-2 : goal.invariant_of-self-2
invariant_of-self-2 c =
    let lives = c.self.inside.lives.items in
    let made : c.in_ok-life.life ≡ new_life c.args.node c.args.clock c.args.setup.now c.args.creation = c.in_ok-life.ensures in
    let place : c.len-place.result ≡ length lives = omega arith in
    let idle : first_where (runs_for c.args.node) lives ≡ None = ap (first_where (runs_for c.args.node)) c.self.view_is ∙ c.requires in
    rw (c.in_ok-push.ensures.ok, c.set_place.ensures, place) (pushed lives c.widen.new.index.items c.args.node c.in_ok-life.life idle c.in_ok-widen.ensures.ok (ap (λ (l : Life). l.who) made) (ap (λ (l : Life). l.over) made) (as_wide lives c.self.inside.index.items c.widen.new.index.items c.in_ok-widen.ensures.same c.self.invariant))

pub invariant_of-self-in_err-push : goal.invariant_of-self-in_err-push
invariant_of-self-in_err-push c =
    let lives = c.self.inside.lives.items in
    rw c.in_err-push.ensures.err (as_wide lives c.self.inside.index.items c.widen.new.index.items c.in_ok-widen.ensures.same c.self.invariant)
