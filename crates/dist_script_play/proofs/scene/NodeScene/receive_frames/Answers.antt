use Rattle.dist_script_play.proofs.{Words.refl, Receiving.one_more, Receiving.one_less, Receiving.no_frame_left}
use Rattle.dist_script_play.proofs.scene.NodeScene.receive_frames.Goals as goal

pub loop-body-preserved : goal.loop-body-preserved
loop-body-preserved g c =
    one_more _ _ _ _ _ _ _ _ c.next_short.new.self c.in-Some.body.items c.play_frame.new.self (rw (← c.self.view_is) at c.loop-body.invariant)
    (rw c.in-Some.is at c.in_ok-body.ensures.ok.0) c.in_ok-body.ensures.ok.1 (rw c.in-Some.is at c.in_ok-body.ensures.first)
    c.in_ok-play_frame.ensures.text c.in_ok-play_frame.ensures.after

pub loop-body-smaller : goal.loop-body-smaller
loop-body-smaller g c =
    rw (← c.self.view_is) (one_less c.args.end_ c.args.fresh _ c.next_short.new.self c.in-Some.body.items c.play_frame.new.self
    (rw c.in-Some.is at c.in_ok-body.ensures.first) c.in_ok-play_frame.ensures.after)

pub returns : goal.returns
returns g c =
    no_frame_left _ _ _ _ _ _ _ _ c.next_short.new.self (rw (← c.self.view_is) at c.loop-body.invariant)
    (rw c.in_default.is at c.in_ok-body.ensures.ok.0) c.in_ok-body.ensures.ok.1 refl
