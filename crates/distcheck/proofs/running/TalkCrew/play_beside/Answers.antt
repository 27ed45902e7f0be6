use Rattle.std.proofs.Common.{◌∙◌, sym, arith}
use Rattle.distcheck.proofs.Lanes.{lanes_played}
use Rattle.distcheck.proofs.running.TalkCrew.play_beside.Goals as goal

pub returns : goal.returns
returns g c = lanes_played c.args.self.now.queue.lanes.items c.in_ok-replies.replies.items (sym c.in_ok-replies.replies.ok.0 ∙ c.in_ok-replies.ensures.len ∙ c.len.ensures ∙ c.args.self.now.queue.lanes.ok.0)
    (λ i d l. (c.in_ok-replies.ensures.each i d (omega (arith, l, c.len.ensures, c.args.self.now.queue.lanes.ok.0))).1.met)
