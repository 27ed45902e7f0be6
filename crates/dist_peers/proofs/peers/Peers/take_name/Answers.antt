use Rattle.std.proofs.Common.{ap, ◌∙◌, is_gt}
use Rattle.std.specs.FinMap as map
use Rattle.dist_peers.specs.{Verdicts.ruling, Verdicts.is_greater, declared.entry.Ruling.Ruling}
use Rattle.dist_peers.proofs.Others.{put_over}
use Rattle.dist_peers.proofs.peers.Peers.take_name.Goals as goal

-- the entry of the ruling replaces the one that was put first
pub returns-then-is_some-clause-ok : goal.returns-then-is_some-clause-ok
returns-then-is_some-clause-ok c =
    let p = c.args.peer.now in
    put_over p _ _ c.args.self.now c.put.new.self c.change.new.self c.in_ok-was.ensures.ok
    (c.change.ensures.changed
    ∙ ap (λ (r : Ruling). map.insert c.put.new.self p r.entry)
    (c.ruling_of-ruling.ensures
    ∙ ap (λ g. ruling g c.args.id c.in_ok-was.was') (c.is_gt.ensures ∙ ap is_gt c.cmp.ensures)
    ∙ ap (ruling (is_greater c.args.me.now p) c.args.id) c.in_ok-was.ensures.was))
