-- What one write took is added.
use Rattle.std.proofs.Common.{rules, subst, ◌≡◌, ◌+◌}
use Rattle.dist_stream.specs.Stream.{took_count}
use Rattle.distcheck.specs.Seeing.{Wrote}
use Rattle.distcheck.proofs.Hearing.{wrote_by}
use Rattle.distcheck.proofs.talk_link.TalkLink.write.Goals as goal
use Rattle.distcheck.proofs.talk_link.TalkLink.write.Goals.{in-Bytes, in-Quiet}

pub loop-preserved : goal.loop-preserved
loop-preserved g c =
    let moved : c.loop.at + took_count c.write.result ≡ c.match-write.at = elim c.match-write.branch as (λ _. c.loop.at + took_count c.write.result ≡ c.match-write.at) [
      | in-Bytes w ↦ search rules
      | in-Quiet w ↦ search rules
    ] in
    subst (Wrote _ _ c.args.bytes.now) moved (wrote_by c.args.bytes.now c.loop.at c.write.result c.loop.invariant.within c.loop.invariant c.write.ensures)
