use Rattle.dist_audit.proofs.Words.{false}
use Rattle.dist_audit.proofs.Playing.{plays-up}
use Rattle.dist_audit.proofs.auditing.audit.Goals as goal

pub returns-clause-world : goal.returns-clause-world
returns-clause-world c =
    let p = c.in_ok-play_in_order.ensures.played in (
      p.0,
      plays-up (record { front = c.frame_in_front.ensures.alone; behind = c.frame_in_front.ensures.nothing })
          (record { unchanged = c.setups_are_own.ensures.unchanged; digests = c.setups_are_own.ensures.digests })
          false c.args.closed.now _ p.0 c.in_ok-play_in_order.ensures.faultless p.1 p.2 p.3,
    )
