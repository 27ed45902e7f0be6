use Rattle.std.proofs.Common.{[], ◌++◌, ◌<◌, length, take, arith}
use Rattle.std.proofs.KnownBytes.{Consumes-kept, Consumes-nil, Consumes-trans}
use Rattle.distping_capture.proofs.Taking.{all_read, reads_fed, reads_none, reads_taken}
use Rattle.distping_capture.proofs.reading.take_all.Goals as goal

pub pieces-init : goal.pieces-init
pieces-init g c = ([], Consumes-nil _, reads_none c.args.capture.now c.args.connections.now)

pub pieces-preserved : goal.pieces-preserved
pieces-preserved g c =
    let p = c.pieces.invariant in
    let piece = take c.in-Ok.count c.read.new.buf in
    let r = c.args.capture.now in
    let s = c.take_segments.new.capture in
    let f = c.args.connections.now in
    let k = c.take_segments.new.connections in (
      p.0 ++ piece,
      Consumes-trans _ _ _ p.0 piece p.1 c.in-Ok.ensures.bytes.0,
      reads_fed r s c.feed.new.self f k p.0 piece (reads_taken r c.pieces.capture s f c.pieces.connections k p.0 p.2 c.in_ok-take_segments.ensures.taken) c.in_ok-feed.ensures.ok,
    )

pub pieces-preserved-in-Err : goal.pieces-preserved-in-Err
pieces-preserved-in-Err g c =
    let p = c.pieces.invariant in (
      p.0,
      Consumes-kept _ _ _ p.0 p.1 c.in-Err.ensures.bytes,
      reads_taken c.args.capture.now c.pieces.capture c.take_segments.new.capture c.args.connections.now c.pieces.connections c.take_segments.new.connections p.0 p.2 c.in_ok-take_segments.ensures.taken,
    )

pub returns-then-count-eq0-clause-all : goal.returns-then-count-eq0-clause-all
returns-then-count-eq0-clause-all g c =
    let p = c.pieces.invariant in
    let some : 0 < length c.read.new.buf = omega arith in (
      p.0,
      all_read _ _ _ p.0 c.read.new.buf c.in-Ok.count p.1 c.in-Ok.ensures.bytes.0 c.if-count-eq0.true (c.in-Ok.ensures.bytes.1 c.if-count-eq0.true some),
      reads_taken c.args.capture.now c.pieces.capture c.take_segments.new.capture c.args.connections.now c.pieces.connections c.take_segments.new.connections p.0 p.2 c.in_ok-take_segments.ensures.taken,
    )
