use Rattle.dist_script_play.proofs.{Words.length, Words.to_come, Words.reader_of, Words.received_frames, Receiving.SoFar}
use Rattle.dist_script_play.proofs.scene.NodeScene.receive_frames.Given as goal

-- the lines of the frames so far stand there
abbrev pub invariant-loop-body : goal.invariant-loop-body
invariant-loop-body g l =
    SoFar l.end_ l.fresh (received_frames l.end_ l.fresh (length (to_come (reader_of l.fn.self.readers l.end_))) l.fn.self) l.any
    (g.W.Write.contents l.fn.out) (g.W.Write.contents l.out) l.self

abbrev pub decreases-loop-body : goal.decreases-loop-body
decreases-loop-body g l = length (to_come (reader_of l.self.readers l.end_))
