use Rattle.dist_world_model.proofs.Words.{take, ◌≡◌, ◌++◌, drop, shut_all}
use Rattle.dist_world_lives.proofs.life.shut_all.Given as goal

-- the rows so far are shut
abbrev pub invariant-loop-row : goal.invariant-loop-row
invariant-loop-row l = l.rows ≡ shut_all l.clock (take l.row-index l.fn.rows) ++ drop l.row-index l.fn.rows
