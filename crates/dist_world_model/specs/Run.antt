-- RUNS OF THE WORLD.
use Rattle.std.specs.Prelude.{◌∷◌, ◌+◌}
use Rattle.dist_world_model.specs.Words.{ℕ, List, [], Option, Some, None, Happening}
use Rattle.dist_world_model.specs.{World.World, Happenings.happens, Happenings.applied_at}

-- the world after these happenings
abbrev pub run : List Happening → World → World
run [] w = w
run (h ∷ hs) w = run hs (happens w h)

-- 1 where there is something
abbrev pub one_where : {A : Type 0} → Option A → ℕ
one_where None = 0
one_where (Some x) = 1

-- how many of them apply
abbrev pub count_applied : List Happening → World → ℕ
count_applied [] w = 0
count_applied (h ∷ hs) w = one_where (applied_at w h) + count_applied hs (happens w h)
