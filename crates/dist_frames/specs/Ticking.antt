-- The times of a link, in milliseconds: when something was read and written last, and what is due (Erlang/OTP, kernel,
-- net_ticktime).
use Rattle.std.specs.Prelude.{ℕ, ◌+◌, ◌-◌, ◌*◌, ◌≤◌, List, [], ◌∷◌, min, max, nat_le, if◌then◌else◌}
use Rattle.dist_frames.specs.declared.ticker.Due.{Due}
use Rattle.dist_frames.specs.declared.ticker.Due.TheVariants as due

-- the times of a link
pub record Ticking : Type 0 where
  -- a quarter of the time after which a silent peer is given up
  pub quarter : ℕ
  -- when something was read last, and written last; at first, when the link came up
  pub heard : ℕ
  pub said : ℕ

-- a link that comes up
abbrev pub times_from : ℕ → ℕ → Ticking
times_from quarter now = record { quarter = max quarter 1; heard = now; said = now }

-- the times once something is read now
abbrev pub after_read : ℕ → Ticking → Ticking
after_read now t = record t { heard = max t.heard now }

-- the times once something is written now
abbrev pub after_write : ℕ → Ticking → Ticking
after_write now t = record t { said = max t.said now }

-- WHAT IS DUE: the peer is given up once nothing was read for four quarters; a tick is due once nothing was written for one
abbrev pub due_at : ℕ → Ticking → Due
due_at now t =
    if nat_le (4 * t.quarter) (now - t.heard) then due.GiveUp else (
    if nat_le t.quarter (now - t.said) then due.Tick
    else due.Nothing (min (4 * t.quarter - (now - t.heard)) (t.quarter - (now - t.said))))

-- ---- what was read and written

-- a read or a write, and when it was
pub data Act : Type 0 where
  Heard : ℕ → Act
  Said : ℕ → Act

-- the times after this read or write
abbrev pub after_one : Act → Ticking → Ticking
after_one (Heard now) t = after_read now t
after_one (Said now) t = after_write now t

-- the times after these reads and writes in turn
abbrev pub after_acts : List Act → Ticking → Ticking
after_acts [] t = t
after_acts (act ∷ acts) t = after_acts acts (after_one act t)

-- the act is no read between this time and now
abbrev pub WasHeardBefore : ℕ → ℕ → Act → Type 0
WasHeardBefore time now (Heard m) = m + time ≤ now
WasHeardBefore time now (Said m) = Unit {0}

-- the act is no write between this time and now
abbrev pub WasSaidBefore : ℕ → ℕ → Act → Type 0
WasSaidBefore time now (Heard m) = Unit {0}
WasSaidBefore time now (Said m) = m + time ≤ now
