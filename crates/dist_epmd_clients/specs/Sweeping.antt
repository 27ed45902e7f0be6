-- Which clients of the port mapper are late with their request, and so are closed (epmd's -packet_timeout).
use Rattle.std.specs.Prelude.{ℕ, Bool, Some, not, ◌&&◌, ◌-◌, nat_le}
use Rattle.dist_epmd_clients.specs.{declared.client.Client.Client, Standing.is_registered}

-- A client that has not asked is late where it came this many seconds ago or earlier.
abbrev pub is_late : {S : Type 0} → ℕ → ℕ → Client S → Bool
is_late now seconds client = not (is_registered (Some client)) && nat_le seconds (now - client.since)
