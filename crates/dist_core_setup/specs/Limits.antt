-- How long a node lasts, and how much it holds.
use Rattle.dist_core_setup.specs.declared.limits.Limits.{Limits}

-- THE USUAL LIMITS (our own choice)
abbrev pub usual_limits : Limits
usual_limits = record { steps = 1048576; ends = 1048576; entries = 1024; open_ends = 4096 }

-- THE LIMITS OF A NODE THAT RUNS FOR YEARS (our own choice): as many steps and ends as can be counted, 2^64 - 1 and 2^32 - 1
abbrev pub long_running_limits : Limits
long_running_limits = record { steps = 18446744073709551615; ends = 4294967295; entries = 65536; open_ends = 65536 }
