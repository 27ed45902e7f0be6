-- What the registry answers when it serves as the mapper.
use Rattle.std.specs.{Prelude.◌≡◌, Prelude.ℕ, Prelude.Option, Prelude.Some, Prelude.None, Prelude.Ok, Prelude.Err, List.flat_map}
use Rattle.dist_epmd.specs.Registrations.{Registrations, after_closed, after_request, answer_to, registered_info, line_of}
use Rattle.dist_epmd.specs.declared.message.{NodeInfo.NodeInfo, Request.Request, Answer.Answer}
use Rattle.dist_epmd.specs.declared.message.Request.TheVariants as request
use Rattle.dist_epmd.specs.declared.message.Answer.TheVariants as answer

-- the answer to a lookup: what was found, or result 1
abbrev pub port_answer : Option NodeInfo → Answer
port_answer (Some info) = answer.Port (Ok info)
port_answer None = answer.Port (Err 1)

-- the answer to a question for all names: the port mapper's own port, and a line for each node in order of names
abbrev pub names_answer : Registrations → Answer
names_answer registrations = answer.Names registrations.port (flat_map line_of registrations.rows)

-- A registration is answered and kept by the registry's rules. The other two requests change nothing: a lookup is
-- answered by what is registered under that name, and a question for all names by all lines.
abbrev pub Allows : Registrations → ℕ → Request → Answer → Registrations → Type 0
Allows before conn (request.Alive info) given after = (given ≡ answer_to conn info before) × (after ≡ after_request conn info before)
Allows before conn (request.PortPlease name) given after = (given ≡ port_answer (registered_info name before)) × (after ≡ before)
Allows before conn request.Names given after = (given ≡ names_answer before) × (after ≡ before)

-- A closed connection takes its registration with it.
abbrev pub Leaves : Registrations → ℕ → Registrations → Type 0
Leaves before conn after = after ≡ after_closed conn before
