-- HOW A REFUSAL IS PRINTED.
use Rattle.std.specs.Prelude.{ℕ, List, codes}
use Rattle.dist_audit.specs.declared.audit_error.AuditError.{AuditError}
use Rattle.dist_audit.specs.declared.audit_error.AuditError.TheVariants as error

-- its number
abbrev pub refusal_number : AuditError → ℕ
refusal_number error.TicketTwice = 1
refusal_number error.TicketFalls = 2
refusal_number error.Unpaired = 3
refusal_number error.NotSent = 4
refusal_number error.OtherReply = 5
refusal_number error.NoMemory = 6

-- its name
abbrev pub refusal_name : AuditError → List ℕ
refusal_name error.TicketTwice = codes "TicketTwice"
refusal_name error.TicketFalls = codes "TicketFalls"
refusal_name error.Unpaired = codes "Unpaired"
refusal_name error.NotSent = codes "NotSent"
refusal_name error.OtherReply = codes "OtherReply"
refusal_name error.NoMemory = codes "NoMemory"
