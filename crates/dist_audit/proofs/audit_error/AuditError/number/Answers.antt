use Rattle.dist_audit.proofs.Words.{rules}
use Rattle.dist_audit.proofs.audit_error.AuditError.number.Goals as goal

pub returns-in-TicketTwice : goal.returns-in-TicketTwice
returns-in-TicketTwice c = search rules
