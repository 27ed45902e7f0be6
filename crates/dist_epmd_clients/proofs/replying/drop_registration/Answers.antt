use Rattle.std.proofs.Common.{Option, ◌∙◌, ap, Bor}
use Rattle.std.specs.Prelude.{option_copied}
use Rattle.dist_epmd_clients.proofs.{Words.Client, Standings.closed_same}
use Rattle.dist_epmd_clients.proofs.replying.drop_registration.Goals as goal
use Rattle.dist_epmd_clients.specs.Standing.{client_name, talk_name}

pub returns-in_default : goal.returns-in_default
returns-in_default g c =
    closed_same c.args.conn c.args.registry.now (c.requires ∙ ap (λ (client : Option (Bor (Client g.row.S.Denot))). client_name (option_copied client)) c.in_default.is)

pub returns-in_default-talk : goal.returns-in_default-talk
returns-in_default-talk g c =
    closed_same c.args.conn c.args.registry.now
    (c.requires ∙ ap (λ (client : Option (Bor (Client g.row.S.Denot))). client_name (option_copied client)) c.in-Some.is ∙ ap talk_name c.in_default-talk.is)
