use Rattle.std.proofs.Common.{refl, sym, subst, []}
use Rattle.std.specs.List.{All}
use Rattle.std.proofs.lemmas.List.Elements.{All-nil}
use Rattle.distping_capture.proofs.Following.{IsOn}
use Rattle.distping_capture.proofs.connections.CapturedConnections.new.Goals as goal

pub returns : goal.returns
returns g c = record {
  port_is = refl;
  keeps = c.new.ensures c.args.mapper_port;
  each = subst (All (IsOn c.args.terms c.args.mapper_port [])) (sym c.new-2.ensures.items) (All-nil (IsOn c.args.terms c.args.mapper_port []));
}
