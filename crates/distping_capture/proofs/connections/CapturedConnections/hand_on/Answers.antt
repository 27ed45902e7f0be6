use Rattle.std.proofs.Common.{◌≡◌, ◌∷◌, ◌++◌, [], get_or, refl, rules}
use Rattle.std.specs.Box.{with_value}
use Rattle.std.proofs.lemmas.List.Elements.{All-set}
use Rattle.distping_capture.proofs.Following.{IsOn, at_port, between_at, on_at, on_more}
use Rattle.distping_capture.proofs.Keeping.{on_ok}
use Rattle.distping_capture.proofs.connections.CapturedConnections.hand_on.Goals as goal

pub returns : goal.returns
returns g c =
    let f = c.args.self.now in
    let port = f.mapper_port in
    let s = c.args.segment.now in
    let xs = f.connections.items in
    let own = c.in-Some.connection.now in
    let before = c.deref_mut-connection.result.now in
    let is : own ≡ get_or xs c.args.place own = search rules in
    let value = c.deref_mut-connection.ensures.value in
    on_ok c.take.result c.take.ensures
    (λ takes within of. at_port s f _
    (λ t segments json old p.
    let renewed = c.in_ok-renew.ensures t segments json old (between_at s xs c.args.place own before within is value of) (on_at t port segments xs c.args.place own before within is value p.each) p.keeps in
    let has = takes t port segments json old renewed.1 renewed.0 in
    record {
      port_is = refl;
      keeps = has.keeps;
      each = All-set (IsOn t port (segments ++ s ∷ [])) xs c.args.place (with_value own c.take.new.self) has.follows (on_more t port segments s xs p.each);
    }))
