use Rattle.std.proofs.{Common.◌≡◌, Common.true, Common.None, Common.rules, Common.arith, lemmas.Grind.common_steps}
use Rattle.std.specs.{Ordering.nat_cmp, BTreeMap.get}
use Rattle.dist_epmd_server.proofs.Owings.{is_over}
use Rattle.dist_epmd_server.proofs.owing.Owing.go_on.Goals as goal

pub returns-in-Some-true-clause-there : goal.returns-in-Some-true-clause-there
returns-in-Some-true-clause-there g c =
    let over : c.in-Some-true.field-0 ≡ true = first_of (search rules, grind (arith, common_steps)) in
    let gone : get nat_cmp c.remove.new.self c.args.conn ≡ None = first_of (search rules, grind (arith, common_steps)) in
    is_over {S = g.row.S.Denot} g.S.Stream.meaning c.in-Some-true.field-0 (get nat_cmp c.args.self.now.owed c.args.conn) (get nat_cmp c.try_more_in.new.owed c.args.conn) (get nat_cmp c.remove.new.self c.args.conn) over c.in-Some-true.ensures.some.there gone
