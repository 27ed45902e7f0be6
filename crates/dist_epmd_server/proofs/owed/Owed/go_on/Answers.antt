use Rattle.dist_epmd_server.proofs.Reporting.{sent_on, all_on}
use Rattle.dist_epmd_server.proofs.owed.Owed.go_on.Goals as goal

pub returns-clause-sent : goal.returns-clause-sent
returns-clause-sent g c before h = sent_on before (g.S.Stream.meaning c.args.self.now.stream).written (g.S.Stream.meaning c.say-said.new.stream).written c.args.self.now.text c.as_slice.result.now c.args.self.now.done c.say-said.result.count c.as_slice.ensures c.args.self.now.within c.say-said.ensures.written h

pub returns-clause-in_all : goal.returns-clause-in_all
returns-clause-in_all g c = all_on (g.S.Stream.meaning c.args.self.now.stream).written (g.S.Stream.meaning c.say-said.new.stream).written c.args.self.now.text c.as_slice.result.now c.args.self.now.done c.say-said.result.count c.as_slice.ensures c.args.self.now.within c.say-said.ensures.written
