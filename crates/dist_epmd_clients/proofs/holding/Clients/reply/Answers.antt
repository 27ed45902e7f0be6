use Rattle.std.proofs.Common.{None, sym, ◌∙◌}
use Rattle.dist_epmd_clients.proofs.Standings.{any_stand, stand_stays, stand_leaves, numbered_with}
use Rattle.dist_epmd_clients.proofs.holding.Clients.reply.Goals as goal

pub reply_to-requires : goal.reply_to-requires
reply_to-requires g c = any_stand c.args.self.now.registry c.args.self.now.clients c.args.self.now.stand c.args.conn ∙ c.requires.asking

pub invariant_of-self-in-Registered-clause-stand : goal.invariant_of-self-in-Registered-clause-stand
invariant_of-self-in-Registered-clause-stand g c =
    stand_stays c.name_in.result c.args.request c.args.self.now.registry c.reply_to.new.registry c.args.self.now.clients c.set_talk.new.clients c.args.conn
    c.name_in.ensures c.in_ok-served.ensures.after (sym c.in_ok-served.ensures.served ∙ c.in-Registered.is) c.requires.there c.set_talk.ensures.changed c.args.self.now.stand

pub invariant_of-self-in-Registered-clause-numbered : goal.invariant_of-self-in-Registered-clause-numbered
invariant_of-self-in-Registered-clause-numbered g c =
    numbered_with c.args.self.now.next c.args.self.now.clients c.set_talk.new.clients c.args.conn _ c.set_talk.ensures.changed (λ h. c.requires.there) c.args.self.now.numbered

pub invariant_of-self-2-clause-stand : goal.invariant_of-self-2-clause-stand
invariant_of-self-2-clause-stand g c =
    stand_leaves c.args.request c.args.self.now.registry c.reply_to.new.registry c.args.self.now.clients c.remove.new.self c.args.conn
    c.in_ok-served.ensures.after (sym c.in_ok-served.ensures.served ∙ c.in_default.is) c.requires.asking c.remove.ensures.updates c.args.self.now.stand

pub invariant_of-self-2-clause-numbered : goal.invariant_of-self-2-clause-numbered
invariant_of-self-2-clause-numbered g c =
    numbered_with c.args.self.now.next c.args.self.now.clients c.remove.new.self c.args.conn None c.remove.ensures.updates (λ h. cc) c.args.self.now.numbered
