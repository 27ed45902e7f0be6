-- One result more, and all of them.
use Rattle.std.proofs.Common.{rules, arith, ◌∙◌, sym, ap, subst}
use Rattle.std.proofs.lemmas.{Grind.common_steps, List.map-id}
use Rattle.std.proofs.lemmas.Iterator.{Adapters.YieldsList-from_vec, Consumers.YieldsList-end}
use Rattle.std.specs.List.{All}
use Rattle.dist_cluster.specs.Statuses.{first_of}
use Rattle.distping.specs.{Order.first_status, Runs.ReplyComes}
use Rattle.distping.proofs.{Firsts.first_of_assoc, Order.all_on}
use Rattle.distping.proofs.together.take_replies.Goals as goal

pub loop-reply-preserved : goal.loop-reply-preserved
loop-reply-preserved g c = (
  grind (arith, common_steps),
  c.in_ok-take_reply.ensures.first ∙ ap (λ x. first_of x c.in_ok-take_reply.field-0) c.loop-reply.invariant.1
      ∙ first_of_assoc (first_status c.args.halves.now.items) c.loop-reply.status c.in_ok-take_reply.field-0
      ∙ ap (first_of (first_status c.args.halves.now.items)) (sym c.first_of-status.ensures),
  λ k json start old. all_on (ReplyComes k json) c.loop-reply.yielded c.in-Some.reply (c.loop-reply.invariant.2 k json start old)
      (c.in_ok-take_reply.ensures.printed k json start),
)

pub returns-clause-printed : goal.returns-clause-printed
returns-clause-printed g c = λ k json start old all.
    let t = YieldsList-end (YieldsList-from_vec c.args.replies.items (search rules) (search rules)) c.loop-reply.yielded
    c.loop-reply.reply-iterator c.loop-reply.yielded_by c.next.result c.next.new.self c.in-None.is c.next.ensures.steps in
    c.loop-reply.invariant.2 k json start old (subst (All (ReplyComes k json)) (sym t.0 ∙ map-id c.loop-reply.yielded) all)
