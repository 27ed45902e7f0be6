use Rattle.std.proofs.Common.{◌∙◌, ◌<◌, sym, subst, []}
use Rattle.distping.proofs.Order.{map_by_places}
use Rattle.distping.proofs.together.probe_others.Goals as goal

pub returns-clause-names : goal.returns-clause-names
returns-clause-names g c = map_by_places _ c.in_ok-replies.replies.items c.args.others.now [] (sym c.in_ok-replies.replies.ok.0 ∙ c.in_ok-replies.ensures.len)
    (λ i d l. (c.in_ok-replies.ensures.each i d l).1.met.0)

pub returns-clause-come : goal.returns-clause-come
returns-clause-come g c = λ k d l.
    (c.in_ok-replies.ensures.each k d (subst (λ n. k < n) (sym c.in_ok-replies.replies.ok.0 ∙ c.in_ok-replies.ensures.len) l)).1.met.1
