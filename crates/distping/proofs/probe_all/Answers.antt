use Rattle.std.proofs.Common.{◌≡◌, ◌∙◌, ◌++◌, sym, ap}
use Rattle.std.proofs.lemmas.Result.{IfOk-weaker}
use Rattle.dist_cluster.specs.Statuses.{first_of}
use Rattle.distping.specs.{Order.first_status, Order.names_of, Runs.pairs_status}
use Rattle.distping.proofs.{Firsts.first_of_assoc, Printing.none_printed}
use Rattle.distping.proofs.probe_all.Goals as goal

pub returns : goal.returns
returns g c = IfOk-weaker c.compare.result _ _ (λ status is.
    let halves = c.collect_halves.new.halves.items in
    let said = c.in_ok-collect_halves.field-0 in
    let pairs = pairs_status c.deref.result.now in
    let of_nodes : said ≡ first_status halves =
    sym (c.in_ok-collect_halves.ensures.first ∙ ap (λ xs. first_of (first_status xs) said) c.new-halves.ensures.items) in
    record {
      halves = halves;
      each = c.in_ok-collect_halves.ensures.names ∙ ap (λ xs. names_of xs ++ c.args.names.now) c.new-halves.ensures.items;
      prints = c.in_ok-collect_halves.ensures.printed c.args.out.now (none_printed _ _ _ c.args.out.now c.new-halves.ensures.items);
      is = is ∙ ap (λ s. first_of s pairs) c.first_of-status.ensures ∙ first_of_assoc c.args.status said pairs
          ∙ ap (λ s. first_of c.args.status (first_of s pairs)) of_nodes
          ∙ ap (λ xs. first_of c.args.status (first_of (first_status halves) (pairs_status xs))) c.deref.ensures.value;
    }) c.compare.ensures
