use Rattle.std.proofs.{Common.rules, Common.not, lemmas.Map.Made.filter_same_pairs}
use Rattle.dist_epmd_clients.specs.Sweeping.{is_late}
use Rattle.dist_epmd_clients.proofs.sweeping.drop_late_clients.Goals as goal

pub returns-clause-kept : goal.returns-clause-kept
returns-clause-kept g c = filter_same_pairs _ (λ e. not (is_late c.args.now c.args.seconds e.1)) _ (λ k v b w f t. search rules) _ _ c.retain.ensures.filtered
