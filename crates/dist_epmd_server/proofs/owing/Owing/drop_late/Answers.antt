use Rattle.std.proofs.{Common.rules, Common.not, lemmas.Map.Made.filter_same_pairs}
use Rattle.std.specs.Prelude.{nat_le, ◌-◌}
use Rattle.dist_epmd_server.specs.Owed.{since_of}
use Rattle.dist_epmd_server.proofs.owing.Owing.drop_late.Goals as goal

pub returns : goal.returns
returns g c = filter_same_pairs _ (λ e. not (nat_le c.args.seconds (c.args.now - since_of e.1))) _ (λ k v b w f t. search rules) _ _ c.retain.ensures.filtered
