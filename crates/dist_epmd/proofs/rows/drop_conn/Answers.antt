use Rattle.dist_epmd.proofs.Words.{◌≡◌, not, filter, sym, ap, ◌∙◌, subst, rules, filter_same_pairs, values_of, StandAtNames, is_of}
use Rattle.dist_epmd.proofs.Named.{dropped_rows}
use Rattle.dist_epmd.proofs.rows.drop_conn.Goals as goal

pub returns-clause-rows : goal.returns-clause-rows
returns-clause-rows c =
    let kept : c.retain.new.self.entries ≡ filter (λ e. not (is_of c.args.conn e.1)) c.args.rows.now.entries = filter_same_pairs _ (λ e. not (is_of c.args.conn e.1)) _ (λ k v b w f t. search rules) _ _ c.retain.ensures.filtered in
    ap values_of kept ∙ (dropped_rows (λ row. not (is_of c.args.conn row)) c.args.rows.now.entries c.requires).0

pub returns-clause-names : goal.returns-clause-names
returns-clause-names c =
    let kept : c.retain.new.self.entries ≡ filter (λ e. not (is_of c.args.conn e.1)) c.args.rows.now.entries = filter_same_pairs _ (λ e. not (is_of c.args.conn e.1)) _ (λ k v b w f t. search rules) _ _ c.retain.ensures.filtered in
    subst StandAtNames (sym kept) (dropped_rows (λ row. not (is_of c.args.conn row)) c.args.rows.now.entries c.requires).1
