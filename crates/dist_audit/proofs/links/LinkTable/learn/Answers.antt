use Rattle.dist_audit.proofs.Words.{◌≡◌, ℕ, if◌then◌else◌, OnOk, Some, nat_cmp, ◌∙◌, ◌&&◌, ◌||◌, subst, get, contains, Line, comes, dialled_end, is_again, mentions, or_else}
use Rattle.dist_audit.proofs.links.LinkTable.learn.Goals as goal

pub returns-clause-diallers : goal.returns-clause-diallers
returns-clause-diallers c =
    let of : ℕ → Line → Type 0 = λ n l. OnOk c.learn_event.result ((k : ℕ) → get nat_cmp c.learn_event.new.self.diallers k ≡ or_else n (dialled_end k l.event) (get nat_cmp c.args.self.now.diallers k)) in
    let line : c.line-2.result.now ≡ (let t = c.args.noted.now in t.line) = c.line-2.ensures ∙ c.read-view.ensures ∙ c.line.ensures in
    subst (of c.args.noted.now.node) line (subst (λ n. of n c.line-2.result.now) c.node.ensures c.learn_event.ensures.diallers)

pub returns-clause-acceptors : goal.returns-clause-acceptors
returns-clause-acceptors c =
    let of : ℕ → Line → Type 0 = λ n l. OnOk c.learn_event.result ((k : ℕ) → get nat_cmp c.learn_event.new.self.acceptors k ≡ (if comes k l.event then Some n else get nat_cmp c.args.self.now.acceptors k)) in
    let line : c.line-2.result.now ≡ (let t = c.args.noted.now in t.line) = c.line-2.ensures ∙ c.read-view.ensures ∙ c.line.ensures in
    subst (of c.args.noted.now.node) line (subst (λ n. of n c.line-2.result.now) c.node.ensures c.learn_event.ensures.acceptors)

pub returns-clause-doubled : goal.returns-clause-doubled
returns-clause-doubled c =
    let of : Line → Type 0 = λ l. OnOk c.learn_event.result ((k : ℕ) → contains nat_cmp c.learn_event.new.self.doubled k ≡ ((is_again c.args.self.now.diallers c.args.self.now.acceptors l.event && mentions k l.event) || contains nat_cmp c.args.self.now.doubled k)) in
    let line : c.line-2.result.now ≡ (let t = c.args.noted.now in t.line) = c.line-2.ensures ∙ c.read-view.ensures ∙ c.line.ensures in
    subst of line c.learn_event.ensures.doubled
