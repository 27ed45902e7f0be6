use Rattle.std.proofs.Common.{rules, ◌≡◌, ◌∙◌, ap, subst, sym, refl, true, map, [], inl, inr}
use Rattle.std.specs.Prelude.{IfOk}
use Rattle.clap.specs.Words.{HasKind, fault_of, is_simple, is_simple_and_free, subcommand_of, subcommand_rows_of}
use Rattle.clap.proofs.OnLiterals.{clap_on_literals}
use Rattle.distnode.specs.CommandLine.{Asks, program_app}
use Rattle.distnode.proofs.Rows.{no_order, not_bad, order_given}
use Rattle.distnode.proofs.order_of_words.order_of.Goals as goal

is_read : is_simple program_app ≡ true
unfolding clap_on_literals
is_read = refl

is_read_freely : is_simple_and_free program_app ≡ true
unfolding clap_on_literals
is_read_freely = refl

pub returns-in-Err-clause-bad : goal.returns-in-Err-clause-bad
returns-in-Err-clause-bad c = λ e order asks.
    let app_is = c.in_ok-program.ensures in
    let texts = map (λ word. word.now) c.args.words.now in
    let kinds : HasKind (fault_of program_app texts) c.in-Err.error = subst (λ a. HasKind (fault_of a texts) c.in-Err.error) app_is (c.in-Err.ensures.kinds (ap is_simple_and_free app_is ∙ is_read_freely)) in
    let none : HasKind [] c.in-Err.error = subst (λ ks. HasKind ks c.in-Err.error) asks.0 kinds in
    elim none [
      | inl memory ↦ not_bad c.refusal_of.result (c.refusal_of.ensures.memory memory) (search rules)
      | inr among ↦ absurd among
    ]

pub returns-in-Ok-clause-ok : goal.returns-in-Ok-clause-ok
returns-in-Ok-clause-ok c =
    let app_is = c.in_ok-program.ensures in
    let texts = map (λ word. word.now) c.args.words.now in
    let same : subcommand_rows_of c.in-Ok.matches ≡ subcommand_of program_app texts = subst (λ a. subcommand_rows_of c.in-Ok.matches ≡ subcommand_of a texts) app_is (c.in-Ok.ensures.matches (ap is_simple app_is ∙ is_read)).1 in
    let taken : fault_of program_app texts ≡ [] = subst (λ a. fault_of a texts ≡ []) app_is (c.in-Ok.ensures.kinds (ap is_simple_and_free app_is ∙ is_read_freely)) in
    subst (λ r. IfOk r (Asks c.args.mapper_port texts)) (sym c.ok_or.ensures.value) (order_given c.args.mapper_port texts (subcommand_rows_of c.in-Ok.matches) c.order_in.result c.order_in.ensures taken same)

pub returns-in-Ok-clause-bad : goal.returns-in-Ok-clause-bad
returns-in-Ok-clause-bad c = λ e.
    let app_is = c.in_ok-program.ensures in
    let texts = map (λ word. word.now) c.args.words.now in
    let same : subcommand_rows_of c.in-Ok.matches ≡ subcommand_of program_app texts = subst (λ a. subcommand_rows_of c.in-Ok.matches ≡ subcommand_of a texts) app_is (c.in-Ok.ensures.matches (ap is_simple app_is ∙ is_read)).1 in
    no_order c.args.mapper_port texts (subcommand_rows_of c.in-Ok.matches) c.order_in.result c.order_in.ensures same (sym c.ok_or.ensures.value ∙ e)
