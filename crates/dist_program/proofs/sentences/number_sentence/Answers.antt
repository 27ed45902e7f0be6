use Rattle.std.proofs.Common.{◌≡◌, ◌∙◌, [], ◌∷◌, IfOk, ap, codes, string_bytes, subst}
use Rattle.std.specs.List.{concat}
use Rattle.dist_names.specs.Escaped.{in_double_quotes}
use Rattle.dist_program.proofs.sentences.number_sentence.Goals as goal

pub returns : goal.returns
returns c =
    subst (λ quoted. IfOk c.format.result (λ sentence. string_bytes sentence ≡ concat (
    codes "bad command line: --" ∷ c.args.id.now ∷ codes " takes a number from 1 to 65535: " ∷ quoted
    ∷ codes " (" ∷ c.args.program.now ∷ codes " --help)" ∷ [])))
    (c.in_ok-quoted.ensures.text ∙ ap in_double_quotes c.as_bytes.ensures.value) c.format.ensures.ok
