use Rattle.std.proofs.{Common.◌<◌, Common.arith, Common.string_bytes, lemmas.Grind.common_steps, lemmas.List.Elements.All-from_get_or}
use Rattle.dist_names.proofs.Printable.{all_printable_in_quotes}
use Rattle.dist_names.proofs.escaping.quote.Goals as goal

pub returns-clause-printable : goal.returns-clause-printable
returns-clause-printable c =
    let bytes = c.args.bytes.now in
    all_printable_in_quotes (string_bytes c.push.new.self) bytes (grind (arith, common_steps)) (All-from_get_or (λ b. b < 256) bytes 0 (λ i l. omega (arith, c.type_inv.bytes i)))
