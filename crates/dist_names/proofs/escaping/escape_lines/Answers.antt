use Rattle.std.proofs.{Common.◌<◌, Common.arith, Common.string_bytes, lemmas.List.Elements.All-from_get_or}
use Rattle.dist_names.proofs.Printable.{all_printable_in_lines}
use Rattle.dist_names.proofs.escaping.escape_lines.Goals as goal

pub returns-clause-printable : goal.returns-clause-printable
returns-clause-printable c =
    let bytes = c.args.bytes.now in
    all_printable_in_lines (string_bytes c.loop-byte.text) bytes c.loop-byte.byte-index (omega arith) c.loop-byte.invariant (All-from_get_or (λ b. b < 256) bytes 0 (λ i h. omega (arith, c.type_inv.bytes i)))
