use Rattle.std.proofs.Common.{◌≡◌, ◌⊎◌, ℕ, suc, ◌+◌, List, length, Option, Err, ap, ◌∙◌, arith, Bor, option_copied}
use Rattle.dist_script.specs.{Scripts.nothing, Scripts.with_lines, Words.lines_of, Words.parts_in, Words.bytes_left}
use Rattle.dist_script.specs.declared.fault.ScriptFault.TheVariants.{NoMemory}
use Rattle.dist_script.proofs.Scripts.{line_taken, line_bad, at_fault}
use Rattle.dist_script.proofs.script.draft_of.Goals as goal

pub returns-in_err-take_line : goal.returns-in_err-take_line
returns-in_err-take_line c =
    let all = with_lines nothing 1 (lines_of c.args.text.now) in
    let so : all ≡ with_lines c.loop-rest.draft (c.loop-rest.number + 1) (lines_of c.in-Some.text.now) =
    c.loop-rest.invariant.so ∙ ap (λ (o : Option (Bor (List ℕ))). with_lines c.loop-rest.draft (c.loop-rest.number + 1) (parts_in 10 (option_copied o))) c.in-Some.is in
    at_fault _ (λ fault. (fault ≡ NoMemory) ⊎ (all ≡ Err fault)) c.from_residual.result c.in_err-take_line.field-0.0 c.from_residual.ensures.1
    (line_bad all c.loop-rest.draft c.loop-rest.number c.in-Some.text.now c.first_line.result.0.now (option_copied c.first_line.result.1) so c.first_line.ensures.parts c.in_err-take_line.field-0.0 c.in_err-take_line.ensures)

pub loop-rest-preserved : goal.loop-rest-preserved
loop-rest-preserved c =
    let all = with_lines nothing 1 (lines_of c.args.text.now) in
    let so : all ≡ with_lines c.loop-rest.draft (c.loop-rest.number + 1) (lines_of c.in-Some.text.now) =
    c.loop-rest.invariant.so ∙ ap (λ (o : Option (Bor (List ℕ))). with_lines c.loop-rest.draft (c.loop-rest.number + 1) (parts_in 10 (option_copied o))) c.in-Some.is in
    let left : bytes_left (option_copied c.loop-rest.rest) ≡ suc (length c.in-Some.text.now) = ap (λ (o : Option (Bor (List ℕ))). bytes_left (option_copied o)) c.in-Some.is in
    record {
      so = line_taken all c.loop-rest.draft c.loop-rest.number c.in-Some.text.now c.first_line.result.0.now (option_copied c.first_line.result.1) so c.first_line.ensures.parts c.take_line.new.self c.in_ok-take_line.ensures;
      counted = omega (arith, c.loop-rest.invariant.counted, left, c.first_line.ensures.fewer);
    }
