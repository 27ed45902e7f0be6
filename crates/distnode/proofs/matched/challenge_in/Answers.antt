use Rattle.std.proofs.Common.{◌≡◌, ◌∙◌, sym, ap, codes, Some, None}
use Rattle.clap.specs.Words.{first_of, found_of, rows_of}
use Rattle.distnode.proofs.Rows.{matched, number_read, number_left}
use Rattle.distnode.proofs.matched.challenge_in.Goals as goal

pub returns-in-Some : goal.returns-in-Some
returns-in-Some c =
    let value : first_of (codes "challenge") (rows_of (found_of c.args.matches.now)) ≡ Some c.in-Some.word.now = matched (λ b. b.now) (found_of c.args.matches.now) (codes "challenge") c.get_str.result (Some c.in-Some.word) c.get_str.ensures c.in-Some.is in
    number_read 32 0 _ c.as_bytes.result.now c.number_32.result (value ∙ ap Some (sym c.as_bytes.ensures.value)) c.number_32.ensures

pub returns-in-None : goal.returns-in-None
returns-in-None c =
    let value : first_of (codes "challenge") (rows_of (found_of c.args.matches.now)) ≡ None = matched (λ b. b.now) (found_of c.args.matches.now) (codes "challenge") c.get_str.result None c.get_str.ensures c.in-None.is in
    number_left 32 0 _ value
