use Rattle.std.proofs.Common.{rules, ◌≡◌, codes, Some, None}
use Rattle.clap.specs.Words.{first_of, found_of, rows_of}
use Rattle.distnode.proofs.Rows.{matched, no_cookie}
use Rattle.distnode.proofs.matched.cookie_order.Goals as goal

pub returns-in_err-file : goal.returns-in_err-file
returns-in_err-file c = λ usual.
    let value : first_of (codes "file") (rows_of (found_of c.args.matches.now)) ≡ None = matched (λ b. b.now) (found_of c.args.matches.now) (codes "file") c.get_str.result None c.get_str.ensures (search rules) in
    let none = no_cookie usual (rows_of (found_of c.args.matches.now)) value in
    search rules

pub returns : goal.returns
returns c = λ usual.
    let value : first_of (codes "file") (rows_of (found_of c.args.matches.now)) ≡ Some c.in_ok-file.file.now = matched (λ b. b.now) (found_of c.args.matches.now) (codes "file") c.get_str.result (Some c.in_ok-file.file) c.get_str.ensures (search rules) in
    search rules
