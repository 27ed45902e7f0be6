-- What was printed and the status are of these talks, in their rows.
use Rattle.std.proofs.Common.{rules}
use Rattle.std.specs.Prelude.{string_bytes}
use Rattle.distcheck.proofs.put_report.Goals as goal

pub returns : goal.returns
returns g c = λ confirmed. record {
  talks = c.args.suite.now.talks.items;
  rows = c.in_ok-rows.rows.items;
  all = c.args.suite.now.rows;
  text = string_bytes c.in_ok-text.text;
  confirmed = confirmed;
  status_is = search rules;
  there = search rules;
  in_rows = search rules;
  are_rows = search rules;
  printed = search rules;
  last = λ lines. search rules;
}
