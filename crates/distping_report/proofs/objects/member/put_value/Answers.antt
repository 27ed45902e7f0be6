use Rattle.std.proofs.Common.{ap}
use Rattle.json.specs.Tree.{json_tokens}
use Rattle.distping_report.specs.Objects.{json_of, shape_of}
use Rattle.distping_report.proofs.Members.{writes_value}
use Rattle.distping_report.proofs.objects.member.put_value.Goals as goal

pub returns-in-Null : goal.returns-in-Null
returns-in-Null c = writes_value (shape_of c.args.value) c.null.result c.null.ensures (ap (λ v. json_tokens (json_of (shape_of v))) c.in-Null.is)

pub returns-in-Bool : goal.returns-in-Bool
returns-in-Bool c = writes_value (shape_of c.args.value) c.boolean.result c.boolean.ensures (ap (λ v. json_tokens (json_of (shape_of v))) c.in-Bool.is)

pub returns-in-Number : goal.returns-in-Number
returns-in-Number c = writes_value (shape_of c.args.value) c.u64.result c.u64.ensures (ap (λ v. json_tokens (json_of (shape_of v))) c.in-Number.is)

pub returns-in-Text : goal.returns-in-Text
returns-in-Text c = writes_value (shape_of c.args.value) c.string.result c.string.ensures (ap (λ v. json_tokens (json_of (shape_of v))) c.in-Text.is)
