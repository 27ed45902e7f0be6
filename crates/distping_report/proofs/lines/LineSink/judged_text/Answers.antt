use Rattle.std.proofs.{Common.rules, Common.◌∷◌, Common.[], Common.codes, lemmas.Result.IfOk-weaker}
use Rattle.distping_report.proofs.lines.LineSink.judged_text.Goals as goal

pub returns-then-eq : goal.returns-then-eq
returns-then-eq c = IfOk-weaker c.format.result _ _ (λ text is. record {
  has_colors = c.args.self.has_colors;
  behind = c.args.judged.cause.now ∷ codes "\n" ∷ [];
  is = search (rules, is);
}) c.format.ensures.ok

pub returns : goal.returns
returns c = IfOk-weaker c.format-2.result _ _ (λ text is. record {
  has_colors = c.args.self.has_colors;
  behind = c.args.judged.cause.now ∷ codes "\n   remedy    " ∷ c.args.judged.remedy.now ∷ codes "\n" ∷ [];
  is = search (rules, is);
}) c.format-2.ensures.ok
