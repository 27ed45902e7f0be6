use Rattle.dist_core.proofs.Words.{◌≡◌, true, length, slice_get, Some, Ok, Option, sym, refl, ap, ◌∙◌, arith, rules, slice_get_within, is_open, End, closes}
use Rattle.dist_core.proofs.Words.{IsGone, NodeState, at_end, Effect}
use Rattle.dist_core.proofs.{Counts.length-within, Losses.gone_at, Losses.open_found}
use Rattle.dist_core.proofs.node.Node.lose.Goals as goal
use Rattle.dist_core_ends.specs.declared.known.End.TheVariants as ends
use Rattle.dist_core_ends.proofs.Fitting.{stays-closing}

pub close-requires-clause-there : goal.close-requires-clause-there
close-requires-clause-there c = slice_get_within c.self.inside.ends c.args.id.0 c.in_ok-_end._end.now c.in_ok-_end.ensures.0

-- an end at which something can be done is open
opened : (o : Option End) (e : End) (f : Effect) → o ≡ Some e → at_end o (λ _. Ok f) ≡ Ok f → is_open e ≡ true
opened o ends.Unnamed f is h = refl
opened o (ends.Attempt b) f is h = refl
opened o (ends.Up r) f is h = refl
opened o (ends.Closed w) f is h = let bad : at_end (Some (ends.Closed w)) (λ _. Ok f) ≡ Ok f = ap (λ (o : Option End). at_end o (λ _. Ok f)) (sym is) ∙ h in absurd cc

pub close-requires-clause-stays : goal.close-requires-clause-stays
close-requires-clause-stays c =
    let e = c.in_ok-_end._end.now in
    let f = closes c.args.id c.args.why in
    stays-closing (slice_get c.self.inside.ends c.args.id.0) e c.args.why c.in_ok-_end.ensures.0 (opened (slice_get c.self.inside.ends c.args.id.0) e f c.in_ok-_end.ensures.0 (c.in_ok-_end.ensures.1 (λ _. Ok f)))

pub invariant_of-self : goal.invariant_of-self
invariant_of-self c =
    let es = c.self.inside.ends in
    let within = slice_get_within es c.args.id.0 c.in_ok-_end._end.now c.in_ok-_end.ensures.0 in
    record {
      few = omega (arith, ap length c.close.ensures, length-within es c.args.id.0 (ends.Closed c.args.why) within, c.self.invariant.few);
      bounded = c.self.invariant.bounded;
      numbered = omega (arith, ap length c.close.ensures, length-within es c.args.id.0 (ends.Closed c.args.why) within, c.self.invariant.numbered);
    }

pub returns-in_err-_end-clause-gone : goal.returns-in_err-_end-clause-gone
returns-in_err-_end-clause-gone c =
    let gone : IsGone c.in_err-_end.field-0.0 = gone_at (slice_get c.self.inside.ends c.args.id.0) c.in_err-_end.field-0.0 c.in_err-_end.ensures.1 in
    search (rules, gone)

pub returns-in_err-_end-clause-open_end : goal.returns-in_err-_end-clause-open_end
returns-in_err-_end-clause-open_end c = λ e at opened.
    let here = ap (λ (m : NodeState). slice_get m.ends c.args.id.0) c.self.view_is ∙ at in
    absurd (open_found (slice_get c.self.inside.ends c.args.id.0) e (closes c.args.id c.args.why) c.in_err-_end.field-0.0 here opened c.in_err-_end.ensures.1)
