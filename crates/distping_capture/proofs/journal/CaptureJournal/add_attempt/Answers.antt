use Rattle.std.proofs.Common.{◌≡◌, List, ◌∷◌, ◌++◌, [], length, subst, arith, rules}
use Rattle.distping_capture.specs.Captures.{StandsFor}
use Rattle.distping_capture.specs.declared.dials.PastDial.{PastDial}
use Rattle.distping_capture.proofs.Counting.{written}
use Rattle.distping_capture.proofs.journal.CaptureJournal.add_attempt.Goals as goal

pub returns : goal.returns
returns g c =
    let before = c.args.self.now.dials in
    let same : length c.meet_all.new.earlier ≡ length before.items = omega (arith, c.meet_all.auto.earlier, c.deref_mut.ensures.len, c.deref_mut.ensures.value, before.ok.0) in
    let back = written before.len before.items c.meet_all.new.earlier (omega (arith, before.ok.0)) same in
    record {
      left = c.meet_all.new.self;
      others = c.meet_all.new.earlier;
      meets = search rules;
      adds = λ earlier e. subst (λ (l : List PastDial). StandsFor c.push_dial.new.self (earlier ++ (l ++ c.meet_all.new.self ∷ []))) back (c.in_ok-push_dial.ensures.stands earlier e);
      same = c.in_ok-push_dial.ensures.same;
    }
