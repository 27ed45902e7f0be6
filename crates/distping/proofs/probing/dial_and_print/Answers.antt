use Rattle.distping.proofs.probing.dial_and_print.Goals as goal

pub returns-clause-shows : goal.returns-clause-shows
returns-clause-shows c = record {
  keeps = record { outcome = c.in_ok-outcome.outcome; comes = c.in_ok-outcome.ensures.comes; kept = c.half_of.ensures.kept };
  shows = c.in_ok-node_text.ensures;
}
