-- What becomes of a dialled end that a crossing name supersedes, by how far its handshake has come.
use Rattle.dist_core_ends.specs.declared.{known.Attempt.Attempt, known.End.End, phase.Kind.TheVariants.Out, phase.Phase.Phase}
use Rattle.dist_core_ends.specs.declared.known.End.TheVariants as ends
use Rattle.dist_core_ends.specs.declared.phase.Phase.TheVariants as phase
use Rattle.dist_core_ends.proofs.Words.{◌≡◌, ℕ, true, List, slice_get, Some, Option, option_map, refl, ap, false≢true, EndId, is_claim, is_held, kind_in}
use Rattle.dist_core.specs.{Effects.superseded_end, Effects.superseded_in, Effects.supersedes, Node.NodeState, declared.effect.Effect.Effect}
use Rattle.dist_core_laws.specs.Laws.{Supersedes, Dooms, Drops, doomed_as, was_let_on}

module _ (n : NodeState) (id : EndId) (say : List ℕ) (b : Attempt) (x : EndId) (f : Effect) where
  by-phase : (d : Attempt) (ph : Phase) → slice_get n.ends x.0 ≡ Some (ends.Attempt d) → d.phase ≡ ph
      → is_claim b.peer Out (option_map (λ k. record { peer = d.peer; kind = k }) (kind_in ph)) ≡ true
      → f ≡ supersedes id say b x (superseded_in d ph) → Supersedes n id say b x f
  by-phase d phase.Dialing at ph held k = Dooms d phase.DoomedDialing at (ap (λ (q : Phase). doomed_as q) ph) k
  by-phase d phase.AwaitStatus at ph held k = Dooms d phase.Doomed at (ap (λ (q : Phase). doomed_as q) ph) k
  by-phase d phase.AwaitChallenge at ph held k = Drops d at (ap (λ (q : Phase). was_let_on q) ph) k
  by-phase d phase.AwaitAck at ph held k = Drops d at (ap (λ (q : Phase). was_let_on q) ph) k
  by-phase d q at ph held k = absurd (false≢true held)

  pub by-end : (o : Option End) → slice_get n.ends x.0 ≡ o → is_held b.peer Out o ≡ true → f ≡ supersedes id say b x (superseded_end o) → Supersedes n id say b x f
  by-end (Some (ends.Attempt d)) at held k = by-phase d d.phase at refl held k
  by-end o at held k = absurd (false≢true held)
