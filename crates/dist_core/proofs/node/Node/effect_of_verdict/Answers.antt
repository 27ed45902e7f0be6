use Rattle.dist_core.proofs.Words.{◌≡◌, ℕ, List, slice_get, sym, ap, ◌∙◌, rules, EndId, Verdict, Attempt, End, Setup, name_taken, superseded_end, supersedes}
use Rattle.dist_core.proofs.Words.{Effect}
use Rattle.dist_core.proofs.node.Node.effect_of_verdict.Goals as goal
use Rattle.dist_peers.specs.declared.entry.Verdict.TheVariants as verdict
use Rattle.dist_core.specs.Accepted.{verdict_text}

-- a name that crosses an attempt of this node, by what each call returned
simultaneous : (s : Setup) (es : List End) (id : EndId) (a : Attempt) (v : Verdict) (x : EndId) (say : List ℕ) (crossed : End) (e : Effect)
    → v ≡ verdict.OkSimultaneous x → say ≡ verdict_text s a v → crossed ≡ superseded_end (slice_get es x.0) → e ≡ supersedes id say a x crossed
    → e ≡ name_taken s es id a v
simultaneous s es id a v x say crossed e is text end_ made =
    made
    ∙ (λ i. supersedes id (text i) a x (end_ i))
    ∙ ap (λ (w : Verdict). supersedes id (verdict_text s a w) a x (superseded_end (slice_get es x.0))) is
    ∙ sym (ap (name_taken s es id a) is)

pub returns-in_ok-crossed-in-OkSimultaneous : goal.returns-in_ok-crossed-in-OkSimultaneous
returns-in_ok-crossed-in-OkSimultaneous c =
    simultaneous c.args.self.now.setup c.args.self.now.ends c.args.id c.args.attempt c.args.verdict c.in-OkSimultaneous.drops
    c.in_ok-say.say c.in_ok-crossed-in-OkSimultaneous.crossed _
    (search rules) (search rules) (search rules) (c.supersedes.ensures (search rules))
