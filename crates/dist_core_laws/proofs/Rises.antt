-- An end comes up only with the digest of the own cookie and its own challenge.
use Rattle.dist_core.specs.declared.{effect.Effect.Effect, event.Event.Event}
use Rattle.dist_core.proofs.Closings.{at-own}
use Rattle.dist_core.proofs.Words.{Message, Attempt, End, UpRecord, ◌≡◌, ℕ, slice_get, Some, None, Option, sym, ap, ◌∙◌, subst, EndId, named_attempt, record_of}
use Rattle.dist_core.proofs.Words.{superseded_end, NodeState, Accepts, Acknowledged, Asks_again, Asks_alive, Begins, Ceases, Challenges, Closes, Comes_again}
use Rattle.dist_core.proofs.Words.{Comes_in, Complements, Crosses, Declines, Dials, Fails, Goes_on, Heard, Hears, Insists, Loses, Names, Replied, Replies}
use Rattle.dist_core.proofs.Words.{StepRow, Taken, Ticks}
use Rattle.dist_core_laws.specs.Laws.{IsRightRecord}

abbrev or_else : UpRecord → Option UpRecord → UpRecord
or_else d None = d
or_else d (Some x) = x

module _ (n : NodeState) (r : UpRecord) where
  none : (f : Effect) → f.reply.up ≡ None → f.reply.up ≡ Some r → IsRightRecord n.setup r
  none f is e = let bad : ◌≡◌ {A = Option UpRecord} None (Some r) = sym is ∙ e in absurd cc

  rises : (f : Effect) (s : UpRecord) → f.reply.up ≡ Some s → IsRightRecord n.setup s → f.reply.up ≡ Some r → IsRightRecord n.setup r
  rises f s is right e = let same : s ≡ r = ap (or_else r) (sym is ∙ e) in subst (IsRightRecord n.setup) same right

  by-taken : (id : EndId) (b : Attempt) (f : Effect) → Taken n id b f → f.reply.up ≡ Some r → IsRightRecord n.setup r
  by-taken id b f (Accepts is k) e = none f (ap (λ (f : Effect). f.reply.up) k) e
  by-taken id b f (Crosses y is g k) e = none f (ap (λ (f : Effect). f.reply.up) k ∙ (at-own id _ b y (superseded_end (slice_get n.ends y.0))).2) e
  by-taken id b f (Declines y is g k) e = none f (ap (λ (f : Effect). f.reply.up) k) e
  by-taken id b f (Comes_again y is k) e = none f (ap (λ (f : Effect). f.reply.up) k) e
  by-taken id b f (Asks_alive y is k) e = none f (ap (λ (f : Effect). f.reply.up) k) e
  by-taken id b f (Asks_again y z is k) e = none f (ap (λ (f : Effect). f.reply.up) k) e

  by-heard : (id : EndId) (fresh : ℕ) (d : End) (m : Message) (f : Effect) → Heard n id fresh d m f → f.reply.up ≡ Some r → IsRightRecord n.setup r
  by-heard id fresh d m f (Closes say c cause k) e = none f (ap (λ (f : Effect). f.reply.up) k) e
  by-heard id fresh d m f (Names o flags c p un mm ok t) e = by-taken id (named_attempt o flags c p fresh) f t e
  by-heard id fresh d m f (Goes_on s b un ph mm go k) e = none f (ap (λ (f : Effect). f.reply.up) k) e
  by-heard id fresh d m f (Insists b un ph mm k) e = none f (ap (λ (f : Effect). f.reply.up) k) e
  by-heard id fresh d m f (Replies o0 r0 flags challenge c p b un ph mm sn fl k) e = none f (ap (λ (f : Effect). f.reply.up) k) e
  by-heard id fresh d m f (Challenges b un ph mm k) e = none f (ap (λ (f : Effect). f.reply.up) k) e
  by-heard id fresh d m f (Complements high c b un ph mm fl k) e = none f (ap (λ (f : Effect). f.reply.up) k) e
  by-heard id fresh d m f (Acknowledged digest b un ph mm right k) e = rises f (record_of n.setup b digest) (ap (λ (f : Effect). f.reply.up) k) right e
  by-heard id fresh d m f (Replied challenge digest b un ph mm right k) e = rises f (record_of n.setup b digest) (ap (λ (f : Effect). f.reply.up) k) right e

  pub by-row : (v : Event) (fresh : ℕ) (f : Effect) → StepRow n v fresh f → f.reply.up ≡ Some r → IsRightRecord n.setup r
  by-row v fresh f (Dials p o is idle sp full cr k) e = none f (ap (λ (f : Effect). f.reply.up) k) e
  by-row v fresh f (Comes_in link is sp cr k) e = none f (ap (λ (f : Effect). f.reply.up) k) e
  by-row v fresh f (Begins id link b is at ph sp k) e = none f (ap (λ (f : Effect). f.reply.up) k) e
  by-row v fresh f (Ceases id link b is at ph sp k) e = none f (ap (λ (f : Effect). f.reply.up) k) e
  by-row v fresh f (Loses id w d is at opened k) e = none f (ap (λ (f : Effect). f.reply.up) k) e
  by-row v fresh f (Ticks id s is at sp k) e = none f (ap (λ (f : Effect). f.reply.up) k) e
  by-row v fresh f (Fails id body d side x is at to sp says k) e = none f (ap (λ (f : Effect). f.reply.up) k) e
  by-row v fresh f (Hears id body d side m is at to sp says h) e = by-heard id fresh d m f h e
