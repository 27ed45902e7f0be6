-- A reply is sent only to a challenge of the name that was dialled.
use Rattle.dist_names.proofs.Orders.{itself_lem, one_lem}
use Rattle.dist_peers.specs.declared.entry.Entry.TheVariants as entry
use Rattle.dist_core_ends.specs.declared.known.End.TheVariants as ends
use Rattle.dist_core_ends.specs.declared.phase.Phase.TheVariants as phase
use Rattle.dist_core.specs.declared.{effect.Effect.Effect, event.Event.Event, reply.Note.Note}
use Rattle.dist_core.specs.declared.event.Event.TheVariants as event
use Rattle.dist_core.specs.declared.reply.Note.TheVariants as note
use Rattle.dist_core.proofs.Closings.{at-own}
use Rattle.dist_core.proofs.Words.{read, Message, Side, Acceptor, Attempt, End, Out, ◌≡◌, ℕ, true, List, slice_get, Some, None, Ok, Option, option_map, sym, ap}
use Rattle.dist_core.proofs.Words.{◌∙◌, subst, eqb-true, false≢true, Name, EndId, Entry, AreLegal, entry_in, is_claim, is_held, kind_in, names, superseded_end}
use Rattle.dist_core.proofs.Words.{NodeState, Accepts, Acknowledged, Asks_again, Asks_alive, Begins, Ceases, Challenges, Closes, Comes_again, Comes_in}
use Rattle.dist_core.proofs.Words.{Complements, Crosses, Declines, Dials, Fails, Goes_on, Heard, Hears, Insists, IsChallenge, Loses, Names, Replied, Replies}
use Rattle.dist_core.proofs.Words.{StepRow, Taken, Ticks, sender_in, sender_to}
use Rattle.dist_core_laws.specs.Laws.{IsDialledChallenge}

abbrev noted : Effect → Note
noted f = f.reply.note

nothing : (f : Effect) → noted f ≡ note.Nothing → noted f ≡ note.ReplySaid → ⊥
nothing f is e = let bad : note.Nothing ≡ note.ReplySaid = sym is ∙ e in absurd cc

taken : (f : Effect) (p : Name) (x : Option EndId) → noted f ≡ note.NameTaken p x → noted f ≡ note.ReplySaid → ⊥
taken f p x is e = let bad : note.NameTaken p x ≡ note.ReplySaid = sym is ∙ e in absurd cc

by-taken : (n : NodeState) (id : EndId) (b : Attempt) (f : Effect) → Taken n id b f → noted f ≡ note.ReplySaid → ⊥
by-taken n id b f (Accepts is k) e = taken f b.peer None (ap noted k) e
by-taken n id b f (Crosses y is g k) e = (let h = (at-own id _ b y (superseded_end (slice_get n.ends y.0))).3 in taken f b.peer h.0 (ap noted k ∙ h.1) e)
by-taken n id b f (Declines y is g k) e = taken f b.peer None (ap noted k) e
by-taken n id b f (Comes_again y is k) e = taken f b.peer None (ap noted k) e
by-taken n id b f (Asks_alive y is k) e = taken f b.peer None (ap noted k) e
by-taken n id b f (Asks_again y z is k) e = taken f b.peer None (ap noted k) e

-- an entry that names this end as dialled
named-out : (id : EndId) (o : Option Entry) → names Out id.0 o ≡ true → o ≡ Some (entry.Out id)
named-out id (Some (entry.Out x)) h = let place : x.0 ≡ id.0 = eqb-true x.0 id.0 h in λ i. Some (entry.Out (record { 0 = place i }))
named-out id o h = absurd (false≢true h)

module _ (n : NodeState) (legal : AreLegal n.ends) where
  held : (id : EndId) (b : Attempt) → slice_get n.ends id.0 ≡ Some (ends.Attempt b) → b.phase ≡ phase.AwaitChallenge → entry_in n.ends b.peer ≡ Some (entry.Out id)
  held id b at ph =
      let out : is_held b.peer Out (slice_get n.ends id.0) ≡ true = ap (is_held b.peer Out) at ∙ ap (λ q. is_claim b.peer Out (option_map (λ k. record { peer = b.peer; kind = k }) (kind_in q))) ph ∙ itself_lem b.peer in
      named-out id (entry_in n.ends b.peer) (sym (legal b.peer Out id.0) ∙ out)

  same-side : (side : Side) → Some side ≡ Some Acceptor → side ≡ Acceptor
  same-side side e = cc

  by-heard : (v : Event) (id : EndId) (body : List ℕ) (e : End) (side : Side) (m : Message) (fresh : ℕ) (f : Effect) → v ≡ event.Frame id body → slice_get n.ends id.0 ≡ Some e → sender_to e ≡ Some side → read side body ≡ Ok m
      → Heard n id fresh e m f → noted f ≡ note.ReplySaid → IsDialledChallenge n v
  by-heard v id body e side m fresh f is at to says (Closes say w cause k) o = absurd (nothing f (ap noted k) o)
  by-heard v id body e side m fresh f is at to says (Names nm flags c p un mm ok t) o = absurd (by-taken n id _ f t o)
  by-heard v id body e side m fresh f is at to says (Goes_on st b un ph mm go k) o = absurd (nothing f (ap noted k) o)
  by-heard v id body e side m fresh f is at to says (Insists b un ph mm k) o = absurd (nothing f (ap noted k) o)
  by-heard v id body e side m fresh f is at to says (Challenges b un ph mm k) o = absurd (nothing f (ap noted k) o)
  by-heard v id body e side m fresh f is at to says (Complements high c b un ph mm fl k) o = absurd (nothing f (ap noted k) o)
  by-heard v id body e side m fresh f is at to says (Acknowledged digest b un ph mm right k) o = absurd (nothing f (ap noted k) o)
  by-heard v id body e side m fresh f is at to says (Replied challenge digest b un ph mm right k) o = absurd (nothing f (ap noted k) o)
  by-heard v id body e side m fresh f is at to says (Replies fm r flags challenge c p b un ph ch sn fl k) o =
      record {
        id = id;
        body = body;
        attempt = b;
        form = fm;
        required = r;
        flags = flags;
        challenge = challenge;
        creation = c;
        heard = m;
        came = is;
        there = at ∙ ap Some un;
        awaited = ph;
        says = ap (λ z. read z body) (sym (same-side side (sym to ∙ ap sender_to un ∙ ap sender_in ph))) ∙ says;
        is = subst (λ (q : Name). IsChallenge n.setup b fm r flags challenge c q m) (sym (one_lem b.peer p sn)) ch;
        held = held id b (at ∙ ap Some un) ph;
      }

  pub by-row : (v : Event) (fresh : ℕ) (f : Effect) → StepRow n v fresh f → noted f ≡ note.ReplySaid → IsDialledChallenge n v
  by-row v fresh f (Dials p nm is idle sp full cr k) o = absurd (nothing f (ap noted k) o)
  by-row v fresh f (Comes_in link is sp cr k) o = absurd (nothing f (ap noted k) o)
  by-row v fresh f (Begins id link b is at ph sp k) o = absurd (nothing f (ap noted k) o)
  by-row v fresh f (Ceases id link b is at ph sp k) o = absurd (nothing f (ap noted k) o)
  by-row v fresh f (Loses id w e is at opened k) o = absurd (nothing f (ap noted k) o)
  by-row v fresh f (Ticks id r is at sp k) o = absurd (nothing f (ap noted k) o)
  by-row v fresh f (Fails id body e side y is at to sp says k) o = absurd (nothing f (ap noted k) o)
  by-row v fresh f (Hears id body e side m is at to sp says h) o = by-heard v id body e side m fresh f is at to says h o
