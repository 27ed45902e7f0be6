-- What an event that an incarnation gets does to the lists.
use Rattle.std.proofs.{Common.get_or, Common.set, lemmas.List.set-get_or, lemmas.Option.slice_get-get_or}
use Rattle.dist_core.specs.Answers.{Refuses}
use Rattle.dist_core.specs.declared.step_error.StepError.TheVariants as error
use Rattle.dist_world_model.proofs.Conditions.{there, not_held, is_refused, nothing_behind}
use Rattle.dist_world_model.proofs.Words.{Event, Reply, StepError, Side, ◌≡◌, ℕ, ◌<◌, true, false, List, length, slice_get, Some, Ok, Err, Option, Result, sym}
use Rattle.dist_world_model.proofs.Words.{ap, ◌∙◌, NodeState, step, life_after, Conn, Life, World, runs}
use Rattle.dist_world_lives.specs.Notifying.{event_wire, HasNotified, Declines, is_out_of_memory}
use Rattle.dist_world_lives.specs.{Stepping.IsLifeStep, Stepping.conns_after, declared.stepping.LifeStep.LifeStep}
use Rattle.dist_world_lives.proofs.{Edits.at_set, Wired.AreOwn, Wired.as_wired}

pub refused : (e : StepError) (s : Result (Reply × NodeState) StepError) → is_out_of_memory e ≡ false → Refuses e s → s ≡ Err e
refused error.NoMemory s h r = absurd cc
refused e s h r = r

-- ---- who declines

-- an incarnation of a world in which these are
pub of_world : (lives : List Life) (w : World) (i : ℕ) (o : Option Life) → w.lives ≡ lives → slice_get lives i ≡ o → slice_get w.lives i ≡ o
of_world lives w i o same at = ap (λ (ls : List Life). slice_get ls i) same ∙ at

pub declines_over : (lives : List Life) (i : ℕ) (v : Event) (fresh : ℕ) (l : Life) → slice_get lives i ≡ Some l → runs l ≡ false → Declines lives i v fresh
declines_over lives i v fresh l at over = λ w same. there (slice_get w.lives i) l _ (of_world lives w i (Some l) same at) ∙ not_held (runs l) _ over

pub declines_refused : (lives : List Life) (i : ℕ) (v : Event) (fresh : ℕ) (l : Life) (e : StepError) → slice_get lives i ≡ Some l → step l.node v fresh ≡ Err e → Declines lives i v fresh
declines_refused lives i v fresh l e at is = λ w same. there (slice_get w.lives i) l _ (of_world lives w i (Some l) same at) ∙ nothing_behind (runs l) _ (is_refused (step l.node v fresh) e _ is)

-- ---- an incarnation among all

module _ (lives : List Life) (i : ℕ) (l : Life) (few : i < length lives) (is : l ≡ get_or lives i l) where
  pub stands : slice_get lives i ≡ Some l
  stands = slice_get-get_or lives i l few ∙ ap (λ (x : Life). Some x) (sym is)

  pub put_back : (m : Life) → m ≡ l → set lives i m ≡ lives
  put_back m same = ap (set lives i) (same ∙ is) ∙ set-get_or lives i l

  pub has_notified : AreOwn → (t : ℕ) (v : Event) (fresh : ℕ) (conns said : List Conn) (m : Life) (h : LifeStep) (who : ℕ) (wire : Option (Side × ℕ)) → runs l ≡ true → who ≡ m.who → wire ≡ event_wire l.rows v → IsLifeStep (Ok h) (step l.node v fresh) t v l m wire conns said → HasNotified who h i t v fresh lives (set lives i m) conns said
  has_notified are t v fresh conns said m h who wire run whose placed k =
      let r = k.0 in
      record {
        life = l;
        reply = k.0;
        node = k.1;
        there = stands;
        running = run;
        stepped = k.2;
        whose = whose ∙ ap (λ (x : Life). x.who) k.4;
        made = k.3;
        lived_ = ap (set lives i) k.4 ∙ at_set (λ old. life_after t v k.0 k.1 l) lives i l few is;
        spoken_ = k.5 ∙ (ap (λ o. conns_after conns o r.say) placed ∙ sym (as_wired t k.0 l.rows conns are l.node v fresh k.1 k.2));
      }
