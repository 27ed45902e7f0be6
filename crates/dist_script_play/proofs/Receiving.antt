-- What frames print, in turn.
use Rattle.dist_script_play.proofs.Words.{◌≡◌, ℕ, zero, suc, ◌<◌, ◌≤◌, Bool, true, false, List, [], ◌∷◌, ◌++◌, length, Some, None, Ok, Err, Option, Result, sym}
use Rattle.dist_script_play.proofs.Words.{refl, ap, ◌∙◌, subst, append_assoc, append-nil, arith, Appends-nil, Appends-trans, set-get_or, Appends, next_body}
use Rattle.dist_script_play.proofs.Words.{to_come, unreported, without_count, without_next, EndId, NodeState, step, Reply, StepError, Readers, Received}
use Rattle.dist_script_play.proofs.Words.{Standing, after_frame, after_received, behind_text, frame_received, is_said, packets_text, reader_of, received}
use Rattle.dist_script_play.proofs.Words.{received_frames, received_text, step_text, with_reader, with_received, without_frame, Receives}
use Rattle.dist_script_play.proofs.Reading.{no_next, fewer}
use Rattle.dist_frames.specs.Reader.Reader.{Short}
use Rattle.dist_core.specs.declared.event.Event.TheVariants as event

both_behind : (a b : List ℕ) (h : Received) → behind_text (a ++ b) h ≡ behind_text a (behind_text b h)
both_behind a b h = ap (λ t. record { text = t; after = h.after }) (append_assoc a b h.text)

step_said : (made : Result (Reply × NodeState) StepError) (a : List ℕ) → is_said (a ++ step_text made) ≡ true
step_said (Ok x) [] = refl
step_said (Ok x) (c ∷ cs) = refl
step_said (Err e) [] = refl
step_said (Err e) (c ∷ cs) = refl

-- the lines so far, and those of what is left, are those of all
pub record SoFar (x : EndId) (fresh : ℕ) (all : Received) (some : Bool) (old new : Option (List ℕ)) (s : Standing) : Type 0 where
  pub done : List ℕ
  pub put : Appends old new done
  pub any : some ≡ is_said done
  -- at most this many are left
  pub most : ℕ
  pub few : length (to_come (reader_of s.readers x)) ≤ most
  pub rest : behind_text done (received_frames x fresh most s) ≡ all

-- before the first
pub none_yet : (x : EndId) (fresh : ℕ) (old : Option (List ℕ)) (s : Standing) → SoFar x fresh (received_frames x fresh (length (to_come (reader_of s.readers x))) s) false old old s
none_yet x fresh old s = record { done = []; put = Appends-nil old; any = refl; most = length (to_come (reader_of s.readers x)); few = omega arith; rest = refl }

-- one more
module _ (x : EndId) (fresh : ℕ) (all : Received) (old mid new : Option (List ℕ)) (s : Standing) (body : List ℕ) (next : Some body ≡ next_body (reader_of s.readers x)) (s2 : Standing)
    (put : Appends mid new (step_text (step s.node (event.Frame x body) fresh)))
    (after : s2 ≡ after_frame (without_frame s x) x (step s.node (event.Frame x body) fresh))
    (less : length (to_come (reader_of s2.readers x)) < length (to_come (reader_of s.readers x))) where
  one_of : (done : List ℕ) (some : Bool) (most : ℕ) → Appends old mid done → length (to_come (reader_of s.readers x)) ≤ most → behind_text done (received_frames x fresh most s) ≡ all
      → SoFar x fresh all true old new s2
  one_of done some zero so few rest = absurd (omega (arith, few, less))
  one_of done some (suc most) so few rest =
      let made = step s.node (event.Frame x body) fresh in
      let others : received_frames x fresh (suc most) s ≡ behind_text (step_text made) (received_frames x fresh most s2) =
      ap (λ o. frame_received x fresh o s (λ t. received_frames x fresh most t)) (sym next)
      ∙ ap (λ t. behind_text (step_text made) (received_frames x fresh most t)) (sym after) in
      record {
        done = done ++ step_text made;
        put = Appends-trans old mid new done (step_text made) so put;
        any = sym (step_said made done);
        most = most;
        few = omega (arith, few, less);
        rest = both_behind done (step_text made) (received_frames x fresh most s2) ∙ ap (behind_text done) (sym others) ∙ rest;
      }

-- one less is to come
pub one_less : (x : EndId) (fresh : ℕ) (s : Standing) (rs : Readers) (body : List ℕ) (s2 : Standing) → to_come (reader_of s.readers x) ≡ body ∷ to_come (reader_of rs x)
    → s2 ≡ after_frame (record { node = s.node; readers = rs }) x (step s.node (event.Frame x body) fresh)
    → length (to_come (reader_of s2.readers x)) < length (to_come (reader_of s.readers x))
one_less x fresh s rs body s2 first after =
    let left : length (to_come (reader_of s2.readers x)) ≤ length (to_come (reader_of rs x)) =
    subst (λ (t : Standing). length (to_come (reader_of t.readers x)) ≤ length (to_come (reader_of rs x))) (sym after)
    (fewer (record { node = s.node; readers = rs }) x (step s.node (event.Frame x body) fresh)) in
    let one : length (to_come (reader_of s.readers x)) ≡ suc (length (to_come (reader_of rs x))) = ap length first in
    omega (arith, left, one)

pub one_more : (x : EndId) (fresh : ℕ) (all : Received) (some : Bool) (old mid new : Option (List ℕ)) (s : Standing) (rs : Readers) (body : List ℕ) (s2 : Standing)
    → SoFar x fresh all some old mid s → Some body ≡ next_body (reader_of s.readers x) → rs ≡ with_reader s.readers x (without_next (reader_of s.readers x))
    → to_come (reader_of s.readers x) ≡ body ∷ to_come (reader_of rs x)
    → Appends mid new (step_text (step s.node (event.Frame x body) fresh))
    → s2 ≡ after_frame (record { node = s.node; readers = rs }) x (step s.node (event.Frame x body) fresh)
    → SoFar x fresh all true old new s2
one_more x fresh all some old mid new s rs body s2 so next without first put after =
    one_of x fresh all old mid new s body next s2 put (after ∙ ap (λ r. after_frame (record { node = s.node; readers = r }) x (step s.node (event.Frame x body) fresh)) without)
    (one_less x fresh s rs body s2 first after) so.done some so.most so.put so.few so.rest

-- no frame is left
no_more : (x : EndId) (fresh most : ℕ) (s : Standing) → None ≡ next_body (reader_of s.readers x) → received_frames x fresh most s ≡ record { text = []; after = s }
no_more x fresh zero s none = refl
no_more x fresh (suc most) s none = ap (λ o. frame_received x fresh o s (λ t. received_frames x fresh most t)) (sym none)

pub no_frame_left : (x : EndId) (fresh : ℕ) (all : Received) (some : Bool) (old new : Option (List ℕ)) (s s1 : Standing) (rs : Readers)
    → SoFar x fresh all some old new s → None ≡ next_body (reader_of s.readers x) → rs ≡ with_reader s.readers x (without_next (reader_of s.readers x))
    → s1 ≡ record { node = s.node; readers = rs } → Receives all some old new s1
no_frame_left x fresh all some old new s s1 rs so none without is =
    let ends : behind_text so.done (record { text = []; after = s }) ≡ all = ap (behind_text so.done) (sym (no_more x fresh so.most s none)) ∙ so.rest in
    let texts : so.done ≡ all.text = sym (append-nil so.done) ∙ ap (λ h. h.text) ends in
    let kept : rs ≡ s.readers = without ∙ ap (λ r. with_reader s.readers x r) (no_next (reader_of s.readers x) none) ∙ set-get_or s.readers x.0 (Short []) in
    record {
      text = subst (Appends old new) texts so.put;
      any = so.any ∙ ap is_said texts;
      after = is ∙ ap (λ r. record { node = s.node; readers = r }) kept ∙ ap (λ h. h.after) ends;
    }

-- the frames, and what stands behind their lines
module _ (x : EndId) (fresh : ℕ) (bytes : List ℕ) (s0 : Standing) (fed : Readers) (any : Bool) (a b : Option (List ℕ)) (s : Standing)
    (is_fed : fed ≡ with_received s0.readers x bytes)
    (receives : Receives (received_frames x fresh (length (to_come (reader_of fed x))) (record { node = s0.node; readers = fed })) any a b s) where
  abbrev h : Received
  h = received s0 x bytes fresh

  there : Receives h any a b s
  there =
      subst (λ q. Receives q any a b s)
      (ap (λ r. received_frames x fresh (length (to_come (reader_of r x))) (record { node = s0.node; readers = r })) is_fed) receives

  pub put_behind : (c : Option (List ℕ)) (k : ℕ) → k ≡ unreported (reader_of s.readers x) → Appends b c (packets_text any k) → Appends a c (received_text x (received s0 x bytes fresh))
  put_behind c k count put =
      let line : Appends b c (packets_text (is_said h.text) (let t = h.after in unreported (reader_of t.readers x))) =
      subst (λ q. Appends b c (packets_text (is_said h.text) q)) (count ∙ ap (λ (t : Standing). unreported (reader_of t.readers x)) there.after)
      (subst (λ q. Appends b c (packets_text q k)) there.any put) in
      Appends-trans a b c h.text (packets_text (is_said h.text) (let t = h.after in unreported (reader_of t.readers x))) there.text line

  pub stand_after : (new : Standing) (rs : Readers) → rs ≡ with_reader s.readers x (without_count (reader_of s.readers x)) → new ≡ record { node = s.node; readers = rs }
      → new ≡ after_received x (received s0 x bytes fresh)
  stand_after new rs count is =
      is ∙ ap (λ r. record { node = s.node; readers = r }) count
      ∙ ap (λ (t : Standing). record { node = t.node; readers = with_reader t.readers x (without_count (reader_of t.readers x)) }) there.after
