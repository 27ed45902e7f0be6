-- What a node sends is whole frames of messages that it may send.
use Rattle.dist_world_model.proofs.Words.{◌≡◌, ℕ, ◌^◌, ◌<◌, true, false, cond, ◌&&◌, List, [], ◌∷◌, length, is_some, Ok, Option, sym, refl, ◌∙◌, subst, inl}
use Rattle.dist_world_model.proofs.Words.{inr, arith, lit<, IsNodeName, is_said_by, Form, Message, Side, Acceptor, Dialler, Status, announced_by, knows_six}
use Rattle.dist_world_model.proofs.Words.{Setup, NodeLaws}
use Rattle.dist_world_model.proofs.WholeFrames.{Whole, whole-append, whole-empty, whole-one}
use Rattle.dist_world_model.proofs.Wires.{MayAnswer, MaySay, Said, Voice, is_newer, voice}
use Rattle.dist_messages.specs.{Canonical.canonical, Reading.read, Spelling.Fits}
use Rattle.dist_messages.specs.declared.form.Form.TheVariants as form
use Rattle.dist_messages.specs.declared.message.Message.TheVariants as message
use Rattle.dist_core_setup.specs.Rules.{own_digest}
use Rattle.dist_core_setup.specs.Saying.{challenge_text, CanBeSaid, ack_message, complement_message, frames_of_messages, new_challenge_message}
use Rattle.dist_core_setup.specs.Saying.{new_name_message, old_challenge_message, old_name_message, reply_message, ack_text, greeting_text, name_text}
use Rattle.dist_core_setup.specs.Saying.{reply_text, status_text, tick_text, frame_of}

-- the setup's name is a name, and its numbers fit
pub record IsFit (s : Setup) : Type 0 where
  pub name : IsNodeName s.name
  pub flags : announced_by s < 2 ^ 64
  pub creation : s.creation.0 < 2 ^ 32

-- a digest has 16 bytes
pub digest-length : NodeLaws → (s : Setup) (p : List ℕ) (n : ℕ) → length (own_digest s p n) ≡ 16
unfolding own_digest
digest-length laws s p n = laws.sayings.digest_len _ n

-- ---- one message

framed-said : (P : List ℕ → Type 0) (m : Message) → length (canonical m) < 2 ^ 16 → P (canonical m) → Whole P (frame_of m)
unfolding frame_of
framed-said P m f h = whole-one P (canonical m) f h

module _ (laws : NodeLaws) where
  canonical-said : (side : Side) (P : Message → Type 0) (m : Message) → CanBeSaid side m → Fits m → P m → Said side P (canonical m)
  canonical-said side P m c f h = record {
    spelled = inr (m, refl, f, h);
    read_as = λ k e. let q : Ok m ≡ Ok k = sym (laws.sayings.read_back side m f c) ∙ e in let z : m ≡ k = cc in subst P z h;
  }

  pub message-said : (side : Side) (P : Message → Type 0) (m : Message) → CanBeSaid side m → Fits m → P m → Whole (Said side P) (frames_of_messages (m ∷ []))
  message-said side P m c f h = framed-said (Said side P) m c.1 (canonical-said side P m c f h)

  pub two-said : (side : Side) (P : Message → Type 0) (m k : Message) → CanBeSaid side m → Fits m → P m → CanBeSaid side k → Fits k → P k → Whole (Said side P) (frames_of_messages (m ∷ k ∷ []))
  two-said side P m k c f h c' f' h' = whole-append (Said side P) (frame_of m) (frames_of_messages (k ∷ [])) (message-said side P m c f h) (message-said side P k c' f' h')

-- nothing is read in a body of no byte
empty-said : (side : Side) (P : Message → Type 0) → Said side P []
unfolding read
empty-said side P = record { spelled = inl refl; read_as = λ m e. absurd cc }

pub tick-said : (side : Side) (P : Message → Type 0) → Whole (Said side P) tick_text
tick-said side P = whole-append (Said side P) (0 ∷ 0 ∷ []) (0 ∷ 0 ∷ []) (whole-one (Said side P) [] (lit< tt) (empty-said side P)) (whole-one (Said side P) [] (lit< tt) (empty-said side P))

pub nothing-said : (side : Side) (P : Message → Type 0) → Whole (Said side P) []
nothing-said side P = whole-empty (Said side P)

module _ (laws : NodeLaws) where
  pub status-said : (side : Side) (P : Message → Type 0) (s : Status) → is_said_by s side ≡ true → P (message.Status s) → Whole (Said side P) (status_text s)
  status-said side P s h p = message-said laws side P (message.Status s) (laws.sayings.says_status side s h) tt p

  -- ---- the dialling side

  module _ (s : Setup) (fit : IsFit s) (replied : Option ℕ) where
    old-name-said : Whole (Said Dialler (MaySay (voice s) replied)) (frames_of_messages (old_name_message s ∷ []))
    old-name-said = message-said laws Dialler (MaySay (voice s) replied) (old_name_message s) (laws.sayings.says_old_name _ _ fit.name) (let f = fit.flags in omega arith) (refl, refl)

    pub name-said : (o : Form) → Whole (Said Dialler (MaySay (voice s) replied)) (name_text s o)
    name-said form.New =
        elim (knows_six s) as (λ v. knows_six s ≡ v → Whole (Said Dialler (MaySay (voice s) replied)) (frames_of_messages (cond v (new_name_message s) (old_name_message s) ∷ []))) [
          | true ↦ λ v. message-said laws Dialler (MaySay (voice s) replied) (new_name_message s) (laws.sayings.says_new_name _ _ _ fit.name) (fit.flags, fit.creation) (v, refl, refl, refl)
          | false ↦ λ v. old-name-said
        ] refl
    name-said form.Old = old-name-said
    name-said form.Five = old-name-said

    pub reply-said : (o : Form) (p : List ℕ) (fresh challenge : ℕ) → fresh < 2 ^ 32 → is_some replied ≡ true → Whole (Said Dialler (MaySay (voice s) replied)) (reply_text s o p fresh challenge)
    reply-said form.New p fresh challenge f h = message-said laws Dialler (MaySay (voice s) replied) (reply_message s p fresh challenge) (laws.sayings.says_reply fresh _ (digest-length laws s p challenge)) (f, digest-length laws s p challenge) h
    reply-said form.Old p fresh challenge f h = two-said laws Dialler (MaySay (voice s) replied) (complement_message s) (reply_message s p fresh challenge) (laws.sayings.says_complement _ _) ((let g = fit.flags in omega arith), fit.creation) (refl, refl) (laws.sayings.says_reply fresh _ (digest-length laws s p challenge)) (f, digest-length laws s p challenge) h
    reply-said form.Five p fresh challenge f h = message-said laws Dialler (MaySay (voice s) replied) (reply_message s p fresh challenge) (laws.sayings.says_reply fresh _ (digest-length laws s p challenge)) (f, digest-length laws s p challenge) h

  -- ---- the accepting side

  module _ (s : Setup) (other : Voice) (fit : IsFit s) (named rose : Option ℕ) where
    abbrev May : Message → Type 0
    May = MayAnswer (voice s) other named rose

    -- ---- the challenge, after a status or alone

    module _ (fresh : ℕ) (f : fresh < 2 ^ 32) (h : is_some named ≡ true) where
      new-challenge-said : (knows_six s && other.six) ≡ true → Whole (Said Acceptor May) (frames_of_messages (new_challenge_message s fresh ∷ []))
      new-challenge-said v = message-said laws Acceptor May (new_challenge_message s fresh) (laws.sayings.says_challenge _ fresh _ _ fit.name) (fit.flags, f, fit.creation) (h, v, refl, refl, refl)

      old-challenge-said : (knows_six s && other.six) ≡ false → Whole (Said Acceptor May) (frames_of_messages (old_challenge_message s fresh ∷ []))
      old-challenge-said v = message-said laws Acceptor May (old_challenge_message s fresh) (laws.sayings.says_old_challenge _ fresh _ fit.name) ((let g = fit.flags in omega arith), f) (h, v, refl, refl)

      pub challenge-said : (o : Form) → (knows_six s && other.six) ≡ is_newer o → Whole (Said Acceptor May) (challenge_text s o fresh)
      challenge-said form.Five v = old-challenge-said v
      challenge-said o v = new-challenge-said v

    after-status : (k : Status) (m : Message) → is_said_by k Acceptor ≡ true → Whole (Said Acceptor May) (frames_of_messages (m ∷ [])) → Whole (Said Acceptor May) (frames_of_messages (message.Status k ∷ m ∷ []))
    after-status k m b w = whole-append (Said Acceptor May) (frame_of (message.Status k)) (frames_of_messages (m ∷ [])) (message-said laws Acceptor May (message.Status k) (laws.sayings.says_status Acceptor k b) tt tt) w

    pub greeting-said : (k : Status) (fresh : ℕ) (o : Form) → is_said_by k Acceptor ≡ true → fresh < 2 ^ 32 → is_some named ≡ true → (knows_six s && other.six) ≡ is_newer o → Whole (Said Acceptor May) (greeting_text s k o fresh)
    greeting-said k fresh form.New b f h v = after-status k (new_challenge_message s fresh) b (new-challenge-said fresh f h v)
    greeting-said k fresh form.Old b f h v = after-status k (new_challenge_message s fresh) b (new-challenge-said fresh f h v)
    greeting-said k fresh form.Five b f h v = after-status k (old_challenge_message s fresh) b (old-challenge-said fresh f h v)

    pub ack-said : (p : List ℕ) (challenge : ℕ) → is_some rose ≡ true → Whole (Said Acceptor May) (ack_text s p challenge)
    ack-said p challenge h = message-said laws Acceptor May (ack_message s p challenge) (laws.sayings.says_ack _ (digest-length laws s p challenge)) (digest-length laws s p challenge) h
