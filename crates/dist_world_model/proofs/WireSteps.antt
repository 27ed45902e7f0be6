-- All connections are wires still, where a node begins, ends or changes its setup, or bytes come.
use Rattle.dist_world_model.proofs.Words.{◌≡◌, ℕ, List, [], ◌∷◌, ◌++◌, slice_get, Some, None, Option, option_map, sym, refl, ap, ◌∙◌, subst, same_Some, Side}
use Rattle.dist_world_model.proofs.Words.{Acceptor, Dialler, Setup, setup_after, Change, bare, after_delivery, change_to, text_to, shut_all, shut_row, at_place}
use Rattle.dist_world_model.proofs.Words.{EndRow, Conn, Life, end_of_life, row_of_life}
use Rattle.dist_world_model.proofs.AllWires.{AreWired, RowKept, conns-at, conns-same, hush-refl, quiet-wired, row-refl, same-conn, voice-refl}
use Rattle.dist_world_model.proofs.{ConnectionRows.SameEnds, ConnectionRows.VoiceStays, WholeFrames.on_way, WholeFrames.way-delivered, WithoutEvent.get-shut}
use Rattle.dist_world_model.proofs.Lookups.{at-other, changed-at, end_in, more-at, row_in, voice_in, voice_of}
use Rattle.dist_world_model.proofs.Wires.{Hushed, same-voice}
use Rattle.dist_core.specs.declared.changing.Change.TheVariants as change

texts-same : (cs : List Conn) (c : ℕ) (k h : Conn) → slice_get cs c ≡ Some k → slice_get cs c ≡ Some h → (side : Side) → on_way (text_to side h) ≡ on_way (text_to side k)
texts-same cs c k h a b side = ap (λ (k : Conn). on_way (text_to side k)) (sym (same-conn cs c k h a b))

-- ---- a node begins

module _ (ls : List Life) (new : Life) (bare : new.rows ≡ []) (empty : new.node.ends ≡ []) where
  no-row : (p : ℕ) → slice_get new.rows p ≡ None
  no-row p = ap (λ rows. slice_get rows p) bare

  no-end : (p : ℕ) → slice_get new.node.ends p ≡ None
  no-end p = ap (λ es. slice_get es p) empty

  pub begun-wired : (cs : List Conn) → AreWired ls cs → AreWired (ls ++ new ∷ []) cs
  begun-wired cs = quiet-wired ls (ls ++ new ∷ []) cs cs
      (λ i. more-at voice_of VoiceStays voice-refl ls new (λ s e. absurd cc) i)
      (λ i p. more-at (λ o. row_of_life o p) RowKept row-refl ls new (subst (RowKept None) (sym (no-row p)) (row-refl None)) i)
      (λ i p. more-at (λ o. end_of_life o p) Hushed hush-refl ls new (subst (Hushed None) (sym (no-end p)) (hush-refl None)) i)
      (conns-same cs) (texts-same cs)

-- ---- an incarnation changes

pub bare-stays : (s : Setup) (v : Change) → bare (setup_after s v) ≡ bare s
bare-stays s (change.Cookie p c) = refl
bare-stays s (change.UsualCookie c) = refl
bare-stays s (change.Allow ps) = refl

-- its ends stay, and its rows but for what a connection does not see
pub turned-wired : (i : ℕ) (g : Life → Life) (ls : List Life) (old : Life) → slice_get ls i ≡ Some old → bare (g old).node.setup ≡ bare old.node.setup → (g old).node.ends ≡ old.node.ends
    → ((p : ℕ) → RowKept (slice_get old.rows p) (slice_get (g old).rows p)) → (cs : List Conn) → AreWired ls cs → AreWired (at_place i g ls) cs
turned-wired i g ls old at setup ends rows cs = quiet-wired ls (at_place i g ls) cs cs
    (λ j. changed-at voice_of VoiceStays voice-refl i g ls old at j (λ e s h. ap Some (same-voice (g old).node.setup old.node.setup setup) ∙ h))
    (λ j p. changed-at (λ o. row_of_life o p) RowKept row-refl i g ls old at j (λ e. rows p))
    (λ j p. changed-at (λ o. end_of_life o p) Hushed hush-refl i g ls old at j (λ e. subst (Hushed (slice_get old.node.ends p)) (ap (λ es. slice_get es p) (sym ends)) (hush-refl (slice_get old.node.ends p))))
    (conns-same cs) (texts-same cs)

pub shut-kept : (t : ℕ) (rows : List EndRow) (p : ℕ) → RowKept (slice_get rows p) (slice_get (shut_all t rows) p)
shut-kept t rows p = subst (RowKept (slice_get rows p)) (sym (get-shut t rows p)) (by (slice_get rows p))
  where
    by : (o : Option EndRow) → RowKept o (option_map (shut_row t) o)
    by None = row-refl None
    by (Some row) = record {
      stays = λ c x e h. (shut_row t x, ap (option_map (shut_row t)) e, refl, h);
      was = λ c y e h. (let z : shut_row t row ≡ y = same_Some _ _ e in (row, refl, ap (λ (r : EndRow). r.side) z, ap (λ (r : EndRow). r.conn) z ∙ h));
      quiet = record { marks = refl; peer = λ s h. refl };
    }

-- ---- bytes come

module _ (side : Side) (c n : ℕ) (ls : List Life) (cs : List Conn) where
  abbrev come : Conn → Conn
  come = change_to side (after_delivery n)

  same-ends : (k : Conn) → SameEnds k (come k) × ((come k).accepted ≡ k.accepted)
  same-ends k = by side
    where
      by : (s : Side) → SameEnds k (change_to s (after_delivery n) k) × ((change_to s (after_delivery n) k).accepted ≡ k.accepted)
      by Dialler = (record { life = refl; dialler = refl; target = refl }, refl)
      by Acceptor = (record { life = refl; dialler = refl; target = refl }, refl)

  same-texts : (d : ℕ) (h : Conn) → slice_get (at_place c come cs) d ≡ Some h → (k : Conn) × (slice_get cs d ≡ Some k) × ((to : Side) → on_way (text_to to h) ≡ on_way (text_to to k))
  same-texts = at-other (λ d h. (k : Conn) × (slice_get cs d ≡ Some k) × ((to : Side) → on_way (text_to to h) ≡ on_way (text_to to k))) c come cs (λ k at. (k, at, by side k)) (λ d k n at. (k, at, λ to. refl))
    where
      by : (s : Side) (k : Conn) (to : Side) → on_way (text_to to (change_to s (after_delivery n) k)) ≡ on_way (text_to to k)
      by Dialler k Dialler = way-delivered n k.back
      by Dialler k Acceptor = refl
      by Acceptor k Dialler = refl
      by Acceptor k Acceptor = way-delivered n k.there

  pub come-wired : AreWired ls cs → AreWired ls (at_place c come cs)
  come-wired = quiet-wired ls ls cs (at_place c come cs) (λ i. voice-refl (voice_in ls i)) (λ i p. row-refl (row_in ls i p)) (λ i p. hush-refl (end_in ls i p)) (conns-at c come cs same-ends)
      (λ d k h a b to. let g = same-texts d h b in g.2 to ∙ ap (λ (k : Conn). on_way (text_to to k)) (same-conn cs d g.0 k g.1 a))
