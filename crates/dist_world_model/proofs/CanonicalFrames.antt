-- What is taken from a connection was spelled by a node of the world.
use Rattle.dist_world_model.proofs.Words.{◌≡◌, ℕ, List, slice_get, Some, Option, ap, ◌∙◌, w16, low_half, first_body, Message, Side, Acceptor}
use Rattle.dist_world_model.proofs.Words.{Dialler, Setup, AllFit, AreSetups, bare, text_to, NodeLaws, run, Conn, Life, World, empty, Happening}
use Rattle.dist_world_model.proofs.{AllWires.EndAt, ConnectionRows.life_of, ConnectionRows.row_of, OwnSetups.bare-begun, WholeFrames.way-taken}
use Rattle.dist_world_model.proofs.Words.{AllLives}
use Rattle.dist_world_model.specs.OwnSetups.{BeginsWith, applied_as}
use Rattle.dist_world_model.proofs.{Lookups.far, Lookups.life-there, Lookups.voice-there, Lookups.voice_of, WorldFacts.IsKept, WorldFacts.kept}
use Rattle.dist_world_model.proofs.Wires.{Marks, May, MayAnswer, MaySay, Said, Voice, canonical-map, marks_of, voice}
use Rattle.dist_messages.specs.declared.message.Message.TheVariants as message
use Rattle.dist_core_setup.specs.Rules.{announced_by}
use Rattle.dist_world_model.specs.Frames.{IsCanonical, Announces, AreCanonical}

-- what a node may say has the flags of its setup
say-flags : (s r : Setup) (replied : Option ℕ) (m : Message) → announced_by s ≡ announced_by r → MaySay (voice s) replied m → Announces r m
say-flags s r o (message.NewName f c p) e h = h.1 ∙ e
say-flags s r o (message.OldName f p) e h = h.0 ∙ ap low_half e
say-flags s r o (message.NewChallenge f n c p) e h = absurd h
say-flags s r o (message.OldChallenge f n p) e h = absurd h
say-flags s r o m e h = tt

answer-flags : (s r : Setup) (other : Voice) (named rose : Option ℕ) (m : Message) → announced_by s ≡ announced_by r → MayAnswer (voice s) other named rose m → Announces r m
answer-flags s r other n u (message.NewName f c p) e h = absurd h
answer-flags s r other n u (message.OldName f p) e h = absurd h
answer-flags s r other n u (message.NewChallenge f ch c p) e h = h.2 ∙ e
answer-flags s r other n u (message.OldChallenge f ch p) e h = h.2 ∙ ap low_half e
answer-flags s r other n u m e h = tt

may-flags : (side : Side) (s r : Setup) (other : Voice) (x : Marks) (m : Message) → announced_by s ≡ announced_by r → May side (voice s) other x m → Announces r m
may-flags Dialler s r other x m e h = say-flags s r x.replied m e h
may-flags Acceptor s r other x m e h = answer-flags s r other x.named x.rose m e h

bare-announces : (s r : Setup) → bare s ≡ bare r → announced_by s ≡ announced_by r
unfolding announced_by
bare-announces s r e = ap announced_by e

-- P says with which setups nodes began as which number; a message of such a node
abbrev IsOwn : (ℕ → ℕ → Setup → Type 0) → List ℕ → Type 0
IsOwn P body = (b : ℕ) × (s : Setup) × (t : ℕ) × P t b s × IsCanonical (Announces s) body

abbrev Begun : (ℕ → ℕ → Setup → Type 0) → Life → Type 0
Begun P l = (s : Setup) × P l.begun l.who s × (bare l.node.setup ≡ bare s)

module _ (P : ℕ → ℕ → Setup → Type 0) (w : World) (h : IsKept w) (all : AllLives (Begun P) w) (c : ℕ) (k : Conn) (at : slice_get w.conns c ≡ Some k) (body : List ℕ) where
  -- the incarnation on a side
  there : (side : Side) → (l : Life) × (slice_get w.lives (life_of side k) ≡ Some l)
  there Dialler = let d = h.wired.0.dialled c k at in let g = life-there w.lives k.life k.dialler d.row d.there in (g.0, g.1)
  there Acceptor = let t = h.wired.0.target c k at in let g = voice-there w.lives k.target t.0 t.1 in (g.0, g.1)

  -- what an incarnation spelled is what its node spells
  spelled : (side far : Side) → EndAt w.lives side far k → first_body w16 (text_to far k).come ≡ Some body → IsOwn P body
  spelled side far e first =
      let l = there side in let m = there far in
      let end_ = e (voice l.0.node.setup) (voice m.0.node.setup) (ap voice_of l.1) (ap voice_of m.1) in
      let x : Marks = marks_of (row_of w.lives side k) in
      let Q : Message → Type 0 = May side (voice l.0.node.setup) (voice m.0.node.setup) x in
      let said = way-taken (Said side Q) (text_to far k) body end_.said first in
      let s = said.0 in
      let o = all (life_of side k) l.0 l.1 in
      let same = bare-announces l.0.node.setup o.0 o.2 in
      (l.0.who, o.0, l.0.begun, o.1, canonical-map Q (Announces o.0) (λ m. may-flags side l.0.node.setup o.0 _ x m same) body s.spelled)

  taken : (side : Side) → first_body w16 (text_to side k).come ≡ Some body → IsOwn P body
  taken Acceptor first = let g = h.wired.1 c k at in spelled Dialler Acceptor g.0 first
  taken Dialler first = let g = h.wired.1 c k at in spelled Acceptor Dialler g.1 first

module _ (laws : NodeLaws) where
  pub canonical-frames : (ss : List Setup) (hs : List Happening) → AreSetups ss → AllFit hs → AreCanonical ss hs (run hs (empty ss))
  canonical-frames ss hs good fit c k side body at first =
      taken (λ t who s. BeginsWith ss (applied_as hs (empty ss) t) who s) (run hs (empty ss)) (kept laws ss hs good fit) (bare-begun ss hs) c k at body side first
