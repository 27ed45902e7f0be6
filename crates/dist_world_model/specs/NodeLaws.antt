-- WHAT THE LAWS OF WORLDS TAKE FROM ONE NODE: each is a contract of a crate below.
use Rattle.std.specs.Prelude.{◌&&◌, ◌≡◌, ◌<◌, ◌^◌, ◌≤◌}
use Rattle.dist_world_model.specs.Words.{ℕ, List, Some, true, false, Name, EndId, Side, Dialler, Acceptor, Event, slice_get, Setup, End, NodeState, length}
use Rattle.dist_world_model.specs.Words.{Creation, Change, change, step, opening, IsNodeName, common, knows_six, low_half, Message, Fits, canonical}
use Rattle.dist_world_model.specs.Words.{announced_by, Ok, has_all, handshake_23, same_name, is_said_by, AreLegal, ends_after, node_after, effect_of}
use Rattle.dist_names.specs.declared.flags.Flags.{Flags}
use Rattle.dist_messages.specs.{declared.message.Status.Status, Reading.read}
use Rattle.dist_messages.specs.declared.message.Message.TheVariants as message
use Rattle.dist_core_ends.specs.Change.{IsThere, view_after}
use Rattle.dist_core_setup.specs.Saying.{CanBeSaid}
use Rattle.dist_secret.specs.Digest.{digest_of}
use Rattle.dist_core.specs.{Acts.changed_or, declared.effect.Effect.Effect, Rows.StepRow, Rows.Heard}
use Rattle.dist_core_laws.specs.{Laws.IsOther, Records.AreRight}

-- names that compare as equal are one name, and a name is one with itself
pub record NameLaws : Type 0 where
  pub one_name : (p q : Name) → same_name p q ≡ true → p ≡ q
  pub itself : (p : Name) → same_name p p ≡ true

-- each message that a node sends has a spelling, and is read as the message that it is; a digest has 16 bytes; the lower half
-- of announced flags shows the version, and is all that two nodes have in common of which one knows version 5 alone
pub record SayingLaws : Type 0 where
  pub says_status : (side : Side) (s : Status) → is_said_by s side ≡ true → CanBeSaid side (message.Status s)
  pub says_new_name : (flags : Flags) (c : Creation) (name : Name) → IsNodeName name → CanBeSaid Dialler (message.NewName flags c name)
  pub says_old_name : (flags : ℕ) (name : Name) → IsNodeName name → CanBeSaid Dialler (message.OldName flags name)
  pub says_challenge : (flags : Flags) (n : ℕ) (c : Creation) (name : Name) → IsNodeName name → CanBeSaid Acceptor (message.NewChallenge flags n c name)
  pub says_old_challenge : (flags n : ℕ) (name : Name) → IsNodeName name → CanBeSaid Acceptor (message.OldChallenge flags n name)
  pub says_complement : (high : ℕ) (c : Creation) → CanBeSaid Dialler (message.Complement high c)
  pub says_reply : (n : ℕ) (digest : List ℕ) → length digest ≡ 16 → CanBeSaid Dialler (message.Reply n digest)
  pub says_ack : (digest : List ℕ) → length digest ≡ 16 → CanBeSaid Acceptor (message.Ack digest)
  pub read_back : (side : Side) (m : Message) → Fits m → CanBeSaid side m → read side (canonical m) ≡ Ok m
  pub announced : (s : Setup) → announced_by s < 2 ^ 64
  pub digest_len : (cookie : List ℕ) (challenge : ℕ) → length (digest_of cookie challenge) ≡ 16
  pub versions : (s : Setup) → has_all (low_half (announced_by s)) handshake_23 ≡ knows_six s
  pub halves : (own other : Setup) → (knows_six own && knows_six other) ≡ false
      → common (announced_by own) (low_half (announced_by other)) ≡ common (announced_by own) (announced_by other)

-- THE LAWS OF ONE STEP: it is a row of the tables; legal ends stay legal; its reply is of the end that was named; the other
-- end that it changes is another one, which is there; what stands at each place afterwards. And the records of ends that are up
-- stay right, over steps and changes of the setup
pub record NodeLaws : Type 0 where
  pub names : NameLaws
  pub sayings : SayingLaws
  pub row : (n : NodeState) (v : Event) (fresh : ℕ) (f : Effect) → effect_of n v fresh ≡ Ok f → StepRow n v fresh f
  pub opening_legal : (s : Setup) → AreLegal (opening s).ends
  pub step_legal : (n : NodeState) (v : Event) (fresh : ℕ) → AreLegal n.ends → AreLegal (node_after n (step n v fresh)).ends
  pub own_end : (n : NodeState) (id : EndId) (fresh : ℕ) (e : End) (m : Message) (f : Effect) → Heard n id fresh e m f → f.reply.end_ ≡ id
  pub other : (n : NodeState) (v : Event) (fresh : ℕ) (f : Effect) (x : EndId) (s : End) → AreLegal n.ends → effect_of n v fresh ≡ Ok f
      → f.other ≡ Some (x, s) → IsOther n f.reply.end_ x
  pub places : (n : NodeState) (v : Event) (fresh : ℕ) (f : Effect) → AreLegal n.ends → effect_of n v fresh ≡ Ok f
      → (f.reply.end_.0 ≤ length n.ends) × IsThere n.ends f.other
  pub after : (es : List End) (f : Effect) (i : ℕ) → f.reply.end_.0 ≤ length es → IsThere es f.other
      → slice_get (ends_after es f) i ≡ view_after es f.reply.end_ f.this f.other i
  pub right_opening : (s : Setup) → AreRight (opening s)
  pub right_step : (n : NodeState) (v : Event) (fresh : ℕ) → AreLegal n.ends → AreRight n → AreRight (node_after n (step n v fresh))
  pub right_change : (n : NodeState) (v : Change) → AreLegal n.ends → AreRight n → AreRight (changed_or n (change n v))
