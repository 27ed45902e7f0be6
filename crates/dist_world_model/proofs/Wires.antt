-- What is kept of one connection.
use Rattle.dist_world_model.proofs.Words.{◌≡◌, ℕ, Bool, true, false, cond, ◌&&◌, List, is_some, Some, None, Ok, Option, sym, refl, ap, ◌∙◌, subst, inl, inr}
use Rattle.dist_world_model.proofs.Words.{common, high_half, low_half, Name, Creation, read, Form, Message, Side, Acceptor, Dialler, Attempt, End, Phase}
use Rattle.dist_world_model.proofs.Words.{knows_six, Setup, bare, EndRow, past}
use Rattle.dist_world_model.proofs.WholeFrames.{Whole}
use Rattle.dist_messages.specs.declared.form.Form.TheVariants as form
use Rattle.dist_messages.specs.declared.message.Message.TheVariants as message
use Rattle.dist_core_ends.specs.declared.known.End.TheVariants as ends
use Rattle.dist_core_ends.specs.declared.phase.Phase.TheVariants as phase
use Rattle.dist_core_setup.specs.Rules.{announced_by}
use Rattle.dist_world_model.specs.Frames.{IsCanonical}

-- what a node says of itself to others, by its setup; cookies and allow list stand in nothing that is sent but in digests
pub record Voice : Type 0 where
  pub name : Name
  pub six : Bool
  pub announced : ℕ
  pub creation : Creation

abbrev pub voice : Setup → Voice
voice s = record { name = s.name; six = knows_six s; announced = announced_by s; creation = s.creation }

-- a setup without its cookies and its allow list says the same
pub same-voice : (s r : Setup) → bare s ≡ bare r → voice s ≡ voice r
unfolding announced_by
same-voice s r e = ap voice e

-- ---- what may be on the way

-- what the dialling node may have sent, by the number at which its end sent the reply
abbrev pub MaySay : Voice → Option ℕ → Message → Type 0
MaySay s replied (message.NewName f c p) = (s.six ≡ true) × (f.0 ≡ s.announced) × (c ≡ s.creation) × (p ≡ s.name)
MaySay s replied (message.OldName f p) = (f ≡ low_half s.announced) × (p ≡ s.name)
MaySay s replied (message.Complement high c) = (high ≡ high_half s.announced) × (c ≡ s.creation)
MaySay s replied (message.Reply c d) = is_some replied ≡ true
MaySay s replied (message.Status k) = Unit {0}
MaySay s replied m = ⊥

-- what the accepting node may have sent, by the numbers at which its end took a name and came up: the newer challenge where
-- both know version 6, and else the older one
abbrev pub MayAnswer : Voice → Voice → Option ℕ → Option ℕ → Message → Type 0
MayAnswer s other named rose (message.NewChallenge f n c p) = (is_some named ≡ true) × ((s.six && other.six) ≡ true) × (f.0 ≡ s.announced) × (c ≡ s.creation) × (p ≡ s.name)
MayAnswer s other named rose (message.OldChallenge f n p) = (is_some named ≡ true) × ((s.six && other.six) ≡ false) × (f ≡ low_half s.announced) × (p ≡ s.name)
MayAnswer s other named rose (message.Ack d) = is_some rose ≡ true
MayAnswer s other named rose (message.Status k) = Unit {0}
MayAnswer s other named rose m = ⊥

-- a body that spells one of these messages, or has no byte, and that is read as one of these where it is read as a message of
-- this side
pub record Said (side : Side) (P : Message → Type 0) (body : List ℕ) : Type 0 where
  pub spelled : IsCanonical P body
  pub read_as : (m : Message) → read side body ≡ Ok m → P m

pub canonical-map : (P Q : Message → Type 0) → ((m : Message) → P m → Q m) → (body : List ℕ) → IsCanonical P body → IsCanonical Q body
canonical-map P Q f body (inl e) = inl e
canonical-map P Q f body (inr (m, is, fits, p)) = inr (m, is, fits, f m p)

-- more that is true of each message
pub said-map : (side : Side) (P Q : Message → Type 0) → ((m : Message) → P m → Q m) → (body : List ℕ) → Said side P body → Said side Q body
said-map side P Q f body h = record { spelled = canonical-map P Q f body h.spelled; read_as = λ m e. f m (h.read_as m e) }

-- ---- what an end has noted of the other node

-- flags that have those in common with the own ones which the other node's have, and its creation where known
pub record IsKnown (own other : Voice) (flags : ℕ) (creation : Option Creation) : Type 0 where
  pub shared : common own.announced flags ≡ common own.announced other.announced
  pub known : creation ≡ cond (own.six && other.six) (Some other.creation) None

-- the low half of its flags, where the rest will come
pub record IsHalf (own other : Voice) (flags : ℕ) : Type 0 where
  pub both : (own.six && other.six) ≡ true
  pub half : flags ≡ low_half other.announced

-- the challenge in a handshake of this form is the newer one
abbrev pub is_newer : Form → Bool
is_newer form.New = true
is_newer form.Old = true
is_newer form.Five = false

abbrev pub NotedBy : Voice → Voice → Attempt → Form → Type 0
NotedBy own other a form.New = ((own.six && other.six) ≡ true) × IsKnown own other a.flags.0 a.creation
NotedBy own other a form.Old = IsHalf own other a.flags.0
NotedBy own other a form.Five = ((own.six && other.six) ≡ false) × IsKnown own other a.flags.0 a.creation

abbrev pub NotedIn : Voice → Voice → Attempt → Phase → Type 0
NotedIn own other a phase.AwaitAck = IsKnown own other a.flags.0 a.creation
NotedIn own other a phase.AwaitReply = IsKnown own other a.flags.0 a.creation
NotedIn own other a phase.AwaitTrue = NotedBy own other a a.form
NotedIn own other a phase.AwaitComplement = IsHalf own other a.flags.0
NotedIn own other a q = Unit {0}

abbrev pub Noted : Voice → Voice → End → Type 0
Noted own other (ends.Attempt a) = NotedIn own other a a.phase
Noted own other (ends.Up r) = (r.common.0 ≡ common own.announced other.announced) × (r.creation ≡ cond (own.six && other.six) (Some other.creation) None)
Noted own other ends.Unnamed = Unit {0}
Noted own other (ends.Closed w) = Unit {0}

abbrev pub NotedAt : Voice → Voice → Option End → Type 0
NotedAt own other None = Unit {0}
NotedAt own other (Some e) = Noted own other e

-- ---- one end of a connection

-- the numbers of a row that a connection rests on, where there is one
pub record Marks : Type 0 where
  pub named : Option ℕ
  pub replied : Option ℕ
  pub rose : Option ℕ

abbrev pub marks_of : Option EndRow → Marks
marks_of None = record { named = None; replied = None; rose = None }
marks_of (Some row) = record { named = row.named; replied = row.replied; rose = row.rose }

abbrev pub peer_of : Option EndRow → Option Name
peer_of None = None
peer_of (Some row) = row.peer

-- early stands below each late number
abbrev pub Before : Option ℕ → Option ℕ → Type 0
Before early late = (n : ℕ) → late ≡ Some n → past n early ≡ true

-- what an end of this side may have sent
abbrev pub May : Side → Voice → Voice → Marks → Message → Type 0
May Dialler own other x = MaySay own x.replied
May Acceptor own other x = MayAnswer own other x.named x.rose

-- THE ORDER: name taken, reply sent, accepted end up, dialled end up; x are the numbers of the end of this side
abbrev pub Follows : Side → Marks → Marks → Type 0
Follows Dialler x y = Before y.named x.replied × Before y.rose x.rose
Follows Acceptor x y = Before y.replied x.rose

-- the number from which on the peer of an end of this side is the other node
abbrev pub pledged : Side → Marks → Option ℕ
pledged Dialler x = x.replied
pledged Acceptor x = x.named

-- ONE END OF A CONNECTION, of this side: what it sent, its row x, the row y of the other end, the end itself
pub record IsEnd (side : Side) (own other : Voice) (text : List ℕ) (x y : Option EndRow) (e : Option End) : Type 0 where
  pub said : Whole (Said side (May side own other (marks_of x))) text
  pub follows : Follows side (marks_of x) (marks_of y)
  pub peer : is_some (pledged side (marks_of x)) ≡ true → peer_of x ≡ Some other.name
  pub noted : NotedAt own other e

-- ---- changes that it does not see

-- the row says the same of what a connection rests on
pub record Quiet (x y : Option EndRow) : Type 0 where
  pub marks : marks_of y ≡ marks_of x
  pub peer : (side : Side) → is_some (pledged side (marks_of x)) ≡ true → peer_of y ≡ peer_of x

-- what was noted is noted still
abbrev pub Hushed : Option End → Option End → Type 0
Hushed d e = (own other : Voice) → NotedAt own other d → NotedAt own other e

pub quiet-refl : (x : Option EndRow) → Quiet x x
quiet-refl x = record { marks = refl; peer = λ s h. refl }

pub end-quiet : (side : Side) (own other : Voice) (text : List ℕ) (x x' y y' : Option EndRow) (e e' : Option End) → Quiet x x' → Quiet y y' → Hushed e e' → IsEnd side own other text x y e → IsEnd side own other text x' y' e'
end-quiet side own other text x x' y y' e e' qx qy he w = record {
  said = subst (λ z. Whole (Said side (May side own other z)) text) (sym qx.marks) w.said;
  follows = (let P : Marks → Marks → Type 0 = λ a b. Follows side a b in subst (λ a. P a (marks_of y')) (sym qx.marks) (subst (P (marks_of x)) (sym qy.marks) w.follows));
  peer = λ h. (let g = ap (λ z. is_some (pledged side z)) (sym qx.marks) ∙ h in qx.peer side g ∙ w.peer g);
  noted = he own other w.noted;
}
