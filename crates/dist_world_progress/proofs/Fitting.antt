-- What two nodes say to each other that fit, and what each makes of it.
use Rattle.dist_world_model.proofs.Words.{◌≡◌, ℕ, ◌<◌, ◌^◌, Bool, true, false, not, cond, ◌&&◌, ◌||◌, eqb, ltb, List, [], ◌∷◌, length, Some, None, Ok, Err, Option, sym, refl, ap, ◌∙◌}
use Rattle.dist_world_model.proofs.Words.{arith, le-ltb, lt-ltb, eq-eqb, and_parts, Name, Setup, Form, Opening, Message, Side, Acceptor, Dialler, Attempt, End, EndId, NodeState, NodeLaws, Creation, Flags}
use Rattle.dist_world_model.proofs.Words.{IsNodeName, read, has_all, low_half, announced_in, handshake_23, knows_six, same_bytes, goes_on, reply_phase, false≢true, closes}
use Rattle.dist_world_model.proofs.{Places.eqb-self, SentFrames.IsFit, SentFrames.digest-length}
use Rattle.std.proofs.Common.{bit_and, bit_or}
use Rattle.std.proofs.lemmas.Nat.{and_assoc, and_comm, and_mask, and_or_self}
use Rattle.std.specs.List.{list_all}
use Rattle.dist_names.specs.Flags.{name_me}
use Rattle.dist_names.specs.{Bytes.is_visible, NodeName.has_two_parts, NodeName.host_of, NodeName.short_of, Order.same_name}
use Rattle.dist_names.specs.declared.name_error.NameError.TheVariants.{TooShort, TooLong, BadByte, BadAt}
use Rattle.dist_messages.specs.{Canonical.canonical, Spelling.Fits}
use Rattle.dist_messages.specs.declared.form.Form.TheVariants as form
use Rattle.dist_messages.specs.declared.opening.Opening.TheVariants as opening
use Rattle.dist_secret.specs.{Cookies.cookie_for, Digest.digest_of}
use Rattle.dist_core_ends.specs.declared.phase.Phase.TheVariants as phase
use Rattle.dist_core_ends.specs.declared.why.Why.TheVariants as why
use Rattle.dist_core_ends.specs.declared.known.End.TheVariants as ends
use Rattle.dist_core_setup.specs.Rules.{announced_by, asks_name, form_of_old, is_allowed, is_good, is_ok, is_six, is_refused, opens_new, own_digest, required_of}
use Rattle.dist_core_setup.specs.Saying.{CanBeSaid, challenge_message, frames_of_messages, name_message, new_challenge_message, new_name_message, old_challenge_message, old_name_message, reply_message, reply_text}
use Rattle.dist_core_setup.specs.declared.version.Version.{Version}
use Rattle.dist_core_setup.specs.declared.version.Version.TheVariants as version
use Rattle.dist_core.specs.{Accepted.in_await_name, Accepted.name_came, Dialled.in_await_challenge, Effects.form_of}
use Rattle.dist_core.specs.declared.reply.Note.TheVariants as note
use Rattle.dist_world_progress.specs.Connecting.{Fit, IsPlain, are_six, opening_between}

-- ---- flags and names

asks-none : (flags : ℕ) → bit_and flags name_me ≡ 0 → asks_name (record { 0 = flags }) ≡ false
asks-none flags e = ap (λ n. eqb n 8589934592) e

no-name-in : (v : Version) (flags : ℕ) → bit_and (announced_in v flags) name_me ≡ 0
no-name-in version.Six flags = and_assoc 8589934592 (bit_or flags 16777216) 18446744065119617023 ∙ and_comm (bit_or flags 16777216) 0
no-name-in version.Five flags = and_assoc 8589934592 flags 4278190079 ∙ and_comm flags 0

-- no node asks for a name
no-name : (s : Setup) → bit_and (announced_by s) name_me ≡ 0
unfolding announced_by
no-name s = no-name-in s.version s.flags.0

no-name-low : (flags : ℕ) → bit_and (low_half flags) name_me ≡ 0
no-name-low flags = ap (λ n. bit_and n 8589934592) (sym (and_mask flags 32)) ∙ and_assoc 8589934592 flags 4294967295 ∙ and_comm flags 0

-- a node's name passes the check on names
good : (p : Name) → IsNodeName p → is_good p ≡ true
unfolding is_good
good p h =
    let a : ltb (length p) 3 ≡ false = le-ltb (length p) 3 h.least in
    let b : ltb 255 (length p) ≡ false = le-ltb 255 (length p) h.most in
    let c : list_all is_visible p ≡ true = h.bytes in
    let d : has_two_parts p ≡ true = (λ i. eq-eqb _ 1 h.separator i && (lt-ltb 0 (length (short_of p)) h.short i && lt-ltb 0 (length (host_of p)) h.host i)) in
    λ i. is_ok (cond (a i) (Err TooShort) (cond (b i) (Err TooLong) (cond (not (c i)) (Err BadByte) (cond (not (d i)) (Err BadAt) (Ok p)))))

-- the cookies that are one make one digest
digests : (x y : Setup) → cookie_for x.cookies y.name ≡ cookie_for y.cookies x.name → (n : ℕ) → own_digest x y.name n ≡ own_digest y x.name n
unfolding own_digest
digests x y e n = ap (λ c. digest_of c n) e

bytes-same : (xs : List ℕ) → same_bytes xs xs ≡ true
bytes-same [] = refl
bytes-same (x ∷ xs) = (λ i. eqb-self x i && same_bytes xs xs) ∙ bytes-same xs

-- so each finds the other's digest right
pub right : (x y : Setup) → cookie_for x.cookies y.name ≡ cookie_for y.cookies x.name → (n : ℕ) → same_bytes (own_digest x y.name n) (own_digest y x.name n) ≡ true
right x y e n = ap (λ d. same_bytes d (own_digest y x.name n)) (digests x y e n) ∙ bytes-same (own_digest y x.name n)

-- ---- what is said is read

pub record Said (side : Side) (m : Message) : Type 0 where
  pub short : length (canonical m) < 2 ^ 16
  pub read_as : read side (canonical m) ≡ Ok m

module _ (laws : NodeLaws) where
  pub said-by : (side : Side) (m : Message) → Fits m → CanBeSaid side m → Said side m
  said-by side m f c = record { short = c.1; read_as = laws.sayings.read_back side m f c }

  low-small : (flags : ℕ) → low_half flags < 2 ^ 32
  low-small flags = omega arith

  pub reply-said : (s : Setup) (p : Name) (own n : ℕ) → own < 2 ^ 32 → Said Dialler (reply_message s p own n)
  reply-said s p own n small = said-by Dialler (reply_message s p own n) (small, digest-length laws s p n) (laws.sayings.says_reply own _ (digest-length laws s p n))

-- ---- the name and the challenge

-- HOW x AND y UNDERSTAND EACH OTHER: x opens with this name, which y takes as one of this form, with these flags and this creation,
-- and answers by this challenge, of a number cy, which x answers by a reply alone, with its own, cx
pub record Handshake (x y : Setup) : Type 0 where
  pub opens : Opening
  pub opens_so : opens ≡ opening_between x y
  pub form : Form
  pub flags : Flags
  pub creation : Option Creation
  pub name : Message
  pub names : name_message x (form_of opens) ≡ name
  pub name_said : Said Dialler name
  pub named : (cy : ℕ) (n : NodeState) → n.setup ≡ y → (id : EndId) → in_await_name n id cy name ≡ name_came n id cy form flags creation x.name
  pub let_in : is_refused y (required_of y form) false flags x.name ≡ false
  pub replies : reply_phase form ≡ phase.AwaitReply
  pub challenge : ℕ → Message
  pub challenges : (cy : ℕ) → challenge_message y form cy ≡ challenge cy
  pub challenge_said : (cy : ℕ) → cy < 2 ^ 32 → Said Acceptor (challenge cy)
  pub their_flags : Flags
  pub their_creation : Option Creation
  pub answered : (cx cy : ℕ) (id : EndId) (b : Attempt) → b.form ≡ form_of opens → same_name b.peer y.name ≡ true
      → in_await_challenge x id cx b (challenge cy) ≡ goes_on id (frames_of_messages (reply_message x b.peer cx cy ∷ [])) (ends.Attempt (record b { phase = phase.AwaitAck; challenge = cx; flags = their_flags; creation = their_creation })) note.ReplySaid

module _ (laws : NodeLaws) (x y : Setup) (fx : IsFit x) (fy : IsFit y) (apart : same_name y.name x.name ≡ false) (allowed : is_allowed y.allow x.name ≡ true) where
  -- none of the checks on a name refuses x
  admitted : (flags r : ℕ) → bit_and flags name_me ≡ 0 → has_all flags r ≡ true → is_refused y r false (record { 0 = flags }) x.name ≡ false
  admitted flags r e h = λ i. asks-none flags e i || not (h i) || not (good x.name fx.name i) || apart i || not (allowed i) || false

  -- both know version 6
  six : knows_six x ≡ true → knows_six y ≡ true → has_all (announced_by x) (required_of y form.New) ≡ true → has_all (announced_by y) (required_of x form.New) ≡ true → Handshake x y
  six kx ky hx hy = record {
    opens = opening.New;
    opens_so = sym (λ i. cond (kx i && ky i) opening.New opening.Old);
    form = form.New;
    flags = record { 0 = announced_by x };
    creation = Some x.creation;
    name = new_name_message x;
    names = ap (λ b. cond b (new_name_message x) (old_name_message x)) kx;
    name_said = said-by laws Dialler (new_name_message x) (fx.flags, fx.creation) (laws.sayings.says_new_name _ _ _ fx.name);
    named = λ cy n e id. ap (λ b. cond b (name_came n id cy form.New (record { 0 = announced_by x }) (Some x.creation) x.name) (closes id why.Unexpected)) (ap knows_six e ∙ ky);
    let_in = admitted (announced_by x) (required_of y form.New) (no-name x) hx;
    replies = refl;
    challenge = new_challenge_message y;
    challenges = λ cy. refl;
    challenge_said = λ cy small. said-by laws Acceptor (new_challenge_message y cy) (fy.flags, small, fy.creation) (laws.sayings.says_challenge _ cy _ _ fy.name);
    their_flags = record { 0 = announced_by y };
    their_creation = Some y.creation;
    answered = λ cx cy id b of same.
        let d : End = ends.Attempt (record b { phase = phase.AwaitAck; challenge = cx; flags = record { 0 = announced_by y }; creation = Some y.creation }) in
        λ i. cond (kx i) (cond (same i) (cond (hy i) (goes_on id (reply_text x (of i) b.peer cx cy) d note.ReplySaid) (closes id why.WrongFlags)) (closes id why.WrongName)) (closes id why.Unexpected);
  }

  -- one of them knows version 5 alone
  five : are_six x y ≡ false → has_all (low_half (announced_by x)) (required_of y form.Five) ≡ true → has_all (low_half (announced_by y)) (required_of x form.Five) ≡ true → Handshake x y
  five k hx hy = record {
    opens = opening.Old;
    opens_so = sym (ap (λ b. cond b opening.New opening.Old) k);
    form = form.Five;
    flags = record { 0 = low_half (announced_by x) };
    creation = None;
    name = old_name_message x;
    names = refl;
    name_said = said-by laws Dialler (old_name_message x) (low-small laws (announced_by x)) (laws.sayings.says_old_name _ _ fx.name);
    named = λ cy n e id. ap (λ o. name_came n id cy o (record { 0 = low_half (announced_by x) }) None x.name) (ap (λ (s : Setup). form_of_old s (low_half (announced_by x))) e ∙ of-five);
    let_in = admitted (low_half (announced_by x)) (required_of y form.Five) (no-name-low (announced_by x)) hx;
    replies = refl;
    challenge = old_challenge_message y;
    challenges = λ cy. refl;
    challenge_said = λ cy small. said-by laws Acceptor (old_challenge_message y cy) (low-small laws (announced_by y), small) (laws.sayings.says_old_challenge _ cy _ fy.name);
    their_flags = record { 0 = low_half (announced_by y) };
    their_creation = None;
    answered = λ cx cy id b of same.
        let d : End = ends.Attempt (record b { phase = phase.AwaitAck; challenge = cx; flags = record { 0 = low_half (announced_by y) }; creation = None }) in
        λ i. cond (opens_new x (of i)) (closes id why.Unexpected) (cond (same i) (cond (hy i) (goes_on id (reply_text x form.Five b.peer cx cy) d note.ReplySaid) (closes id why.WrongFlags)) (closes id why.WrongName));
  }
    where
      of-five : form_of_old y (low_half (announced_by x)) ≡ form.Five
      of-five = by (knows_six x) (knows_six y) k (laws.sayings.versions x)
        where
          by : (a b : Bool) → (a && b) ≡ false → has_all (low_half (announced_by x)) handshake_23 ≡ a → cond (b && has_all (low_half (announced_by x)) handshake_23) form.Old form.Five ≡ form.Five
          by a false n e = refl
          by false true n e = ap (λ t. cond t form.Old form.Five) e
          by true true n e = absurd (false≢true (sym n))

  -- two nodes that fit understand each other
  pub fitting : Fit x y → Handshake x y
  fitting f = by (are_six x y) refl f.of_x f.of_y
    where
      by : (b : Bool) → are_six x y ≡ b → has_all (cond b (announced_by x) (low_half (announced_by x))) (required_of y (cond b form.New form.Five)) ≡ true → has_all (cond b (announced_by y) (low_half (announced_by y))) (required_of x (cond b form.New form.Five)) ≡ true → Handshake x y
      by true e hx hy = let p = and_parts (knows_six x) (knows_six y) e in six p.0 p.1 hx hy
      by false e hx hy = five e hx hy

-- ---- plain nodes fit

shows-six : (v : Version) (flags : ℕ) → is_six v ≡ true → has_all (announced_in v flags) handshake_23 ≡ true
shows-six version.Six flags h = ap (λ n. eqb n 16777216) (and_assoc 16777216 (bit_or flags 16777216) 18446744065119617023 ∙ and_or_self 16777216 flags)
shows-six version.Five flags h = absurd (false≢true h)

shows : (s : Setup) → knows_six s ≡ true → has_all (announced_by s) handshake_23 ≡ true
unfolding announced_by
shows s h = shows-six s.version s.flags.0 h

asks-little : (s : Setup) → s.required.0 ≡ 0 → (required_of s form.New ≡ handshake_23) × (required_of s form.Five ≡ 0)
unfolding required_of
asks-little s e = (ap (λ n. bit_or n 16777216) e, e)

-- what such a node asks for, a node announces
plain-flags : (s r : Setup) → r.required.0 ≡ 0 → (b : Bool) → (b ≡ true → knows_six s ≡ true) → has_all (cond b (announced_by s) (low_half (announced_by s))) (required_of r (cond b form.New form.Five)) ≡ true
plain-flags s r e true six = ap (has_all (announced_by s)) (asks-little r e).0 ∙ shows s (six refl)
plain-flags s r e false six = ap (has_all (low_half (announced_by s))) (asks-little r e).1 ∙ ap (λ n. eqb n 0) (and_comm (low_half (announced_by s)) 0)

pub plain_fit : (x y : Setup) (cookie : List ℕ) → IsPlain cookie x → IsPlain cookie y → Fit x y
plain_fit x y cookie h g = record {
  allowed = ap (λ o. is_allowed o x.name) g.allow;
  cookie = ap (λ t. cookie_for t y.name) h.cookies ∙ sym (ap (λ t. cookie_for t x.name) g.cookies);
  of_x = plain-flags x y g.required (are_six x y) (λ e. (and_parts (knows_six x) (knows_six y) e).0);
  of_y = plain-flags y x h.required (are_six x y) (λ e. (and_parts (knows_six x) (knows_six y) e).1);
}
