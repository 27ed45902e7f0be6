-- What was said decides no silence and no wrong cookie of the accepting side; and that two nodes came up only with an acknowledgement.
use Rattle.std.proofs.Common.{◌≡◌, ℕ, ◌⊎◌, inl, inr, Bool, true, false, cond, ◌||◌, List, [], ◌∷◌, Option, Some, None, is_some, refl}
use Rattle.dist_messages.specs.declared.message.Message.TheVariants as message
use Rattle.dist_messages.specs.declared.message.Side.{TheVariants.Dialler, TheVariants.Acceptor}
use Rattle.dist_messages.specs.declared.message.Status.TheVariants as status
use Rattle.dist_messages.specs.declared.opening.Opening.{Opening}
use Rattle.dist_messages.specs.declared.opening.Opening.TheVariants as opening
use Rattle.dist_names.specs.declared.flags.Flags.{Flags}
use Rattle.dist_talk.specs.Ended.{has_ack, left_by, turn_verdict, untried}
use Rattle.dist_talk.specs.{Handshake.ack_in, Handshake.name_in, Opened.asks_for_name, Opened.opened_by, Standing.is_bad_name, Terms.cookie_of, Terms.without_of}
use Rattle.dist_talk.specs.Standing.{answered, answered_alive, behind_alive, behind_challenge, behind_complement, behind_name, behind_reply, behind_status, compared, decided_or, objection_or, objection_to, replied}
use Rattle.dist_talk.specs.Standing.{standing_of, upon_dynamic, upon_opened, upon_reply, upon_status}
use Rattle.dist_talk.specs.Verdicts.{ack_verdict, challenge_verdict, digests_of, flags_verdict, name_verdict, not_allowed, old_verdict, or_else, status_verdict}
use Rattle.dist_talk.specs.declared.{opened.Opened.Opened, standing.ReplyMade.ReplyMade, standing.Standing.Standing, terms.Terms.Terms, terms.Viewpoint.Viewpoint}
use Rattle.dist_talk.specs.declared.{handshake.SentContent.SentContent, handshake.SentMessage.SentMessage, handshake.HowEnded.HowEnded}
use Rattle.dist_talk.specs.declared.{verdict.NoCookie.NoCookie, verdict.HandshakeVerdict.HandshakeVerdict, verdict.AwaitedMessage.AwaitedMessage}
use Rattle.dist_talk.specs.declared.handshake.SentContent.TheVariants as content
use Rattle.dist_talk.specs.declared.handshake.HowEnded.TheVariants as ended
use Rattle.dist_talk.specs.declared.standing.Standing.TheVariants.{Due, Decided}
use Rattle.dist_talk.specs.declared.terms.Viewpoint.TheVariants as viewpoint
use Rattle.dist_talk.specs.declared.verdict.AwaitedMessage.TheVariants as awaited
use Rattle.dist_talk.specs.declared.verdict.HandshakeVerdict.TheVariants as verdict

-- none of the three that need more than what was said
abbrev pub is_plain : HandshakeVerdict → Bool
is_plain verdict.Up = false
is_plain (verdict.WrongCookie Acceptor) = false
is_plain (verdict.Silent due count) = false
is_plain other = true

abbrev Plain : Option HandshakeVerdict → Type 0
Plain None = Unit {0}
Plain (Some v) = is_plain v ≡ true

plain_if : (b : Bool) (v w : HandshakeVerdict) → is_plain v ≡ true → is_plain w ≡ true → is_plain (cond b v w) ≡ true
plain_if true v w p q = p
plain_if false v w p q = q

some_if : (b : Bool) (v : HandshakeVerdict) → is_plain v ≡ true → Plain (cond b (Some v) None)
some_if true v p = p
some_if false v p = tt

none_if : (b : Bool) (v : HandshakeVerdict) → is_plain v ≡ true → Plain (cond b None (Some v))
none_if true v p = tt
none_if false v p = p

or_plain : (a b : Option HandshakeVerdict) → Plain a → Plain b → Plain (or_else a b)
or_plain None b p q = q
or_plain (Some v) b p q = p

-- ---- by message

allowed_plain : (is_own : Bool) (lacking : Flags) → is_plain (not_allowed is_own lacking) ≡ true
allowed_plain is_own lacking = plain_if is_own verdict.OwnName _ refl (plain_if _ verdict.NotOnList (verdict.LacksFlags Dialler lacking) refl refl)

status_plain : (o : Opened) (c : SentContent) → Plain (status_verdict o c)
status_plain o (content.Message (message.Status status.Ok)) = tt
status_plain o (content.Message (message.Status status.OkSimultaneous)) = tt
status_plain o (content.Message (message.Status status.Nok)) = plain_if o.is_own verdict.OwnName verdict.Busy refl refl
status_plain o (content.Message (message.Status status.NotAllowed)) = allowed_plain o.is_own o.lacking
status_plain o other = refl

name_plain : (t : Terms) (name : List ℕ) → Plain (name_verdict t name)
name_plain t name = some_if _ _ refl

old_plain : (t : Terms) (o : Opening) (name : List ℕ) → Plain (old_verdict t o name)
old_plain t opening.New name = refl
old_plain t opening.Old name = name_plain t name

challenge_plain : (t : Terms) (o : Opened) (c : SentContent) → Plain (challenge_verdict t o c)
challenge_plain t o (content.Message (message.NewChallenge flags challenge creation name)) = or_plain (name_verdict t name) (flags_verdict flags) (name_plain t name) (some_if _ _ refl)
challenge_plain t o (content.Message (message.OldChallenge flags challenge name)) = old_plain t o.opening name
challenge_plain t o (content.Message (message.Status status.NotAllowed)) = allowed_plain false o.lacking
challenge_plain t o other = refl

answered_plain : (w : Option NoCookie) → Plain (answered w)
answered_plain None = tt
answered_plain (Some cause) = refl

compared_plain : (c : Option (List ℕ)) (r : ReplyMade) → Plain (compared c r)
compared_plain None r = tt
compared_plain (Some cookie) r = none_if _ _ refl

objection_plain : (v : Viewpoint) (t : Terms) (r : ReplyMade) → Plain (objection_to v t r)
objection_plain viewpoint.Acceptor t r = or_plain (answered (without_of t)) (compared (cookie_of t) r) (answered_plain (without_of t)) (compared_plain (cookie_of t) r)
objection_plain other t r = tt

-- ---- by message, and what follows

-- neither a wrong cookie of the accepting side, nor silence
abbrev pub IsNone : HandshakeVerdict → Type 0
IsNone v = (v ≡ verdict.WrongCookie Acceptor → ⊥) × ((due : AwaitedMessage) (count : ℕ) → v ≡ verdict.Silent due count → ⊥)

-- it is plain; or the accepting side said an acknowledgement
abbrev pub Fair : List SentMessage → Standing → Type 0
Fair said (Due due) = Unit {0}
Fair said (Decided v) = (is_plain v ≡ true) ⊎ (IsNone v × (has_ack said ≡ true))

fair_if : (said : List SentMessage) (b : Bool) (s u : Standing) → Fair said s → Fair said u → Fair said (cond b s u)
fair_if said true s u p q = p
fair_if said false s u p q = q

decided_fair : (said : List SentMessage) (o : Option HandshakeVerdict) (s : Standing) → Plain o → Fair said s → Fair said (decided_or o s)
decided_fair said None s p q = q
decided_fair said (Some v) s p q = inl p

-- some of these are an acknowledgement if some of those are
abbrev Within : List SentMessage → List SentMessage → Type 0
Within part said = has_ack part ≡ true → has_ack said ≡ true

any_or : (a b : Bool) → b ≡ true → (a || b) ≡ true
any_or true b e = refl
any_or false b e = e

tail_within : (said rest : List SentMessage) (s : SentMessage) → Within (s ∷ rest) said → Within rest said
tail_within said rest s w e = w (any_or (is_some (ack_in s.content)) (has_ack rest) e)

digest_if : (b : Bool) (v w : HandshakeVerdict) → IsNone v → IsNone w → IsNone (cond b v w)
digest_if true v w p q = p
digest_if false v w p q = q

digests_none : (c : Option (List ℕ)) (r : ReplyMade) (ack : List ℕ) → IsNone (digests_of c r ack)
digests_none None r ack = (λ e. absurd cc, λ due count e. absurd cc)
digests_none (Some cookie) r ack =
    digest_if _ _ verdict.Finished (digest_if _ verdict.Up verdict.WrongAck (λ e. absurd cc, λ due count e. absurd cc) (λ e. absurd cc, λ due count e. absurd cc)) (λ e. absurd cc, λ due count e. absurd cc)

ack_fair : (said : List SentMessage) (t : Terms) (o : Opened) (r : ReplyMade) (c : SentContent) → (is_some (ack_in c) ≡ true → has_ack said ≡ true) → Fair said (Decided (ack_verdict t o r c))
ack_fair said t o r (content.Message (message.Ack digest)) ack = inr (digests_none (cookie_of t) r digest, ack refl)
ack_fair said t o r (content.Message (message.Status status.NotAllowed)) ack = inl (allowed_plain false o.lacking)
ack_fair said t o r other ack = inl refl

or_any : (a b : Bool) → a ≡ true → (a || b) ≡ true
or_any true b e = refl
or_any false b e = absurd cc

reply_fair : (said : List SentMessage) (t : Terms) (o : Opened) (r : ReplyMade) (ns : List SentMessage) → Within ns said → Fair said (behind_reply t o r ns)
reply_fair said t o r [] w = tt
reply_fair said t o r (ack ∷ rest) w = ack_fair said t o r ack.content (λ e. w (or_any (is_some (ack_in ack.content)) (has_ack rest) e))

upon_reply_fair : (said : List SentMessage) (t : Terms) (o : Opened) (r : ReplyMade) (ns : List SentMessage) → Within ns said → Fair said (upon_reply t o r ns)
upon_reply_fair said t o r ns w = decided_fair said (objection_to t.viewpoint t r) (behind_reply t o r ns) (objection_plain t.viewpoint t r) (reply_fair said t o r ns w)

replied_fair : (said : List SentMessage) (t : Terms) (o : Opened) (challenge : ℕ) (c : SentContent) (ns : List SentMessage) → Within ns said → Fair said (replied t o challenge c ns)
replied_fair said t o challenge (content.Message (message.Reply fresh digest)) ns w = upon_reply_fair said t o _ ns w
replied_fair said t o challenge other ns w = inl refl

complement_fair : (said : List SentMessage) (t : Terms) (o : Opened) (challenge : ℕ) (ds ns : List SentMessage) → Within ns said → Fair said (behind_complement t o challenge ds ns)
complement_fair said t o challenge [] ns w = tt
complement_fair said t o challenge (sent ∷ rest) ns w = replied_fair said t o challenge sent.content ns w

challenge_fair : (said : List SentMessage) (t : Terms) (o : Opened) (challenge : ℕ) (ds ns : List SentMessage) → Within ns said → Fair said (behind_challenge t o challenge ds ns)
challenge_fair said t o challenge [] ns w = tt
challenge_fair said t o challenge (sent ∷ rest) ns w = fair_if said _ _ _ (complement_fair said t o challenge rest ns w) (replied_fair said t o challenge sent.content ns w)

objection_fair : (said : List SentMessage) (v : Option HandshakeVerdict) (c : Option ℕ) (t : Terms) (o : Opened) (ds ns : List SentMessage) → Plain v → Within ns said → Fair said (objection_or v c t o ds ns)
objection_fair said None None t o ds ns p w = inl refl
objection_fair said None (Some challenge) t o ds ns p w = challenge_fair said t o challenge ds ns w
objection_fair said (Some v) None t o ds ns p w = inl p
objection_fair said (Some v) (Some challenge) t o [] ns p w = inl p
objection_fair said (Some v) (Some challenge) t o (d ∷ ds) ns p w = challenge_fair said t o challenge (d ∷ ds) ns w

behind_status_fair : (said : List SentMessage) (t : Terms) (o : Opened) (ds ns : List SentMessage) → Within ns said → Fair said (behind_status t o ds ns)
behind_status_fair said t o ds [] w = tt
behind_status_fair said t o ds (sent ∷ rest) w = objection_fair said (challenge_verdict t o sent.content) _ t o ds rest (challenge_plain t o sent.content) (tail_within said rest sent w)

alive_fair : (said : List SentMessage) (t : Terms) (o : Opened) (c : SentContent) (ds ns : List SentMessage) → Within ns said → Fair said (answered_alive t o c ds ns)
alive_fair said t o (content.Message (message.Status status.True)) ds ns w = behind_status_fair said t o ds ns w
alive_fair said t o (content.Message (message.Status status.False)) ds ns w = inl refl
alive_fair said t o other ds ns w = inl refl

behind_alive_fair : (said : List SentMessage) (t : Terms) (o : Opened) (ds ns : List SentMessage) → Within ns said → Fair said (behind_alive t o ds ns)
behind_alive_fair said t o [] ns w = tt
behind_alive_fair said t o (sent ∷ rest) ns w = alive_fair said t o sent.content rest ns w

status_fair : (said : List SentMessage) (t : Terms) (o : Opened) (c : SentContent) (ds ns : List SentMessage) → Within ns said → Fair said (upon_status t o c ds ns)
status_fair said t o (content.Message (message.Status status.Alive)) ds ns w = behind_alive_fair said t o ds ns w
status_fair said t o other ds ns w = decided_fair said (status_verdict o other) (behind_status t o ds ns) (status_plain o other) (behind_status_fair said t o ds ns w)

name_fair : (said : List SentMessage) (t : Terms) (o : Opened) (ds ns : List SentMessage) → Within ns said → Fair said (behind_name t o ds ns)
name_fair said t o ds [] w = tt
name_fair said t o ds (sent ∷ rest) w = status_fair said t o sent.content ds rest (tail_within said rest sent w)

dynamic_plain : (v : Viewpoint) → is_plain (upon_dynamic v) ≡ true
dynamic_plain viewpoint.Capture = refl
dynamic_plain other = refl

opened_fair : (said : List SentMessage) (t : Terms) (o : Option Opened) (ds ns : List SentMessage) → Within ns said → Fair said (upon_opened t o ds ns)
opened_fair said t None ds ns w = inl refl
opened_fair said t (Some o) ds ns w = name_fair said t o ds ns w

pub standing_fair : (t : Terms) (ds ns : List SentMessage) → Fair ns (standing_of t ds ns)
standing_fair t [] ns = tt
standing_fair t (first ∷ rest) ns =
    let opened = upon_opened t (opened_by t first.content rest) rest ns in
    let bad = is_bad_name t.viewpoint (name_in first.content) in
    let inner : Fair ns (cond bad (Decided (verdict.Unexpected awaited.Name)) opened) =
    fair_if ns bad (Decided (verdict.Unexpected awaited.Name)) opened (inl refl) (opened_fair ns t (opened_by t first.content rest) rest ns (λ e. e)) in
    fair_if ns (asks_for_name first.content) (Decided (upon_dynamic t.viewpoint)) (cond bad (Decided (verdict.Unexpected awaited.Name)) opened) (inl (dynamic_plain t.viewpoint)) inner

-- ---- by the end

untried_plain : (o : Option NoCookie) → is_plain (untried o) ≡ true
untried_plain None = refl
untried_plain (Some cause) = refl

left_plain : (v : Viewpoint) (t : Terms) (own : List ℕ) → is_plain (left_by v t own) ≡ true
left_plain viewpoint.Dialler t own = plain_if _ verdict.LongAndShort _ refl (untried_plain (without_of t))
left_plain other t own = plain_if _ verdict.Stopped verdict.Left refl refl

-- an end is plain; or a close where the acknowledgement was due, or silence
pub turn_is : (t : Terms) (own : List ℕ) (due : AwaitedMessage) (how : HowEnded)
    → (is_plain (turn_verdict t own due how) ≡ true) ⊎ (((due ≡ awaited.Ack) × (how ≡ ended.Closed)) ⊎ ((count : ℕ) × (how ≡ ended.Quiet count)))
turn_is t own awaited.Reply ended.Closed = inl (left_plain t.viewpoint t own)
turn_is t own awaited.Ack ended.Closed = inr (inl (refl, refl))
turn_is t own other ended.Closed = inl refl
turn_is t own awaited.Reply ended.Reset = inl (left_plain t.viewpoint t own)
turn_is t own other ended.Reset = inl refl
turn_is t own due ended.Unread = inl refl
turn_is t own due (ended.Quiet count) = inr (inr (count, refl))
turn_is t own due (ended.Foreign front) = inl refl
turn_is t own due ended.NoMemory = inl refl
