-- What a verdict on a captured conversation shows.
use Rattle.std.proofs.Common.{◌≡◌, ℕ, ◌⊎◌, inl, inr, Bool, true, false, cond, ◌&&◌, ◌||◌, not, List, Option, Some, None, option_map, refl, sym, ap, subst, ◌∙◌}
use Rattle.std.proofs.lemmas.Bool.{false≢true}
use Rattle.dist_messages.specs.declared.message.Side.{Side, TheVariants.Dialler, TheVariants.Acceptor}
use Rattle.dist_talk.specs.Ended.{ended_at_once, ended_verdict, has_ack, has_reply, is_closed, is_missing, lacks_memory, made_verdict, opener, same_side, standing_verdict, turn_verdict, unfinished_verdict, verdict_of}
use Rattle.dist_talk.specs.{Speaking.other_side, Standing.standing, Words.side_of}
use Rattle.dist_talk.specs.declared.{handshake.Handshake.Handshake, handshake.HandshakeEnd.HandshakeEnd, handshake.HowEnded.HowEnded, standing.Standing.Standing, terms.Terms.Terms, terms.Viewpoint.Viewpoint}
use Rattle.dist_talk.specs.declared.verdict.{AwaitedMessage.AwaitedMessage, HandshakeVerdict.HandshakeVerdict}
use Rattle.dist_talk.specs.declared.handshake.HowEnded.TheVariants as ended
use Rattle.dist_talk.specs.declared.standing.Standing.TheVariants.{Due, Decided}
use Rattle.dist_talk.specs.declared.terms.Viewpoint.TheVariants as viewpoint
use Rattle.dist_talk.specs.declared.verdict.AwaitedMessage.TheVariants as awaited
use Rattle.dist_talk.specs.declared.verdict.HandshakeVerdict.TheVariants as verdict
use Rattle.dist_conversation.specs.Conversations.{first_end, flow_of}
use Rattle.dist_conversation.specs.{Flows.is_unread, Said.said_by}
use Rattle.dist_conversation.specs.Verdicts.{EndsUpon, IsHandshakeOf, IsRefusal, IsWaited, how_ended, is_in_vain, is_overdue, is_quiet}
use Rattle.dist_conversation.specs.declared.{conversation.Conversation.Conversation, flow.FlowEnd.FlowEnd}
use Rattle.dist_conversation.proofs.Deciding.{Fair, IsNone, is_plain, standing_fair, turn_is}

-- why a handshake has this verdict
data Because (h : Handshake) (v : HandshakeVerdict) : Type 0 where
  Plainly : is_plain v ≡ true → Because h v
  Acknowledged : IsNone v → has_ack h.acceptor.items ≡ true → Because h v
  Refused : v ≡ verdict.WrongCookie Acceptor → is_closed h.ending ≡ true → h.missing.acceptor ≡ false → Because h v
  Waited : (due : AwaitedMessage) (count : ℕ) (side : Side) → v ≡ verdict.Silent due count → h.ending ≡ Some (record { side = side; how = ended.Quiet count }) → Because h v

because_if : (h : Handshake) (b : Bool) (v w : HandshakeVerdict) → (b ≡ true → Because h v) → (b ≡ false → Because h w) → Because h (cond b v w)
because_if h true v w p q = p refl
because_if h false v w p q = q refl

plain_if : (b : Bool) (v w : HandshakeVerdict) → is_plain v ≡ true → is_plain w ≡ true → is_plain (cond b v w) ≡ true
plain_if true v w p q = p
plain_if false v w p q = q

unfinished : (h : Handshake) → Because h (unfinished_verdict h)
unfinished h = Plainly (plain_if (has_ack h.acceptor.items) verdict.Finished verdict.Unfinished refl refl)

both : (a b : Bool) → (a && b) ≡ true → (a ≡ true) × (b ≡ true)
both true b e = (refl, e)
both false b e = absurd cc

never : (b : Bool) → not b ≡ true → b ≡ false
never true e = absurd cc
never false e = refl

no_beginning : (h : Handshake) → Because h (cond ((is_closed h.ending && has_reply h.dialler.items) && (not (has_ack h.acceptor.items) && not h.missing.acceptor)) (verdict.WrongCookie Acceptor) (unfinished_verdict h))
no_beginning h = because_if h _ (verdict.WrongCookie Acceptor) (unfinished_verdict h)
    (λ e.
    let p = both (is_closed h.ending && has_reply h.dialler.items) (not (has_ack h.acceptor.items) && not h.missing.acceptor) e in
    Refused refl (both (is_closed h.ending) (has_reply h.dialler.items) p.0).0 (never h.missing.acceptor (both (not (has_ack h.acceptor.items)) (not h.missing.acceptor) p.1).1))
    (λ _. unfinished h)

-- ---- a message was due

same_is : (a b : Side) → same_side a b ≡ true → a ≡ b
same_is Dialler Dialler e = refl
same_is Acceptor Acceptor e = refl
same_is Dialler Acceptor e = absurd cc
same_is Acceptor Dialler e = absurd cc

turned : (h : Handshake) (t : Terms) (own : List ℕ) (due : AwaitedMessage) (side : Side) (how : HowEnded) → h.ending ≡ Some (record { side = side; how = how }) → is_missing (side_of due) h.missing ≡ false
    → side ≡ side_of due → Because h (turn_verdict t own due how)
turned h t own due side how end whole turn = by (turn_is t own due how) where
  by : (is_plain (turn_verdict t own due how) ≡ true) ⊎ (((due ≡ awaited.Ack) × (how ≡ ended.Closed)) ⊎ ((count : ℕ) × (how ≡ ended.Quiet count))) → Because h (turn_verdict t own due how)
  by (inl plain) = Plainly plain
  by (inr (inl (ack, closed))) =
      let at : side ≡ Acceptor = turn ∙ ap side_of ack in
      let end_is : h.ending ≡ Some (record { side = Acceptor; how = ended.Closed }) =
      end ∙ ap (λ (x : Side). Some (record { side = x; how = how })) at ∙ ap (λ (x : HowEnded). Some (record { side = Acceptor; how = x })) closed in
      Refused (ap (λ (d : AwaitedMessage). turn_verdict t own d how) ack ∙ ap (λ (x : HowEnded). turn_verdict t own awaited.Ack x) closed) (ap is_closed end_is)
      (subst (λ (d : AwaitedMessage). is_missing (side_of d) h.missing ≡ false) ack whole)
  by (inr (inr (count, quiet))) =
      Waited due count side (ap (λ (x : HowEnded). turn_verdict t own due x) quiet) (end ∙ ap (λ (x : HowEnded). Some (record { side = side; how = x })) quiet)

ended_so : (h : Handshake) (t : Terms) (own : List ℕ) (due : AwaitedMessage) (o : Option HandshakeEnd) → h.ending ≡ o → is_missing (side_of due) h.missing ≡ false → Because h (ended_verdict t own due o)
ended_so h t own due None is whole = Plainly refl
ended_so h t own due (Some e) is whole =
    because_if h (lacks_memory e.how) verdict.NoMemory _ (λ _. Plainly refl)
    (λ _. because_if h (same_side e.side (side_of due)) (turn_verdict t own due e.how) (verdict.Withdrawn e.side)
    (λ turn. turned h t own due e.side e.how is whole (same_is e.side (side_of due) turn)) (λ _. Plainly refl))

-- ---- what was said decides

up_or : (b : Bool) → IsNone (cond b verdict.Up verdict.Dropped)
up_or true = (λ e. absurd cc, λ due count e. absurd cc)
up_or false = (λ e. absurd cc, λ due count e. absurd cc)

once_none : (v : Viewpoint) (own : List ℕ) → IsNone (ended_at_once v own)
once_none viewpoint.Dialler own = (λ e. absurd cc, λ due count e. absurd cc)
once_none other own = up_or _

made_none : (v : Viewpoint) (own : List ℕ) (e : Option HandshakeEnd) → IsNone (made_verdict v own e)
made_none viewpoint.Capture own e = (λ e. absurd cc, λ due count e. absurd cc)
made_none other own None = (λ e. absurd cc, λ due count e. absurd cc)
made_none other own (Some e) = once_none other own

decided : (h : Handshake) (t : Terms) (v : HandshakeVerdict) → Fair h.acceptor.items (Decided v) → Because h (standing_verdict t h (Decided v))
decided h t verdict.Up (inl plain) = absurd (false≢true plain)
decided h t verdict.Up (inr (none, ack)) = Acknowledged (made_none t.viewpoint (opener h.dialler.items) h.ending) ack
decided h t other (inl plain) = Plainly plain
decided h t other (inr (none, ack)) = Acknowledged none ack

stands : (h : Handshake) (t : Terms) (s : Standing) → Fair h.acceptor.items s → Because h (standing_verdict t h s)
stands h t (Due due) fair =
    because_if h (is_missing (side_of due) h.missing) (unfinished_verdict h) (ended_verdict t (opener h.dialler.items) due h.ending) (λ _. unfinished h)
    (λ whole. ended_so h t (opener h.dialler.items) due h.ending refl whole)
stands h t (Decided v) fair = decided h t v fair

because : (t : Terms) (h : Handshake) → Because h (verdict_of t h)
because t h = because_if h h.missing.beginning _ (standing_verdict t h (standing t h)) (λ _. no_beginning h) (λ _. stands h t (standing t h) (standing_fair t h.dialler.items h.acceptor.items))

-- ---- what the three verdicts show

not_plain : (v w : HandshakeVerdict) → v ≡ w → is_plain w ≡ false → is_plain v ≡ true → ⊥
not_plain v w is other plain = false≢true (sym other ∙ sym (ap is_plain is) ∙ plain)

up_by : (h : Handshake) (v : HandshakeVerdict) → Because h v → v ≡ verdict.Up → has_ack h.acceptor.items ≡ true
up_by h v (Plainly plain) is = absurd (not_plain v verdict.Up is refl plain)
up_by h v (Acknowledged none ack) is = ack
up_by h v (Refused wrong closed whole) is = absurd cc
up_by h v (Waited due count side silent end) is = absurd cc

pub up_shows : (t : Terms) (c : Conversation) (now : ℕ) (h : Handshake) → IsHandshakeOf t c now h → verdict_of t h ≡ verdict.Up → has_ack (said_by Acceptor c).messages ≡ true
up_shows t c now h of is = ap has_ack (sym of.acceptor) ∙ up_by h (verdict_of t h) (because t h) is

-- an end, by the side that ended it first
abbrev at_first : Conversation → Side × FlowEnd → HandshakeEnd
at_first c x = record { side = x.0; how = how_ended c x.0 x.1 }

abbrev how_in : Option HandshakeEnd → HowEnded
how_in None = ended.NoMemory
how_in (Some e) = e.how

abbrev side_in : Option HandshakeEnd → Side
side_in None = Dialler
side_in (Some e) = e.side

-- how it ended, by the ends of the conversation
closed_is : (o : Option HandshakeEnd) → is_closed o ≡ true → o ≡ Some (record { side = Acceptor; how = ended.Closed })
closed_is None e = absurd cc
closed_is (Some e) closed = by e.side e.how closed where
  by : (side : Side) (how : HowEnded) → is_closed (Some (record { side = side; how = how })) ≡ true → ◌≡◌ {A = Option HandshakeEnd} (Some (record { side = side; how = how })) (Some (record { side = Acceptor; how = ended.Closed }))
  by Acceptor ended.Closed e = refl
  by Acceptor ended.Reset e = absurd cc
  by Acceptor ended.Unread e = absurd cc
  by Acceptor (ended.Quiet count) e = absurd cc
  by Acceptor (ended.Foreign front) e = absurd cc
  by Acceptor ended.NoMemory e = absurd cc
  by Dialler how e = absurd cc

how_if : (unread reset : Bool) → cond unread ended.Unread (cond reset ended.Reset ended.Closed) ≡ ended.Closed → (unread ≡ false) × (reset ≡ false)
how_if true reset e = absurd cc
how_if false true e = absurd cc
how_if false false e = (refl, refl)

closed_first : (c : Conversation) (first : Option (Side × FlowEnd)) → option_map (at_first c) first ≡ Some (record { side = Acceptor; how = ended.Closed })
    → (end : FlowEnd) × (first ≡ Some (Acceptor, end)) × (is_unread c.from_dialler end ≡ false) × (end.is_reset ≡ false)
closed_first c None e = absurd cc
closed_first c (Some (Dialler, end)) e = absurd (let other : Dialler ≡ Acceptor = ap side_in e in cc)
closed_first c (Some (Acceptor, end)) e =
    let p = how_if (is_unread c.from_dialler end) end.is_reset (ap how_in e) in
    (end, refl, p.0, p.1)

ends_if : (b : Bool) (side : Side) (count : ℕ) (o : Option HandshakeEnd) → cond {A = Option HandshakeEnd} b (Some (record { side = side; how = ended.Quiet count })) o ≡ Some (record { side = Acceptor; how = ended.Closed })
    → o ≡ Some (record { side = Acceptor; how = ended.Closed })
ends_if true side count o e = absurd (let other : ended.Quiet count ≡ ended.Closed = ap how_in e in cc)
ends_if false side count o e = e

closed_ends : (s : Standing) (c : Conversation) (h : Handshake) (left : Side → List ℕ) (now : ℕ) (ending : Option HandshakeEnd) → EndsUpon s c h left now ending → ending ≡ Some (record { side = Acceptor; how = ended.Closed })
    → (end : FlowEnd) × (first_end c ≡ Some (Acceptor, end)) × (is_unread c.from_dialler end ≡ false) × (end.is_reset ≡ false)
closed_ends (Due due) c h left now ending (inl p) is = absurd (let other : ended.Foreign p.0 ≡ ended.Closed = ap how_in (sym p.2 ∙ is) in cc)
closed_ends (Due due) c h left now ending (inr p) is = closed_first c (first_end c) (ends_if (is_quiet c h now (side_of due) (first_end c)) (side_of due) _ _ (sym p.1 ∙ is))
closed_ends (Decided v) c h left now ending p is = absurd (let other : ended.NoMemory ≡ ended.Closed = ap how_in (sym p ∙ is) in cc)

wrong_by : (h : Handshake) (v : HandshakeVerdict) → Because h v → v ≡ verdict.WrongCookie Acceptor → (is_closed h.ending ≡ true) × (h.missing.acceptor ≡ false)
wrong_by h v (Plainly plain) is = absurd (not_plain v (verdict.WrongCookie Acceptor) is refl plain)
wrong_by h v (Acknowledged none ack) is = absurd (none.0 is)
wrong_by h v (Refused wrong closed whole) is = (closed, whole)
wrong_by h v (Waited due count side silent end) is = absurd cc

pub wrong_cookie_shows : (t : Terms) (c : Conversation) (now : ℕ) (h : Handshake) → IsHandshakeOf t c now h → verdict_of t h ≡ verdict.WrongCookie Acceptor → IsRefusal c
wrong_cookie_shows t c now h of is =
    let p = wrong_by h (verdict_of t h) (because t h) is in
    let e = closed_ends (standing t h) c h _ now h.ending of.ending (closed_is h.ending p.0) in
    record { end = e.0; first = e.1; all_read = e.2; closed = e.3; whole = sym (ap (λ m. m.acceptor) of.missing) ∙ p.1 }

-- ---- silence

silent_by : (h : Handshake) (v : HandshakeVerdict) (due : AwaitedMessage) (count : ℕ) → Because h v → v ≡ verdict.Silent due count → (side : Side) × (n : ℕ) × (h.ending ≡ Some (record { side = side; how = ended.Quiet n }))
silent_by h v due count (Plainly plain) is = absurd (not_plain v (verdict.Silent due count) is refl plain)
silent_by h v due count (Acknowledged none ack) is = absurd (none.1 due count is)
silent_by h v due count (Refused wrong closed whole) is = absurd cc
silent_by h v due count (Waited d n side silent end) is = (side, n, end)

quiet_first : (c : Conversation) (side : Side) (n : ℕ) (first : Option (Side × FlowEnd)) → option_map (at_first c) first ≡ Some (record { side = side; how = ended.Quiet n }) → ⊥
quiet_first c side n None e = absurd cc
quiet_first c side n (Some (by, end)) e = no_quiet (is_unread (flow_of (other_side by) c) end) end.is_reset (ap how_in e) where
  no_quiet : (unread reset : Bool) → cond unread ended.Unread (cond reset ended.Reset ended.Closed) ≡ ended.Quiet n → ⊥
  no_quiet true reset e = absurd cc
  no_quiet false true e = absurd cc
  no_quiet false false e = absurd cc

quiet_if : (c : Conversation) (b : Bool) (at side : Side) (count n : ℕ) → cond {A = Option HandshakeEnd} b (Some (record { side = at; how = ended.Quiet count })) (option_map (at_first c) (first_end c))
    ≡ Some (record { side = side; how = ended.Quiet n }) → b ≡ true
quiet_if c true at side count n e = refl
quiet_if c false at side count n e = absurd (quiet_first c side n (first_end c) e)

either : (a b : Bool) → (a || b) ≡ true → (a ≡ true) ⊎ (b ≡ true)
either true b e = inl refl
either false b e = inr e

quiet_is : (c : Conversation) (h : Handshake) (now : ℕ) (side : Side) (first : Option (Side × FlowEnd)) → first_end c ≡ first → is_quiet c h now side first ≡ true → IsWaited c h now
quiet_is c h now Acceptor None at e = inl e
quiet_is c h now Acceptor (Some (Acceptor, end)) at e = absurd cc
quiet_is c h now Acceptor (Some (Dialler, end)) at e = inl e
quiet_is c h now Dialler None at e = inl e
quiet_is c h now Dialler (Some (Acceptor, end)) at e = inl e
quiet_is c h now Dialler (Some (Dialler, end)) at e = elim (either (is_overdue c h now) (is_in_vain c h Dialler end) e) [
  | inl over ↦ inl over
  | inr vain ↦ inr (end, at, vain)
]

quiet_ends : (s : Standing) (c : Conversation) (h : Handshake) (left : Side → List ℕ) (now : ℕ) (ending : Option HandshakeEnd) (side : Side) (n : ℕ) → EndsUpon s c h left now ending
    → ending ≡ Some (record { side = side; how = ended.Quiet n }) → IsWaited c h now
quiet_ends (Due due) c h left now ending side n (inl p) is = absurd (let other : ended.Foreign p.0 ≡ ended.Quiet n = ap how_in (sym p.2 ∙ is) in cc)
quiet_ends (Due due) c h left now ending side n (inr p) is = quiet_is c h now (side_of due) (first_end c) refl (quiet_if c (is_quiet c h now (side_of due) (first_end c)) (side_of due) side _ n (sym p.1 ∙ is))
quiet_ends (Decided v) c h left now ending side n p is = absurd (let other : ended.NoMemory ≡ ended.Quiet n = ap how_in (sym p ∙ is) in cc)

pub silent_shows : (t : Terms) (c : Conversation) (now : ℕ) (h : Handshake) (due : AwaitedMessage) (count : ℕ) → IsHandshakeOf t c now h → verdict_of t h ≡ verdict.Silent due count → IsWaited c h now
silent_shows t c now h due count of is =
    let p = silent_by h (verdict_of t h) due count (because t h) is in
    quiet_ends (standing t h) c h _ now h.ending p.0 p.1 of.ending p.2
