-- How a handshake ended, where a message is due.
use Rattle.std.proofs.Common.{◌≡◌, ℕ, inl, inr, Bool, cond, List, length, Option, Some, None, option_map, refl, sym, ap, subst, ◌∙◌}
use Rattle.dist_messages.specs.declared.message.Side.{Side, TheVariants.Dialler, TheVariants.Acceptor}
use Rattle.dist_talk.specs.declared.handshake.HowEnded.TheVariants as ended
use Rattle.dist_talk.specs.{Words.side_of, declared.handshake.Handshake.Handshake, declared.handshake.HandshakeEnd.HandshakeEnd}
use Rattle.dist_talk.specs.declared.{standing.Standing.Standing, verdict.AwaitedMessage.AwaitedMessage}
use Rattle.dist_talk.specs.declared.standing.Standing.TheVariants.{Due, Decided}
use Rattle.dist_conversation.specs.{Conversations.first_end, Said.said_by, Verdicts.EndsAt, Verdicts.EndsUpon, Verdicts.ended_at, Verdicts.how_ended, Verdicts.is_quiet, Verdicts.of_both}
use Rattle.dist_conversation.specs.declared.{conversation.Conversation.Conversation, flow.FlowEnd.FlowEnd}

pub ends_upon : (s : Standing) (due : AwaitedMessage) (side : Side) (c : Conversation) (h : Handshake) (left : Side → List ℕ) (bytes : List ℕ) (now : ℕ) (ending : Option HandshakeEnd)
    → s ≡ Due due → side ≡ side_of due → bytes ≡ left side → EndsAt c h bytes now side ending → EndsUpon s c h left now ending
ends_upon s due side c h left bytes now ending is turn those p =
    subst (λ (x : Standing). EndsUpon x c h left now ending) (sym is)
    (subst (λ (x : Side). EndsAt c h (left x) now x ending) turn (subst (λ (b : List ℕ). EndsAt c h b now side ending) those p))

-- how it ended is no part of what was said
same_quiet : (c : Conversation) (h : Handshake) (e : Option HandshakeEnd) (now : ℕ) (side : Side) (first : Option (Side × FlowEnd)) → is_quiet c (record h { ending = e }) now side first ≡ is_quiet c h now side first
same_quiet c h e now Dialler None = refl
same_quiet c h e now Dialler (Some (Dialler, end)) = refl
same_quiet c h e now Dialler (Some (Acceptor, end)) = refl
same_quiet c h e now Acceptor None = refl
same_quiet c h e now Acceptor (Some (Dialler, end)) = refl
same_quiet c h e now Acceptor (Some (Acceptor, end)) = refl

same_end : (c : Conversation) (h : Handshake) (e : Option HandshakeEnd) (now : ℕ) (side : Side) (count : ℕ) → ended_at c (record h { ending = e }) now side count ≡ ended_at c h now side count
same_end c h e now side count =
    ap (λ (b : Bool). cond b (Some (record { side = side; how = ended.Quiet count })) (option_map (λ (first : Side × FlowEnd). record { side = first.0; how = how_ended c first.0 first.1 }) (first_end c)))
    (same_quiet c h e now side (first_end c))

ends_noted : (c : Conversation) (h : Handshake) (e : Option HandshakeEnd) (bytes : List ℕ) (now : ℕ) (side : Side) (ending : Option HandshakeEnd) → EndsAt c h bytes now side ending → EndsAt c (record h { ending = e }) bytes now side ending
ends_noted c h e bytes now side ending (inl p) = inl p
ends_noted c h e bytes now side ending (inr p) = inr (p.0, p.1 ∙ sym (same_end c h e now side (length bytes)))

-- the bytes that wait are those behind what was said
pub upon_said : (s : Standing) (c : Conversation) (h : Handshake) (e : Option HandshakeEnd) (dialler acceptor : List ℕ) (now : ℕ) (ending : Option HandshakeEnd) → dialler ≡ (said_by Dialler c).left
    → acceptor ≡ (said_by Acceptor c).left → EndsUpon s c h (of_both dialler acceptor) now ending → EndsUpon s c (record h { ending = e }) (λ side. (said_by side c).left) now ending
upon_said (Due due) c h e dialler acceptor now ending d a p =
    ends_noted c h e (said_by (side_of due) c).left now (side_of due) ending (subst (λ (b : List ℕ). EndsAt c h b now (side_of due) ending) (by (side_of due)) p) where
      by : (side : Side) → of_both dialler acceptor side ≡ (said_by side c).left
      by Dialler = d
      by Acceptor = a
upon_said (Decided v) c h e dialler acceptor now ending d a p = p
