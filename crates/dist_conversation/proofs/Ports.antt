-- The two ports of a conversation stay the same, though its sides may be exchanged.
use Rattle.std.proofs.Common.{◌≡◌, ◌⊎◌, inl, inr, Bool, true, false, cond, ◌||◌, not, refl, sym, subst, ◌∙◌}
use Rattle.dist_capture.specs.declared.segment.{Endpoint.Endpoint, Segment.Segment}
use Rattle.dist_messages.specs.declared.message.Side.{Side, TheVariants.Dialler, TheVariants.Acceptor}
use Rattle.dist_conversation.specs.Conversations.{Goes, IsBetween, Takes, can_end, recognized_from, taken, with_end_of, with_ending, with_pieces, with_shown, with_sign}
use Rattle.dist_conversation.specs.declared.{conversation.Conversation.Conversation, looks.Shown.Shown}
use Rattle.dist_conversation.specs.declared.looks.Shown.TheVariants as shown

-- the same two ports, each at its side, or the other way round
abbrev pub SamePorts : Conversation → Conversation → Type 0
SamePorts c e = ((e.dialler ≡ c.dialler) × (e.acceptor ≡ c.acceptor)) ⊎ ((e.dialler ≡ c.acceptor) × (e.acceptor ≡ c.dialler))

ports_if : (b : Bool) (c d e : Conversation) → SamePorts c d → SamePorts c e → SamePorts c (cond b d e)
ports_if true c d e p q = p
ports_if false c d e p q = q

ports_then : (c d e : Conversation) → SamePorts c d → SamePorts d e → SamePorts c e
ports_then c d e (inl p) (inl q) = inl (q.0 ∙ p.0, q.1 ∙ p.1)
ports_then c d e (inl p) (inr q) = inr (q.0 ∙ p.1, q.1 ∙ p.0)
ports_then c d e (inr p) (inl q) = inr (q.0 ∙ p.0, q.1 ∙ p.1)
ports_then c d e (inr p) (inr q) = inl (q.0 ∙ p.1, q.1 ∙ p.0)

pieces_ports : (side : Side) (s : Segment) (c : Conversation) → SamePorts c (with_pieces side s c)
pieces_ports Dialler s c = inl (refl, refl)
pieces_ports Acceptor s c = inl (refl, refl)

end_ports : (side : Side) (s : Segment) (c : Conversation) → SamePorts c (with_end_of side s c)
end_ports Dialler s c = inl (refl, refl)
end_ports Acceptor s c = inl (refl, refl)

ending_ports : (side : Side) (s : Segment) (c : Conversation) → SamePorts c (with_ending side s c)
ending_ports side s c =
    ports_if (not (s.is_fin || s.is_reset)) c c _ (inl (refl, refl)) (ports_if (can_end side s c) c (with_end_of side s c) _ (end_ports side s c) (inl (refl, refl)))

shown_ports : (p : Shown × Bool) (c : Conversation) → SamePorts c (with_shown p c)
shown_ports (shown.Nothing, true) c = inr (refl, refl)
shown_ports (shown.Nothing, false) c = inl (refl, refl)
shown_ports (shown.Handshake, true) c = inr (refl, refl)
shown_ports (shown.Handshake, false) c = inl (refl, refl)
shown_ports (shown.Mapper, true) c = inr (refl, refl)
shown_ports (shown.Mapper, false) c = inl (refl, refl)
shown_ports (shown.Tls, true) c = inr (refl, refl)
shown_ports (shown.Tls, false) c = inl (refl, refl)
shown_ports (shown.Other, true) c = inr (refl, refl)
shown_ports (shown.Other, false) c = inl (refl, refl)

recognized_ports : (found : Shown) (c : Conversation) → SamePorts c (recognized_from found c)
recognized_ports shown.Nothing c = shown_ports _ c
recognized_ports shown.Handshake c = inl (refl, refl)
recognized_ports shown.Mapper c = inl (refl, refl)
recognized_ports shown.Tls c = inl (refl, refl)
recognized_ports shown.Other c = inl (refl, refl)

taken_ports : (side : Side) (s : Segment) (c : Conversation) → SamePorts c (taken side s c)
taken_ports side s c =
    let n = with_sign s c in
    let m = cond s.is_reset n (with_pieces side s n) in
    let e = with_ending side s m in
    let one : SamePorts c m = ports_if s.is_reset n n (with_pieces side s n) (inl (refl, refl)) (pieces_ports side s n) in
    ports_then c m (recognized_from e.shown e) one (ports_then m e (recognized_from e.shown e) (ending_ports side s m) (recognized_ports e.shown e))

at_ports : (a b x y : Endpoint) (s : Segment) → x ≡ a → y ≡ b → Goes a b s ⊎ Goes b a s → Goes x y s ⊎ Goes y x s
at_ports a b x y s p q g = subst (λ (z : Endpoint). Goes z y s ⊎ Goes y z s) (sym p) (subst (λ (z : Endpoint). Goes a z s ⊎ Goes z a s) (sym q) g)

other_way : (a b : Endpoint) (s : Segment) → Goes a b s ⊎ Goes b a s → Goes b a s ⊎ Goes a b s
other_way a b s (inl g) = inr g
other_way a b s (inr g) = inl g

between_same : (c e : Conversation) (x : Segment) → SamePorts c e → IsBetween c x → IsBetween e x
between_same c e x (inl p) g = at_ports c.dialler c.acceptor e.dialler e.acceptor x p.0 p.1 g
between_same c e x (inr p) g = at_ports c.acceptor c.dialler e.dialler e.acceptor x p.0 p.1 (other_way c.dialler c.acceptor x g)

back : (c e : Conversation) → SamePorts c e → SamePorts e c
back c e (inl p) = inl (sym p.0, sym p.1)
back c e (inr p) = inr (sym p.1, sym p.0)

ports_of : (c : Conversation) (s : Segment) (e : Conversation) → Takes c s e → SamePorts c e
ports_of c s e (side, from, is) = subst (SamePorts c) (sym is) (taken_ports side s c)

-- what is between the ports before is so afterwards, and the other way round
pub between_taken : (c : Conversation) (s : Segment) (e : Conversation) (x : Segment) → Takes c s e → IsBetween c x → IsBetween e x
between_taken c s e x takes g = between_same c e x (ports_of c s e takes) g

pub between_before : (c : Conversation) (s : Segment) (e : Conversation) (x : Segment) → Takes c s e → IsBetween e x → IsBetween c x
between_before c s e x takes g = between_same e c x (back c e (ports_of c s e takes)) g
