-- What passed over a stream, put together turn by turn.
use Rattle.std.proofs.Common.{◌≡◌, ℕ, ◌+◌, List, [], ◌∷◌, ◌++◌, Bool, false, true, Option, None, Some, is_none, is_some, not, refl, sym, ap, ◌∙◌, subst, append_assoc, append-nil, length, take, drop, ◌⊎◌, inl, inr, le_refl, ◌≤◌, length-append}
use Rattle.std.proofs.{KnownBytes.prepend_known-nil, lemmas.List.take_all, lemmas.List.take-append-drop}
use Rattle.std.specs.{Int.w16, Io.KnownBytes.prepend_known, Io.KnownBytes.append_known}
use Rattle.dist_frames.specs.Stream.{body_frame}
use Rattle.dist_messages.specs.declared.message.Message.{Message}
use Rattle.dist_messages.specs.declared.message.Side.{Side, TheVariants.Dialler, TheVariants.Acceptor}
use Rattle.dist_stream.specs.{Stream.StreamState, Turns.SaysFront, declared.turn_error.TurnError.TurnError}
use Rattle.dist_stream.proofs.Talks.{Spends-none, Spends-trans, append_known-append, prepend_known-append, append_known-none}
use Rattle.dist_talk.specs.{Bodies.HearsFrameOf, Bodies.stop_of, Bodies.tags_of, Handshake.Says, Handshake.or_first, Handshake.said_by, OwnSide.message_due}
use Rattle.dist_talk.specs.{Standing.standing_of, Words.side_of}
use Rattle.dist_talk.specs.Speaking.{AreFrames, EndsAs, Going, HearsNext, InTurn, IsDue, IsSpelled, IsTurn, IsWhole, LacksRoom, Moves, NoneUnless, SaidMore}
use Rattle.dist_talk.specs.Speaking.{SaidSame, SaysMessage, Spoke, TakesCame, acceptor_after, dialler_after, end_by, how_cut, how_of, is_reply, other_side}
use Rattle.dist_talk.specs.declared.{bodies.Came.Came, own_side.OwnSide.OwnSide, verdict.AwaitedMessage.AwaitedMessage, verdict.HandshakeVerdict.HandshakeVerdict}
use Rattle.dist_talk.specs.declared.bodies.Came.TheVariants as came
use Rattle.dist_talk.specs.declared.handshake.{Handshake.Handshake, HandshakeEnd.HandshakeEnd, SentContent.SentContent, SentMessage.SentMessage}
use Rattle.dist_talk.specs.declared.handshake.HowEnded.TheVariants as ended
use Rattle.dist_talk.specs.declared.handshake.SentContent.TheVariants as content
use Rattle.dist_talk.specs.declared.standing.Standing.TheVariants.{Due, Decided}

-- ---- frames

-- one frame more
pub frames_more : (side : Side) (items : List SentMessage) (bytes : List ℕ) (s : SentMessage) (frame : List ℕ) → AreFrames side items bytes → IsSpelled side s.content frame → AreFrames side (items ++ s ∷ []) (bytes ++ frame)
frames_more side [] bytes s frame none spelled = (frame, [], spelled, ap (λ (l : List ℕ). l ++ frame) none ∙ sym (append-nil frame), refl)
frames_more side (t ∷ rest) bytes s frame (first, more, spelled, parts, behind) last =
    (first, more ++ frame, spelled, ap (λ (l : List ℕ). l ++ frame) parts ∙ append_assoc first more frame, frames_more side rest more s frame behind last)

-- nothing was cut off
pub none_cut : (stop : Option TurnError) → NoneUnless stop []
none_cut None = refl
none_cut (Some cause) = tt

-- ---- sides

-- the other side of the other side
pub other_twice : (side : Side) → other_side (other_side side) ≡ side
other_twice Dialler = refl
other_twice Acceptor = refl

abbrev IsDialler : Side → Type 0
IsDialler Dialler = Unit {0}
IsDialler Acceptor = ⊥

-- no side is the other one
pub never_both : (side : Side) → side ≡ other_side side → ⊥
never_both Dialler e = subst IsDialler e tt
never_both Acceptor e = subst IsDialler (sym e) tt

-- a side is the one or the other
pub other_turn : (side own : Side) → (side ≡ other_side own → ⊥) → side ≡ own
other_turn Dialler Dialler unlike = refl
other_turn Dialler Acceptor unlike = absurd (unlike refl)
other_turn Acceptor Dialler unlike = absurd (unlike refl)
other_turn Acceptor Acceptor unlike = refl

-- ---- what both sides said

pub more_own : (side : Side) (c : SentContent) (h k : Handshake) (q : SaidMore side c h k) → said_by side k ≡ said_by side h ++ q.sent ∷ []
more_own Dialler c h k q = q.dialler
more_own Acceptor c h k q = q.acceptor

pub more_other : (side : Side) (c : SentContent) (h k : Handshake) (q : SaidMore side c h k) → said_by (other_side side) k ≡ said_by (other_side side) h
more_other Dialler c h k q = q.acceptor
more_other Acceptor c h k q = q.dialler

pub same_said : (side : Side) (h k : Handshake) → SaidSame h k → said_by side k ≡ said_by side h
same_said Dialler h k q = q.dialler
same_said Acceptor h k q = q.acceptor

-- ---- turns

-- one turn more
pub in_turn_more : (own : OwnSide) (order ds ns : List SentMessage) (h k : Handshake) (s : SentMessage) (due : AwaitedMessage) (side : Side)
    → side_of due ≡ side → InTurn own order ds ns h → IsTurn own due s.content h.dialler.items h.acceptor.items
    → k.dialler.items ≡ dialler_after side s h.dialler.items → k.acceptor.items ≡ acceptor_after side s h.acceptor.items
    → InTurn own (order ++ s ∷ []) ds ns k
in_turn_more own [] ds ns h k s due side turn (d, a) is kd ka = (
  due,
  subst (λ (xs : List SentMessage). IsTurn own due s.content xs ns) d (subst (λ (ys : List SentMessage). IsTurn own due s.content h.dialler.items ys) a is),
  (
    subst (λ (x : Side). k.dialler.items ≡ dialler_after x s ds) (sym turn) (kd ∙ ap (dialler_after side s) d),
    subst (λ (x : Side). k.acceptor.items ≡ acceptor_after x s ns) (sym turn) (ka ∙ ap (acceptor_after side s) a),
  ),
)
in_turn_more own (t ∷ rest) ds ns h k s due side turn (first, was, behind) is kd ka =
    (first, was, in_turn_more own rest (dialler_after (side_of first) t ds) (acceptor_after (side_of first) t ns) h k s due side turn behind is kd ka)

-- the same turns
pub in_turn_same : (own : OwnSide) (order ds ns : List SentMessage) (h k : Handshake) → SaidSame h k → InTurn own order ds ns h → InTurn own order ds ns k
in_turn_same own [] ds ns h k q (d, a) = (q.dialler ∙ d, q.acceptor ∙ a)
in_turn_same own (t ∷ rest) ds ns h k q (first, was, behind) =
    (first, was, in_turn_same own rest (dialler_after (side_of first) t ds) (acceptor_after (side_of first) t ns) h k q behind)

-- what stood of one handshake stands of another in which both sides said the same
pub stands_same : {X : Type 0} (of : List SentMessage → List SentMessage → X) (x : X) (h k : Handshake) → SaidSame h k → of h.dialler.items h.acceptor.items ≡ x → of k.dialler.items k.acceptor.items ≡ x
stands_same of x h k q is = ap (λ (l : List SentMessage). of l k.acceptor.items) q.dialler ∙ ap (λ (l : List SentMessage). of h.dialler.items l) q.acceptor ∙ is

-- nothing passed behind it, and this is its end
pub spoke_same : (own : OwnSide) (count : ℕ) (h k : Handshake) (start s : StreamState) (total turns : ℕ) → Going own count h start s total turns → SaidSame h k → EndsAs k.ending own count k None [] → Spoke own k start s total
spoke_same own count h k start s total turns p same ends = record {
  order = p.order;
  in_turn = in_turn_same own p.order [] [] h k same p.in_turn;
  whole = same.missing ∙ p.whole;
  said = p.said;
  cut = [];
  front = p.heard;
  rest = [];
  left = turns;
  stop = None;
  written = p.written;
  unread = p.unread ∙ ap (λ (l : List ℕ). prepend_known l s.unread) (sym (append-nil p.heard));
  spends = p.spends;
  own_frames = subst (λ (items : List SentMessage). AreFrames own.side items (p.said ++ [])) (sym (same_said own.side h k same)) (subst (AreFrames own.side (said_by own.side h)) (sym (append-nil p.said)) p.own_frames);
  own_whole = refl;
  other_frames = subst (λ (items : List SentMessage). AreFrames (other_side own.side) items p.heard) (sym (same_said (other_side own.side) h k same)) p.other_frames;
  ends = subst (λ (n : ℕ). EndsAs k.ending own n k None []) (sym p.many) ends;
}

-- both sides said the same as they said
pub same_itself : (h : Handshake) → SaidSame h h
same_itself h = record { dialler = refl; acceptor = refl; missing = refl }

-- an end was noted
pub noted : (h k : Handshake) (e : HandshakeEnd) → h.ending ≡ None → k.ending ≡ or_first h.ending e → k.ending ≡ Some e
noted h k e goes_on first = first ∙ ap (λ (o : Option HandshakeEnd). or_first o e) goes_on

-- what was said decides it
pub decided_moves : (own : OwnSide) (h : Handshake) (s : StreamState) (turns : ℕ) (v : HandshakeVerdict) → h.ending ≡ None → standing_of own.terms h.dialler.items h.acceptor.items ≡ Decided v → Moves false own h h s s turns turns
decided_moves own h s turns v goes_on is = λ count start total p.
    spoke_same own count h h start s total turns p (same_itself h)
    (subst (λ (o : Option HandshakeEnd). EndsAs o own count h None []) (sym goes_on) (inl (v, is), (refl, refl)))

-- all messages were said
pub full_spoke : (own : OwnSide) (h : Handshake) (start s : StreamState) (total turns count : ℕ) → count ≡ 7 → Going own count h start s total turns → Spoke own h start s total
full_spoke own h start s total turns count is p =
    spoke_same own count h h start s total turns p (same_itself h)
    (subst (λ (o : Option HandshakeEnd). EndsAs o own count h None []) (sym p.goes_on) (inr is, (refl, refl)))

-- the own side has no message
pub leaves_moves : (own : OwnSide) (h k : Handshake) (s : StreamState) (turns : ℕ) (due : AwaitedMessage) → standing_of own.terms h.dialler.items h.acceptor.items ≡ Due due → side_of due ≡ own.side → message_due own h.dialler.items h.acceptor.items due ≡ None → SaidSame h k → k.ending ≡ Some (record { side = own.side; how = ended.Closed }) → Moves (is_none k.ending) own h k s s turns turns
leaves_moves own h k s turns due stood turn none same ends = subst (λ (o : Option HandshakeEnd). Moves (is_none o) own h k s s turns turns) (sym ends) (λ count start total p.
    spoke_same own count h k start s total turns p same
    (subst (λ (o : Option HandshakeEnd). EndsAs o own count k None []) (sym ends) (inl (record {
      due = due;
      stood = stands_same (standing_of own.terms) (Due due) h k same stood;
      turn = turn;
      nothing = stands_same (λ (ds ns : List SentMessage). message_due own ds ns due) None h k same none;
      is = refl;
      quiet = (refl, refl);
    }))))

-- memory ran out
pub room_moves : (own : OwnSide) (h k : Handshake) (s : StreamState) (turns : ℕ) → SaidSame h k → k.ending ≡ Some (record { side = other_side own.side; how = ended.NoMemory }) → Moves (is_none k.ending) own h k s s turns turns
room_moves own h k s turns same ends = subst (λ (o : Option HandshakeEnd). Moves (is_none o) own h k s s turns turns) (sym ends) (λ count start total p.
    spoke_same own count h k start s total turns p same
    (subst (λ (o : Option HandshakeEnd). EndsAs o own count k None []) (sym ends) (inr (inr (inr (refl, (refl, refl)))))))

-- ---- the own side said a message

-- it was the message that was due
pub due_turn : (own : OwnSide) (due : AwaitedMessage) (m : Message) (s : SentMessage) (ds ns : List SentMessage) → standing_of own.terms ds ns ≡ Due due → message_due own ds ns due ≡ Some m → s.content ≡ content.Message m → IsTurn own due s.content ds ns
due_turn own due m s ds ns stood is said = (stood, λ turn. subst (λ (o : Option Message). IsDue o s.content) (sym is) said)

-- all of it
pub said_next : (own : OwnSide) (due : AwaitedMessage) (m : Message) (h k : Handshake) (count : ℕ) (start s0 s1 : StreamState) (total turns left : ℕ)
    → standing_of own.terms h.dialler.items h.acceptor.items ≡ Due due → side_of due ≡ own.side → message_due own h.dialler.items h.acceptor.items due ≡ Some m
    → Going own count h start s0 total turns → (more : SaidMore own.side (content.Message m) h k) (frame : List ℕ) → IsSpelled own.side (content.Message m) frame
    → SaysFront s0 s1 turns left None frame → k.ending ≡ None → Going own (count + 1) k start s1 total left
said_next own due m h k count start s0 s1 total turns left stood turn is p more frame spelled q goes_on =
    let all : take q.count frame ≡ frame = take_all q.count frame (subst (λ (n : ℕ). length frame ≤ n) (sym q.whole) (le_refl (length frame))) in
    let framed : IsSpelled own.side more.sent.content frame = subst (λ (x : SentContent). IsSpelled own.side x frame) (sym more.content_is) spelled in
    record {
      order = p.order ++ more.sent ∷ [];
      many = length-append p.order (more.sent ∷ []) ∙ ap (λ (n : ℕ). n + 1) p.many;
      in_turn = in_turn_more own p.order [] [] h k more.sent due own.side turn p.in_turn (due_turn own due m more.sent h.dialler.items h.acceptor.items stood is more.content_is) more.dialler more.acceptor;
      whole = more.missing ∙ p.whole;
      said = p.said ++ frame;
      heard = p.heard;
      written = q.says.written ∙ ap (λ (l : List ℕ). append_known s0.written l) all ∙ ap (λ (w : Option (List ℕ)). append_known w frame) p.written ∙ append_known-append start.written p.said frame;
      unread = p.unread ∙ ap (prepend_known p.heard) (sym q.says.unread);
      spends = Spends-trans p.spends q.says.spends;
      own_frames = subst (λ (items : List SentMessage). AreFrames own.side items (p.said ++ frame)) (sym (more_own own.side (content.Message m) h k more)) (frames_more own.side (said_by own.side h) p.said more.sent frame p.own_frames framed);
      other_frames = subst (λ (items : List SentMessage). AreFrames (other_side own.side) items p.heard) (sym (more_other own.side (content.Message m) h k more)) p.other_frames;
      goes_on = goes_on;
    }

-- a first part of it
pub said_cut : (own : OwnSide) (due : AwaitedMessage) (m : Message) (h k : Handshake) (count : ℕ) (start s0 s1 : StreamState) (total turns left : ℕ)
    → standing_of own.terms h.dialler.items h.acceptor.items ≡ Due due → side_of due ≡ own.side → message_due own h.dialler.items h.acceptor.items due ≡ Some m
    → Going own count h start s0 total turns → (more : SaidMore own.side (content.Message m) h k) (frame : List ℕ) → IsSpelled own.side (content.Message m) frame
    → (cause : TurnError) → SaysFront s0 s1 turns left (Some cause) frame → k.ending ≡ Some (record { side = other_side own.side; how = how_cut (is_reply m) cause }) → Spoke own k start s1 total
said_cut own due m h k count start s0 s1 total turns left stood turn is p more frame spelled cause q ends =
    let framed : IsSpelled own.side more.sent.content frame = subst (λ (x : SentContent). IsSpelled own.side x frame) (sym more.content_is) spelled in
    let parts : p.said ++ frame ≡ (p.said ++ take q.count frame) ++ drop q.count frame = ap (λ (l : List ℕ). p.said ++ l) (sym (take-append-drop q.count frame)) ∙ sym (append_assoc p.said (take q.count frame) (drop q.count frame)) in
    let all : AreFrames own.side (said_by own.side k) (p.said ++ frame) = subst (λ (items : List SentMessage). AreFrames own.side items (p.said ++ frame)) (sym (more_own own.side (content.Message m) h k more)) (frames_more own.side (said_by own.side h) p.said more.sent frame p.own_frames framed) in
    let order = p.order ++ more.sent ∷ [] in
    record {
      order = order;
      in_turn = in_turn_more own p.order [] [] h k more.sent due own.side turn p.in_turn (due_turn own due m more.sent h.dialler.items h.acceptor.items stood is more.content_is) more.dialler more.acceptor;
      whole = more.missing ∙ p.whole;
      said = p.said ++ take q.count frame;
      cut = drop q.count frame;
      front = p.heard;
      rest = [];
      left = left;
      stop = Some cause;
      written = q.says.written ∙ ap (λ (w : Option (List ℕ)). append_known w (take q.count frame)) p.written ∙ append_known-append start.written p.said (take q.count frame);
      unread = p.unread ∙ ap (prepend_known p.heard) (sym q.says.unread) ∙ ap (λ (l : List ℕ). prepend_known l s1.unread) (sym (append-nil p.heard));
      spends = Spends-trans p.spends q.says.spends;
      own_frames = subst (AreFrames own.side (said_by own.side k)) parts all;
      own_whole = tt;
      other_frames = subst (λ (items : List SentMessage). AreFrames (other_side own.side) items p.heard) (sym (more_other own.side (content.Message m) h k more)) p.other_frames;
      ends = subst (λ (o : Option HandshakeEnd). EndsAs o own (length order) k (Some cause) []) (sym ends) (inr (inr (inl (record {
        cause = cause;
        stop_is = refl;
        before = said_by own.side h;
        last = more.sent;
        message = m;
        said_is = more_own own.side (content.Message m) h k more;
        message_is = more.content_is;
        is = refl;
        nothing = refl;
      }))));
    }

-- the one or the other
by_stop : (own : OwnSide) (due : AwaitedMessage) (m : Message) (h k : Handshake) (s0 s1 : StreamState) (turns left : ℕ)
    → standing_of own.terms h.dialler.items h.acceptor.items ≡ Due due → side_of due ≡ own.side → message_due own h.dialler.items h.acceptor.items due ≡ Some m
    → (more : SaidMore own.side (content.Message m) h k) (frame : List ℕ) → IsSpelled own.side (content.Message m) frame
    → (stop : Option TurnError) → SaysFront s0 s1 turns left stop frame → k.ending ≡ end_by (other_side own.side) (is_reply m) stop → Moves (is_none k.ending) own h k s0 s1 turns left
by_stop own due m h k s0 s1 turns left stood turn is more frame spelled None q ends =
    subst (λ (o : Option HandshakeEnd). Moves (is_none o) own h k s0 s1 turns left) (sym ends)
    (λ count start total p. said_next own due m h k count start s0 s1 total turns left stood turn is p more frame spelled q ends)
by_stop own due m h k s0 s1 turns left stood turn is more frame spelled (Some cause) q ends =
    subst (λ (o : Option HandshakeEnd). Moves (is_none o) own h k s0 s1 turns left) (sym ends)
    (λ count start total p. said_cut own due m h k count start s0 s1 total turns left stood turn is p more frame spelled cause q ends)

pub said_moves : (own : OwnSide) (due : AwaitedMessage) (m : Message) (h k : Handshake) (s0 s1 : StreamState) (turns left : ℕ)
    → standing_of own.terms h.dialler.items h.acceptor.items ≡ Due due → side_of due ≡ own.side → message_due own h.dialler.items h.acceptor.items due ≡ Some m
    → LacksRoom (other_side own.side) h k s0 s1 turns left ⊎ SaysMessage own.side m h k s0 s1 turns left → Moves (is_none k.ending) own h k s0 s1 turns left
said_moves own due m h k s0 s1 turns left stood turn is (inr q) = by_stop own due m h k s0 s1 turns left stood turn is q.more q.frame q.spelled q.stop q.says q.ending
said_moves own due m h k s0 s1 turns left stood turn is (inl q) =
    subst (λ (n : ℕ). Moves (is_none k.ending) own h k s0 s1 turns n) (sym q.unspent)
    (subst (λ (s : StreamState). Moves (is_none k.ending) own h k s0 s turns turns) (sym q.rests) (room_moves own h k s0 turns q.same q.ending))

-- ---- the other side said something, or nothing

-- a body
pub heard_next : (own : OwnSide) (due : AwaitedMessage) (h k : Handshake) (count : ℕ) (start s0 s1 : StreamState) (total turns left : ℕ)
    → standing_of own.terms h.dialler.items h.acceptor.items ≡ Due due → side_of due ≡ other_side own.side
    → Going own count h start s0 total turns → (tags body : List ℕ) → HearsFrameOf s0 s1 turns left tags (came.Body body)
    → (c : SentContent) → Says (other_side own.side) body c → (more : SaidMore (other_side own.side) c h k) → k.ending ≡ None → Going own (count + 1) k start s1 total left
heard_next own due h k count start s0 s1 total turns left stood turn p tags body q c says more goes_on =
    let framed : IsSpelled (other_side own.side) more.sent.content (body_frame w16 body) = (body, subst (λ (x : SentContent). Says (other_side own.side) body x) (sym more.content_is) says, refl) in
    let own_same : said_by own.side k ≡ said_by own.side h = subst (λ (x : Side). said_by x k ≡ said_by x h) (other_twice own.side) (more_other (other_side own.side) c h k more) in
    record {
      order = p.order ++ more.sent ∷ [];
      many = length-append p.order (more.sent ∷ []) ∙ ap (λ (n : ℕ). n + 1) p.many;
      in_turn = in_turn_more own p.order [] [] h k more.sent due (other_side own.side) turn p.in_turn (stood, λ e. absurd (never_both own.side (sym e ∙ turn))) more.dialler more.acceptor;
      whole = more.missing ∙ p.whole;
      said = p.said;
      heard = p.heard ++ body_frame w16 body;
      written = q.hears.written ∙ p.written;
      unread = p.unread ∙ ap (prepend_known p.heard) q.hears.unread ∙ prepend_known-append s1.unread p.heard q.heard ∙ ap (λ (l : List ℕ). prepend_known (p.heard ++ l) s1.unread) q.means.0;
      spends = Spends-trans p.spends q.hears.spends;
      own_frames = subst (λ (items : List SentMessage). AreFrames own.side items p.said) (sym own_same) p.own_frames;
      other_frames = subst (λ (items : List SentMessage). AreFrames (other_side own.side) items (p.heard ++ body_frame w16 body)) (sym (more_own (other_side own.side) c h k more)) (frames_more (other_side own.side) (said_by (other_side own.side) h) p.heard more.sent (body_frame w16 body) p.other_frames framed);
      goes_on = goes_on;
    }

-- what ends the handshake
pub heard_end : (own : OwnSide) (due : AwaitedMessage) (h k : Handshake) (count : ℕ) (start s0 s1 : StreamState) (total turns left : ℕ)
    → standing_of own.terms h.dialler.items h.acceptor.items ≡ Due due → side_of due ≡ other_side own.side
    → Going own count h start s0 total turns → (c : Came) → HearsFrameOf s0 s1 turns left (tags_of (other_side own.side)) c
    → SaidSame h k → k.ending ≡ Some (record { side = other_side own.side; how = how_of c }) → Spoke own k start s1 total
heard_end own due h k count start s0 s1 total turns left stood turn p c q same ends =
    record {
      order = p.order;
      in_turn = in_turn_same own p.order [] [] h k same p.in_turn;
      whole = same.missing ∙ p.whole;
      said = p.said;
      cut = [];
      front = p.heard;
      rest = q.heard;
      left = left;
      stop = stop_of c;
      written = q.hears.written ∙ p.written;
      unread = p.unread ∙ ap (prepend_known p.heard) q.hears.unread ∙ prepend_known-append s1.unread p.heard q.heard;
      spends = Spends-trans p.spends q.hears.spends;
      own_frames = subst (λ (items : List SentMessage). AreFrames own.side items (p.said ++ [])) (sym (same_said own.side h k same)) (subst (AreFrames own.side (said_by own.side h)) (sym (append-nil p.said)) p.own_frames);
      own_whole = none_cut (stop_of c);
      other_frames = subst (λ (items : List SentMessage). AreFrames (other_side own.side) items p.heard) (sym (same_said (other_side own.side) h k same)) p.other_frames;
      ends = subst (λ (o : Option HandshakeEnd). EndsAs o own (length p.order) k (stop_of c) q.heard) (sym ends) (inr (inl (record {
        due = due;
        stood = stands_same (standing_of own.terms) (Due due) h k same stood;
        turn = turn;
        came = c;
        came_is = q.means;
        stop_is = refl;
        is = refl;
      })));
    }

-- what came ended it
ended_moves : (own : OwnSide) (due : AwaitedMessage) (h k : Handshake) (s0 s1 : StreamState) (turns left : ℕ)
    → standing_of own.terms h.dialler.items h.acceptor.items ≡ Due due → side_of due ≡ other_side own.side
    → (c : Came) → HearsFrameOf s0 s1 turns left (tags_of (other_side own.side)) c
    → SaidSame h k → k.ending ≡ Some (record { side = other_side own.side; how = how_of c }) → Moves (is_none k.ending) own h k s0 s1 turns left
ended_moves own due h k s0 s1 turns left stood turn c q same ends =
    subst (λ (o : Option HandshakeEnd). Moves (is_none o) own h k s0 s1 turns left) (sym ends)
    (λ count start total p. heard_end own due h k count start s0 s1 total turns left stood turn p c q same ends)

-- the one or the other
by_came : (own : OwnSide) (due : AwaitedMessage) (h k : Handshake) (s0 s1 : StreamState) (turns left : ℕ)
    → standing_of own.terms h.dialler.items h.acceptor.items ≡ Due due → side_of due ≡ other_side own.side
    → (c : Came) → HearsFrameOf s0 s1 turns left (tags_of (other_side own.side)) c
    → TakesCame (other_side own.side) c h k → Moves (is_none k.ending) own h k s0 s1 turns left
by_came own due h k s0 s1 turns left stood turn (came.Body body) q (inl (c, says, more, goes_on)) =
    subst (λ (o : Option HandshakeEnd). Moves (is_none o) own h k s0 s1 turns left) (sym goes_on)
    (λ count start total p. heard_next own due h k count start s0 s1 total turns left stood turn p (tags_of (other_side own.side)) body q c says more goes_on)
by_came own due h k s0 s1 turns left stood turn (came.Body body) q (inr (same, ends)) = ended_moves own due h k s0 s1 turns left stood turn (came.Body body) q same ends
by_came own due h k s0 s1 turns left stood turn (came.Front front) q (same, ends) = ended_moves own due h k s0 s1 turns left stood turn (came.Front front) q same ends
by_came own due h k s0 s1 turns left stood turn (came.Stopped fault count) q (same, ends) = ended_moves own due h k s0 s1 turns left stood turn (came.Stopped fault count) q same ends
by_came own due h k s0 s1 turns left stood turn came.NoMemory q (same, ends) = ended_moves own due h k s0 s1 turns left stood turn came.NoMemory q same ends

pub heard_moves : (own : OwnSide) (due : AwaitedMessage) (h k : Handshake) (s0 s1 : StreamState) (turns left : ℕ)
    → standing_of own.terms h.dialler.items h.acceptor.items ≡ Due due → side_of due ≡ other_side own.side
    → HearsNext (other_side own.side) h k s0 s1 turns left → Moves (is_none k.ending) own h k s0 s1 turns left
heard_moves own due h k s0 s1 turns left stood turn q = by_came own due h k s0 s1 turns left stood turn q.came q.hears q.takes

-- a truth value that says that there is none
pub none_result : {X : Type 0} (o : Option X) (b : Bool) → is_some o ≡ not b → is_none o ≡ b
none_result None true e = refl
none_result None false e = sym e
none_result (Some x) true e = sym e
none_result (Some x) false e = refl

-- ---- the beginning

-- nothing was said yet
none_said : (side : Side) (h : Handshake) → h.dialler.items ≡ [] → h.acceptor.items ≡ [] → said_by side h ≡ []
none_said Dialler h d a = d
none_said Acceptor h d a = a

pub going_none : (own : OwnSide) (h : Handshake) (s : StreamState) (turns : ℕ) → h.dialler.items ≡ [] → h.acceptor.items ≡ [] → IsWhole h → h.ending ≡ None → Going own 0 h s s turns turns
going_none own h s turns d a whole goes_on = record {
  order = [];
  many = refl;
  in_turn = (d, a);
  whole = whole;
  said = [];
  heard = [];
  written = sym (append_known-none s.written);
  unread = sym (prepend_known-nil s.unread);
  spends = Spends-none s turns;
  own_frames = subst (λ (items : List SentMessage). AreFrames own.side items []) (sym (none_said own.side h d a)) refl;
  other_frames = subst (λ (items : List SentMessage). AreFrames (other_side own.side) items []) (sym (none_said (other_side own.side) h d a)) refl;
  goes_on = goes_on;
}
