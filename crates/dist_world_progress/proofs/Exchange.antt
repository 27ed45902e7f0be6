-- Two nodes that fit exchange their messages, and both are up.
use Rattle.dist_world_model.specs.declared.happening.Happening.{Happening}
use Rattle.dist_world_model.proofs.Words.{◌≡◌, ℕ, false, cond, ◌+◌, ◌<◌, ◌≤◌, ◌^◌, suc, true, arith, subst, List, [], ◌∷◌, ◌++◌, length, Some, None, sym, refl, ap, ◌∙◌}
use Rattle.dist_world_model.proofs.Words.{is_greater, Setup, NodeState, NodeLaws, End, EndId, Attempt, UpRecord, Side, Acceptor, Dialler, Message, Effect, entry_in, sender_in, named_attempt, fresh_attempt, goes_on, shuts, closes, comes_up, replaced_by, own_digest}
use Rattle.dist_world_model.proofs.Words.{happens, run, Text, World}
use Rattle.dist_world_model.proofs.SentFrames.{digest-length}
use Rattle.dist_world_model.proofs.Words.{AllByRecursion, AllFit, Bool, Entry, Option, Status, held_back, inl, inr, is_said_by, not, slice_get, shuts_other, superseded_end, supersedes, false≢true}
use Rattle.dist_peers.specs.declared.entry.Entry.TheVariants as entry
use Rattle.dist_core_setup.specs.Saying.{challenge_text}
use Rattle.dist_world_progress.specs.Connecting.{IsTalkBetween, yields_to}
use Rattle.dist_world_model.specs.declared.happening.Happening.TheVariants as happening
use Rattle.dist_messages.specs.declared.message.Message.TheVariants as message
use Rattle.dist_messages.specs.declared.message.Status.TheVariants as status
use Rattle.dist_peers.specs.Verdicts.{ruling}
use Rattle.dist_secret.specs.Cookies.{cookie_for}
use Rattle.dist_core_ends.specs.Ends.{end_id}
use Rattle.dist_core_ends.specs.declared.known.End.TheVariants as ends
use Rattle.dist_core_ends.specs.declared.phase.Phase.TheVariants as phase
use Rattle.dist_core_ends.specs.declared.why.Why.TheVariants as why
use Rattle.dist_core_setup.specs.Rules.{is_refused, required_of}
use Rattle.dist_core_setup.specs.Saying.{ack_message, ack_text, frame_of, greeting_text, name_text, reply_message, status_text}
use Rattle.dist_core.specs.{Accepted.in_await_reply, Accepted.name_taken, Accepted.verdict_in, Dialled.in_await_ack, Dialled.in_await_challenge, Effects.form_of, Effects.record_of, Node.is_full_for, Step.in_attempt, Step.in_end}
use Rattle.dist_core.specs.declared.reply.Note.TheVariants as note
use Rattle.dist_world_progress.proofs.Fitting.{Handshake, Said, reply-said, right, said-by}
use Rattle.dist_world_progress.proofs.{Meeting.IsFor, Stands.Any, Stands.Stand}
use Rattle.dist_world_progress.proofs.Talks.{Does, Link, Talk, behind-last, behind-of, come-x, come-y, first, first-last, first-of, frame-long, frame-some, second, take-x, take-y}

-- an effect that is this one does what this one does
does-by : (n : NodeState) (id : EndId) (r : ℕ) (e : End) (m : Message) (f : Effect) → in_end n id r e m ≡ f → (let r = f.reply in r.end_) ≡ id → Does n id r e m (let r = f.reply in r.say) f.this
does-by n id r e m f is own = record { own = ap (λ (f : Effect). f.reply.end_) is ∙ own; this = ap (λ (f : Effect). f.this) is; said = ap (λ (f : Effect). f.reply.say) is }

-- how many happenings bring the challenge to x, by the entry that y has for it
abbrev pub reach_in : Option Entry → ℕ
reach_in None = 4
reach_in (Some (entry.Out x)) = 4
reach_in (Some (entry.In x)) = 4
reach_in (Some (entry.Up x)) = 7
reach_in (Some (entry.Challenged u x)) = 7

pub reach-most : (o : Option Entry) → reach_in o ≤ 7
reach-most None = omega arith
reach-most (Some (entry.Out x)) = omega arith
reach-most (Some (entry.In x)) = omega arith
reach-most (Some (entry.Up x)) = omega arith
reach-most (Some (entry.Challenged u x)) = omega arith

module _ (laws : NodeLaws) (sx sy : Setup) (cx cy : ℕ) (cookie : cookie_for sx.cookies sy.name ≡ cookie_for sy.cookies sx.name) (hs : Handshake sx sy) where
  -- ---- what each message does

  -- the attempt at y
  abbrev pub at_y : Attempt
  at_y = named_attempt hs.form hs.flags hs.creation sx.name cy

  -- the attempt at x, as it goes on
  abbrev pub at_x : Attempt
  at_x = record (fresh_attempt sy.name (hs.opens)) { phase = phase.AwaitStatus }

  abbrev pub at_x2 : Attempt
  at_x2 = record at_x { phase = phase.AwaitChallenge }

  abbrev pub at_x3 : Attempt
  at_x3 = record at_x2 { phase = phase.AwaitAck; challenge = cx; flags = hs.their_flags; creation = hs.their_creation }

  abbrev pub the-reply : Message
  the-reply = reply_message sx sy.name cx cy

  abbrev pub the-ack : Message
  the-ack = ack_message sy sx.name cx

  abbrev pub up-y : UpRecord
  up-y = record_of sy at_y (own_digest sx sy.name cy)

  abbrev pub up-x : UpRecord
  up-x = record_of sx at_x3 (own_digest sy sx.name cx)

  -- the answer to the name is that to the entry
  name-comes : (n : NodeState) (id : EndId) (o : Option Entry) → n.setup ≡ sy → IsFor sx.name o n → in_end n id cy ends.Unnamed hs.name ≡ name_taken n.setup n.ends id at_y (let r = ruling (is_greater n.setup.name sx.name) id o in r.verdict)
  name-comes n id o setup was =
      let full : is_full_for n (entry_in n.ends sx.name) ≡ false = ap (is_full_for n) was.0 ∙ was.1 in
      let pass : is_refused n.setup (required_of n.setup hs.form) (is_full_for n (entry_in n.ends sx.name)) hs.flags sx.name ≡ false = (λ i. is_refused (setup i) (required_of (setup i) hs.form) (full i) hs.flags sx.name) ∙ hs.let_in in
      hs.named cy n setup id
      ∙ ap (λ b. cond b (shuts id (status_text status.NotAllowed) why.Refused note.Nothing) (name_taken n.setup n.ends id at_y (verdict_in n id sx.name))) pass
      ∙ ap (λ o. name_taken n.setup n.ends id at_y (let r = ruling (is_greater n.setup.name sx.name) id o in r.verdict)) was.0

  abbrev the-greeting : Status → List ℕ
  the-greeting s = greeting_text sy s hs.form cy

  -- what an end does that supersedes another
  superseding : (n : NodeState) (id : EndId) (e : End) (m : Message) (say : List ℕ) (b : Attempt) (x : EndId) (d : End) → in_end n id cy e m ≡ supersedes id say b x d → Does n id cy e m say (ends.Attempt b)
  superseding n id e m say b x ends.Unnamed is = does-by n id cy e m (supersedes id say b x ends.Unnamed) is refl
  superseding n id e m say b x (ends.Attempt c) is = does-by n id cy e m (supersedes id say b x (ends.Attempt c)) is refl
  superseding n id e m say b x (ends.Up r) is = does-by n id cy e m (supersedes id say b x (ends.Up r)) is refl
  superseding n id e m say b x (ends.Closed w) is = does-by n id cy e m (supersedes id say b x (ends.Closed w)) is refl

  -- how y answers the name: it lets x go on, or asks for `true` first
  data Answer (o : Option Entry) : Type 0 where
    Direct : (s : Status) → is_said_by s Acceptor ≡ true → ((n : NodeState) (id : EndId) → Does n id 0 (ends.Attempt at_x) (message.Status s) [] (ends.Attempt at_x2))
        → ((n : NodeState) (id : EndId) → n.setup ≡ sy → IsFor sx.name o n → Does n id cy ends.Unnamed hs.name (the-greeting s) (ends.Attempt at_y)) → reach_in o ≡ 4 → Answer o
    Asked : ((n : NodeState) (id : EndId) → n.setup ≡ sy → IsFor sx.name o n → Does n id cy ends.Unnamed hs.name (status_text status.Alive) (ends.Attempt (held_back at_y))) → reach_in o ≡ 7 → Answer o

  pub does-status : (n : NodeState) (r : ℕ) (id : EndId) → Does n id r (ends.Attempt at_x) (message.Status status.Ok) [] (ends.Attempt at_x2)
  does-status n r id = record { own = refl; this = refl; said = refl }

  goes-on : (n : NodeState) (id : EndId) → Does n id 0 (ends.Attempt at_x) (message.Status status.Ok) [] (ends.Attempt at_x2)
  goes-on n id = does-status n 0 id

  pub does-name : (n : NodeState) (id : EndId) → n.setup ≡ sy → IsFor sx.name None n → Does n id cy ends.Unnamed hs.name (the-greeting status.Ok) (ends.Attempt at_y)
  does-name n id setup was = does-by n id cy ends.Unnamed hs.name _ (name-comes n id None setup was ∙ ap (λ (s : Setup). goes_on id (greeting_text s status.Ok hs.form cy) (ends.Attempt at_y) (note.NameTaken sx.name None)) setup) refl

  answer : (o : Option Entry) → yields_to sy.name sx.name o ≡ true → Answer o
  answer None y = Direct status.Ok refl goes-on does-name refl
  answer (Some (entry.Out x)) y = Direct status.OkSimultaneous refl (λ n id. record { own = refl; this = refl; said = refl }) (λ n id setup was. superseding n id ends.Unnamed hs.name (the-greeting status.OkSimultaneous) at_y x (superseded_end (slice_get n.ends x.0))
      (name-comes n id (Some (entry.Out x)) setup was
      ∙ ap (λ g. name_taken n.setup n.ends id at_y (let r = ruling g id (Some (entry.Out x)) in r.verdict)) (ap (λ (s : Setup). is_greater s.name sx.name) setup ∙ lesser)
      ∙ ap (λ (s : Setup). supersedes id (greeting_text s status.OkSimultaneous hs.form cy) at_y x (superseded_end (slice_get n.ends x.0))) setup)) refl
    where
      lesser : is_greater sy.name sx.name ≡ false
      lesser = by (is_greater sy.name sx.name) y
        where
          by : (b : Bool) → not b ≡ true → b ≡ false
          by false e = refl
          by true e = absurd (false≢true e)
  answer (Some (entry.In z)) y = Direct status.Ok refl goes-on (λ n id setup was. does-by n id cy ends.Unnamed hs.name _ (name-comes n id (Some (entry.In z)) setup was ∙ ap (λ (s : Setup). shuts_other id (greeting_text s status.Ok hs.form cy) (ends.Attempt at_y) z why.Replaced (note.NameTaken sx.name None)) setup) refl) refl
  answer (Some (entry.Up x)) y = Asked (λ n id setup was. does-by n id cy ends.Unnamed hs.name _ (name-comes n id (Some (entry.Up x)) setup was) refl) refl
  answer (Some (entry.Challenged x z)) y = Asked (λ n id setup was. does-by n id cy ends.Unnamed hs.name _ (name-comes n id (Some (entry.Challenged x z)) setup was) refl) refl

  -- x is asked whether it is alive, and is; then the challenge comes
  does-alive : (n : NodeState) (id : EndId) → Does n id 0 (ends.Attempt at_x) (message.Status status.Alive) (status_text status.True) (ends.Attempt at_x2)
  does-alive n id = record { own = refl; this = refl; said = refl }

  does-true : (n : NodeState) (id : EndId) → n.setup ≡ sy → Does n id cy (ends.Attempt (held_back at_y)) (message.Status status.True) (frame_of (hs.challenge cy)) (ends.Attempt at_y)
  does-true n id setup = does-by n id cy (ends.Attempt (held_back at_y)) (message.Status status.True) (goes_on id (frame_of (hs.challenge cy)) (ends.Attempt at_y) note.Nothing)
      (ap (λ (s : Setup). goes_on id (challenge_text s hs.form cy) (ends.Attempt at_y) note.Nothing) setup ∙ ap (λ m. goes_on id (frame_of m) (ends.Attempt at_y) note.Nothing) (hs.challenges cy)) refl

  pub does-challenge : (n : NodeState) (id : EndId) → n.setup ≡ sx → Does n id cx (ends.Attempt at_x2) (hs.challenge cy) (frame_of the-reply) (ends.Attempt at_x3)
  does-challenge n id setup = does-by n id cx (ends.Attempt at_x2) (hs.challenge cy) _ (ap (λ (s : Setup). in_await_challenge s id cx at_x2 (hs.challenge cy)) setup ∙ hs.answered cx cy id at_x2 refl (laws.names.itself sy.name)) refl

  pub does-reply : (n : NodeState) (r : ℕ) (id : EndId) → n.setup ≡ sy → Does n id r (ends.Attempt at_y) the-reply (frame_of the-ack) (ends.Up up-y)
  does-reply n r id setup = does-by n id r (ends.Attempt at_y) the-reply (comes_up id (ack_text sy sx.name cx) up-y (replaced_by (entry_in n.ends sx.name)))
      (ap (λ q. in_attempt n id r at_y q the-reply) hs.replies
      ∙ ap (λ (s : Setup). in_await_reply s (entry_in n.ends sx.name) id at_y the-reply) setup
      ∙ ap (λ b. cond b (comes_up id (ack_text sy sx.name cx) up-y (replaced_by (entry_in n.ends sx.name))) (closes id why.WrongDigest)) (right sx sy cookie cy)) refl

  pub does-ack : (n : NodeState) (r : ℕ) (id : EndId) → n.setup ≡ sx → Does n id r (ends.Attempt at_x3) the-ack [] (ends.Up up-x)
  does-ack n r id setup = does-by n id r (ends.Attempt at_x3) the-ack (comes_up id [] up-x (replaced_by (entry_in n.ends sy.name)))
      (ap (λ (s : Setup). in_await_ack s (entry_in n.ends sy.name) id at_x3 the-ack) setup
      ∙ ap (λ b. cond b (comes_up id [] up-x (replaced_by (entry_in n.ends sy.name))) (closes id why.WrongDigest)) (right sy sx (sym cookie) cx)) refl

  pub status-said : (side : Side) (k : Status) → is_said_by k side ≡ true → Said side (message.Status k)
  status-said side k h = said-by laws side (message.Status k) tt (laws.sayings.says_status side k h)

  pub ack-said : Said Acceptor the-ack
  ack-said = let d = digest-length laws sy sx.name cx in said-by laws Acceptor the-ack d (laws.sayings.says_ack _ d)

-- ---- all messages, one after another

-- two ends that are up
pub record Risen (w : World) (t : Link) (rx ry : UpRecord) (n : ℕ) : Type 0 where
  pub dialled : Stand w (first t) (Some t.c) (ends.Up rx) 0 Any
  pub accepted : Stand w (second t) (Some t.c) (ends.Up ry) n Any
  pub setups : w.setups ≡ t.setups

module _ (laws : NodeLaws) (t : Link) (cx cy : ℕ) (small-x : cx < 2 ^ 32) (small-y : cy < 2 ^ 32) (cookie : cookie_for t.sx.cookies t.sy.name ≡ cookie_for t.sy.cookies t.sx.name) (hs : Handshake t.sx t.sy) where
  abbrev pub begun : End
  begun = ends.Attempt (at_x laws t.sx t.sy cx cy cookie hs)

  abbrev awaiting : End
  awaiting = ends.Attempt (at_x2 laws t.sx t.sy cx cy cookie hs)

  abbrev replied : End
  replied = ends.Attempt (at_x3 laws t.sx t.sy cx cy cookie hs)

  abbrev challenged : End
  challenged = ends.Attempt (at_y laws t.sx t.sy cx cy cookie hs)

  abbrev reply : Message
  reply = the-reply laws t.sx t.sy cx cy cookie hs

  abbrev ack : Message
  ack = the-ack laws t.sx t.sy cx cy cookie hs

  -- all that was sent came, or none of it
  abbrev pub sent : List ℕ → Text
  sent s = record { said = s; come = [] }

  abbrev arrived : List ℕ → Text
  arrived s = record { said = []; come = s }

  abbrev none-on : Text
  none-on = record { said = []; come = [] }

  -- x takes a frame, y does, with this number; these bytes come to x, to y
  abbrev X : ℕ → Happening
  X r = happening.Take t.x (end_id t.i) r

  abbrev Y : ℕ → Happening
  Y r = happening.Take t.y (end_id t.j) r

  abbrev to-x : List ℕ → Happening
  to-x s = happening.Deliver t.x (end_id t.i) (length s)

  abbrev to-y : List ℕ → Happening
  to-y s = happening.Deliver t.y (end_id t.j) (length s)

  abbrev AllTalk : List Happening → Type 0
  AllTalk hs = AllByRecursion (IsTalkBetween t.x t.y t.sy.name t.c) hs

  -- WHAT BRINGS THE CHALLENGE TO x: at most k happenings
  pub record Front (w : World) (k : ℕ) : Type 0 where
    pub begin : List Happening
    pub few_begin : length begin ≤ k
    pub fit_begin : AllFit begin
    pub talk_begin : AllTalk begin
    pub left : ℕ
    pub leads : Talk (run begin w) t awaiting challenged none-on (arrived (frame_of (hs.challenge cy))) 2 (suc left) 5 Any

  -- x is let go on at once
  direct : (Q : NodeState → Type 0) (s : Status) → is_said_by s Acceptor ≡ true → ((n : NodeState) (id : EndId) → Does n id 0 begun (message.Status s) [] awaiting) → ((n : NodeState) (id : EndId) → n.setup ≡ t.sy → Q n → Does n id cy ends.Unnamed hs.name (greeting_text t.sy s hs.form cy) challenged)
      → (w : World) → Talk w t begun ends.Unnamed (sent (name_text t.sx (form_of hs.opens))) none-on 3 4 9 Q → Front w 4
  direct Q s by-y goes names w h =
      let greeting : List ℕ = frame_of (message.Status s) ++ frame_of (hs.challenge cy) in
      let ss = status-said laws t.sx t.sy cx cy cookie hs Acceptor s by-y in
      let w1 : World = happens w (to-y (frame_of hs.name)) in
      let w2 : World = happens w1 (Y cy) in
      let w3 : World = happens w2 (to-x greeting) in
      let h1 = come-y laws w t begun ends.Unnamed (sent (name_text t.sx (form_of hs.opens))) none-on 3 4 8 Q h (frame_of hs.name) (ap (λ m. sent (frame_of m)) hs.names) (frame-long hs.name) refl in
      let h2 = take-y laws w1 t begun ends.Unnamed (arrived (frame_of hs.name)) none-on 3 3 7 Q cy h1 hs.name hs.name_said (first-last Dialler hs.name hs.name_said) refl [] (greeting_text t.sy s hs.form cy) (behind-last Dialler hs.name hs.name_said) challenged (λ v e q. names v (end_id t.j) e q) in
      let h3 = come-x laws w2 t begun challenged none-on (sent (greeting_text t.sy s hs.form cy)) 3 3 6 Any h2 greeting (ap (λ m. sent (frame_of (message.Status s) ++ frame_of m)) (hs.challenges cy)) (frame-some (message.Status s) (frame_of (hs.challenge cy))) refl in
      let h4 = take-x laws w3 t begun challenged none-on (arrived greeting) 2 3 5 Any 0 h3 (message.Status s) ss (first-of Acceptor (message.Status s) ss (frame_of (hs.challenge cy))) refl (frame_of (hs.challenge cy)) [] (behind-of Acceptor (message.Status s) ss (frame_of (hs.challenge cy))) awaiting (λ v e. goes v (end_id t.i)) in
      record { begin = to-y (frame_of hs.name) ∷ Y cy ∷ to-x greeting ∷ X 0 ∷ []; few_begin = omega arith; fit_begin = (tt, (small-y, (tt, (omega arith, tt)))); talk_begin = (inr refl, (inr refl, (inl refl, (inl refl, tt)))); left = 2; leads = h4 }

  -- x is asked whether it is alive
  asked : (Q : NodeState → Type 0) → ((n : NodeState) (id : EndId) → n.setup ≡ t.sy → Q n → Does n id cy ends.Unnamed hs.name (status_text status.Alive) (ends.Attempt (held_back (at_y laws t.sx t.sy cx cy cookie hs))))
      → (w : World) → Talk w t begun ends.Unnamed (sent (name_text t.sx (form_of hs.opens))) none-on 3 4 12 Q → Front w 7
  asked Q names w h =
      let alive : Message = message.Status status.Alive in
      let yes : Message = message.Status status.True in
      let held : End = ends.Attempt (held_back (at_y laws t.sx t.sy cx cy cookie hs)) in
      let sa = status-said laws t.sx t.sy cx cy cookie hs Acceptor status.Alive refl in
      let sy = status-said laws t.sx t.sy cx cy cookie hs Dialler status.True refl in
      let w1 : World = happens w (to-y (frame_of hs.name)) in
      let w2 : World = happens w1 (Y cy) in
      let w3 : World = happens w2 (to-x (frame_of alive)) in
      let w4 : World = happens w3 (X 0) in
      let w5 : World = happens w4 (to-y (frame_of yes)) in
      let w6 : World = happens w5 (Y cy) in
      let h1 = come-y laws w t begun ends.Unnamed (sent (name_text t.sx (form_of hs.opens))) none-on 3 4 11 Q h (frame_of hs.name) (ap (λ m. sent (frame_of m)) hs.names) (frame-long hs.name) refl in
      let h2 = take-y laws w1 t begun ends.Unnamed (arrived (frame_of hs.name)) none-on 3 3 10 Q cy h1 hs.name hs.name_said (first-last Dialler hs.name hs.name_said) refl [] (frame_of alive) (behind-last Dialler hs.name hs.name_said) held (λ v e q. names v (end_id t.j) e q) in
      let h3 = come-x laws w2 t begun held none-on (sent (frame_of alive)) 3 3 9 Any h2 (frame_of alive) refl (frame-long alive) refl in
      let h4 = take-x laws w3 t begun held none-on (arrived (frame_of alive)) 2 3 8 Any 0 h3 alive sa (first-last Acceptor alive sa) refl [] (frame_of yes) (behind-last Acceptor alive sa) awaiting (λ v e. does-alive laws t.sx t.sy cx cy cookie hs v (end_id t.i)) in
      let h5 = come-y laws w4 t awaiting held (sent (frame_of yes)) none-on 2 3 7 Any h4 (frame_of yes) refl (frame-long yes) refl in
      let h6 = take-y laws w5 t awaiting held (arrived (frame_of yes)) none-on 2 2 6 Any cy h5 yes sy (first-last Dialler yes sy) refl [] (frame_of (hs.challenge cy)) (behind-last Dialler yes sy) challenged (λ v e q. does-true laws t.sx t.sy cx cy cookie hs v (end_id t.j) e) in
      let h7 = come-x laws w6 t awaiting challenged none-on (sent (frame_of (hs.challenge cy))) 2 2 5 Any h6 (frame_of (hs.challenge cy)) refl (frame-long (hs.challenge cy)) refl in
      record {
        begin = to-y (frame_of hs.name) ∷ Y cy ∷ to-x (frame_of alive) ∷ X 0 ∷ to-y (frame_of yes) ∷ Y cy ∷ to-x (frame_of (hs.challenge cy)) ∷ [];
        few_begin = omega arith;
        fit_begin = (tt, (small-y, (tt, (omega arith, (tt, (small-y, (tt, tt)))))));
        talk_begin = (inr refl, (inr refl, (inl refl, (inl refl, (inr refl, (inr refl, (inl refl, tt)))))));
        left = 1;
        leads = h7;
      }

  -- the name is on its way to y, which has this entry for x
  abbrev pub Starts : World → Option Entry → ℕ → Type 0
  Starts w o k = Talk w t begun ends.Unnamed (sent (name_text t.sx (form_of hs.opens))) none-on 3 4 (k + 5) (IsFor t.sx.name o)

  -- by that entry
  pub front : (o : Option Entry) → yields_to t.sy.name t.sx.name o ≡ true → (w : World) → Starts w o (reach_in o) → Front w (reach_in o)
  front o y w h = by (answer laws t.sx t.sy cx cy cookie hs o y)
    where
      by : Answer laws t.sx t.sy cx cy cookie hs o → Front w (reach_in o)
      by (Direct s by-y goes names few) = subst (Front w) (sym few) (direct (IsFor t.sx.name o) s by-y goes names w (subst (Starts w o) few h))
      by (Asked names few) = subst (Front w) (sym few) (asked (IsFor t.sx.name o) names w (subst (Starts w o) few h))

  -- the challenge is answered, and the reply
  abbrev pub ending : List Happening
  ending = X cx ∷ to-y (frame_of reply) ∷ Y 0 ∷ to-x (frame_of ack) ∷ X 0 ∷ []

  pub ended : (w : World) (n : ℕ) → Talk w t awaiting challenged none-on (arrived (frame_of (hs.challenge cy))) 2 (suc n) 5 Any → Risen (run ending w) t (up-x laws t.sx t.sy cx cy cookie hs) (up-y laws t.sx t.sy cx cy cookie hs) n
  ended w n h =
      let rs = reply-said laws t.sx t.sy.name cx cy small-x in
      let as_ = ack-said laws t.sx t.sy cx cy cookie hs in
      let up : End = ends.Up (up-y laws t.sx t.sy cx cy cookie hs) in
      let w1 : World = happens w (X cx) in
      let w2 : World = happens w1 (to-y (frame_of reply)) in
      let w3 : World = happens w2 (Y 0) in
      let w4 : World = happens w3 (to-x (frame_of ack)) in
      let h1 = take-x laws w t awaiting challenged none-on (arrived (frame_of (hs.challenge cy))) 1 (suc n) 4 Any cx h (hs.challenge cy) (hs.challenge_said cy small-y) (first-last Acceptor (hs.challenge cy) (hs.challenge_said cy small-y)) refl [] (frame_of reply) (behind-last Acceptor (hs.challenge cy) (hs.challenge_said cy small-y)) replied (λ v e. does-challenge laws t.sx t.sy cx cy cookie hs v (end_id t.i) e) in
      let h2 = come-y laws w1 t replied challenged (sent (frame_of reply)) none-on 1 (suc n) 3 Any h1 (frame_of reply) refl (frame-long reply) refl in
      let h3 = take-y laws w2 t replied challenged (arrived (frame_of reply)) none-on 1 n 2 Any 0 h2 reply rs (first-last Dialler reply rs) (ap sender_in hs.replies) [] (frame_of ack) (behind-last Dialler reply rs) up (λ v e q. does-reply laws t.sx t.sy cx cy cookie hs v 0 (end_id t.j) e) in
      let h4 = come-x laws w3 t replied up none-on (sent (frame_of ack)) 1 n 1 Any h3 (frame_of ack) refl (frame-long ack) refl in
      let h5 = take-x laws w4 t replied up none-on (arrived (frame_of ack)) 0 n 0 Any 0 h4 ack as_ (first-last Acceptor ack as_) refl [] [] (behind-last Acceptor ack as_) (ends.Up (up-x laws t.sx t.sy cx cy cookie hs)) (λ v e. does-ack laws t.sx t.sy cx cy cookie hs v 0 (end_id t.i) e) in
      record { dialled = h5.dialled; accepted = h5.accepted; setups = h5.setups }

  pub ending-fits : AllFit ending
  ending-fits = (small-x, (tt, (omega arith, (tt, (omega arith, tt)))))

  pub ending-talks : AllTalk ending
  ending-talks = (inl refl, (inr refl, (inr refl, (inl refl, (inl refl, tt)))))
