-- What a call shows on its way and where it ends: what was handed on, sent and counted.
use Rattle.dist_drive.proofs.Words.{◌≡◌, ℕ, ◌+◌, ◌-◌, ◌*◌, ◌<◌, ◌≤◌, Bool, true, false, ◌||◌, eqb, ◌⊎◌, List, [], ◌∷◌, ◌++◌, map, length, take, drop, IsErrAnd}
use Rattle.dist_drive.proofs.Words.{IfErr, if◌then◌else◌, OnOk, OnErr, Some, None, Ok, Err, Option, Result, sym, refl, ap, ◌∙◌, subst, inl, inr, ⊎_elim}
use Rattle.dist_drive.proofs.Words.{append_assoc, append-nil, arith, length-append, take-append-drop, eqb-true, prepend_known-nil, take-length, length-map}
use Rattle.dist_drive.proofs.Words.{map-append, Accounts, Short, EndId, Why, IsGone, Reply, StepError, StreamState, Hears, IsWriteFault, Rises, Says, SaysFront}
use Rattle.dist_drive.proofs.Words.{Spends, TurnError, DeskFacts, Step, event_of, last_reply, number_of, Carries, Course, Does, Finish, HandsOnAll, HasCause}
use Rattle.dist_drive.proofs.Words.{LeavesUnread, Marks, ReportsLoss, SetsNoMark, Start, WritesAll, events_of, frames_of, is_of_end, is_of_failed_read, text_of}
use Rattle.dist_drive.proofs.Words.{whole_course, DrawsAll, Gives, HandsOn, Place, Runs, SaysReply, TakesFrame, after_reply, ending_of_stream, own_why, Ending}
use Rattle.dist_drive.proofs.Keeping.{keeps_none}
use Rattle.std.specs.Io.KnownBytes.{append_known, prepend_known}
use Rattle.dist_core_ends.specs.declared.why.Why.TheVariants as why
use Rattle.dist_core.specs.declared.event.Event.TheVariants as event
use Rattle.dist_stream.specs.declared.turn_error.TurnError.TheVariants as fault
use Rattle.dist_stream.proofs.Talks.{append_known-append, prepend_known-append, Rises-trans}
use Rattle.dist_drive.specs.declared.outcome.Ending.TheVariants as ending

pub says_as : {end_ : EndId} {old new : StreamState} {turns left : ℕ} {result : Result Bool Ending} (r q : Reply) → r ≡ q → SaysReply end_ r old new turns left result → SaysReply end_ q old new turns left result
says_as {end_ = end_} {old = old} {new = new} {turns = turns} {left = left} {result = result} r q e p = subst (λ (x : Reply). SaysReply end_ x old new turns left result) e p

pub same_length : (end_ : EndId) (steps : List Step) (handed : List (List ℕ)) → map event_of steps ≡ events_of end_ handed → length handed ≡ length steps
same_length end_ steps handed e =
    let same : length (map event_of steps) ≡ length (events_of end_ handed) = ap length e in
    omega (arith, same, length-map steps event_of, length-map handed (event.Frame end_))

pub draws_push : {W : Type 0} (gives : Gives W) (w : W) (ns : List ℕ) (v u : W) (n : ℕ) → DrawsAll gives w ns v → gives v n u → DrawsAll gives w (ns ++ n ∷ []) u
draws_push gives w [] v u n e g = (u, subst (λ x. gives x n u) (sym e) g, refl)
draws_push gives w (m ∷ ns) v u n (next, g, more) h = (next, g, draws_push gives next ns v u n more h)

-- in more turns no less may be read
pub pieces_on : (n limit turns left : ℕ) → left ≤ turns → n ≤ 4096 * (limit - turns) → n ≤ 4096 * (limit - left)
pieces_on n limit turns left fewer h = omega (arith, fewer, h)

-- in these turns this piece more
pub pieces_more : (heard piece : List ℕ) (limit turns left : ℕ) → turns ≤ limit → left ≤ turns → length piece ≤ 4096 * (turns - left) → length heard ≤ 4096 * (limit - turns) → length (heard ++ piece) ≤ 4096 * (limit - left)
pieces_more heard piece limit turns left within fewer small h = omega (arith, length-append heard piece, within, fewer, small, h)

-- this many calls were made, in this many turns
pub record Spent (limit left old new : ℕ) : Type 0 where
  pub within : left ≤ limit
  pub calls : Rises (limit - left) old new

pub spent : {mid new : StreamState} {noted : Option TurnError} (before limit turns left : ℕ) → turns ≤ limit → Rises (limit - turns) before mid.calls → Spends mid new turns left noted → Spent limit left before new.calls
spent {mid = mid} {new = new} before limit turns left within calls s =
    let fewer : left ≤ turns = s.within in
    record { within = omega (arith, within, fewer); calls = Rises-trans (limit - turns) (turns - left) (limit - left) before mid.calls new.calls (omega (arith, within, fewer)) calls s.calls }

-- the steps, their events and their numbers, with one more
pub events_one : (end_ : EndId) (steps : List Step) (handed : List (List ℕ)) (body : List ℕ) (n : ℕ) (reply : Reply) → map event_of steps ≡ events_of end_ handed → map event_of (steps ++ (event.Frame end_ body, n, reply) ∷ []) ≡ events_of end_ (handed ++ body ∷ [])
events_one end_ steps handed body n reply e =
    map-append event_of steps ((event.Frame end_ body, n, reply) ∷ [])
    ∙ ap (λ l. l ++ event.Frame end_ body ∷ []) e
    ∙ sym (map-append (event.Frame end_) handed (body ∷ []))

pub numbers_one : {W : Type 0} (gives : Gives W) (w : W) (steps : List Step) (v u : W) (s : Step) → DrawsAll gives w (map number_of steps) v → gives v s.1 u → DrawsAll gives w (map number_of (steps ++ s ∷ [])) u
numbers_one gives w steps v u s p g = subst (λ (l : List ℕ). DrawsAll gives w l u) (sym (map-append number_of steps (s ∷ []))) (draws_push gives w (map number_of steps) v u s.1 p g)

pub list_one : (start before after steps : List Step) (s : Step) → before ≡ start ++ steps → after ≡ before ++ s ∷ [] → after ≡ start ++ (steps ++ s ∷ [])
list_one start before after steps s e h = h ∙ ap (λ l. l ++ s ∷ []) e ∙ append_assoc start steps (s ∷ [])

pub whole_reply : {old new : StreamState} {turns left : ℕ} (text : List ℕ) → SaysFront old new turns left None text → Says old new turns left None text
whole_reply {old = old} {new = new} {turns = turns} {left = left} text p =
    let all : take p.count text ≡ text = ap (λ n. take n text) p.whole ∙ take-length text in
    subst (λ (l : List ℕ). Says old new turns left None l) all p.says

-- where the call goes on, all was sent
pub goes_on : {old new : StreamState} {turns left : ℕ} (own : Option Why) (noted : Option TurnError) (text : List ℕ) → after_reply own noted ≡ Ok tt → SaysFront old new turns left noted text → Says old new turns left None text
goes_on own None text e p = whole_reply text p
goes_on own (Some fault.Limit) text e p = absurd cc
goes_on (Some w) _ text e p = absurd cc
goes_on None _ text e p = absurd cc

abbrev pub ends_as : {X : Type 0} → Ending → Result X Ending
ends_as e = Err e

-- where there is no fault no mark is set
pub no_mark : {start old new : StreamState} {turns left : ℕ} → SetsNoMark start old → Spends old new turns left None → SetsNoMark start new
no_mark none s = record { ended = s.ended ∙ none.ended; read_failed = s.read_failed ∙ none.read_failed; write_failed = s.write_failed ∙ none.write_failed }

-- the marks that a call set since it began
pub marks_since : (e : Ending) {start mid new : StreamState} → SetsNoMark start mid → Marks e mid new → Marks e start new
marks_since e none m = record {
  ended = m.ended ∙ ap (λ b. is_of_end e || b) none.ended;
  read_failed = m.read_failed ∙ ap (λ b. is_of_failed_read e || b) none.read_failed;
  write_failed = ⊎_elim (λ h. inl (h ∙ none.write_failed)) (λ h. inr h) m.write_failed;
}

-- how a call ends after a reply: the turns were spent, the reply closed the end and was sent or not, or it could not be sent
by_reply : (P : Option Why → Option TurnError → Ending → Type 0) → ((own : Option Why) → P own (Some fault.Limit) ending.Limit)
    → ((w : Why) → P (Some w) (Some fault.WriteFailed) (ending.Shut w)) → ((w : Why) → P (Some w) None (ending.Shut w)) → P None (Some fault.WriteFailed) (ending.Fault why.WriteFailed)
    → (own : Option Why) (noted : Option TurnError) (e : Ending) → IsWriteFault noted → after_reply own noted ≡ Err e → P own noted e
by_reply P limit cut shut failed own (Some fault.Limit) e f h = let same : ending.Limit ≡ e = cc in subst (P own (Some fault.Limit)) same (limit own)
by_reply P limit cut shut failed (Some w) (Some fault.WriteFailed) e f h = let same : ending.Shut w ≡ e = cc in subst (P (Some w) (Some fault.WriteFailed)) same (cut w)
by_reply P limit cut shut failed (Some w) None e f h = let same : ending.Shut w ≡ e = cc in subst (P (Some w) None) same (shut w)
by_reply P limit cut shut failed None (Some fault.WriteFailed) e f h = let same : ending.Fault why.WriteFailed ≡ e = cc in subst (P None (Some fault.WriteFailed)) same failed
by_reply P limit cut shut failed None None e f h = absurd cc
by_reply P limit cut shut failed own _ e f h = absurd f

pub reply_marks : {old new : StreamState} {turns left : ℕ} (own : Option Why) (noted : Option TurnError) (e : Ending) (text : List ℕ) → SaysFront old new turns left noted text → after_reply own noted ≡ Err e → Marks e old new
reply_marks {old = old} {new = new} {turns = turns} {left = left} own noted e text p h =
    by_reply (λ o n x. SaysFront old new turns left n text → Marks x old new)
    (λ o q. record { ended = q.says.spends.ended; read_failed = q.says.spends.read_failed; write_failed = inl q.says.spends.write_failed })
    (λ w q. record { ended = q.says.spends.ended; read_failed = q.says.spends.read_failed; write_failed = inr tt })
    (λ w q. record { ended = q.says.spends.ended; read_failed = q.says.spends.read_failed; write_failed = inr tt })
    (λ q. record { ended = q.says.spends.ended; read_failed = q.says.spends.read_failed; write_failed = inr tt })
    own noted e p.says.fault_is h p

-- after a read that was refused
pub hear_marks : {old new : StreamState} {turns left : ℕ} (error : TurnError) → Hears old new turns left (Some error) [] → Marks (ending_of_stream error) old new
hear_marks fault.WriteFailed p = absurd p.fault_is
hear_marks _ p = record { ended = p.spends.ended; read_failed = p.spends.read_failed; write_failed = inl p.spends.write_failed }

-- where the first words were not written whole
pub first_marks : {old new : StreamState} {turns left : ℕ} (error : TurnError) (first : List ℕ) → SaysFront old new turns left (Some error) first → Marks (ending_of_stream error) old new
first_marks fault.Limit first p = record { ended = p.says.spends.ended; read_failed = p.says.spends.read_failed; write_failed = inl p.says.spends.write_failed }
first_marks fault.WriteFailed first p = record { ended = p.says.spends.ended; read_failed = p.says.spends.read_failed; write_failed = inr tt }
first_marks _ first p = absurd p.says.fault_is

-- where the desk reports that the end is gone nothing was read
pub gone_unread : (first : List ℕ) (start mid new : StreamState) (w : Why) (e : Ending) → ends_as {X = Bool} e ≡ ends_as (ending.Gone w) → new ≡ mid → (mid.unread ≡ start.unread) × (mid.ended ≡ start.ended) × (mid.read_failed ≡ start.read_failed) → LeavesUnread first start new e
gone_unread first start mid new w e is same kept =
    let noted : ending.Gone w ≡ e = cc in
    subst (λ (x : Ending). LeavesUnread first start new x) noted (record { unread = ap (λ s. s.unread) same ∙ kept.0; ended = ap (λ s. s.ended) same ∙ kept.1; read_failed = ap (λ s. s.read_failed) same ∙ kept.2; ending_is = tt })

pub own_is : (end_ : EndId) (closed : Option (EndId × Why)) (w : Why) → own_why end_ closed ≡ Some w → closed ≡ Some (end_, w)
own_is end_ None w e = absurd cc
own_is end_ (Some x) w e =
    elim (eqb x.0.0 end_.0) as (λ b. eqb x.0.0 end_.0 ≡ b → (if b then Some x.1 else None) ≡ Some w → Some x ≡ Some (end_, w)) [
      | true ↦ λ same is.
          let number : x.0.0 ≡ end_.0 = eqb-true x.0.0 end_.0 same in
          let why : x.1 ≡ w = cc in
          λ i. Some (record { 0 = number i }, why i)
      | false ↦ λ same is. absurd cc
    ] refl e

module _ {D W : Type 0} (facts : DeskFacts D) (start : Start D W) (course : Course W) (finish : Finish D W) where
  -- what the ending shows
  pub record Shows (Handed Said : Type 0) (e : Ending) : Type 0 where
    pub all : HandsOnAll e Handed
    pub whole : WritesAll e finish.stream Said
    pub cause : HasCause facts start course finish e

  -- after a reply, of which a part was sent
  pub record ShowsEnd (reply : Reply) (part : List ℕ) (Handed : Type 0) (before : List ℕ) (e : Ending) : Type 0 where
    pub all : HandsOnAll e Handed
    pub whole : WritesAll e finish.stream (before ++ part ≡ before ++ reply.say)
    pub cause : last_reply course.steps ≡ Some reply → HasCause facts start course finish e

  pub shows : (reply : Reply) {old : StreamState} {turns : ℕ} (Handed : Type 0) (before : List ℕ) (noted : Option TurnError) (e : Ending)
      → (p : SaysFront old finish.stream turns course.left noted reply.say) → after_reply (own_why start.end_ reply.closed) noted ≡ Err e
      → ShowsEnd reply (take p.count reply.say) Handed before e
  shows reply {old = old} {turns = turns} Handed before noted e p h =
      by_reply (λ o n x. own_why start.end_ reply.closed ≡ o → (q : SaysFront old finish.stream turns course.left n reply.say) → ShowsEnd reply (take q.count reply.say) Handed before x)
      (λ o is q. record { all = tt; whole = tt; cause = λ newest. q.says.spends.cause })
      (λ w is q. record { all = tt; whole = inl q.says.spends.write_failed; cause = λ newest. (reply, newest, own_is start.end_ reply.closed w is) })
      (λ w is q. record { all = tt; whole = inr (ap (λ n. before ++ take n reply.say) q.whole ∙ ap (λ l. before ++ l) (take-length reply.say)); cause = λ newest. (reply, newest, own_is start.end_ reply.closed w is) })
      (λ is q. record { all = tt; whole = tt; cause = λ newest. q.says.spends.write_failed })
      (own_why start.end_ reply.closed) noted e p.says.fault_is h refl p

  -- after a read that was refused
  pub unheard_shows : {old : StreamState} {turns : ℕ} (error : TurnError) (All : Type 0) (text : List ℕ) → All → Hears old finish.stream turns course.left (Some error) [] → Shows All (text ≡ text) (ending_of_stream error)
  unheard_shows fault.Limit All text all hears = record { all = tt; whole = tt; cause = hears.spends.cause }
  unheard_shows fault.Ended All text all hears = record { all = all; whole = refl; cause = (hears.spends.ended, hears.spends.cause) }
  unheard_shows fault.ReadFailed All text all hears = record { all = all; whole = refl; cause = hears.spends.read_failed }
  unheard_shows fault.WriteFailed All text all hears = absurd hears.fault_is

  -- where the first words were not written whole
  pub first_shows : {turns : ℕ} {All Said : Type 0} (error : TurnError) → SaysFront start.stream finish.stream turns course.left (Some error) start.first → Shows All Said (ending_of_stream error)
  first_shows fault.Limit p = record { all = tt; whole = tt; cause = p.says.spends.cause }
  first_shows fault.WriteFailed p = record { all = tt; whole = tt; cause = p.says.spends.write_failed }
  first_shows _ p = absurd p.says.fault_is

pub endings_are : {X : Type 0} (e f : Ending) → ends_as {X = X} e ≡ ends_as f → f ≡ e
endings_are e f h = cc

pub not_refused : (up : Bool) (e : Ending) → Ok up ≡ Err e → ⊥
not_refused up e h = cc

-- what an exit by `?` returns
pub at_err : {X : Type 0} (P : Ending → Type 0) (r : Result X Ending) (e : Ending) → IsErrAnd r (λ y. y ≡ e) → P e → IfErr r P
at_err P (Ok x) e h p = absurd h
at_err P (Err y) e h p = subst P (sym h) p

pub at_end : {D W : Type 0} (facts : DeskFacts D) (gives : Gives W) (end_ other : EndId) (body : List ℕ) (before after : Place D W) (result : Result Bool Ending) → other ≡ end_ → HandsOn facts gives end_ body before after result → HandsOn facts gives other body before after result
at_end facts gives end_ other body before after result e h = subst (λ (x : EndId). HandsOn facts gives x body before after result) (sym e) h

-- ---- what a call does, step by step

module _ {D W : Type 0} (facts : DeskFacts D) (gives : Gives W) (start : Start D W) where
  -- a part of the first words is written
  pub does_first : (stream : StreamState) (left : ℕ) {noted : Option TurnError} (part : List ℕ) → Says start.stream stream start.limit left noted part
      → Does facts gives start (record { input = []; steps = []; output = part; left = left; draws = start.draws }) stream start.desk
  does_first stream left part says = record {
    input_is = sym (prepend_known-nil start.stream.unread) ∙ ap (prepend_known []) (sym says.unread);
    output_is = says.written;
    list_is = sym (append-nil (facts.list start.desk));
    numbers = refl;
    within = says.spends.within;
    turns = says.spends.calls;
    pieces = (let none : 0 ≤ 4096 * (start.limit - left) = omega arith in none);
  }

  -- a frame is handed on, and a part of its reply is written
  pub does_step : (before after : Place D W) (input : List ℕ) (steps : List Step) (body : List ℕ) {result : Result Bool Ending} (m : TakesFrame facts gives start.end_ body before after result) {noted : Option TurnError} (part : List ℕ)
      → Does facts gives start (whole_course start.first input steps before.left before.draws) before.stream before.desk
      → Says before.stream after.stream before.left after.left noted part
      → Does facts gives start (record { input = input; steps = steps ++ (event.Frame start.end_ body, m.number, m.reply) ∷ []; output = text_of start.first steps ++ part; left = after.left; draws = after.draws }) after.stream after.desk
  does_step before after input steps body m part p says =
      let s : Step = (event.Frame start.end_ body, m.number, m.reply) in
      let made = spent start.stream.calls start.limit before.left after.left p.within p.turns says.spends in
      record {
        input_is = p.input_is ∙ ap (prepend_known input) (sym says.unread);
        output_is = says.written ∙ ap (λ known. append_known known part) p.output_is ∙ append_known-append start.stream.written (text_of start.first steps) part;
        list_is = list_one (facts.list start.desk) (facts.list before.desk) (facts.list after.desk) steps s p.list_is m.list_is;
        numbers = numbers_one gives start.draws steps before.draws after.draws s p.numbers m.number_is;
        within = made.within;
        turns = made.calls;
        pieces = pieces_on (length input) start.limit before.left after.left says.spends.within p.pieces;
      }

  -- a piece is read
  pub does_read : (place : Place D W) (stream : StreamState) (left : ℕ) (input piece : List ℕ) (steps : List Step) {noted : Option TurnError}
      → Does facts gives start (whole_course start.first input steps place.left place.draws) place.stream place.desk
      → Hears place.stream stream place.left left noted piece → length piece ≤ 4096 * (place.left - left)
      → Does facts gives start (whole_course start.first (input ++ piece) steps left place.draws) stream place.desk
  does_read place stream left input piece steps p hears small =
      let made = spent start.stream.calls start.limit place.left left p.within p.turns hears.spends in
      record {
        input_is = p.input_is ∙ ap (prepend_known input) hears.unread ∙ prepend_known-append stream.unread input piece;
        output_is = hears.written ∙ p.output_is;
        list_is = p.list_is;
        numbers = p.numbers;
        within = made.within;
        turns = made.calls;
        pieces = pieces_more input piece start.limit place.left left p.within hears.spends.within small p.pieces;
      }

-- the first words were not written whole
pub first_cut : {D W : Type 0} (facts : DeskFacts D) (gives : Gives W) (start : Start D W) (stream : StreamState) (left : ℕ) (error : TurnError)
    → SaysFront start.stream stream start.limit left (Some error) start.first
    → Carries facts gives start (record { stream = stream; desk = start.desk; draws = start.draws }) (ending_of_stream error)
first_cut {D = D} {W = W} facts gives start stream left error p =
    let course : Course W = record { input = []; steps = []; output = take p.count start.first; left = left; draws = start.draws } in
    let finish : Finish D W = record { stream = stream; desk = start.desk; draws = start.draws } in
    let shown = first_shows facts start course finish error p in
    record {
      course = course;
      does = does_first facts gives start stream left (take p.count start.first) p.says;
      events = (events_of start.end_ (frames_of [] []), refl);
      all_events = shown.all;
      draws_are = inl refl;
      cause = shown.cause;
      text = (drop p.count start.first, append-nil start.first ∙ sym (take-append-drop p.count start.first));
      all_text = shown.whole;
      in_turn = λ i h. absurd (let none : i < 0 = h in omega (arith, none));
      marks = first_marks error start.first p;
    }

-- they were
pub begins_so : {D W : Type 0} → Accounts [] [] [] → (facts : DeskFacts D) (gives : Gives W) (start : Start D W) (stream : StreamState) (left : ℕ)
    → SaysFront start.stream stream start.limit left None start.first
    → Runs facts gives start (record { stream = stream; left = left; desk = start.desk; draws = start.draws }) (Short [])
begins_so none facts gives start stream left p =
    let says = whole_reply start.first p in
    record {
      input = [];
      frames = [];
      steps = [];
      does = subst (λ (l : List ℕ). Does facts gives start (record { input = []; steps = []; output = l; left = left; draws = start.draws }) stream start.desk) (sym (append-nil start.first)) (does_first facts gives start stream left start.first says);
      events = refl;
      marks = record { ended = says.spends.ended; read_failed = says.spends.read_failed; write_failed = says.spends.write_failed };
      keeps = keeps_none none;
    }

-- the loss was reported, or the end was gone or unknown by then
pub notes : {D : Type 0} (facts : DeskFacts D) (end_ : EndId) (before after : D) (w : Why) (r : Result (Unit {0}) StepError)
    → OnOk r ((reply : Reply) × (facts.list after ≡ facts.list before ++ (event.Lost end_ w, 0, reply) ∷ []))
    → OnErr r (after ≡ before)
    → IfErr r (λ e. facts.refusal before (event.Lost end_ w) 0 e)
    → IfErr r IsGone
    → (losses : List Step) × (facts.list after ≡ facts.list before ++ losses) × ReportsLoss facts end_ before (ending.Fault w) losses
notes facts end_ before after w (Ok x) (reply, list) same why gone = ((event.Lost end_ w, 0, reply) ∷ [], list, inl (reply, refl))
notes facts end_ before after w (Err e) made same why gone = ([], ap facts.list same ∙ sym (append-nil (facts.list before)), inr (refl, (e, why, gone)))

pub ok_so : {X E : Type 0} {P : Type 0} (r : Result X E) → P → OnOk r P
ok_so (Ok x) p = p
ok_so (Err e) p = tt
