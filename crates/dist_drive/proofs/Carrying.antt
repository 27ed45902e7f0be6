-- How a call goes on, and how it ends.
use Rattle.dist_drive.proofs.Words.{◌≡◌, ℕ, ◌+◌, ◌≤◌, Bool, true, false, ◌||◌, List, [], ◌∷◌, ◌++◌, map, length, take, drop, is_some, Some, None, Ok, Err, sym}
use Rattle.dist_drive.proofs.Words.{refl, ap, ◌∙◌, subst, inl, inr, append_assoc, append-nil, arith, take-append-drop, map-append, IsBytes, Linked, Reader}
use Rattle.dist_drive.proofs.Words.{Short, next_body, to_come, with_bytes, without_count, without_next, EndId, Why, StepError, StreamState, Hears, TurnError}
use Rattle.dist_drive.proofs.Words.{DeskFacts, IsOther, Step, event_of, last_reply, Carries, Course, Does, Finish, HandsOnAll, HasCause, IsFront, Start}
use Rattle.dist_drive.proofs.Words.{WritesAll, events_of, frames_of, is_of_end, is_of_failed_read, next_frame, text_of, whole_course, DrawsOneAtMost, Gives}
use Rattle.dist_drive.proofs.Words.{Goes, HandsOn, HearsPiece, Keeps, Place, Runs, TakesFrame, after_step, ending_of_refusal, ending_of_stream, own_why, Ending}
use Rattle.dist_drive.proofs.Keeping.{frames_are, next_is, next_none, keeps_next, keeps_rest, keeps_fed, keeps_noted, FrameLaws}
use Rattle.dist_drive.proofs.Shown.{same_length, events_one, does_step, does_read, no_mark, goes_on, shows, endings_are, not_refused, unheard_shows, ends_as}
use Rattle.dist_drive.proofs.Shown.{marks_since, reply_marks, hear_marks}
use Rattle.dist_drive.proofs.{Steps.last_pushed, Texts.IsFront-refl, Texts.IsFront-more, Texts.text_front, Texts.text_one, Texts.text_before}
use Rattle.dist_core_ends.specs.declared.phase.Still.TheVariants as still
use Rattle.dist_core_ends.specs.declared.why.Why.TheVariants as why
use Rattle.dist_core.specs.declared.event.Event.TheVariants as event
use Rattle.dist_core.specs.declared.step_error.StepError.TheVariants as error
use Rattle.dist_drive.specs.declared.outcome.Ending.TheVariants as ending

module _ (laws : FrameLaws) where
  -- what was handed on is a front of the frames of the call
  frames_front : (end_ : EndId) (input : List ℕ) (frames : List (List ℕ)) (steps : List Step) (r : Reader) → map event_of steps ≡ events_of end_ frames → Keeps input frames steps r → IsFront (map event_of steps) (events_of end_ (frames_of input steps))
  frames_front end_ input frames steps r e k =
      let are = frames_are laws input frames steps r (same_length end_ steps frames e) k in
      (events_of end_ (to_come r), ap (events_of end_) are ∙ map-append (event.Frame end_) frames (to_come r) ∙ ap (λ l. l ++ events_of end_ (to_come r)) (sym e))

  -- and all of them, where none is to come
  frames_all : (end_ : EndId) (input : List ℕ) (frames : List (List ℕ)) (steps : List Step) (r : Reader) → map event_of steps ≡ events_of end_ frames → Keeps input frames steps r → to_come r ≡ [] → map event_of steps ≡ events_of end_ (frames_of input steps)
  frames_all end_ input frames steps r e k none =
      let are = frames_are laws input frames steps r (same_length end_ steps frames e) k in
      e ∙ ap (events_of end_) (sym (are ∙ ap (λ l. frames ++ l) none ∙ append-nil frames))

-- the place at which a read leaves a call
abbrev pub read_to : {D W : Type 0} → Place D W → StreamState → ℕ → Place D W
read_to place stream left = record { stream = stream; left = left; desk = place.desk; draws = place.draws }

-- what a call leaves that ends at this place
abbrev pub finish_at : {D W : Type 0} → Place D W → Finish D W
finish_at place = record { stream = place.stream; desk = place.desk; draws = place.draws }

module _ (laws : FrameLaws) {D W : Type 0} (facts : DeskFacts D) (gives : Gives W) where
  -- what a call that is on its way at this place does, where all was sent
  abbrev pub course_at : (start : Start D W) (place : Place D W) (reader : Reader) → Runs facts gives start place reader → Course W
  course_at start place reader p = whole_course start.first p.input p.steps place.left place.draws

  -- where the call stops once all was sent
  pub carries : (start : Start D W) (place : Place D W) (reader : Reader) (drawn : W) (e : Ending) (p : Runs facts gives start place reader)
      → DrawsOneAtMost gives place.draws drawn
      → HasCause facts start (course_at start place reader p) (record { stream = place.stream; desk = place.desk; draws = drawn }) e
      → HandsOnAll e (map event_of p.steps ≡ events_of start.end_ (frames_of p.input p.steps))
      → WritesAll e place.stream (text_of start.first p.steps ≡ text_of start.first p.steps)
      → is_of_end e ≡ false
      → is_of_failed_read e ≡ false
      → Carries facts gives start (record { stream = place.stream; desk = place.desk; draws = drawn }) e
  carries start place reader drawn e p draws cause all written unended unfailed = record {
    course = course_at start place reader p;
    does = p.does;
    events = frames_front laws start.end_ p.input p.frames p.steps reader p.events p.keeps;
    all_events = all;
    draws_are = draws;
    cause = cause;
    text = IsFront-refl _;
    all_text = written;
    in_turn = λ i h. text_front start.first p.steps i;
    marks = record { ended = p.marks.ended ∙ ap (λ b. b || start.stream.ended) (sym unended); read_failed = p.marks.read_failed ∙ ap (λ b. b || start.stream.read_failed) (sym unfailed); write_failed = inl p.marks.write_failed };
  }

  -- memory ran out
  pub lacks : (start : Start D W) (place : Place D W) (reader : Reader) (drawn : W)
      → Runs facts gives start place reader → DrawsOneAtMost gives place.draws drawn
      → Carries facts gives start (record { stream = place.stream; desk = place.desk; draws = drawn }) (ending.Fault why.NoMemory)
  lacks start place reader drawn p draws = carries start place reader drawn (ending.Fault why.NoMemory) p draws tt tt refl refl refl

  -- the desk refused the next frame, for which a number was drawn
  gives_up : (start : Start D W) (place : Place D W) (reader : Reader) (drawn : W) (body : List ℕ) (n : ℕ) (e : StepError) → IsOther e
      → (p : Runs facts gives start place reader) → next_frame p.input p.steps ≡ Some body → gives place.draws n drawn → facts.refusal place.desk (event.Frame start.end_ body) n e
      → Carries facts gives start (record { stream = place.stream; desk = place.desk; draws = drawn }) (ending.Fault why.GaveUp)
  gives_up start place reader drawn body n e other p next draw h = carries start place reader drawn (ending.Fault why.GaveUp) p (inr (n, draw)) (e, other, (body, n, next, h)) tt refl refl refl

  pub refused : (start : Start D W) (place : Place D W) (reader : Reader) (drawn : W) (body : List ℕ) (n : ℕ) (e : StepError)
      → (p : Runs facts gives start place reader) → next_frame p.input p.steps ≡ Some body → gives place.draws n drawn → facts.refusal place.desk (event.Frame start.end_ body) n e
      → Carries facts gives start (record { stream = place.stream; desk = place.desk; draws = drawn }) (ending_of_refusal e)
  refused start place reader drawn body n (error.Gone w) p next draw h = carries start place reader drawn (ending.Gone w) p (inr (n, draw)) (inr (body, n, next, h)) tt refl refl refl
  refused start place reader drawn body n error.NoMemory p next draw h = lacks start place reader drawn p (inr (n, draw))
  refused start place reader drawn body n other p next draw h = gives_up start place reader drawn body n other tt p next draw h

  -- it was sent whole, and the call goes on
  pub runs_on : (start : Start D W) (before after : Place D W) (reader : Reader) (body : List ℕ) (up : Bool) (m : TakesFrame facts gives start.end_ body before after (Ok up))
      → Runs facts gives start before reader → next_body reader ≡ Some body → Runs facts gives start after (after_step up (without_next reader))
  runs_on start before after reader body up m p next =
      let says = goes_on (own_why start.end_ m.reply.closed) m.says.fault m.reply.say m.says.goes_on.0 m.says.says in
      let s : Step = (event.Frame start.end_ body, m.number, m.reply) in
      record {
        input = p.input;
        frames = p.frames ++ body ∷ [];
        steps = p.steps ++ s ∷ [];
        does = subst (λ (l : List ℕ). Does facts gives start (record { input = p.input; steps = p.steps ++ s ∷ []; output = l; left = after.left; draws = after.draws }) after.stream after.desk) (sym (text_one start.first p.steps s)) (does_step facts gives start before after p.input p.steps body m m.reply.say p.does says);
        events = events_one start.end_ p.steps p.frames body m.number m.reply p.events;
        marks = no_mark p.marks says.spends;
        keeps = keeps_next laws p.input p.frames p.steps s body reader up m.says.goes_on.1 next p.keeps;
      }

  -- the call ends after a reply
  pub cut : (start : Start D W) (before after : Place D W) (reader : Reader) (body : List ℕ) (e : Ending) (m : TakesFrame facts gives start.end_ body before after (Err e))
      → Runs facts gives start before reader → next_body reader ≡ Some body → Carries facts gives start (finish_at after) e
  cut start before after reader body e m p next =
      let says = m.says in
      let s : Step = (event.Frame start.end_ body, m.number, m.reply) in
      let part = take says.says.count m.reply.say in
      let keeps = keeps_next laws p.input p.frames p.steps s body reader (is_some m.reply.up) refl next p.keeps in
      let events = events_one start.end_ p.steps p.frames body m.number m.reply p.events in
      let all : text_of start.first (p.steps ++ s ∷ []) ≡ text_of start.first p.steps ++ m.reply.say = text_one start.first p.steps s in
      let course : Course W = record { input = p.input; steps = p.steps ++ s ∷ []; output = text_of start.first p.steps ++ part; left = after.left; draws = after.draws } in
      let shown = shows facts start course (finish_at after) m.reply (map event_of (p.steps ++ s ∷ []) ≡ events_of start.end_ (frames_of p.input (p.steps ++ s ∷ []))) (text_of start.first p.steps) says.fault e says.says (says.ends e refl) in
      record {
        course = course;
        does = does_step facts gives start before after p.input p.steps body m part p.does says.says.says;
        events = frames_front laws start.end_ p.input (p.frames ++ body ∷ []) (p.steps ++ s ∷ []) _ events keeps;
        all_events = shown.all;
        draws_are = inl refl;
        cause = shown.cause (last_pushed p.steps s);
        text = (drop says.says.count m.reply.say, all ∙ ap (λ l. text_of start.first p.steps ++ l) (sym (take-append-drop says.says.count m.reply.say)) ∙ sym (append_assoc (text_of start.first p.steps) part (drop says.says.count m.reply.say)));
        all_text = subst (λ (l : List ℕ). WritesAll e after.stream (text_of start.first p.steps ++ part ≡ l)) (sym all) shown.whole;
        in_turn = λ i h. text_before start.first p.steps s (text_of start.first p.steps ++ part) i h (IsFront-more _ _);
        marks = marks_since e p.marks (reply_marks (own_why start.end_ m.reply.closed) says.fault e m.reply.say says.says (says.ends e refl));
      }

  -- the desk refused the frame, or it was handed on and not sent whole
  pub stops : (start : Start D W) (before after : Place D W) (reader : Reader) (body : List ℕ) (e : Ending)
      → Runs facts gives start before reader → next_body reader ≡ Some body → HandsOn facts gives start.end_ body before after (Err e)
      → Carries facts gives start (finish_at after) e
  stops start before after reader body e p next (inl h) =
      let same = endings_are e (ending_of_refusal h.error) h.result_is in
      let named = next_is laws p.input p.frames p.steps reader body (same_length start.end_ p.steps p.frames p.events) next p.keeps in
      let here = refused start before reader after.draws body h.number h.error p named h.number_is h.refusal in
      let P = λ (x : StreamState × D × Ending). Carries facts gives start (record { stream = x.0; desk = x.1; draws = after.draws }) x.2 in
      subst P (λ i. (sym h.stream_is i, sym h.desk_is i, same i)) here
  stops start before after reader body e p next (inr h) = cut start before after reader body e h p next

  -- it was handed on and sent whole
  pub moves_on : (start : Start D W) (before after : Place D W) (reader : Reader) (body : List ℕ) (up : Bool)
      → Runs facts gives start before reader → next_body reader ≡ Some body → HandsOn facts gives start.end_ body before after (Ok up)
      → Runs facts gives start after (after_step up (without_next reader))
  moves_on start before after reader body up p next (inl h) = absurd (not_refused up (ending_of_refusal h.error) h.result_is)
  moves_on start before after reader body up p next (inr h) = runs_on start before after reader body up h p next

  -- the frame brought the end up, and the reader holds what stood behind it
  rises : (start : Start D W) (before after : Place D W) (reader : Reader) (body : List ℕ) (m : TakesFrame facts gives start.end_ body before after (Ok true))
      → Runs facts gives start before reader → next_body reader ≡ Some body → Goes facts gives start after (without_next reader) true
  unfolding runs_on
  rises start before after (Short pending) body m p next =
      record {
        runs = runs_on start before after (Short pending) body true m p next;
        rest = λ h. keeps_rest laws p.input p.frames p.steps (event.Frame start.end_ body, m.number, m.reply) body pending m.says.goes_on.1 next p.keeps;
        newest = λ h. (m.reply, ap last_reply m.list_is ∙ last_pushed (facts.list before.desk) (event.Frame start.end_ body, m.number, m.reply), sym m.says.goes_on.1);
      }
  rises start before after (Linked ended rest) body m p next = absurd cc

  pub rises_on : (start : Start D W) (before after : Place D W) (reader holds : Reader) (body : List ℕ) (up : Bool)
      → Runs facts gives start before reader → next_body reader ≡ Some body → HandsOn facts gives start.end_ body before after (Ok up) → up ≡ true → holds ≡ without_next reader
      → Goes facts gives start after holds true
  rises_on start before after reader holds body true p next (inl h) yes' same = absurd (not_refused true (ending_of_refusal h.error) h.result_is)
  rises_on start before after reader holds body true p next (inr h) yes' same = subst (λ x. Goes facts gives start after x true) (sym same) (rises start before after reader body h p next)
  rises_on start before after reader holds body false p next h yes' same = absurd cc

  -- the desk reports that the end is gone
  pub gone : (start : Start D W) (place : Place D W) (reader : Reader) (w : Why)
      → Runs facts gives start place reader → to_come reader ≡ [] → facts.standing place.desk start.end_ (still.Gone w)
      → Carries facts gives start (finish_at place) (ending.Gone w)
  gone start place reader w p none h =
      let last = next_none laws p.input p.frames p.steps reader (same_length start.end_ p.steps p.frames p.events) none p.keeps in
      carries start place reader place.draws (ending.Gone w) p (inl refl) (inl (h, last)) tt refl refl refl

  -- a piece came to the reader
  pub hears_on : (start : Start D W) (place : Place D W) (stream : StreamState) (left : ℕ) (reader : Reader) (piece : List ℕ)
      → Runs facts gives start place reader → Hears place.stream stream place.left left None piece → IsBytes piece → length piece ≤ 4096 → place.left ≡ left + 1
      → Runs facts gives start (read_to place stream left) (without_count (with_bytes reader piece))
  hears_on start place stream left reader piece p hears bytes small turn =
      record {
        input = p.input ++ piece;
        frames = p.frames;
        steps = p.steps;
        does = does_read facts gives start place stream left p.input piece p.steps p.does hears (omega (arith, turn, small));
        events = p.events;
        marks = no_mark p.marks hears.spends;
        keeps = keeps_noted (p.input ++ piece) p.frames p.steps (with_bytes reader piece) (keeps_fed laws p.input piece p.frames p.steps reader bytes p.keeps);
      }

  -- the read was refused
  pub unheard : (start : Start D W) (place : Place D W) (stream : StreamState) (left : ℕ) (reader : Reader) (error : TurnError)
      → Runs facts gives start place reader → to_come reader ≡ [] → Hears place.stream stream place.left left (Some error) []
      → Carries facts gives start (finish_at (read_to place stream left)) (ending_of_stream error)
  unheard start place stream left reader error p none hears =
      let all : map event_of p.steps ≡ events_of start.end_ (frames_of p.input p.steps) = frames_all laws start.end_ p.input p.frames p.steps reader p.events p.keeps none in
      let course : Course W = whole_course start.first p.input p.steps left place.draws in
      let shown = unheard_shows facts start course (finish_at (read_to place stream left)) error (map event_of p.steps ≡ events_of start.end_ (frames_of p.input p.steps)) (text_of start.first p.steps) all hears in
      record {
        course = course;
        does = subst (λ (l : List ℕ). Does facts gives start (whole_course start.first l p.steps left place.draws) stream place.desk) (append-nil p.input) (does_read facts gives start place stream left p.input [] p.steps p.does hears (omega arith));
        events = frames_front laws start.end_ p.input p.frames p.steps reader p.events p.keeps;
        all_events = shown.all;
        draws_are = inl refl;
        cause = shown.cause;
        text = IsFront-refl _;
        all_text = shown.whole;
        in_turn = λ i h. text_front start.first p.steps i;
        marks = marks_since (ending_of_stream error) p.marks (hear_marks error hears);
      }

  -- no piece came to the reader
  pub piece_ends : (start : Start D W) (place : Place D W) (stream : StreamState) (left : ℕ) (reader holds : Reader) (e : Ending)
      → Runs facts gives start place reader → to_come reader ≡ [] → HearsPiece place.stream stream place.left left reader holds (Err e)
      → Carries facts gives start (finish_at (read_to place stream left)) e
  piece_ends start place stream left reader holds e p none (inl h) =
      let P : Ending → Type 0 = λ x. Carries facts gives start (finish_at (read_to place stream left)) x in
      subst P (endings_are e (ending_of_stream h.error) h.ends) (unheard start place stream left reader h.error p none h.hears)
  piece_ends start place stream left reader holds e p none (inr h) =
      let P : Ending → Type 0 = λ x. Carries facts gives start (finish_at (read_to place stream left)) x in
      subst P (sym h.ends) (lacks start (read_to place stream left) (without_count (with_bytes reader h.piece)) place.draws (hears_on start place stream left reader h.piece p h.hears h.bytes h.small h.turn) (inl refl))

  -- one came
  pub piece_comes : (start : Start D W) (place : Place D W) (stream : StreamState) (left : ℕ) (reader holds : Reader) (x : Unit {0})
      → HearsPiece place.stream stream place.left left reader holds (Ok x) → Runs facts gives start place reader → Runs facts gives start (read_to place stream left) holds
  piece_comes start place stream left reader holds x (inl h) p = absurd (let e : Ok x ≡ ends_as {X = Unit {0}} (ending_of_stream h.error) = h.ends in cc)
  piece_comes start place stream left reader holds x (inr h) p =
      subst (λ (q : Reader). Runs facts gives start (read_to place stream left) q) (sym h.holds_is) (hears_on start place stream left reader h.piece p h.hears h.bytes h.small h.turn)
