-- One question, put together from what was written and what was read.
use Rattle.dist_epmd_calls.proofs.Words.{◌≡◌, ℕ, ◌≤◌, false, ltb, List, [], ◌++◌, length, take, drop, IsErrAnd, IsOk, Some, None, Ok, Err, Option, Result, sym}
use Rattle.dist_epmd_calls.proofs.Words.{refl, ap, ◌∙◌, subst, inl, inr, append-nil, le_refl, take-append-drop, take_all, w16, prepend_known-nil, cond-false}
use Rattle.dist_epmd_calls.proofs.Words.{body_frame, StreamState, Hears, IsWriteFault, Says, SaysFront, TurnError, Spends-none, Spends-trans, append_known-none}
use Rattle.dist_epmd_calls.proofs.Words.{request_text, written_request, read_answer, EpmdError, Request, Asks, AsksFor, IfItFits, ReportsBy, Settles, Talks}
use Rattle.dist_epmd_calls.proofs.Words.{question_of, lookup_error, HearsSo, IsFrameOf, LookupError}
use Rattle.dist_stream.specs.declared.turn_error.TurnError.TheVariants as fault
use Rattle.dist_epmd.specs.declared.epmd_error.EpmdError.TheVariants as epmd
use Rattle.dist_epmd_calls.specs.declared.lookup_error.LookupError.TheVariants as error

-- what an exit by `?` returns
pub reported : {X E : Type 0} {r : Result X E} {e : E} → IsErrAnd r (λ y. y ≡ e) → r ≡ Err e
reported {r = Ok x} h = absurd h
reported {r = Err y} h = ap Err h

-- ---- what was written

pub whole_front : (n : ℕ) (text : List ℕ) → n ≡ length text → take n text ≡ text
whole_front n text e = take_all n text (subst (λ (k : ℕ). length text ≤ k) (sym e) (le_refl (length text)))

pub all_said : {old new : StreamState} {turns left : ℕ} {text : List ℕ} → SaysFront old new turns left None text → Says old new turns left None text
all_said {text = text} p = subst (Says _ _ _ _ None) (whole_front p.count text p.whole) p.says

-- ---- the talk

pub nothing_said : (s : StreamState) (turns : ℕ) (frame : List ℕ) → Talks s s turns None frame [] []
nothing_said s turns frame = record {
  unsaid = frame;
  front = refl;
  first = inr refl;
  written = sym (append_known-none s.written);
  unread = sym (prepend_known-nil s.unread);
  left = turns;
  spends = Spends-none s turns;
}

pub said_in_part : {old new : StreamState} {turns left : ℕ} {stop : Option TurnError} {frame : List ℕ} (n : ℕ) → Says old new turns left stop (take n frame) → Talks old new turns stop frame (take n frame) []
said_in_part {new = new} {left = left} {frame = frame} n p = record {
  unsaid = drop n frame;
  front = sym (take-append-drop n frame);
  first = inr refl;
  written = p.written;
  unread = sym p.unread ∙ sym (prepend_known-nil new.unread);
  left = left;
  spends = p.spends;
}

pub said_and_heard : {old mid new : StreamState} {turns between left : ℕ} {stop : Option TurnError} {frame heard : List ℕ} → Says old mid turns between None frame → Hears mid new between left stop heard → Talks old new turns stop frame frame heard
said_and_heard {left = left} {frame = frame} p q = record {
  unsaid = [];
  front = sym (append-nil frame);
  first = inl refl;
  written = q.written ∙ p.written;
  unread = sym p.unread ∙ q.unread;
  left = left;
  spends = Spends-trans p.spends q.spends;
}

-- ---- one exchange

cut_write : (X : Type 0) (e : TurnError) → IsWriteFault (Some e) → (AtEnd : Type 0) → ReportsBy {X = X} (Some e) (Err (lookup_error e)) AtEnd
cut_write X fault.WriteFailed h AtEnd = refl
cut_write X fault.Limit h AtEnd = refl
cut_write X _ h AtEnd = absurd h

pub asks_in_part : {X : Type 0} {old new : StreamState} {turns left : ℕ} {frame : List ℕ} {AtEnd : List ℕ → Type 0} (e : TurnError) → SaysFront old new turns left (Some e) frame → Asks {X = X} old new turns frame AtEnd (Err (lookup_error e))
asks_in_part {X = X} {frame = frame} e p = record {
  said = take p.count frame;
  heard = [];
  stop = Some e;
  talks = said_in_part p.count p.says;
  whole = λ none. let no : Some e ≡ None = none in absurd cc;
  reports = cut_write X e p.says.fault_is _;
}

-- What is returned says the same of the bytes, in other words.
module _ {X Y : Type 0} (r : Result X LookupError) (s : Result Y LookupError) (errs : (e : LookupError) → r ≡ Err e → s ≡ Err e) where
  pub reports_as : {A B : Type 0} (stop : Option TurnError) → (A → B) → ReportsBy stop r A → ReportsBy stop s B
  reports_as (Some fault.Ended) f t = f t
  reports_as (Some other) f t = errs (lookup_error other) t
  reports_as None f t = errs error.NoMemory t

  pub asks_as : (w : Result (List ℕ) EpmdError) (old new : StreamState) (limit : ℕ) (A B : List ℕ → Type 0) → ((heard : List ℕ) → A heard → B heard)
      → IfItFits w old new (λ frame. Asks old new limit frame A r) r → IfItFits w old new (λ frame. Asks old new limit frame B s) s
  asks_as (Ok body) old new limit A B f a = record { said = a.said; heard = a.heard; stop = a.stop; talks = a.talks; whole = a.whole; reports = reports_as a.stop (λ t. (t.0, f a.heard t.1)) a.reports }
  asks_as (Err why) old new limit A B f a = (errs error.Malformed a.0, a.1)

abbrev pub bad : {X : Type 0} → LookupError → Result X LookupError
bad e = Err e

abbrev good : {X : Type 0} → X → Result X LookupError
good x = Ok x

-- a refusal is one among answers of any type, and an answer is none
same_refusal : {X Y : Type 0} (e f : LookupError) → bad {X = X} e ≡ bad f → bad {X = Y} e ≡ bad f
same_refusal {X} {Y} e f h = let same : e ≡ f = cc in ap (bad {X = Y}) same

pub no_refusal : {X : Type 0} {P : Type 0} (x : X) (e : LookupError) → good x ≡ bad e → P
no_refusal x e h = absurd cc

answers_same : (x y : List ℕ) → good x ≡ good y → x ≡ y
answers_same x y e = cc

asks_whole : {X : Type 0} {old mid new : StreamState} {turns between left : ℕ} {frame : List ℕ} {A B : List ℕ → Type 0} (r : Result (Unit {0}) LookupError) (s : Result X LookupError)
    → ((e : LookupError) → r ≡ Err e → s ≡ Err e) → ((heard : List ℕ) → A heard → B heard)
    → SaysFront old mid turns between None frame → HearsSo mid new between left (λ stop heard. ReportsBy stop r (A heard)) → Asks old new turns frame B s
asks_whole {frame = frame} r s errs f p q = record {
  said = frame;
  heard = q.heard;
  stop = q.stop;
  talks = said_and_heard (all_said p) q.hears;
  whole = λ none. inr refl;
  reports = reports_as r s errs q.stop (λ t. (refl, f q.heard t)) q.means;
}

-- what came up to the end of the stream is behind what was there
abbrev IsAll : Result (Unit {0}) LookupError → List ℕ → List ℕ → List ℕ → Type 0
IsAll result before after heard = (result ≡ Ok tt) × (after ≡ before ++ heard)

abbrev IsHeard : Result (List ℕ) LookupError → List ℕ → Type 0
IsHeard result heard = result ≡ Ok heard

pub exchange_unheard : {old mid new : StreamState} {turns between left : ℕ} {frame : List ℕ} (before after : List ℕ) (e : LookupError) → SaysFront old mid turns between None frame
    → HearsSo mid new between left (λ stop heard. ReportsBy stop (bad {X = Unit {0}} e) (IsAll (bad e) before after heard)) → Asks old new turns frame (IsHeard (bad e)) (bad {X = List ℕ} e)
exchange_unheard before after e p q = asks_whole (bad e) (bad e) (same_refusal e) (λ heard t. no_refusal tt e (sym t.0)) p q

pub exchange_whole : {old mid new : StreamState} {turns between left : ℕ} {frame before after : List ℕ} (x : Unit {0}) (answer : List ℕ) → before ≡ [] → answer ≡ after → SaysFront old mid turns between None frame
    → HearsSo mid new between left (λ stop heard. ReportsBy stop (good x) (IsAll (good x) before after heard)) → Asks old new turns frame (IsHeard (good answer)) (good answer)
exchange_whole x answer none same p q = asks_whole (good x) (good answer) (λ e h. no_refusal x e h) (λ heard t. ap good (same ∙ t.1 ∙ ap (λ l. l ++ heard) none)) p q

-- ---- with the request

pub framed : {X : Type 0} (old new : StreamState) (result : Result X LookupError) (Talk : List ℕ → Type 0) {frame text : List ℕ} {w : Result (List ℕ) EpmdError} → IsFrameOf (Ok frame) w → text ≡ frame → Talk text → IfItFits w old new Talk result
framed old new result Talk f same p = subst (λ w. IfItFits w old new Talk result) (sym f.1) (subst Talk (same ∙ f.2) p)

-- memory runs out before a byte is written
pub unsent : (X : Type 0) (s : StreamState) (Talk : List ℕ → Type 0) (w : Result (List ℕ) EpmdError) → IsOk w → ((frame : List ℕ) → Talk frame) → IfItFits {X = X} w s s Talk (Err error.NoMemory)
unsent X s Talk (Ok body) h none = none (body_frame w16 body)
unsent X s Talk (Err why) h none = absurd cc

pub no_frame : (X : Type 0) (s : StreamState) (Talk : LookupError → List ℕ → Type 0) (w : Result (List ℕ) EpmdError) (e : LookupError) → IsFrameOf (Err e) w → ((frame : List ℕ) → Talk error.NoMemory frame) → IfItFits {X = X} w s s (Talk e) (Err e)
no_frame X s Talk w error.Malformed h none = subst (λ w. IfItFits w s s (Talk error.Malformed) (bad {X = X} error.Malformed)) (sym h.1) (refl, refl)
no_frame X s Talk w error.NoMemory h none = unsent X s (Talk error.NoMemory) w h none
no_frame X s Talk w _ h none = absurd h

pub asks_none : {X : Type 0} (s : StreamState) (limit : ℕ) (AtEnd : List ℕ → Type 0) (frame : List ℕ) → Asks {X = X} s s limit frame AtEnd (Err error.NoMemory)
asks_none s limit AtEnd frame = record { said = []; heard = []; stop = None; talks = nothing_said s limit frame; whole = λ none. inl (refl, refl); reports = refl }

-- what an exchange returns
abbrev pub Exchanges : Result (List ℕ) EpmdError → ℕ → StreamState → StreamState → Result (List ℕ) LookupError → Type 0
Exchanges w limit old new result = IfItFits w old new (λ frame. Asks old new limit frame (IsHeard result) result) result

pub exchange_framed : {old new : StreamState} {limit : ℕ} {result : Result (List ℕ) LookupError} {frame text : List ℕ} {w : Result (List ℕ) EpmdError} → IsFrameOf (Ok frame) w → text ≡ frame → Asks old new limit text (IsHeard result) result → Exchanges w limit old new result
exchange_framed {old = old} {new = new} {limit = limit} {result = result} f same p = framed old new result (λ frame. Asks old new limit frame (IsHeard result) result) f same p

pub exchange_none : (s : StreamState) (limit : ℕ) (w : Result (List ℕ) EpmdError) (e : LookupError) → IsFrameOf (Err e) w → Exchanges w limit s s (Err e)
exchange_none s limit w e h = no_frame (List ℕ) s (λ e frame. Asks s s limit frame (IsHeard (bad e)) (bad {X = List ℕ} e)) w e h (asks_none s limit _)

-- ---- the answer that the bytes mean

pub refusal_of : {X : Type 0} (r : Request) (old new : StreamState) (limit : ℕ) (means : List ℕ → Result X LookupError) (e : LookupError) → Exchanges (written_request r) limit old new (Err e) → AsksFor r old new limit means (Err e)
refusal_of r old new limit means e p = asks_as (bad e) (bad e) (same_refusal e) (written_request r) old new limit (IsHeard (bad e)) _ (λ heard h. no_refusal heard e (sym h)) p

pub answer_of : {X : Type 0} (r : Request) (old new : StreamState) (limit : ℕ) (means : List ℕ → Result X LookupError) (bytes : List ℕ) (x : Result X LookupError) → Settles x (means bytes) (read_answer (question_of r) bytes)
    → Exchanges (written_request r) limit old new (Ok bytes) → AsksFor r old new limit means x
answer_of r old new limit means bytes x s p =
    asks_as (good bytes) x (λ e h. no_refusal bytes e h) (written_request r) old new limit (IsHeard (good bytes)) _
    (λ heard h. subst (λ l. Settles x (means l) (read_answer (question_of r) l)) (answers_same bytes heard h) s) p

-- ---- requests that fit a frame

pub fits_frame : (r : Request) → ltb 65535 (length (request_text r)) ≡ false → IsOk (written_request r)
fits_frame r h = subst IsOk (sym (cond-false (ltb 65535 (length (request_text r))) (Err epmd.Malformed) (Ok (request_text r)) h)) refl
