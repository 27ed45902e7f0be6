-- A registration, put together from what was written and what was read.
use Rattle.dist_epmd_calls.proofs.Words.{◌≡◌, ℕ, suc, ◌+◌, ◌-◌, ◌<◌, ◌≤◌, List, [], ◌∷◌, ◌++◌, length, get_or, take, drop, Some, None, Ok, Err, Result, sym}
use Rattle.dist_epmd_calls.proofs.Words.{refl, ap, ◌∙◌, subst, inl, inr, arith, length-append, length-drop, length-take, length-take-le, take_at, Creation}
use Rattle.dist_epmd_calls.proofs.Words.{StreamState, Hears, HearsFront, IsReadFault, IsWriteFault, SaysFront, TurnError, Hears-trans, read_answer, EpmdError}
use Rattle.dist_epmd_calls.proofs.Words.{IfItFits, Registers, ReportsWhole, Settles, answer_len, creation_meant, rest_len, lookup_error, HearsAnswer, IsFrameOf}
use Rattle.dist_epmd_calls.proofs.Words.{LookupError}
use borrow.Rule.Slice.PartMut.{put_mid, post_of}
use Rattle.dist_stream.specs.declared.turn_error.TurnError.TheVariants as fault
use Rattle.dist_epmd.specs.declared.message.Asked.TheVariants as asked
use Rattle.dist_epmd_calls.specs.declared.lookup_error.LookupError.TheVariants as error
use Rattle.dist_epmd_calls.proofs.Asks.{framed, no_frame, all_said, whole_front, nothing_said, said_in_part, said_and_heard}

-- ---- the answer comes

-- the tag did not come
pub answer_none : {old new : StreamState} {turns left : ℕ} (e : TurnError) (first room : List ℕ) → length first ≡ 1 → HearsFront old new turns left (Some e) first → HearsAnswer old new turns left (Err e) room
answer_none {old = old} {new = new} {turns = turns} {left = left} e first room one p =
    let few : p.count < length first = p.whole in
    let none : p.count ≡ 0 = omega arith in
    record {
      heard = [];
      hears = subst (λ n. Hears old new turns left (Some e) (take n first)) none p.hears;
      most = omega arith;
      whole = tt;
      cut = omega arith;
    }

pub all_heard : {old new : StreamState} {turns left : ℕ} (room : List ℕ) → HearsFront old new turns left None room → Hears old new turns left None room
all_heard room p = subst (Hears _ _ _ _ None) (whole_front p.count room p.whole) p.hears

-- the length of the answer by its tag, which is all that came first
tagged : (first tail more : List ℕ) → length first ≡ 1 → answer_len (first ++ more) ≡ 1 + rest_len (get_or (first ++ tail) 0 0)
tagged [] tail more h = absurd cc
tagged (tag ∷ []) tail more h = refl
tagged (tag ∷ other ∷ rest) tail more h = absurd (omega arith)

-- only a part of the rest came
pub answer_cut : {old mid new : StreamState} {turns between left : ℕ} (e : TurnError) (first tail more room : List ℕ) (n : ℕ) → length first ≡ 1 → n ≡ rest_len (get_or (first ++ tail) 0 0) → length more ≡ n
    → HearsFront old mid turns between None first → HearsFront mid new between left (Some e) more → HearsAnswer old new turns left (Err e) room
answer_cut e first tail more room n one rest all p q =
    let some = take q.count more in
    let len : length (first ++ some) ≡ 1 + q.count = length-append first some ∙ ap (λ (k : ℕ). k + length some) one ∙ ap (λ (k : ℕ). 1 + k) (length-take-le q.count more q.fits) in
    let tag : answer_len (first ++ some) ≡ 1 + rest_len (get_or (first ++ tail) 0 0) = tagged first tail some one in
    let cut : q.count < length more = q.whole in
    record {
      heard = first ++ some;
      hears = Hears-trans (all_heard first p) q.hears;
      most = omega arith;
      whole = tt;
      cut = omega arith;
    }

front_of : (first tail more : List ℕ) (n k : ℕ) → length first ≡ 1 → length more ≡ n → take (1 + n) (put_mid 1 k (first ++ tail) more) ≡ first ++ more
front_of [] tail more n k one all = absurd cc
front_of (tag ∷ []) tail more n k one all =
    let after = post_of 1 k (tag ∷ tail) in
    let next : 1 + n ≡ suc n = omega arith in
    ap (λ (m : ℕ). take m (tag ∷ (more ++ after))) next ∙ ap (λ (l : List ℕ). tag ∷ l) (take_at more after n all)
front_of (tag ∷ other ∷ rest) tail more n k one all = absurd (omega arith)

within_front : (n : ℕ) (xs ys : List ℕ) → take n xs ≡ ys → length ys ≡ n → n ≤ length xs
within_front n xs ys e h = omega (arith, length-take n xs, ap length e)

-- the whole answer came
pub answer_whole : {old mid new : StreamState} {turns between left : ℕ} (first tail more : List ℕ) (n k : ℕ) → length first ≡ 1 → n ≡ rest_len (get_or (first ++ tail) 0 0) → length more ≡ n
    → HearsFront old mid turns between None first → HearsFront mid new between left None more → HearsAnswer old new turns left (Ok (1 + n)) (put_mid 1 k (first ++ tail) more)
answer_whole first tail more n k one rest all p q =
    let len : length (first ++ more) ≡ 1 + n = length-append first more ∙ ap (λ (j : ℕ). j + length more) one ∙ ap (λ (j : ℕ). 1 + j) all in
    let tag : answer_len (first ++ more) ≡ 1 + rest_len (get_or (first ++ tail) 0 0) = tagged first tail more one in
    record {
      heard = first ++ more;
      hears = Hears-trans (all_heard first p) (all_heard more q);
      most = omega arith;
      whole = (within_front (1 + n) (put_mid 1 k (first ++ tail) more) (first ++ more) (front_of first tail more n k one all) len, sym (front_of first tail more n k one all), omega arith);
      cut = tt;
    }

-- ---- one registration

cut_write : (e : TurnError) (said : List ℕ) → IsWriteFault (Some e) → ReportsWhole (Some e) (Err (lookup_error e)) said []
cut_write fault.WriteFailed said h = (refl, refl)
cut_write fault.Limit said h = (refl, omega arith)
cut_write _ said h = absurd h

cut_read : (e : TurnError) (said heard : List ℕ) → IsReadFault (Some e) → length heard < answer_len heard → ReportsWhole (Some e) (Err (lookup_error e)) said heard
cut_read fault.WriteFailed said heard h cut = absurd h
cut_read _ said heard h cut = (refl, cut)

pub registers_in_part : {old new : StreamState} {turns left : ℕ} {frame : List ℕ} (e : TurnError) → SaysFront old new turns left (Some e) frame → Registers old new turns frame (Err (lookup_error e))
registers_in_part {frame = frame} e p = record {
  said = take p.count frame;
  heard = [];
  stop = Some e;
  most = omega arith;
  talks = said_in_part p.count p.says;
  reports = cut_write e (take p.count frame) p.says.fault_is;
}

pub registers_unheard : {old mid new : StreamState} {turns between left : ℕ} {frame room : List ℕ} (e : TurnError) → SaysFront old mid turns between None frame → HearsAnswer mid new between left (Err e) room → Registers old new turns frame (Err (lookup_error e))
registers_unheard {frame = frame} e p q = record {
  said = frame;
  heard = q.heard;
  stop = Some e;
  most = q.most;
  talks = said_and_heard (all_said p) q.hears;
  reports = cut_read e frame q.heard q.hears.fault_is q.cut;
}

pub registers_whole : {old mid new : StreamState} {turns between left : ℕ} {frame room bytes : List ℕ} (n : ℕ) (r : Result Creation LookupError) → bytes ≡ take n room → Settles r (creation_meant bytes) (read_answer asked.Alive bytes) → SaysFront old mid turns between None frame → HearsAnswer mid new between left (Ok n) room → Registers old new turns frame r
registers_whole {frame = frame} {room = room} {bytes = bytes} n r front s p q =
    let same : bytes ≡ q.heard = front ∙ sym q.whole.1 in
    let len : length q.heard ≡ answer_len q.heard = ap length q.whole.1 ∙ length-take-le n room q.whole.0 ∙ q.whole.2 in
    record {
      said = frame;
      heard = q.heard;
      stop = None;
      most = q.most;
      talks = said_and_heard (all_said p) q.hears;
      reports = inr (len, subst (λ (l : List ℕ). Settles r (creation_meant l) (read_answer asked.Alive l)) same s);
    }

registers_none : (s : StreamState) (limit : ℕ) (frame : List ℕ) → Registers s s limit frame (Err error.NoMemory)
registers_none s limit frame = record { said = []; heard = []; stop = None; most = omega arith; talks = nothing_said s limit frame; reports = inl (refl, refl, refl) }

abbrev refused : LookupError → Result Creation LookupError
refused e = Err e

pub registers_framed : {old new : StreamState} {limit : ℕ} {result : Result Creation LookupError} {frame text : List ℕ} {w : Result (List ℕ) EpmdError} → IsFrameOf (Ok frame) w → text ≡ frame → Registers old new limit text result → IfItFits w old new (λ f. Registers old new limit f result) result
registers_framed {old = old} {new = new} {limit = limit} {result = result} f same p = framed old new result (λ f. Registers old new limit f result) f same p

pub registers_unframed : (s : StreamState) (limit : ℕ) (w : Result (List ℕ) EpmdError) (e : LookupError) → IsFrameOf (Err e) w → IfItFits w s s (λ f. Registers s s limit f (Err e)) (refused e)
registers_unframed s limit w e h = no_frame Creation s (λ e f. Registers s s limit f (Err e)) w e h (registers_none s limit)

-- ---- the lengths of the buffers

pub first_len : (room first : List ℕ) → length room ≡ 6 → length first ≡ length (take 1 room) → length first ≡ 1
first_len room first h e = omega (arith, length-take 1 room)

pub rest_few : (n tag : ℕ) → n ≡ rest_len tag → n ≤ 5
rest_few n tag e = grind arith

pub more_len : (n : ℕ) (room first more : List ℕ) → length room ≡ 6 → length first ≡ 1 → n ≤ 5 → length more ≡ length (take ((1 + n) - 1) (drop 1 (first ++ drop 1 room))) → length more ≡ n
more_len n room first more h one few e = omega (arith, length-take ((1 + n) - 1) (drop 1 (first ++ drop 1 room)), length-drop 1 (first ++ drop 1 room), length-append first (drop 1 room), length-drop 1 room)

pub answer_is : {old new : StreamState} {turns left : ℕ} {r s : Result ℕ TurnError} {room : List ℕ} → r ≡ s → HearsAnswer old new turns left s room → HearsAnswer old new turns left r room
answer_is {old = old} {new = new} {turns = turns} {left = left} {room = room} same p = subst (λ r. HearsAnswer old new turns left r room) (sym same) p
