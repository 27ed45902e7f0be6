-- What the reader of a call holds, and which frames of the call were handed on.
use Rattle.dist_drive.proofs.Words.{◌≡◌, ℕ, suc, ◌+◌, Bool, true, false, cond, eqb, List, [], ◌∷◌, ◌++◌, length, take, nat_lt, slice_get, Some, None, position}
use Rattle.dist_drive.proofs.Words.{sym, refl, ap, ◌∙◌, append-nil, le_refl, arith, length-append, w16, eq-eqb, take-append_seam, position_or_len_push}
use Rattle.dist_drive.proofs.Words.{slice_get_past, position_or_len, Accounts, IsBytes, Linked, Reader, Short, as_linked, next_body, to_come, with_bytes}
use Rattle.dist_drive.proofs.Words.{without_count, without_next, after_first, bodies, first_body, Step, frames_of, is_up, next_frame, through, Keeps}
use Rattle.dist_drive.proofs.Words.{KeepsLinked, KeepsShort, after_step}

-- what is known of bytes that are fed and bodies that are moved out
pub record FrameLaws : Type 0 where
  pub fed_on : (stream piece : List ℕ) (moved : List (List ℕ)) (pending : List ℕ) → Accounts stream moved pending → IsBytes piece → Accounts (stream ++ piece) moved (pending ++ piece)
  pub moved_on : (stream : List ℕ) (moved : List (List ℕ)) (pending body : List ℕ) → Accounts stream moved pending → first_body w16 pending ≡ Some body → Accounts stream (moved ++ body ∷ []) (after_first w16 pending)
  pub bodies_are : (stream : List ℕ) (moved : List (List ℕ)) (pending : List ℕ) → Accounts stream moved pending → bodies stream ≡ moved ++ bodies pending

-- ---- where the reply stands that brought the end up

place_none : (steps : List Step) → position_or_len is_up steps ≡ length steps → position is_up steps ≡ None
place_none steps h =
    let no : nat_lt (position_or_len is_up steps) (length steps) ≡ false = grind (arith, h) in
    rw no refl

place_last : (steps : List Step) → suc (position_or_len is_up steps) ≡ length steps → position is_up steps ≡ Some (position_or_len is_up steps)
place_last steps h =
    let yes' : nat_lt (position_or_len is_up steps) (length steps) ≡ true = grind (arith, h) in
    rw yes' refl

place_push : (steps : List Step) (s : Step) → position_or_len is_up steps ≡ length steps → position_or_len is_up (steps ++ s ∷ []) ≡ length steps + cond (is_up s) 0 1
place_push steps s h =
    let same : eqb (position_or_len is_up steps) (length steps) ≡ true = eq-eqb _ _ h in
    position_or_len_push is_up steps s ∙ ap (λ b. cond b (length steps + cond (is_up s) 0 1) (position_or_len is_up steps)) same

-- ---- frames that were handed on are a front of the frames of the call

pub frames_are : FrameLaws → (input : List ℕ) (frames : List (List ℕ)) (steps : List Step) (r : Reader) → length frames ≡ length steps → Keeps input frames steps r → frames_of input steps ≡ frames ++ to_come r
frames_are laws input frames steps (Short pending) len k =
    ap (λ place. through place (bodies input)) (place_none steps k.none_up) ∙ laws.bodies_are input frames pending k.accounts
frames_are laws input frames steps (Linked ended rest) len (more, k) =
    let count : position_or_len is_up steps + 1 ≡ length frames = omega (arith, k.last_up) in
    ap (λ place. through place (bodies input)) (place_last steps k.last_up)
    ∙ ap (λ l. take (position_or_len is_up steps + 1) l) (laws.bodies_are input frames more k.accounts)
    ∙ ap (λ n. take n (frames ++ bodies more)) count
    ∙ take-append_seam frames (bodies more)
    ∙ sym (append-nil frames)

-- ---- the next frame of the call is the one that the reader shows

get_seam : (xs : List (List ℕ)) (x : List ℕ) (ys : List (List ℕ)) → slice_get ((xs ++ x ∷ []) ++ ys) (length xs) ≡ Some x
get_seam [] x ys = refl
get_seam (y ∷ xs) x ys = get_seam xs x ys

pub next_is : FrameLaws → (input : List ℕ) (frames : List (List ℕ)) (steps : List Step) (r : Reader) (body : List ℕ) → length frames ≡ length steps → next_body r ≡ Some body → Keeps input frames steps r → next_frame input steps ≡ Some body
next_is laws input frames steps (Short pending) body len e k =
    let rest = after_first w16 pending in
    let are : frames_of input steps ≡ (frames ++ body ∷ []) ++ bodies rest =
    ap (λ place. through place (bodies input)) (place_none steps k.none_up)
    ∙ laws.bodies_are input (frames ++ body ∷ []) rest (laws.moved_on input frames pending body k.accounts e) in
    ap (λ (l : List (List ℕ)). slice_get l (length steps)) are
    ∙ ap (λ (n : ℕ). slice_get ((frames ++ body ∷ []) ++ bodies rest) n) (sym len)
    ∙ get_seam frames body (bodies rest)
next_is laws input frames steps (Linked ended rest) body len e k = absurd cc

-- where no frame waits in the reader, the call has no next one
pub next_none : FrameLaws → (input : List ℕ) (frames : List (List ℕ)) (steps : List Step) (r : Reader) → length frames ≡ length steps → to_come r ≡ [] → Keeps input frames steps r → next_frame input steps ≡ None
next_none laws input frames steps r len none k =
    let are : frames_of input steps ≡ frames = frames_are laws input frames steps r len k ∙ ap (λ l. frames ++ l) none ∙ append-nil frames in
    ap (λ (l : List (List ℕ)). slice_get l (length steps)) are ∙ ap (λ (n : ℕ). slice_get frames n) (sym len) ∙ slice_get_past frames (length frames) (le_refl (length frames))

-- ---- one frame more

length_one : (xs : List Step) (s : Step) → length (xs ++ s ∷ []) ≡ length xs + 1
length_one xs s = length-append xs (s ∷ [])

last_brings_up : (input : List ℕ) (frames : List (List ℕ)) (steps : List Step) (s : Step) (rest : List ℕ) → true ≡ is_up s → position_or_len is_up steps ≡ length steps → Accounts input frames rest → KeepsLinked input frames (steps ++ s ∷ []) rest
last_brings_up input frames steps s rest is none t =
    let place : position_or_len is_up (steps ++ s ∷ []) ≡ length steps + 0 = place_push steps s none ∙ ap (λ b. length steps + cond b 0 1) (sym is) in
    record { accounts = t; last_up = omega (arith, place, length_one steps s) }

keeps_up : (input : List ℕ) (frames : List (List ℕ)) (steps : List Step) (s : Step) (rest : List ℕ) (up : Bool) → up ≡ is_up s → position_or_len is_up steps ≡ length steps → Accounts input frames rest → Keeps input frames (steps ++ s ∷ []) (after_step up (Short rest))
keeps_up input frames steps s rest true is none t = (rest, last_brings_up input frames steps s rest is none t)
keeps_up input frames steps s rest false is none t =
    let place : position_or_len is_up (steps ++ s ∷ []) ≡ length steps + 1 = place_push steps s none ∙ ap (λ b. length steps + cond b 0 1) (sym is) in
    record { accounts = t; none_up = place ∙ sym (length_one steps s) }

-- the reader of a call, once a frame was taken out of it and handed on
pub keeps_next : FrameLaws → (input : List ℕ) (frames : List (List ℕ)) (steps : List Step) (s : Step) (body : List ℕ) (r : Reader) (up : Bool) → up ≡ is_up s → next_body r ≡ Some body → Keeps input frames steps r → Keeps input (frames ++ body ∷ []) (steps ++ s ∷ []) (after_step up (without_next r))
keeps_next laws input frames steps s body (Short pending) up is e k =
    keeps_up input (frames ++ body ∷ []) steps s (after_first w16 pending) up is k.none_up (laws.moved_on input frames pending body k.accounts e)
keeps_next laws input frames steps s body (Linked ended rest) up is e k = absurd cc

-- what stood behind the frame, where it brought the end up
pub keeps_rest : FrameLaws → (input : List ℕ) (frames : List (List ℕ)) (steps : List Step) (s : Step) (body pending : List ℕ) → true ≡ is_up s → first_body w16 pending ≡ Some body → KeepsShort input frames steps pending → KeepsLinked input (frames ++ body ∷ []) (steps ++ s ∷ []) (after_first w16 pending)
keeps_rest laws input frames steps s body pending is e k =
    last_brings_up input (frames ++ body ∷ []) steps s (after_first w16 pending) is k.none_up (laws.moved_on input frames pending body k.accounts e)

-- a linked reader shows no frame
pub none_linked : (r : Reader) → to_come (as_linked r) ≡ []
none_linked (Short pending) = refl
none_linked (Linked ended rest) = refl

-- ---- more bytes

pub keeps_fed : FrameLaws → (input piece : List ℕ) (frames : List (List ℕ)) (steps : List Step) (r : Reader) → IsBytes piece → Keeps input frames steps r → Keeps (input ++ piece) frames steps (with_bytes r piece)
keeps_fed laws input piece frames steps (Short pending) bytes k = record { accounts = laws.fed_on input piece frames pending k.accounts bytes; none_up = k.none_up }
keeps_fed laws input piece frames steps (Linked ended rest) bytes (more, k) = (more ++ piece, record { accounts = laws.fed_on input piece frames more k.accounts bytes; last_up = k.last_up })

pub keeps_noted : (input : List ℕ) (frames : List (List ℕ)) (steps : List Step) (r : Reader) → Keeps input frames steps r → Keeps input frames steps (without_count r)
keeps_noted input frames steps (Short pending) k = k
keeps_noted input frames steps (Linked ended rest) k = k

pub keeps_none : Accounts [] [] [] → Keeps [] [] [] (Short [])
keeps_none none = record { accounts = none; none_up = refl }
