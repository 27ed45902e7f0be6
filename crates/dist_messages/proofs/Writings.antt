-- A message is written exactly where this side has a row for it and its name is short; otherwise exactly one cause holds.
use Rattle.dist_messages.proofs.Words.{◌≡◌, ℕ, ◌^◌, ◌<◌, ◌≤◌, Bool, true, false, cond, ltb, ◌↔◌, List, [], ◌∷◌, ◌++◌, length, take, drop, Ok, Err, Result, sym}
use Rattle.dist_messages.proofs.Words.{refl, ap, ◌∙◌, subst, append-nil, arith, lit<, lit≤, length-append, w16, w32, ltb-false, ltb-true, nil_from_length}
use Rattle.dist_messages.proofs.Words.{to_be_bytes, canonical, own_spelling, Spells, is_said_by, Message, Side, Acceptor, Dialler, Status, MessageError}
use Rattle.dist_messages.specs.Writing.{name_in, nameless, HasRow, IsPlain, IsWritten, HasNoRow, HasLongName, IsOtherStatus}
use Rattle.dist_messages.specs.declared.message.Message.TheVariants as message
use Rattle.dist_messages.specs.declared.message_error.MessageError.TheVariants as errors

abbrev pub fine : List ℕ → Result (List ℕ) MessageError
fine x = Ok x

abbrev pub refused : MessageError → Result (List ℕ) MessageError
refused e = Err e

-- what an answer to a message says of it
abbrev pub Judged : Side → Message → Result (List ℕ) MessageError → Type 0
Judged side m (Ok body) = IsWritten side m body
Judged side m (Err errors.UnknownTag) = HasNoRow side m
Judged side m (Err errors.BadName) = HasLongName side m
Judged side m (Err errors.UnknownStatus) = IsOtherStatus side m
Judged side m (Err e) = ⊥

-- ---- a row for each message of a side

row_of : (side : Side) (m : Message) (body : List ℕ) → Spells side m body → HasRow side m
row_of Dialler (message.OldName flags name) body s = record { body = canonical (nameless (message.OldName flags name)); row = (5, lit< tt, refl) }
row_of Dialler (message.NewName flags creation name) body s = record { body = canonical (nameless (message.NewName flags creation name)); row = ([], lit< tt, sym (append-nil (canonical (message.NewName flags creation [])))) }
row_of Acceptor (message.OldChallenge flags challenge name) body s = record { body = canonical (nameless (message.OldChallenge flags challenge name)); row = (5, lit< tt, refl) }
row_of Acceptor (message.NewChallenge flags challenge creation name) body s = record { body = canonical (nameless (message.NewChallenge flags challenge creation name)); row = ([], lit< tt, sym (append-nil (canonical (message.NewChallenge flags challenge creation [])))) }
row_of side m body s = record { body = body; row = s }

none_behind : (text ignored body : List ℕ) → body ≡ text ++ ignored → length body ≡ length text → body ≡ text
none_behind text ignored body e len =
    let joined : length body ≡ length (text ++ ignored) = ap (λ (x : List ℕ). length x) e in
    let none : length ignored ≡ 0 = omega (arith, joined, len, length-append text ignored) in
    e ∙ ap (λ (x : List ℕ). text ++ x) (nil_from_length ignored none) ∙ append-nil text

-- the spelling with version 5 and no bytes after the name is the one that is written
plain_once : (side : Side) (m : Message) (body : List ℕ) → Spells side m body → IsPlain m body → body ≡ canonical m
plain_once Dialler (message.OldName flags name) body s p =
    let version : to_be_bytes w16 s.0 ≡ to_be_bytes w16 5 = sym (ap (λ (x : List ℕ). take 2 (drop 1 x)) s.2) ∙ p in
    s.2 ∙ ap (λ (v : List ℕ). 0x6e ∷ v ++ to_be_bytes w32 flags ++ name) version
plain_once Dialler (message.NewName flags creation name) body s p =
    let len : length body ≡ length (canonical (message.NewName flags creation name)) = p ∙ omega arith in
    none_behind (canonical (message.NewName flags creation name)) s.0 body s.2 len
plain_once Dialler (message.Status t) body s p = s.1
plain_once Dialler (message.Complement high creation) body s p = s
plain_once Dialler (message.Reply challenge digest) body s p = s
plain_once Acceptor (message.Status t) body s p = s.1
plain_once Acceptor (message.OldChallenge flags challenge name) body s p =
    let version : to_be_bytes w16 s.0 ≡ to_be_bytes w16 5 = sym (ap (λ (x : List ℕ). take 2 (drop 1 x)) s.2) ∙ p in
    s.2 ∙ ap (λ (v : List ℕ). 0x6e ∷ v ++ to_be_bytes w32 flags ++ to_be_bytes w32 challenge ++ name) version
plain_once Acceptor (message.NewChallenge flags challenge creation name) body s p =
    let len : length body ≡ length (canonical (message.NewChallenge flags challenge creation name)) = p ∙ omega arith in
    none_behind (canonical (message.NewChallenge flags challenge creation name)) s.0 body s.2 len
plain_once Acceptor (message.Ack digest) body s p = s
plain_once side m body s p = absurd s

-- ---- each message

named_judged : (side : Side) (m : Message) (b : Bool) → ltb 255 (length (name_in m)) ≡ b → HasRow side m → (length (name_in m) ≤ 255 → IsWritten side m (canonical m)) → Judged side m (cond b (refused errors.BadName) (fine (canonical m)))
named_judged side m true h row made = record { has_row = row; long = ltb-true 255 (length (name_in m)) h }
named_judged side m false h row made = made (ltb-false 255 (length (name_in m)) h)

status_judged : (side : Side) (s : Status) (b : Bool) → is_said_by s side ≡ b → Judged side (message.Status s) (cond b (fine (canonical (message.Status s))) (refused errors.UnknownStatus))
status_judged Dialler s true h = record { spelled = (h, refl); plain = tt; short = lit≤ tt }
status_judged Dialler s false h = record { status = s; is = refl; no_row = λ r. let t : is_said_by s Dialler ≡ true = (r.row).0 in cc }
status_judged Acceptor s true h = record { spelled = (h, refl); plain = tt; short = lit≤ tt }
status_judged Acceptor s false h = record { status = s; is = refl; no_row = λ r. let t : is_said_by s Acceptor ≡ true = (r.row).0 in cc }

judged : (side : Side) (m : Message) → Judged side m (own_spelling side m)
judged Dialler (message.OldName flags name) =
    named_judged Dialler (message.OldName flags name) (ltb 255 (length name)) refl (record { body = canonical (nameless (message.OldName flags name)); row = (5, lit< tt, refl) })
    (λ h. record { spelled = (5, lit< tt, refl); plain = refl; short = h })
judged Dialler (message.NewName flags creation name) =
    named_judged Dialler (message.NewName flags creation name) (ltb 255 (length name)) refl (record { body = canonical (nameless (message.NewName flags creation name)); row = ([], lit< tt, sym (append-nil (canonical (message.NewName flags creation [])))) })
    (λ h. let few : length name < 2 ^ 16 = omega arith in record { spelled = ([], few, sym (append-nil (canonical (message.NewName flags creation name)))); plain = omega arith; short = h })
judged Dialler (message.Status t) = status_judged Dialler t (is_said_by t Dialler) refl
judged Dialler (message.Complement high creation) = record { spelled = refl; plain = tt; short = lit≤ tt }
judged Dialler (message.Reply challenge digest) = record { spelled = refl; plain = tt; short = lit≤ tt }
judged Acceptor (message.Status t) = status_judged Acceptor t (is_said_by t Acceptor) refl
judged Acceptor (message.OldChallenge flags challenge name) =
    named_judged Acceptor (message.OldChallenge flags challenge name) (ltb 255 (length name)) refl (record { body = canonical (nameless (message.OldChallenge flags challenge name)); row = (5, lit< tt, refl) })
    (λ h. record { spelled = (5, lit< tt, refl); plain = refl; short = h })
judged Acceptor (message.NewChallenge flags challenge creation name) =
    named_judged Acceptor (message.NewChallenge flags challenge creation name) (ltb 255 (length name)) refl (record { body = canonical (nameless (message.NewChallenge flags challenge creation name)); row = ([], lit< tt, sym (append-nil (canonical (message.NewChallenge flags challenge creation [])))) })
    (λ h. let few : length name < 2 ^ 16 = omega arith in record { spelled = ([], few, sym (append-nil (canonical (message.NewChallenge flags challenge creation name)))); plain = omega arith; short = h })
judged Acceptor (message.Ack digest) = record { spelled = refl; plain = tt; short = lit≤ tt }
judged side m = record { no_status = λ s e. cc; no_row = λ r. r.row }

-- ---- each answer comes exactly where its cause holds

once : (side : Side) (m : Message) (r q : Result (List ℕ) MessageError) → Judged side m r → Judged side m q → r ≡ q
once side m (Ok b) (Ok c) j k = ap fine (plain_once side m b j.spelled j.plain ∙ sym (plain_once side m c k.spelled k.plain))
once side m (Ok b) (Err errors.UnknownTag) j k = absurd (k.no_row (row_of side m b j.spelled))
once side m (Ok b) (Err errors.BadName) j k = absurd (omega (arith, j.short, k.long))
once side m (Ok b) (Err errors.UnknownStatus) j k = absurd (k.no_row (row_of side m b j.spelled))
once side m (Err errors.UnknownTag) (Ok c) j k = absurd (j.no_row (row_of side m c k.spelled))
once side m (Err errors.UnknownTag) (Err errors.UnknownTag) j k = refl
once side m (Err errors.UnknownTag) (Err errors.BadName) j k = absurd (j.no_row k.has_row)
once side m (Err errors.UnknownTag) (Err errors.UnknownStatus) j k = absurd (j.no_status k.status k.is)
once side m (Err errors.BadName) (Ok c) j k = absurd (omega (arith, j.long, k.short))
once side m (Err errors.BadName) (Err errors.UnknownTag) j k = absurd (k.no_row j.has_row)
once side m (Err errors.BadName) (Err errors.BadName) j k = refl
once side m (Err errors.BadName) (Err errors.UnknownStatus) j k = absurd (k.no_row j.has_row)
once side m (Err errors.UnknownStatus) (Ok c) j k = absurd (j.no_row (row_of side m c k.spelled))
once side m (Err errors.UnknownStatus) (Err errors.UnknownTag) j k = absurd (k.no_status j.status j.is)
once side m (Err errors.UnknownStatus) (Err errors.BadName) j k = absurd (j.no_row k.has_row)
once side m (Err errors.UnknownStatus) (Err errors.UnknownStatus) j k = refl
once side m (Ok b) (Err d) j k = absurd k
once side m (Err errors.UnknownTag) (Err d) j k = absurd k
once side m (Err errors.BadName) (Err d) j k = absurd k
once side m (Err errors.UnknownStatus) (Err d) j k = absurd k
once side m (Err e) q j k = absurd j

pub answers_law : (side : Side) (m : Message) (r : Result (List ℕ) MessageError) → (own_spelling side m ≡ r) ↔ Judged side m r
answers_law side m r = (λ e. subst (Judged side m) e (judged side m), λ h. once side m (own_spelling side m) r (judged side m) h)

-- what is written is one of the spellings
pub written_is_spelled : (side : Side) (m : Message) (body : List ℕ) → own_spelling side m ≡ Ok body → Spells side m body
written_is_spelled side m body e = let w : IsWritten side m body = subst (Judged side m) e (judged side m) in w.spelled
