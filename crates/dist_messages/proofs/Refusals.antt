-- Each refusal has its cause in the layouts, and each cause leads to its refusal.
use Rattle.dist_messages.proofs.Words.{◌≡◌, ℕ, ◌<◌, ◌≤◌, ◌↔◌, List, [], ◌∷◌, ◌++◌, IfSome, IfErr, IsOk, Some, None, Ok, Err, Option, Result, sym, refl, ap, ◌∙◌}
use Rattle.dist_messages.proofs.Words.{subst, inl, inr, arith, IsBytes, IsBytes-append, IsBytes-front, text_of, Message, Side, Acceptor, Dialler, Status}
use Rattle.dist_messages.proofs.Words.{MessageError}
use Rattle.dist_messages.proofs.Messages.{HasText, behind, Row, Fields, Text, Nothing, row_of, refused, never_both, read_of_text, status_found, spelled_is_read}
use Rattle.dist_messages.proofs.Messages.{read_is_spelled, status_again}
use Rattle.dist_messages.proofs.Readers.{IsReader, stage}
use Rattle.dist_messages.specs.{Answer.Answers, Reading.read, Reading.status_of, Reading.status_message}
use Rattle.dist_messages.specs.Causes.{IsMessage, HasUnknownTag, IsShort, IsLong, HasUnknownStatus, IsCause, status_tag}
use Rattle.dist_messages.specs.declared.message.Message.TheVariants as message
use Rattle.dist_messages.specs.declared.message.Status.TheVariants as status
use Rattle.dist_messages.specs.declared.message_error.MessageError.TheVariants as errors

-- ---- messages and refusals

read_of_message : (side : Side) (body : List ℕ) (m : IsMessage side body) → read side body ≡ Ok m.message
read_of_message side body m = spelled_is_read side m.message body m.fits m.spelled

no_message_at : (side : Side) (body : List ℕ) (d : MessageError) → read side body ≡ Err d → IsMessage side body → ⊥
no_message_at side body d e m = never_both m.message d (sym (read_of_message side body m) ∙ e)

message_at : (side : Side) (body : List ℕ) (m : Message) → IsBytes body → read side body ≡ Ok m → IsMessage side body
message_at side body m fits e = let p = read_is_spelled side body m fits e in record { message = m; fits = p.1; spelled = p.0 }

read_of_nothing : (side : Side) → read side [] ≡ Err errors.Empty
unfolding read
read_of_nothing Dialler = refl
read_of_nothing Acceptor = refl

-- ---- texts of statuses

status_refuses : (o : Option Status) (d : MessageError) → status_message o ≡ Err d → d ≡ errors.UnknownStatus
status_refuses None d e = cc
status_refuses (Some s) d e = absurd cc

no_status : (side : Side) (text : List ℕ) (o : Option Status) → IfSome o (HasText side text) → ((s : Status) → HasText side text s → ⊥) → status_message o ≡ Err errors.UnknownStatus
no_status side text (Some s) found none = absurd (none s found)
no_status side text None found none = refl

-- ---- from refusal to cause

in_fields : (side : Side) (tag : ℕ) (rest : List ℕ) (d : MessageError) → IsReader (behind side tag) → (tag ≡ status_tag → ⊥) → IsBytes (tag ∷ rest) → behind side tag rest ≡ Err d → IsCause side (tag ∷ rest) d
unfolding IsCause
in_fields side tag rest d reader other fits e =
    let none = no_message_at side (tag ∷ rest) d e in
    elim (reader.refusal rest d e) [
      | inl p ↦
          let c = p.1 in
          let short : IsShort side (tag ∷ rest) = record {
            tag = tag;
            rest = rest;
            parts = refl;
            no_status = other;
            no_message = none;
            more = c.more;
            more_bytes = c.more_bytes;
            whole = message_at side (tag ∷ (rest ++ c.more)) c.message (IsBytes-append (tag ∷ rest) c.more fits c.more_bytes) c.whole;
          } in
          subst (IsCause side (tag ∷ rest)) (sym p.0) short
      | inr p ↦
          let c = p.1 in
          let parts : tag ∷ rest ≡ (tag ∷ c.front) ++ (c.next ∷ c.more) = ap (λ (x : List ℕ). tag ∷ x) c.parts in
          let long : IsLong side (tag ∷ rest) = record {
            tag = tag;
            rest = c.front;
            next = c.next;
            more = c.more;
            parts = parts;
            no_status = other;
            no_message = none;
            front = message_at side (tag ∷ c.front) c.message (IsBytes-front (tag ∷ c.front) (c.next ∷ c.more) (subst IsBytes parts fits)) c.whole;
          } in
          subst (IsCause side (tag ∷ rest)) (sym p.0) long
    ]

in_text : (side : Side) (text : List ℕ) (d : MessageError) → read side (status_tag ∷ text) ≡ Err d → IsCause side (status_tag ∷ text) d
unfolding IsCause status_of
in_text side text d e =
    let given : status_of side text ≡ Err d = sym (read_of_text side text) ∙ e in
    let cause : HasUnknownStatus side (status_tag ∷ text) = record {
      text = text;
      parts = refl;
      no_status = λ s said is. never_both (message.Status s) d (sym (status_again side s said) ∙ ap (status_of side) (sym is) ∙ given);
    } in
    subst (IsCause side (status_tag ∷ text)) (sym (status_refuses _ d given)) cause

at_row : (side : Side) (tag : ℕ) (rest : List ℕ) (d : MessageError) → IsBytes (tag ∷ rest) → read side (tag ∷ rest) ≡ Err d → Row side tag → IsCause side (tag ∷ rest) d
unfolding IsCause
at_row side tag rest d fits e (Fields reader _ other) = in_fields side tag rest d reader other fits e
at_row side tag rest d fits e (Text is) = subst (λ (t : ℕ). read side (t ∷ rest) ≡ Err d → IsCause side (t ∷ rest) d) (sym is) (in_text side rest d) e
at_row side tag rest d fits e (Nothing none other) =
    let h : refused errors.UnknownTag ≡ refused d = sym (none rest) ∙ e in
    let same : errors.UnknownTag ≡ d = cc in
    let cause : HasUnknownTag side (tag ∷ rest) = record { tag = tag; rest = rest; parts = refl; no_row = λ others m. no_message_at side (tag ∷ others) errors.UnknownTag (none others) m } in
    subst (IsCause side (tag ∷ rest)) same cause

-- a refusal has its cause
cause_of : (side : Side) (body : List ℕ) (d : MessageError) → IsBytes body → read side body ≡ Err d → IsCause side body d
unfolding IsCause
cause_of side [] d fits e =
    let h : refused errors.Empty ≡ refused d = sym (read_of_nothing side) ∙ e in
    let same : errors.Empty ≡ d = cc in
    subst (IsCause side []) same refl
cause_of side (tag ∷ rest) d fits e = at_row side tag rest d fits e (row_of side tag)

-- ---- from cause to refusal

abbrev a_status_of : Side → Status
a_status_of Dialler = status.True
a_status_of Acceptor = status.Ok

-- each side has a message that begins with the tag of a status
a_status : (side : Side) → IsMessage side (status_tag ∷ text_of (a_status_of side))
a_status Dialler = record { message = message.Status status.True; fits = tt; spelled = (refl, refl) }
a_status Acceptor = record { message = message.Status status.Ok; fits = tt; spelled = (refl, refl) }

tag_at : (side : Side) (tag : ℕ) (rest : List ℕ) → IsBytes (tag ∷ rest) → ((others : List ℕ) → IsMessage side (tag ∷ others) → ⊥) → Row side tag → read side (tag ∷ rest) ≡ Err errors.UnknownTag
tag_at side tag rest fits none (Fields reader _ other) =
    let c = reader.nothing in
    absurd (none c.more (message_at side (tag ∷ c.more) c.message (IsBytes-append (tag ∷ []) c.more (IsBytes-front (tag ∷ []) rest fits) c.more_bytes) c.whole))
tag_at side tag rest fits none (Text is) = absurd (none (text_of (a_status_of side)) (subst (λ (t : ℕ). IsMessage side (t ∷ text_of (a_status_of side))) (sym is) (a_status side)))
tag_at side tag rest fits none (Nothing unknown other) = unknown rest

-- bytes that are no message are refused, and so as every refusal of them is
by_refusal : (side : Side) (body : List ℕ) (d : MessageError) → IsBytes body → (IsMessage side body → ⊥) → ((e : MessageError) → read side body ≡ Err e → e ≡ d) → read side body ≡ Err d
by_refusal side body d fits none same = by_result (read side body) refl where
  by_result : (r : Result Message MessageError) → read side body ≡ r → r ≡ Err d
  by_result (Ok m) e = absurd (none (message_at side body m fits e))
  by_result (Err e) h = ap refused (same e h)

-- more bytes do not bring a refusal back
falls : (a b c d : Result Message MessageError) → stage a ≤ stage b → a ≡ c → b ≡ d → stage d < stage c → ⊥
falls a b c d le p q lt =
    let x : stage a ≡ stage c = ap (λ r. stage r) p in
    let y : stage b ≡ stage d = ap (λ r. stage r) q in
    omega (arith, x, y)

short_at : (side : Side) (tag : ℕ) (rest more : List ℕ) → IsBytes (tag ∷ rest) → (tag ≡ status_tag → ⊥) → (IsMessage side (tag ∷ rest) → ⊥) → IsMessage side (tag ∷ (rest ++ more)) → Row side tag → read side (tag ∷ rest) ≡ Err errors.Short
short_at side tag rest more fits other none whole (Fields reader _ _) =
    by_refusal side (tag ∷ rest) errors.Short fits none (λ d e.
    elim (reader.refusal rest d e) [
      | inl p ↦ p.0
      | inr p ↦ absurd (falls _ _ (Err errors.Long) (Ok whole.message) (reader.grows rest more) (e ∙ ap refused p.0) (read_of_message side (tag ∷ (rest ++ more)) whole) (omega arith))
    ])
short_at side tag rest more fits other none whole (Text is) = absurd (other is)
short_at side tag rest more fits other none whole (Nothing unknown _) = absurd (no_message_at side (tag ∷ (rest ++ more)) errors.UnknownTag (unknown (rest ++ more)) whole)

long_at : (side : Side) (tag : ℕ) (rest more : List ℕ) → IsBytes (tag ∷ (rest ++ more)) → (tag ≡ status_tag → ⊥) → (IsMessage side (tag ∷ (rest ++ more)) → ⊥) → IsMessage side (tag ∷ rest) → Row side tag → read side (tag ∷ (rest ++ more)) ≡ Err errors.Long
long_at side tag rest more fits other none front (Fields reader _ _) =
    by_refusal side (tag ∷ (rest ++ more)) errors.Long fits none (λ d e.
    elim (reader.refusal (rest ++ more) d e) [
      | inl p ↦ absurd (falls _ _ (Ok front.message) (Err errors.Short) (reader.grows rest more) (read_of_message side (tag ∷ rest) front) (e ∙ ap refused p.0) (omega arith))
      | inr p ↦ p.0
    ])
long_at side tag rest more fits other none front (Text is) = absurd (other is)
long_at side tag rest more fits other none front (Nothing unknown _) = absurd (no_message_at side (tag ∷ rest) errors.UnknownTag (unknown rest) front)

-- a cause has its refusal; memory is needed only for a message
refused_by : (side : Side) (body : List ℕ) (d : MessageError) → IsBytes body → (d ≡ errors.NoMemory → ⊥) → IsCause side body d → read side body ≡ Err d
unfolding IsCause status_of
refused_by side body errors.Empty fits memory c = ap (read side) c ∙ read_of_nothing side
refused_by side body errors.UnknownTag fits memory c = ap (read side) c.parts ∙ tag_at side c.tag c.rest (subst IsBytes c.parts fits) c.no_row (row_of side c.tag)
refused_by side body errors.Short fits memory c =
    ap (read side) c.parts
    ∙ short_at side c.tag c.rest c.more (subst IsBytes c.parts fits) c.no_status (subst (λ (x : List ℕ). IsMessage side x → ⊥) c.parts c.no_message) (subst (λ (x : List ℕ). IsMessage side (x ++ c.more)) c.parts c.whole) (row_of side c.tag)
refused_by side body errors.Long fits memory c =
    ap (read side) c.parts
    ∙ long_at side c.tag c.rest (c.next ∷ c.more) (subst IsBytes c.parts fits) c.no_status (subst (λ (x : List ℕ). IsMessage side x → ⊥) c.parts c.no_message) c.front (row_of side c.tag)
refused_by side body errors.BadName fits memory c = absurd c
refused_by side body errors.UnknownStatus fits memory c =
    ap (read side) c.parts ∙ read_of_text side c.text ∙ no_status side c.text _ (status_found side c.text) (λ s p. c.no_status s p.0 p.1)
refused_by side body errors.NoMemory fits memory c = absurd (memory refl)

-- each refusal comes exactly where its cause holds
pub causes_law : (side : Side) (body : List ℕ) (d : MessageError) → IsBytes body → (d ≡ errors.NoMemory → ⊥) → (read side body ≡ Err d) ↔ IsCause side body d
causes_law side body d fits memory = (cause_of side body d fits, refused_by side body d fits memory)

-- ---- in the words of the answers

got : (r : Result Message MessageError) → IsOk r → (m : Message) × (r ≡ Ok m)
got (Ok m) ok = (m, refl)
got (Err e) ok = absurd cc

pub refused_from : (side : Side) (body : List ℕ) (r : Result Message MessageError) → IsBytes body → Answers (λ m. m) r (read side body) → IfErr r (λ e. IsCause side body e)
unfolding IsCause
refused_from side body (Ok m) fits given = tt
refused_from side body (Err errors.NoMemory) fits given = let g = got (read side body) given in message_at side body g.0 fits g.1
refused_from side body (Err e) fits given = cause_of side body e fits given
