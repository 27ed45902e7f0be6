-- The laws of reading and spelling, over all messages.
use Rattle.dist_messages.proofs.Words.{◌≡◌, ℕ, true, false, eqb, List, [], ◌∷◌, IfSome, IfOk, IsTrue, ◌==◌, Some, None, Ok, Err, Option, Result, sym, refl, ap}
use Rattle.dist_messages.proofs.Words.{◌∙◌, subst, eqb-true, and_parts, eqb-false, pointwise, same_text, IsBytes, IsBytes-rest, found-passes, Fits, Spells}
use Rattle.dist_messages.proofs.Words.{is_said_by, text_of, Message, Side, Acceptor, Dialler, Status, MessageError}
use Rattle.dist_messages.proofs.Bodies.{Reads, ok_is, old_name_again, new_name_again, old_challenge_again, new_challenge_again, complement_again, reply_again}
use Rattle.dist_messages.proofs.Bodies.{ack_again, old_name_takes, new_name_takes, old_challenge_takes, new_challenge_takes, complement_takes, reply_takes}
use Rattle.dist_messages.proofs.Bodies.{ack_takes}
use Rattle.dist_messages.proofs.Readers.{Read, IsReader, old_name_reader, new_name_reader, old_challenge_reader, new_challenge_reader, complement_reader}
use Rattle.dist_messages.proofs.Readers.{reply_reader, ack_reader}
use Rattle.dist_messages.specs.{Answer.Answers, Causes.status_tag, Views.has_name}
use Rattle.dist_messages.specs.Reading.{read, has_text, all_statuses, status_named, status_of, status_message, has_name_tag}
use Rattle.dist_messages.specs.declared.message.Message.TheVariants as message
use Rattle.dist_messages.specs.declared.message.Status.TheVariants as status
use Rattle.dist_messages.specs.declared.message_error.MessageError.TheVariants as errors

-- ---- a body that spells a message is read as it

pub status_again : (side : Side) (s : Status) → IsTrue (is_said_by s side) → status_of side (text_of s) ≡ Ok (message.Status s)
unfolding status_of
status_again Dialler status.True h = refl
status_again Dialler status.False h = refl
status_again Dialler s h = absurd cc
status_again Acceptor status.True h = absurd cc
status_again Acceptor status.False h = absurd cc
status_again Acceptor s h = refl

-- a body that spells a message is read as this message
pub spelled_is_read : (side : Side) (m : Message) (body : List ℕ) → Fits m → Spells side m body → read side body ≡ Ok m
unfolding read
spelled_is_read Dialler (message.OldName flags name) body f (version, v, e) = ap (read Dialler) e ∙ old_name_again version flags name v f
spelled_is_read Dialler (message.NewName flags creation name) body f (ignored, l, e) = ap (read Dialler) e ∙ new_name_again flags.0 creation.0 name ignored f.0 f.1 l
spelled_is_read Dialler (message.Complement high creation) body f e = ap (read Dialler) e ∙ complement_again high creation.0 f.0 f.1
spelled_is_read Dialler (message.Reply challenge digest) body f e = ap (read Dialler) e ∙ reply_again challenge digest f.0 f.1
spelled_is_read Dialler (message.Status s) body f (h, e) = ap (read Dialler) e ∙ status_again Dialler s h
spelled_is_read Acceptor (message.OldChallenge flags challenge name) body f (version, v, e) = ap (read Acceptor) e ∙ old_challenge_again version flags challenge name v f.0 f.1
spelled_is_read Acceptor (message.NewChallenge flags challenge creation name) body f (ignored, l, e) = ap (read Acceptor) e ∙ new_challenge_again flags.0 challenge creation.0 name ignored f.0 f.1 f.2 l
spelled_is_read Acceptor (message.Ack digest) body f e = ap (read Acceptor) e ∙ ack_again digest f
spelled_is_read Acceptor (message.Status s) body f (h, e) = ap (read Acceptor) e ∙ status_again Acceptor s h
spelled_is_read side m body f e = absurd e

-- ---- a body that is read as a message spells it

-- this side sends the status, and the text is its text
abbrev pub HasText : Side → List ℕ → Status → Type 0
HasText side text s = IsTrue (is_said_by s side) × (text ≡ text_of s)

pub status_found : (side : Side) (text : List ℕ) → IfSome (status_named side text) (HasText side text)
status_found side text =
    found-passes (has_text side text) (HasText side text)
    (λ s t. let p = and_parts (is_said_by s side) (pointwise ◌==◌ (text_of s) text) t in (p.0, sym (same_text (text_of s) text (sym p.1))))
    all_statuses

status_reads : (side : Side) (text : List ℕ) (m : Message) (o : Option Status) → IfSome o (HasText side text) → status_message o ≡ Ok m → Reads side 0x73 text m
status_reads side text m None found e = absurd cc
status_reads Dialler text m (Some s) found e = subst (Reads Dialler 0x73 text) (ok_is (message.Status s) m e) (record { spelled = (found.0, ap (λ (x : List ℕ). 0x73 ∷ x) found.1); fits = tt })
status_reads Acceptor text m (Some s) found e = subst (Reads Acceptor 0x73 text) (ok_is (message.Status s) m e) (record { spelled = (found.0, ap (λ (x : List ℕ). 0x73 ∷ x) found.1); fits = tt })

status_takes : (side : Side) (text : List ℕ) (m : Message) → status_of side text ≡ Ok m → Reads side 0x73 text m
unfolding status_of
status_takes side text m e = status_reads side text m (status_named side text) (status_found side text) e

abbrev pub done : Message → Result Message MessageError
done m = Ok m

abbrev pub refused : MessageError → Result Message MessageError
refused e = Err e

pub never_both : (m : Message) (e : MessageError) → done m ≡ refused e → ⊥
never_both m e h = cc

pub read_of_text : (side : Side) (text : List ℕ) → read side (status_tag ∷ text) ≡ status_of side text
unfolding read
read_of_text Dialler text = refl
read_of_text Acceptor text = refl

-- ---- the layout of a first byte

-- what is read behind a first byte
abbrev pub behind : Side → ℕ → Read
behind side tag rest = read side (tag ∷ rest)

-- what follows the first byte is fields, a text, or nothing that can be read
pub data Row (side : Side) (tag : ℕ) : Type 0 where
  Fields : IsReader (behind side tag) → ((rest : List ℕ) (m : Message) → IsBytes rest → behind side tag rest ≡ Ok m → Reads side tag rest m) → (tag ≡ status_tag → ⊥) → Row side tag
  Text : tag ≡ status_tag → Row side tag
  Nothing : ((rest : List ℕ) → behind side tag rest ≡ Err errors.UnknownTag) → (tag ≡ status_tag → ⊥) → Row side tag

by_test : (side : Side) (tag k : ℕ) → Row side k → (eqb tag k ≡ false → Row side tag) → Row side tag
by_test side tag k here there =
    elim (eqb tag k) as (λ v. eqb tag k ≡ v → Row side tag) [
      | true ↦ λ (t : eqb tag k ≡ true). subst (Row side) (sym (eqb-true tag k t)) here
      | false ↦ there
    ] refl

pub row_of : (side : Side) (tag : ℕ) → Row side tag
unfolding read
row_of Dialler tag =
    by_test Dialler tag 0x6e (Fields old_name_reader old_name_takes (eqb-false 0x6e status_tag refl)) (λ e1.
    by_test Dialler tag 0x4e (Fields new_name_reader new_name_takes (eqb-false 0x4e status_tag refl)) (λ e2.
    by_test Dialler tag 0x73 (Text refl) (λ e3.
    by_test Dialler tag 0x63 (Fields complement_reader complement_takes (eqb-false 0x63 status_tag refl)) (λ e4.
    by_test Dialler tag 0x72 (Fields reply_reader reply_takes (eqb-false 0x72 status_tag refl)) (λ e5.
    Nothing (λ rest. rw (e1, e2, e3, e4, e5) refl) (eqb-false tag 0x73 e3))))))
row_of Acceptor tag =
    by_test Acceptor tag 0x73 (Text refl) (λ e1.
    by_test Acceptor tag 0x6e (Fields old_challenge_reader old_challenge_takes (eqb-false 0x6e status_tag refl)) (λ e2.
    by_test Acceptor tag 0x4e (Fields new_challenge_reader new_challenge_takes (eqb-false 0x4e status_tag refl)) (λ e3.
    by_test Acceptor tag 0x61 (Fields ack_reader ack_takes (eqb-false 0x61 status_tag refl)) (λ e4.
    Nothing (λ rest. rw (e1, e2, e3, e4) refl) (eqb-false tag 0x73 e1)))))

-- the first byte and what follows it
tagged : (side : Side) (tag : ℕ) (rest : List ℕ) (m : Message) → IsBytes rest → read side (tag ∷ rest) ≡ Ok m → Row side tag → Reads side tag rest m
tagged side tag rest m fits e (Fields _ takes _) = takes rest m fits e
tagged side tag rest m fits e (Text is) = subst (λ (t : ℕ). read side (t ∷ rest) ≡ Ok m → Reads side t rest m) (sym is) (λ k. status_takes side rest m (sym (read_of_text side rest) ∙ k)) e
tagged side tag rest m fits e (Nothing none _) = absurd (never_both m errors.UnknownTag (sym e ∙ none rest))

empty_reads : (side : Side) (m : Message) → read side [] ≡ Ok m → ⊥
unfolding read
empty_reads Dialler m e = cc
empty_reads Acceptor m e = cc

pub read_is_spelled : (side : Side) (body : List ℕ) (m : Message) → IsBytes body → read side body ≡ Ok m → Spells side m body × Fits m
read_is_spelled side [] m fits e = absurd (empty_reads side m e)
read_is_spelled side (tag ∷ rest) m fits e = let r = tagged side tag rest m (IsBytes-rest tag rest fits) e (row_of side tag) in (r.spelled, r.fits)

-- a body spells one message
pub one_message_lem : (side : Side) (m n : Message) (body : List ℕ) → Fits m → Fits n → Spells side m body → Spells side n body → m ≡ n
one_message_lem side m n body fm fn sm sn = ok_is m n (sym (spelled_is_read side m body fm sm) ∙ spelled_is_read side n body fn sn)

-- ---- in the words of the answers

pub found_from : (side : Side) (body : List ℕ) (r : Result Message MessageError) → IsBytes body → Answers (λ m. m) r (read side body) → IfOk r (λ m. Spells side m body)
found_from side body (Ok m) fits given = (read_is_spelled side body m fits given).0
found_from side body (Err e) fits given = tt

pub only_from : (side : Side) (body : List ℕ) (r : Result Message MessageError) (m : Message) → Answers (λ m. m) r (read side body) → Fits m → Spells side m body → Answers (λ m. m) r (Ok m)
only_from side body r m given f s = subst (λ (x : Result Message MessageError). Answers (λ m. m) r x) (spelled_is_read side m body f s) given

-- ---- which bodies have a name

-- a message with a name has the tag of one
tag_of_named : (side : Side) (m : Message) (body : List ℕ) → Spells side m body → IsTrue (has_name m) → IsTrue (has_name_tag body)
tag_of_named Dialler (message.OldName flags name) body (version, v, e) h = rw e refl
tag_of_named Dialler (message.NewName flags creation name) body (ignored, l, e) h = rw e refl
tag_of_named Acceptor (message.OldChallenge flags challenge name) body (version, v, e) h = rw e refl
tag_of_named Acceptor (message.NewChallenge flags challenge creation name) body (ignored, l, e) h = rw e refl
tag_of_named side (message.Status s) body e h = absurd cc
tag_of_named side (message.Complement high creation) body e h = absurd cc
tag_of_named side (message.Reply challenge digest) body e h = absurd cc
tag_of_named side (message.Ack digest) body e h = absurd cc
tag_of_named side m body e h = absurd e

-- the same for a message that was read
pub named_has_tag : (side : Side) (body : List ℕ) (m : Message) → IsBytes body → read side body ≡ Ok m → IsTrue (has_name m) → IsTrue (has_name_tag body)
named_has_tag side body m fits e = tag_of_named side m body (read_is_spelled side body m fits e).0
