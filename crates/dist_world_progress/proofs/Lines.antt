-- What is on the way in one direction, message by message.
use Rattle.dist_world_model.proofs.Words.{◌≡◌, ℕ, ◌+◌, ◌^◌, ◌<◌, ◌≤◌, Bool, true, false, cond, ◌⊎◌, List, [], ◌∷◌, ◌++◌, ◌&&◌, length, take, drop, Some, None, Ok, sym}
use Rattle.dist_world_model.proofs.Words.{refl, ap, ◌∙◌, subst, inl, inr, append_assoc, append-nil, arith, length-append, w16, drop-append-le}
use Rattle.dist_world_model.proofs.Words.{take-append-le, from_be_bytes, to_be_bytes, behind, body_frame, first_body, front, has_first, head, body_taken, Text}
use Rattle.dist_world_model.proofs.Words.{announced_by, high_half, low_half, read, is_said_by, Form, Message, Side, Acceptor, Dialler, Status, knows_six, Setup, NodeLaws}
use Rattle.dist_world_model.proofs.{SentFrames.IsFit, SentFrames.digest-length, WholeFrames.on_way, WholeFrames.starts}
use Rattle.std.proofs.{Common.le-leb, Common.leb, Math.Seq.drop-append_seam, Math.Seq.take-append_seam}
use Rattle.std.proofs.lemmas.Nat.{from_be_bytes-to_be_bytes_2}
use Rattle.dist_messages.specs.{Canonical.canonical, Spelling.Fits}
use Rattle.dist_messages.specs.declared.form.Form.TheVariants as form
use Rattle.dist_messages.specs.declared.message.Message.TheVariants as message
use Rattle.dist_core.specs.Rows.{is_alive, is_reply, lets_go_on}
use Rattle.dist_core_setup.specs.Saying.{challenge_text, CanBeSaid, ack_message, challenge_message, complement_message, frames_of_messages}
use Rattle.dist_core_setup.specs.Saying.{new_name_message, old_name_message, reply_message, ack_text}
use Rattle.dist_core_setup.specs.Saying.{greeting_text, name_text, reply_text, status_text, frame_of}

-- the text begins with a frame whose body passes the test if it is read as a message, and P holds of what is behind it
pub record Next (side : Side) (test : Message → Bool) (P : List ℕ → Type 0) (text : List ℕ) : Type 0 where
  pub body : List ℕ
  pub rest : List ℕ
  pub is : text ≡ body_frame w16 body ++ rest
  pub fits : length body < 2 ^ 16
  pub read_as : (m : Message) → read side body ≡ Ok m → test m ≡ true
  pub more : P rest

-- the text is frames that pass these tests, one after another
abbrev pub Line : Side → List (Message → Bool) → List ℕ → Type 0
Line side [] text = text ≡ []
Line side (test ∷ tests) text = Next side test (λ rest. Line side tests rest) text

-- ---- the tests

abbrev pub any : Message → Bool
any m = true

-- a status with which the dialled end goes on
abbrev pub lets : Message → Bool
lets (message.Status s) = lets_go_on s
lets m = false

-- the status `alive`
abbrev pub asks : Message → Bool
asks (message.Status s) = is_alive s
asks m = false

-- the reply is on its way, and the complement may come before it
abbrev pub Replying : List ℕ → Type 0
Replying text = Line Dialler (any ∷ is_reply ∷ []) text ⊎ Line Dialler (is_reply ∷ []) text

-- ---- what is taken

-- where a body was taken a frame had come
began : (s b : List ℕ) → first_body w16 s ≡ Some b → (has_first w16 s ≡ true) × (front w16 s ≡ b)
began s b is = elim (has_first w16 s) as (λ t. has_first w16 s ≡ t → cond t (Some (front w16 s)) None ≡ Some b → (has_first w16 s ≡ true) × (front w16 s ≡ b)) [
  | true ↦ λ t e. (t, cc)
  | false ↦ λ t e. absurd cc
] refl is

pub way-empty : (x : Text) (b : List ℕ) → on_way x ≡ [] → first_body w16 x.come ≡ Some b → ⊥
way-empty x b e is = let st = starts x.come (began x.come b is).0 in let n : length (x.come ++ x.said) ≡ 0 = ap length e in omega (arith, n, length-append x.come x.said, st.long)

-- the body that is taken is the first on the way, and what is behind it is on the way still
pub way-first : (x : Text) (b c rest : List ℕ) → on_way x ≡ body_frame w16 c ++ rest → length c < 2 ^ 16 → first_body w16 x.come ≡ Some b → (b ≡ c) × (on_way (body_taken x) ≡ rest)
way-first x b c rest e fits is =
    let g = began x.come b is in
    let st = starts x.come g.0 in
    let H : List ℕ = to_be_bytes w16 (length c) in
    let whole : x.come ++ x.said ≡ H ++ (c ++ rest) = e ∙ append_assoc H c rest in
    let top : take 2 x.come ≡ H = sym (take-append-le 2 x.come x.said st.long) ∙ ap (take 2) whole ∙ take-append_seam H (c ++ rest) in
    let low : drop 2 x.come ++ x.said ≡ c ++ rest = sym (drop-append-le 2 x.come x.said st.long) ∙ ap (drop 2) whole ∙ drop-append_seam H (c ++ rest) in
    let size : head w16 x.come ≡ length c = ap (from_be_bytes w16) top ∙ from_be_bytes-to_be_bytes_2 (length c) fits in
    let within : length c ≤ length (drop 2 x.come) = subst (λ n. n ≤ length (drop 2 x.come)) size st.whole in
    let body : b ≡ c = sym g.1 ∙ ap (λ n. take n (drop 2 x.come)) size ∙ sym (take-append-le (length c) (drop 2 x.come) x.said within) ∙ ap (take (length c)) low ∙ take-append_seam c rest in
    let left : behind w16 x.come ++ x.said ≡ rest = ap (λ n. drop n (drop 2 x.come) ++ x.said) size ∙ sym (drop-append-le (length c) (drop 2 x.come) x.said within) ∙ ap (drop (length c)) low ∙ drop-append_seam c rest in
    (body, ap (λ t. cond t (behind w16 x.come) x.come ++ x.said) g.0 ∙ left)

pub line-taken : (side : Side) (test : Message → Bool) (P : List ℕ → Type 0) (x : Text) (b : List ℕ) → Next side test P (on_way x) → first_body w16 x.come ≡ Some b
    → ((m : Message) → read side b ≡ Ok m → test m ≡ true) × P (on_way (body_taken x))
line-taken side test P x b n is =
    let g = way-first x b n.body n.rest n.is n.fits is in
    (subst (λ z. (m : Message) → read side z ≡ Ok m → test m ≡ true) (sym g.0) n.read_as, subst P (sym g.1) n.more)

-- a frame that is first stands whole
pub line-first : (side : Side) (test : Message → Bool) (P : List ℕ → Type 0) (s : List ℕ) → Next side test P s → (body : List ℕ) × (first_body w16 s ≡ Some body)
line-first side test P s n =
    let H : List ℕ = to_be_bytes w16 (length n.body) in
    let whole : s ≡ H ++ (n.body ++ n.rest) = n.is ∙ append_assoc H n.body n.rest in
    let top : take 2 s ≡ H = ap (take 2) whole ∙ take-append_seam H (n.body ++ n.rest) in
    let low : drop 2 s ≡ n.body ++ n.rest = ap (drop 2) whole ∙ drop-append_seam H (n.body ++ n.rest) in
    let size : head w16 s ≡ length n.body = ap (from_be_bytes w16) top ∙ from_be_bytes-to_be_bytes_2 (length n.body) n.fits in
    let count : length s ≡ 2 + length (n.body ++ n.rest) = ap length whole ∙ length-append H (n.body ++ n.rest) in
    let long : leb 2 (length s) ≡ true = le-leb 2 (length s) (omega (arith, count)) in
    let wide : leb (head w16 s) (length (drop 2 s)) ≡ true = (λ i. leb (size i) (length (low i))) ∙ le-leb (length n.body) (length (n.body ++ n.rest)) (omega (arith, length-append n.body n.rest)) in
    let has : has_first w16 s ≡ true = (λ i. long i && wide i) in
    (front w16 s, ap (λ t. cond t (Some (front w16 s)) None) has)

-- ---- what is sent

pub from-none : (P : List ℕ → Type 0) (t say : List ℕ) → t ≡ [] → P say → P (t ++ say)
from-none P t say e p = subst P (sym (ap (λ z. z ++ say) e)) p

pub next-more : (side : Side) (test : Message → Bool) (t say : List ℕ) → Next side test (λ r. Unit {0}) t → Next side test (λ r. Unit {0}) (t ++ say)
next-more side test t say n = record { body = n.body; rest = n.rest ++ say; is = ap (λ z. z ++ say) n.is ∙ append_assoc (body_frame w16 n.body) n.rest say; fits = n.fits; read_as = n.read_as; more = tt }

said-next : (side : Side) (test : Message → Bool) (P : List ℕ → Type 0) (m : Message) (rest : List ℕ) → length (canonical m) < 2 ^ 16 → ((k : Message) → read side (canonical m) ≡ Ok k → test k ≡ true) → P rest
    → Next side test P (frame_of m ++ rest)
unfolding frame_of
said-next side test P m rest f g p = record { body = canonical m; rest = rest; is = refl; fits = f; read_as = g; more = p }

line-one : (side : Side) (test : Message → Bool) (m : Message) → length (canonical m) < 2 ^ 16 → ((k : Message) → read side (canonical m) ≡ Ok k → test k ≡ true) → Line side (test ∷ []) (frames_of_messages (m ∷ []))
line-one side test m f g = subst (Next side test (λ r. r ≡ [])) (append-nil (frame_of m)) (said-next side test (λ r. r ≡ []) m [] f g refl)

line-two : (side : Side) (test after : Message → Bool) (m n : Message) → length (canonical m) < 2 ^ 16 → ((k : Message) → read side (canonical m) ≡ Ok k → test k ≡ true) → Line side (after ∷ []) (frames_of_messages (n ∷ []))
    → Line side (test ∷ after ∷ []) (frames_of_messages (m ∷ n ∷ []))
line-two side test after m n f g p = said-next side test (Line side (after ∷ [])) m (frames_of_messages (n ∷ [])) f g p

module _ (laws : NodeLaws) where
  read-exactly : (side : Side) (m : Message) (test : Message → Bool) → Fits m → CanBeSaid side m → test m ≡ true → (k : Message) → read side (canonical m) ≡ Ok k → test k ≡ true
  read-exactly side m test f c h k e = let q : Ok m ≡ Ok k = sym (laws.sayings.read_back side m f c) ∙ e in let z : m ≡ k = cc in subst (λ z. test z ≡ true) z h

  pub status-line : (side : Side) (test : Message → Bool) (k : Status) → is_said_by k side ≡ true → test (message.Status k) ≡ true → Line side (test ∷ []) (status_text k)
  status-line side test k b h = let c = laws.sayings.says_status side k b in line-one side test (message.Status k) c.1 (read-exactly side (message.Status k) test tt c h)

  module _ (s : Setup) (fit : IsFit s) where
    pub name-line : (o : Form) → Line Dialler (any ∷ []) (name_text s o)
    name-line form.New =
        elim (knows_six s) as (λ v. Line Dialler (any ∷ []) (frames_of_messages (cond v (new_name_message s) (old_name_message s) ∷ []))) [
          | true ↦ (let c = laws.sayings.says_new_name (record { 0 = announced_by s }) s.creation s.name fit.name in line-one Dialler any (new_name_message s) c.1 (λ k e. refl))
          | false ↦ (let c = laws.sayings.says_old_name (low_half (announced_by s)) s.name fit.name in line-one Dialler any (old_name_message s) c.1 (λ k e. refl))
        ]
    name-line form.Old = let c = laws.sayings.says_old_name (low_half (announced_by s)) s.name fit.name in line-one Dialler any (old_name_message s) c.1 (λ k e. refl)
    name-line form.Five = let c = laws.sayings.says_old_name (low_half (announced_by s)) s.name fit.name in line-one Dialler any (old_name_message s) c.1 (λ k e. refl)

    challenge-short : (o : Form) (fresh : ℕ) → length (canonical (challenge_message s o fresh)) < 2 ^ 16
    challenge-short form.New fresh = let c = laws.sayings.says_challenge (record { 0 = announced_by s }) fresh s.creation s.name fit.name in c.1
    challenge-short form.Old fresh = let c = laws.sayings.says_challenge (record { 0 = announced_by s }) fresh s.creation s.name fit.name in c.1
    challenge-short form.Five fresh = let c = laws.sayings.says_old_challenge (low_half (announced_by s)) fresh s.name fit.name in c.1

    pub challenge-line : (o : Form) (fresh : ℕ) → Line Acceptor (any ∷ []) (challenge_text s o fresh)
    challenge-line o fresh = line-one Acceptor any (challenge_message s o fresh) (challenge-short o fresh) (λ k e. refl)

    pub greeting-line : (k : Status) (o : Form) (fresh : ℕ) → is_said_by k Acceptor ≡ true → lets_go_on k ≡ true → Line Acceptor (lets ∷ any ∷ []) (greeting_text s k o fresh)
    greeting-line k o fresh b h =
        let c = laws.sayings.says_status Acceptor k b in
        line-two Acceptor lets any (message.Status k) (challenge_message s o fresh) c.1 (read-exactly Acceptor (message.Status k) lets tt c h) (challenge-line o fresh)

    one-reply : (p : List ℕ) (fresh challenge : ℕ) → fresh < 2 ^ 32 → Line Dialler (is_reply ∷ []) (frames_of_messages (reply_message s p fresh challenge ∷ []))
    one-reply p fresh challenge small =
        let d = digest-length laws s p challenge in
        let c = laws.sayings.says_reply fresh _ d in
        line-one Dialler is_reply (reply_message s p fresh challenge) c.1 (read-exactly Dialler (reply_message s p fresh challenge) is_reply (small, d) c refl)

    pub reply-line : (o : Form) (p : List ℕ) (fresh challenge : ℕ) → fresh < 2 ^ 32 → Replying (reply_text s o p fresh challenge)
    reply-line form.New p fresh challenge small = inr (one-reply p fresh challenge small)
    reply-line form.Old p fresh challenge small =
        let c = laws.sayings.says_complement (high_half (announced_by s)) s.creation in
        inl (line-two Dialler any is_reply (complement_message s) (reply_message s p fresh challenge) c.1 (λ k e. refl) (one-reply p fresh challenge small))
    reply-line form.Five p fresh challenge small = inr (one-reply p fresh challenge small)

    pub ack-next : (p : List ℕ) (challenge : ℕ) → Next Acceptor any (λ r. Unit {0}) (ack_text s p challenge)
    ack-next p challenge =
        let c = laws.sayings.says_ack _ (digest-length laws s p challenge) in
        let n = line-one Acceptor any (ack_message s p challenge) c.1 (λ k e. refl) in
        record { body = n.body; rest = n.rest; is = n.is; fits = n.fits; read_as = n.read_as; more = tt }
