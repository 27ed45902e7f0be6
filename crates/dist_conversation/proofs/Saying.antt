-- A side is read, message by message.
use Rattle.std.proofs.Common.{◌≡◌, ℕ, suc, ◌+◌, ◌-◌, ◌<◌, ◌≤◌, Bool, true, false, cond, List, [], ◌∷◌, ◌++◌, length, drop, Some, None}
use Rattle.std.proofs.Common.{refl, sym, ap, ◌∙◌, arith, append_assoc, append-nil, length-append, length-drop}
use Rattle.dist_messages.specs.declared.message.Side.{Side}
use Rattle.dist_talk.specs.declared.handshake.SentMessage.{SentMessage}
use Rattle.dist_conversation.specs.Said.{Said, body_in, ends_part, said_from, sent_by, with_first}
use Rattle.dist_conversation.specs.declared.pieces.Arrival.{Arrival}

-- the next message, behind so many bytes
abbrev pub next_of : Side → List Arrival → List ℕ → ℕ → SentMessage
next_of side pieces body count = sent_by side pieces body (count + (length body + 2))

-- THESE WERE READ, in so many bytes, and the rest goes on as all of it
pub record Reads (side : Side) (pieces : List Arrival) (bytes : List ℕ) (messages : List SentMessage) (count : ℕ) : Type 0 where
  pub within : count ≤ length bytes
  pub few : length messages ≤ 8
  pub messages_are : messages ++ (said_from (8 - length messages) side pieces bytes count).messages ≡ (said_from 8 side pieces bytes 0).messages
  pub left_is : (said_from (8 - length messages) side pieces bytes count).left ≡ (said_from 8 side pieces bytes 0).left

pub reads_none : (side : Side) (pieces : List Arrival) (bytes : List ℕ) → Reads side pieces bytes [] 0
reads_none side pieces bytes = record { within = omega arith; few = omega arith; messages_are = refl; left_is = refl }

one_more : (side : Side) (pieces : List Arrival) (bytes : List ℕ) (n count : ℕ) (body : List ℕ) → body_in side (drop count bytes) ≡ Some body → said_from (suc n) side pieces bytes count
    ≡ with_first (next_of side pieces body count) (cond (ends_part side (next_of side pieces body count).content) (record { messages = []; left = [] }) (said_from n side pieces bytes (count + (length body + 2))))
unfolding said_from
one_more side pieces bytes n count body is = rw is refl

none_more : (side : Side) (pieces : List Arrival) (bytes : List ℕ) (n count : ℕ) → body_in side (drop count bytes) ≡ None → said_from (suc n) side pieces bytes count ≡ record { messages = []; left = drop count bytes }
unfolding said_from
none_more side pieces bytes n count is = rw is refl

-- these are read, and so is what follows, where so many may come yet
after : (side : Side) (pieces : List Arrival) (bytes : List ℕ) (messages : List SentMessage) (count n : ℕ) (rest : Said) → Reads side pieces bytes messages count → 8 - length messages ≡ n
    → said_from n side pieces bytes count ≡ rest → (messages ++ rest.messages ≡ (said_from 8 side pieces bytes 0).messages) × (rest.left ≡ (said_from 8 side pieces bytes 0).left)
after side pieces bytes messages count n rest p room is =
    let same : said_from (8 - length messages) side pieces bytes count ≡ rest = ap (λ (k : ℕ). said_from k side pieces bytes count) room ∙ is in (
      ap (λ (s : Said). messages ++ s.messages) (sym same) ∙ p.messages_are,
      ap (λ (s : Said). s.left) (sym same) ∙ p.left_is,
    )

-- nothing more is whole
pub reads_end : (side : Side) (pieces : List Arrival) (bytes : List ℕ) (messages : List SentMessage) (count : ℕ) → length messages < 8 → body_in side (drop count bytes) ≡ None → Reads side pieces bytes messages count
    → (messages ≡ (said_from 8 side pieces bytes 0).messages) × (drop count bytes ≡ (said_from 8 side pieces bytes 0).left)
reads_end side pieces bytes messages count few none p =
    let q = after side pieces bytes messages count (suc (7 - length messages)) _ p (omega arith) (none_more side pieces bytes (7 - length messages) count none) in
    (sym (append-nil messages) ∙ q.0, q.1)

-- no more is read
pub reads_full : (side : Side) (pieces : List Arrival) (bytes : List ℕ) (messages : List SentMessage) (count : ℕ) → 8 ≤ length messages → Reads side pieces bytes messages count
    → (messages ≡ (said_from 8 side pieces bytes 0).messages) × ([] ≡ (said_from 8 side pieces bytes 0).left)
unfolding said_from
reads_full side pieces bytes messages count full p =
    let q = after side pieces bytes messages count 0 _ p (omega arith) refl in
    (sym (append-nil messages) ∙ q.0, q.1)

-- one more is the last of its part
pub reads_last : (side : Side) (pieces : List Arrival) (bytes : List ℕ) (messages : List SentMessage) (count : ℕ) (body : List ℕ) (m : SentMessage) → length messages < 8
    → body_in side (drop count bytes) ≡ Some body → m ≡ next_of side pieces body count → ends_part side m.content ≡ true → Reads side pieces bytes messages count
    → (messages ++ m ∷ [] ≡ (said_from 8 side pieces bytes 0).messages) × ([] ≡ (said_from 8 side pieces bytes 0).left)
reads_last side pieces bytes messages count body m few is made last p =
    let rest : Said = said_from (7 - length messages) side pieces bytes (count + (length body + 2)) in
    let all : said_from (suc (7 - length messages)) side pieces bytes count ≡ record { messages = m ∷ []; left = [] } =
    one_more side pieces bytes (7 - length messages) count body is
    ∙ ap (λ (x : SentMessage). with_first x (cond (ends_part side x.content) (record { messages = []; left = [] }) rest)) (sym made)
    ∙ ap (λ (b : Bool). with_first m (cond b (record { messages = []; left = [] }) rest)) last in
    after side pieces bytes messages count (suc (7 - length messages)) _ p (omega arith) all

-- one more, and others may follow
pub reads_more : (side : Side) (pieces : List Arrival) (bytes : List ℕ) (messages : List SentMessage) (count : ℕ) (body : List ℕ) (m : SentMessage) → length messages < 8 → length body + 2 ≤ length (drop count bytes)
    → body_in side (drop count bytes) ≡ Some body → m ≡ next_of side pieces body count → ends_part side m.content ≡ false → Reads side pieces bytes messages count
    → Reads side pieces bytes (messages ++ m ∷ []) (count + (length body + 2))
reads_more side pieces bytes messages count body m few size is made goes_on p =
    let n : ℕ = 7 - length messages in
    let rest : Said = said_from n side pieces bytes (count + (length body + 2)) in
    let all : said_from (suc n) side pieces bytes count ≡ with_first m rest =
    one_more side pieces bytes n count body is
    ∙ ap (λ (x : SentMessage). with_first x (cond (ends_part side x.content) (record { messages = []; left = [] }) rest)) (sym made)
    ∙ ap (λ (b : Bool). with_first m (cond b (record { messages = []; left = [] }) rest)) goes_on in
    let q = after side pieces bytes messages count (suc n) _ p (omega arith) all in
    let len : length (messages ++ m ∷ []) ≡ length messages + 1 = length-append messages (m ∷ []) in
    let room : 8 - length (messages ++ m ∷ []) ≡ n = omega (arith, len) in
    record {
      within = omega (arith, length-drop count bytes, size, p.within);
      few = omega (arith, len);
      messages_are = ap (λ (k : ℕ). (messages ++ m ∷ []) ++ (said_from k side pieces bytes (count + (length body + 2))).messages) room ∙ append_assoc messages (m ∷ []) rest.messages ∙ q.0;
      left_is = ap (λ (k : ℕ). (said_from k side pieces bytes (count + (length body + 2))).left) room ∙ q.1;
    }
