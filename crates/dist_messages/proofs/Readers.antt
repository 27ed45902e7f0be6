-- What is read one field after the other: what is answered to bytes that are too few or too many.
use Rattle.dist_messages.proofs.Words.{◌≡◌, ℕ, ◌-◌, ◌<◌, ◌≤◌, false, cond, eqb, ltb, ◌⊎◌, List, [], ◌∷◌, ◌++◌, length, take, drop, Some, None, Ok, Err, Option}
use Rattle.dist_messages.proofs.Words.{Result, sym, refl, ap, ◌∙◌, inl, inr, append_assoc, arith, length-append, take-append-drop, length-take-le, take_at}
use Rattle.dist_messages.proofs.Words.{drop_at, w16, w32, w64, le-ltb, lt-ltb, ne_eqb, cases_lt, length-replicate, from_be_bytes, IsBytes, IsBytes-append}
use Rattle.dist_messages.proofs.Words.{IsBytes-zeros, zeros, Message, MessageError, Long, Short}
use Rattle.dist_messages.specs.Reading.{◌>>=◌, value_at_end, old_name, new_name, old_challenge, new_challenge, complement, reply, ack}

-- ---- a reader of fields

abbrev pub Read : Type 0
Read = List ℕ → Result Message MessageError

-- with some more bytes behind them, these bytes are read
pub record Completed (f : Read) (bytes : List ℕ) : Type 0 where
  pub more : List ℕ
  pub more_bytes : IsBytes more
  pub message : Message
  pub whole : f (bytes ++ more) ≡ Ok message

-- a prefix of the bytes is read
pub record Overrun (f : Read) (bytes : List ℕ) : Type 0 where
  pub front : List ℕ
  pub next : ℕ
  pub more : List ℕ
  pub parts : bytes ≡ front ++ (next ∷ more)
  pub message : Message
  pub whole : f front ≡ Ok message

-- whether the bytes are too few, as many as are read, or too many
abbrev pub stage : Result Message MessageError → ℕ
stage (Err Short) = 0
stage (Ok m) = 1
stage (Err e) = 2

abbrev pub Refusal : Read → List ℕ → MessageError → Type 0
Refusal f bytes e = ((e ≡ Short) × Completed f bytes) ⊎ ((e ≡ Long) × Overrun f bytes)

pub record IsReader (f : Read) : Type 0 where
  pub nothing : Completed f []
  pub refusal : (bytes : List ℕ) (e : MessageError) → f bytes ≡ Err e → Refusal f bytes e
  pub grows : (bytes more : List ℕ) → stage (f bytes) ≤ stage (f (bytes ++ more))

-- ---- the end

abbrev refused : MessageError → Result Message MessageError
refused e = Err e

pub rest_reader : (f : List ℕ → Message) → IsReader (λ rest. Ok (f rest))
rest_reader f = record {
  nothing = record { more = []; more_bytes = λ i. IsBytes-zeros 0 i; message = f []; whole = refl };
  refusal = λ bytes e h. absurd cc;
  grows = λ bytes more. omega arith;
}

behind : (b : ℕ) (rest : List ℕ) (m : Message) → value_at_end (b ∷ rest) m ≡ Err Long
behind b rest m = let e : eqb (length (b ∷ rest)) 0 ≡ false = ne_eqb (length (b ∷ rest)) 0 (λ h. omega (arith, h)) in rw e refl

end_refusal : (m : Message) (bytes : List ℕ) (e : MessageError) → value_at_end bytes m ≡ Err e → Refusal (λ rest. value_at_end rest m) bytes e
end_refusal m [] e h = absurd cc
end_refusal m (b ∷ rest) e h =
    let long : refused Long ≡ refused e = sym (behind b rest m) ∙ h in
    inr (cc, record { front = []; next = b; more = rest; parts = refl; message = m; whole = refl })

end_grows : (m : Message) (bytes more : List ℕ) → stage (value_at_end bytes m) ≤ stage (value_at_end (bytes ++ more) m)
end_grows m [] [] = omega arith
end_grows m [] (b ∷ more) = rw (behind b more m) (omega arith)
end_grows m (b ∷ bytes) more = rw (behind b bytes m, behind b (bytes ++ more) m) (omega arith)

pub end_reader : (m : Message) → IsReader (λ rest. value_at_end rest m)
end_reader m = record {
  nothing = record { more = []; more_bytes = λ i. IsBytes-zeros 0 i; message = m; whole = refl };
  refusal = end_refusal m;
  grows = end_grows m;
}

-- ---- a field before others

-- the field, and what stands behind it
record Split (n : ℕ) (bytes : List ℕ) : Type 0 where
  pub head : List ℕ
  pub rest : List ℕ
  pub parts : bytes ≡ head ++ rest
  pub len : length head ≡ n

split_at : (n : ℕ) (bytes : List ℕ) → n ≤ length bytes → Split n bytes
split_at n bytes le = record { head = take n bytes; rest = drop n bytes; parts = sym (take-append-drop n bytes); len = length-take-le n bytes le }

pub stages : (a b c d : Result Message MessageError) → a ≡ c → b ≡ d → stage c ≤ stage d → stage a ≤ stage b
stages a b c d p q h = rw (p, q) h

abbrev pub at : {A : Type 0} → ℕ → (List ℕ → A) → List ℕ → Option (A × List ℕ)
at n value bytes = cond (ltb (length bytes) n) None (Some (value (take n bytes), drop n bytes))

abbrev pub then : {A : Type 0} → ℕ → (List ℕ → A) → (A × List ℕ → Result Message MessageError) → Read
then n value g bytes = at n value bytes >>= g

module _ {A : Type 0} (n : ℕ) (value : List ℕ → A) (g : A × List ℕ → Result Message MessageError) where
  few : (bytes : List ℕ) → length bytes < n → then n value g bytes ≡ Err Short
  few bytes lt = rw (lt-ltb (length bytes) n lt) refl

  is : (head rest : List ℕ) → length head ≡ n → then n value g (head ++ rest) ≡ g (value head, rest)
  is head rest len =
      let long : ltb (length (head ++ rest)) n ≡ false = le-ltb _ _ (omega (arith, length-append head rest)) in
      rw (long, take_at head rest n len, drop_at head rest n len) refl

  here : (bytes : List ℕ) (s : Split n bytes) → then n value g bytes ≡ g (value s.head, s.rest)
  here bytes s = ap (then n value g) s.parts ∙ is s.head s.rest s.len

  later : (bytes more : List ℕ) (s : Split n bytes) → then n value g (bytes ++ more) ≡ g (value s.head, s.rest ++ more)
  later bytes more s = ap (then n value g) (ap (λ (x : List ℕ). x ++ more) s.parts ∙ append_assoc s.head s.rest more) ∙ is s.head (s.rest ++ more) s.len

  module _ (readers : (x : A) → IsReader (λ rest. g (x, rest))) where
    fill : (bytes : List ℕ) → length bytes ≤ n → Completed (then n value g) bytes
    fill bytes le =
        let pad = zeros (n - length bytes) in
        let head = bytes ++ pad in
        let len : length head ≡ n = omega (arith, le, length-append bytes pad, length-replicate {A = ℕ} (n - length bytes) 0) in
        let c = (readers (value head)).nothing in
        record {
          more = pad ++ c.more;
          more_bytes = IsBytes-append pad c.more (IsBytes-zeros (n - length bytes)) c.more_bytes;
          message = c.message;
          whole = ap (then n value g) (sym (append_assoc bytes pad c.more)) ∙ is head c.more len ∙ c.whole;
        }

    then_refusal : (bytes : List ℕ) (e : MessageError) → then n value g bytes ≡ Err e → Refusal (then n value g) bytes e
    then_refusal bytes e h =
        elim (cases_lt (length bytes) n) [
          | inl lt ↦ let short : refused Short ≡ refused e = sym (few bytes lt) ∙ h in inl (cc, fill bytes (omega (arith, lt)))
          | inr le ↦
              let s = split_at n bytes le in
              elim ((readers (value s.head)).refusal s.rest e (sym (here bytes s) ∙ h)) [
                | inl p ↦ let c = p.1 in inl (p.0, record { more = c.more; more_bytes = c.more_bytes; message = c.message; whole = later bytes c.more s ∙ c.whole })
                | inr p ↦
                    let c = p.1 in
                    let over : Overrun (then n value g) bytes = record {
                      front = s.head ++ c.front;
                      next = c.next;
                      more = c.more;
                      parts = s.parts ∙ ap (λ (x : List ℕ). s.head ++ x) c.parts ∙ sym (append_assoc s.head c.front (c.next ∷ c.more));
                      message = c.message;
                      whole = is s.head c.front s.len ∙ c.whole;
                    } in
                    inr (p.0, over)
              ]
        ]

    then_grows : (bytes more : List ℕ) → stage (then n value g bytes) ≤ stage (then n value g (bytes ++ more))
    then_grows bytes more =
        elim (cases_lt (length bytes) n) [
          | inl lt ↦ stages _ _ (Err Short) _ (few bytes lt) refl (omega arith)
          | inr le ↦ let s = split_at n bytes le in stages _ _ _ _ (here bytes s) (later bytes more s) ((readers (value s.head)).grows s.rest more)
        ]

    pub then_reader : IsReader (then n value g)
    then_reader = record { nothing = fill [] (omega arith); refusal = then_refusal; grows = then_grows }

-- ---- the layouts

pub old_name_reader : IsReader old_name
unfolding old_name
old_name_reader = then_reader 2 (from_be_bytes w16) _ (λ version. then_reader 4 (from_be_bytes w32) _ (λ flags. rest_reader _))

pub complement_reader : IsReader complement
unfolding complement
complement_reader = then_reader 4 (from_be_bytes w32) _ (λ high. then_reader 4 (from_be_bytes w32) _ (λ creation. end_reader _))

pub reply_reader : IsReader reply
unfolding reply
reply_reader = then_reader 4 (from_be_bytes w32) _ (λ challenge. then_reader 16 (λ digest. digest) _ (λ digest. end_reader _))

pub ack_reader : IsReader ack
unfolding ack
ack_reader = then_reader 16 (λ digest. digest) _ (λ digest. end_reader _)

pub old_challenge_reader : IsReader old_challenge
unfolding old_challenge
old_challenge_reader =
    then_reader 2 (from_be_bytes w16) _ (λ version. then_reader 4 (from_be_bytes w32) _ (λ flags. then_reader 4 (from_be_bytes w32) _ (λ challenge. rest_reader _)))

pub new_name_reader : IsReader new_name
unfolding new_name
new_name_reader =
    then_reader 8 (from_be_bytes w64) _ (λ flags. then_reader 4 (from_be_bytes w32) _ (λ creation.
    then_reader 2 (from_be_bytes w16) _ (λ len. then_reader len (λ name. name) _ (λ name. rest_reader _))))

pub new_challenge_reader : IsReader new_challenge
unfolding new_challenge
new_challenge_reader =
    then_reader 8 (from_be_bytes w64) _ (λ flags. then_reader 4 (from_be_bytes w32) _ (λ challenge. then_reader 4 (from_be_bytes w32) _ (λ creation.
    then_reader 2 (from_be_bytes w16) _ (λ len. then_reader len (λ name. name) _ (λ name. rest_reader _)))))
