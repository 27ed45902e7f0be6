-- A body is read as a message exactly where it spells it.
use Rattle.dist_messages.proofs.Words.{◌≡◌, ℕ, ◌^◌, ◌<◌, Bool, true, false, cond, eqb, List, [], ◌∷◌, ◌++◌, length, Some, None, Ok, Err, Option, Result, sym}
use Rattle.dist_messages.proofs.Words.{refl, ap, ◌∙◌, subst, append-nil, arith, w16, w32, w64, eqb-true, nil_from_length, Width, to_be_bytes, IsBytes, bytes_at}
use Rattle.dist_messages.proofs.Words.{number_at, Fits, Spells, Message, Side, Acceptor, Dialler, MessageError, Long}
use Rattle.dist_names.proofs.Fields.{IsWide, wide16, wide32, wide64, number_takes, number_again, bytes_take, bytes_again}
use Rattle.dist_messages.specs.Reading.{◌>>=◌, value_at_end, old_name, new_name, old_challenge, new_challenge, complement, reply, ack}
use Rattle.dist_messages.specs.declared.message.Message.TheVariants as message

-- ---- a body that spells a message is read as it

digest_again : (digest : List ℕ) → length digest ≡ 16 → bytes_at 16 digest ≡ Some (digest, [])
digest_again digest d = ap (bytes_at 16) (sym (append-nil digest)) ∙ bytes_again 16 digest [] d

pub old_name_again : (version flags : ℕ) (name : List ℕ) → version < 2 ^ 16 → flags < 2 ^ 32 → old_name (to_be_bytes w16 version ++ to_be_bytes w32 flags ++ name) ≡ Ok (message.OldName flags name)
unfolding old_name
old_name_again version flags name v f = rw (number_again w16 (2 ^ 16) wide16 version (to_be_bytes w32 flags ++ name) v, number_again w32 (2 ^ 32) wide32 flags name f) refl

pub new_name_again : (flags creation : ℕ) (name ignored : List ℕ) → flags < 2 ^ 64 → creation < 2 ^ 32 → length name < 2 ^ 16 → new_name (to_be_bytes w64 flags ++ to_be_bytes w32 creation ++ to_be_bytes w16 (length name) ++ name ++ ignored) ≡ Ok (message.NewName (record { 0 = flags }) (record { 0 = creation }) name)
unfolding new_name
new_name_again flags creation name ignored f c l =
    rw (number_again w64 (2 ^ 64) wide64 flags (to_be_bytes w32 creation ++ (to_be_bytes w16 (length name) ++ (name ++ ignored))) f, number_again w32 (2 ^ 32) wide32 creation (to_be_bytes w16 (length name) ++ (name ++ ignored)) c, number_again w16 (2 ^ 16) wide16 (length name) (name ++ ignored) l, bytes_again (length name) name ignored refl) refl

pub old_challenge_again : (version flags challenge : ℕ) (name : List ℕ) → version < 2 ^ 16 → flags < 2 ^ 32 → challenge < 2 ^ 32 → old_challenge (to_be_bytes w16 version ++ to_be_bytes w32 flags ++ to_be_bytes w32 challenge ++ name) ≡ Ok (message.OldChallenge flags challenge name)
unfolding old_challenge
old_challenge_again version flags challenge name v f c = rw (number_again w16 (2 ^ 16) wide16 version (to_be_bytes w32 flags ++ (to_be_bytes w32 challenge ++ name)) v, number_again w32 (2 ^ 32) wide32 flags (to_be_bytes w32 challenge ++ name) f, number_again w32 (2 ^ 32) wide32 challenge name c) refl

pub new_challenge_again : (flags challenge creation : ℕ) (name ignored : List ℕ) → flags < 2 ^ 64 → challenge < 2 ^ 32 → creation < 2 ^ 32 → length name < 2 ^ 16 → new_challenge (to_be_bytes w64 flags ++ to_be_bytes w32 challenge ++ to_be_bytes w32 creation ++ to_be_bytes w16 (length name) ++ name ++ ignored) ≡ Ok (message.NewChallenge (record { 0 = flags }) challenge (record { 0 = creation }) name)
unfolding new_challenge
new_challenge_again flags challenge creation name ignored f h c l =
    rw (number_again w64 (2 ^ 64) wide64 flags (to_be_bytes w32 challenge ++ (to_be_bytes w32 creation ++ (to_be_bytes w16 (length name) ++ (name ++ ignored)))) f, number_again w32 (2 ^ 32) wide32 challenge (to_be_bytes w32 creation ++ (to_be_bytes w16 (length name) ++ (name ++ ignored))) h, number_again w32 (2 ^ 32) wide32 creation (to_be_bytes w16 (length name) ++ (name ++ ignored)) c, number_again w16 (2 ^ 16) wide16 (length name) (name ++ ignored) l, bytes_again (length name) name ignored refl) refl

pub complement_again : (high creation : ℕ) → high < 2 ^ 32 → creation < 2 ^ 32 → complement (to_be_bytes w32 high ++ to_be_bytes w32 creation) ≡ Ok (message.Complement high (record { 0 = creation }))
unfolding complement
complement_again high creation h c =
    ap (λ (r : Option (ℕ × List ℕ)). r >>= λ x. number_at w32 x.1 >>= λ y. value_at_end y.1 (message.Complement x.0 (record { 0 = y.0 }))) (number_again w32 (2 ^ 32) wide32 high (to_be_bytes w32 creation) h)
    ∙ ap (λ (r : Option (ℕ × List ℕ)). r >>= λ y. value_at_end y.1 (message.Complement high (record { 0 = y.0 }))) (number_again w32 (2 ^ 32) wide32 creation [] c)

pub reply_again : (challenge : ℕ) (digest : List ℕ) → challenge < 2 ^ 32 → length digest ≡ 16 → reply (to_be_bytes w32 challenge ++ digest) ≡ Ok (message.Reply challenge digest)
unfolding reply
reply_again challenge digest c d = rw (number_again w32 (2 ^ 32) wide32 challenge digest c, digest_again digest d) refl

pub ack_again : (digest : List ℕ) → length digest ≡ 16 → ack digest ≡ Ok (message.Ack digest)
unfolding ack
ack_again digest d = rw (digest_again digest d) refl

-- ---- what is read behind a field, and at the end of a body

-- the value of a field that was whole
bind_ok : {A B : Type 0} (r : Option A) (f : A → Result B MessageError) (y : B) → (r >>= f) ≡ Ok y → (x : A) × (r ≡ Some x) × (f x ≡ Ok y)
bind_ok (Some x) f y e = (x, refl, e)
bind_ok None f y e = absurd cc

abbrev done : {A : Type 0} → A → Result A MessageError
done x = Ok x

pub ok_is : {A : Type 0} (x y : A) → done x ≡ done y → x ≡ y
ok_is x y e = cc

ended_cases : {A : Type 0} (b : Bool) (x y : A) → cond b (done x) (Err Long) ≡ Ok y → (b ≡ true) × (x ≡ y)
ended_cases true x y e = (refl, cc)
ended_cases false x y e = absurd cc

ended_ok : {A : Type 0} (rest : List ℕ) (x y : A) → value_at_end rest x ≡ Ok y → (rest ≡ []) × (x ≡ y)
ended_ok rest x y e = let p = ended_cases (eqb (length rest) 0) x y e in (nil_from_length rest (eqb-true (length rest) 0 p.0), p.1)

-- ---- a body that is read as a message spells it

pub record Reads (side : Side) (tag : ℕ) (bytes : List ℕ) (m : Message) : Type 0 where
  pub spelled : Spells side m (tag ∷ bytes)
  pub fits : Fits m

-- behind the bytes in front a number is read, and then the rest
number_step : (w : Width) (limit : ℕ) (wide : IsWide w limit) (side : Side) (tag : ℕ) (front bytes : List ℕ) (f : ℕ × List ℕ → Result Message MessageError) (m : Message) → IsBytes bytes → (number_at w bytes >>= f) ≡ Ok m
    → ((n : ℕ) (rest : List ℕ) → n < limit → IsBytes rest → f (n, rest) ≡ Ok m → Reads side tag (front ++ (to_be_bytes w n ++ rest)) m) → Reads side tag (front ++ bytes) m
number_step w limit wide side tag front bytes f m fits e reads =
    let a = bind_ok (number_at w bytes) f m e in
    let t = number_takes w limit wide bytes a.0.0 a.0.1 fits a.1 in
    subst (λ (x : List ℕ). Reads side tag (front ++ x) m) (sym t.0.parts) (reads a.0.0 a.0.1 t.1 t.0.rest_fits a.2)

-- the same of bytes of a known number
bytes_step : (n : ℕ) (side : Side) (tag : ℕ) (front bytes : List ℕ) (f : List ℕ × List ℕ → Result Message MessageError) (m : Message) → IsBytes bytes → (bytes_at n bytes >>= f) ≡ Ok m
    → ((text rest : List ℕ) → length text ≡ n → f (text, rest) ≡ Ok m → Reads side tag (front ++ (text ++ rest)) m) → Reads side tag (front ++ bytes) m
bytes_step n side tag front bytes f m fits e reads =
    let a = bind_ok (bytes_at n bytes) f m e in
    let t = bytes_take n bytes a.0.0 a.0.1 fits a.1 in
    subst (λ (x : List ℕ). Reads side tag (front ++ x) m) (sym t.0.parts) (reads a.0.0 a.0.1 t.1 a.2)

-- it is the message that was made of the fields
read_as : (side : Side) (tag : ℕ) (bytes : List ℕ) (made m : Message) → done made ≡ Ok m → Spells side made (tag ∷ bytes) → Fits made → Reads side tag bytes m
read_as side tag bytes made m e spelled fits = subst (Reads side tag bytes) (ok_is made m e) (record { spelled = spelled; fits = fits })

-- the same of a message behind which nothing stands
ends_as : (side : Side) (tag : ℕ) (front rest : List ℕ) (made m : Message) → value_at_end rest made ≡ Ok m → Spells side made (tag ∷ front) → Fits made → Reads side tag (front ++ rest) m
ends_as side tag front rest made m e spelled fits =
    let g = ended_ok rest made m e in
    let all : front ++ rest ≡ front = ap (λ (x : List ℕ). front ++ x) g.0 ∙ append-nil front in
    subst (λ (x : List ℕ). Reads side tag x m) (sym all) (subst (Reads side tag front) g.1 (record { spelled = spelled; fits = fits }))

pub old_name_takes : (bytes : List ℕ) (m : Message) → IsBytes bytes → old_name bytes ≡ Ok m → Reads Dialler 0x6e bytes m
unfolding old_name
old_name_takes bytes m fits e =
    number_step w16 (2 ^ 16) wide16 Dialler 0x6e [] bytes _ m fits e (λ version rest v fits1 e1.
    number_step w32 (2 ^ 32) wide32 Dialler 0x6e (to_be_bytes w16 version) rest _ m fits1 e1 (λ flags name f _ e2.
    read_as Dialler 0x6e _ (message.OldName flags name) m e2 (version, v, refl) f))

pub new_name_takes : (bytes : List ℕ) (m : Message) → IsBytes bytes → new_name bytes ≡ Ok m → Reads Dialler 0x4e bytes m
unfolding new_name
new_name_takes bytes m fits e =
    number_step w64 (2 ^ 64) wide64 Dialler 0x4e [] bytes _ m fits e (λ flags rest f fits1 e1.
    number_step w32 (2 ^ 32) wide32 Dialler 0x4e (to_be_bytes w64 flags) rest _ m fits1 e1 (λ creation rest c fits2 e2.
    number_step w16 (2 ^ 16) wide16 Dialler 0x4e (to_be_bytes w64 flags ++ to_be_bytes w32 creation) rest _ m fits2 e2 (λ len rest l fits3 e3.
    bytes_step len Dialler 0x4e (to_be_bytes w64 flags ++ to_be_bytes w32 creation ++ to_be_bytes w16 len) rest _ m fits3 e3 (λ name ignored is e4.
    read_as Dialler 0x4e _ (message.NewName (record { 0 = flags }) (record { 0 = creation }) name) m e4
    (ignored, omega (arith, is, l), ap (λ (k : ℕ). 0x4e ∷ to_be_bytes w64 flags ++ to_be_bytes w32 creation ++ to_be_bytes w16 k ++ name ++ ignored) (sym is)) (f, c)))))

pub old_challenge_takes : (bytes : List ℕ) (m : Message) → IsBytes bytes → old_challenge bytes ≡ Ok m → Reads Acceptor 0x6e bytes m
unfolding old_challenge
old_challenge_takes bytes m fits e =
    number_step w16 (2 ^ 16) wide16 Acceptor 0x6e [] bytes _ m fits e (λ version rest v fits1 e1.
    number_step w32 (2 ^ 32) wide32 Acceptor 0x6e (to_be_bytes w16 version) rest _ m fits1 e1 (λ flags rest f fits2 e2.
    number_step w32 (2 ^ 32) wide32 Acceptor 0x6e (to_be_bytes w16 version ++ to_be_bytes w32 flags) rest _ m fits2 e2 (λ challenge name h _ e3.
    read_as Acceptor 0x6e _ (message.OldChallenge flags challenge name) m e3 (version, v, refl) (f, h))))

pub new_challenge_takes : (bytes : List ℕ) (m : Message) → IsBytes bytes → new_challenge bytes ≡ Ok m → Reads Acceptor 0x4e bytes m
unfolding new_challenge
new_challenge_takes bytes m fits e =
    number_step w64 (2 ^ 64) wide64 Acceptor 0x4e [] bytes _ m fits e (λ flags rest f fits1 e1.
    number_step w32 (2 ^ 32) wide32 Acceptor 0x4e (to_be_bytes w64 flags) rest _ m fits1 e1 (λ challenge rest h fits2 e2.
    number_step w32 (2 ^ 32) wide32 Acceptor 0x4e (to_be_bytes w64 flags ++ to_be_bytes w32 challenge) rest _ m fits2 e2 (λ creation rest c fits3 e3.
    number_step w16 (2 ^ 16) wide16 Acceptor 0x4e (to_be_bytes w64 flags ++ to_be_bytes w32 challenge ++ to_be_bytes w32 creation) rest _ m fits3 e3 (λ len rest l fits4 e4.
    bytes_step len Acceptor 0x4e (to_be_bytes w64 flags ++ to_be_bytes w32 challenge ++ to_be_bytes w32 creation ++ to_be_bytes w16 len) rest _ m fits4 e4 (λ name ignored is e5.
    read_as Acceptor 0x4e _ (message.NewChallenge (record { 0 = flags }) challenge (record { 0 = creation }) name) m e5
    (ignored, omega (arith, is, l), ap (λ (k : ℕ). 0x4e ∷ to_be_bytes w64 flags ++ to_be_bytes w32 challenge ++ to_be_bytes w32 creation ++ to_be_bytes w16 k ++ name ++ ignored) (sym is)) (f, h, c))))))

pub complement_takes : (bytes : List ℕ) (m : Message) → IsBytes bytes → complement bytes ≡ Ok m → Reads Dialler 0x63 bytes m
unfolding complement
complement_takes bytes m fits e =
    number_step w32 (2 ^ 32) wide32 Dialler 0x63 [] bytes _ m fits e (λ high rest h fits1 e1.
    number_step w32 (2 ^ 32) wide32 Dialler 0x63 (to_be_bytes w32 high) rest _ m fits1 e1 (λ creation rest c _ e2.
    ends_as Dialler 0x63 (to_be_bytes w32 high ++ to_be_bytes w32 creation) rest (message.Complement high (record { 0 = creation })) m e2 refl (h, c)))

pub reply_takes : (bytes : List ℕ) (m : Message) → IsBytes bytes → reply bytes ≡ Ok m → Reads Dialler 0x72 bytes m
unfolding reply
reply_takes bytes m fits e =
    number_step w32 (2 ^ 32) wide32 Dialler 0x72 [] bytes _ m fits e (λ challenge rest c fits1 e1.
    bytes_step 16 Dialler 0x72 (to_be_bytes w32 challenge) rest _ m fits1 e1 (λ digest rest d e2.
    ends_as Dialler 0x72 (to_be_bytes w32 challenge ++ digest) rest (message.Reply challenge digest) m e2 refl (c, d)))

pub ack_takes : (bytes : List ℕ) (m : Message) → IsBytes bytes → ack bytes ≡ Ok m → Reads Acceptor 0x61 bytes m
unfolding ack
ack_takes bytes m fits e =
    bytes_step 16 Acceptor 0x61 [] bytes _ m fits e (λ digest rest d e1.
    ends_as Acceptor 0x61 digest rest (message.Ack digest) m e1 refl d)
