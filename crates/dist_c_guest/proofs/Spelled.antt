-- A body whose first byte is not that of a status spells none, and one whose first byte is that takes no memory.
use Rattle.dist_c_guest.proofs.Common.{◌≡◌, ℕ, ◌<◌, ◌≤◌, Bool, true, false, cond, eqb, ◌≢◌, List, [], ◌∷◌, length, get_or, IsTrue, Some, None, Ok, Err, Option}
use Rattle.dist_c_guest.proofs.Common.{Result, refl, arith, w16, w32, w64, eqb-true, bytes_at, number_at, Message, Status, MessageError, status_in, status_of}
use Rattle.dist_messages.specs.Reading.{◌>>=◌, has_name_tag, old_name, new_name, old_challenge, new_challenge, complement, reply, ack, read}
use Rattle.dist_messages.specs.declared.{message.Side.TheVariants.Acceptor, message.Side.TheVariants.Dialler, message_error.MessageError.TheVariants.Long}
use Rattle.dist_messages.specs.declared.message.Message.TheVariants as message

abbrev none : Option Status
none = None

-- ---- the layouts of other messages

after_field : {A : Type 0} (o : Option A) (f : A → Result Message MessageError) → ((a : A) → status_in (f a) ≡ none) → status_in (o >>= f) ≡ none
after_field (Some a) f h = h a
after_field None f h = refl

where_ended : (b : Bool) (m : Message) → status_in (Ok m) ≡ none → status_in (cond b (Ok m) (Err Long)) ≡ none
where_ended true m h = h
where_ended false m h = refl

in_old_name : (bytes : List ℕ) → status_in (old_name bytes) ≡ none
unfolding old_name
in_old_name bytes = after_field (number_at w16 bytes) _ (λ v. after_field (number_at w32 v.1) _ (λ f. refl))

in_new_name : (bytes : List ℕ) → status_in (new_name bytes) ≡ none
unfolding new_name
in_new_name bytes =
    after_field (number_at w64 bytes) _ (λ f. after_field (number_at w32 f.1) _ (λ c. after_field (number_at w16 c.1) _ (λ l. after_field (bytes_at l.0 l.1) _ (λ n. refl))))

in_old_challenge : (bytes : List ℕ) → status_in (old_challenge bytes) ≡ none
unfolding old_challenge
in_old_challenge bytes = after_field (number_at w16 bytes) _ (λ v. after_field (number_at w32 v.1) _ (λ f. after_field (number_at w32 f.1) _ (λ c. refl)))

in_new_challenge : (bytes : List ℕ) → status_in (new_challenge bytes) ≡ none
unfolding new_challenge
in_new_challenge bytes =
    after_field (number_at w64 bytes) _ (λ f. after_field (number_at w32 f.1) _ (λ h. after_field (number_at w32 h.1) _ (λ c. after_field (number_at w16 c.1) _ (λ l. after_field (bytes_at l.0 l.1) _ (λ n. refl)))))

in_complement : (bytes : List ℕ) → status_in (complement bytes) ≡ none
unfolding complement
in_complement bytes = after_field (number_at w32 bytes) _ (λ h. after_field (number_at w32 h.1) _ (λ c. where_ended (eqb (length c.1) 0) (message.Complement h.0 (record { 0 = c.0 })) refl))

in_reply : (bytes : List ℕ) → status_in (reply bytes) ≡ none
unfolding reply
in_reply bytes = after_field (number_at w32 bytes) _ (λ c. after_field (bytes_at 16 c.1) _ (λ d. where_ended (eqb (length d.1) 0) (message.Reply c.0 d.0) refl))

in_ack : (bytes : List ℕ) → status_in (ack bytes) ≡ none
unfolding ack
in_ack bytes = after_field (bytes_at 16 bytes) _ (λ d. where_ended (eqb (length d.1) 0) (message.Ack d.0) refl)

-- ---- by the first byte

choice : (b : Bool) (x y : Result Message MessageError) → (b ≡ true → status_in x ≡ none) → (b ≡ false → status_in y ≡ none) → status_in (cond b x y) ≡ none
choice true x y h k = h refl
choice false x y h k = k refl

module _ (tag : ℕ) (rest : List ℕ) (other : tag ≢ 115) where
  no_status : (x : Result Message MessageError) → eqb tag 115 ≡ true → status_in x ≡ none
  no_status x e = absurd (other (eqb-true tag 115 e))

  by_dialler : status_in (read Dialler (tag ∷ rest)) ≡ none
  unfolding read
  by_dialler =
      choice (eqb tag 0x6e) _ _ (λ e. in_old_name rest) (λ e.
      choice (eqb tag 0x4e) _ _ (λ e. in_new_name rest) (λ e.
      choice (eqb tag 0x73) _ _ (no_status _) (λ e.
      choice (eqb tag 0x63) _ _ (λ e. in_complement rest) (λ e.
      choice (eqb tag 0x72) _ _ (λ e. in_reply rest) (λ e. refl)))))

  by_acceptor : status_in (read Acceptor (tag ∷ rest)) ≡ none
  unfolding read
  by_acceptor =
      choice (eqb tag 0x73) _ _ (no_status _) (λ e.
      choice (eqb tag 0x6e) _ _ (λ e. in_old_challenge rest) (λ e.
      choice (eqb tag 0x4e) _ _ (λ e. in_new_challenge rest) (λ e.
      choice (eqb tag 0x61) _ _ (λ e. in_ack rest) (λ e. refl))))

  by_both : none ≡ status_of (tag ∷ rest)
  by_both = rw (by_acceptor, by_dialler) refl

pub other_tag : (body : List ℕ) → 1 ≤ length body → get_or body 0 0 ≢ 115 → none ≡ status_of body
other_tag [] long other = absurd (omega arith)
other_tag (tag ∷ rest) long other = by_both tag rest other

pub no_tag : (body : List ℕ) → length body < 1 → none ≡ status_of body
unfolding read
no_tag [] short = refl
no_tag (tag ∷ rest) short = absurd (omega arith)

pub no_name : (text : List ℕ) → IsTrue (has_name_tag (115 ∷ text)) → ⊥
no_name text h = absurd cc
