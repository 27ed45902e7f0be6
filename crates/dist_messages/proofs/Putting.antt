-- A body is the pieces that were put one behind the other, and each message that has a name has it checked.
use Rattle.dist_messages.proofs.Words.{◌≡◌, ℕ, cond, List, ◌++◌, is_ok, OnOk, Ok, Err, Result, sym, ap, ◌∙◌, subst, append_assoc, spelling_with_name, Message}
use Rattle.dist_messages.proofs.Words.{MessageError}
use Rattle.dist_messages.specs.Writing.{AnswersCheck, name_in}

-- a piece is put behind those that are there
pub more : (old front piece body next : List ℕ) → body ≡ old ++ front → next ≡ body ++ piece → next ≡ old ++ (front ++ piece)
more old front piece body next e f = f ∙ ap (λ (x : List ℕ). x ++ piece) e ∙ append_assoc old front piece

-- the last piece, for which memory may run out
pub last : {X E : Type 0} (r : Result X E) (old front piece body next : List ℕ) → body ≡ old ++ front → OnOk r (next ≡ body ++ piece) → OnOk r (next ≡ old ++ (front ++ piece))
last (Ok x) old front piece body next e f = more old front piece body next e f
last (Err x) old front piece body next e f = tt

-- the same for the bytes of a slice
pub last_slice : {X E : Type 0} (r : Result X E) (old front piece body next : List ℕ) → body ≡ old ++ front → next ≡ cond (is_ok r) (body ++ piece) body → OnOk r (next ≡ old ++ (front ++ piece))
last_slice (Ok x) old front piece body next e f = more old front piece body next e f
last_slice (Err x) old front piece body next e f = tt

-- what the check of a name says of the message that has it
pub named : (m : Message) (bytes : List ℕ) (r : Result (Unit {0}) MessageError) → bytes ≡ name_in m → ((n : Message) → name_in n ≡ bytes → AnswersCheck n r (spelling_with_name bytes n)) → AnswersCheck m r (spelling_with_name (name_in m) m)
named m bytes r e h = subst (λ (b : List ℕ). AnswersCheck m r (spelling_with_name b m)) e (h m (sym e))
