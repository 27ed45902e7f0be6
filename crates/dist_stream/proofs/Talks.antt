-- Turns that follow one another.
use Rattle.std.proofs.Common.{◌≡◌, ℕ, ◌+◌, ◌-◌, ◌≤◌, ◌||◌, List, [], ◌++◌, Option, None, Some, refl, sym, ap, ◌∙◌, arith, append_assoc, append-nil}
use Rattle.std.specs.Io.KnownBytes.{prepend_known, append_known}
use Rattle.dist_stream.specs.{Stream.StreamState, declared.turn_error.TurnError.TurnError}
use Rattle.dist_stream.specs.Turns.{reports_end, reports_failed_read, reports_failed_write, Rises, Spends, Says, Hears}

pub append_known-append : (known : Option (List ℕ)) (a b : List ℕ) → append_known (append_known known a) b ≡ append_known known (a ++ b)
append_known-append None a b = refl
append_known-append (Some x) a b = ap Some (append_assoc x a b)

pub prepend_known-append : (known : Option (List ℕ)) (a b : List ℕ) → prepend_known a (prepend_known b known) ≡ prepend_known (a ++ b) known
prepend_known-append None a b = refl
prepend_known-append (Some x) a b = ap Some (sym (append_assoc a b x))

pub append_known-none : (known : Option (List ℕ)) → append_known known [] ≡ known
append_known-none None = refl
append_known-none (Some x) = ap Some (append-nil x)

pub Rises-none : (n : ℕ) → Rises 0 n n
Rises-none n = record { most = omega arith; exact = λ h. omega arith }

pub Rises-trans : (a b total x y z : ℕ) → a + b ≡ total → Rises a x y → Rises b y z → Rises total x z
Rises-trans a b total x y z e p q =
    let p-most : y ≤ x + a = p.most in
    let q-most : z ≤ y + b = q.most in
    record {
      most = omega arith;
      exact = λ h.
          let last : z ≡ y + b = q.exact h in
          let first : y ≡ x + a = p.exact (omega arith) in
          omega arith;
    }

pub Spends-none : (s : StreamState) (turns : ℕ) → Spends s s turns turns None
Spends-none s turns = record {
  within = omega arith;
  calls = let same : turns - turns ≡ 0 = omega arith in rw same (Rises-none s.calls);
  ended = refl;
  read_failed = refl;
  write_failed = refl;
  cause = tt;
}

pub Spends-trans : {old mid new : StreamState} {turns between left : ℕ} {error : Option TurnError} → Spends old mid turns between None → Spends mid new between left error → Spends old new turns left error
Spends-trans {old = old} {mid = mid} {new = new} {turns = turns} {between = between} {left = left} {error = error} p q =
    let p-within : between ≤ turns = p.within in
    let q-within : left ≤ between = q.within in
    record {
      within = omega arith;
      calls = Rises-trans (turns - between) (between - left) (turns - left) old.calls mid.calls new.calls (omega arith) p.calls q.calls;
      ended = q.ended ∙ ap (λ b. reports_end error || b) p.ended;
      read_failed = q.read_failed ∙ ap (λ b. reports_failed_read error || b) p.read_failed;
      write_failed = q.write_failed ∙ ap (λ b. reports_failed_write error || b) p.write_failed;
      cause = q.cause;
    }

pub Says-none : (s : StreamState) (turns : ℕ) → Says s s turns turns None []
Says-none s turns = record { written = sym (append_known-none s.written); unread = refl; spends = Spends-none s turns; fault_is = tt }

pub Says-trans : {old mid new : StreamState} {turns between left : ℕ} {error : Option TurnError} {a b : List ℕ} → Says old mid turns between None a → Says mid new between left error b → Says old new turns left error (a ++ b)
Says-trans {old = old} {a = a} {b = b} p q = record {
  written = q.written ∙ ap (λ known. append_known known b) p.written ∙ append_known-append old.written a b;
  unread = q.unread ∙ p.unread;
  spends = Spends-trans p.spends q.spends;
  fault_is = q.fault_is;
}

pub Hears-trans : {old mid new : StreamState} {turns between left : ℕ} {error : Option TurnError} {a b : List ℕ} → Hears old mid turns between None a → Hears mid new between left error b → Hears old new turns left error (a ++ b)
Hears-trans {new = new} {a = a} {b = b} p q = record {
  unread = p.unread ∙ ap (λ known. prepend_known a known) q.unread ∙ prepend_known-append new.unread a b;
  written = q.written ∙ p.written;
  spends = Spends-trans p.spends q.spends;
  fault_is = q.fault_is;
}
