-- Why a file gives no cookie.
use Rattle.std.proofs.Common.{◌≡◌, ◌⊎◌, ℕ, Bool, List, Option, Some, None, Result, Ok, Err, IfErr, sym, subst, ⊎_elim}
use Rattle.dist_program.specs.{CookieFile.ReadsCookie, CookieFile.RefusesFile, declared.cookie_fault.CookieFault.CookieFault}
use Rattle.dist_program.specs.declared.cookie_fault.CookieFault.TheVariants as fault

-- it was not opened
pub unopened : (path : Option (List ℕ)) (is_unsafe : Bool) (f : CookieFault)
    → (f ≡ fault.OpenFailed) ⊎ (f ≡ fault.NotStored) → RefusesFile path is_unsafe f
unopened path is_unsafe f why =
    ⊎_elim (λ e. subst (RefusesFile path is_unsafe) (sym e) tt) (λ e. subst (RefusesFile path is_unsafe) (sym e) tt) why

-- it has none
pub unread : (path : Option (List ℕ)) (is_unsafe : Bool) (a b : Option (List ℕ)) (r : Result (List ℕ) CookieFault)
    → ReadsCookie a b r → IfErr r (RefusesFile path is_unsafe)
unread path is_unsafe a b (Ok cookie) reads = tt
unread path is_unsafe a b (Err (fault.NoCookie error)) reads = tt
unread path is_unsafe a b (Err other) reads = absurd reads

-- whatever its path is
pub somewhere : (path : List ℕ) (is_unsafe : Bool) (f : CookieFault) → RefusesFile (Some path) is_unsafe f → RefusesFile None is_unsafe f
somewhere path is_unsafe (fault.NotPrivate quoted) refuses = (refuses.0, tt)
somewhere path is_unsafe other refuses = tt
