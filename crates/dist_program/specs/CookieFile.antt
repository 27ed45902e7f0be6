-- Which file may hold a cookie, and what is read of it.
use Rattle.std.specs.Prelude.{◌≡◌, ℕ, Bool, false, List, Option, Result, Ok, Err, ◌==◌, bit_and, IfSome, string_bytes}
use Rattle.dist_names.specs.Escaped.{in_double_quotes}
use Rattle.dist_secret.specs.Hearing.{Hears}
use Rattle.dist_program.specs.declared.cookie_fault.CookieFault.{CookieFault}
use Rattle.dist_program.specs.declared.cookie_fault.CookieFault.TheVariants as fault

-- the mode of a file gives no permission to its group nor to others: only its owner can read, write or run it
abbrev pub is_private : ℕ → Bool
is_private mode = bit_and mode 0o077 == 0

-- WHAT IS READ OF A FILE that is open: its cookie, or why it has none
abbrev pub ReadsCookie : Option (List ℕ) → Option (List ℕ) → Result (List ℕ) CookieFault → Type 0
ReadsCookie before after (Ok cookie) = Hears before after (Ok cookie)
ReadsCookie before after (Err (fault.NoCookie error)) = Hears before after (Err error)
ReadsCookie before after (Err other) = ⊥

-- WHY A FILE GIVES NO COOKIE: it is refused as not private only where not every file is taken, and then by its path, if that is known,
-- between double quotes, safe to print
abbrev pub RefusesFile : Option (List ℕ) → Bool → CookieFault → Type 0
RefusesFile path is_unsafe (fault.NotPrivate quoted) = (is_unsafe ≡ false) × IfSome path (λ p. string_bytes quoted ≡ in_double_quotes p)
RefusesFile path is_unsafe other = Unit {0}
