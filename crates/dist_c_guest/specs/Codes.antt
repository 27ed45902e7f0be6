-- The numbers by which C knows answers and causes.
use Rattle.std.specs.Prelude.{ℕ}
use Rattle.dist_names.specs.declared.name_error.NameError.{NameError}
use Rattle.dist_names.specs.declared.name_error.NameError.TheVariants as name
use Rattle.dist_secret.specs.declared.cookie_error.CookieError.{CookieError}
use Rattle.dist_secret.specs.declared.cookie_error.CookieError.TheVariants as cookie
use Rattle.dist_core_ends.specs.declared.why.Why.{Why}
use Rattle.dist_core_ends.specs.declared.why.Why.TheVariants as why
use Rattle.dist_core.specs.declared.{step_error.StepError.StepError, changing.ChangeError.ChangeError}
use Rattle.dist_core.specs.declared.step_error.StepError.TheVariants as error
use Rattle.dist_core.specs.declared.changing.ChangeError.TheVariants as changing

-- of a refused step
abbrev pub step_code : StepError → ℕ
step_code error.NoMemory = 3
step_code error.NoSuchEnd = 10
step_code (error.Gone w) = 11
step_code error.WrongPhase = 12
step_code (error.Busy e) = 13
step_code error.Spent = 14
step_code error.Full = 15

-- of a setup that is not changed
abbrev pub change_code : ChangeError → ℕ
change_code changing.NoMemory = 3
change_code changing.InUse = 9
change_code changing.Full = 15

-- of bytes that are no name
abbrev pub name_code : NameError → ℕ
name_code name.NoMemory = 3
name_code name.TooShort = 20
name_code name.TooLong = 21
name_code name.BadByte = 22
name_code name.BadAt = 23

-- of a text that has no cookie
abbrev pub cookie_code : CookieError → ℕ
cookie_code cookie.NoMemory = 3
cookie_code cookie.Empty = 30
cookie_code cookie.BadByte = 31
cookie_code cookie.TooLong = 32
cookie_code cookie.ReadFailed = 33

-- of a cause
abbrev pub why_number : Why → ℕ
why_number why.Ended = 1
why_number why.ReadFailed = 2
why_number why.WriteFailed = 3
why_number why.GaveUp = 4
why_number why.DialFailed = 5
why_number why.Malformed = 6
why_number why.Unexpected = 7
why_number why.WrongName = 8
why_number why.WrongFlags = 9
why_number why.WrongDigest = 10
why_number why.StatusRefused = 11
why_number why.Refused = 12
why_number why.Crossed = 13
why_number why.Replaced = 14
why_number why.NoMemory = 15
