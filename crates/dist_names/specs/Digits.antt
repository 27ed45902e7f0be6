-- Numbers and flags as digits write them.
use Rattle.std.specs.Prelude.{ℕ, Bool, ◌&&◌, nat_lt, nat_le, if◌then◌else◌, List, length, Option, Some, None}
use Rattle.std.specs.{List.list_all, Char.digit_value, Str.Parse.digits_value}
use Rattle.dist_names.specs.declared.flags.Flags.{Flags}

-- digits of this radix, at least one
abbrev pub is_numeral : ℕ → List ℕ → Bool
is_numeral radix word = nat_lt 0 (length word) && list_all (λ byte. nat_lt (digit_value byte) radix) word

-- THE FLAGS OF A WORD: 1 to 16 hexadecimal digits, of either case
abbrev pub flags_in : List ℕ → Option Flags
flags_in word = if is_numeral 16 word && nat_le (length word) 16 then Some (record { 0 = digits_value 16 word }) else None
