-- FLAGS THAT ARE WHOLE: where DFLAG_MANDATORY_25_DIGEST is one of them, so are those that it stands for.
use Rattle.std.specs.Prelude.{◌≡◌, ℕ, Bool, true, not, ◌&&◌, ◌||◌, ◌==◌}
use Rattle.dist_names.specs.Flags.{has_all, low_half}
use Rattle.dist_messages.specs.declared.message.Message.{Message}
use Rattle.dist_messages.specs.declared.message.Message.TheVariants as message
use Rattle.dist_core_setup.specs.{declared.setup.Setup.Setup, Rules.announced_by}
use Rattle.dist_c_guest.specs.Reading.{digest_25}

-- the flags that the digest stands for, DN_MANDATORY_25 of the library for C
abbrev pub mandatory_25 : ℕ
mandatory_25 = 0x1070f94

-- where the digest is one of these flags, so are those that it stands for
abbrev pub are_whole : ℕ → Bool
are_whole flags = not (has_all flags digest_25) || has_all flags mandatory_25

-- A GUEST IS WHOLE: what its setup announces is, and to itself the digest stands for those flags or for none
abbrev pub is_whole : Setup → ℕ → Bool
is_whole s mandatory = ((mandatory == 0) || (mandatory == mandatory_25)) && are_whole (announced_by s)

-- ---- messages

-- where the digest is one of these flags, so are those of a mask
abbrev pub Hold : ℕ → ℕ → Type 0
Hold mask flags = has_all flags digest_25 ≡ true → has_all flags mask ≡ true

-- so it is with the flags of a message, where it has any: an older one has the lower half alone
abbrev pub HasWhole : ℕ → Message → Type 0
HasWhole mask (message.NewName flags c p) = Hold mask flags.0
HasWhole mask (message.NewChallenge flags n c p) = Hold mask flags.0
HasWhole mask (message.OldName flags p) = Hold (low_half mask) flags
HasWhole mask (message.OldChallenge flags n p) = Hold (low_half mask) flags
HasWhole mask m = Unit {0}
