-- What a node's setup decides: what it announces and requires, its digests, and the checks on a name.
use Rattle.std.specs.Prelude.{◌≡◌, ℕ, Bool, true, false, not, ◌&&◌, ◌||◌, if◌then◌else◌, nat_eq, bit_and, List, Option, Some, None, Result, Ok, Err}
use Rattle.std.specs.Cmp.Lexicographic.{pointwise}
use Rattle.dist_names.specs.{Order.Name, Order.same_name, Order.is_listed, NodeName.name_of_bytes, Flags.announced, Flags.required, Flags.low_half}
use Rattle.dist_names.specs.{Flags.has_all, Flags.handshake_23, Flags.name_me, declared.flags.Flags.Flags, declared.name_error.NameError.NameError}
use Rattle.dist_secret.specs.{Digest.digest_of, Cookies.cookie_for}
use Rattle.dist_messages.specs.declared.form.Form.{Form}
use Rattle.dist_messages.specs.declared.form.Form.TheVariants as form
use Rattle.dist_core_setup.specs.declared.{setup.Setup.Setup, version.Version.Version}
use Rattle.dist_core_setup.specs.declared.version.Version.TheVariants as version

-- ---- versions

abbrev pub is_six : Version → Bool
is_six version.Six = true
is_six version.Five = false

-- the node knows version 6
abbrev pub knows_six : Setup → Bool
knows_six s = is_six s.version

-- WHAT A NODE OF VERSION 5 ANNOUNCES: the lower 32 bits of its flags, without DFLAG_HANDSHAKE_23
abbrev pub announced_five : ℕ → ℕ
announced_five flags = bit_and flags 0xfeffffff

abbrev pub announced_in : Version → ℕ → ℕ
announced_in version.Six flags = announced flags
announced_in version.Five flags = announced_five flags

-- the flags that a node announces
unfoldable pub announced_by : Setup → ℕ
announced_by s = announced_in s.version s.flags.0

-- the flags that a node requires of a peer, by the form of the handshake: of an old name that a complement will follow only
-- those of the lower half; where no complement will follow, DFLAG_HANDSHAKE_23 is not added
unfoldable pub required_of : Setup → Form → ℕ
required_of s form.New = required s.required.0
required_of s form.Old = low_half (required s.required.0)
required_of s form.Five = s.required.0

-- the form of a handshake that an old name with these flags opens: that of version 5 where one of the two nodes knows no other
abbrev pub form_of_old : Setup → ℕ → Form
form_of_old s flags = if knows_six s && has_all flags handshake_23 then form.Old else form.Five

-- a node that was asked to open in this form opens with the newer name; a node of version 5 never does
abbrev pub opens_new : Setup → Form → Bool
opens_new s form.New = knows_six s
opens_new s form.Old = false
opens_new s form.Five = false

-- the digest of a challenge that a node sends to this peer, and expects from it: by the cookie for that peer
unfoldable pub own_digest : Setup → Name → ℕ → List ℕ
own_digest s peer challenge = digest_of (cookie_for s.cookies peer) challenge

-- ---- the checks on a name

abbrev pub is_ok : Result Name NameError → Bool
is_ok (Ok name) = true
is_ok (Err error) = false

-- the form of a name
unfoldable pub is_good : Name → Bool
is_good p = is_ok (name_of_bytes p)

-- what is found where a name is sought in these bytes
abbrev pub GoodName : Option Name → Name → Type 0
GoodName (Some found) p = (found ≡ p) × (is_good p ≡ true)
GoodName None p = is_good p ≡ false

-- the peer asks to be given a name
abbrev pub asks_name : Flags → Bool
asks_name f = has_all f.0 name_me

abbrev pub is_allowed : Option (List Name) → Name → Bool
is_allowed None p = true
is_allowed (Some ps) p = is_listed ps p

-- THE CHECKS ON A NAME, each of which refuses it
abbrev pub is_refused : Setup → ℕ → Bool → Flags → Name → Bool
is_refused s r full f p =
    asks_name f || not (has_all f.0 r) || not (is_good p) || same_name s.name p
    || not (is_allowed s.allow p) || full

-- the two digests are equal
abbrev pub same_bytes : List ℕ → List ℕ → Bool
same_bytes xs ys = pointwise nat_eq xs ys
