-- WHICH SIDES SHOWED A COOKIE (ERTS User's Guide, Distribution Handshake: a digest is MD5 of the cookie and the other side's challenge).
use Rattle.std.specs.Prelude.{ℕ, Bool, true, false, List, Option, Some, None}
use Rattle.std.specs.Option.{option_map}
use Rattle.dist_talk.specs.{Verdicts.is_of, declared.cookie_check.CookieCheck.CookieCheck}
use Rattle.dist_talk.specs.declared.cookie_check.CookieCheck.TheVariants as check

-- the digest is that of this cookie and challenge
abbrev pub is_digest_of : List ℕ → ℕ → List ℕ → Bool
is_digest_of cookie challenge digest = is_of cookie challenge digest

-- what follows from a reply that is right or not, an acknowledgement that is right or not, and, where there is none, whether the reply
-- was refused
abbrev pub check_of : Bool → Option Bool → Bool → CookieCheck
check_of true (Some true) refused = check.Both
check_of true (Some false) refused = check.AcceptorOther
check_of true None true = check.Refused
check_of true None false = check.DiallerAlone
check_of false (Some false) refused = check.Neither
check_of false (Some true) refused = check.DiallerOther
check_of false None refused = check.DiallerOther

-- THE CHECK of a cookie: whose digests are of it, by a challenge, the challenge and the digest of the reply to it, and the digest of the
-- acknowledgement, if there is one
abbrev pub cookie_check : List ℕ → ℕ → ℕ × List ℕ → Option (List ℕ) → Bool → CookieCheck
cookie_check cookie challenge reply ack refused = check_of (is_digest_of cookie challenge reply.1) (option_map (is_digest_of cookie reply.0) ack) refused
