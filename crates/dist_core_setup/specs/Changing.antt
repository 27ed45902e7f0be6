-- What may be changed of a setup that is in use: its cookies, and which peers may connect. All else stays.
use Rattle.std.specs.Prelude.{◌≡◌, ℕ, Bool, not, if◌then◌else◌, List, [], ◌∷◌, ◌++◌, Option, Some, None}
use Rattle.std.specs.List.{filter}
use Rattle.dist_names.specs.Order.{Name, same_name, is_listed}
use Rattle.dist_secret.specs.Cookies.{owns, keyed, with_usual, is_full_for}
use Rattle.dist_core_setup.specs.{declared.setup.Setup.Setup, Rules.own_digest}

-- the peer has a cookie of its own
abbrev pub has_own_cookie : Setup → Name → Bool
has_own_cookie s p = owns s.cookies p

-- a cookie for this peer finds no room: 1,024 other names have cookies of their own
abbrev pub lacks_room : Setup → Name → Bool
lacks_room s p = is_full_for s.cookies p

-- the same setup, with this cookie for the peer, or with none of its own
abbrev pub with_own_cookie : Setup → Name → Option (List ℕ) → Setup
with_own_cookie s p own = record s { cookies = keyed s.cookies p own }

-- the same setup, with this cookie for every peer that has none of its own
abbrev pub keyed_usually : Setup → List ℕ → Setup
keyed_usually s cookie = record s { cookies = with_usual s.cookies cookie }

-- the same setup, where these peers may connect, or all
abbrev pub letting_in : Setup → Option (List Name) → Setup
letting_in s names = record s { allow = names }

-- for this peer, each challenge has the same digest under both setups
abbrev pub DigestsStay : Setup → Setup → Name → Type 0
DigestsStay old new p = (challenge : ℕ) → own_digest new p challenge ≡ own_digest old p challenge

-- ---- lists of names

-- these names and this one, added where it is not among them yet
abbrev pub with_name : List Name → Name → List Name
with_name names p = if is_listed names p then names else names ++ (p ∷ [])

-- these names without this one
abbrev pub without_name : List Name → Name → List Name
without_name names p = filter (λ one. not (same_name p one)) names

-- who may connect once this peer may; where all could, this peer alone
abbrev pub allowing : Option (List Name) → Name → Option (List Name)
allowing None p = Some (p ∷ [])
allowing (Some names) p = Some (with_name names p)

-- who may connect once this peer may not; where all can, all still can
abbrev pub disallowing : Option (List Name) → Name → Option (List Name)
disallowing None p = None
disallowing (Some names) p = Some (without_name names p)
