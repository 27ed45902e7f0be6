-- WHAT A HANDSHAKE IS JUDGED BY, beside what was said in it: the node that was to be dialled, and a cookie, each if it is known.
use Rattle.std.specs.Prelude.{ℕ, Bool, false, not, ◌==◌, List, Option, Some, None}
use Rattle.std.specs.{Cmp.Lexicographic.pointwise, Option.option_map, Result.result_err, Result.result_ok}
use Rattle.dist_talk.specs.declared.{terms.Terms.Terms, verdict.NoCookie.NoCookie}

-- the name of the node that was to be dialled
abbrev pub target_of : Terms → Option (List ℕ)
target_of t = option_map (λ r. r.now) t.target

-- the cookie
abbrev pub cookie_of : Terms → Option (List ℕ)
cookie_of t = option_map (λ r. r.now) (result_ok t.cookie)

-- why there is none
abbrev pub without_of : Terms → Option NoCookie
without_of t = result_err t.cookie

-- the name is the one that is known
abbrev pub is_known : Option (List ℕ) → List ℕ → Bool
is_known None name = false
is_known (Some target) name = pointwise ◌==◌ name target

-- one is known, and the name is another one
abbrev pub is_unlike : Option (List ℕ) → List ℕ → Bool
is_unlike None name = false
is_unlike (Some target) name = not (pointwise ◌==◌ name target)

-- the name is that of the node that was to be dialled
abbrev pub has_target : Terms → List ℕ → Bool
has_target t name = is_known (target_of t) name

-- it is known to be another one
abbrev pub is_other : Terms → List ℕ → Bool
is_other t name = is_unlike (target_of t) name
