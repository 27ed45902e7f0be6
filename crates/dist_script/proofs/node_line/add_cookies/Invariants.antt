use Rattle.std.proofs.Common.{◌≡◌, length}
use Rattle.dist_script.specs.Nodes.{cookies_in}
use Rattle.dist_script.proofs.node_line.add_cookies.Given as goal

-- the cookies so far, and then those of the words that are left, are all cookies
abbrev pub invariant-cookies : goal.invariant-cookies
invariant-cookies l = cookies_in l.fn.cookies l.fn.words ≡ cookies_in l.cookies l.words

abbrev pub decreases-cookies : goal.decreases-cookies
decreases-cookies l = length l.words
