-- The order of the results of nodes that were dialled at once.
use Rattle.std.specs.Prelude.{ℕ, List, [], ◌∷◌, map}
use Rattle.dist_cluster.specs.{Statuses.first_of, declared.pairs.Half.Half}
use Rattle.dist_talk.specs.Words.{status_of}
use Rattle.distping.specs.declared.reply.DialReply.{DialReply}

-- the names of the nodes of these results
abbrev pub names_of : List Half → List (List ℕ)
names_of halves = map (λ h. h.node.now) halves

-- the names of the nodes that were dialled
abbrev pub names_in : List DialReply → List (List ℕ)
names_in replies = map (λ r. r.node.now) replies

-- the first status of these results that is not 0
abbrev pub first_status : List Half → ℕ
first_status [] = 0
first_status (half ∷ halves) = first_of (status_of half.verdict) (first_status halves)
