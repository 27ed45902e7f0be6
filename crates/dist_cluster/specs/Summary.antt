-- A summary of many probed nodes: how many have each verdict, and how many pairs have each word. A `Half` is what a probe found
-- out about one node.
use Rattle.std.specs.Prelude.{◌≡◌, ℕ, ◌+◌, ◌-◌, ◌*◌, ◌/◌, ◌^◌, ◌==◌, Bool, List, [], ◌∷◌, codes, count_by, length, map, min, if◌then◌else◌}
use Rattle.dist_names.specs.Order.{same_name}
use Rattle.dist_talk.specs.Words.{verdict_word}
use Rattle.dist_cluster.specs.Pairs.{pair_word, pairing_of}
use Rattle.dist_cluster.specs.declared.{pairs.Half.Half, summary.Summary.Summary, summary.WordCount.WordCount}

-- the verdict on the node has this word
abbrev pub comes_to : List ℕ → Half → Bool
comes_to word half = same_name (verdict_word half.verdict) word

-- what can be said of two nodes has this word
abbrev pub makes_pair : List ℕ → Half → Half → Bool
makes_pair word first second = same_name (pair_word (pairing_of first second)) word

-- how many pass a test: each element is paired with each one behind it
abbrev pub pair_count : (Half → Half → Bool) → List Half → ℕ
pair_count p [] = 0
pair_count p (first ∷ rest) = count_by (p first) rest + pair_count p rest

-- how many pairs have this word, at most the greatest number of 64 bits
abbrev pub how_many : List Half → List ℕ → ℕ
how_many halves word = min (pair_count (makes_pair word) halves) (2 ^ 64 - 1)

-- the words of verdicts, in the order of their variants
abbrev pub verdict_words : List (List ℕ)
verdict_words =
    codes "Up" ∷ codes "Finished" ∷ codes "Dropped" ∷ codes "Reached" ∷ codes "Answered" ∷ codes "NoHost" ∷ codes "ResolverSilent"
    ∷ codes "MapperRefused" ∷ codes "MapperUnreachable" ∷ codes "MapperFault" ∷ codes "NotRegistered" ∷ codes "NameInUse"
    ∷ codes "PortRefused" ∷ codes "PortUnreachable" ∷ codes "NoCaller" ∷ codes "Silent" ∷ codes "Gone" ∷ codes "Reset"
    ∷ codes "NoName" ∷ codes "Left" ∷ codes "Stopped" ∷ codes "Withdrawn" ∷ codes "Foreign" ∷ codes "Unexpected" ∷ codes "OwnName"
    ∷ codes "Busy" ∷ codes "LacksFlags" ∷ codes "NotOnList" ∷ codes "AlreadyUp" ∷ codes "OtherName" ∷ codes "LongAndShort"
    ∷ codes "Version5" ∷ codes "WantsName" ∷ codes "Dynamic" ∷ codes "WrongCookie" ∷ codes "WrongAck" ∷ codes "Unfinished"
    ∷ codes "NothingFound" ∷ codes "NoMemory" ∷ codes "NoDescriptors" ∷ []

-- the words of pairs, in the order in which they are looked for
abbrev pub pair_words : List (List ℕ)
pair_words =
    codes "SameName" ∷ codes "LongAndShort" ∷ codes "NotReached" ∷ codes "LacksFlags" ∷ codes "OtherKinds" ∷ codes "OtherCookies"
    ∷ codes "Unsure" ∷ codes "Agree" ∷ []

-- those of the words that occur, and how many have each
abbrev pub tallied : (List ℕ → ℕ) → List (List ℕ) → List (List ℕ × ℕ)
tallied count [] = []
tallied count (word ∷ words) = if count word == 0 then tallied count words else (word, count word) ∷ tallied count words

-- what the counts say: each word, and how many have it
abbrev pub shown_counts : List WordCount → List (List ℕ × ℕ)
shown_counts counts = map (λ c. (c.word.now, c.count)) counts

-- which verdicts the nodes came to, and how many nodes to each
abbrev pub verdict_counts : List Half → List (List ℕ × ℕ)
verdict_counts halves = tallied (λ word. count_by (comes_to word) halves) verdict_words

-- which words the pairs have, and how many pairs have each
abbrev pub pair_counts : List Half → List (List ℕ × ℕ)
pair_counts halves = tallied (how_many halves) pair_words

-- THE SUMMARY: the number of nodes, and of their pairs (exact up to 2^32 nodes), each with the words that occur
pub record Summarizes (halves : List Half) (s : Summary) : Type 0 where
  pub nodes : s.nodes ≡ length halves
  pub verdicts : shown_counts s.verdicts.items ≡ verdict_counts halves
  pub pairs : s.pairs ≡ min (length halves * (length halves - 1)) (2 ^ 64 - 1) / 2
  pub pairings : shown_counts s.pairings.items ≡ pair_counts halves
