-- A RUN OVER SEVERAL NODES: what a probe of each came to, what is printed of it, and the exit status.
use Rattle.std.specs.Prelude.{◌≡◌, ℕ, Bool, List, [], ◌∷◌, map, Result, string_bytes}
use Rattle.std.specs.{Borrow.Bor, List.AllZip, List.concat, Result.ForOk}
use Rattle.dist_cluster.specs.{Pairs.pair_status, Pairs.pairing_of, Statuses.first_of, declared.pairs.Half.Half, declared.targets.Target.Target}
use Rattle.dist_cluster.specs.declared.targets.Target.TheVariants as target
use Rattle.dist_talk.specs.declared.verdict.NoCookie.{NoCookie}
use Rattle.dist_talk.specs.declared.verdict.NoCookie.TheVariants as without
use Rattle.distping_words.specs.declared.command.CookieSource.{CookieSource}
use Rattle.distping_words.specs.declared.command.CookieSource.TheVariants as source
use Rattle.distping_report.specs.Sinks.{Prints, SinkState}
use Rattle.distping.specs.{Halves.ResultComes, Order.first_status, Order.names_of, declared.reply.DialReply.DialReply}

-- the result of a node that was dialled is that of a probe with this cookie, unless a fault stopped it
abbrev pub ReplyComes : Result (Bor (List ℕ)) NoCookie → Bool → DialReply → Type 0
ReplyComes cookie json reply = ForOk reply.found (λ it. ResultComes cookie json it.half (string_bytes it.text))

-- THE RESULTS OF THESE NODES WERE PRINTED: a text for each, in their order, and nothing else
pub record PrintsResults (cookie : Result (Bor (List ℕ)) NoCookie) (json : Bool) (halves : List Half) (old new : SinkState) : Type 0 where
  pub texts : List (List ℕ)
  pub come : AllZip (ResultComes cookie json) halves texts
  pub printed : Prints (concat texts) old new

-- the first status that is not 0 of the pairs of a node and each of these
abbrev pub status_beside : Half → List Half → ℕ
status_beside first [] = 0
status_beside first (second ∷ others) = first_of (pair_status (pairing_of first second)) (status_beside first others)

-- the same of each two of these nodes
abbrev pub pairs_status : List Half → ℕ
pairs_status [] = 0
pairs_status (half ∷ others) = first_of (status_beside half others) (pairs_status others)

-- why no cookie is tried where there is none
abbrev pub why_none : CookieSource → NoCookie
why_none source.Nowhere = without.Asked
why_none other = without.Missing

-- the targets are the nodes of these names, and no hosts or services
abbrev pub AreNodes : List Target → List (List ℕ) → Type 0
AreNodes targets names = targets ≡ map target.Node names

-- A RUN over the nodes of these names prints their results. THE EXIT STATUS is the first that is not 0 of the hosts that were asked for
-- nodes, of the nodes, and of their pairs.
pub record RunEndsWith (cookie : Result (Bor (List ℕ)) NoCookie) (json : Bool) (names : List (List ℕ)) (hosts : ℕ) (old new : SinkState)
    (status : ℕ) : Type 0 where
  pub halves : List Half
  pub each : names_of halves ≡ names
  pub prints : PrintsResults cookie json halves old new
  pub is : status ≡ first_of hosts (first_of (first_status halves) (pairs_status halves))
