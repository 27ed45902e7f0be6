-- What was sent since some bytes were written, after one write more.
use Rattle.std.proofs.Common.{◌≡◌, ℕ, ◌+◌, ◌-◌, ◌≤◌, List, Option, ◌++◌, arith, length, length-drop, take, take_all, drop, ap, sym, ◌∙◌}
use Rattle.std.proofs.lemmas.List.{take-append-drop}
use lib.Seq.{drop-drop}
use Rattle.std.specs.Io.KnownBytes.{append_known}
use Rattle.dist_stream.proofs.{Rooms.take_more, Talks.append_known-append}

pub sent_on : (before old new : Option (List ℕ)) (text slice : List ℕ) (done count : ℕ) → slice ≡ text → done ≤ length text → new ≡ append_known old (take count (take (length slice - done) (drop done slice))) → old ≡ append_known before (take done text) → new ≡ append_known before (take (done + count) text)
sent_on before old new text slice done count same within written reported =
    written
    ∙ ap (λ (s : List ℕ). append_known old (take count (take (length s - done) (drop done s)))) same
    ∙ ap (λ (known : Option (List ℕ)). append_known known (take count (take (length text - done) (drop done text)))) reported
    ∙ append_known-append before (take done text) (take count (take (length text - done) (drop done text)))
    ∙ ap (λ (l : List ℕ). append_known before l) (take_more done count text within)

-- What was written and then what is left stays the same by one write more.
pub all_on : (old new : Option (List ℕ)) (text slice : List ℕ) (done count : ℕ) → slice ≡ text → done ≤ length text → new ≡ append_known old (take count (take (length slice - done) (drop done slice))) → append_known new (drop (done + count) text) ≡ append_known old (drop done text)
all_on old new text slice done count same within written =
    ap (λ (known : Option (List ℕ)). append_known known (drop (done + count) text)) (
    written
    ∙ ap (λ (s : List ℕ). append_known old (take count (take (length s - done) (drop done s)))) same
    ∙ ap (λ (l : List ℕ). append_known old (take count l)) (take_all (length text - done) (drop done text) (omega (arith, length-drop done text))))
    ∙ append_known-append old (take count (drop done text)) (drop (done + count) text)
    ∙ ap (λ (l : List ℕ). append_known old (take count (drop done text) ++ l)) (sym (drop-drop count done text))
    ∙ ap (λ (l : List ℕ). append_known old l) (take-append-drop count (drop done text))
