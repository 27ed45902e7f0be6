-- How much of a port mapper's answer is shown.
use Rattle.std.specs.Prelude.{ℕ, List, ◌==◌, count_by}

-- how many lines of a text are ended: its line feeds
abbrev pub count_feeds : List ℕ → ℕ
count_feeds text = count_by (λ byte. byte == 0x0A) text
