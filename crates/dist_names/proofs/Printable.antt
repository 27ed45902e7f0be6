-- The escapes of bytes are printable, and so is what is written once no byte is left.
use Rattle.std.proofs.Common.{◌≡◌, ℕ, ◌<◌, ◌≤◌, List, [], ◌∷◌, ◌++◌, codes, length, drop, drop_of_length-le, append-nil, sym, ap, ◌∙◌, arith, All, flat_map}
use Rattle.std.proofs.lemmas.List.Elements.{All-nil, All-append, All-from_recursion, All-weaker, All-same, recursion_from_All}
use Rattle.std.specs.List.{AllByRecursion}
use Rattle.dist_names.specs.Escaped.{escape_of, escape_in_lines, escape_in_quotes, in_double_quotes, escapes_of, escaped_lines, IsPrintable}
use Rattle.dist_names.specs.Escaped.{IsPrintableOrLineFeed}

of_each : (P : ℕ → Type 0) (f : ℕ → List ℕ) (bytes : List ℕ) → AllByRecursion (λ b. All P (f b)) bytes → All P (flat_map f bytes)
of_each P f [] h = All-nil P
of_each P f (b ∷ bytes) h = All-append P (f b) (flat_map f bytes) h.0 (of_each P f bytes h.1)

-- what is written once no byte is left
written : (P : ℕ → Type 0) (f : ℕ → List ℕ) → ((b : ℕ) → b < 256 → All P (f b)) → (text bytes : List ℕ) (at : ℕ) → length bytes ≤ at → text ++ flat_map f (drop at bytes) ≡ flat_map f bytes → All (λ b. b < 256) bytes → All P text
written P f of_byte text bytes at end_ e h =
    let none : text ++ flat_map f (drop at bytes) ≡ text ++ [] = ap (λ rest. text ++ flat_map f rest) (drop_of_length-le bytes end_) in
    let whole : text ≡ flat_map f bytes = sym (append-nil text) ∙ sym none ∙ e in
    All-same P text (flat_map f bytes) whole (of_each P f bytes (recursion_from_All (λ b. All P (f b)) bytes (All-weaker (λ b. b < 256) (λ b. All P (f b)) of_byte bytes h)))

printable : (b : ℕ) → b < 256 → All IsPrintable (escape_of b)
printable b h = All-from_recursion IsPrintable (escape_of b) (grind arith)

printable_in_lines : (b : ℕ) → b < 256 → All IsPrintableOrLineFeed (escape_in_lines b)
printable_in_lines b h = All-from_recursion IsPrintableOrLineFeed (escape_in_lines b) (grind arith)

pub all_printable : (text bytes : List ℕ) (at : ℕ) → length bytes ≤ at → text ++ escapes_of (drop at bytes) ≡ escapes_of bytes → All (λ b. b < 256) bytes → All IsPrintable text
all_printable = written IsPrintable escape_of printable

pub all_printable_in_lines : (text bytes : List ℕ) (at : ℕ) → length bytes ≤ at → text ++ escaped_lines (drop at bytes) ≡ escaped_lines bytes → All (λ b. b < 256) bytes → All IsPrintableOrLineFeed text
all_printable_in_lines = written IsPrintableOrLineFeed escape_in_lines printable_in_lines

printable_in_quotes : (b : ℕ) → b < 256 → All IsPrintable (escape_in_quotes b)
printable_in_quotes b h = All-from_recursion IsPrintable (escape_in_quotes b) (grind arith)

quote : All IsPrintable (codes "\"")
quote = All-from_recursion IsPrintable (codes "\"") (grind arith)

pub all_printable_in_quotes : (text bytes : List ℕ) → text ≡ in_double_quotes bytes → All (λ b. b < 256) bytes → All IsPrintable text
all_printable_in_quotes text bytes e h =
    let within : All IsPrintable (flat_map escape_in_quotes bytes) = of_each IsPrintable escape_in_quotes bytes (recursion_from_All (λ b. All IsPrintable (escape_in_quotes b)) bytes (All-weaker (λ b. b < 256) (λ b. All IsPrintable (escape_in_quotes b)) printable_in_quotes bytes h)) in
    All-same IsPrintable text (in_double_quotes bytes) e (All-append IsPrintable (codes "\"") (flat_map escape_in_quotes bytes ++ codes "\"") quote (All-append IsPrintable (flat_map escape_in_quotes bytes) (codes "\"") within quote))
