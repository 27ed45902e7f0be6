-- Which order the words of a command line give: the parser of command lines matches a command and its arguments, and what it matched is
-- the order.
use Rattle.std.specs.Prelude.{◌≡◌, ℕ, ◌<◌, ◌^◌, true, List, [], ◌∷◌, Option, Some, None, IsSomeAnd, codes}
use Rattle.std.specs.Str.Parse.{IsNumeral, digits_value}
use Rattle.clap.specs.Words.{App, Row, Rule, Text, fault_of, first_of, new_app, new_rule, subcommand_of, with_rule, with_subcommand}
use Rattle.clap.specs.declared.builder.action.ArgAction.TheVariants.{Set}
use Rattle.distnode.specs.declared.order_of_words.Order.{Order, TheVariants.Enact, TheVariants.Cookie, TheVariants.Names, TheVariants.Run}

-- a required argument without a name
abbrev pub word : Text → Rule
word id = record (new_rule id) { action = Some Set; required = true }

-- an option with a value: two dashes and its name, then the value
abbrev pub value : Text → Rule
value id = record (new_rule id) { long = Some id; action = Some Set }

abbrev pub cookie_app : App
cookie_app = with_rule (with_rule (new_app (codes "cookie")) (word (codes "file"))) (value (codes "challenge"))

-- the same, with a second name
abbrev pub value_or : Text → Text → Rule
value_or id other = record (value id) { aliases = other ∷ [] }

abbrev pub names_app : App
names_app = with_rule (new_app (codes "names")) (value_or (codes "port") (codes "epmd-port"))

abbrev pub run_app : App
run_app = with_rule (new_app (codes "run")) (word (codes "file"))

-- the program: its words begin with a command, which is required
abbrev pub bare_app : App
bare_app =
    let app = new_app (codes "distnode") in
    record app { top = record app.top { no_binary_name = true; disable_help_subcommand = true; subcommand_required = true } }

abbrev pub program_app : App
program_app =
    with_subcommand (with_subcommand (with_subcommand (with_subcommand bare_app
    (new_app (codes "enact")).top) cookie_app.top) names_app.top) run_app.top

-- the number of this many bits that a value writes in decimal digits; without a value, another
abbrev pub HasNumber : ℕ → ℕ → Option Text → ℕ → Type 0
HasNumber bits other None n = n ≡ other
HasNumber bits other (Some text) n = (IsNumeral 10 text × (digits_value 10 text < 2 ^ bits)) × (n ≡ digits_value 10 text)

-- the order is that of the command m.0 with the arguments m.1; the port mapper's port is `usual` unless they name one
abbrev pub IsOrderOf : ℕ → Order → Text × List Row → Type 0
IsOrderOf usual Enact m = m.0 ≡ codes "enact"
IsOrderOf usual (Cookie file challenge) m =
    (m.0 ≡ codes "cookie")
    × (first_of (codes "file") m.1 ≡ Some file.now)
    × HasNumber 32 0 (first_of (codes "challenge") m.1) challenge
IsOrderOf usual (Names port) m = (m.0 ≡ codes "names") × HasNumber 16 usual (first_of (codes "port") m.1) port
IsOrderOf usual (Run file) m = (m.0 ≡ codes "run") × (first_of (codes "file") m.1 ≡ Some file.now)

-- what is found has P; nothing is found only if nothing has P
abbrev pub FoundBy : {T : Type 0} → (T → Type 0) → Option T → Type 0
FoundBy {T} P None = (x : T) → P x → ⊥
FoundBy {T} P (Some x) = P x

-- the parser accepts these words, and the order is that of the command that it matched
abbrev pub Asks : ℕ → List Text → Order → Type 0
Asks usual words order = (fault_of program_app words ≡ []) × IsSomeAnd (subcommand_of program_app words) (IsOrderOf usual order)
