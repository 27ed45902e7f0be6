-- What the parser matched, as the rows of its arguments.
use Rattle.std.proofs.Common.{◌≡◌, ◌∙◌, ℕ, ◌<◌, ◌^◌, Bool, true, false, not, ◌&&◌, refl, sym, ap, subst, List, [], Option, Some, None, Err, codes, option_map}
use Rattle.std.specs.{Prelude.SomeIff, Prelude.IsSomeAnd, Prelude.IfOk, Option.ok_or, Str.Parse.IsNumeral, Str.Parse.digits_value}
use Rattle.clap.specs.Words.{Row, Text, fault_of, first_of, first_value, rows_of, subcommand_of}
use Rattle.clap.specs.declared.parser.matches.Found.{Found}
use Rattle.clap.proofs.WalkLemmas.{first_value-rows}
use Rattle.distnode.specs.CommandLine.{Asks, FoundBy, HasNumber, IsOrderOf, program_app}
use Rattle.distnode.specs.declared.order_of_words.Order.{Order, TheVariants.Cookie, TheVariants.Run}
use Rattle.distnode.specs.declared.fault.Fault.{Fault, TheVariants.BadCommandLine, TheVariants.NoMemory}

-- what a getter gives is what the rows have
pub matched : {B : Type 0} (now : B → Text) (f : Found) (id : Text) (r o : Option B) → option_map now r ≡ first_value f id → r ≡ o → first_of id (rows_of f) ≡ option_map now o
matched now f id r o given is = sym (first_value-rows f id) ∙ sym given ∙ ap (option_map now) is

number_found : (bits other : ℕ) (text : Text) (r : Option ℕ) → SomeIff r (IsNumeral 10 text × (digits_value 10 text < 2 ^ bits)) (digits_value 10 text) → FoundBy (HasNumber bits other (Some text)) r
number_found bits other text None h = λ n p. h p.0
number_found bits other text (Some n) h = h

-- the number that a value writes
pub number_read : (bits other : ℕ) (o : Option Text) (text : Text) (r : Option ℕ) → o ≡ Some text → SomeIff r (IsNumeral 10 text × (digits_value 10 text < 2 ^ bits)) (digits_value 10 text) → FoundBy (HasNumber bits other o) r
number_read bits other o text r e h = subst (λ v. FoundBy (HasNumber bits other v) r) (sym e) (number_found bits other text r h)

-- no value is the other number
pub number_left : (bits other : ℕ) (o : Option Text) → o ≡ None → HasNumber bits other o other
number_left bits other o e = subst (λ v. HasNumber bits other v other) (sym e) refl

-- of four settings that are off or on, the third is off
pub third_off : (a b c d : Bool) → (a && (b && (not c && d))) ≡ true → c ≡ false
third_off true true false d e = refl
third_off a b c d e = absurd cc

-- words that are refused since memory ran out are not refused for what they are
pub not_bad : (why : Fault) → why ≡ NoMemory → why ≡ BadCommandLine → ⊥
not_bad why a b = absurd cc

-- the order that is found in what the parser matched is the order that the words ask for
pub order_given : (usual : ℕ) (words : List Text) (m : Option (Text × List Row)) (r : Option Order) → FoundBy (λ order. IsSomeAnd m (IsOrderOf usual order)) r → fault_of program_app words ≡ [] → m ≡ subcommand_of program_app words → IfOk (ok_or r BadCommandLine) (Asks usual words)
order_given usual words m None h taken same = tt
order_given usual words m (Some order) h taken same = (taken, subst (λ o. IsSomeAnd o (IsOrderOf usual order)) same h)

-- and where none is found they ask for none
pub no_order : (usual : ℕ) (words : List Text) (m : Option (Text × List Row)) (r : Option Order) → FoundBy (λ order. IsSomeAnd m (IsOrderOf usual order)) r → m ≡ subcommand_of program_app words → ok_or r BadCommandLine ≡ Err BadCommandLine → (order : Order) → Asks usual words order → ⊥
no_order usual words m None h same e order asks = h order (subst (λ o. IsSomeAnd o (IsOrderOf usual order)) (sym same) asks.1)
no_order usual words m (Some found) h same e order asks = absurd cc

apart : {T : Type 0} (o : Option T) (t : T) → o ≡ None → o ≡ Some t → ⊥
apart o t a b = absurd cc

-- without a file no order is that of the command `cookie`, and none is that of `run`
pub no_cookie : (usual : ℕ) (rows : List Row) → first_of (codes "file") rows ≡ None → (order : Order) → IsOrderOf usual order (codes "cookie", rows) → ⊥
no_cookie usual rows none (Cookie file challenge) p = apart _ _ none p.1
no_cookie usual rows none other p = absurd cc

pub no_run : (usual : ℕ) (rows : List Row) → first_of (codes "file") rows ≡ None → (order : Order) → IsOrderOf usual order (codes "run", rows) → ⊥
no_run usual rows none (Run file) p = apart _ _ none p.1
no_run usual rows none other p = absurd cc
