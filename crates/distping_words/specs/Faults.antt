-- The exit status of a fault, what bytes give, and what can be asked for.
use Rattle.std.specs.Prelude.{◌≡◌, ◌<◌, ℕ, true, false, List, length, Result, Ok, Err, is_some}
use Rattle.dist_names.specs.NodeName.{IsNodeName}
use Rattle.distping_words.specs.declared.{command.Wanted.Wanted, fault.Fault.Fault, refusal.Refusal.Refusal}
use Rattle.distping_words.specs.declared.fault.Fault.TheVariants as fault
use Rattle.distping_words.specs.declared.refusal.Refusal.TheVariants as refusal
use Rattle.dist_program.specs.declared.word_fault.WordFault.{WordFault}
use Rattle.dist_program.specs.declared.word_fault.WordFault.TheVariants as word

-- 2 if the command line is at fault, else 1
abbrev pub fault_status : Fault → ℕ
fault_status fault.BadName = 2
fault_status fault.NoNode = 2
fault_status fault.TwoCookies = 2
fault_status fault.TwoDetails = 2
fault_status fault.OneNodeAlone = 2
fault_status fault.TunnelAlone = 2
fault_status fault.TooManyNodes = 2
fault_status fault.CountAlone = 2
fault_status fault.MetricsAlone = 2
fault_status fault.ListenAlone = 2
fault_status fault.CaptureAlone = 2
fault_status other = 1

-- the same for all that ends the program early
abbrev pub refusal_status : Refusal → ℕ
refusal_status (refusal.NoCookie fault) = 1
refusal_status (refusal.CookieUnread sentence) = 1
refusal_status (refusal.BadWord sentence) = 2
refusal_status (refusal.Fault fault) = fault_status fault

-- why a word is refused, as what ends the program
abbrev pub refusal_of : WordFault → Refusal
refusal_of (word.Bad sentence) = refusal.BadWord sentence
refusal_of word.NoMemory = refusal.Fault fault.NoMemory

-- WHAT BYTES GIVE: their name, exactly where they are one, unless memory runs out
abbrev pub GivesName : List ℕ → Result (List ℕ) Fault → Type 0
GivesName bytes (Ok name) = IsNodeName bytes × (name ≡ bytes)
GivesName bytes (Err fault.BadName) = IsNodeName bytes → ⊥
GivesName bytes (Err fault.NoMemory) = Unit {0}
GivesName bytes (Err other) = ⊥

-- what is asked for can be done: who listens has a name, and reads no capture; who dials has a target, or a file that may name some
abbrev pub Fits : Wanted → Type 0
Fits w =
    (is_some w.choices.listen ≡ true → (is_some w.name ≡ true) × (is_some w.choices.capture ≡ false))
    × (is_some w.choices.listen ≡ false → is_some w.choices.capture ≡ false → is_some w.choices.roster ≡ false → 0 < length w.targets.items)
