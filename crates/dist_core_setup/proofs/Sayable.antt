-- Each message that a node sends has a spelling, and it fits a frame.
use Rattle.std.proofs.lemmas.Bool.Decides.{nat_tests}
use Rattle.dist_names.specs.{NodeName.IsNodeName, declared.creation.Creation.Creation, declared.flags.Flags.Flags}
use Rattle.dist_messages.specs.declared.message.{Message.Message, Side.Side, Side.TheVariants.Acceptor, Side.TheVariants.Dialler, Status.Status}
use Rattle.dist_messages.specs.declared.message.Message.TheVariants as message
use Rattle.dist_messages.specs.declared.message.Status.TheVariants as status
use Rattle.dist_messages.specs.declared.message_error.MessageError.TheVariants as errors
use Rattle.dist_messages.proofs.Words.{◌≡◌, ℕ, true, false, cond, ltb, List, length, Ok, Err, refl, ap, arith, lit<, canonical, spelling_with_name, is_said_by}
use Rattle.dist_core_setup.specs.Saying.{CanBeSaid}

fits-name : (name : List ℕ) (m : Message) → IsNodeName name → spelling_with_name name m ≡ Ok (canonical m)
fits-name name m good =
    let few : ltb 255 (length name) ≡ false = let most = good.most in grind (arith, nat_tests) in
    ap (λ b. cond b (Err errors.BadName) (Ok (canonical m))) few

pub new_name : (flags : Flags) (c : Creation) (name : List ℕ) → IsNodeName name → CanBeSaid Dialler (message.NewName flags c name)
new_name flags c name good = (fits-name name (message.NewName flags c name) good, let most = good.most in omega (arith, most))

pub old_name : (flags : ℕ) (name : List ℕ) → IsNodeName name → CanBeSaid Dialler (message.OldName flags name)
old_name flags name good = (fits-name name (message.OldName flags name) good, let most = good.most in omega (arith, most))

pub new_challenge : (flags : Flags) (n : ℕ) (c : Creation) (name : List ℕ) → IsNodeName name → CanBeSaid Acceptor (message.NewChallenge flags n c name)
new_challenge flags n c name good = (fits-name name (message.NewChallenge flags n c name) good, let most = good.most in omega (arith, most))

pub old_challenge : (flags n : ℕ) (name : List ℕ) → IsNodeName name → CanBeSaid Acceptor (message.OldChallenge flags n name)
old_challenge flags n name good = (fits-name name (message.OldChallenge flags n name) good, let most = good.most in omega (arith, most))

pub complement : (high : ℕ) (c : Creation) → CanBeSaid Dialler (message.Complement high c)
complement high c = (refl, omega arith)

pub reply : (n : ℕ) (digest : List ℕ) → length digest ≡ 16 → CanBeSaid Dialler (message.Reply n digest)
reply n digest h = (refl, omega (arith, h))

pub ack : (digest : List ℕ) → length digest ≡ 16 → CanBeSaid Acceptor (message.Ack digest)
ack digest h = (refl, omega (arith, h))

pub status_of : (side : Side) (s : Status) → is_said_by s side ≡ true → CanBeSaid side (message.Status s)
status_of Dialler status.True h = (refl, lit< tt)
status_of Dialler status.False h = (refl, lit< tt)
status_of Dialler s h = absurd cc
status_of Acceptor status.True h = absurd cc
status_of Acceptor status.False h = absurd cc
status_of Acceptor s h = (refl, lit< tt)
