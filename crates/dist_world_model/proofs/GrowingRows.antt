-- What an end may send grows.
use Rattle.dist_world_model.proofs.Words.{◌≡◌, ℕ, Bool, true, List, is_some, Some, None, Option, refl, ap, false≢true, Message, Side, Acceptor, Dialler}
use Rattle.dist_world_model.proofs.Words.{conns_after_saying, spoken_on, conn_of, EndRow, once, Conn}
use Rattle.dist_world_model.proofs.Wires.{Marks, May, MayAnswer, MaySay, Voice}
use Rattle.dist_messages.specs.declared.message.Message.TheVariants as message

-- ---- what grows

pub once-keeps : (b : Bool) (t : ℕ) (o : Option ℕ) → is_some o ≡ true → is_some (once b t o) ≡ true
once-keeps b t (Some n) h = refl
once-keeps b t None h = absurd (false≢true h)

pub say-more : (s : Voice) (a b : Option ℕ) → (is_some a ≡ true → is_some b ≡ true) → (m : Message) → MaySay s a m → MaySay s b m
say-more s a b g (message.Reply c d) h = g h
say-more s a b g m h = h

pub answer-more : (s other : Voice) (a b c d : Option ℕ) → (is_some a ≡ true → is_some b ≡ true) → (is_some c ≡ true → is_some d ≡ true) → (m : Message) → MayAnswer s other a c m → MayAnswer s other b d m
answer-more s other a b c d g k (message.OldChallenge f e p) h = (g h.0, h.1, h.2, h.3)
answer-more s other a b c d g k (message.NewChallenge f n e p) h = (g h.0, h.1, h.2, h.3, h.4)
answer-more s other a b c d g k (message.Ack u) h = k h
answer-more s other a b c d g k m h = h

pub may-more : (side : Side) (own other : Voice) (x y : Marks) → (is_some x.named ≡ true → is_some y.named ≡ true) → (is_some x.replied ≡ true → is_some y.replied ≡ true) → (is_some x.rose ≡ true → is_some y.rose ≡ true)
    → (m : Message) → May side own other x m → May side own other y m
may-more Dialler own other x y g h k = say-more own x.replied y.replied h
may-more Acceptor own other x y g h k = answer-more own other x.named y.named x.rose y.rose g k

pub spoken-none : (cs : List Conn) (o : Option EndRow) (s : List ℕ) → conn_of o ≡ None → conns_after_saying cs o s ≡ cs
spoken-none cs None s h = refl
spoken-none cs (Some row) s h = ap (λ c. spoken_on cs c row.side s) h
