-- THE ORDER OF NUMBERS, of incarnations and on connections.
use Rattle.std.specs.Prelude.{◌≡◌, ◌<◌}
use Rattle.dist_world_model.specs.{Words.ℕ, Words.Some, Words.false, Words.slice_get, Rows.EndRow, World.World, World.Life, World.Conn, World.runs}

-- each number of a row is such a number
pub record Numbers (P : ℕ → Type 0) (row : EndRow) : Type 0 where
  pub given : P row.given
  pub named : (n : ℕ) → row.named ≡ Some n → P n
  pub doomed : (n : ℕ) → row.doomed ≡ Some n → P n
  pub replied : (n : ℕ) → row.replied ≡ Some n → P n
  pub rose : (n : ℕ) → row.rose ≡ Some n → P n
  pub closed : (n : ℕ) → row.closed ≡ Some n → P n

-- ALL NUMBERS OF AN INCARNATION ARE ABOVE those of the same node's earlier ones
abbrev pub AreAbove : World → Type 0
AreAbove w =
    (i j : ℕ) (a b : Life) (p q : ℕ) (x y : EndRow) → i < j → slice_get w.lives i ≡ Some a → slice_get w.lives j ≡ Some b → a.who ≡ b.who
    → slice_get a.rows p ≡ Some x → slice_get b.rows q ≡ Some y → Numbers (λ m. Numbers (λ n. n < m) x) y

-- OF A NODE'S INCARNATIONS at most the last one runs
abbrev pub OnlyLastRuns : World → Type 0
OnlyLastRuns w = (i j : ℕ) (a b : Life) → i < j → slice_get w.lives i ≡ Some a → slice_get w.lives j ≡ Some b → a.who ≡ b.who → runs a ≡ false

-- the end accepted on a connection that leads to incarnation b, and its row
pub record Accepted (k : Conn) (b : Life) : Type 0 where
  pub id : ℕ
  pub row : EndRow
  pub is : k.accepted ≡ Some id
  pub there : slice_get b.rows id ≡ Some row

-- the accepted end took its name before number n, and each end's peer is the other's node
pub record Named (k : Conn) (a b : Life) (x : EndRow) (n : ℕ) : Type 0 where
  pub end_ : Accepted k b
  pub at_ : ℕ
  pub named : end_.row.named ≡ Some at_
  pub before : at_ < n
  pub peer : x.peer ≡ Some b.node.setup.name
  pub other : end_.row.peer ≡ Some a.node.setup.name

-- the accepted end came up before number n
pub record Risen (k : Conn) (b : Life) (n : ℕ) : Type 0 where
  pub end_ : Accepted k b
  pub at_ : ℕ
  pub rose : end_.row.rose ≡ Some at_
  pub before : at_ < n

-- ON ONE CONNECTION the name is taken, the reply sent, the accepted end comes up and then the dialled end, in this order;
-- x is the row of the end that incarnation a dialled, and the connection leads to incarnation b
pub record InOrder (k : Conn) (a b : Life) (x : EndRow) : Type 0 where
  pub replies : (r : ℕ) → x.replied ≡ Some r → Named k a b x r
  pub rises : (e : Accepted k b) (u : ℕ) → e.row.rose ≡ Some u → (r : ℕ) × (x.replied ≡ Some r) × (r < u)
  pub follows : (u : ℕ) → x.rose ≡ Some u → Risen k b u

-- EACH CONNECTION IS IN ORDER
abbrev pub AreInOrder : World → Type 0
AreInOrder w =
    (c : ℕ) (k : Conn) (a b : Life) (x : EndRow) → slice_get w.conns c ≡ Some k → slice_get w.lives k.life ≡ Some a
    → slice_get w.lives k.target ≡ Some b → slice_get a.rows k.dialler ≡ Some x → InOrder k a b x
