-- WHAT THE AGREEMENT RESTS ON, within one incarnation.
use Rattle.std.specs.Prelude.{◌||◌, ◌≡◌, ◌≢◌, ◌<◌}
use Rattle.dist_world_model.specs.Words.{ℕ, Bool, List, Some, true, false, nat_lt, Name, Dialler, Acceptor, Kind, slice_get}
use Rattle.dist_world_model.specs.{Rows.EndRow, Rows.past, Rows.holds_peer, Holders.held_before}

-- before happening number t the end had begun to hold its peer: dialled, when given out; accepted, when it took the name
abbrev pub entered_before : ℕ → EndRow → Bool
entered_before t row = holds_peer row.side (nat_lt row.given t) (past t row.named)

-- before happening number t the end had stopped holding its peer: it was doomed or closed
abbrev pub left_before : ℕ → EndRow → Bool
left_before t row = past t row.doomed || past t row.closed

-- A DIALLED END SENDS ITS REPLY while no other end of that incarnation holds its peer
abbrev pub SaysAlone : List EndRow → Type 0
SaysAlone rows =
    (i j : ℕ) (x y : EndRow) (p : Name) (n : ℕ) → i ≢ j → slice_get rows i ≡ Some x → slice_get rows j ≡ Some y → x.peer ≡ Some p → y.peer ≡ Some p
    → x.replied ≡ Some n → entered_before n y ≡ true → left_before n y ≡ true

-- OF TWO ACCEPTED ENDS of one peer, one had left or come up by the time the other comes up
abbrev pub RisesAlone : List EndRow → Type 0
RisesAlone rows =
    (i j : ℕ) (x y : EndRow) (p : Name) (n : ℕ) → i ≢ j → slice_get rows i ≡ Some x → slice_get rows j ≡ Some y → x.peer ≡ Some p → y.peer ≡ Some p
    → x.side ≡ Acceptor → y.side ≡ Acceptor → x.rose ≡ Some n → entered_before n y ≡ true → past n y.rose ≡ false → left_before n y ≡ true

-- NO END COMES UP while another end of its peer is dialled and on its way
abbrev pub RisesUndialled : List EndRow → Type 0
RisesUndialled rows =
    (i j : ℕ) (x y : EndRow) (p : Name) (n : ℕ) → i ≢ j → slice_get rows i ≡ Some x → slice_get rows j ≡ Some y → x.peer ≡ Some p → y.peer ≡ Some p
    → x.rose ≡ Some n → y.side ≡ Dialler → entered_before n y ≡ true → past n y.rose ≡ false → left_before n y ≡ true

-- A DIALLED END IS GIVEN OUT where no end of that incarnation holds its peer
abbrev pub DialsIdle : List EndRow → Type 0
DialsIdle rows =
    (i : ℕ) (x : EndRow) (p : Name) → slice_get rows i ≡ Some x → x.side ≡ Dialler → x.peer ≡ Some p → (k : Kind) (j : ℕ)
    → held_before rows x.given p k j ≡ false

-- IF A DIALLED END COMES UP, no other end of its peer came up after it was given out and before that
abbrev pub RisesFirst : List EndRow → Type 0
RisesFirst rows =
    (i j : ℕ) (x y : EndRow) (p : Name) (u v : ℕ) → i ≢ j → slice_get rows i ≡ Some x → slice_get rows j ≡ Some y → x.peer ≡ Some p → y.peer ≡ Some p
    → x.side ≡ Dialler → x.rose ≡ Some u → y.rose ≡ Some v → x.given < v → u < v

-- ONCE AN ACCEPTED END TOOK A NAME, no accepted end that took it before comes up there afterwards
abbrev pub TakesOver : List EndRow → Type 0
TakesOver rows =
    (i j : ℕ) (y z : EndRow) (p : Name) (n m u : ℕ) → i ≢ j → slice_get rows i ≡ Some y → slice_get rows j ≡ Some z → y.peer ≡ Some p
    → z.peer ≡ Some p → y.side ≡ Acceptor → z.side ≡ Acceptor → y.named ≡ Some n → z.named ≡ Some m → m < n → z.rose ≡ Some u → u < n

-- WHEN AN END COMES UP it closes the end of its peer that was up, where there is one
abbrev pub Replaces : List EndRow → Type 0
Replaces rows =
    (i j : ℕ) (x y : EndRow) (p : Name) (u v : ℕ) → i ≢ j → slice_get rows i ≡ Some x → slice_get rows j ≡ Some y → x.peer ≡ Some p → y.peer ≡ Some p
    → x.rose ≡ Some u → y.rose ≡ Some v → v < u → left_before u y ≡ false → y.closed ≡ Some u
