-- The sides of pieces are turned, one after another.
use Rattle.std.proofs.Common.{◌≡◌, ◌≢◌, ℕ, ◌+◌, ◌<◌, ◌≤◌, List, [], ◌∷◌, ◌++◌, length, take, drop, get_or, map, sym, ap, ◌∙◌, arith, le_refl, append-nil, drop_of_length-le}
use Rattle.std.proofs.Math.ListN.{set}
use Rattle.std.proofs.lemmas.List.{get_or-set_other, map_more, take_all, take_more_set}
use Rattle.dist_conversation.specs.Pieces.{turned}
use Rattle.dist_conversation.specs.declared.pieces.Arrival.{Arrival}

-- the first of these are turned
pub record Turned (before now : List Arrival) (i : ℕ) : Type 0 where
  pub front : take i now ≡ map turned (take i before)
  pub rest : (k : ℕ) (x : Arrival) → i ≤ k → get_or now k x ≡ get_or before k x

pub turned_more : (before now : List Arrival) (i : ℕ) (item p : Arrival) → Turned before now i → i < length before → i < length now → p ≡ get_or now i item → Turned before (set now i (turned p)) (i + 1)
turned_more before now i item p m within here is = record {
  front = take_more_set now i (turned p) here ∙ ap (λ (l : List Arrival). l ++ turned p ∷ []) m.front
      ∙ ap (λ (x : Arrival). map turned (take i before) ++ turned x ∷ []) (is ∙ m.rest i item (le_refl i)) ∙ sym (map_more turned before i item within);
  rest = λ k x h. let other : k ≢ i = omega arith in get_or-set_other now i k (turned p) x other ∙ m.rest k x (omega arith);
}

pub turned_all : (before now : List Arrival) (i : ℕ) → length before ≤ i → length now ≤ i → Turned before now i → now ≡ map turned before
turned_all before now i all here m = sym (take_all i now here) ∙ m.front ∙ ap (map turned) (take_all i before all)

-- those that are remembered were written in place
pub in_place : (n : ℕ) (xs ys : List Arrival) → n ≡ length xs → length ys ≡ length xs → take n (ys ++ drop (length ys) xs) ≡ ys
in_place n xs ys is same =
    let none : drop (length ys) xs ≡ [] = drop_of_length-le xs (omega arith) in
    ap (λ (l : List Arrival). take n (ys ++ l)) none ∙ ap (take n) (append-nil ys) ∙ take_all n ys (omega arith)
