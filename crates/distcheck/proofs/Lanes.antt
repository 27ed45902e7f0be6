-- Which lanes were played, and lanes with a talk more.
use Rattle.std.proofs.Common.{◌≡◌, ℕ, zero, suc, ◌<◌, List, [], ◌∷◌, ◌++◌, length, get_or, set, map, sym, ap, ◌∙◌, append_assoc, append-nil, arith}
use Rattle.std.specs.Prelude.{IsPermutation}
use Rattle.std.specs.{List.flat_map, declared.vec.Vec.Vec}
use Rattle.std.proofs.lemmas.List.{get_or-map, length-map, map-set, map_push}
use Rattle.std.proofs.lemmas.List.Concat.{flat_map-append}
use Rattle.std.proofs.lemmas.List.Sorted.{IsPermutation-append_left, IsPermutation-append_right, IsPermutation-trans}
use Rattle.std.proofs.lemmas.List.Sorted.{IsPermutation-middle, IsPermutation-sym, IsPermutation-to_front}
use Rattle.distcheck.specs.Lanes.{lane_at, lanes_in, lanes_of}
use Rattle.distcheck.specs.declared.{queue.QueuedTalk.QueuedTalk, lane.LaneReply.LaneReply}
use Rattle.distcheck.proofs.Order.{map_by_places}

-- the lane of each reply is the one at its place
pub lanes_played : {Z : Type 0} (lanes : List (Vec QueuedTalk Z)) (replies : List LaneReply) → length replies ≡ length lanes
    → ((i : ℕ) (d : LaneReply) → i < length lanes → (get_or replies i d).lane.now ≡ lane_at lanes i) → lanes_in replies ≡ lanes_of lanes
lanes_played lanes replies len each =
    let many : length (lanes_of lanes) ≡ length lanes = length-map lanes _ in
    map_by_places (λ (r : LaneReply). r.lane.now) replies (lanes_of lanes) [] (len ∙ sym many) (λ i d l. each i d (rw many at l))

-- one element more in one of the lanes
pub one_lane_more : {X : Type 0} (lanes : List (List X)) (i : ℕ) (q : X) → i < length lanes
    → IsPermutation (q ∷ flat_map (λ l. l) lanes) (flat_map (λ l. l) (set lanes i (get_or lanes i [] ++ q ∷ [])))
one_lane_more [] i q l = absurd (omega (arith, l))
one_lane_more (lane ∷ lanes) zero q l =
    let rest = flat_map (λ l. l) lanes in
    rw (append_assoc lane (q ∷ []) rest) (IsPermutation-sym _ _ (IsPermutation-middle lane q rest))
one_lane_more (lane ∷ lanes) (suc i) q l =
    let rest = flat_map (λ l. l) lanes in
    let more = flat_map (λ l. l) (set lanes i (get_or lanes i [] ++ q ∷ [])) in
    IsPermutation-trans (q ∷ (lane ++ rest)) (lane ++ q ∷ rest) (lane ++ more) (IsPermutation-sym _ _ (IsPermutation-middle lane q rest))
    (IsPermutation-append_right lane (q ∷ rest) more (one_lane_more lanes i q (omega (arith, l))))

pub in_a_lane : {X Z : Type 0} (lanes : List (Vec X Z)) (i : ℕ) (q : X) (new old : Vec X Z)
    → i < length lanes → old ≡ get_or lanes i old → new.items ≡ old.items ++ q ∷ []
    → IsPermutation (q ∷ flat_map (λ l. l) (map (λ v. v.items) lanes)) (flat_map (λ l. l) (map (λ v. v.items) (set lanes i new)))
in_a_lane lanes i q new old l is more =
    let at : old.items ≡ get_or (map (λ v. v.items) lanes) i [] = ap (λ v. v.items) is ∙ sym (get_or-map (λ v. v.items) lanes i old [] l) in
    rw (map-set (λ v. v.items) lanes i new, more, at) (one_lane_more (map (λ v. v.items) lanes) i q (omega (arith, l, length-map lanes (λ v. v.items))))

pub in_its_own : {X Z : Type 0} (lanes : List (Vec X Z)) (q : X) (lane : Vec X Z) → lane.items ≡ q ∷ []
    → IsPermutation (q ∷ flat_map (λ l. l) (map (λ v. v.items) lanes)) (flat_map (λ l. l) (map (λ v. v.items) (lanes ++ lane ∷ [])))
in_its_own lanes q lane is =
    let all = flat_map (λ l. l) (map (λ v. v.items) lanes) in
    rw (map_push (λ v. v.items) lanes lane, flat_map-append (λ l. l) (map (λ v. v.items) lanes) (lane.items ∷ []), is, append-nil)
    (IsPermutation-sym _ _ (IsPermutation-to_front all q))

-- a talk more among those that are played first, beside others, or alone
pub first_more : {X : Type 0} (first beside alone : List X) (q : X) → IsPermutation (q ∷ (first ++ beside ++ alone)) ((first ++ q ∷ []) ++ beside ++ alone)
first_more first beside alone q = IsPermutation-append_left alone _ _ (IsPermutation-append_left beside _ _ (IsPermutation-sym _ _ (IsPermutation-to_front first q)))

pub beside_more : {X : Type 0} (first beside more alone : List X) (q : X) → IsPermutation (q ∷ beside) more
    → IsPermutation (q ∷ (first ++ beside ++ alone)) (first ++ more ++ alone)
beside_more first beside more alone q moved = IsPermutation-append_left alone _ _
    (IsPermutation-trans _ (first ++ q ∷ beside) _ (IsPermutation-sym _ _ (IsPermutation-middle first q beside)) (IsPermutation-append_right first _ _ moved))

pub alone_more : {X : Type 0} (before alone : List X) (q : X) → IsPermutation (q ∷ (before ++ alone)) (before ++ (alone ++ q ∷ []))
alone_more before alone q = rw (← append_assoc before alone (q ∷ [])) (IsPermutation-sym _ _ (IsPermutation-to_front (before ++ alone) q))
