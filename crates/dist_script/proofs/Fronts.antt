-- A beginning of a text that was put somewhere.
use Rattle.std.proofs.Common.{◌≡◌, ◌∙◌, ℕ, List, [], ◌++◌, Option, Result, Ok, Err, IsOk, OnOk, OnErr, length, take, drop, refl, sym, ap, subst, append_assoc}
use Rattle.std.proofs.Common.{append-nil, take-append-drop}
use Rattle.std.proofs.{KnownBytes.Appends-nil, KnownBytes.Appends-trans, KnownBytes.Appends-kept, KnownBytes.starts_with_rest, Math.Seq.take-append_seam}
use Rattle.std.proofs.Transfers.{starts_with_trans}
use Rattle.std.specs.{Io.StartsWith, Io.KnownBytes.Appends, Io.KnownBytes.Keeps}
use Rattle.dist_script.specs.Texts.{PutsFront}

-- a text in two parts begins with the first of them
pub starts : (text front rest : List ℕ) → front ++ rest ≡ text → StartsWith text front
starts text front rest e = subst (λ t. StartsWith t front) e (take-append_seam front rest)

-- what holds of a call that succeeded
pub there : {X E P : Type 0} (r : Result X E) → OnOk r P → IsOk r → P
there (Ok x) p is = p
there (Err e) p is = absurd cc

-- what holds where a call failed
pub on_err : {X E P : Type 0} (r : Result X E) → P → OnErr r P
on_err (Ok x) p = tt
on_err (Err e) p = p

-- nothing was put there
pub front_none : (a b : Option (List ℕ)) (text : List ℕ) → Keeps a b → PutsFront text a b
front_none a b text keeps = record { front = []; begins = refl; put = Appends-kept a a b [] (Appends-nil a) keeps }

-- all of it was
pub front_all : (a b : Option (List ℕ)) (text : List ℕ) → Appends a b text → PutsFront text a b
front_all a b text put = record { front = text; begins = starts text text [] (append-nil text); put = put }

-- all of it was, or a write failed
pub front_either : {X E : Type 0} (r : Result X E) (a b : Option (List ℕ)) (text : List ℕ) → OnOk r (Appends a b text) → OnErr r (PutsFront text a b) → PutsFront text a b
front_either (Ok x) a b text put cut = front_all a b text put
front_either (Err e) a b text put cut = cut

-- what was put so far, and what is left, is the text
pub record PutSoFar (text : List ℕ) (old new : Option (List ℕ)) (rest : List ℕ) : Type 0 where
  pub done : List ℕ
  pub put : Appends old new done
  pub text_is : done ++ rest ≡ text

pub none_put : (a : Option (List ℕ)) (text : List ℕ) → PutSoFar text a a text
none_put a text = record { done = []; put = Appends-nil a; text_is = refl }

module _ (a b c : Option (List ℕ)) (text rest : List ℕ) (so : PutSoFar text a b rest) where
  -- a part of what is left was put
  pub more_put : (part left : List ℕ) → Appends b c part → part ++ left ≡ rest → PutSoFar text a c left
  more_put part left put e =
      record { done = so.done ++ part; put = Appends-trans a b c so.done part so.put put; text_is = append_assoc so.done part left ∙ ap (λ l. so.done ++ l) e ∙ so.text_is }

  -- a beginning of a part was
  pub part_put : (part left : List ℕ) → PutsFront part b c → part ++ left ≡ rest → PutsFront text a c
  part_put part left front e =
      let here = front.front in
      let behind = drop (length here) part in
      let all : here ++ (behind ++ left) ≡ rest = sym (append_assoc here behind left) ∙ ap (λ l. l ++ left) (sym (starts_with_rest part here front.begins)) ∙ e in
      record {
        front = so.done ++ here;
        begins = starts text (so.done ++ here) (behind ++ left) (append_assoc so.done here (behind ++ left) ∙ ap (λ l. so.done ++ l) all ∙ so.text_is);
        put = Appends-trans a b c so.done here so.put front.put;
      }

-- nothing is left
pub all_put : (a b : Option (List ℕ)) (text rest : List ℕ) → PutSoFar text a b rest → rest ≡ [] → Appends a b text
all_put a b text rest so none = subst (Appends a b) (sym (append-nil so.done) ∙ ap (λ l. so.done ++ l) (sym none) ∙ so.text_is) so.put

-- no more is written
pub stopped_put : (a b : Option (List ℕ)) (text rest : List ℕ) → PutSoFar text a b rest → PutsFront text a b
stopped_put a b text rest so = record { front = so.done; begins = starts text so.done rest so.text_is; put = so.put }

-- what begins the beginning of a text begins the text
pub front_of_front : (a b : Option (List ℕ)) (part text : List ℕ) → StartsWith text part → PutsFront part a b → PutsFront text a b
front_of_front a b part text begins front =
    record { front = front.front; begins = starts_with_trans text part front.front begins front.begins; put = front.put }

-- no byte was written
pub interrupted : (a b : Option (List ℕ)) → Keeps a b → Appends a b []
interrupted a b keeps = Appends-kept a a b [] (Appends-nil a) keeps

pub split_here : (rest left : List ℕ) (count : ℕ) → left ≡ drop count rest → take count rest ++ left ≡ rest
split_here rest left count is = ap (λ l. take count rest ++ l) is ∙ take-append-drop count rest
