-- Talks that are confirmed, and one more.
use Rattle.std.proofs.Common.{◌≡◌, ◌⊎◌, inl, inr, ℕ, ◌≤◌, List, [], ◌∷◌, ◌++◌, length, Option, Some, None, refl, subst, ◌∙◌, length-append, arith}
use Rattle.std.specs.Prelude.{All, Any, IfSome}
use Rattle.std.proofs.lemmas.{List.get_or_append_left, List.map_push, List.Elements.All-push, List.Elements.All-weaker, List.Quantifiers.Any-push}
use Rattle.dist_conformance.specs.declared.verdicts.TalkVerdict.TheVariants as verdict
use Rattle.distcheck.specs.{Played.IsConfirmed, Played.IsTwice, Played.IsTwiceUnless, Played.played_verdict, Played.talks_of, declared.tries.PlayedTalk.PlayedTalk}

any_more : {X : Type 0} (P : X → Type 0) (xs : List X) (y : X) → Any P xs → Any P (xs ++ y ∷ [])
any_more P xs y (k, x, within, at, here) = (k, x, omega (arith, within, length-append xs (y ∷ [])), get_or_append_left xs (y ∷ []) x k within ∙ at, here)

-- the talks so far are confirmed, and one of this row deviates, and was tried twice
pub record IsSoFar (row : Option (List ℕ)) (ps : List PlayedTalk) : Type 0 where
  pub twice : IfSome row (λ id. Any (IsTwice id) ps)
  pub confirmed : All (IsConfirmed ps) ps

pub none_so_far : IsSoFar None []
none_so_far = record { twice = tt; confirmed = λ k d h. absurd (omega arith) }

-- one of its row deviates for good, or it was tried twice
own_row : (row : Option (List ℕ)) (ps : List PlayedTalk) (p : PlayedTalk) → IfSome row (λ id. Any (IsTwice id) ps) → played_verdict p ≡ verdict.Deviates
    → (row ≡ Some p.queued.row.now.id) ⊎ (2 ≤ length p.tries.items) → Any (IsTwice p.queued.row.now.id) (ps ++ p ∷ [])
own_row row ps p known deviates (inl is) =
    any_more (IsTwice p.queued.row.now.id) ps p (subst (λ (r : Option (List ℕ)). IfSome r (λ id. Any (IsTwice id) ps)) is known)
own_row row ps p known deviates (inr two) = Any-push (IsTwice p.queued.row.now.id) ps p record { same = refl; deviates = deviates; twice = two }

all_more : (ps : List PlayedTalk) (p : PlayedTalk) → All (IsConfirmed ps) ps → IsConfirmed (ps ++ p ∷ []) p → All (IsConfirmed (ps ++ p ∷ [])) (ps ++ p ∷ [])
all_more ps p before own = All-push (IsConfirmed (ps ++ p ∷ [])) ps p
    (All-weaker (IsConfirmed ps) (IsConfirmed (ps ++ p ∷ [])) (λ q c d. any_more (IsTwice q.queued.row.now.id) ps p (c d)) ps before) own

pub known_more : (row : Option (List ℕ)) (ps : List PlayedTalk) (p : PlayedTalk) → IsSoFar row ps → IsTwiceUnless row p
    → played_verdict p ≡ verdict.Deviates → IsSoFar (Some p.queued.row.now.id) (ps ++ p ∷ [])
known_more row ps p before fair deviates =
    let here = own_row row ps p before.twice deviates (fair deviates) in
    record { twice = here; confirmed = all_more ps p before.confirmed (λ d. here) }

still : (row : Option (List ℕ)) (ps : List PlayedTalk) (p : PlayedTalk) → IfSome row (λ id. Any (IsTwice id) ps) → IfSome row (λ id. Any (IsTwice id) (ps ++ p ∷ []))
still None ps p known = tt
still (Some id) ps p known = any_more (IsTwice id) ps p known

pub other_more : (row : Option (List ℕ)) (ps : List PlayedTalk) (p : PlayedTalk) → IsSoFar row ps → IsTwiceUnless row p → (played_verdict p ≡ verdict.Deviates → ⊥)
    → IsSoFar row (ps ++ p ∷ [])
other_more row ps p before fair not = record { twice = still row ps p before.twice; confirmed = all_more ps p before.confirmed (λ d. absurd (not d)) }

pub talks_more : (ps qs : List PlayedTalk) (p q : PlayedTalk) → talks_of ps ≡ talks_of qs → p.queued ≡ q.queued → talks_of (ps ++ p ∷ []) ≡ talks_of (qs ++ q ∷ [])
talks_more ps qs p q same one =
    rw (map_push (λ (t : PlayedTalk). t.queued) ps p, map_push (λ (t : PlayedTalk). t.queued) qs q, same, one) refl
