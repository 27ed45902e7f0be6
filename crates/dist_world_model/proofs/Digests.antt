-- Each end that is up holds the digest of the own cookie and its own challenge.
use Rattle.dist_world_model.proofs.Words.{◌≡◌, ℕ, true, ◌&&◌, List, [], ◌∷◌, refl, ap, ◌∙◌, subst, own_digest, same_bytes, Setup, changed_or, node_after}
use Rattle.dist_world_model.proofs.Words.{step_result, AreRight, AllLives, OwnDigests, NodeLaws, run, Life, empty, Happening}
use Rattle.dist_world_model.proofs.{IncarnationEffects.Keeps, IncarnationEffects.always, IncarnationFacts.IsLife, LastingFacts.life_keeps, Places.eqb-self}

pub record IsRight (t : ℕ) (l : Life) : Type 0 where
  pub life : IsLife t l
  pub rights : AreRight l.node

bytes-same : (xs : List ℕ) → same_bytes xs xs ≡ true
bytes-same [] = refl
bytes-same (x ∷ xs) = (λ i. eqb-self x i && same_bytes xs xs) ∙ bytes-same xs

module _ (laws : NodeLaws) where
  right_keeps : Keeps IsRight
  right_keeps = record {
    stays = λ t l h. record { life = (life_keeps laws).stays t l h.life; rights = h.rights };
    begins = λ t who s c. record { life = (life_keeps laws).begins t who s c; rights = laws.right_opening (record s { creation = c }) };
    ends = λ t l live h. record { life = (life_keeps laws).ends t l live h.life; rights = h.rights };
    reaches = λ t l id c live h. record { life = (life_keeps laws).reaches t l id c live h.life; rights = h.rights };
    lives = λ t l v fresh f live is h. record { life = (life_keeps laws).lives t l v fresh f live is h.life; rights = subst (λ o. AreRight (node_after l.node (step_result l.node v o))) is (laws.right_step l.node v fresh h.life.legal h.rights) };
    resets = λ t l v live ok h. record { life = (life_keeps laws).resets t l v live ok h.life; rights = subst (λ o. AreRight (changed_or l.node o)) ok (laws.right_change l.node v h.life.legal h.rights) };
  }

  pub digest_lives : (ss : List Setup) (hs : List Happening) → AllLives OwnDigests (run hs (empty ss))
  digest_lives ss hs k l at i r up = let h = always IsRight right_keeps ss hs k l at in ap (λ d. same_bytes d (own_digest l.node.setup r.peer r.challenge)) (h.rights i r up) ∙ bytes-same (own_digest l.node.setup r.peer r.challenge)
