-- Results that are printed one behind the other.
use Rattle.std.proofs.Common.{◌≡◌, ◌∙◌, ℕ, List, [], ◌∷◌, ◌++◌, Bool, Result, Bor, sym, ap, subst, append-nil}
use Rattle.std.proofs.{KnownBytes.Appends-nil, KnownBytes.Appends-trans, lemmas.List.Folds.concat-append}
use Rattle.std.specs.List.{AllZip, concat}
use Rattle.dist_cluster.specs.declared.pairs.Half.{Half}
use Rattle.dist_talk.specs.declared.verdict.NoCookie.{NoCookie}
use Rattle.distping_report.specs.Sinks.{Prints, SinkState}
use Rattle.distping.specs.{Halves.ResultComes, Runs.PrintsResults}

-- one text behind another
prints_more : (a b c : SinkState) (s t : List ℕ) → Prints s a b → Prints t b c → Prints (s ++ t) a c
prints_more a b c s t p q = record {
  open_before = λ o. p.open_before (q.open_before o);
  put = λ o. Appends-trans a.contents b.contents c.contents s t (p.put (q.open_before o)) (q.put o);
}

-- one pair behind the others
zip_push : {X Y : Type 0} (R : X → Y → Type 0) (xs : List X) (ys : List Y) (x : X) (y : Y) → AllZip R xs ys → R x y
    → AllZip R (xs ++ x ∷ []) (ys ++ y ∷ [])
zip_push R [] [] x y all r = (r, tt)
zip_push R [] (z ∷ ys) x y all r = absurd all
zip_push R (w ∷ xs) [] x y all r = absurd all
zip_push R (w ∷ xs) (z ∷ ys) x y all r = (all.0, zip_push R xs ys x y all.1 r)

concat_push : (texts : List (List ℕ)) (text : List ℕ) → concat (texts ++ text ∷ []) ≡ concat texts ++ text
concat_push texts text = concat-append texts (text ∷ []) ∙ ap (λ l. concat texts ++ l) (append-nil text)

module _ (cookie : Result (Bor (List ℕ)) NoCookie) (json : Bool) where
  -- no result
  pub none_printed : (halves : List Half) (a : SinkState) → halves ≡ [] → PrintsResults cookie json halves a a
  none_printed halves a none = subst (λ xs. PrintsResults cookie json xs a a) (sym none) (record {
    texts = [];
    come = tt;
    printed = record { open_before = λ o. o; put = λ o. Appends-nil a.contents };
  })

  -- one result more
  pub one_more : (old new : List Half) (half : Half) (text : List ℕ) (a b c : SinkState) → new ≡ old ++ half ∷ []
      → PrintsResults cookie json old a b → ResultComes cookie json half text → Prints text b c → PrintsResults cookie json new a c
  one_more old new half text a b c is before comes prints = subst (λ xs. PrintsResults cookie json xs a c) (sym is) (record {
    texts = before.texts ++ text ∷ [];
    come = zip_push (ResultComes cookie json) old before.texts half text before.come comes;
    printed = subst (λ t. Prints t a c) (sym (concat_push before.texts text)) (prints_more a b c (concat before.texts) text before.printed prints);
  })
