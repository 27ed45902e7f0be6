use Rattle.dist_script_play.proofs.Words.{ℕ, List, [], ◌∷◌, OnOk, codes, decimal, ap, ◌∙◌, subst, Appends, concat, flags_text, text_of, creation_text}
use Rattle.dist_script_play.proofs.print.agreement.Goals as goal

pub returns : goal.returns
returns g c =
    let found = c.args.found.now in
    let line : List ℕ → List ℕ → List ℕ → List ℕ → List ℕ =
    λ a b x y. concat (codes "agree " ∷ a ∷ codes " " ∷ b ∷ codes " conn " ∷ decimal found.conn ∷ codes " common " ∷ flags_text found.common ∷ codes " creations " ∷ x ∷ codes " " ∷ y ∷ codes "\n" ∷ []) in
    let x = text_of c.creation.result in
    let y = text_of c.creation-2.result in
    subst (λ t. OnOk c.put.result (Appends (g.W.Write.contents c.args.out.now) (g.W.Write.contents c.put.new.out) t)) (
    ap (λ a. line a c.bytes-2.result.now x y) c.bytes.ensures.same
    ∙ ap (λ b. line c.args.a.now b x y) c.bytes-2.ensures.same
    ∙ ap (λ t. line c.args.a.now c.args.b.now t y) c.creation.ensures
    ∙ ap (line c.args.a.now c.args.b.now (creation_text found.creation_a)) c.creation-2.ensures
    ) c.put.ensures.text
