use Rattle.dist_script_play.proofs.Words.{ℕ, List, [], ◌∷◌, OnOk, codes, ap, subst, Appends, concat, flags_text}
use Rattle.dist_script_play.proofs.print.record.Goals as goal

pub returns-in-Some : goal.returns-in-Some
returns-in-Some g c =
    let found = c.in-Some.found.now in
    rw c.in-Some.is (subst (λ t. OnOk c.put.result (Appends (g.W.Write.contents c.args.out.now) (g.W.Write.contents c.put.new.out) t)) (
    ap (λ (x : List ℕ). concat (codes " common " ∷ flags_text found.common ∷ codes " creation " ∷ x ∷ codes "\n" ∷ [])) c.creation.ensures) c.put.ensures.text)
