-- What is kept and printed of a node.
use Rattle.std.proofs.Common.{◌≡◌, ℕ, Bool, List, Result, Ok, Err, IfOk, Bor, string_bytes, sym, subst, ◌∙◌}
use Rattle.dist_cluster.specs.declared.pairs.Half.{Half}
use Rattle.dist_talk.specs.declared.verdict.NoCookie.{NoCookie}
use Rattle.distping_report.specs.declared.asked.Dial.{Dial}
use Rattle.distping.specs.{Halves.DialKeeps, Halves.DialShows, Halves.HalfComes, Halves.ResultComes, declared.reply.NodeResult.NodeResult}

module _ (d : Dial) (cookie : Result (Bor (List ℕ)) NoCookie) (node : List ℕ) (named : d.node.now ≡ node) (with : d.cookie ≡ cookie) where
  -- a dial of a node with a cookie
  abbrev comes : (half : Half) → half.node.now ≡ node → DialKeeps d half → HalfComes cookie half
  comes half same keeps = record { dial = d; node_is = named ∙ sym same; cookie_is = with; keeps = keeps }

  pub half_comes : {E : Type 0} (r : Result Half E) → IfOk r (λ half. half.node.now ≡ node) → IfOk r (DialKeeps d) → IfOk r (HalfComes cookie)
  half_comes (Ok half) same keeps = comes half same keeps
  half_comes (Err e) same keeps = tt

  -- the same, with the text that is printed
  pub result_comes : {E : Type 0} (r : Result NodeResult E) (json : Bool) → d.lines.quiet ≡ json → IfOk r (λ it. it.half.node.now ≡ node)
      → IfOk r (λ it. DialShows d.lines.quiet d it.half (string_bytes it.text)) → IfOk r (λ it. ResultComes cookie json it.half (string_bytes it.text))
  result_comes (Ok it) json quiet same shown =
      let kept = subst (λ j. DialShows j d it.half (string_bytes it.text)) quiet shown in
      record { comes = comes it.half same kept.keeps; shows = kept.shows }
  result_comes (Err e) json quiet same shown = tt
