use Rattle.std.proofs.Common.{true, ◌≡◌, ◌<◌, length, sym, ap, subst, ◌∙◌, arith}
use Rattle.dist_script.specs.{Fields.Makes, Scripts.SoFar, Scripts.is_either, Scripts.with_event, Scripts.with_happening, Words.words_of}
use Rattle.dist_script.specs.contracts.script.Draft.{the_view}
use Rattle.dist_script.proofs.Scripts.{a_node, no_node, by_either, none_there, one_there, more_there}
use Rattle.dist_script.proofs.script.Draft.take.Goals as goal

pub returns-then-skip : goal.returns-then-skip
returns-then-skip c =
    subst (Makes c.set_up.result c.set_up.new.self) (sym (a_node c.args.self.now (words_of c.args.text.now) c.skip.new.self (sym c.new-words.ensures ∙ c.if-skip.ensures))) c.set_up.ensures

pub returns-in-0 : goal.returns-in-0
returns-in-0 c =
    let s : SoFar = the_view c.self.inside in
    let few : length c.self.inside.nodes.items ≡ 0 = omega (arith, c.len.ensures, c.self.inside.nodes.ok.0, c.in-0.is) in
    let words = words_of c.args.text.now in
    rw (← c.self.view_is) (by_either c.is_line.result (is_either words) _ (record s { has_lines = true }) (no_node s words (λ rest e. c.if-skip.ensures.1 rest (c.new-words.ensures ∙ e)) ∙ none_there s.nodes (record s { has_lines = true }) words few) c.is_line.ensures)

pub returns-in-1 : goal.returns-in-1
returns-in-1 c =
    let s : SoFar = the_view c.self.inside in
    let few : length c.self.inside.nodes.items ≡ 1 = omega (arith, c.len.ensures, c.self.inside.nodes.ok.0, c.in-1.is) in
    let words = words_of c.args.text.now in
    rw (← c.self.view_is) (subst (Makes c.take_event.result c.take_event.new.self) (sym (no_node s words (λ rest e. c.if-skip.ensures.1 rest (c.new-words.ensures ∙ e)) ∙ one_there s.nodes (record s { has_lines = true }) words few ∙ ap (with_event (record s { has_lines = true })) (sym (c.if-skip.ensures.0 ∙ c.new-words.ensures)))) c.take_event.ensures)

pub returns-in_default : goal.returns-in_default
returns-in_default c =
    let s : SoFar = the_view c.self.inside in
    let more : 1 < length c.self.inside.nodes.items = omega (arith, c.len.ensures, c.self.inside.nodes.ok.0, c.in_default) in
    let words = words_of c.args.text.now in
    rw (← c.self.view_is) (subst (Makes c.happen.result c.happen.new.self) (sym (no_node s words (λ rest e. c.if-skip.ensures.1 rest (c.new-words.ensures ∙ e)) ∙ more_there s.nodes (record s { has_lines = true }) words more ∙ ap (with_happening (record s { has_lines = true })) (sym (c.if-skip.ensures.0 ∙ c.new-words.ensures)))) c.happen.ensures)
