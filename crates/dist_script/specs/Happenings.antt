-- The lines of a script that say what happens in a world.
use Rattle.std.specs.Prelude.{ℕ, List, [], ◌∷◌, codes, Option, Some, None}
use Rattle.dist_core.specs.declared.changing.Change.TheVariants as change
use Rattle.dist_core.specs.declared.event.Event.TheVariants as event
use Rattle.dist_world_model.specs.Rows.{most_connections}
use Rattle.dist_world_model.specs.declared.happening.Happening.{Happening}
use Rattle.dist_world_model.specs.declared.happening.Happening.TheVariants as happening
use Rattle.dist_script.specs.Fields.{◌>>=◌, Read, next, give, whole_line, bytes_in, count_in, number_in, creation_in, end_in, name_in, opening_in, why_in}
use Rattle.dist_script.specs.{declared.happenings.HappeningWord.HappeningWord, Nodes.cookie_in, Nodes.node_in}
use Rattle.dist_script.specs.declared.happenings.HappeningWord.TheVariants as kind

-- the first word of each kind of line
abbrev pub happening_kinds : List (List ℕ × HappeningWord)
happening_kinds =
    (codes "take", kind.Take) ∷ (codes "deliver", kind.Deliver) ∷ (codes "tick", kind.Tick) ∷ (codes "lose", kind.Lose) ∷
    (codes "dial", kind.Dial) ∷ (codes "reach", kind.Reach) ∷ (codes "opened", kind.Opened) ∷ (codes "accept", kind.Accept) ∷
    (codes "begin", kind.Begin) ∷ (codes "halt", kind.Halt) ∷ (codes "begin_as", kind.BeginAs) ∷ (codes "cookie", kind.Cookie) ∷
    (codes "no_cookie", kind.NoCookie) ∷ (codes "usual_cookie", kind.UsualCookie) ∷
    (codes "outside_frame", kind.OutsideFrame) ∷ (codes "outside_incoming", kind.OutsideIncoming) ∷ (codes "outside_opened", kind.OutsideOpened) ∷ []

-- what the words say behind the first and the next one, which is a node, or the connection that is accepted
abbrev pub behind_node : HappeningWord → ℕ → List (List ℕ) → Read Happening
behind_node kind.Begin node = next creation_in (λ creation. give (happening.Begin node creation))
behind_node kind.BeginAs node = λ words. node_in words >>= (λ setup. give (happening.BeginAs node setup) [])
behind_node kind.Halt node = give (happening.Halt node)
behind_node kind.Dial node = next name_in (λ peer. next opening_in (λ opening. give (happening.Dial node peer opening)))
behind_node kind.Reach node = next end_in (λ end_. next count_in (λ target. give (happening.Reach node end_ target)))
behind_node kind.Opened node = next end_in (λ end_. give (happening.Opened node end_))
behind_node kind.Accept conn = give (happening.Accept conn)
behind_node kind.Deliver node = next end_in (λ end_. next count_in (λ bytes. give (happening.Deliver node end_ bytes)))
behind_node kind.Take node = next end_in (λ end_. next (number_in 32) (λ fresh. give (happening.Take node end_ fresh)))
behind_node kind.Lose node = next end_in (λ end_. next why_in (λ why. give (happening.Lose node end_ why)))
behind_node kind.Tick node = next end_in (λ end_. give (happening.Tick node end_))
behind_node kind.Cookie node = next name_in (λ peer. next cookie_in (λ cookie. give (happening.Reset node (change.Cookie peer (Some cookie)))))
behind_node kind.NoCookie node = next name_in (λ peer. give (happening.Reset node (change.Cookie peer None)))
behind_node kind.UsualCookie node = next cookie_in (λ cookie. give (happening.Reset node (change.UsualCookie cookie)))
behind_node kind.OutsideIncoming node = give (happening.Outside node (event.Incoming most_connections) 0)
behind_node kind.OutsideOpened node = next end_in (λ end_. give (happening.Outside node (event.Opened end_ most_connections) 0))
behind_node kind.OutsideFrame node =
    next end_in (λ end_. next bytes_in (λ body. next (number_in 32) (λ fresh. give (happening.Outside node (event.Frame end_ body) fresh))))

-- what the words behind the first say
abbrev pub happening_in : HappeningWord → List (List ℕ) → Read Happening
happening_in kind = next count_in (behind_node kind)

-- THE LINE OF A HAPPENING: a first word of the table, what stands behind it, and no word more
abbrev pub happening_line : List (List ℕ) → Option Happening
happening_line = whole_line happening_kinds happening_in
