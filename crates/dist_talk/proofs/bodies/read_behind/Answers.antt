use Rattle.std.proofs.Common.{rules, ◌≡◌, ℕ, ◌+◌, List, length}
use Rattle.dist_talk.proofs.Behind.{cut_behind_tag, only_byte}
use Rattle.dist_talk.proofs.bodies.read_behind.Goals as goal

pub returns-in-Err-fill-clause-hears : goal.returns-in-Err-fill-clause-hears
returns-in-Err-fill-clause-hears g c =
    let room : List ℕ = c.fill-2.new.room in
    let size : length room + 1 ≡ c.args.len = search rules in
    cut_behind_tag c.args.len _ c.args.tags.now c.fill.new.room room c.in-Err-fill.fault c.in-Err-fill.at
    (only_byte c.fill.new.room c.fill.ensures.len) c.in-Err-fill.ensures.cut size c.in_default.ensures.hears c.in-Err-fill.ensures.hears
