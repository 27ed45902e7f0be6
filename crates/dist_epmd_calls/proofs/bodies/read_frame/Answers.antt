use Rattle.dist_epmd_calls.proofs.Words.{◌≡◌, ◌≤◌, length, drop, ◌∙◌, arith, take_at}
use Rattle.dist_epmd_calls.proofs.Arrivals.{frame_cut, frame_whole}
use Rattle.dist_epmd_calls.proofs.bodies.read_frame.Goals as goal

pub returns-in-Err-read_exact-clause-hears : goal.returns-in-Err-read_exact-clause-hears
returns-in-Err-read_exact-clause-hears g c =
    let all : length c.read_exact.new.room ≡ c.in-Ok.len = omega (arith, c.in-Ok-vec.ensures.len) in
    frame_cut c.args.most c.in-Ok.len c.in-Err-read_exact.fault c.read_exact.new.room all c.in-Ok.ensures.hears c.in-Err-read_exact.ensures.hears

pub returns-in-Ok-read_exact-clause-hears : goal.returns-in-Ok-read_exact-clause-hears
returns-in-Ok-read_exact-clause-hears g c =
    let all : length c.read_exact.new.room ≡ c.in-Ok.len = omega (arith, c.in-Ok-vec.ensures.len) in
    let held : length c.read_exact.new.room ≡ c.in-Ok-vec.body.len = omega arith in
    let within : c.in-Ok.len ≤ c.args.most = omega arith in
    let same = c.from_vec.ensures ∙ take_at c.read_exact.new.room (drop (length c.read_exact.new.room) c.in-Ok-vec.body.items) c.in-Ok-vec.body.len held in
    frame_whole c.args.most c.in-Ok.len c.read_exact.new.room c.from_vec.result within all same c.in-Ok.ensures.hears c.in-Ok-read_exact.ensures.hears
