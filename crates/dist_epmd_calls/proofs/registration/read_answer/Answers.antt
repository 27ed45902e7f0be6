use Rattle.dist_epmd_calls.proofs.Registering.{answer_none, answer_cut, answer_whole, answer_is, first_len, more_len, rest_few}
use Rattle.dist_epmd_calls.proofs.{Words.◌+◌, Words.◌-◌, Words.◌++◌, Words.get_or, Words.drop, Asks.reported}
use Rattle.dist_epmd_calls.proofs.registration.read_answer.Goals as goal

pub returns-in_err-read_exact-clause-hears : goal.returns-in_err-read_exact-clause-hears
returns-in_err-read_exact-clause-hears g c =
    let one = first_len c.args.room.now c.read_exact.new.room c.requires c.read_exact.auto.room in
    answer_is (reported c.from_residual.ensures.1) (answer_none c.in_err-read_exact.field-0.0 c.read_exact.new.room _ one c.in_err-read_exact.ensures.hears)

pub returns-in_err-read_exact-2-clause-hears : goal.returns-in_err-read_exact-2-clause-hears
returns-in_err-read_exact-2-clause-hears g c =
    let one = first_len c.args.room.now c.read_exact.new.room c.requires c.read_exact.auto.room in
    let rest = more_len c.rest_len-len.result c.args.room.now c.read_exact.new.room c.read_exact-2.new.room c.requires one (rest_few c.rest_len-len.result (get_or (c.read_exact.new.room ++ drop 1 c.args.room.now) 0 0) c.rest_len-len.ensures) c.read_exact-2.auto.room in
    answer_is (reported c.from_residual-in_err-read_exact-2.ensures.1) (answer_cut c.in_err-read_exact-2.field-0.0 c.read_exact.new.room (drop 1 c.args.room.now) c.read_exact-2.new.room _ c.rest_len-len.result one c.rest_len-len.ensures rest c.in_ok-read_exact.ensures.hears c.in_err-read_exact-2.ensures.hears)

pub returns-clause-hears : goal.returns-clause-hears
returns-clause-hears g c =
    let one = first_len c.args.room.now c.read_exact.new.room c.requires c.read_exact.auto.room in
    let rest = more_len c.rest_len-len.result c.args.room.now c.read_exact.new.room c.read_exact-2.new.room c.requires one (rest_few c.rest_len-len.result (get_or (c.read_exact.new.room ++ drop 1 c.args.room.now) 0 0) c.rest_len-len.ensures) c.read_exact-2.auto.room in
    answer_whole c.read_exact.new.room (drop 1 c.args.room.now) c.read_exact-2.new.room c.rest_len-len.result ((1 + c.rest_len-len.result) - 1) one c.rest_len-len.ensures rest c.in_ok-read_exact.ensures.hears c.in_ok-read_exact-2.ensures.hears
