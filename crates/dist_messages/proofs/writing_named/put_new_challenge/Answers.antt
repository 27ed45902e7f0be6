use Rattle.dist_messages.proofs.Words.{[], ◌∷◌, ◌++◌, length, w16, w32, w64, to_be_bytes}
use Rattle.dist_messages.proofs.Putting.{more, last}
use Rattle.dist_messages.proofs.writing_named.put_new_challenge.Goals as goal

pub returns : goal.returns
returns c =
    let old = c.args.body.now.items in
    let flags = to_be_bytes w64 c.args.flags.0 in
    let challenge = to_be_bytes w32 c.args.challenge in
    let creation = to_be_bytes w32 c.args.creation.0 in
    let name = to_be_bytes w16 (length c.args.name.now) ++ c.args.name.now in
    let one = more old (0x4e ∷ []) flags c.push.new.self.items c.put_64.new.body.items c.in_ok-push.ensures.items c.in_ok-put_64.ensures in
    let two = more old (0x4e ∷ flags) challenge c.put_64.new.body.items c.put_32.new.body.items one c.in_ok-put_32.ensures in
    let three = more old (0x4e ∷ flags ++ challenge) creation c.put_32.new.body.items c.put_32-2.new.body.items two c.in_ok-put_32-2.ensures in
    last c.put_name.result old (0x4e ∷ flags ++ challenge ++ creation) name c.put_32-2.new.body.items c.put_name.new.body.items three c.put_name.ensures
