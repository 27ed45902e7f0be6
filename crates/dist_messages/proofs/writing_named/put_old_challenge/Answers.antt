use Rattle.dist_messages.proofs.Words.{[], ◌∷◌, ◌++◌, w16, w32, to_be_bytes, written_version}
use Rattle.dist_messages.proofs.Putting.{more, last_slice}
use Rattle.dist_messages.proofs.writing_named.put_old_challenge.Goals as goal

pub returns : goal.returns
returns c =
    let old = c.args.body.now.items in
    let version = to_be_bytes w16 written_version in
    let flags = to_be_bytes w32 c.args.flags in
    let challenge = to_be_bytes w32 c.args.challenge in
    let one = more old (0x6e ∷ []) version c.push.new.self.items c.put_version.new.body.items c.in_ok-push.ensures.items c.in_ok-put_version.ensures in
    let two = more old (0x6e ∷ version) flags c.put_version.new.body.items c.put_32.new.body.items one c.in_ok-put_32.ensures in
    let three = more old (0x6e ∷ version ++ flags) challenge c.put_32.new.body.items c.put_32-2.new.body.items two c.in_ok-put_32-2.ensures in
    last_slice c.extend_from_slice.result old (0x6e ∷ version ++ flags ++ challenge) c.args.name.now c.put_32-2.new.body.items c.extend_from_slice.new.self.items three c.extend_from_slice.ensures.items
