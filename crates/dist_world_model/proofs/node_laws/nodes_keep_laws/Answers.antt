use Rattle.dist_world_model.proofs.node_laws.nodes_keep_laws.Goals as goal

pub returns : goal.returns
returns c = record {
  names = record {
    one_name = c.order_of_names.ensures.one;
    itself = c.order_of_names.ensures.itself;
  };
  sayings = record {
    says_status = c.messages_can_be_said.ensures.status;
    says_new_name = c.messages_can_be_said.ensures.new_name;
    says_old_name = c.messages_can_be_said.ensures.old_name;
    says_challenge = c.messages_can_be_said.ensures.challenge;
    says_old_challenge = c.messages_can_be_said.ensures.old_challenge;
    says_complement = c.messages_can_be_said.ensures.complement;
    says_reply = c.messages_can_be_said.ensures.reply;
    says_ack = c.messages_can_be_said.ensures.ack;
    read_back = c.what_is_said_is_read.ensures.read;
    announced = c.announced_flags_fit.ensures;
    digest_len = c.length_of_digest.ensures;
    versions = c.flags_show_versions.ensures;
    halves = c.low_halves_suffice.ensures;
  };
  row = c.steps_are_rows.ensures;
  opening_legal = c.entries_are_whole.ensures.first;
  step_legal = c.entries_are_whole.ensures.step;
  own_end = c.a_reply_is_of_its_end.ensures.heard;
  other = c.another_end_is_replaced.ensures;
  places = c.two_ends_change_at_most.ensures.places;
  right_opening = c.records_stay_right.ensures.first;
  right_step = c.records_stay_right.ensures.step;
  right_change = c.records_stay_right.ensures.change;
  after = λ es f. c.ends_after_a_change.ensures es f.reply.end_ f.this f.other;
}
