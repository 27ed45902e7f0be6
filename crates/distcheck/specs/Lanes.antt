-- WHICH TALKS ARE PLAYED, and in which lanes.
use Rattle.std.specs.Prelude.{ℕ, List, [], ◌++◌, map}
use Rattle.std.specs.{List.flat_map, List.slice_index_or}
use Rattle.std.specs.declared.vec.Vec.{Vec}
use Rattle.distcheck.specs.declared.{queue.QueuedTalk.QueuedTalk, queue.TalkQueue.TalkQueue, lane.LaneReply.LaneReply}

-- the talks of each lane
abbrev pub lanes_of : {Z : Type 0} → List (Vec QueuedTalk Z) → List (List QueuedTalk)
lanes_of lanes = map (λ lane. lane.items) lanes

-- those of the lane at this place
abbrev pub lane_at : {Z : Type 0} → List (Vec QueuedTalk Z) → ℕ → List QueuedTalk
lane_at lanes place = slice_index_or (lanes_of lanes) place []

-- those that were played
abbrev pub lanes_in : List LaneReply → List (List QueuedTalk)
lanes_in replies = map (λ (r : LaneReply). r.lane.now) replies

-- those of all lanes
abbrev pub all_in : List (List QueuedTalk) → List QueuedTalk
all_in lanes = flat_map (λ (lane : List QueuedTalk). lane) lanes

-- ALL TALKS that are to be played
abbrev pub queued_talks : TalkQueue → List QueuedTalk
queued_talks queue = queue.first.items ++ all_in (lanes_of queue.lanes.items) ++ queue.alone.items
