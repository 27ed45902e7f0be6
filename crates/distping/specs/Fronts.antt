-- What contracts see of a connection whose reader gets only its first bytes.
use Rattle.std.specs.Prelude.{Bool, None, ◌||◌}
use Rattle.dist_stream.specs.Stream.{StreamState}

-- the connection, without its bytes; it has also ended if more bytes arrived than are read
abbrev pub front_meaning : Bool → StreamState → StreamState
front_meaning is_cut inner = record {
  unread = None;
  written = inner.written;
  calls = inner.calls;
  ended = is_cut || inner.ended;
  read_failed = inner.read_failed;
  write_failed = inner.write_failed;
}
