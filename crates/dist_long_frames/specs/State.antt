-- What contracts see of a stream of long frames that is read and written as one of short ones.
use Rattle.std.specs.Prelude.{◌||◌, option_map}
use Rattle.dist_stream.specs.Stream.{StreamState}
use Rattle.dist_long_frames.specs.Shortened.{is_too_long, shortened}
use Rattle.dist_long_frames.specs.declared.place.Place.{Place, TheVariants.First}

-- THE STREAM BELOW, its bytes shortened; a length above 65,535 is a read that failed
abbrev pub long_state : Place → StreamState → StreamState
long_state reading below = record {
  unread = option_map (shortened reading) below.unread;
  written = option_map (shortened First) below.written;
  calls = below.calls;
  ended = below.ended;
  read_failed = is_too_long reading || below.read_failed;
  write_failed = below.write_failed;
}
