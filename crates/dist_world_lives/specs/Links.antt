-- Which ends of an incarnation have connections.
use Rattle.std.specs.Prelude.{◌≡◌, ℕ, Bool, false, not, ◌&&◌, List, Option, Some, None, slice_get, is_none, is_some}
use Rattle.std.specs.Option.{option_map}
use Rattle.dist_names.specs.Order.{Name}
use Rattle.dist_peers.specs.declared.entry.EndId.{EndId}
use Rattle.dist_core_ends.specs.{declared.known.UpRecord.UpRecord, Ends.IsUpWith, Ends.is_dialing}
use Rattle.dist_core_ends.specs.declared.known.End.TheVariants as ends
use Rattle.dist_world_model.specs.{Rows.EndRow, World.Life, World.row_of_life, World.end_of_life, Happenings.conn_of}

-- the connection of an end beside its record
abbrev pub link_of_record : List EndRow → Option (EndId × UpRecord) → Option (ℕ × UpRecord)
link_of_record rows None = None
link_of_record rows (Some x) = option_map (λ c. (c, x.1)) (conn_of (slice_get rows (let y = x.0 in y.0)))

-- a connection and the record of an end on it
abbrev pub up_on : ℕ → UpRecord → Option (ℕ × UpRecord)
up_on c r = Some (c, r)

-- what was found is the connection of an end of this incarnation that is up with this peer, and its record
abbrev pub FindsLink : Life → Name → Option (ℕ × UpRecord) → Type 0
FindsLink l p None = Unit {0}
FindsLink l p (Some x) = (id : EndId) × IsUpWith l.node.ends p id x.1 × (conn_of (slice_get l.rows id.0) ≡ Some x.0)

-- the end waits for a connection, and was not led to one yet
abbrev pub is_unreached : Option Life → ℕ → Bool
is_unreached l id = is_dialing (end_of_life l id) && not (is_some (conn_of (row_of_life l id)))

-- the end of this record has no connection
abbrev pub is_unlinked : List EndRow → Option (EndId × UpRecord) → Bool
is_unlinked rows None = false
is_unlinked rows (Some x) = is_none (conn_of (slice_get rows (let y = x.0 in y.0)))

-- THE INCARNATION IS UP WITH SOMEBODY OUTSIDE under this name: an end of it that is up with this peer has no connection
pub record IsFooledBy (l : Life) (p : Name) : Type 0 where
  pub id : ℕ
  pub kept : UpRecord
  pub is_up : slice_get l.node.ends id ≡ Some (ends.Up kept)
  pub peer : kept.peer ≡ p
  pub unlinked : conn_of (slice_get l.rows id) ≡ None
