-- THE LINES THAT ARE PRINTED. Their forms stand in docs/RUNNING.md.
use Rattle.std.specs.Prelude.{ℕ, List, [], ◌∷◌, ◌++◌, codes, decimal, Option, Some, None, slice_get}
use Rattle.std.specs.{Option.option_map, List.concat}
use Rattle.std.specs.FinMap as map
use Rattle.hex.specs.Hex.{encode_lower}
use Rattle.dist_names.specs.{Order.Name, declared.creation.Creation.Creation}
use Rattle.dist_peers.specs.{declared.entry.EndId.EndId, declared.entry.Entry.Entry, Table.up_id}
use Rattle.dist_peers.specs.declared.entry.Entry.TheVariants as entry
use Rattle.dist_core_ends.specs.{declared.why.Why.Why, declared.known.UpRecord.UpRecord, Ends.table_of, Ends.record_in, Words.why_word}
use Rattle.dist_core.specs.{Node.NodeState, declared.reply.Reply.Reply, declared.step_error.StepError.StepError, Words.refusal_name}
use Rattle.dist_core.specs.declared.step_error.StepError.TheVariants as refusal
use Rattle.dist_script.specs.Texts.{flags_text}
use Rattle.dist_world.specs.declared.agreement.Agreement.{Agreement}

-- a creation, where it is known
abbrev pub creation_text : Option Creation → List ℕ
creation_text None = codes "unknown"
creation_text (Some c) = decimal c.0

-- ---- what a step returns

-- what is sent, or that nothing is
abbrev pub said_text : List ℕ → List ℕ
said_text [] = codes "-"
said_text (b ∷ bs) = encode_lower (b ∷ bs)

-- the end that was closed, and why
abbrev pub closed_text : Option (EndId × Why) → List ℕ
closed_text None = codes " closed -"
closed_text (Some x) = concat (codes " closed " ∷ decimal (let id = x.0 in id.0) ∷ codes " " ∷ why_word x.1 ∷ [])

-- the record of the end that came up, and the end of the line
abbrev pub up_text : Option UpRecord → List ℕ
up_text None = codes " up -\n"
up_text (Some r) = concat (codes " up " ∷ r.peer ∷ codes " " ∷ flags_text r.common ∷ codes " " ∷ creation_text r.creation ∷ codes "\n" ∷ [])

-- the end, and what is sent on it
abbrev pub saying_text : EndId → List ℕ → List ℕ
saying_text id say = concat (codes "end " ∷ decimal id.0 ∷ codes " say " ∷ said_text say ∷ [])

-- A REPLY: end END say HEX closed END WHY up PEER COMMON CREATION
abbrev pub reply_line : Reply → List ℕ
reply_line r = saying_text r.end_ r.say ++ closed_text r.closed ++ up_text r.up

-- the entry of a peer that is not idle: Out END, In END, Up END, Challenged END END
abbrev pub busy_text : Entry → List ℕ
busy_text (entry.Out x) = concat (codes " Out " ∷ decimal x.0 ∷ [])
busy_text (entry.In x) = concat (codes " In " ∷ decimal x.0 ∷ [])
busy_text (entry.Up x) = concat (codes " Up " ∷ decimal x.0 ∷ [])
busy_text (entry.Challenged up x) = concat (codes " Challenged " ∷ decimal up.0 ∷ codes " " ∷ decimal x.0 ∷ [])

-- what stands behind the name of a refusal: the entry, or the cause for which the end is closed
abbrev pub detail_text : StepError → List ℕ
detail_text refusal.NoSuchEnd = []
detail_text (refusal.Gone why) = concat (codes " " ∷ why_word why ∷ [])
detail_text refusal.WrongPhase = []
detail_text (refusal.Busy e) = busy_text e
detail_text refusal.Spent = []
detail_text refusal.Full = []
detail_text refusal.NoMemory = []

-- A REFUSAL: refused NAME, and what stands behind the name
abbrev pub refused_line : StepError → List ℕ
refused_line e = concat (codes "refused " ∷ refusal_name e ∷ []) ++ detail_text e ++ codes "\n"

-- skipped K
abbrev pub skipped_line : ℕ → List ℕ
skipped_line k = concat (codes "skipped " ∷ decimal k ∷ codes "\n" ∷ [])

-- ---- how a node stands

-- out END, in END, up END, up END challenged END
abbrev pub entry_text : Entry → List ℕ
entry_text (entry.Out x) = concat (codes " out " ∷ decimal x.0 ∷ [])
entry_text (entry.In x) = concat (codes " in " ∷ decimal x.0 ∷ [])
entry_text (entry.Up x) = concat (codes " up " ∷ decimal x.0 ∷ [])
entry_text (entry.Challenged up x) = concat (codes " up " ∷ decimal up.0 ∷ codes " challenged " ∷ decimal x.0 ∷ [])

-- common COMMON creation N, where an end is up, and the end of the line
abbrev pub record_text : Option UpRecord → List ℕ
record_text None = codes "\n"
record_text (Some r) = concat (codes " common " ∷ flags_text r.common ∷ codes " creation " ∷ creation_text r.creation ∷ codes "\n" ∷ [])

-- the record of this end, where it is up
abbrev pub record_at : NodeState → Option EndId → Option UpRecord
record_at n None = None
record_at n (Some x) = option_map (λ r. r.1) (record_in x (slice_get n.ends x.0))

-- A LINE OF THE TABLE: the peer, its entry, and the record of the end that is up
abbrev pub row_text : NodeState → Name × Entry → List ℕ
row_text n row = row.0 ++ entry_text row.1 ++ record_text (record_at n (up_id row.1))

abbrev pub rows_text : NodeState → List (Name × Entry) → List ℕ
rows_text n [] = []
rows_text n (row ∷ rows) = row_text n row ++ rows_text n rows

-- the line of a row, where there is one
abbrev pub found_text : NodeState → Option (Name × Entry) → List ℕ
found_text n None = []
found_text n (Some row) = row_text n row

-- these lines, or that there is none
abbrev pub table_lines : NodeState → List (Name × Entry) → List ℕ
table_lines n [] = codes "no peers\n"
table_lines n (row ∷ rows) = rows_text n (row ∷ rows)

-- THE TABLE of a node, in the order of the peers' names
abbrev pub table_text : NodeState → List ℕ
table_text n = table_lines n (map.entries (table_of n.ends))

-- A NODE of a world: node NAME running CREATION and its table, or node NAME halted
abbrev pub node_text : Name → Option NodeState → List ℕ
node_text name None = concat (codes "node " ∷ name ∷ codes " halted\n" ∷ [])
node_text name (Some n) =
    concat (codes "node " ∷ name ∷ codes " running " ∷ decimal (let s = n.setup in let c = s.creation in c.0) ∷ codes "\n" ∷ []) ++ table_text n

-- ---- a world

-- closed N END WHY
abbrev pub closed_line : ℕ → EndId → Why → List ℕ
closed_line node id why = concat (codes "closed " ∷ decimal node ∷ codes " " ∷ decimal id.0 ∷ codes " " ∷ why_word why ∷ codes "\n" ∷ [])

-- applied K of M
abbrev pub applied_line : ℕ → ℕ → List ℕ
applied_line k m = concat (codes "applied " ∷ decimal k ∷ codes " of " ∷ decimal m ∷ codes "\n" ∷ [])

-- agree NAME NAME conn C common COMMON creations X Y
abbrev pub agree_line : Name → Name → Agreement → List ℕ
agree_line a b g = concat (
    codes "agree " ∷ a ∷ codes " " ∷ b
    ∷ codes " conn " ∷ decimal g.conn
    ∷ codes " common " ∷ flags_text g.common
    ∷ codes " creations " ∷ creation_text g.creation_a ∷ codes " " ∷ creation_text g.creation_b
    ∷ codes "\n" ∷ [])

-- fooled NAME NAME
abbrev pub fooled_line : Name → Name → List ℕ
fooled_line a b = concat (codes "fooled " ∷ a ∷ codes " " ∷ b ∷ codes "\n" ∷ [])
