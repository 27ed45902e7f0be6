-- The ends that hold a peer are those that make an entry.
use Rattle.dist_core_ends.proofs.Words.{List, [], Option, sym, refl, ap, ◌∙◌, Name, Entry, Agree, AreLegal, names, table_of, End}
use Rattle.dist_core_ends.proofs.{Agreement.entry-agreed, Tables.get-table, Tables.agree-empty}
use Rattle.std.specs.FinMap as map

-- ends with which entries agree are legal
pub legal : (t : Name → Option Entry) (es : List End) → Agree t es → AreLegal es
legal t es h p k i = h p k i ∙ ap (names k i) (sym (entry-agreed t es h p))

pub table-legal : (es : List End) → AreLegal es → Agree (map.get (table_of es)) es
table-legal es h p k i = h p k i ∙ ap (names k i) (sym (get-table es p))

pub none-legal : AreLegal []
none-legal = legal (map.get map.empty) [] (agree-empty map.empty [] refl refl)
