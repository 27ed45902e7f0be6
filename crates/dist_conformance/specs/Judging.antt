-- THE JUDGEMENT: what it means that this came.
use Rattle.std.specs.Prelude.{ℕ, ◌+◌, ◌-◌, ◌==◌, Bool, true, false, not, ◌&&◌, ◌||◌, nat_le, nat_lt, if◌then◌else◌}
use Rattle.std.specs.Prelude.{List, [], ◌∷◌, ◌++◌, length, drop, decimal, map}
use Rattle.std.specs.Prelude.{Option, Some, None, is_some, option_map, option_and_then, unwrap_or}
use Rattle.std.specs.{List.list_any, List.list_all, List.ends_with, Int.w32}
use Rattle.md5.specs.Md5.{md5}
use Rattle.dist_names.specs.{Fields.number_at, Flags.has_all, Order.same_name, declared.flags.Flags.Flags}
use Rattle.dist_conformance.specs.{Texts.lines_of, Bodies.begins_with, Bodies.value_in, Bodies.whole, Bodies.number_in, Bodies.number_of_32}
use Rattle.dist_conformance.specs.{Packets.packets_of, Packets.is_part}
use Rattle.dist_conformance.specs.declared.patterns.{Test.Test, Check.Check, NamesCheck.NamesCheck, PacketCheck.PacketCheck, Pattern.Pattern}
use Rattle.dist_conformance.specs.declared.outcomes.{Passage.Passage, Deviation.Deviation, PatternOutcome.PatternOutcome, Observed.Observed}
use Rattle.dist_conformance.specs.declared.{shapes.Framing.Framing, shapes.Shape.Shape, packets.PacketState.PacketState}
use Rattle.dist_conformance.specs.declared.{steps.Demand.Demand, say.Learned.Learned, judging.Judgement.Judgement}
use Rattle.dist_conformance.specs.declared.patterns.Test.TheVariants as test
use Rattle.dist_conformance.specs.declared.patterns.NamesCheck.TheVariants as names
use Rattle.dist_conformance.specs.declared.patterns.Pattern.TheVariants as pattern
use Rattle.dist_conformance.specs.declared.outcomes.Deviation.TheVariants as deviation
use Rattle.dist_conformance.specs.declared.outcomes.PatternOutcome.TheVariants as outcome
use Rattle.dist_conformance.specs.declared.judging.Judgement.TheVariants as judgement

-- what is judged: what came, whether the connection ended, times in milliseconds, what was learned before, the cookie
pub record Observation : Type 0 where
  pub came : List ℕ
  pub ended : Bool
  pub elapsed : ℕ
  pub limit : ℕ
  pub pause : ℕ
  pub learned : List Learned
  pub cookie : List ℕ

abbrev pub observation_of : Observed → Observation
observation_of o = record {
  came = o.came.now;
  ended = o.ended;
  elapsed = o.elapsed;
  limit = o.limit;
  pause = o.pause;
  learned = o.learned.now;
  cookie = o.cookie.now;
}

-- ---- what a single pattern makes of bytes

-- so many bytes match, and nothing is learned from them
abbrev pub passes : ℕ → PatternOutcome
passes n = outcome.Matches (record { count = n; number = None; flags = None })

-- what is awaited has not come whole
abbrev pub part_outcome : Bool → PatternOutcome
part_outcome ended = if ended then outcome.Fails deviation.Closed else outcome.Open

-- the connection has been open for so long, with so many bytes that match
abbrev pub open_for : ℕ → ℕ → Observation → PatternOutcome
open_for ms count o =
    if o.ended then outcome.Fails deviation.Closed else (if nat_le ms o.elapsed then passes count else outcome.Open)

-- nothing came, or this is what it means
abbrev pub if_nothing : List ℕ → PatternOutcome → PatternOutcome
if_nothing [] meaning = meaning
if_nothing (c ∷ cs) meaning = outcome.Fails deviation.Other

-- these bytes stand in front, or all that came is a beginning of them
abbrev pub by_bytes : List ℕ → List ℕ → Bool → PatternOutcome
by_bytes wanted came ended =
    if begins_with wanted came then passes (length wanted) else (if begins_with came wanted then part_outcome ended else outcome.Fails deviation.Other)

-- so many bytes match where this holds
abbrev pub passes_if : Bool → ℕ → PatternOutcome
passes_if true n = passes n
passes_if false n = outcome.Fails deviation.Other

-- ---- messages

-- not 0
abbrev pub is_given : List ℕ → Bool
is_given value = list_any (λ byte. not (byte == 0)) value

-- without `@`
abbrev pub has_no_host : List ℕ → Bool
has_no_host value = list_all (λ byte. not (byte == 64)) value

-- this number is none of those that came before
abbrev pub is_new : ℕ → List Learned → Bool
is_new n learned = list_all (λ (l : Learned). not (l.number == n)) learned

-- a number that came before differs from this one by 65,536 or more
abbrev pub is_far : ℕ → Learned → Bool
is_far n l = nat_le 65536 (n - l.number) || nat_le 65536 (l.number - n)

-- one of them does, if any came
abbrev pub is_apart : ℕ → List Learned → Bool
is_apart n learned = length learned == 0 || list_any (is_far n) learned

-- these flags, or the first of those that came
abbrev pub or_first : Option Flags → Option Flags → Option Flags
or_first (Some flags) others = Some flags
or_first None others = others

-- the flags of the challenge that came first
abbrev pub first_flags : List Learned → Option Flags
first_flags [] = None
first_flags (l ∷ ls) = or_first l.flags (first_flags ls)

-- these flags are those, if a challenge came
abbrev pub are_same : ℕ → Option Flags → Bool
are_same n None = true
are_same n (Some flags) = flags.0 == n

-- the digest of the cookie's bytes and then the challenge in decimal digits
abbrev pub digest_of : List ℕ → ℕ → List ℕ
digest_of cookie challenge = md5 (cookie ++ decimal challenge)

-- WHAT A FIELD HAS TO BE
abbrev pub test_passes : List Learned → List ℕ → List ℕ → Test → Bool
test_passes learned cookie value (test.Is wanted) = same_name value wanted
test_passes learned cookie value (test.AtLeast n) = nat_le n (number_in value)
test_passes learned cookie value test.Given = is_given value
test_passes learned cookie value test.Fresh = is_new (number_in value) learned
test_passes learned cookie value test.Apart = is_apart (number_in value) learned
test_passes learned cookie value (test.Has flags) = has_all (number_in value) flags.0
test_passes learned cookie value (test.Lacks flags) = not (has_all (number_in value) flags.0)
test_passes learned cookie value test.Alike = are_same (number_in value) (first_flags learned)
test_passes learned cookie value (test.Digest challenge) = same_name value (digest_of cookie challenge)
test_passes learned cookie value test.Empty = length value == 0
test_passes learned cookie value test.NoHost = has_no_host value

-- a field that is there is as it has to be
abbrev pub field_passes : List Learned → List ℕ → Test → Option (List ℕ) → Bool
field_passes learned cookie which None = false
field_passes learned cookie which (Some value) = test_passes learned cookie value which

-- the check of a body of this shape
abbrev pub check_passes : Shape → List ℕ → List Learned → List ℕ → Check → Bool
check_passes shape body learned cookie check = field_passes learned cookie check.test (value_in shape.fields.now check.place body)

-- the bytes in the field in this place
abbrev pub bytes_in : Shape → List ℕ → ℕ → List ℕ
bytes_in shape body place = unwrap_or (value_in shape.fields.now place body) []

-- what is learned from a body of this shape
abbrev pub passage_of : Shape → List ℕ → ℕ → Passage
passage_of shape body count = record {
  count = count;
  number = option_and_then (λ place. number_of_32 (bytes_in shape body place)) shape.number;
  flags = option_map (λ place. record { 0 = number_in (bytes_in shape body place) }) shape.flags;
}

-- what is learned on this connection from what matched
abbrev pub learned_from : ℕ → Passage → Option Learned
learned_from conn p = option_map (λ n. record { conn = conn; number = n; flags = p.flags }) p.number

-- A MESSAGE of this shape: the body has just its fields, and they pass all checks
abbrev pub by_message : Shape → List Check → List Learned → List ℕ → List ℕ → ℕ → PatternOutcome
by_message shape checks learned cookie body count =
    if is_some (value_in shape.fields.now 0 body)
    then (if list_all (check_passes shape body learned cookie) checks then outcome.Matches (passage_of shape body count) else outcome.Fails deviation.Field)
    else outcome.Fails deviation.Other

-- what a pattern makes of a body, which comes with its frame in so many bytes
abbrev pub body_outcome : Pattern → Observation → List ℕ → ℕ → PatternOutcome
body_outcome (pattern.Body framing front) o body count = passes_if (begins_with front body) count
body_outcome (pattern.Message shape checks) o body count = by_message shape checks o.learned o.cookie body count
body_outcome other o body count = outcome.Open

-- this is what it makes of the first body, once that is whole
abbrev pub by_body : Pattern → Observation → ℕ → Option (List ℕ × List ℕ) → PatternOutcome
by_body p o n None = part_outcome o.ended
by_body p o n (Some t) = body_outcome p o t.0 (n - length t.1)

abbrev pub by_whole : Pattern → Framing → Observation → List ℕ → PatternOutcome
by_whole p framing o came = by_body p o (length came) (whole framing came)

-- ---- packets

-- the time of the pattern is over
abbrev pub is_over : PacketCheck → Observation → Bool
is_over check o = nat_le check.time o.elapsed

-- a packet has come in part, and nothing follows
abbrev pub is_stalled : PacketCheck → Observation → PacketState → Bool
is_stalled check o s = is_part s && (is_over check o || nat_le 1000 o.pause)

abbrev pub by_state : PacketCheck → Observation → ℕ → PacketState → PatternOutcome
by_state check o n s =
    if s.is_bad || nat_lt check.most s.ticks then outcome.Fails deviation.Field
    else (if o.ended then outcome.Fails deviation.Closed
    else (if is_stalled check o s || (is_over check o && nat_lt s.ticks check.least) then outcome.Fails deviation.Field
    else (if is_over check o then passes n else outcome.Open)))

-- PACKETS while the connection stays open
abbrev pub by_packets : PacketCheck → Observation → List ℕ → PatternOutcome
by_packets check o came = by_state check o (length came) (packets_of came)

-- ---- answers to a question for names

-- all lines of the answer to a question for names end in a line feed
abbrev pub are_lines : List ℕ → Bool
are_lines text = length text == 0 || ends_with ◌==◌ text (10 ∷ [])

-- a line is this one, or begins so
abbrev pub is_line : Bool → List ℕ → List ℕ → Bool
is_line is_whole wanted line = if is_whole then same_name line wanted else begins_with wanted line

-- one of the lines is
abbrev pub has_line : Bool → List ℕ → List ℕ → Bool
has_line is_whole wanted text = list_any (is_line is_whole wanted) (lines_of text)

abbrev pub names_pass : NamesCheck → ℕ → List ℕ → Bool
names_pass names.Any port text = true
names_pass (names.Port n) port text = port == n
names_pass (names.Has line) port text = has_line true line text
names_pass (names.Lacks front) port text = not (has_line false front text)

-- the whole answer to a question for names
abbrev pub by_names : NamesCheck → ℕ → Option (ℕ × List ℕ) → PatternOutcome
by_names which count None = outcome.Fails deviation.Closed
by_names which count (Some answer) =
    if are_lines answer.1 && names_pass which answer.0 answer.1 then passes count else outcome.Fails deviation.Field

-- ---- patterns

-- WHAT A PATTERN MAKES OF WHAT CAME, from here on
abbrev pub outcome_of : Pattern → Observation → List ℕ → PatternOutcome
outcome_of pattern.End o came = if_nothing came (if o.ended then passes 0 else outcome.Open)
outcome_of (pattern.Silence ms) o came = if_nothing came (open_for ms 0 o)
outcome_of (pattern.Open ms) o came = open_for ms (length came) o
outcome_of (pattern.Packets check) o came = by_packets check o came
outcome_of (pattern.Bytes wanted) o came = by_bytes wanted came o.ended
outcome_of (pattern.Body framing front) o came = by_whole (pattern.Body framing front) framing o came
outcome_of (pattern.Message shape checks) o came = by_whole (pattern.Message shape checks) shape.framing o came
outcome_of (pattern.Names which) o came = if o.ended then by_names which (length came) (number_at w32 came) else outcome.Open

-- what was newly learned, or what was learned before
abbrev pub or_else : Option ℕ → Option ℕ → Option ℕ
or_else (Some n) before = Some n
or_else None before = before

-- one passage, and one behind it
abbrev pub joined : Passage → Passage → Passage
joined p q = record { count = p.count + q.count; number = or_else q.number p.number; flags = if is_some q.number then q.flags else p.flags }

-- what comes behind a pattern that matches
abbrev pub behind_match : PatternOutcome → (Passage → PatternOutcome) → PatternOutcome
behind_match (outcome.Matches p) behind = behind p
behind_match (outcome.Fails why) behind = outcome.Fails why
behind_match outcome.Open behind = outcome.Open

-- PATTERNS ONE BEHIND THE OTHER, behind a passage that matched
abbrev pub sequence_of : Observation → Passage → List Pattern → PatternOutcome
sequence_of o p [] = outcome.Matches p
sequence_of o p (first ∷ others) = behind_match (outcome_of first o (drop p.count o.came)) (λ q. sequence_of o (joined p q) others)

-- nothing has matched yet
abbrev pub no_passage : Passage
no_passage = record { count = 0; number = None; flags = None }

-- what each alternative makes of what came
abbrev pub outcomes_of : Observation → List (List Pattern) → List PatternOutcome
outcomes_of o alternatives = map (λ patterns. sequence_of o no_passage patterns) alternatives

-- ---- alternatives

abbrev pub first_passage : List PatternOutcome → Option Passage
first_passage [] = None
first_passage (outcome.Matches p ∷ others) = Some p
first_passage (other ∷ others) = first_passage others

abbrev pub is_open : PatternOutcome → Bool
is_open outcome.Open = true
is_open other = false

abbrev pub first_failure : List PatternOutcome → Deviation
first_failure [] = deviation.Silent
first_failure (outcome.Fails why ∷ others) = why
first_failure (other ∷ others) = first_failure others

-- one of them can still match, and there is time
abbrev pub may_match : Observation → List PatternOutcome → Bool
may_match o outcomes = nat_lt o.elapsed o.limit && list_any is_open outcomes

-- no wanted alternative matches, nor can one that is still awaited
abbrev pub by_loose : Observation → Deviation → List PatternOutcome → Option Passage → Judgement
by_loose o why loose (Some p) = judgement.Loose p
by_loose o why loose None = if may_match o loose then judgement.More else judgement.Deviates why

abbrev pub by_wanted : Observation → List PatternOutcome → List PatternOutcome → Option Passage → Judgement
by_wanted o wanted loose (Some p) = judgement.Kept p
by_wanted o wanted loose None =
    if may_match o wanted then judgement.More else by_loose o (first_failure wanted) loose (first_passage loose)

-- THE JUDGEMENT: the first wanted alternative that matches; none yet, while one can still match; then the same of the loose ones
abbrev pub judgement_of : Demand → Observation → Judgement
judgement_of demand o =
    let wanted = outcomes_of o demand.wanted in by_wanted o wanted (outcomes_of o demand.loose) (first_passage wanted)
