-- Forms: texts that each let many names connect, as OTP's net_kernel:allow/1 takes them. A text without an `@` is a host, and
-- stands for every node of that host. One whose last byte is its only `@` is a node's name without its host, and stands for
-- that node at any host.
use Rattle.std.specs.Prelude.{ℕ, ◌+◌, Bool, ◌||◌, not, ◌==◌, nat_lt, nat_le, if◌then◌else◌, List, length, take, Option, Some, None, option_and_then, Result}
use Rattle.std.specs.Prelude.{Ok, Err}
use Rattle.std.specs.{List.list_all, Result.result_ok}
use Rattle.dist_names.specs.{Bytes.is_visible, NodeName.host_of, NodeName.name_of_bytes, NodeName.short_of, Order.Name, Order.is_listed}
use Rattle.dist_names.specs.declared.name_error.NameError.{NameError, TheVariants.TooShort, TheVariants.TooLong, TheVariants.BadByte}
use Rattle.dist_messages.specs.{declared.message.Side.TheVariants.Dialler, declared.message.Message.Message, Reading.read}
use Rattle.dist_messages.specs.declared.message.Message.TheVariants as message
use Rattle.dist_core_setup.specs.Changing.{with_name}

-- ---- which texts are forms

-- no `@` stands in the text, or its last byte is its only one
abbrev pub has_form : List ℕ → Bool
has_form text = nat_le (length text) (length (short_of text) + 1)

-- a text of this kind, or the first reason why no name can have such a host or such a short name
abbrev pub form_of_text : List ℕ → Result (List ℕ) NameError
form_of_text text =
    if length (short_of text) == 0 then Err TooShort else (
    if nat_lt 253 (length (short_of text)) then Err TooLong else (
    if not (list_all is_visible text) then Err BadByte else Ok text))

-- ---- which names they stand for

-- a name up to its `@`
abbrev pub short_form : Name → List ℕ
short_form p = take (length (short_of p) + 1) p

-- THE HOST OF A NAME, OR THE NAME UP TO ITS `@`, is one of these forms
abbrev pub stand_for : List (List ℕ) → Name → Bool
stand_for forms p = is_listed forms (host_of p) || is_listed forms (short_form p)

-- ---- the name in a body

-- the bytes that a message sends as a name to the side that accepts
abbrev pub sent_name : Message → Option (List ℕ)
sent_name (message.NewName f c p) = Some p
sent_name (message.OldName f p) = Some p
sent_name _ = None

-- the name that a body brings, where it brings one
abbrev pub name_in : List ℕ → Option Name
name_in body = option_and_then (λ p. result_ok (name_of_bytes p)) (option_and_then sent_name (result_ok (read Dialler body)))

-- ---- the list with which the node is asked

-- the names that may connect, and this one where a form stands for it; where all may, all still may
abbrev pub letting : List (List ℕ) → Option (List Name) → Option Name → Option (List Name)
letting forms None o = None
letting forms (Some names) None = Some names
letting forms (Some names) (Some p) = if stand_for forms p then Some (with_name names p) else Some names

-- THE NAMES THAT MAY CONNECT, as the node is asked of a body: those that may, and the one that the body brings where a form
-- stands for it. Without forms those that may
abbrev pub allowed_names : List (List ℕ) → List ℕ → Option (List Name) → Option (List Name)
allowed_names forms body allow = if length forms == 0 then allow else letting forms allow (name_in body)
