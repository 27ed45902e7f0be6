-- Changes of the setup of a guest's node, between two calls: what the calls of a guest do, and the contracts of the exports.
use Rattle.std.specs.Prelude.{◌≡◌, ℕ, ◌⊎◌, List, [], Bool, true, false, Option, Some, None, Result, Ok, Err}
use Rattle.std.specs.Option.{option_or}
use Rattle.dist_names.specs.{declared.name_error.NameError.NameError, Order.Name, NodeName.name_of_bytes}
use Rattle.dist_secret.specs.declared.cookie_error.CookieError.{CookieError}
use Rattle.dist_core_setup.specs.Changing.{allowing, disallowing, with_name, without_name}
use Rattle.dist_core.specs.Changing.{IsChange, after_change, change}
use Rattle.dist_core.specs.declared.changing.Change.TheVariants.{Allow, Cookie, UsualCookie}
use Rattle.dist_core.specs.{declared.changing.ChangeError.ChangeError, declared.changing.Change.Change, Node.NodeState}
use Rattle.dist_c_guest.specs.{declared.guest.Guest.Guest, Forms.form_of_text, Steps.Silent, Codes.name_code, Codes.cookie_code, Codes.change_code}

-- The call made the node's change, or was refused as the node refuses it. What the newest step returned and received stays.
abbrev pub Changes : Result (Unit {0}) ChangeError → Change → Guest → Guest → Type 0
Changes result v old new = IsChange result (change old.node v) old.node new.node × (new ≡ record old { node = new.node })

-- this peer may connect beside those that might; where all might, it alone
abbrev pub lets_in : Guest → Name → Change
lets_in g p = Allow (allowing g.node.setup.allow p)

-- every peer may connect for which this form stands, beside those that might; where all might, they alone
abbrev pub with_form : Guest → List ℕ → Guest
with_form g form =
    let names = option_or g.node.setup.allow (Some []) in
    record g { node = after_change g.node (Allow names); reading = record g.reading { forms = with_name g.reading.forms form } }

-- this form is kept no more
abbrev pub without_form : Guest → List ℕ → Guest
without_form g form = record g { reading = record g.reading { forms = without_name g.reading.forms form } }

-- this peer may connect no more; where all may, all still may
abbrev pub shuts_out : Guest → Name → Change
shuts_out g p = Allow (disallowing g.node.setup.allow p)

-- ---- the exports

-- the node is the definition's after a change, and what its newest step returned and received stays; or the definition's refusal
-- is returned; where it refuses nothing memory may run out (3)
abbrev pub Amends : Result NodeState ChangeError → ℕ → Guest → Guest → Type 0
Amends (Ok n) code old new = ((code ≡ 0) × (new ≡ record old { node = n })) ⊎ Silent 3 code old new
Amends (Err e) code old new = Silent (change_code e) code old new

-- the guest is this one after a change of its forms, or why the bytes are none; memory may run out (3)
abbrev pub ChangesForm : (Guest → List ℕ → Guest) → Result (List ℕ) NameError → ℕ → Guest → Guest → Type 0
ChangesForm changed (Ok form) code old new = ((code ≡ 0) × (new ≡ changed old form)) ⊎ Silent 3 code old new
ChangesForm changed (Err e) code old new = Silent (name_code e) code old new

-- the node's change for a peer, or why the bytes are no name
abbrev pub ChangesPeer : (Guest → Name → Change) → Result Name NameError → ℕ → Guest → Guest → Type 0
ChangesPeer by (Ok p) code old new = Amends (change old.node (by old p)) code old new
ChangesPeer by (Err e) code old new = Silent (name_code e) code old new

-- a text that has a form lets in every peer of this form, beside those that might, and any other is the name of one peer
abbrev pub AllowsText : Bool → List ℕ → ℕ → Guest → Guest → Type 0
AllowsText true text code old new = ChangesForm with_form (form_of_text text) code old new
AllowsText false text code old new = ChangesPeer lets_in (name_of_bytes text) code old new

abbrev pub DisallowsText : Bool → List ℕ → ℕ → Guest → Guest → Type 0
DisallowsText true text code old new = ChangesForm without_form (form_of_text text) code old new
DisallowsText false text code old new = ChangesPeer shuts_out (name_of_bytes text) code old new

-- a peer has this cookie, or the first reason why not; memory may run out for both, whatever the change
abbrev pub Keys : Result (List ℕ) NameError → Result (List ℕ) CookieError → ℕ → Guest → Guest → Type 0
Keys (Err e) cookie code old new = Silent (name_code e) code old new
Keys (Ok p) (Err e) code old new = Silent (cookie_code e) code old new
Keys (Ok p) (Ok c) code old new = Amends (change old.node (Cookie p (Some c))) code old new ⊎ Silent 3 code old new

-- a peer has no cookie of its own, or the first reason why not; memory may run out for its name, whatever the change
abbrev pub Unkeys : Result (List ℕ) NameError → ℕ → Guest → Guest → Type 0
Unkeys (Ok p) code old new = Amends (change old.node (Cookie p None)) code old new ⊎ Silent 3 code old new
Unkeys (Err e) code old new = Silent (name_code e) code old new

-- every peer has this cookie that has none of its own, or the reason why not
abbrev pub KeysUsually : Result (List ℕ) CookieError → ℕ → Guest → Guest → Type 0
KeysUsually (Err e) code old new = Silent (cookie_code e) code old new
KeysUsually (Ok c) code old new = Amends (change old.node (UsualCookie c)) code old new ⊎ Silent 3 code old new

-- the same at a node that may hold no guest (1)
abbrev pub AtGuest : (Guest → Guest → Type 0) → ℕ → Option Guest → Option Guest → Type 0
AtGuest does code None new = (code ≡ 1) × (new ≡ None)
AtGuest does code (Some old) new = (g : Guest) × (new ≡ Some g) × does old g
