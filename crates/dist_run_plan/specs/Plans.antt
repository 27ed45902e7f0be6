-- What a nodes file says, and which TOML trees are nodes files.
use Rattle.std.specs.Prelude.{ℕ, Bool, true, not, ◌&&◌, nat_le, if◌then◌else◌, List, [], ◌∷◌, length}
use Rattle.std.specs.Prelude.{map, codes, Option, Some, None, option_map, option_and_then}
use Rattle.std.specs.List.{list_all, list_any}
use Rattle.toml.specs.{Data.Data, Data.Members, Data.no_members, Data.member, Data.get_member, Data.as_table, Parse.parse_document}
use Rattle.dist_names.specs.{NodeName.short_of, Order.same_name}
use Rattle.dist_run_plan.specs.Values.{number_in, name_in, cookie_in, cookies_in, version_in, flags_in, names_in, all_some, array_in}
use Rattle.dist_run_plan.specs.declared.plan.{NodePlan.NodePlan, DialPlan.DialPlan, Plan.Plan}
use Rattle.dist_secret.specs.Cookies.{CookieTable}
use Rattle.dist_core_setup.specs.declared.version.Version.TheVariants as versions

-- what a value says, where there is one
infixl 10 ◌>>=◌
abbrev ◌>>=◌ : {A B : Type 0} → Option A → (A → Option B) → Option B
o >>= f = option_and_then f o

-- ---- keys

-- the key is one of these
abbrev pub is_one_of : List (List ℕ) → List ℕ → Bool
is_one_of keys key = list_any (λ one. same_name one key) keys

-- all keys of the table are among these
abbrev pub has_only : List (List ℕ) → Members → Bool
has_only keys no_members = true
has_only keys (member key value rest) = is_one_of keys key && has_only keys rest

-- what a key's value says that must be there
abbrev pub needed_member : {T : Type 0} → (Data → Option T) → List ℕ → Members → Option T
needed_member says key table = get_member key table >>= says

-- what a key's value says, or the usual where the key is absent
abbrev pub or_usual : {T : Type 0} → (Data → Option T) → T → Option Data → Option T
or_usual says usual None = Some usual
or_usual says usual (Some value) = says value

-- ---- nodes and dials

-- the keys of a node
abbrev pub node_keys : List (List ℕ)
node_keys = codes "name" ∷ codes "cookie" ∷ codes "cookies" ∷ codes "version" ∷ codes "flags" ∷ codes "required" ∷ codes "listen" ∷ codes "allow" ∷ []

-- this cookie for every peer
abbrev pub usual_alone : List ℕ → CookieTable
usual_alone cookie = record { usual = cookie; own = [] }

-- the node of a table whose keys are a node's
abbrev pub node_of : Members → Option NodePlan
node_of table = do
  name ← needed_member name_in (codes "name") table
  cookie ← needed_member cookie_in (codes "cookie") table
  cookies ← or_usual (cookies_in (usual_alone cookie)) (usual_alone cookie) (get_member (codes "cookies") table)
  version ← or_usual version_in versions.Six (get_member (codes "version") table)
  flags ← needed_member flags_in (codes "flags") table
  required ← or_usual flags_in (record { 0 = 0 }) (get_member (codes "required") table)
  listen ← or_usual (number_in 0 65535) 0 (get_member (codes "listen") table)
  allow ← or_usual (λ value. option_map Some (names_in value)) None (get_member (codes "allow") table)
  Some (record {
    name = name;
    cookie = cookie;
    cookies = cookies;
    version = version;
    flags = flags;
    required = required;
    listen = listen;
    allow = allow;
  })

-- a table that is a node
abbrev pub node_in : Data → Option NodePlan
node_in value = as_table value >>= (λ table. if has_only node_keys table then node_of table else None)

-- the keys of a dial
abbrev pub dial_keys : List (List ℕ)
dial_keys = codes "from" ∷ codes "to" ∷ []

-- the dial of a table whose keys are a dial's
abbrev pub dial_of : Members → Option DialPlan
dial_of table = do
  from ← needed_member name_in (codes "from") table
  to ← needed_member name_in (codes "to") table
  Some (record { from = from; to = to })

-- a table that is a dial
abbrev pub dial_in : Data → Option DialPlan
dial_in value = as_table value >>= (λ table. if has_only dial_keys table then dial_of table else None)

-- the number of values is within these bounds
abbrev pub are_within : ℕ → ℕ → List Data → Bool
are_within least most values = nat_le least (length values) && nat_le (length values) most

-- an array whose number of values is within these bounds, each of which says something
abbrev pub list_in : {T : Type 0} → (Data → Option T) → ℕ → ℕ → Data → Option (List T)
list_in says least most value = array_in value >>= (λ values. if are_within least most values then all_some (map says values) else None)

-- an array of 1 to 16 nodes
abbrev pub nodes_in : Data → Option (List NodePlan)
nodes_in = list_in node_in 1 16

-- an array of at most 64 dials
abbrev pub dials_in : Data → Option (List DialPlan)
dials_in = list_in dial_in 0 64

-- ---- the whole file

-- no two nodes have one short name, and so no two have one name
abbrev pub are_apart : List NodePlan → Bool
are_apart [] = true
are_apart (node ∷ nodes) = list_all (λ other. not (same_name (short_of other.name) (short_of node.name))) nodes && are_apart nodes

-- each dial is made by one of the nodes
abbrev pub are_made_by : List NodePlan → List DialPlan → Bool
are_made_by nodes dials = list_all (λ dial. list_any (λ node. same_name node.name dial.from) nodes) dials

-- the keys of the file
abbrev pub plan_keys : List (List ℕ)
plan_keys = codes "port" ∷ codes "turns" ∷ codes "node" ∷ codes "dial" ∷ []

-- what the keys of the file say
abbrev pub parts_of : Members → Option Plan
parts_of table = do
  port ← or_usual (number_in 0 65535) 0 (get_member (codes "port") table)
  turns ← or_usual (number_in 1 1000000) 200 (get_member (codes "turns") table)
  nodes ← needed_member nodes_in (codes "node") table
  dials ← or_usual dials_in [] (get_member (codes "dial") table)
  Some (record { port = port; turns = turns; node = nodes; dial = dials })

-- the plan, where the nodes and dials fit together
abbrev pub sound_plan : Plan → Option Plan
sound_plan plan = if are_apart plan.node && are_made_by plan.node plan.dial then Some plan else None

-- the plan of a document
abbrev pub plan_in : Members → Option Plan
plan_in table = if has_only plan_keys table then parts_of table >>= sound_plan else None

-- the plan of a text
abbrev pub plan_of : List ℕ → Option Plan
plan_of text = parse_document text >>= plan_in
