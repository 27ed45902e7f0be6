-- WHAT `run` PRINTS.
use Rattle.std.specs.Prelude.{◌≡◌, ◌⊎◌, ℕ, Bool, true, false, List, [], ◌∷◌, ◌++◌, codes, decimal, Option, Some, None}
use Rattle.std.specs.{List.concat, List.flat_map, Io.KnownBytes.Appends, Io.KnownBytes.Consumes, Io.KnownBytes.IsAtEnd}
use Rattle.dist_world_model.specs.World.{World}
use Rattle.dist_locked_book.specs.declared.closing.Closed.{Closed}
use Rattle.dist_audit.specs.Audit.{IsWorldOf, IsWorldAmong, Reports, ReportsFirst}
use Rattle.dist_audit.specs.{declared.audit_error.AuditError.AuditError, Refusals.refusal_name, Refusals.refusal_number}
use Rattle.dist_run_plan.specs.{declared.plan.Plan.Plan, Plans.plan_of}
use Rattle.dist_run_hosts.specs.{Setups.AreOfPlans, Orders.AreObeyed, Words.order_refusal_name, declared.order_fault.OrderFault.OrderFault, Runs.AreInOrder}
use Rattle.dist_script_play.specs.{Lines.node_text, Worlds.nodes_text, Worlds.AreAgreements, Worlds.AreFooled, Worlds.FoolsNobody}
use Rattle.distnode.specs.declared.fault.Fault.{Fault}
use Rattle.distnode.specs.declared.fault.Fault.TheVariants.{AuditRefused, Fooled}

-- a text of this kind was written
abbrev pub Puts : (List ℕ → Type 0) → Option (List ℕ) → Option (List ℕ) → Type 0
Puts Is old new = (text : List ℕ) × Is text × Appends old new text

-- order K FAULT
abbrev pub order_line : OrderFault → List ℕ
order_line fault = codes "order " ++ decimal fault.number ++ codes " " ++ order_refusal_name fault.refusal ++ codes "\n"

-- a line for each order that made no dial
abbrev pub orders_text : List OrderFault → List ℕ
orders_text = flat_map order_line

-- the line and the table of a node as it was closed
abbrev pub closed_node : Closed → List ℕ
closed_node closed = let n = closed.node in let s = n.setup in node_text s.name (Some n)

-- those of all nodes
abbrev pub closed_text : List Closed → List ℕ
closed_text = flat_map closed_node

-- audit refused N NAME
abbrev pub refused_line : AuditError → List ℕ
refused_line e = concat (codes "audit refused " ∷ decimal (refusal_number e) ∷ codes " " ∷ refusal_name e ∷ codes "\n" ∷ [])

-- IF THE AUDIT REFUSES: the nodes as they were closed, and why
abbrev pub refusal_text : AuditError → List Closed → List ℕ
refusal_text e closed = closed_text closed ++ refused_line e

-- IF IT HOLDS: the nodes of the audited world, what each pair agrees on, and `audit holds`
abbrev pub IsHeld : World → List ℕ → Type 0
IsHeld w text = (agreements : List ℕ) × AreAgreements w agreements × (text ≡ nodes_text w ++ agreements ++ codes "audit holds\n")

-- ---- others

-- strangers N: in how many connections others took part
abbrev pub strangers_line : ℕ → List ℕ
strangers_line count = concat (codes "strangers " ∷ decimal count ∷ codes "\n" ∷ [])

-- that there is none
abbrev pub fooled_end : Bool → List ℕ
fooled_end true = []
fooled_end false = codes "fooled nobody\n"

-- IF OTHERS TOOK PART: the same, in how many connections, and for which nodes they are taken, by whether there is one
abbrev pub IsAmong : World → ℕ → Bool → List ℕ → Type 0
IsAmong w count any text =
    (held fooled : List ℕ) × IsHeld w held × AreFooled w any fooled × (text ≡ held ++ strangers_line count ++ fooled ++ fooled_end any)

-- WHAT IS PRINTED OF CLOSED NODES, by what is against them. If nothing is, it is the text of one world that has these nodes; its ends that
-- are up hold the digests of the cookies with which these nodes were set up; and if others took part, none of them is taken for a node. A
-- refusal is the audit's first, and stands there.
abbrev pub IsAudited : Option Fault → List Closed → List ℕ → Type 0
IsAudited None closed text =
    ((w : World) × IsWorldOf closed w × IsHeld w text)
    ⊎ ((w : World) × (count : ℕ) × IsWorldAmong closed w count × FoolsNobody w × IsAmong w count false text)
IsAudited (Some Fooled) closed text = (w : World) × (count : ℕ) × IsWorldAmong closed w count × IsAmong w count true text
IsAudited (Some (AuditRefused e)) closed text = Reports e true closed × ReportsFirst e true closed × (text ≡ refusal_text e closed)
IsAudited (Some other) closed text = ⊥

-- THE TEXT OF A RUN: the orders that made no dial, and what is printed of its closed nodes
abbrev pub IsOfRun : Option Fault → List OrderFault → List Closed → List ℕ → Type 0
IsOfRun fault faults closed text = (said : List ℕ) × IsAudited fault closed said × (text ≡ orders_text faults ++ said)

-- WHAT `run` PRINTS, by what is against it: the text of a run of the nodes file
pub record PrintsRun (file : List ℕ) (fault : Option Fault) (old new : Option (List ℕ)) : Type 0 where
  -- the plan in the file
  pub plan : Plan
  -- the orders that made no dial
  pub faults : List OrderFault
  -- the nodes as they were closed
  pub closed : List Closed
  -- the file is a nodes file with just this plan
  pub says : plan_of file ≡ Some plan
  -- the closed nodes are those of the file, in its order, each with the setup that it names
  pub nodes : AreOfPlans plan.node closed
  -- these orders are in the order of the file
  pub order : AreInOrder faults
  -- each order of the file made its dial once, or is one of these and made none; no node made another dial
  pub orders : AreObeyed plan faults closed
  -- just their text was written
  pub text : Puts (IsOfRun fault faults closed) old new

-- the same for a nodes file that was read to its end
abbrev pub PrintsRunOf : Option (List ℕ) → Option (List ℕ) → Option Fault → Option (List ℕ) → Option (List ℕ) → Type 0
PrintsRunOf before after fault old new = (file : List ℕ) × Consumes before after file × IsAtEnd after × PrintsRun file fault old new
