-- Nodes as a nodes file says that they are set up.
use Rattle.std.specs.Prelude.{◌≡◌, ℕ, ⊤, List, [], ◌∷◌}
use Rattle.dist_names.specs.declared.creation.Creation.{Creation}
use Rattle.dist_core_setup.specs.{declared.setup.Setup.Setup, declared.version.Version.Version, Limits.usual_limits}
use Rattle.dist_core_setup.specs.declared.version.Version.TheVariants as versions
use Rattle.dist_locked_book.specs.declared.closing.Closed.{Closed}
use Rattle.dist_run_plan.specs.declared.plan.NodePlan.{NodePlan}

-- the number of the highest version that a node knows
abbrev pub highest_of : Version → ℕ
highest_of versions.Five = 5
highest_of versions.Six = 6

-- WHAT A NODE IS SET UP WITH: all that its plan says, and the creation that the port mapper gave it
abbrev pub setup_of : NodePlan → Creation → Setup
setup_of plan creation = record {
  name = plan.name;
  cookies = plan.cookies;
  version = plan.version;
  flags = plan.flags;
  required = plan.required;
  creation = creation;
  allow = plan.allow;
  limits = usual_limits;
}

-- the setup is the plan's, with whatever creation
abbrev pub IsOfPlan : NodePlan → Setup → Type 0
IsOfPlan plan setup = setup ≡ setup_of plan setup.creation

-- the closed nodes are those of the plans: as many, in their order, each set up as its plan says
abbrev pub AreOfPlans : List NodePlan → List Closed → Type 0
AreOfPlans [] [] = ⊤
AreOfPlans [] (closed ∷ others) = ⊥
AreOfPlans (plan ∷ plans) [] = ⊥
AreOfPlans (plan ∷ plans) (closed ∷ others) = let n = closed.node in IsOfPlan plan n.setup × AreOfPlans plans others
