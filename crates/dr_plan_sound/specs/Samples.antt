-- The smallest plans that show something: two nodes, where instances enter at the first, which
-- sends them to the second.
use Rattle.std.specs.Prelude.{List, [], ◌∷◌, None, codes, true}
use Rattle.dr_base.specs.Texts.{Text}
use Rattle.dr_base.specs.declared.syntax.Syntax.TheVariants.{Explicit}
use Rattle.dr_route.specs.declared.rule.FieldPattern.TheVariants as field
use Rattle.dr_route.specs.declared.rule.Pattern.TheVariants.{Any}
use Rattle.dr_route.specs.declared.rule.Rule.{Rule}
use Rattle.dr_route.specs.declared.accept.Callers.TheVariants as callers
use Rattle.dr_route.specs.declared.accept.AcceptRow.{AcceptRow}
use Rattle.dr_plan_model.specs.declared.listens.Listens.TheVariants.{At}
use Rattle.dr_plan_model.specs.declared.plan.Node.{Node}
use Rattle.dr_plan_model.specs.declared.plan.Flow.{Flow}
use Rattle.dr_plan_model.specs.declared.plan.Values.TheVariants as values
use Rattle.dr_plan_model.specs.declared.plan.Format.TheVariants.{One}
use Rattle.dr_plan_model.specs.Networks.{Network}
use Rattle.dr_plan_sound.specs.Soundness.{IsSound}
use Rattle.dr_base.specs.Standard.{image}

-- the title of the scanner, where instances enter
abbrev pub scanner : Text
scanner = codes "CT1"

-- the title of the archive, to which the scanner sends
abbrev pub archive : Text
archive = codes "ARCH"

-- a rule that keeps whatever comes
abbrev pub keep_all : Rule
keep_all = record {
  «from» = Any;
  class = Any;
  modality = field.Any;
  station = field.Any;
  except = [];
  to = [];
  keep = true;
}

-- an accept row that takes CT images in the explicit syntax from everybody
abbrev pub images_from_all : AcceptRow
images_from_all = record { «from» = callers.Any; class = image; syntaxes = Explicit ∷ [] }

-- the node of the scanner, which takes nothing and has no rule
abbrev pub the_scanner : Node
the_scanner = record {
  name = scanner;
  listens = At (codes "ct1:104") None;
  max_pdu = 0;
  accepts = [];
  rules = [];
}

-- the node of the archive, which takes CT images and has these rules
abbrev pub the_archive : List Rule → Node
the_archive rules = record {
  name = archive;
  listens = At (codes "arch:104") None;
  max_pdu = 0;
  accepts = images_from_all ∷ [];
  rules = rules;
}

-- the flow of CT images in the explicit syntax that enter at the scanner and go to the archive
abbrev pub the_flow : Flow
the_flow = record {
  at = scanner;
  to = archive;
  classes = image ∷ [];
  syntaxes = Explicit ∷ [];
  modalities = values.Any;
  stations = values.Any;
}

-- the plan of the two nodes and the flow, with these rules of the archive
abbrev pub two_nodes : List Rule → Network
two_nodes rules = record {
  format = One;
  nodes = the_scanner ∷ the_archive rules ∷ [];
  flows = the_flow ∷ [];
  digest = [];
}

-- the plan of two nodes is sound where the archive keeps what comes
abbrev pub TwoNodesAreSound : Type 0
TwoNodesAreSound = IsSound (two_nodes (keep_all ∷ []))

-- the plan of two nodes isn't sound where the archive has no rule: a walk ends where nobody keeps
abbrev pub WithoutKeepTheyAreNot : Type 0
WithoutKeepTheyAreNot = IsSound (two_nodes []) → ⊥
