-- Where nodes listen, and what follows from it.
use Rattle.std.specs.Prelude.{◌≡◌, List, [], Option, Some, None}
use Rattle.dr_base.specs.Texts.{Text}
use Rattle.dr_plan_model.specs.declared.listens.Listens.{Listens}
use Rattle.dr_plan_model.specs.declared.listens.Listens.TheVariants.{Nowhere, At}
use Rattle.dr_plan_model.specs.declared.plan.Format.{Format}
use Rattle.dr_plan_model.specs.declared.plan.Format.TheVariants.{One, Two, Three}

-- the address by which others reach the node
abbrev pub address_of : Listens → Option Text
address_of Nowhere = None
address_of (At address bind) = Some address

-- the address to which the node binds
abbrev pub door_of : Listens → Option Text
door_of Nowhere = None
door_of (At address None) = Some address
door_of (At address (Some own)) = Some own

-- the node listens, and where others reach it
abbrev pub AtItsAddress : Listens → Type 0
AtItsAddress Nowhere = ⊥
AtItsAddress (At address bind) = bind ≡ None

-- the format has it: before format 3 each node listens, and where others reach it
abbrev pub ListensFits : Format → Listens → Type 0
ListensFits One listens = AtItsAddress listens
ListensFits Two listens = AtItsAddress listens
ListensFits Three listens = Unit {0}

-- a node that listens nowhere has no accept row
abbrev pub MayAccept : {X : Type 0} → Listens → List X → Type 0
MayAccept Nowhere rows = rows ≡ []
MayAccept (At address bind) rows = Unit {0}
