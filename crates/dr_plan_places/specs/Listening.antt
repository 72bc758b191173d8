-- What the table of a node says of where it listens, in a text of some format.
use Rattle.std.specs.Prelude.{◌≢◌, Bool, Option}
use Rattle.toml.specs.Data.{Data, no_items, Members}
use Rattle.dr_plan_model.specs.Listening.{ListensFits}
use Rattle.dr_plan_model.specs.declared.listens.Listens.{Listens}
use Rattle.dr_plan_model.specs.declared.plan.Format.{Format}
use Rattle.dr_plan_text.specs.Listening.{IsListens}
use Rattle.dr_plan_places.specs.FieldFlaws.{items_at}

-- the node listens so, and the format has it
abbrev pub IsListensOf : Bool → Format → Members → Listens → Type 0
IsListensOf may_say format fields place = IsListens may_say fields place × ListensFits format place

-- the value is a list of one item or more
abbrev pub HasItems : Option Data → Type 0
HasItems value = items_at value ≢ no_items
