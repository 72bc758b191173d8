-- Which nodes of a plan are ours: all but those that are named as others.
use Rattle.std.specs.Prelude.{Bool, List, filter, not, map as mapped}
use Rattle.dr_base.specs.Texts.{Text}
use Rattle.dr_plan_model.specs.declared.plan.Node.{Node}
use Rattle.dr_word_adopt.specs.Names.{is_among}

-- the node is ours
abbrev pub is_ours : List Text → Node → Bool
is_ours others node = not (is_among others node.name)

-- the names of those of these nodes that are ours, in their order
abbrev pub our_names : List Text → List Node → List Text
our_names others nodes = mapped (λ node. node.name) (filter (is_ours others) nodes)
