use Rattle.std.proofs.Common.{sym, ◌∙◌}
use Rattle.dr_plan_places.proofs.ListenFlawed.{some_seen}
use Rattle.dr_plan_places.proofs.listening.has_items.Goals as goal

pub returns : goal.returns
returns c = λ some none. some_seen c.is_empty.result c.items_of.result.now c.is_empty.ensures some (c.items_of.ensures ∙ none)
