-- Journals that match are no empty word.
use Rattle.std.specs.Prelude.{◌≡◌}
use Rattle.dr_base.specs.declared.syntax.Syntax.TheVariants.{Explicit}
use Rattle.dr_plan_sound.specs.Samples.{archive, scanner}
use Rattle.dr_base.specs.Standard.{image}
use Rattle.dr_ledger.specs.declared.item.Instance.{Instance}
use Rattle.dr_world_model.specs.Among.{all_ours}
use Rattle.dr_world_model.specs.Laws.{IsStored}
use Rattle.dr_world_model.specs.Worlds.{World}
use Rattle.dr_world_journals.specs.Mismatching.{two}
use Rattle.dr_world_journals.specs.Theorem.{AreSeen}

-- In the plan of two nodes each image can be stored, and the two journals match then: one notes the
-- success, and the other the arrival.
abbrev pub AStoreMatches : Type 0
AStoreMatches =
    (item : Instance) → item.key.class ≡ image
    → item.key.syntax ≡ Explicit
    → (w : World) × IsStored w scanner archive item × AreSeen all_ours two w
