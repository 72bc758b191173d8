-- One store, and the journals that it leaves.
use Rattle.dr_plan_sound.specs.Samples.{archive, scanner}
use Rattle.dr_plan_sound.proofs.TwoNodes.{two_nodes_are_sound}
use Rattle.dr_world_model.specs.Laws.{one_store}
use Rattle.dr_world_model.proofs.TwoNodesRunning.{two_nodes_run}
use Rattle.dr_world_journals.specs.Laws.{AStoreMatches}
use Rattle.dr_world_journals.specs.Mismatching.{two}
use Rattle.dr_world_journals.proofs.Among.{all_runs_leave_matching_journals}

pub a_store_matches : AStoreMatches
a_store_matches item image_is explicit_is =
    let run = two_nodes_run item image_is explicit_is in
    (run.0, run.3, all_runs_leave_matching_journals two two_nodes_are_sound (one_store scanner archive item run.1) two run.0 run.2)
