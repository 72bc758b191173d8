use Rattle.dr_world_model.proofs.Pinned.{agreeing_is_by_count, received_is_replied, answered_is_open}
use Rattle.dr_world_model.proofs.Counted.{others_are_counted}
use Rattle.dr_world_model.proofs.laws.each_store_is_replied_to.Goals as goal

pub returns-clause-count : goal.returns-clause-count
returns-clause-count c = agreeing_is_by_count

pub returns-clause-replied : goal.returns-clause-replied
returns-clause-replied c = received_is_replied

pub returns-clause-opened : goal.returns-clause-opened
returns-clause-opened c = answered_is_open

pub returns-clause-others : goal.returns-clause-others
returns-clause-others c = others_are_counted
