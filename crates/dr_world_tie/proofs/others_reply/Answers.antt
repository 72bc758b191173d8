use Rattle.dr_world_tie.proofs.ForeignReplies.{calls_to_ours_are_not_foreign, nothing_unheard_is_answered, responses_are_replies}
use Rattle.dr_world_tie.proofs.others_reply.Goals as goal

pub returns-clause-replied : goal.returns-clause-replied
returns-clause-replied c = responses_are_replies

pub returns-clause-unheard : goal.returns-clause-unheard
returns-clause-unheard c = nothing_unheard_is_answered

pub returns-clause-own : goal.returns-clause-own
returns-clause-own c = calls_to_ours_are_not_foreign
