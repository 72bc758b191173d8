use Rattle.dr_world_tie.proofs.ForeignReplies.{any_answers_come, claims_hold_after_answers, one_answer_comes}
use Rattle.dr_world_tie.proofs.others_answers_are_heard.Goals as goal

pub returns-clause-input : goal.returns-clause-input
returns-clause-input c = one_answer_comes

pub returns-clause-bytes : goal.returns-clause-bytes
returns-clause-bytes c = any_answers_come

pub returns-clause-claims : goal.returns-clause-claims
returns-clause-claims c = claims_hold_after_answers
