use Rattle.dr_world_tie.proofs.Foreigners.{one_input_comes, any_bytes_come, claims_hold_after_bytes}
use Rattle.dr_world_tie.proofs.others_are_heard.Goals as goal

pub returns-clause-input : goal.returns-clause-input
returns-clause-input c = one_input_comes

pub returns-clause-bytes : goal.returns-clause-bytes
returns-clause-bytes c = any_bytes_come

pub returns-clause-claims : goal.returns-clause-claims
returns-clause-claims c = claims_hold_after_bytes
