use Rattle.dr_desk_workers.proofs.Responses.{one_status, responses_say_their_status}
use Rattle.dr_desk_workers.proofs.laws.responses_say_their_status.Goals as goal

pub returns-clause-one : goal.returns-clause-one
returns-clause-one c = one_status

pub returns-clause-responses : goal.returns-clause-responses
returns-clause-responses c = responses_say_their_status
