use Rattle.dr_ledger.proofs.Replied.{are_statuses, statuses_have_two_bytes, zero_is_success}
use Rattle.dr_ledger.proofs.laws.each_reply_has_its_status.Goals as goal

pub returns-clause-statuses : goal.returns-clause-statuses
returns-clause-statuses c = are_statuses

pub returns-clause-bytes : goal.returns-clause-bytes
returns-clause-bytes c = statuses_have_two_bytes

pub returns-clause-success : goal.returns-clause-success
returns-clause-success c = zero_is_success
