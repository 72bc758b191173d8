use Rattle.dr_store.proofs.Readable.{other_bytes, other_items, own_is_there}
use Rattle.dr_store.proofs.laws.other_bytes_are_no_data_set.Goals as goal

pub returns-clause-own : goal.returns-clause-own
returns-clause-own c = own_is_there

pub returns-clause-bytes : goal.returns-clause-bytes
returns-clause-bytes c = other_bytes

pub returns-clause-items : goal.returns-clause-items
returns-clause-items c = other_items
