use Rattle.dr_plan_text.proofs.SmallTexts.{unknown_key, other_format, no_address, high_port}
use Rattle.dr_plan_text.proofs.laws.ill_formed_texts_write_none.Goals as goal

pub returns-clause-key : goal.returns-clause-key
returns-clause-key c = unknown_key

pub returns-clause-format : goal.returns-clause-format
returns-clause-format c = other_format

pub returns-clause-address : goal.returns-clause-address
returns-clause-address c = no_address

pub returns-clause-port : goal.returns-clause-port
returns-clause-port c = high_port
