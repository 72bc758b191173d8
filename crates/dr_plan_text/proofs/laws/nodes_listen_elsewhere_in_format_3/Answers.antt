use Rattle.dr_plan_text.proofs.ListenTexts.{nowhere, nowhere_of_2, bind, bind_of_2, bind_alone, nowhere_addressed, nowhere_accepts}
use Rattle.dr_plan_text.proofs.laws.nodes_listen_elsewhere_in_format_3.Goals as goal

pub returns-clause-nowhere : goal.returns-clause-nowhere
returns-clause-nowhere c = nowhere

pub returns-clause-nowhere_of_2 : goal.returns-clause-nowhere_of_2
returns-clause-nowhere_of_2 c = nowhere_of_2

pub returns-clause-bind : goal.returns-clause-bind
returns-clause-bind c = bind

pub returns-clause-bind_of_2 : goal.returns-clause-bind_of_2
returns-clause-bind_of_2 c = bind_of_2

pub returns-clause-no_address : goal.returns-clause-no_address
returns-clause-no_address c = bind_alone

pub returns-clause-addressed : goal.returns-clause-addressed
returns-clause-addressed c = nowhere_addressed

pub returns-clause-accepts : goal.returns-clause-accepts
returns-clause-accepts c = nowhere_accepts
