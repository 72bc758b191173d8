use Rattle.dr_cert_text.proofs.Examples.{empty_plan_text, empty_plan_printable}
use Rattle.dr_cert_text.proofs.laws.the_empty_plan_has_its_text.Goals as goal

pub returns-clause-text : goal.returns-clause-text
returns-clause-text c = empty_plan_text

pub returns-clause-printable : goal.returns-clause-printable
returns-clause-printable c = empty_plan_printable
