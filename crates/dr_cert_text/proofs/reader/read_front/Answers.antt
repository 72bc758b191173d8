use Rattle.dr_cert_text.proofs.Whole.{begins_none}
use Rattle.dr_cert_text.proofs.reader.read_front.Goals as goal

pub returns-in-None : goal.returns-in-None
returns-in-None c =
    begins_none c.args.text.now (rw c.front_of.ensures at c.in_default.ensures) (rw c.front_of-2.ensures at c.in_default-after.ensures) (rw c.front_of-3.ensures at c.in-None.ensures)
