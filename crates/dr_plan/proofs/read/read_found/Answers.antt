use Rattle.std.proofs.Common.{refl, inl, inr}
use Rattle.dr_plan.proofs.Cores.{read_for}
use Rattle.dr_plan.proofs.read.read_found.Goals as goal

pub returns-in-Some : goal.returns-in-Some
returns-in-Some c = read_for c.args.text.now c.in-Some.core c.read_core.result (inr (rw c.in-Some.is at c.requires)) (rw c.as_bytes.ensures at c.read_core.ensures)

pub returns-in-None : goal.returns-in-None
returns-in-None c = read_for c.args.text.now c.args.text.now c.read_core-in-None.result (inl (rw c.in-None.is at c.requires, refl)) c.read_core-in-None.ensures
