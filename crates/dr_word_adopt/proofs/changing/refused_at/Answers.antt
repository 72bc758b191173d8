use Rattle.std.proofs.Common.{sym, subst}
use Rattle.dr_word_adopt.specs.Changings.{LeavesLedger}
use Rattle.dr_word_adopt.proofs.changing.refused_at.Goals as goal

pub returns-in-Over : goal.returns-in-Over
returns-in-Over g c = subst LeavesLedger (sym c.from.ensures) tt

pub returns-in-Ready : goal.returns-in-Ready
returns-in-Ready g c = subst LeavesLedger (sym c.at.ensures) tt
