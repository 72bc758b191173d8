use Rattle.std.proofs.Common.{◌≡◌, drop}
use Rattle.dr_nego.specs.Answering.{first_proposed, syntaxes_for}
use Rattle.dr_nego.proofs.choosing.first_offered.Given as goal

abbrev pub invariant-loop-row : goal.invariant-loop-row
invariant-loop-row l = first_proposed l.proposal (syntaxes_for (drop l.row-index l.rows) l.caller l.proposal.class) ≡ first_proposed l.proposal (syntaxes_for l.rows l.caller l.proposal.class)
