use Rattle.dr_nego.proofs.Proposed.{proposed_not}
use Rattle.dr_nego.proofs.proposing.propose.Goals as goal

pub returns-then-not-has_hop-clause-proposes : goal.returns-then-not-has_hop-clause-proposes
returns-then-not-has_hop-clause-proposes c = c.if-not-has_hop.ensures

pub returns-in_err-proposal-clause-proposes : goal.returns-in_err-proposal-clause-proposes
returns-in_err-proposal-clause-proposes c = proposed_not c.args.site.now c.args.dest.now c.from_residual.result c.from_residual.ensures.0 c.from_residual.ensures.1 c.if-not-has_hop.ensures

pub returns-clause-proposes : goal.returns-clause-proposes
returns-clause-proposes c = c.in_ok-proposal.ensures.proposes
