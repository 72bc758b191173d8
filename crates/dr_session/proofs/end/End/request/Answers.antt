use Rattle.std.proofs.Common.{ℕ, Some, ap, ◌∙◌}
use Rattle.dr_nego.specs.declared.fault.NegoFault.TheVariants.{Memory}
use Rattle.dr_session.specs.Ends.{begins, requesting}
use Rattle.dr_session.proofs.Ending.{opens_not}
use Rattle.dr_session.proofs.end.End.request.Goals as goal

pub returns : goal.returns
returns c = (
  c.in_ok-proposal.ensures.proposes.0,
  c.in_ok-proposal.proposal,
  c.in_ok-proposal.ensures.proposes.1,
  c.in_ok-opened.ensures.end ∙ ap (λ (n : ℕ). begins n (requesting (Some c.args.site) c.args.dest.now c.in_ok-proposal.proposal c.args.now)) c.max_pdu-limit.ensures,
  c.in_ok-opened.ensures.actions,
)

pub returns-in_err-proposal : goal.returns-in_err-proposal
returns-in_err-proposal c =
    opens_not c.args.site c.args.dest.now c.args.now c.in_err-proposal.field-0.0 c.from_residual.result c.from_residual.ensures.0 c.from_residual.ensures.1 c.in_err-proposal.ensures.proposes

pub returns-in_err-opened : goal.returns-in_err-opened
returns-in_err-opened c =
    opens_not c.args.site c.args.dest.now c.args.now Memory c.from_residual-in_err-opened.result c.from_residual-in_err-opened.ensures.0 c.from_residual-in_err-opened.ensures.1 c.in_ok-proposal.ensures.proposes.0
