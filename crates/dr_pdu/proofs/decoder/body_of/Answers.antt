use Rattle.std.proofs.lemmas.Result.{err_from_is_err_and}
use Rattle.dr_pdu.specs.Grammar.{IsBody, IsAssociation, IsProposal, IsAnswer}
use Rattle.dr_pdu.proofs.Refusals.{refused}
use Rattle.dr_pdu.proofs.DecodeLemmas.{request_of, acceptance_of}
use Rattle.dr_pdu.proofs.decoder.body_of.Goals as goal

pub returns-in_err-association_of-in-1-default : goal.returns-in_err-association_of-in-1-default
returns-in_err-association_of-in-1-default c =
    let p = err_from_is_err_and c.from_residual.result c.from_residual.ensures.1 in
    rw (p.1, p.2, c.in-1-default.is-0) (refused _ (IsAssociation 0x20 IsProposal c.args.body.now) (IsBody 1 c.args.body.now) (request_of c.args.body.now) c.in_err-association_of-in-1-default.ensures)

pub returns-in_err-association_of-in-2-default : goal.returns-in_err-association_of-in-2-default
returns-in_err-association_of-in-2-default c =
    let p = err_from_is_err_and c.from_residual-in_err-association_of-in-2-default.result c.from_residual-in_err-association_of-in-2-default.ensures.1 in
    rw (p.1, p.2, c.in-2-default.is-0) (refused _ (IsAssociation 0x21 IsAnswer c.args.body.now) (IsBody 2 c.args.body.now) (acceptance_of c.args.body.now) c.in_err-association_of-in-2-default.ensures)
