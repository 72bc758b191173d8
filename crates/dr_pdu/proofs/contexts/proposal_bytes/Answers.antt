use Rattle.std.proofs.Common.{arith}
use Rattle.dr_pdu.proofs.FitLemmas.{length_of_proposal}
use Rattle.dr_pdu.proofs.contexts.proposal_bytes.Goals as goal

pub put_names-requires : goal.put_names-requires
put_names-requires c =
    let size = length_of_proposal c.args.context.now in
    rw c.as_slice.ensures (omega (arith, size, c.requires.3))
