use Rattle.std.proofs.Common.{◌≡◌, flat_map, take}
use Rattle.dr_pdu.specs.declared.pdu.ContextProposal.{ContextProposal}
use Rattle.dr_nego.specs.Agreeing.{pair_if, answer_to}
use Rattle.dr_nego.proofs.concluding.agreed_pairs.Given as goal

abbrev pub invariant-loop-context : goal.invariant-loop-context
invariant-loop-context l = l.pairs ≡ flat_map (λ (c : ContextProposal). pair_if c (answer_to l.answers c)) (take l.context-index l.contexts)
