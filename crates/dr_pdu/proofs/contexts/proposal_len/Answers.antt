use Rattle.std.proofs.Common.{arith, sym, ap, ◌∙◌, length, List, ℕ}
use Rattle.std.proofs.lemmas.Bool.{eqb-false}
use Rattle.dr_pdu.proofs.FitLemmas.{length_of_proposal}
use Rattle.dr_pdu.proofs.contexts.proposal_len.Goals as goal

pub returns-in_default : goal.returns-in_default
returns-in_default c = λ h.
    let size = length_of_proposal c.args.context.now in
    (rw c.as_slice.ensures at c.in_default.ensures) (h.1, omega (arith, size, h.3))

pub returns-then-class-names-ge65536 : goal.returns-then-class-names-ge65536
returns-then-class-names-ge65536 c = λ h.
    let size = length_of_proposal c.args.context.now in
    let names = rw c.as_slice.ensures at c.in-Some.ensures in
    omega (arith, size, h.3, names.1)

pub returns : goal.returns
returns c =
    let size = length_of_proposal c.args.context.now in
    let names = rw c.as_slice.ensures at c.in-Some.ensures in (
      (c.is_unpadded.ensures.0 c.if-not-is_unpadded.false, names.0.0, (λ e. eqb-false _ _ (sym c.is_empty.ensures ∙ c.if-is_empty.false) (ap (λ (ns : List (List ℕ)). length ns) e)), omega (arith, size, names.1)),
      omega (arith, size, names.1),
    )
