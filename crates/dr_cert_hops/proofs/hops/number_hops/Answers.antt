use Rattle.std.proofs.Common.{List, subst}
use Rattle.dr_cert_hops.specs.declared.hops.Passage.{Passage}
use Rattle.dr_cert_hops.specs.Numbering.{NumbersAll}
use Rattle.dr_cert_hops.proofs.AllNumbered.{are_numbered}
use Rattle.dr_cert_hops.proofs.hops.number_hops.Goals as goal

pub returns : goal.returns
returns c =
    let P : List Passage → Type 0 = λ ps. NumbersAll ps c.in_ok-numbered.numbered in
    are_numbered c.args.lines.now c.in_ok-passages.passages.items c.in_ok-passages.ensures c.in_ok-numbered.numbered (subst P c.as_slice.ensures.value c.in_ok-numbered.ensures)
