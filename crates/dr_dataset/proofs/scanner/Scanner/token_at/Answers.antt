use Rattle.std.proofs.Common.{◌≡◌, ap, ◌∙◌, Some, sym, false}
use Rattle.std.specs.Prelude.{slice_get}
use Rattle.dr_dataset.specs.declared.frame.OpenSequence.TheVariants.{InItem}
use Rattle.dr_dataset.specs.DataSet.{has_tag}
use Rattle.dr_dataset.specs.Elements.{item_group}
use Rattle.dr_dataset.proofs.NestLemmas.{token_in_item}
use Rattle.dr_dataset.proofs.scanner.Scanner.token_at.Goals as goal

pub returns-in-Some-InItem-2 : goal.returns-in-Some-InItem-2
returns-in-Some-InItem-2 c =
    let s = c.args.self.now in
    let top : slice_get s.stack 0 ≡ Some (InItem c.in-Some-InItem-2.inside) = sym c.top.ensures ∙ c.in-Some-InItem.is ∙ ap Some c.in-Some-InItem-2.field-0-is in
    let no_end : has_tag item_group 0xE00D c.in-Some.tag ≡ false = sym c.eq.ensures ∙ c.if-eq.false in
    let e = token_in_item s.syntax s.stack c.args.text.now c.in-Some.rest.now c.in-Some.tag c.in-Some-InItem-2.inside top s.nested c.in-Some.ensures no_end in
    rw (e, ← c.in-Some-InItem-2.inside-is, ← c.is_full.ensures) c.element_at-in-Some-InItem-2.ensures
