use Rattle.std.specs.Option.{option_copied}
use Rattle.dr_dataset.specs.Elements.{Element}
use Rattle.dr_dataset.proofs.FoundLemmas.{found_more}
use Rattle.dr_dataset.proofs.found.ElementsFound.with_one.Goals as goal

pub returns : goal.returns
returns c =
    let x : Element = record { tag = c.args.element.tag; value = option_copied c.args.element.value } in
    let bytes = c.bytes_of-bytes.ensures in
    λ es f. (
      found_more 0x0008 0x0016 es x _ _ _ _ f.0 c.is.ensures bytes c.first_of.ensures,
      found_more 0x0008 0x0018 es x _ _ _ _ f.1 c.is-2.ensures bytes c.first_of-2.ensures,
      found_more 0x0008 0x0060 es x _ _ _ _ f.2 c.is-3.ensures bytes c.first_of-3.ensures,
      found_more 0x0008 0x1010 es x _ _ _ _ f.3 c.is-4.ensures bytes c.first_of-4.ensures,
    )
