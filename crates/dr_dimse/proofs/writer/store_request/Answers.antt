use Rattle.std.proofs.Common.{[], ◌∷◌, true}
use Rattle.dr_dimse.specs.Written.{number_element, text_element, data_element}
use Rattle.dr_dimse.proofs.WriteLemmas.{next}
use Rattle.dr_dimse.proofs.writer.store_request.Goals as goal

pub returns : goal.returns
returns c =
    let e1 = text_element 0x0002 c.args.class.now in
    let e2 = number_element 0x0100 0x0001 in
    let e3 = number_element 0x0110 c.args.id in
    let e4 = number_element 0x0700 0 in
    let e5 = data_element true in
    let x1 = next _ _ [] e1 c.new-out.ensures.items c.in_ok-put_text.ensures.ok in
    let x2 = next _ _ (e1 ∷ []) e2 x1 c.in_ok-put_number.ensures.ok in
    let x3 = next _ _ (e1 ∷ e2 ∷ []) e3 x2 c.in_ok-put_number-2.ensures.ok in
    let x4 = next _ _ (e1 ∷ e2 ∷ e3 ∷ []) e4 x3 c.in_ok-put_number-3.ensures.ok in
    let x5 = next _ _ (e1 ∷ e2 ∷ e3 ∷ e4 ∷ []) e5 x4 c.in_ok-put_data.ensures.ok in
    next _ _ (e1 ∷ e2 ∷ e3 ∷ e4 ∷ e5 ∷ []) (text_element 0x1000 c.args.instance.now) x5 c.in_ok-put_text-2.ensures.ok
