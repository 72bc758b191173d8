use Rattle.std.proofs.Common.{rules, sym, ◌∙◌}
use Rattle.std.proofs.lemmas.Fn.{always_returns_same}
use Rattle.dr_base.specs.Texts.{text_cmp}
use Rattle.dr_route.proofs.Finding.{found_text, not_found_text}
use Rattle.dr_route.proofs.search.find.Goals as goal

pub returns-in-Ok : goal.returns-in-Ok
returns-in-Ok c =
    let at = c.in-Ok.ensures.position (λ text. text_cmp text c.args.bytes.now) (always_returns_same _ _ _ (λ a r f' called. search rules)) in
    let same = found_text c.args.texts.now c.args.bytes.now c.in-Ok.place at in
    ((c.in-Ok.place, c.in-Ok.ensures.bound, sym c.index-texts-place.is), c.index-texts-place.is ∙ same c.index-texts-place.result)

pub returns-in-Err : goal.returns-in-Err
returns-in-Err c =
    let parted = c.in-Err.ensures.position (λ text. text_cmp text c.args.bytes.now) (always_returns_same _ _ _ (λ a r f' called. search rules)) in
    not_found_text c.args.texts.now c.args.bytes.now c.in-Err.field-0 c.requires parted
