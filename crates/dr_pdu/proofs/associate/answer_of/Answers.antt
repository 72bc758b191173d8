use Rattle.std.proofs.Common.{◌≡◌, ap, sym, ◌∙◌, None, Some, cond, eqb, List, ℕ, [], get_or}
use Rattle.std.specs.Option.{option_map}
use Rattle.dr_base.specs.Padding.{unpadded}
use Rattle.dr_pdu.specs.Items.{first_body}
use Rattle.dr_pdu.specs.Reads.{items}
use Rattle.dr_pdu.proofs.ContextLemmas.{answer_says}
use Rattle.dr_pdu.proofs.associate.answer_of.Goals as goal

pub returns-in_default-first : goal.returns-in_default-first
returns-in_default-first c = λ y h.
    let is = items c.in_ok-found.found.items in
    let says = answer_says c.args.body.now is y c.in_ok-found.ensures h in
    let none : None ≡ first_body 0x40 is = rw c.deref.ensures.value at c.in_default-first.ensures in
    let accepted : y.result ≡ 0 = sym (ap (λ (t : List ℕ). get_or t 2 0) h.4) ∙ c.if-outcome-ne0.false in
    let e : option_map unpadded None ≡ Some y.syntax =
    ap (option_map unpadded) none ∙ ap (λ (n : ℕ). cond (eqb n 0) (option_map unpadded (first_body 0x40 is)) (Some [])) (sym accepted) ∙ says.syntax in
    absurd cc
