use Rattle.std.proofs.Common.{arith, refl, sym, ◌∙◌, ap, subst, List, ℕ, take, drop}
use Rattle.dr_base.specs.Padding.{trimmed}
use Rattle.dr_pdu.specs.Grammar.{IsFront}
use Rattle.dr_pdu.proofs.FrontTexts.{front_read}
use Rattle.dr_pdu.proofs.associate.front_of.Goals as goal

pub returns : goal.returns
returns c =
    let later = c.split_at.ensures.back in
    let last = c.split_at-2.ensures.back ∙ ap (drop 16) later in
    let it = front_read c.args.body.now _ (record { version = c.from_be_bytes.result; called = c.in_ok-copy_of.field-0; calling = c.in_ok-copy_of-2.field-0; reserved = c.in_ok-copy_of-3.field-0 }) refl c.in-len4-up.len_at_least c.if-text-lt64.false
    (λ i. omega (arith, c.type_inv.body i)) (omega (arith, c.from_be_bytes.ensures))
    (ap trimmed (sym c.split_at.ensures.front) ∙ sym c.trimmed.ensures ∙ sym c.in_ok-copy_of.ensures)
    (ap (λ (t : List ℕ). trimmed (take 16 t)) (sym later) ∙ ap trimmed (sym c.split_at-2.ensures.front) ∙ sym c.trimmed-2.ensures ∙ sym c.in_ok-copy_of-2.ensures)
    (c.in_ok-copy_of-3.ensures ∙ c.split_at-3.ensures.front ∙ ap (take 32) last) in
    subst (λ (t : List ℕ). IsFront c.args.body.now (record { version = c.from_be_bytes.result; called = c.in_ok-copy_of.field-0; calling = c.in_ok-copy_of-2.field-0; reserved = c.in_ok-copy_of-3.field-0 }) t)
    (sym (c.split_at-3.ensures.back ∙ ap (drop 32) last)) it
