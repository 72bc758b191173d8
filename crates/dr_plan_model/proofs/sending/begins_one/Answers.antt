use Rattle.std.proofs.Common.{◌≡◌, ℕ, ◌<◌, inl, inr, sym, ◌∙◌, ap, subst, [], length, get_or, arith}
use Rattle.std.proofs.lemmas.Bool.{cases_lt, false≢true}
use Rattle.std.proofs.lemmas.List.{get_or_default}
use Rattle.dr_base.specs.Texts.{Text, Begins}
use Rattle.dr_plan_model.proofs.sending.begins_one.Goals as goal

pub loop-prefix-preserved : goal.loop-prefix-preserved
loop-prefix-preserved c = λ k below begun. elim (cases_lt k c.loop-prefix.prefix-index) [
  | inl before ↦ c.loop-prefix.invariant k before begun
  | inr now ↦
      let same : k ≡ c.loop-prefix.prefix-index = omega (arith, below, now) in
      let at : get_or c.args.prefixes.now k [] ≡ c.prefix-item.result =
      ap (λ (n : ℕ). get_or c.args.prefixes.now n []) same ∙ (get_or_default c.args.prefixes.now c.loop-prefix.prefix-index [] c.prefix-item.result c.loop-prefix-test.true ∙ sym c.prefix-item.is) in
      let P : Text → Type 0 = λ t. Begins t c.args.value.now in
      false≢true (c.if-begins.ensures.1 (subst P at begun))
]

pub returns : goal.returns
returns c = (
  λ never. absurd (false≢true never),
  λ one.
      let k : ℕ = one.1.0 in
      let within : k < length c.args.prefixes.now = one.1.1 in
      let at : get_or c.args.prefixes.now k [] ≡ one.0 = get_or_default c.args.prefixes.now k [] one.0 within ∙ one.1.2 in
      let P : Text → Type 0 = λ t. Begins t c.args.value.now in
      absurd (c.loop-prefix.invariant k (omega (arith, within, c.loop-prefix-test.false)) (subst P (sym at) one.2)),
)
