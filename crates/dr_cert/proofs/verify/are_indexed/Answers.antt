use Rattle.std.proofs.Common.{◌≡◌, ℕ, ◌<◌, inl, inr, refl, sym, ◌∙◌, ap, subst, length, get_or, Contains, arith}
use Rattle.std.proofs.lemmas.Bool.{cases_lt}
use Rattle.std.proofs.lemmas.List.{get_or_default}
use Rattle.dr_plan_sound.specs.declared.certificate.Line.{Line}
use Rattle.dr_cert.proofs.verify.are_indexed.Goals as goal

pub loop-line-preserved : goal.loop-line-preserved
loop-line-preserved c = λ k d below. elim (cases_lt k c.loop-line.line-index) [
  | inl before ↦ c.loop-line.invariant k d before
  | inr now ↦
      let same : k ≡ c.loop-line.line-index = omega arith in
      let at : get_or c.args.lines.now k d ≡ c.line-item.result =
      ap (λ (n : ℕ). get_or c.args.lines.now n d) same ∙ (get_or_default c.args.lines.now c.loop-line.line-index d c.line-item.result c.loop-line-test.true ∙ sym c.line-item.is) in
      let Q : Line → Type 0 = λ l. Contains c.args.index.now l in
      subst Q (sym at) (c.is_indexed.ensures.0 c.if-not-is_indexed.false)
]

pub returns : goal.returns
returns c = (
  (λ h line among.
      let Q : Line → Type 0 = λ l. Contains c.args.index.now l in
      let n : among.0 < length c.args.lines.now = among.1 in
      subst Q among.2 (c.loop-line.invariant among.0 line (omega (arith, n, c.loop-line-test.false)))),
  (λ all. refl),
)
