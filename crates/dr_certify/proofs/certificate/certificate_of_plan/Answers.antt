use Rattle.std.proofs.Common.{◌≡◌, ◌⊎◌, inl, inr, ◌∙◌}
use Rattle.dr_plan_model.specs.declared.plan.Format.{Format}
use Rattle.dr_plan_model.specs.declared.plan.Format.TheVariants.{One, Two, Three}
use Rattle.dr_certify.proofs.certificate.certificate_of_plan.Goals as goal

-- formats 1 and 2 aren't format 3
other : (format : Format) → (format ≡ One) ⊎ (format ≡ Two) → format ≡ Three → ⊥
other format some third = elim some [
  | inl one ↦ cc (one, third)
  | inr two ↦ cc (two, third)
]

pub returns-in-One : goal.returns-in-One
returns-in-One c = λ digest. c.found_of.ensures c.args.plan.now (λ third. other c.format.result c.in-One.is (c.format.ensures ∙ third)) (c.certify.ensures digest)
