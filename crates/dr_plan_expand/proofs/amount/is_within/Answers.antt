use Rattle.std.proofs.Common.{◌≡◌, ◌+◌, ◌<◌, arith, refl, subst}
use Rattle.std.proofs.lemmas.Bool.{false≢true}
use Rattle.dr_plan_expand.specs.Meanings.{Lookups, lookups_of}
use Rattle.dr_plan_expand.specs.Amounts.{plan_size, most}
use Rattle.dr_plan_expand.proofs.amount.is_within.Goals as goal

pub returns-in-Some : goal.returns-in-Some
returns-in-Some c = (
  λ h. (
      let P : Lookups → Type 0 = λ l. plan_size l c.args.short.now + c.in-Some.field-0 ≡ most in
      let all : P (lookups_of c.args.short.now) = subst P c.tables_of-tables.ensures c.in-Some.ensures in
      omega arith),
  λ within. refl,
)

pub returns-in-None : goal.returns-in-None
returns-in-None c = (
  λ h. absurd (false≢true h),
  λ within. absurd (
      let P : Lookups → Type 0 = λ l. most < plan_size l c.args.short.now in
      let over : P (lookups_of c.args.short.now) = subst P c.tables_of-tables.ensures c.in-None.ensures in
      omega arith),
)
