use Rattle.std.proofs.Common.{arith, refl}
use Rattle.std.proofs.lemmas.Bool.{false≢true, leb-true, le-leb}
use Rattle.dr_plan_text.proofs.Ports.{no_address_without_colon, has_port, has_host, small_port, address, not_nil, is_nil}
use Rattle.dr_plan_text.proofs.forms.is_address.Goals as goal

pub returns-in_default : goal.returns-in_default
returns-in_default c = (λ h. absurd (false≢true h), λ is. absurd (no_address_without_colon c.args.text.now c.in_default.ensures.none is))

pub returns-in_default-port_of : goal.returns-in_default-port_of
returns-in_default-port_of c = (
  λ h. absurd (false≢true h),
  λ is. absurd (c.in_default-port_of.ensures (has_port c.args.text.now c.in-Some.host.now c.in-Some.digits.now c.in-Some.ensures.found is)),
)

pub returns-then-not-is_empty : goal.returns-then-not-is_empty
returns-then-not-is_empty c =
    let told = c.in-Some-port_of.ensures in (
      λ h. address c.args.text.now c.in-Some.host.now c.in-Some.digits.now c.in-Some.ensures.found told.0 (not_nil c.in-Some.host.now c.if-not-is_empty.ensures)
          (rw told.1 at (leb-true _ _ h)) (c.if-not-is_visible.ensures.0 refl) (omega arith),
      λ is. le-leb _ _ (rw told.1 (small_port c.args.text.now c.in-Some.host.now c.in-Some.digits.now c.in-Some.ensures.found is)),
    )

pub returns-else-not-is_empty : goal.returns-else-not-is_empty
returns-else-not-is_empty c = (
  λ h. absurd (false≢true (rw c.if-not-is_empty.false at h)),
  λ is. absurd (has_host c.args.text.now c.in-Some.host.now c.in-Some.digits.now c.in-Some.ensures.found is (is_nil c.in-Some.host.now c.if-not-is_empty.ensures)),
)
