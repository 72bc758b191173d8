use Rattle.std.proofs.Common.{◌≡◌, ◌≤◌, refl, subst, List, length, Bool, Some, true, arith}
use Rattle.std.specs.Prelude.{slice_get}
use Rattle.dr_cert.proofs.walker.Walker.has_all.Goals as goal

pub returns : goal.returns
returns c = (
  (λ all place h.
      let n = c.requires.long in
      let same = c.as_slice-mark-items.ensures.value in
      let P : List Bool → Type 0 = λ bs. slice_get bs place ≡ Some true in
      let Q : List Bool → Type 0 = λ bs. length bs ≤ c.loop-mark.mark-index in
      let high : length c.args.self.now.marks.items ≤ c.loop-mark.mark-index = subst Q same c.loop-mark-test.false in
      (c.requires.marked place).0 (subst P same (c.loop-mark.invariant place (omega (arith, n, high, h))))),
  (λ all. refl),
)
