use Rattle.std.specs.Prelude.{◌↔◌}
use Rattle.std.proofs.Common.{Contains, List, refl, subst, sym}
use Rattle.dr_base.specs.Texts.{Text, IsInByteOrder}
use Rattle.dr_site.specs.Routing.{SendsFrom}
use Rattle.dr_ledger_history.proofs.Planned.{differ, just_these, other_keep, same}
use Rattle.dr_ledger_history.proofs.site.is_arrival_by.Goals as goal

pub returns-then-keep-targets : goal.returns-then-keep-targets
returns-then-keep-targets c =
    let t = c.in_ok-targets.targets in
    other_keep c.args.site.now c.args.caller.now c.args.key.now c.args.to.now c.args.keep t.keep c.in_ok-targets.ensures.keep (differ c.args.keep t.keep c.if-keep-targets.true)

pub returns : goal.returns
returns c =
    let t = c.in_ok-targets.targets in
    let part = c.args.site.now in
    let e = c.in_ok-targets.ensures in
    let P : List Text → Type 0 = λ xs. (dest : Text) → Contains xs dest ↔ SendsFrom part c.args.caller.now c.args.key.now dest in
    let Q : List Text → Type 0 = λ xs. IsInByteOrder xs in
    just_these part c.args.caller.now c.args.key.now c.args.to.now c.as_slice.result.now c.args.keep t.keep c.are_same.result (c.if-not-has_line.ensures.0 refl)
    (subst P (sym c.as_slice.ensures) e.to) (subst Q (sym c.as_slice.ensures) e.ordered) e.keep (same c.args.keep t.keep c.if-keep-targets.false) c.are_same.ensures
