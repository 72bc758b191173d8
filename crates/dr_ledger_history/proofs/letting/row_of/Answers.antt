use Rattle.std.proofs.Common.{◌≡◌, ◌∙◌, ap, subst, sym, slice_get, Some}
use Rattle.std.specs.FinMap as map
use Rattle.dr_ledger.specs.Pairs.{Pair, pair_cmp}
use Rattle.dr_ledger_history.specs.Trees.{as_map}
use Rattle.dr_ledger_history.proofs.Leaving.{no_both, no_row_from, other_row_from, row_from}
use Rattle.dr_ledger_history.proofs.letting.row_of.Goals as goal

pub returns-in_default : goal.returns-in_default
returns-in_default c =
    no_row_from c.args.rows.now (c.in_ok-clone.field-0, c.empty.result) c.args.uid.now
    c.in_ok-clone.ensures c.empty.ensures c.range-rest.result (c.range-rest.ensures.in_range tt)
    c.in_default.ensures.steps.0

pub returns-then-is_of : goal.returns-then-is_of
returns-then-is_of c =
    let at = c.in-Some.at.now in
    let first = ap (λ r. slice_get r 0) c.in-Some.ensures.steps in
    let copy : ◌≡◌ {A = Pair} at (c.in_ok-uid.uid, c.in_ok-dest.dest) =
    λ j. (sym c.in_ok-uid.ensures j, sym c.in_ok-dest.ensures j) in
    let P : Pair → Type 0 = λ p. map.get (as_map pair_cmp c.args.rows.now) p ≡ Some c.in-Some.row.now in (
      c.in_ok-uid.ensures ∙ c.is_of.ensures.0 c.if-is_of.true,
      subst P copy (row_from c.args.rows.now (c.in_ok-clone.field-0, c.empty.result) c.args.uid.now
          c.in_ok-clone.ensures c.empty.ensures c.range-rest.result (c.range-rest.ensures.in_range tt)
          at c.in-Some.row.now first),
    )

pub returns : goal.returns
returns c =
    let first = ap (λ r. slice_get r 0) c.in-Some.ensures.steps in
    other_row_from c.args.rows.now (c.in_ok-clone.field-0, c.empty.result) c.args.uid.now
    c.in_ok-clone.ensures c.empty.ensures c.range-rest.result (c.range-rest.ensures.in_range tt)
    c.in-Some.at.now c.in-Some.row.now first
    (λ same. no_both _ (c.is_of.ensures.1 same) c.if-is_of.false)
