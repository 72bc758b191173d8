use Rattle.std.proofs.Common.{◌≡◌, Bool, true, false, All, Some, arith, refl, sym, subst}
use Rattle.std.proofs.lemmas.List.{take_all}
use Rattle.std.proofs.lemmas.List.Elements.{All-more, at_read}
use Rattle.dr_ledger.specs.declared.item.Progress.{Progress}
use Rattle.dr_ledger.specs.Pairs.{Pair}
use Rattle.dr_store.specs.Listing.{FitsAmong, IsUnfitAmong, UnfitsAmong}
use Rattle.dr_store.proofs.listing.unfit_among.Goals as goal

pub loop-row-preserved : goal.loop-row-preserved
loop-row-preserved c =
    let plan = c.args.next.now.plan in
    let name = c.args.name.now in
    let keys = c.args.keys.now in
    let row = c.row-item.result in
    let P : Bool → Type 0 = λ b. IsUnfitAmong plan name keys row b in
    let Fits : Pair × Progress → Type 0 = λ r. FitsAmong plan name keys r in
    All-more Fits c.args.rows.now c.loop-row.row-index row c.loop-row-test.true c.loop-row.invariant (subst Fits c.row-item.is (subst P c.if-branch.false c.in_ok-is_unfit.ensures))

pub returns-then-branch : goal.returns-then-branch
returns-then-branch c =
    let plan = c.args.next.now.plan in
    let name = c.args.name.now in
    let keys = c.args.keys.now in
    let rows = c.args.rows.now in
    let i = c.loop-row.row-index in
    let row = c.row-item.result in
    let P : Bool → Type 0 = λ b. IsUnfitAmong plan name keys row b in
    let R : Pair → Type 0 = λ at. UnfitsAmong plan name rows keys (Some at) in
    let Here : Pair × Progress → Type 0 = λ r. r ≡ row in
    subst R (λ j. (sym c.in_ok-clone.ensures j, sym c.in_ok-clone-2.ensures j))
    (i, (row.1, (c.loop-row-test.true, (at_read rows Here i row c.loop-row-test.true c.row-item.is refl, (c.loop-row.invariant, subst P c.if-branch.true c.in_ok-is_unfit.ensures)))))

pub returns : goal.returns
returns c =
    let Fits : Pair × Progress → Type 0 = λ r. FitsAmong c.args.next.now.plan c.args.name.now c.args.keys.now r in
    subst (All Fits) (take_all c.loop-row.row-index c.args.rows.now (omega (arith, c.loop-row-test.false))) c.loop-row.invariant
