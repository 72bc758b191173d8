use Rattle.std.proofs.Common.{◌≡◌, ◌+◌, List, [], ◌∷◌, drop, refl, subst, arith}
use Rattle.std.proofs.lemmas.List.{drop_all, drop_more}
use Rattle.dr_ledger_memory.specs.Entries.{OwnRow}
use Rattle.dr_ledger_memory.proofs.Fitting.{IsLeft, first_left, less_left, none_left}
use Rattle.dr_ledger_memory.proofs.ledger.unfit_row.Goals as goal

pub returns-then-is_unfit : goal.returns-then-is_unfit
returns-then-is_unfit c =
    let i = c.loop-row.row-index in
    let r = c.row-item.result in
    let rows = c.args.entry.now.rows.items in
    let items = c.deref-row-items.result.now in
    let e = drop_more items i r c.loop-row-test.true in
    let more : drop i items ≡ r ∷ drop (i + 1) items = rw (← c.row-item.is) at e in
    let P : List OwnRow → Type 0 = λ xs. drop i xs ≡ r ∷ drop (i + 1) xs in
    let split : drop i rows ≡ r ∷ drop (i + 1) rows = subst P c.deref-row-items.ensures.value more in
    let Q : List OwnRow → Type 0 = λ xs. IsLeft c.args.next.now.plan c.args.name.now c.args.entry.now xs in
    first_left c.args.next.now.plan c.args.name.now c.args.entry.now r (drop (i + 1) rows) (subst Q split c.loop-row.invariant) (c.if-is_unfit.ensures.unfit refl)

pub loop-row-preserved : goal.loop-row-preserved
loop-row-preserved c =
    let i = c.loop-row.row-index in
    let r = c.row-item.result in
    let rows = c.args.entry.now.rows.items in
    let items = c.deref-row-items.result.now in
    let e = drop_more items i r c.loop-row-test.true in
    let more : drop i items ≡ r ∷ drop (i + 1) items = rw (← c.row-item.is) at e in
    let P : List OwnRow → Type 0 = λ xs. drop i xs ≡ r ∷ drop (i + 1) xs in
    let split : drop i rows ≡ r ∷ drop (i + 1) rows = subst P c.deref-row-items.ensures.value more in
    let Q : List OwnRow → Type 0 = λ xs. IsLeft c.args.next.now.plan c.args.name.now c.args.entry.now xs in
    less_left c.args.next.now.plan c.args.name.now c.args.entry.now r (drop (i + 1) rows) (subst Q split c.loop-row.invariant) (c.if-is_unfit.ensures.fit refl)

pub returns : goal.returns
returns c =
    let i = c.loop-row.row-index in
    let items = c.deref-row-items.result.now in
    let none : drop i items ≡ [] = drop_all i items (omega (arith, c.loop-row-test.false)) in
    let P : List OwnRow → Type 0 = λ xs. drop i xs ≡ [] in
    let empty : drop i c.args.entry.now.rows.items ≡ [] = subst P c.deref-row-items.ensures.value none in
    let Q : List OwnRow → Type 0 = λ xs. IsLeft c.args.next.now.plan c.args.name.now c.args.entry.now xs in
    none_left c.args.next.now.plan c.args.name.now c.args.entry.now (subst Q empty c.loop-row.invariant)
