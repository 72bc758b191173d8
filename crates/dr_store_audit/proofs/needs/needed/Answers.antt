use Rattle.std.proofs.Common.{◌≡◌, ◌+◌, ◌⊎◌, ◌∷◌, drop, subst, sym, true}
use Rattle.std.specs.Prelude.{◌↔◌}
use Rattle.std.proofs.lemmas.List.{drop_more}
use Rattle.dr_ledger.specs.Books.{is_queued}
use Rattle.dr_store_audit.specs.Needs.{IsOpenIn}
use Rattle.dr_store_audit.proofs.Adding.{first_open, moved_over}
use Rattle.dr_store_audit.proofs.needs.needed.Goals as goal

pub loop-row-preserved : goal.loop-row-preserved
loop-row-preserved c = λ q.
    let rows = c.args.rows.now in
    let i = c.loop-row.row-index in
    let row = c.row-item.result in
    let e = drop_more rows i row c.loop-row-test.true in
    let more : drop i rows ≡ row ∷ drop (i + 1) rows = rw (← c.row-item.is) at e in
    moved_over (c.loop-row.invariant q) (c.in_ok-add_open.ensures q) (subst (λ xs. IsOpenIn xs q ↔ (((q ≡ row.0.0) × (is_queued row.1 ≡ true)) ⊎ IsOpenIn (drop (i + 1) rows) q)) (sym more) (first_open row (drop (i + 1) rows) q))
