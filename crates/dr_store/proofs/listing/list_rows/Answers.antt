use Rattle.std.proofs.Common.{◌≡◌, ℕ, List, Option, Ok, Err, Vec, Global, refl, sym, ap, subst, ◌∙◌, map as mapped}
use Rattle.sqlite.specs.Held.{state}
use Rattle.sqlite.specs.Tree.{Trees}
use Rattle.std.specs.FinMap as map
use Rattle.dr_ledger.specs.declared.item.Progress.{Progress}
use Rattle.dr_ledger.specs.Pairs.{Pair}
use Rattle.dr_store_schema.specs.Books.{rows_of}
use Rattle.dr_store_calls.proofs.Calls.{asked_looked, looked_read}
use Rattle.dr_store.proofs.Looks.{failed_as, of_ledger}
use Rattle.dr_store.proofs.listing.list_rows.Goals as goal

pub returns-in-Ok-clause-looked : goal.returns-in-Ok-clause-looked
returns-in-Ok-clause-looked g c n part =
    let old = state g.S.Store c.args.conn.now in
    let new = state g.S.Store c.all_rows.new.conn in
    let Shows : Trees → Vec (Pair × Progress) Global → Type 0 = λ base all. all.items ≡ map.entries (rows_of base) in
    let Says : Trees → List (Pair × Progress) → Type 0 = λ base all. all ≡ map.entries (rows_of base) in
    looked_read n part old new Shows c.in-Ok.all (Ok c.from_vec.result) Says (asked_looked n part _ old new Shows (of_ledger _ old new (Shows old.now.trees) c.in-Ok.ensures.asked))
    (λ base shown. c.from_vec.ensures ∙ shown)

pub returns-in-Err-clause-looked : goal.returns-in-Err-clause-looked
returns-in-Err-clause-looked g c n part =
    let old = state g.S.Store c.args.conn.now in
    let new = state g.S.Store c.all_rows.new.conn in
    let Shows : Trees → Vec (Pair × Progress) Global → Type 0 = λ base all. all.items ≡ map.entries (rows_of base) in
    let Says : Trees → List (Pair × Progress) → Type 0 = λ base all. all ≡ map.entries (rows_of base) in
    failed_as n part c.in-Err.fault old new Shows Says (asked_looked n part _ old new Shows (of_ledger _ old new (Shows old.now.trees) c.in-Err.ensures.asked))
