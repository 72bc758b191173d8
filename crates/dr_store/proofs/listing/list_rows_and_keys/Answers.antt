use Rattle.std.proofs.Common.{◌≡◌, ◌∙◌, ℕ, List, Vec, Global, Ok, refl}
use Rattle.std.specs.FinMap as map
use Rattle.sqlite.specs.Held.{state}
use Rattle.sqlite.specs.Tree.{Trees}
use Rattle.dr_base.specs.Texts.{Text}
use Rattle.dr_route.specs.declared.key.Key.{Key}
use Rattle.dr_ledger.specs.declared.item.Progress.{Progress}
use Rattle.dr_ledger.specs.Pairs.{Pair}
use Rattle.dr_store_schema.specs.Books.{rows_of}
use Rattle.dr_store_lists.specs.Lists.{keys_of}
use Rattle.dr_store_calls.proofs.Calls.{asked_looked, looked_read}
use Rattle.dr_store.proofs.Looks.{failed_as, looked_both, of_ledger}
use Rattle.dr_store.proofs.listing.list_rows_and_keys.Goals as goal

pub returns-in-Ok-clause-looked : goal.returns-in-Ok-clause-looked
returns-in-Ok-clause-looked g c n part =
    let old = state g.S.Store c.args.conn.now in
    let mid = state g.S.Store c.all_rows.new.conn in
    let new = state g.S.Store c.with_keys.new.conn in
    let Shows : Trees → Vec (Pair × Progress) Global → Type 0 = λ base rows. rows.items ≡ map.entries (rows_of base) in
    let Then : Trees → Vec (Pair × Progress) Global × Vec (Text × Key) Global → Type 0 = λ base both. (both.0.items ≡ c.in-Ok.rows.items) × (both.1.items ≡ map.entries (keys_of base)) in
    let Says : Trees → Vec (Pair × Progress) Global × Vec (Text × Key) Global → Type 0 = λ base both. (both.0.items ≡ map.entries (rows_of base)) × (both.1.items ≡ map.entries (keys_of base)) in
    looked_both n part old mid new Shows c.in-Ok.rows c.with_keys.result Then Says (asked_looked n part _ old mid Shows (of_ledger _ old mid (Shows old.now.trees) c.in-Ok.ensures.asked)) (c.with_keys.ensures.looked n part)
    (λ base past l shown both then. (then.0 ∙ shown, then.1))

pub returns-in-Err-clause-looked : goal.returns-in-Err-clause-looked
returns-in-Err-clause-looked g c n part =
    let old = state g.S.Store c.args.conn.now in
    let new = state g.S.Store c.all_rows.new.conn in
    let Shows : Trees → Vec (Pair × Progress) Global → Type 0 = λ base rows. rows.items ≡ map.entries (rows_of base) in
    let Says : Trees → Vec (Pair × Progress) Global × Vec (Text × Key) Global → Type 0 = λ base both. (both.0.items ≡ map.entries (rows_of base)) × (both.1.items ≡ map.entries (keys_of base)) in
    failed_as n part c.in-Err.fault old new Shows Says (asked_looked n part _ old new Shows (of_ledger _ old new (Shows old.now.trees) c.in-Err.ensures.asked))
