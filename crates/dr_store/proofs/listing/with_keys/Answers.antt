use Rattle.std.proofs.Common.{◌≡◌, ◌∙◌, ℕ, List, Vec, Global, Ok, refl}
use Rattle.std.specs.FinMap as map
use Rattle.sqlite.specs.Held.{state}
use Rattle.sqlite.specs.Tree.{Trees}
use Rattle.dr_base.specs.Texts.{Text}
use Rattle.dr_route.specs.declared.key.Key.{Key}
use Rattle.dr_ledger.specs.declared.item.Progress.{Progress}
use Rattle.dr_ledger.specs.Pairs.{Pair}
use Rattle.dr_store_schema.specs.Books.{rows_of}
use Rattle.dr_store_lists.specs.Lists.{keys_of}
use Rattle.dr_store_calls.proofs.Calls.{asked_looked, looked_read}
use Rattle.dr_store.proofs.Looks.{failed_as, looked_both, of_ledger}
use Rattle.dr_store.proofs.listing.with_keys.Goals as goal

pub returns-in-Ok-clause-looked : goal.returns-in-Ok-clause-looked
returns-in-Ok-clause-looked g c n part =
    let rows = c.args.rows in
    let old = state g.S.Store c.args.conn.now in
    let new = state g.S.Store c.all_keys.new.conn in
    let Shows : Trees → Vec (Text × Key) Global → Type 0 = λ base keys. keys.items ≡ map.entries (keys_of base) in
    let Says : Trees → Vec (Pair × Progress) Global × Vec (Text × Key) Global → Type 0 = λ base both. (both.0.items ≡ rows.items) × (both.1.items ≡ map.entries (keys_of base)) in
    looked_read n part old new Shows c.in-Ok.keys (Ok (rows, c.in-Ok.keys)) Says (asked_looked n part _ old new Shows (of_ledger _ old new (Shows old.now.trees) c.in-Ok.ensures.asked)) (λ base shown. (refl, shown))

pub returns-in-Err-clause-looked : goal.returns-in-Err-clause-looked
returns-in-Err-clause-looked g c n part =
    let rows = c.args.rows in
    let old = state g.S.Store c.args.conn.now in
    let new = state g.S.Store c.all_keys.new.conn in
    let Shows : Trees → Vec (Text × Key) Global → Type 0 = λ base keys. keys.items ≡ map.entries (keys_of base) in
    let Says : Trees → Vec (Pair × Progress) Global × Vec (Text × Key) Global → Type 0 = λ base both. (both.0.items ≡ rows.items) × (both.1.items ≡ map.entries (keys_of base)) in
    failed_as n part c.in-Err.fault old new Shows Says (asked_looked n part _ old new Shows (of_ledger _ old new (Shows old.now.trees) c.in-Err.ensures.asked))
