use Rattle.std.proofs.Common.{◌≡◌, ℕ, List, Vec, Global, sym, subst}
use Rattle.sqlite.specs.Held.{state}
use Rattle.sqlite.specs.Tree.{Trees}
use Rattle.dr_base.specs.Texts.{Text, text_cmp}
use Rattle.dr_ledger.specs.Replies.{AreKept, Lists}
use Rattle.dr_store_schema.specs.Books.{all_kept_in, book_of}
use Rattle.dr_store_calls.proofs.Calls.{asked_looked}
use Rattle.dr_store.proofs.Looks.{failed_as, looked_both, of_ledger}
use Rattle.dr_store.proofs.listing.list_kept.Goals as goal

pub returns-in-Ok-clause-looked : goal.returns-in-Ok-clause-looked
returns-in-Ok-clause-looked g c n part =
    let old = state g.S.Store c.args.conn.now in
    let mid = state g.S.Store c.all_kept.new.conn in
    let new = state g.S.Store c.list_sizes.new.conn in
    let Shows : Trees → Vec Text Global → Type 0 = λ base kept. Lists text_cmp (all_kept_in (base 7)) kept.items in
    let Then : Trees → List (Text × ℕ) → Type 0 = λ base all. Lists text_cmp (all_kept_in (base 7)) c.as_slice.result.now → AreKept (book_of base) all in
    let Says : Trees → List (Text × ℕ) → Type 0 = λ base. AreKept (book_of base) in
    looked_both n part old mid new Shows c.in-Ok.kept c.list_sizes.result Then Says (asked_looked n part _ old mid Shows (of_ledger _ old mid (Shows old.now.trees) c.in-Ok.ensures.asked)) (c.list_sizes.ensures.looked n part)
    (λ base past l shown all then. then (subst (Lists text_cmp (all_kept_in (base 7))) (sym c.as_slice.ensures.value) shown))

pub returns-in-Err-clause-looked : goal.returns-in-Err-clause-looked
returns-in-Err-clause-looked g c n part =
    let old = state g.S.Store c.args.conn.now in
    let new = state g.S.Store c.all_kept.new.conn in
    let Shows : Trees → Vec Text Global → Type 0 = λ base kept. Lists text_cmp (all_kept_in (base 7)) kept.items in
    let Says : Trees → List (Text × ℕ) → Type 0 = λ base. AreKept (book_of base) in
    failed_as n part c.in-Err.fault old new Shows Says (asked_looked n part _ old new Shows (of_ledger _ old new (Shows old.now.trees) c.in-Err.ensures.asked))
