use Rattle.std.proofs.Common.{◌≡◌, ℕ, List, Option, Ok, Err, Vec, Global, refl, sym, ap, subst, ◌∙◌, map as mapped}
use Rattle.sqlite.specs.Held.{state}
use Rattle.sqlite.specs.Tree.{Trees}
use Rattle.std.specs.FinMap as map
use Rattle.dr_ledger.specs.Pairs.{Pair, pair_cmp}
use Rattle.dr_ledger.specs.Replies.{Lists}
use Rattle.dr_store_schema.specs.Books.{arrivals_in}
use Rattle.dr_store_calls.proofs.Calls.{asked_looked, looked_read}
use Rattle.dr_store.proofs.Looks.{failed_as, of_ledger}
use Rattle.dr_store.proofs.listing.list_arrivals.Goals as goal

pub returns-in-Ok-clause-looked : goal.returns-in-Ok-clause-looked
returns-in-Ok-clause-looked g c n part =
    let old = state g.S.Store c.args.conn.now in
    let new = state g.S.Store c.all_arrivals.new.conn in
    let Shows : Trees → Vec (Pair) Global → Type 0 = λ base all. Lists pair_cmp (arrivals_in (base 5)) all.items in
    let Says : Trees → List (Pair) → Type 0 = λ base all. Lists pair_cmp (arrivals_in (base 5)) all in
    looked_read n part old new Shows c.in-Ok.all (Ok c.from_vec.result) Says (asked_looked n part _ old new Shows (of_ledger _ old new (Shows old.now.trees) c.in-Ok.ensures.asked))
    (λ base shown. subst (Lists pair_cmp (arrivals_in (base 5))) (sym c.from_vec.ensures) shown)

pub returns-in-Err-clause-looked : goal.returns-in-Err-clause-looked
returns-in-Err-clause-looked g c n part =
    let old = state g.S.Store c.args.conn.now in
    let new = state g.S.Store c.all_arrivals.new.conn in
    let Shows : Trees → Vec (Pair) Global → Type 0 = λ base all. Lists pair_cmp (arrivals_in (base 5)) all.items in
    let Says : Trees → List (Pair) → Type 0 = λ base all. Lists pair_cmp (arrivals_in (base 5)) all in
    failed_as n part c.in-Err.fault old new Shows Says (asked_looked n part _ old new Shows (of_ledger _ old new (Shows old.now.trees) c.in-Err.ensures.asked))
