use Rattle.std.proofs.Common.{◌≡◌, ◌∙◌, ℕ, List, Vec, Global}
use Rattle.std.specs.FinMap as map
use Rattle.sqlite.specs.Held.{state}
use Rattle.sqlite.specs.Tree.{Trees}
use Rattle.dr_base.specs.Texts.{Text, text_cmp}
use Rattle.dr_ledger.specs.Replies.{AreKept, Lists}
use Rattle.dr_store_schema.specs.Books.{all_kept_in, book_of}
use Rattle.dr_store_lists.specs.Lists.{whole_prints_of}
use Rattle.dr_store_reads.specs.declared.finding.Print.{Print}
use Rattle.dr_store_calls.proofs.Calls.{asked_looked}
use Rattle.dr_store_calls.proofs.Reading.{reads_as}
use Rattle.dr_store.specs.Listing.{AreSized}
use Rattle.dr_store.proofs.Looks.{failed_as, looked_more, of_ledger}
use Rattle.dr_store.proofs.Sizes.{sizes}
use Rattle.dr_store.proofs.listing.list_sizes.Goals as goal

pub returns-in-Ok-clause-looked : goal.returns-in-Ok-clause-looked
returns-in-Ok-clause-looked g c n part =
    let kept = c.args.kept.now in
    let prints = c.as_slice.result.now in
    let r = c.with_sizes.result in
    let old = state g.S.Store c.args.conn.now in
    let new = state g.S.Store c.all_prints.new.conn in
    let Shows : Trees → Vec (Text × Print) Global → Type 0 = λ base all. all.items ≡ map.entries (whole_prints_of base) in
    let Says : Trees → List (Text × ℕ) → Type 0 = λ base all. Lists text_cmp (all_kept_in (base 7)) kept → AreKept (book_of base) all in
    looked_more n part old new Shows c.in-Ok.prints r Says (asked_looked n part _ old new Shows (of_ledger _ old new (Shows old.now.trees) c.in-Ok.ensures.asked))
    (λ base past l shown. reads_as r (AreSized prints kept) (Says base) (λ all z listed. sizes n part base l kept prints all (c.as_slice.ensures.value ∙ shown) z listed) c.with_sizes.ensures)

pub returns-in-Err-clause-looked : goal.returns-in-Err-clause-looked
returns-in-Err-clause-looked g c n part =
    let kept = c.args.kept.now in
    let old = state g.S.Store c.args.conn.now in
    let new = state g.S.Store c.all_prints.new.conn in
    let Shows : Trees → Vec (Text × Print) Global → Type 0 = λ base all. all.items ≡ map.entries (whole_prints_of base) in
    let Says : Trees → List (Text × ℕ) → Type 0 = λ base all. Lists text_cmp (all_kept_in (base 7)) kept → AreKept (book_of base) all in
    failed_as n part c.in-Err.fault old new Shows Says (asked_looked n part _ old new Shows (of_ledger _ old new (Shows old.now.trees) c.in-Err.ensures.asked))
