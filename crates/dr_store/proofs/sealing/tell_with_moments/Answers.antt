use Rattle.std.proofs.Common.{◌≡◌, ◌∙◌, ℕ, List, Option, Vec, Global, subst}
use Rattle.std.specs.FinMap as map
use Rattle.sqlite.specs.Held.{state}
use Rattle.sqlite.specs.Tree.{Trees}
use Rattle.dr_store_past.specs.declared.lines.PastLine.{PastLine}
use Rattle.dr_store_moments.specs.Moments.{moments_of}
use Rattle.dr_store_calls.proofs.Calls.{asked_looked}
use Rattle.dr_store_calls.proofs.Reading.{reads_as}
use Rattle.dr_store.specs.Sealing.{HaveMoments, HaveMomentsOf}
use Rattle.dr_store.proofs.Looks.{failed_as, looked_more, of_ledger}
use Rattle.dr_store.proofs.sealing.tell_with_moments.Goals as goal

pub returns-in-Ok-clause-looked : goal.returns-in-Ok-clause-looked
returns-in-Ok-clause-looked g c n part =
    let lines = c.args.lines.items in
    let slice = c.as_slice.result.now in
    let r = c.with_moments.result in
    let old = state g.S.Store c.args.conn.now in
    let new = state g.S.Store c.all_moments.new.conn in
    let Shows : Trees → Vec (ℕ × Option ℕ) Global → Type 0 = λ base all. all.items ≡ map.entries (moments_of base) in
    let Says : Trees → Vec PastLine Global → Type 0 = λ base all. HaveMomentsOf base lines all.items in
    looked_more n part old new Shows c.in-Ok.moments r Says (asked_looked n part _ old new Shows (of_ledger _ old new (Shows old.now.trees) c.in-Ok.ensures.asked))
    (λ base past l shown. reads_as r (λ (all : Vec PastLine Global). HaveMoments lines slice all.items) (Says base)
    (λ all it. subst (λ (moments : List (ℕ × Option ℕ)). HaveMoments lines moments all.items) (c.as_slice.ensures.value ∙ shown) it) c.with_moments.ensures)

pub returns-in-Err-clause-looked : goal.returns-in-Err-clause-looked
returns-in-Err-clause-looked g c n part =
    let old = state g.S.Store c.args.conn.now in
    let new = state g.S.Store c.all_moments.new.conn in
    let Shows : Trees → Vec (ℕ × Option ℕ) Global → Type 0 = λ base all. all.items ≡ map.entries (moments_of base) in
    let Says : Trees → Vec PastLine Global → Type 0 = λ base all. HaveMomentsOf base c.args.lines.items all.items in
    failed_as n part c.in-Err.fault old new Shows Says (asked_looked n part _ old new Shows (of_ledger _ old new (Shows old.now.trees) c.in-Err.ensures.asked))
