use Rattle.std.proofs.Common.{◌≡◌, ◌∙◌, ◌++◌, ◌∷◌, [], List, Option, cond, ap}
use Rattle.std.specs.FinMap as map
use Rattle.sqlite.specs.Held.{state}
use Rattle.sqlite.specs.Tree.{Trees}
use Rattle.dr_base.specs.Texts.{Text}
use Rattle.dr_ledger.specs.declared.item.Progress.{Progress}
use Rattle.dr_store_schema.specs.Books.{rows_of}
use Rattle.dr_store_calls.specs.Knowing.{chosen, is_chosen}
use Rattle.dr_store_calls.proofs.Calls.{asked_looked, looked_read}
use Rattle.dr_store_calls.proofs.Reading.{reads_as}
use Rattle.dr_store_calls.proofs.receiving.chosen_one.Goals as goal

pub returns-in-Ok-clause-looked : goal.returns-in-Ok-clause-looked
returns-in-Ok-clause-looked g c n part =
    let uid = c.args.uid.now in
    let dest = c.args.dest.now in
    let dests = c.args.dests in
    let dropped = c.args.dropped in
    let row = c.in-Ok.row in
    let one = c.is_such.result in
    let r = c.with_chosen.result in
    let old = state g.S.Store c.args.conn.now in
    let mid = state g.S.Store c.find_row.new.conn in
    let Shows : Trees → Option Progress → Type 0 = λ base o. o ≡ map.get (rows_of base) (uid, dest) in
    let P : List Text → Type 0 = λ all. all ≡ dests ++ cond one (dest ∷ []) [] in
    let Says : Trees → List Text → Type 0 = λ base all. all ≡ dests ++ chosen dropped (rows_of base) uid (dest ∷ []) in
    looked_read n part old mid Shows row r Says (asked_looked n part _ old mid Shows c.in-Ok.ensures.asked)
    (λ base shown. reads_as r P (Says base) (λ all is. is ∙ ap (λ b. dests ++ cond b (dest ∷ []) []) (c.is_such.ensures ∙ ap (is_chosen dropped) shown)) c.with_chosen.ensures)
