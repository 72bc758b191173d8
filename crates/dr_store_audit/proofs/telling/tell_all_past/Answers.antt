use Rattle.std.proofs.Common.{◌≡◌, ◌+◌, ◌++◌, ◌∷◌, ◌∙◌, [], List, ap, subst, take, sym}
use Rattle.std.proofs.lemmas.List.{take_more}
use Rattle.dr_store_audit.specs.Journal.{lines_told}
use Rattle.dr_store_audit.proofs.Journals.{lines_join}
use Rattle.dr_ledger.specs.Books.{Line, empty_book}
use Rattle.dr_ledger.specs.Histories.{IsPast}
use Rattle.dr_store_audit.proofs.Split.{past_told}
use Rattle.dr_store_audit.proofs.Told.{behind, told_alike}
use Rattle.dr_store_audit.proofs.telling.tell_all_past.Goals as goal

pub loop-entry-preserved : goal.loop-entry-preserved
loop-entry-preserved c =
    let goals = c.args.goals.now in
    let notes = c.args.notes.now in
    let i = c.loop-entry.entry-index in
    let entry = c.entry-item.result in
    let before = lines_told goals (take i notes) in
    let e = take_more notes i entry c.loop-entry-test.true in
    let more : take (i + 1) notes ≡ take i notes ++ entry ∷ [] = rw (← c.entry-item.is) at e in
    let lines = ap (lines_told goals) more ∙ lines_join goals (take i notes) (entry ∷ []) ∙ ap (λ line. before ++ line ∷ []) (sym c.in_ok-line.ensures) in
    λ begun is. told_alike (behind begun before _ lines) (c.in-Ok.ensures (begun ++ before) (c.loop-entry.invariant begun is))

pub returns-in-Err : goal.returns-in-Err
returns-in-Err c begun other is past =
    let goals = c.args.goals.now in
    let notes = c.args.notes.now in
    let i = c.loop-entry.entry-index in
    let entry = c.entry-item.result in
    let before = lines_told goals (take i notes) in
    let e = take_more notes i entry c.loop-entry-test.true in
    let more : take (i + 1) notes ≡ take i notes ++ entry ∷ [] = rw (← c.entry-item.is) at e in
    let lines = ap (lines_told goals) more ∙ lines_join goals (take i notes) (entry ∷ []) ∙ ap (λ line. before ++ line ∷ []) (sym c.in_ok-line.ensures) in
    c.in-Err.ensures (begun ++ before) other (c.loop-entry.invariant begun is) (subst (λ (all : List Line). IsPast all empty_book) (behind begun before _ lines) (past_told begun goals notes (i + 1) empty_book past))
