use Rattle.std.proofs.Common.{◌≡◌, ◌+◌, ◌++◌, ◌∷◌, ◌∙◌, [], List, ap, subst, take, sym}
use Rattle.std.proofs.lemmas.List.{take_more}
use Rattle.dr_store_audit.specs.Journal.{lines_told}
use Rattle.dr_store_audit.proofs.Journals.{lines_join}
use Rattle.dr_ledger.specs.Books.{Fold, Line}
use Rattle.dr_ledger.specs.Histories.{IsHistory}
use Rattle.dr_ledger.specs.SiteRoutes.{site_routing}
use Rattle.dr_store_audit.proofs.Split.{history_told}
use Rattle.dr_store_audit.proofs.Told.{behind, since_alike}
use Rattle.dr_store_audit.proofs.telling.tell_all_since.Goals as goal

pub loop-entry-preserved : goal.loop-entry-preserved
loop-entry-preserved c =
    let goals = c.args.goals.now in
    let notes = c.args.notes.now in
    let i = c.loop-entry.entry-index in
    let entry = c.entry-item.result in
    let before = lines_told goals (take i notes) in
    let e = take_more notes i entry c.loop-entry-test.true in
    let more : take (i + 1) notes ≡ take i notes ++ entry ∷ [] = rw (← c.entry-item.is) at e in
    let lines = ap (lines_told goals) more ∙ lines_join goals (take i notes) (entry ∷ []) ∙ ap (λ line. before ++ line ∷ []) (sym c.in_ok-line.ensures) in
    λ past earlier told. since_alike (behind earlier before _ lines) (c.in-Ok.ensures past (earlier ++ before) (c.loop-entry.invariant past earlier told))

pub returns-in-Err : goal.returns-in-Err
returns-in-Err c past earlier other told history =
    let routing = site_routing c.args.site.now in
    let goals = c.args.goals.now in
    let notes = c.args.notes.now in
    let i = c.loop-entry.entry-index in
    let entry = c.entry-item.result in
    let before = lines_told goals (take i notes) in
    let e = take_more notes i entry c.loop-entry-test.true in
    let more : take (i + 1) notes ≡ take i notes ++ entry ∷ [] = rw (← c.entry-item.is) at e in
    let lines = ap (lines_told goals) more ∙ lines_join goals (take i notes) (entry ∷ []) ∙ ap (λ line. before ++ line ∷ []) (sym c.in_ok-line.ensures) in
    c.in-Err.ensures past (earlier ++ before) other (c.loop-entry.invariant past earlier told) (subst (λ (all : List Line). IsHistory routing all (Fold past)) (behind earlier before _ lines) (history_told routing earlier goals notes (i + 1) (Fold past) history))
