use Rattle.std.proofs.Common.{◌≡◌, ◌∷◌, [], ◌++◌, ◌+◌, arith, All, Bool, subst, sym, take}
use Rattle.std.proofs.lemmas.List.{take_all, take_more}
use Rattle.std.proofs.lemmas.List.Elements.{All-push}
use Rattle.dr_base.specs.Texts.{Text}
use Rattle.dr_word_adopt.specs.Beginnings.{HasNoFile, IsRefusedFor, path_in}
use Rattle.dr_word_adopt.proofs.Begun.{unopened_refused}
use Rattle.dr_word_adopt.proofs.beginning.test_none.Goals as goal

pub loop-name-preserved : goal.loop-name-preserved
loop-name-preserved g c =
    let all = c.args.names.now in
    let i = c.loop-name.name-index in
    let one = c.name-item.result in
    let P : Text → Type 0 = HasNoFile (g.O.ShowsFiles.shows c.args.ledgers.now) c.args.folder.now in
    let e = take_more all i one c.loop-name-test.true in
    let more : take (i + 1) all ≡ take i all ++ one ∷ [] = rw (← c.name-item.is) at e in
    let shown = subst (λ (b : Bool). g.O.ShowsFiles.shows c.args.ledgers.now (path_in c.args.folder.now one) b) c.in-Ok-false.field-0-test c.in-Ok-false.ensures in
    subst (All P) (sym more) (All-push P (take i all) one c.loop-name.invariant shown)

pub returns : goal.returns
returns g c = subst (All (HasNoFile (g.O.ShowsFiles.shows c.args.ledgers.now) c.args.folder.now)) (take_all c.loop-name.name-index c.args.names.now (omega (arith, c.loop-name-test.false))) c.loop-name.invariant

pub returns-in-Ok-true : goal.returns-in-Ok-true
returns-in-Ok-true g c = subst (IsRefusedFor c.args.names.now) (sym c.at.ensures) (c.name-item.result, (c.loop-name.name-index, c.loop-name-test.true, sym c.name-item.is))

pub returns-in-Err : goal.returns-in-Err
returns-in-Err g c = subst (IsRefusedFor c.args.names.now) (sym c.at-in-Err.ensures) (unopened_refused c.args.names.now c.name-item.result c.in-Err.halt (c.loop-name.name-index, c.loop-name-test.true, sym c.name-item.is) c.in-Err.ensures)
