use Rattle.std.proofs.Common.{◌≡◌, ◌+◌, ◌∙◌, ◌++◌, ◌∷◌, [], ap, arith, List, sym, subst, take}
use Rattle.std.specs.Prelude.{map as mapped}
use Rattle.std.proofs.lemmas.List.{map_more, take_all}
use Rattle.dr_ledger.specs.Pairs.{Pair}
use Rattle.dr_ledger_history.specs.declared.line.JournalLine.{JournalLine}
use Rattle.dr_ledger_history.specs.Contents.{book_of, content}
use Rattle.dr_ledger_history.specs.Lines.{line_of}
use Rattle.dr_world_journals.specs.Hops.{goals, goals_by}
use Rattle.dr_world_audit.proofs.Stood.{AllStand, goals_push, more_stand}
use Rattle.dr_world_audit.proofs.standing.stand_all.Goals as goal

pub loop-line-preserved : goal.loop-line-preserved
loop-line-preserved c =
    let plan = c.args.ends.0.now.plan in
    let name = c.args.ends.1.now in
    let b = book_of (content c.args.told.now.parts) in
    let lines = c.args.lines.now in
    let i = c.loop-line.line-index in
    let line = c.line-item.result in
    let told = mapped line_of (take i lines) in
    let e = map_more line_of lines i line c.loop-line-test.true in
    let more : mapped line_of (take (i + 1) lines) ≡ told ++ line_of line ∷ [] = rw (← c.line-item.is) at e in
    let old = c.args.sent.now.items in
    let mid = c.loop-line.sent.items in
    let new = c.stand_line.new.sent.items in
    let Q : List Pair → Type 0 = λ gs. AllStand plan name b gs old new in
    subst Q (sym (ap goals more ∙ goals_push told (line_of line))) (more_stand plan name b (goals told) (goals_by (line_of line)) old mid new c.loop-line.invariant c.in-Ok.ensures)

pub returns : goal.returns
returns c =
    let plan = c.args.ends.0.now.plan in
    let name = c.args.ends.1.now in
    let b = book_of (content c.args.told.now.parts) in
    let P : List JournalLine → Type 0 = λ lines. AllStand plan name b (goals (mapped line_of lines)) c.args.sent.now.items c.loop-line.sent.items in
    subst P (take_all c.loop-line.line-index c.args.lines.now (omega (arith, c.loop-line-test.false))) c.loop-line.invariant
