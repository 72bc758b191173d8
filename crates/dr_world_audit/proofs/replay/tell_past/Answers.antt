use Rattle.std.proofs.Common.{◌≡◌, ◌+◌, ◌∙◌, ◌++◌, ◌∷◌, [], ap, drop, take, subst}
use Rattle.std.specs.Prelude.{map as mapped, Err}
use Rattle.std.proofs.lemmas.List.{map_more}
use Rattle.dr_ledger_history.specs.declared.line.JournalLine.{JournalLine}
use Rattle.dr_ledger_history.specs.Lines.{line_of}
use Rattle.dr_ledger_history.specs.Told.{Tells}
use Rattle.dr_world_audit.proofs.Replaying.{begins, past_ends}
use Rattle.dr_world_audit.proofs.replay.tell_past.Goals as goal

pub returns-in-Err : goal.returns-in-Err
returns-in-Err c =
    let lines = c.args.lines.now in
    let i = c.loop-line.line-index in
    let line = c.line-item.result in
    let told = mapped line_of (take i lines) in
    let e = map_more line_of lines i line c.loop-line-test.true in
    let more : mapped line_of (take (i + 1) lines) ≡ told ++ line_of line ∷ [] = rw (← c.line-item.is) at e in
    let rest = mapped line_of (drop (i + 1) lines) in
    let P : JournalLine → Type 0 = λ l. Tells told (line_of l) (Err c.in-Err.fault) in
    past_ends c.in-Err.fault told rest (mapped line_of lines) (line_of line) (begins lines (i + 1) ∙ ap (λ ls. ls ++ rest) more) (subst P c.in_ok-copy_line.ensures (c.in-Err.ensures told c.loop-line.invariant))
