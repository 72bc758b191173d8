use Rattle.std.proofs.Common.{◌≡◌, ◌∙◌, ap, sym, subst, refl, ◌+◌, ◌++◌, ◌∷◌, [], List, take, drop}
use Rattle.std.proofs.lemmas.List.{append_assoc, take-append-drop, take_more}
use Rattle.dr_ledger_history.specs.declared.line.JournalLine.{JournalLine}
use Rattle.dr_run_serve.specs.Pasts.{HasNoted}
use Rattle.dr_run_serve.specs.declared.past.Past.{Past}
use Rattle.dr_run_serve.proofs.Noting.{one_noted, still_noted}
use Rattle.dr_run_serve.proofs.past.Past.note_page.Goals as goal

pub returns-in_err-note-clause-part : goal.returns-in_err-note-clause-part
returns-in_err-note-clause-part c = λ lines had.
    let i = c.loop-line.line-index in
    let page = c.args.page.now in
    (take i page, drop i page, sym (take-append-drop i page), still_noted (lines ++ take i page) c.loop-line.self c.note.new.self (c.loop-line.invariant lines had) c.in_err-note.ensures.count c.in_err-note.ensures.same)

pub loop-line-preserved : goal.loop-line-preserved
loop-line-preserved c = λ lines had.
    let i = c.loop-line.line-index in
    let page = c.args.page.now in
    let line = c.line-item.result in
    let more : lines ++ take i page ++ line ∷ [] ≡ lines ++ take (i + 1) page =
    append_assoc lines (take i page) (line ∷ []) ∙ ap (λ (ls : List JournalLine). lines ++ ls) (ap (λ (l : JournalLine). take i page ++ l ∷ []) c.line-item.is ∙ sym (take_more page i line c.loop-line-test.true)) in
    let new : Past = record { after = c.saturating_add-self.result; ends = c.note.new.self.ends; kept = c.note.new.self.kept } in
    subst (λ (ls : List JournalLine). HasNoted ls new) more
    (one_noted (lines ++ take i page) line c.loop-line.self c.note.new.self new (c.loop-line.invariant lines had) c.in_ok-note.ensures.count c.in_ok-note.ensures.known c.saturating_add-self.ensures (λ q. refl))
