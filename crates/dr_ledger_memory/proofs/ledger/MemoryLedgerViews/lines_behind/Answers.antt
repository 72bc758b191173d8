use Rattle.std.proofs.Common.{◌≡◌, ◌-◌, ◌∙◌, List, drop, take, map as mapped, refl, sym, ap}
use Rattle.std.proofs.lemmas.List.{drop-map, take-map}
use Rattle.dr_ledger.specs.Books.{Line}
use Rattle.dr_ledger_history.specs.Lines.{line_of}
use Rattle.dr_ledger_history.specs.declared.line.JournalLine.{JournalLine}
use Rattle.dr_ledger_views.specs.Numbers.{AreBehind, counted, last_of}
use Rattle.dr_ledger_views.proofs.Numbered.{page_is}
use Rattle.dr_ledger_memory.proofs.Always.{counts, lasts, reads_as, shown_never}
use Rattle.dr_ledger_memory.proofs.ledger.MemoryLedgerViews.lines_behind.Goals as goal

-- by hand: the search loses itself in what the trait asks
pub returns : goal.returns
returns c =
    let e = c.some_lines.ensures in
    let r = c.some_lines.result in
    let after = c.args.after in
    let last = last_of after c.args.limit in
    let notes = c.args.self.now.parts.notes.items in
    record {
      reply = λ holds. reads_as r (λ (page : List JournalLine). page ≡ take (last - after) (drop after notes))
          (λ (page : List JournalLine). AreBehind after c.args.limit (counted 0 (mapped line_of notes)) (mapped line_of page))
          (λ page is.
          ap (λ (ls : List JournalLine). counted after (mapped line_of ls)) is
          ∙ ap (counted after) (sym (take-map line_of (last - after) (drop after notes)) ∙ ap (take (last - after)) (sym (drop-map line_of after notes)))
          ∙ page_is after last (mapped line_of notes)) e;
      numbered = refl;
      same = λ holds. (refl, refl);
      counts = counts r (shown_never r _ e);
      armed = refl;
      stood = λ holds. holds;
      lasts = lasts r;
      site = refl;
    }
