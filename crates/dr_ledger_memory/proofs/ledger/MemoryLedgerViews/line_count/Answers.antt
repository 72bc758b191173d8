use Rattle.std.proofs.Common.{◌∙◌, Ok, refl, sym}
use Rattle.std.proofs.lemmas.List.{length-map}
use Rattle.dr_ledger_history.specs.Lines.{line_of}
use Rattle.dr_ledger_memory.proofs.Always.{counts, lasts}
use Rattle.dr_ledger_memory.proofs.ledger.MemoryLedgerViews.line_count.Goals as goal

-- by hand: the search loses itself in what the trait asks
pub returns : goal.returns
returns c =
    record {
      reply = λ holds. c.count_lines.ensures ∙ sym (length-map c.args.self.now.parts.notes.items line_of);
      same = λ holds. (refl, refl);
      counts = counts (Ok c.count_lines.result) tt;
      armed = refl;
      stood = λ holds. holds;
      lasts = lasts (Ok c.count_lines.result);
      site = refl;
    }
