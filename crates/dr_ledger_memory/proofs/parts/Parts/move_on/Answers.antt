use Rattle.std.proofs.Common.{◌∙◌, ap, refl, sym}
use Rattle.std.specs.FinMap.{find}
use Rattle.dr_base.specs.Texts.{text_cmp}
use Rattle.dr_ledger_memory.specs.Entries.{row_in}
use Rattle.dr_ledger_memory.proofs.Trees.{covers_put, moved_own}
use Rattle.dr_ledger_memory.proofs.parts.Parts.move_on.Goals as goal

pub returns-clause-moved : goal.returns-clause-moved
returns-clause-moved c = record { held = c.move_row.ensures.moved; arrivals = λ key. refl; notes = c.write.ensures }

pub returns-clause-covers : goal.returns-clause-covers
returns-clause-covers c = λ h.
    let p = c.args.self.now in
    let m = c.move_row.ensures.moved in
    let uid = c.args.uid.now in
    c.forget.ensures (covers_put p.waiting p.waiting p.held c.move_row.new.held uid m.1 (λ key has. has) m.4 (λ d tries due f.
    moved_own p.waiting p.waiting uid c.args.dest.now c.args.progress m.0.rows.items (λ key has. has) c.requires.expected
    (λ e t u g. h uid e t u (ap (λ o. row_in o e) m.2 ∙ g))
    d tries due (ap (find text_cmp d) (sym m.3.rows_are) ∙ f)) h)
