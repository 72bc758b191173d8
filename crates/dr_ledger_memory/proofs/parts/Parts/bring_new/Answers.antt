use Rattle.std.proofs.Common.{◌∙◌, ◌++◌, ◌∷◌, [], Option, Some, ap, subst, sym}
use Rattle.dr_base.specs.Texts.{Text}
use Rattle.dr_ledger.specs.Pairs.{Pair}
use Rattle.dr_ledger_history.specs.declared.line.JournalLine.{JournalLine}
use Rattle.dr_ledger_memory.specs.declared.held.Held.{Held as Entry}
use Rattle.dr_ledger_memory.specs.Changes.{IsOneMore, IsPutAt, IsSetAt, Tree}
use Rattle.dr_ledger_memory.specs.Entries.{IsTakenAgain}
use Rattle.dr_ledger_memory.proofs.Steps.{on_err}
use Rattle.dr_ledger_memory.proofs.Trees.{on_ok, put_at, undone}
use Rattle.dr_ledger_memory.proofs.parts.Parts.bring_new.Goals as goal

pub returns-in-Ok-clause-ok : goal.returns-in-Ok-clause-ok
returns-in-Ok-clause-ok c =
    let p = c.args.self.now in
    let new = c.args.new in
    let e = c.first_of-arrival.ensures in
    let r = c.first_of-arrival.result in
    let n = c.put_entry.new.held in
    let q = c.arrive.new.self in
    let K : Option Entry → Type 0 = λ o. IsTakenAgain o new.instance new.rows.items new.keep new.body r.2 in
    let U : Text → Type 0 = λ u. IsSetAt p.held u (Some r.2) n in
    let H : Tree → Type 0 = λ t. IsPutAt p.held new.uid r.2 t in
    let A : Pair → Type 0 = λ a. IsOneMore p.arrivals a q.arrivals in
    on_ok c.arrive.result
    (λ a. record {
      after = r.2;
      taken = subst K (sym c.requires.unknown) e.entry;
      held = subst H (sym a.held) (put_at p.held n new.uid r.2 (subst U e.uid c.in-Ok.ensures.ok));
      arrivals = subst A e.arrival a.arrivals;
      notes = a.notes ∙ ap (λ (l : JournalLine). p.notes.items ++ l ∷ []) e.note;
    })
    c.arrive.ensures.ok

pub returns-in-Ok-clause-err : goal.returns-in-Ok-clause-err
returns-in-Ok-clause-err c =
    let p = c.args.self.now in
    let new = c.args.new in
    let e = c.first_of-arrival.ensures in
    let r = c.first_of-arrival.result in
    let n = c.put_entry.new.held in
    let q = c.arrive.new.self in
    let U : Text → Type 0 = λ u. IsSetAt p.held u (Some r.2) n in
    on_err c.arrive.result
    (λ t. record {
      held = undone p.held n q.held new.uid r.0.1 r.2 (ap (λ (k : Pair). k.1) e.arrival ∙ c.requires.own) c.requires.unknown (subst U e.uid c.in-Ok.ensures.ok) t.held
          c.put_entry.ensures.was_ordered (c.arrive.ensures.ordered c.put_entry.ensures.ordered);
      arrivals = t.arrivals;
      notes = t.notes;
    })
    c.arrive.ensures.err

pub returns-in-Ok-clause-ordered : goal.returns-in-Ok-clause-ordered
returns-in-Ok-clause-ordered c = λ h. c.arrive.ensures.ordered c.put_entry.ensures.ordered
