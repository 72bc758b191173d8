use Rattle.std.proofs.Common.{◌∙◌, ◌++◌, ◌∷◌, [], List, ap, refl, subst, sym}
use Rattle.std.specs.Prelude.{IsSome, T}
use Rattle.std.specs.BTreeMap as tree
use Rattle.std.specs.FinMap.{is_sorted}
use Rattle.dr_base.specs.Texts.{Text, text_cmp}
use Rattle.dr_ledger_history.specs.declared.line.JournalLine.{JournalLine}
use Rattle.dr_ledger_memory.specs.Changes.{IsOneMore, at}
use Rattle.dr_ledger_memory.specs.Entries.{OwnRow}
use Rattle.dr_ledger.specs.Pairs.{Pair}
use Rattle.dr_ledger_memory.proofs.Steps.{rested}
use Rattle.dr_ledger_memory.proofs.Trees.{known_taken}
use Rattle.dr_ledger_memory.proofs.parts.Parts.bring_known.Goals as goal

pub take_rest-requires-clause-rows : goal.take_rest-requires-clause-rows
take_rest-requires-clause-rows c =
    let P : List OwnRow → Type 0 = λ es. T (is_sorted text_cmp es) in
    subst P (sym c.parted-arrival.ensures.rest.rows) c.requires.rows

pub take_rest-requires-clause-known : goal.take_rest-requires-clause-known
take_rest-requires-clause-known c =
    let P : Text → Type 0 = λ u. IsSome (tree.get text_cmp c.args.self.now.held u) in
    subst P (sym c.parted-arrival.ensures.rest.uid) c.requires.known

pub returns-in-Ok-clause-ok : goal.returns-in-Ok-clause-ok
returns-in-Ok-clause-ok c =
    let p = c.args.self.now in
    let new = c.args.new in
    let q = c.take_rest.new.self in
    let rest = c.parted-arrival.result.1 in
    let is = c.parted-arrival.ensures.rest in
    let t = rested p.held q.held new rest is c.take_rest.ensures.taken in
    let A : Pair → Type 0 = λ a. IsOneMore p.arrivals a c.put_arrival.new.arrivals in
    let S : _ → Type 0 = λ s. IsOneMore p.arrivals new.arrival s in
    record {
      after = t.1;
      taken = known_taken (at p.held new.uid) t.0 new.instance new.rows.items new.keep new.body t.1 t.2 t.3;
      held = t.4;
      arrivals = subst S (sym c.take_rest.ensures.arrivals) (subst A c.parted-arrival.ensures.arrival c.in-Ok.ensures.ok);
      notes = c.take_rest.ensures.notes ∙ ap (λ (n : JournalLine). p.notes.items ++ n ∷ []) is.note;
    }

pub returns-in-Err-clause-err : goal.returns-in-Err-clause-err
returns-in-Err-clause-err c = record { held = refl; arrivals = c.in-Err.ensures.err; notes = refl }
