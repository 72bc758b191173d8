use Rattle.std.proofs.Common.{◌≡◌, true, Ok, Err}
use Rattle.std.specs.FinSet as set
use Rattle.sqlite.specs.Held.{state}
use Rattle.sqlite.specs.Tree.{Trees}
use Rattle.dr_ledger.specs.declared.item.Arrived.{Arrived}
use Rattle.dr_ledger.specs.declared.item.Arrived.TheVariants.{Again}
use Rattle.dr_store_schema.specs.Books.{arrivals_in}
use Rattle.dr_store_writes.specs.Effects.{arrived_line}
use Rattle.dr_store_changes.specs.Changes.{AddsOnlyLine}
use Rattle.dr_store_calls.specs.Knowing.{IsThere}
use Rattle.dr_store_calls.specs.Receiving.{AcceptsAs, AnswersWith, ComesNone}
use Rattle.dr_store_calls.proofs.Calls.{below_of, made_called, unmade_called}
use Rattle.dr_store_calls.proofs.Takings.{refused, repeats}
use Rattle.dr_store_calls.proofs.arriving.repeat.Goals as goal

pub invariant_of-change : goal.invariant_of-change
invariant_of-change g c = record { size = c.requires.delivered.size }

pub returns-in-Ok-clause-called : goal.returns-in-Ok-clause-called
returns-in-Ok-clause-called g c =
    let n = c.args.came.now.n in
    let part = c.args.came.now.site.now in
    let caller = c.args.came.now.caller.now in
    let item = c.args.came.now.instance.now in
    let old = state g.S.Store c.args.conn.now in
    let new = state g.S.Store c.written.new.conn in
    let Line : Trees → Trees → Type 0 = AddsOnlyLine (arrived_line n c.args.came.now.moment 1 caller item) in
    let Asks : Trees → Type 0 = λ base. IsThere base item c.args.whole × (set.contains (arrivals_in (base 5)) (caller, item.uid) ≡ true) in
    let Answers : Trees → Trees → Type 0 = AnswersWith ComesNone part caller item (Ok Again) in
    let Makes : Trees → Trees → Type 0 = AcceptsAs ComesNone part caller item Again in
    made_called n part (λ db. Unit {0}) Asks Line Answers Makes old new (λ h. c.written.ensures.idle) (λ past ready l asks. tt) Again
    c.in-Ok.ensures.written
    (λ past ready l asks db w. let it = repeats n c.args.came.now.moment part caller item c.args.whole old.committed.trees db c.requires.delivered.line (below_of n old ready) l asks.0 asks.1 w in (it.0, it.1, (it.1.0, it.1.1)))

pub returns-in-Err-clause-called : goal.returns-in-Err-clause-called
returns-in-Err-clause-called g c =
    let n = c.args.came.now.n in
    let part = c.args.came.now.site.now in
    let caller = c.args.came.now.caller.now in
    let item = c.args.came.now.instance.now in
    let e = c.in-Err.fault in
    let old = state g.S.Store c.args.conn.now in
    let new = state g.S.Store c.written.new.conn in
    let Line : Trees → Trees → Type 0 = AddsOnlyLine (arrived_line n c.args.came.now.moment 1 caller item) in
    let Asks : Trees → Type 0 = λ base. IsThere base item c.args.whole × (set.contains (arrivals_in (base 5)) (caller, item.uid) ≡ true) in
    let Answers : Trees → Trees → Type 0 = AnswersWith ComesNone part caller item (Err e) in
    let Makes : Trees → Trees → Type 0 = AcceptsAs ComesNone part caller item Again in
    unmade_called {A = Arrived} n part (λ db. Unit {0}) Asks Line Answers Makes old new (λ h. c.written.ensures.idle) (λ past ready l asks. tt) e c.in-Err.ensures.fault
    c.in-Err.ensures.written
    (λ past ready l asks db w. let it = repeats n c.args.came.now.moment part caller item c.args.whole old.committed.trees db c.requires.delivered.line (below_of n old ready) l asks.0 asks.1 w in (it.0, (it.1.0, it.1.1)))
    (λ asks. refused ComesNone part caller item e c.requires.delivered.line c.in-Err.ensures.fault old.committed.trees)
