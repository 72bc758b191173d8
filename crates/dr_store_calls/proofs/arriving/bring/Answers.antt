use Rattle.std.proofs.Common.{List, ℕ, Ok, Err, Option, subst}
use Rattle.sqlite.specs.Held.{state}
use Rattle.sqlite.specs.Tree.{Trees}
use Rattle.dr_base.specs.Texts.{Text}
use Rattle.dr_ledger.specs.declared.fault.LedgerFault.{LedgerFault}
use Rattle.dr_ledger.specs.declared.item.Arrived.{Arrived}
use Rattle.dr_ledger.specs.declared.item.Arrived.TheVariants.{New}
use Rattle.dr_store_changes.specs.Bringing.{AsksToTake, Brings, names_for}
use Rattle.dr_store_changes.specs.Changes.{HasRows}
use Rattle.dr_store_changes.specs.Writing.{Written}
use Rattle.dr_store_calls.specs.Knowing.{FitsTables}
use Rattle.dr_store_calls.specs.Receiving.{AcceptsAs, AnswersWith, IsCellTaken}
use Rattle.dr_store_calls.proofs.Calls.{below_of, made_called, unmade_called}
use Rattle.dr_store_calls.proofs.Fitting.{rows_there}
use Rattle.dr_store_calls.proofs.Takings.{arrives, refused}
use Rattle.dr_store_calls.proofs.arriving.bring.Goals as goal

pub invariant_of-change : goal.invariant_of-change
invariant_of-change g c = record { size = c.requires.delivered.size }

pub returns-in-Ok-clause-called : goal.returns-in-Ok-clause-called
returns-in-Ok-clause-called g c =
    let n = c.args.came.now.n in
    let part = c.args.came.now.site.now in
    let caller = c.args.came.now.caller.now in
    let item = c.args.came.now.instance.now in
    let cell = c.args.cell.now in
    let how = c.args.reception.now.taking in
    let Comes : Option (List ℕ) → Type 0 = IsCellTaken how cell in
    let to = c.args.targets.now.to in
    let keep = c.args.targets.now.keep in
    let again = c.args.reception.now.again.now in
    let dests = c.args.reception.now.dests.now in
    let keeps = c.args.reception.now.keeps in
    let old = state g.S.Store c.args.conn.now in
    let new = state g.S.Store c.written.new.conn in
    let Made : List Text → List Text → List Text → Trees → Trees → Type 0 = λ ys ds names. Brings how caller item cell ys ds keeps names n c.args.came.now.moment in
    let Asks : Trees → Type 0 = λ base. FitsTables how caller item to keep again dests keeps base in
    let Makes : Trees → Trees → Type 0 = AcceptsAs Comes part caller item New in
    let Answers : Trees → Trees → Type 0 = AnswersWith Comes part caller item (Ok New) in
    let Wants : List Text → Trees → Type 0 = λ ys db. AsksToTake how item.uid db × HasRows item.uid ys db in
    let W : List Text → List Text → List Text → Type 0 = λ ys ds names. Written {E = LedgerFault} n (Wants ys) (Made ys ds names) (Ok tt) old new in
    made_called n part (Wants again) Asks (Made again dests (names_for keep to)) Answers Makes old new (λ h. c.written.ensures.idle) (λ past ready l fits. (fits.asks, rows_there old.committed.trees item.uid to again fits.again_are)) New
    (subst (λ names. W again dests names) c.requires.names
    (subst (λ ds. W again ds c.args.names.now) c.as_slice-dests.ensures
    (subst (λ ys. W ys c.as_slice-dests.result.now c.args.names.now) c.as_slice-again.ensures c.in-Ok.ensures.written)))
    (λ past ready l fits db w.
    let it = arrives n c.args.came.now.moment part how caller item cell to keep again dests keeps old.committed.trees db c.requires.delivered.line c.requires.targets.to c.requires.targets.keep c.requires.targets.formed (below_of n old ready) l fits w in
    (it.0, it.1, (it.1.0, it.1.1)))

pub returns-in-Err-clause-called : goal.returns-in-Err-clause-called
returns-in-Err-clause-called g c =
    let n = c.args.came.now.n in
    let part = c.args.came.now.site.now in
    let caller = c.args.came.now.caller.now in
    let item = c.args.came.now.instance.now in
    let cell = c.args.cell.now in
    let how = c.args.reception.now.taking in
    let Comes : Option (List ℕ) → Type 0 = IsCellTaken how cell in
    let to = c.args.targets.now.to in
    let keep = c.args.targets.now.keep in
    let again = c.args.reception.now.again.now in
    let dests = c.args.reception.now.dests.now in
    let keeps = c.args.reception.now.keeps in
    let old = state g.S.Store c.args.conn.now in
    let new = state g.S.Store c.written.new.conn in
    let Made : List Text → List Text → List Text → Trees → Trees → Type 0 = λ ys ds names. Brings how caller item cell ys ds keeps names n c.args.came.now.moment in
    let Asks : Trees → Type 0 = λ base. FitsTables how caller item to keep again dests keeps base in
    let Makes : Trees → Trees → Type 0 = AcceptsAs Comes part caller item New in
    let e = c.in-Err.fault in
    let Answers : Trees → Trees → Type 0 = AnswersWith Comes part caller item (Err e) in
    let Wants : List Text → Trees → Type 0 = λ ys db. AsksToTake how item.uid db × HasRows item.uid ys db in
    let W : List Text → List Text → List Text → Type 0 = λ ys ds names. Written {E = LedgerFault} n (Wants ys) (Made ys ds names) (Err e) old new in
    unmade_called {A = Arrived} n part (Wants again) Asks (Made again dests (names_for keep to)) Answers Makes old new (λ h. c.written.ensures.idle) (λ past ready l fits. (fits.asks, rows_there old.committed.trees item.uid to again fits.again_are)) e
    c.in-Err.ensures.fault
    (subst (λ names. W again dests names) c.requires.names
    (subst (λ ds. W again ds c.args.names.now) c.as_slice-dests.ensures
    (subst (λ ys. W ys c.as_slice-dests.result.now c.args.names.now) c.as_slice-again.ensures c.in-Err.ensures.written)))
    (λ past ready l fits db w.
    let it = arrives n c.args.came.now.moment part how caller item cell to keep again dests keeps old.committed.trees db c.requires.delivered.line c.requires.targets.to c.requires.targets.keep c.requires.targets.formed (below_of n old ready) l fits w in (it.0, (it.1.0, it.1.1)))
    (λ fits. refused Comes part caller item e c.requires.delivered.line c.in-Err.ensures.fault old.committed.trees)
