use Rattle.std.proofs.Common.{◌≡◌, Bool, IsTrue, List, Ok, subst}
use Rattle.std.specs.Prelude.{◌↔◌, All}
use Rattle.sqlite.specs.Held.{state}
use Rattle.dr_base.specs.Texts.{Text}
use Rattle.dr_store_reads.specs.declared.finding.Print.{Print}
use Rattle.dr_store_open.specs.DataSets.{AreOwnUnder}
use Rattle.dr_store_open.proofs.Chains.{ready_as, ready_failed, shown_ready}
use Rattle.dr_store_open.proofs.Shelved.{as_told, not_other}
use Rattle.dr_store_open.proofs.bodies.test_all.Goals as goal

pub returns-in-Ok-clause-ready : goal.returns-in-Ok-clause-ready
returns-in-Ok-clause-ready g c =
    let old = state g.S.Store c.args.conn.now in
    let new = state g.S.Store c.test_bodies.new.conn in
    ready_as c.args.found.now.next old new c.in-Ok.own c.told.result _ c.requires c.in-Ok.ensures.seen

pub returns-in-Ok-clause-own : goal.returns-in-Ok-clause-own
returns-in-Ok-clause-own g c clean =
    let old = state g.S.Store c.args.conn.now in
    let new = state g.S.Store c.test_bodies.new.conn in
    let given = c.args.found.now.prints.items in
    let prints = c.as_slice.result.now in
    let Own : List (Text × Print) → Type 0 = All (AreOwnUnder old.now.trees) in
    let Says : Bool → Type 0 = λ own. IsTrue own ↔ Own prints in
    let says : Says c.in-Ok.own = shown_ready c.args.found.now.next old new (Ok c.in-Ok.own) Says c.requires c.in-Ok.ensures.seen clean in
    as_told (Own given) c.in-Ok.own c.told.result c.told.ensures (subst (λ ps. IsTrue c.in-Ok.own ↔ Own ps) c.as_slice.ensures.value says)

pub returns-in-Ok-clause-of_data : goal.returns-in-Ok-clause-of_data
returns-in-Ok-clause-of_data g c = not_other c.in-Ok.own c.told.result c.told.ensures

pub returns-in-Err-clause-ready : goal.returns-in-Err-clause-ready
returns-in-Err-clause-ready g c =
    let old = state g.S.Store c.args.conn.now in
    let new = state g.S.Store c.test_bodies.new.conn in
    ready_failed c.args.found.now.next old new c.in-Err.fault c.opening_fault.result _ c.requires c.in-Err.ensures.seen

pub returns-in-Err-clause-own : goal.returns-in-Err-clause-own
returns-in-Err-clause-own g c clean other every = c.opening_fault.ensures.other other
