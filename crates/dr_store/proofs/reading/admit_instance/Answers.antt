use Rattle.std.proofs.Common.{◌≡◌, Ok, Err, refl}
use Rattle.sqlite.specs.Held.{state}
use Rattle.sqlite.specs.Tree.{Trees}
use Rattle.dr_store_calls.specs.declared.knowing.Known.{Known}
use Rattle.dr_store_calls.specs.Calling.{Nothing}
use Rattle.dr_store_calls.specs.Knowing.{IsWhatIsKnown}
use Rattle.dr_store_calls.proofs.Calls.{looked_failed}
use Rattle.dr_store.proofs.Admits.{Says, own, told}
use Rattle.dr_store.proofs.Looks.{looked_answers}
use Rattle.dr_store.proofs.reading.admit_instance.Goals as goal

pub returns-in-Ok-clause-called : goal.returns-in-Ok-clause-called
returns-in-Ok-clause-called g c n =
    let part = c.args.site.now in
    let caller = c.args.caller.now in
    let item = c.args.item.now in
    let r = c.admit_known.result in
    let old = state g.S.Store c.args.conn.now in
    let new = state g.S.Store c.know.new.conn in
    let Shows : Trees → Known → Type 0 = λ base known. IsWhatIsKnown base item known in
    looked_answers n part old new Shows c.in-Ok.known r (Says part caller item c.requires r) (c.in-Ok.ensures.looked n part)
    (λ base shown. told part caller item c.requires c.in-Ok.known r base c.admit_known.ensures shown)

pub returns-in-Err-clause-called : goal.returns-in-Err-clause-called
returns-in-Err-clause-called g c n =
    let part = c.args.site.now in
    let caller = c.args.caller.now in
    let item = c.args.item.now in
    let e = c.in-Err.fault in
    let old = state g.S.Store c.args.conn.now in
    let new = state g.S.Store c.know.new.conn in
    let Shows : Trees → Known → Type 0 = λ base known. IsWhatIsKnown base item known in
    looked_failed n part old new Shows e Nothing (λ base db. (db ≡ base) × Says part caller item c.requires (Err e) base) (λ base db. ⊥) (c.in-Err.ensures.looked n part) (λ base asks mine. (refl, own part caller item c.requires e base mine))
