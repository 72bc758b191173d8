use Rattle.std.proofs.Common.{◌≡◌, inr, refl, rules, subst}
use Rattle.sqlite.specs.Held.{state}
use Rattle.dr_store_writes.specs.Effects.{IsSiteOf}
use Rattle.dr_ledger.specs.declared.fault.LedgerFault.TheVariants as fault
use Rattle.dr_store_calls.specs.Owners.{IsPlanWith}
use Rattle.dr_store_calls.proofs.Changes.{not_adopted, written_adopted}
use Rattle.dr_store_calls.proofs.adopting.adopt_with.Goals as goal

pub returns-in-Ok-clause-adopted : goal.returns-in-Ok-clause-adopted
returns-in-Ok-clause-adopted g c part was digest had =
    let next = c.args.next.now in
    let mark = c.args.mark.now in
    let seal = c.args.seal.now in
    let made = c.in-Ok.cell.items in
    let cell = c.deref.result.now in
    let same : made ≡ cell = search rules in
    let has : IsPlanWith mark seal next.digest cell =
    subst (IsPlanWith mark seal next.digest) same
    (subst (λ d. IsPlanWith mark seal d made) c.digest.ensures (c.in-Ok.ensures had.marked had.sealed)) in
    written_adopted c.args.n part next (state g.S.Store c.args.conn.now) (state g.S.Store c.write_plan.new.conn) (λ h. c.write_plan.ensures.idle)
    mark seal digest was cell had has c.args.moment c.write_plan.result c.write_plan.ensures.fault c.write_plan.ensures.written

pub returns-in-Err-clause-adopted : goal.returns-in-Err-clause-adopted
returns-in-Err-clause-adopted g c part was digest had =
    not_adopted c.args.n part c.args.next.now (state g.S.Store c.args.conn.now) (IsSiteOf c.args.next.now.name was) fault.Memory (inr refl)
