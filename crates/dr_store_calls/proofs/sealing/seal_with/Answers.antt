use Rattle.std.proofs.Common.{◌≡◌, ◌+◌, inr, refl, rules, subst}
use Rattle.sqlite.specs.Held.{state}
use Rattle.dr_store_writes.specs.Effects.{IsSiteOf}
use Rattle.dr_ledger.specs.declared.fault.LedgerFault.TheVariants as fault
use Rattle.dr_store_sealed.specs.InTables.{bytes_of_seal}
use Rattle.dr_store_calls.specs.Owners.{IsPlanWith}
use Rattle.dr_store_calls.proofs.Sealings.{not_sealed, written_sealed}
use Rattle.dr_store_calls.proofs.sealing.seal_with.Goals as goal

pub returns-in-Ok-clause-sealed : goal.returns-in-Ok-clause-sealed
returns-in-Ok-clause-sealed g c was before had =
    let part = c.args.site.now in
    let mark = c.args.mark.now in
    let last = c.args.last.now in
    let made = c.in-Ok.cell.items in
    let cell = c.deref.result.now in
    let same : made ≡ cell = search rules in
    let has : IsPlanWith mark (bytes_of_seal last) part.digest cell = subst (IsPlanWith mark (bytes_of_seal last) part.digest) same (c.in-Ok.ensures.cell had.marked) in
    written_sealed (last.count + 1) part last (state g.S.Store c.args.conn.now) (state g.S.Store c.write_seal.new.conn)
    mark before was cell c.in-Ok.ensures.of_code refl had has c.write_seal.result c.write_seal.ensures.fault (c.write_seal.ensures.written (last.count + 1))

pub returns-in-Err-clause-sealed : goal.returns-in-Err-clause-sealed
returns-in-Err-clause-sealed g c was before had =
    not_sealed (c.args.last.now.count + 1) c.args.site.now c.args.last.now (state g.S.Store c.args.conn.now) (IsSiteOf c.args.site.now.name was) fault.Memory (inr refl)
