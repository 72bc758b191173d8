use Rattle.std.proofs.Common.{◌≡◌, ◌+◌, inl, refl, subst}
use Rattle.sqlite.specs.Held.{state}
use Rattle.dr_ledger.specs.declared.fault.LedgerFault.TheVariants as fault
use Rattle.dr_store_calls.specs.Calling.{Nothing}
use Rattle.dr_store_calls.specs.Sealing.{Sealed}
use Rattle.dr_store_calls.proofs.Sealings.{not_sealed, where_ok}
use Rattle.dr_store_calls.proofs.sealing.seal.Goals as goal

pub returns-then-not-counts_up_to-clause-sealed : goal.returns-then-not-counts_up_to-clause-sealed
returns-then-not-counts_up_to-clause-sealed g c =
    not_sealed c.args.n c.args.site.now c.args.last.now (state g.S.Store c.args.conn.now) Nothing fault.Store (inl refl)

pub returns-clause-sealed : goal.returns-clause-sealed
returns-clause-sealed g c =
    let counts = c.counts_up_to.ensures.0 c.if-not-counts_up_to.false in
    subst (λ n. Sealed n c.args.site.now c.args.last.now c.seal_to.result (state g.S.Store c.args.conn.now) (state g.S.Store c.seal_to.new.conn) Nothing) counts
    c.seal_to.ensures.sealed

pub returns-clause-counted : goal.returns-clause-counted
returns-clause-counted g c =
    where_ok c.seal_to.result (c.args.last.now.count + 1 ≡ c.args.n) (c.counts_up_to.ensures.0 c.if-not-counts_up_to.false)
