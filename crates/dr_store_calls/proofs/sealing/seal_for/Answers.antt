use Rattle.std.proofs.Common.{◌≡◌, ◌+◌, ◌∙◌, inl, refl, subst, rules}
use Rattle.sqlite.specs.Held.{state}
use Rattle.dr_store_writes.specs.Effects.{IsSiteOf}
use Rattle.dr_ledger.specs.declared.fault.LedgerFault.TheVariants as fault
use Rattle.dr_store_calls.specs.Owners.{IsPlanWith}
use Rattle.dr_store_calls.proofs.Sealings.{not_sealed, sealed_where}
use Rattle.dr_store_calls.proofs.sealing.seal_for.Goals as goal

pub returns-then-not-is_same-clause-sealed : goal.returns-then-not-is_same-clause-sealed
returns-then-not-is_same-clause-sealed g c =
    not_sealed (c.args.last.now.count + 1) c.args.site.now c.args.last.now (state g.S.Store c.args.conn.now) (IsSiteOf c.args.owner.now.node c.args.owner.now.plan) fault.Store (inl refl)

pub returns-in_default-clause-sealed : goal.returns-in_default-clause-sealed
returns-in_default-clause-sealed g c =
    not_sealed (c.args.last.now.count + 1) c.args.site.now c.args.last.now (state g.S.Store c.args.conn.now) (IsSiteOf c.args.owner.now.node c.args.owner.now.plan) fault.Store (inl refl)

pub returns-clause-sealed : goal.returns-clause-sealed
returns-clause-sealed g c =
    let owner = c.args.owner.now in
    let part = c.args.site.now in
    let mark = c.in-Some.mark.now in
    let same : owner.node ≡ part.name = c.is_same.ensures.0 c.if-not-is_same.false ∙ c.name.ensures in
    let digest : c.digest.result.now ≡ part.digest = search rules in
    let had = c.in-Some.ensures in
    let seal = c.in-Some.field-0-1.now in
    let has : IsPlanWith mark seal part.digest owner.plan =
    subst (IsPlanWith mark seal part.digest) c.as_bytes.ensures (subst (λ d. IsPlanWith mark seal d c.as_bytes.result.now) digest had) in
    sealed_where (c.args.last.now.count + 1) part c.args.last.now c.seal_with.result (state g.S.Store c.args.conn.now) (state g.S.Store c.seal_with.new.conn)
    (IsSiteOf part.name owner.plan) (IsSiteOf owner.node owner.plan)
    (λ db is. subst (λ node. IsSiteOf node owner.plan db) same is)
    (c.seal_with.ensures.sealed owner.plan seal has)
