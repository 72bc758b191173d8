use Rattle.std.proofs.Common.{◌≡◌, ◌∙◌, subst}
use Rattle.sqlite.specs.Held.{state}
use Rattle.dr_store_writes.specs.Effects.{IsSiteOf}
use Rattle.dr_store_calls.specs.Owners.{IsPlanWith}
use Rattle.dr_store_calls.proofs.Changes.{adopted_where, not_stored}
use Rattle.dr_store_calls.proofs.adopting.adopt_from.Goals as goal

pub returns-then-not-is_same-clause-adopted : goal.returns-then-not-is_same-clause-adopted
returns-then-not-is_same-clause-adopted g c part =
    not_stored c.args.n part c.args.next.now (state g.S.Store c.args.conn.now) (IsSiteOf c.args.owner.now.node c.args.owner.now.plan)

pub returns-in_default-clause-adopted : goal.returns-in_default-clause-adopted
returns-in_default-clause-adopted g c part =
    not_stored c.args.n part c.args.next.now (state g.S.Store c.args.conn.now) (IsSiteOf c.args.owner.now.node c.args.owner.now.plan)

pub returns-clause-adopted : goal.returns-clause-adopted
returns-clause-adopted g c part =
    let owner = c.args.owner.now in
    let next = c.args.next.now in
    let mark = c.in-Some.mark.now in
    let seal = c.in-Some.seal.now in
    let same : owner.node ≡ next.name = c.is_same.ensures.0 c.if-not-is_same.false ∙ c.name.ensures in
    let behind = c.in-Some.ensures in
    let had : IsPlanWith mark seal behind.0 owner.plan =
    subst (IsPlanWith mark seal behind.0) c.as_bytes.ensures behind.1 in
    adopted_where c.args.n part next c.adopt_with.result (state g.S.Store c.args.conn.now) (state g.S.Store c.adopt_with.new.conn)
    (IsSiteOf next.name owner.plan) (IsSiteOf owner.node owner.plan)
    (λ db is. subst (λ node. IsSiteOf node owner.plan db) same is)
    (c.adopt_with.ensures.adopted part owner.plan behind.0 had)
