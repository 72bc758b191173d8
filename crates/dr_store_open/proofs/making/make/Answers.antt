use Rattle.std.proofs.Common.{◌≡◌, [], inl, refl, rules, subst}
use Rattle.sqlite.specs.Held.{state}
use Rattle.dr_store_calls.specs.Owners.{IsPlanWith}
use Rattle.dr_store_open.specs.Renewing.{IsMadeFor, IsMadeWith}
use Rattle.dr_store_open.proofs.Filling.{leaves_more}
use Rattle.dr_store_open.proofs.making.make.Goals as goal

pub returns-in-Ok-clause-crash : goal.returns-in-Ok-clause-crash
returns-in-Ok-clause-crash g c clean =
    let part = c.args.site.now in
    let mark = c.args.mark.now in
    let made = c.in-Ok.cell.items in
    let cell = c.deref.result.now in
    let same : made ≡ cell = search rules in
    let has : IsPlanWith mark [] part.digest cell =
    subst (IsPlanWith mark [] part.digest) same
    (subst (λ d. IsPlanWith mark [] d made) c.digest.ensures (c.in-Ok.ensures (c.is_mark.ensures.0 c.if-not-is_mark.false) (inl refl))) in
    leaves_more (state g.S.Store c.args.conn.now) (state g.S.Store c.make_for.new.conn) (IsMadeFor c.name.result.now cell) (IsMadeWith mark part)
    (λ d made. (cell, has, subst (λ node. IsMadeFor node cell d) c.name.ensures made)) (c.make_for.ensures.crash clean)
