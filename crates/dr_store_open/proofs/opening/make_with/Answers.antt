use Rattle.std.proofs.Common.{rules, ◌≡◌, subst}
use Rattle.sqlite.specs.Held.{state}
use Rattle.dr_store_open.specs.Opening.{LeavesOldOr}
use Rattle.dr_store_open.specs.Renewing.{IsMadeWith}
use Rattle.dr_store_open.proofs.opening.make_with.Goals as goal

pub returns-in-Ok-clause-crash : goal.returns-in-Ok-clause-crash
returns-in-Ok-clause-crash g c clean =
    let same : c.deref.result.now ≡ c.args.beside.1.items = search rules in
    subst (λ mark. LeavesOldOr (IsMadeWith mark c.args.site.now) (state g.S.Store c.args.conn.now) (state g.S.Store c.make.new.conn)) same
    (c.make.ensures.crash clean)

pub returns-in-Err-clause-crash : goal.returns-in-Err-clause-crash
returns-in-Err-clause-crash g c clean =
    let same : c.deref.result.now ≡ c.args.beside.1.items = search rules in
    subst (λ mark. LeavesOldOr (IsMadeWith mark c.args.site.now) (state g.S.Store c.args.conn.now) (state g.S.Store c.make.new.conn)) same
    (c.make.ensures.crash clean)
