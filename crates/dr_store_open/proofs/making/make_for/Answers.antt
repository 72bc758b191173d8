use Rattle.std.proofs.Common.{rules, ◌≡◌, subst}
use Rattle.sqlite.specs.Held.{state}
use Rattle.sqlite.specs.State.{HasCleanDisk}
use Rattle.dr_store_open.specs.Opening.{LeavesOldOr}
use Rattle.dr_store_open.specs.Renewing.{IsMadeFor}
use Rattle.dr_store_open.proofs.Filling.{leaves_tried}
use Rattle.dr_store_open.proofs.making.make_for.Goals as goal

pub returns-in-Ok-clause-crash : goal.returns-in-Ok-clause-crash
returns-in-Ok-clause-crash g c clean =
    let old = c.args.conn.now in
    let New = IsMadeFor c.args.node.now c.args.cell.now in
    let mid = c.fill.new.tx.conn.now in
    let begun = c.transaction-tx.ensures.begun in
    let last = c.commit.new.self.0 in
    let same : last ≡ c.conn-2-1.given.0 = search rules in
    subst (λ h. HasCleanDisk (state g.S.Store h) → LeavesOldOr New (state g.S.Store old) (state g.S.Store h)) same
    (leaves_tried (state g.S.Store old) (state g.S.Store mid) (state g.S.Store last) New (rw begun at c.in_ok-fill.ensures.survives) (λ early. (c.in_ok-fill.ensures.listed early, c.in_ok-fill.ensures.made early)) c.commit.ensures.survives) clean

pub returns-in-Err-clause-crash : goal.returns-in-Err-clause-crash
returns-in-Err-clause-crash g c clean =
    let old = c.args.conn.now in
    let New = IsMadeFor c.args.node.now c.args.cell.now in
    let mid = c.fill.new.tx.conn.now in
    let begun = c.transaction-tx.ensures.begun in
    let last = c.commit.new.self.0 in
    let same : last ≡ c.conn-2-1.given.0 = search rules in
    subst (λ h. HasCleanDisk (state g.S.Store h) → LeavesOldOr New (state g.S.Store old) (state g.S.Store h)) same
    (leaves_tried (state g.S.Store old) (state g.S.Store mid) (state g.S.Store last) New (rw begun at c.in_ok-fill.ensures.survives) (λ early. (c.in_ok-fill.ensures.listed early, c.in_ok-fill.ensures.made early)) c.commit.ensures.survives) clean
