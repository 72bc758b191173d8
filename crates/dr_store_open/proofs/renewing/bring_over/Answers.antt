use Rattle.std.proofs.Common.{rules, ◌≡◌, subst}
use Rattle.sqlite.specs.Effect.{Database}
use Rattle.sqlite.specs.Held.{state}
use Rattle.sqlite.specs.State.{HasCleanDisk}
use Rattle.dr_store_open.specs.Opening.{LeavesOldOr}
use Rattle.dr_store_open.specs.Renewing.{KeepsRows}
use Rattle.dr_store_open.proofs.Filling.{leaves_tried}
use Rattle.dr_store_open.proofs.renewing.bring_over.Goals as goal

pub returns-in-Ok-clause-crash : goal.returns-in-Ok-clause-crash
returns-in-Ok-clause-crash g c clean =
    let old = c.args.conn.now in
    let mid = c.renew.new.tx.conn.now in
    let begun = c.transaction-tx.ensures.begun in
    let last = c.commit.new.self.0 in
    let Keeps : Database → Type 0 = KeepsRows (state g.S.Store old).now in
    let same : last ≡ c.conn-2-1.given.0 = search rules in
    subst (λ h. HasCleanDisk (state g.S.Store h) → LeavesOldOr Keeps (state g.S.Store old) (state g.S.Store h)) same
    (leaves_tried (state g.S.Store old) (state g.S.Store mid) (state g.S.Store last) Keeps (rw begun at c.in_ok-renew.ensures.survives)
    (λ early. (c.in_ok-renew.ensures.listed early, (rw begun at c.in_ok-renew.ensures.kept) early)) c.commit.ensures.survives) clean

pub returns-in-Err-clause-crash : goal.returns-in-Err-clause-crash
returns-in-Err-clause-crash g c clean =
    let old = c.args.conn.now in
    let mid = c.renew.new.tx.conn.now in
    let begun = c.transaction-tx.ensures.begun in
    let last = c.commit.new.self.0 in
    let Keeps : Database → Type 0 = KeepsRows (state g.S.Store old).now in
    let same : last ≡ c.conn-2-1.given.0 = search rules in
    subst (λ h. HasCleanDisk (state g.S.Store h) → LeavesOldOr Keeps (state g.S.Store old) (state g.S.Store h)) same
    (leaves_tried (state g.S.Store old) (state g.S.Store mid) (state g.S.Store last) Keeps (rw begun at c.in_ok-renew.ensures.survives)
    (λ early. (c.in_ok-renew.ensures.listed early, (rw begun at c.in_ok-renew.ensures.kept) early)) c.commit.ensures.survives) clean
