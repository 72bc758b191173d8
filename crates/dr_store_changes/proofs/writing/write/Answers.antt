use Rattle.std.proofs.Common.{rules, ◌≡◌, subst}
use Rattle.sqlite.specs.Held.{state}
use Rattle.dr_store_changes.specs.Writing.{Written}
use Rattle.dr_store_changes.proofs.Transactions.{all_run}
use Rattle.dr_store_changes.proofs.writing.write.Goals as goal

pub returns-clause-written : goal.returns-clause-written
returns-clause-written g c =
    let old = c.args.conn.now in
    let mid = c.run.new.tx.conn.now in
    let begun = c.transaction-tx.ensures.begun in
    let last = c.commit.new.self.0 in
    let same : last ≡ c.conn-2-1.given.0 = search rules in
    subst (λ h. Written c.args.n (g.C.TableChange.asks c.args.change.now) (g.C.TableChange.makes c.args.change.now c.args.n) c.commit.result (state g.S.Store old) (state g.S.Store h)) same
    (all_run (state g.S.Store old) (state g.S.Store mid) (state g.S.Store last) c.args.n (g.C.TableChange.asks c.args.change.now) (g.C.TableChange.makes c.args.change.now c.args.n) c.in_ok-run.field-0 c.commit.result
    (rw begun at c.in_ok-run.ensures.step) c.commit.ensures.ok c.commit.ensures.err c.commit.ensures.survives)
