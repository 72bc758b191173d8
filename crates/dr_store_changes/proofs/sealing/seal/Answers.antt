use Rattle.std.proofs.Common.{rules, ◌≡◌, subst, true}
use Rattle.sqlite.specs.Held.{state}
use Rattle.dr_store_writes.specs.Effects.{GoesOn, HasSite}
use Rattle.dr_store_changes.specs.Sealing.{CanBeSealed, SealsLines}
use Rattle.dr_store_changes.specs.Writing.{Transacted}
use Rattle.dr_store_changes.proofs.Sealings.{can_be_sealed, sealing_done}
use Rattle.dr_store_changes.proofs.Transactions.{all_done}
use Rattle.dr_store_changes.proofs.sealing.seal.Goals as goal

pub returns-clause-sealed : goal.returns-clause-sealed
returns-clause-sealed g c = λ n.
    let plan = c.args.plan.now in
    let begun = c.transaction-tx.ensures.begun in
    let old = state g.S.Store c.args.conn.now in
    let mid = state g.S.Store c.take_lines_out.new.tx.conn.now in
    let last = c.commit.new.self.0 in
    let same : last ≡ c.conn-2-1.given.0 = search rules in
    let all = record old { in_transaction = true } in
    subst (λ h. Transacted n n HasSite (SealsLines plan) c.commit.result old (state g.S.Store h)) same
    (all_done old mid (state g.S.Store last) n n HasSite (SealsLines plan) c.in_ok-take_lines_out.field-0 c.commit.result (CanBeSealed old.now.trees) (GoesOn all mid × SealsLines plan old.now.trees mid.now.trees)
    (λ ready site. can_be_sealed n old ready site) (λ ready done. sealing_done plan n all mid done)
    (rw begun at c.in_ok-take_lines_out.ensures.step) c.commit.ensures.ok c.commit.ensures.err c.commit.ensures.survives)
