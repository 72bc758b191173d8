use Rattle.dr_ledger.specs.Replies.{Lists}
use Rattle.dr_store_lists.specs.Lists.{IsJournal, goal_cmp, goals_of}
use Rattle.sqlite.specs.Held.{state}
use Rattle.dr_store_reads.proofs.Outcomes.{refused}
use Rattle.dr_store_open.specs.Listed.{IsJournalOf}
use Rattle.dr_store_open.proofs.Chains.{of_ledger, then_failed, two_asked}
use Rattle.dr_store_open.proofs.listed.list_journal.Goals as goal

pub returns-in_err-notes : goal.returns-in_err-notes
returns-in_err-notes g c =
    record { asked = refused c.from_residual.ensures (λ has. has.schema) c.in_err-notes.ensures.asked }

pub returns-in_err-goals : goal.returns-in_err-goals
returns-in_err-goals g c =
    let old = state g.S.Store c.args.conn.now in
    let mid = state g.S.Store c.all_notes.new.conn in
    let new = state g.S.Store c.all_targets.new.conn in
    record {
      asked = refused c.from_residual-in_err-goals.ensures (λ has. has)
          (then_failed old mid new c.in_ok-notes.notes
          (λ db all. IsJournal db.trees all.items)
          (λ db all. Lists goal_cmp (goals_of db.trees) all.items)
          (of_ledger old mid _ _ c.in_ok-notes.ensures.asked)
          (of_ledger mid new _ _ c.in_err-goals.ensures.asked));
    }

pub returns : goal.returns
returns g c =
    let old = state g.S.Store c.args.conn.now in
    let mid = state g.S.Store c.all_notes.new.conn in
    let new = state g.S.Store c.all_targets.new.conn in
    let one = c.in_ok-notes.notes in
    let other = c.in_ok-goals.goals in
    record {
      asked = two_asked old mid new one other (record { notes = one; goals = other })
          (λ db all. IsJournal db.trees all.items)
          (λ db all. Lists goal_cmp (goals_of db.trees) all.items)
          (λ db both. IsJournalOf db.trees both)
          (λ db a b. record { notes = a; goals = b })
          (of_ledger old mid _ _ c.in_ok-notes.ensures.asked)
          (of_ledger mid new _ _ c.in_ok-goals.ensures.asked);
    }
