use Rattle.sqlite.specs.Held.{state}
use Rattle.dr_store.proofs.Sealings.{seal_kept, seal_lasts, seal_same, seal_stood}
use Rattle.dr_store.proofs.ledger.SqlLedger.seal_in.Goals as goal

pub invariant_of-self : goal.invariant_of-self
invariant_of-self g c =
    let l = c.args.self.now in
    let e = c.seal_lines-answer.ensures in
    let reach = g.P.LedgerPast.reach in
    record {
      idle = e.idle;
      kept = λ clean. seal_kept g.P.LedgerPast.all_lines l.next l.site c.seal_lines-answer.result (state g.S.Store l.conn) (state g.S.Store c.seal_lines-answer.new.conn) (reach l.past) (reach c.seal_lines-answer.new.past) (e.sealed clean.1) (l.kept (clean.0, e.clean clean.1));
    }

pub returns-clause-same : goal.returns-clause-same
returns-clause-same g c clean safe =
    let l = c.args.self.now in
    let e = c.seal_lines-answer.ensures in
    let reach = g.P.LedgerPast.reach in
    seal_same g.P.LedgerPast.all_lines l.next l.site c.seal_lines-answer.result (state g.S.Store l.conn) (state g.S.Store c.seal_lines-answer.new.conn) (reach l.past) (reach c.seal_lines-answer.new.past) (e.sealed clean.1) (l.kept (clean.0, e.clean clean.1)) (g.B.Shelf.read_of l.shelf) safe

pub returns-clause-stood : goal.returns-clause-stood
returns-clause-stood g c clean =
    let l = c.args.self.now in
    let e = c.seal_lines-answer.ensures in
    let reach = g.P.LedgerPast.reach in
    seal_stood g.P.LedgerPast.all_lines l.next l.site c.seal_lines-answer.result (state g.S.Store l.conn) (state g.S.Store c.seal_lines-answer.new.conn) (reach l.past) (reach c.seal_lines-answer.new.past) (e.sealed clean.1) (l.kept (clean.0, e.clean clean.1))

pub returns-clause-lasts : goal.returns-clause-lasts
returns-clause-lasts g c clean =
    let l = c.args.self.now in
    let e = c.seal_lines-answer.ensures in
    let reach = g.P.LedgerPast.reach in
    seal_lasts g.P.LedgerPast.all_lines l.next l.site c.seal_lines-answer.result (state g.S.Store l.conn) (state g.S.Store c.seal_lines-answer.new.conn) (reach l.past) (reach c.seal_lines-answer.new.past) (e.sealed clean.1) (l.kept (clean.0, e.clean clean.1))

pub returns-clause-clean : goal.returns-clause-clean
returns-clause-clean g c clean = (clean.0, c.seal_lines-answer.ensures.clean clean.1)
