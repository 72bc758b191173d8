use Rattle.std.proofs.Common.{rules}
use Rattle.dr_store_past.proofs.Shows.{clean_after, clean_before, clean_next, holds_more, written_up}
use Rattle.dr_store_past.proofs.sealed.SealedFilesLedgerPast.turn_to.Goals as goal

pub returns-then-goes_on-clause-holds : goal.returns-then-goes_on-clause-holds
returns-then-goes_on-clause-holds g c lines written before held =
    holds_more g.F.Disk.Disk _ c.args.self.now.seal c.args.last.now before lines held written.written

pub returns-then-goes_on-clause-next : goal.returns-then-goes_on-clause-next
returns-then-goes_on-clause-next g c lines written clean =
    clean_next g.F.Disk.Disk _ _ _ c.args.self.now.seal lines c.args.last.now written c.texts_are_of_one_line.ensures _ clean

pub returns-then-goes_on-clause-clean : goal.returns-then-goes_on-clause-clean
returns-then-goes_on-clause-clean g c lines written clean =
    clean_before g.F.Disk.Disk _ _ _ c.args.self.now.seal lines c.args.last.now written c.texts_are_of_one_line.ensures _ _ clean.honest
    c.args.self.now.within clean

pub returns-then-goes_on-clause-lasts : goal.returns-then-goes_on-clause-lasts
returns-then-goes_on-clause-lasts g c lines written clean honest held next =
    clean_after g.F.Disk.Disk _ _ _ c.args.self.now.seal lines c.args.last.now written _ _ honest clean held next

pub returns-else-goes_on-clause-reach : goal.returns-else-goes_on-clause-reach
returns-else-goes_on-clause-reach g c lines written =
    let up = written_up g.F.Disk.Disk _ _ c.args.self.now.seal lines c.args.last.now written in
    absurd (search rules)

pub returns-else-goes_on-clause-holds : goal.returns-else-goes_on-clause-holds
returns-else-goes_on-clause-holds g c lines written before held =
    let up = written_up g.F.Disk.Disk _ _ c.args.self.now.seal lines c.args.last.now written in
    absurd (search rules)

pub returns-else-goes_on-clause-next : goal.returns-else-goes_on-clause-next
returns-else-goes_on-clause-next g c lines written clean =
    let up = written_up g.F.Disk.Disk _ _ c.args.self.now.seal lines c.args.last.now written in
    absurd (search rules)
