use Rattle.dr_store_past.proofs.Noting.{clean_read, clean_unread, noted_known}
use Rattle.dr_store_past.proofs.Onward.{kept_read}
use Rattle.dr_store_past.proofs.Written.{err_map, if_map, told_under}
use Rattle.dr_store_past.proofs.sealed.SealedFilesLedgerPast.lines_behind.Goals as goal

pub returns-clause-answer : goal.returns-clause-answer
returns-clause-answer g c =
    if_map _ _ c.read_behind.result
    (λ found h clean.
    let was = clean_unread _ _ _ _ _ c.args.self.now.seal _ _ c.read_behind.ensures.shows c.read_behind.ensures.notes c.read_behind.ensures.clean clean in
    h g.F.PastFiles.all_lines clean.honest was.shows was.places)
    c.read_behind.ensures.answer

pub returns-clause-holds : goal.returns-clause-holds
returns-clause-holds g c before held = kept_read g.F.Disk.Disk _ _ c.read_behind.ensures.keeps _ _ _ held

pub returns-clause-written : goal.returns-clause-written
returns-clause-written g c lines last was =
    record {
      written = kept_read g.F.Disk.Disk _ _ c.read_behind.ensures.keeps _ _ _ was.written;
      one = was.one;
      fit = was.fit;
      counted = was.counted;
      there = rw c.read_behind.ensures.size was.there;
      known = noted_known _ _ c.args.self.now.seal _ _ c.args.self.now.seal c.read_behind.ensures.notes was.known;
    }

pub returns-clause-clean : goal.returns-clause-clean
returns-clause-clean g c clean =
    clean_unread _ _ _ _ _ c.args.self.now.seal _ _ c.read_behind.ensures.shows c.read_behind.ensures.notes c.read_behind.ensures.clean clean

pub returns-clause-lasts : goal.returns-clause-lasts
returns-clause-lasts g c clean honest =
    clean_read _ _ _ _ _ c.args.self.now.seal _ _ c.read_behind.ensures.shows c.read_behind.ensures.notes honest clean

pub returns-clause-why : goal.returns-clause-why
returns-clause-why g c =
    err_map _ _ c.read_behind.result
    (λ why h. told_under _ _ _ _ _
    (λ clean.
    let was = clean_unread _ _ _ _ _ c.args.self.now.seal _ _ c.read_behind.ensures.shows c.read_behind.ensures.notes c.read_behind.ensures.clean clean in
    (clean.honest, (was.shows, was.places))) why (h g.F.PastFiles.all_lines))
    c.read_behind.ensures.why
