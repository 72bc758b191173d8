use Rattle.std.proofs.lemmas.List.Elements.{Contains-push}
use Rattle.dr_store_sealed.specs.Seals.{first_seal}
use Rattle.dr_store_past.specs.Lines.{texts_behind}
use Rattle.dr_store_past.proofs.Growing.{lines_kept}
use Rattle.dr_store_past.proofs.Written.{clean_unwritten, clean_written, err_told, not_written}
use Rattle.dr_store_past.proofs.sealed.SealedFilesLedgerPast.write.Goals as goal

pub returns-clause-written : goal.returns-clause-written
returns-clause-written g c =
    let put = c.in_ok-last.ensures.put in
    record {
      written = put.kept;
      one = put.one;
      fit = c.in_ok-last.ensures.fit;
      counted = c.in_ok-last.ensures.counted;
      there = put.there;
      known = rw c.in_ok-push.ensures.items (Contains-push c.args.self.now.places.items c.args.self.now.seal);
    }

pub returns-clause-holds : goal.returns-clause-holds
returns-clause-holds g c before held =
    lines_kept g.F.Disk.Disk c.args.self.now.seal _ _ c.write_behind.ensures.keeps first_seal (texts_behind 0 before) held

pub returns-in_err-last-clause-holds : goal.returns-in_err-last-clause-holds
returns-in_err-last-clause-holds g c before held =
    lines_kept g.F.Disk.Disk c.args.self.now.seal _ _ c.write_behind.ensures.keeps first_seal (texts_behind 0 before) held

pub returns-clause-clean : goal.returns-clause-clean
returns-clause-clean g c clean =
    clean_unwritten g.F.Disk.Disk _ c.args.self.now.seal c.args.self.now.places.items _ _ c.write_behind.ensures.keeps c.args.self.now.there
    (rw c.in_ok-push.ensures.items at clean)

pub returns-clause-lasts : goal.returns-clause-lasts
returns-clause-lasts g c clean honest =
    rw c.in_ok-push.ensures.items
    (clean_written g.F.Disk.Disk _ c.args.self.now.seal c.args.self.now.places.items _ _ c.write_behind.ensures.keeps c.args.self.now.there honest clean)

pub returns-in_err-last-clause-clean : goal.returns-in_err-last-clause-clean
returns-in_err-last-clause-clean g c clean =
    clean_unwritten g.F.Disk.Disk _ c.args.self.now.seal c.args.self.now.places.items _ _ c.write_behind.ensures.keeps c.args.self.now.there
    (rw c.in_ok-push.ensures.items at clean)

pub returns-in_err-last-clause-lasts : goal.returns-in_err-last-clause-lasts
returns-in_err-last-clause-lasts g c clean honest =
    rw c.in_ok-push.ensures.items
    (clean_written g.F.Disk.Disk _ c.args.self.now.seal c.args.self.now.places.items _ _ c.write_behind.ensures.keeps c.args.self.now.there honest clean)

pub returns-in_err-last-clause-why : goal.returns-in_err-last-clause-why
returns-in_err-last-clause-why g c =
    err_told _ _ _ c.from_residual-in_err-last.ensures
    (rw c.in_ok-push.ensures.items
    (not_written g.F.Disk.Disk _ c.args.self.now.seal c.args.self.now.places.items _ _ c.write_behind.ensures.keeps c.args.self.now.there
    _ c.args.lines.now _ c.in_err-last.ensures.why))
