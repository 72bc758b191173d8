use Rattle.std.proofs.Common.{IsTrue}
use Rattle.sqlite_disk.specs.Disk.{Only}
use Rattle.dr_store_line_files.proofs.Kept.{all_after, all_before}
use Rattle.dr_store_past.proofs.Fitted.{fitted}
use Rattle.dr_store_past.proofs.sealed.SealedFiles.over.Goals as goal

pub returns-clause-shows : goal.returns-clause-shows
returns-clause-shows g c all it =
    fitted g.F.Disk.Disk all c.args.disks.items c.args.seal c.requires _ c.fit.new.file c.index_mut.ensures.value c.fit.ensures.shows c.in_ok-fit.ensures.cut it

pub returns-clause-synced : goal.returns-clause-synced
returns-clause-synced g c =
    all_after g.F.Disk.Disk c.args.disks.items c.args.seal.number c.requires _ c.fit.new.file c.index_mut.ensures.value
    (λ d. Only (g.F.Disk.Disk.seen d) (g.F.Disk.Disk.may_leave d)) (λ was. c.in_ok-fit.ensures.synced)

pub returns-clause-clean : goal.returns-clause-clean
returns-clause-clean g c =
    all_before g.F.Disk.Disk c.args.disks.items c.args.seal.number c.requires _ c.fit.new.file c.index_mut.ensures.value
    (λ d. IsTrue (g.F.Disk.Disk.is_clean d)) c.fit.ensures.clean

pub returns-clause-usable : goal.returns-clause-usable
returns-clause-usable g c =
    all_after g.F.Disk.Disk c.args.disks.items c.args.seal.number c.requires _ c.fit.new.file c.index_mut.ensures.value
    (λ d. IsTrue (g.F.Disk.Disk.is_usable d)) (λ was. c.in_ok-fit.ensures.usable)
