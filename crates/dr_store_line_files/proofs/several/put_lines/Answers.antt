use Rattle.std.proofs.Common.{refl, IsTrue}
use Rattle.dr_store_line_files.proofs.Kept.{all_after, err_told, filed_among, kept_among, refused_among, same_faults}
use Rattle.dr_store_line_files.proofs.several.put_lines.Goals as goal

pub returns-clause-filed : goal.returns-clause-filed
returns-clause-filed g c =
    filed_among g.D.Disk c.args.disks.now.items c.args.place.now.number c.requires.there _ c.put_here.new.file c.index_mut.ensures.value
    c.args.place.now _ refl c.in_ok-last.ensures.filed

pub returns-clause-keeps : goal.returns-clause-keeps
returns-clause-keeps g c =
    kept_among g.D.Disk c.args.disks.now.items c.args.place.now.number c.requires.there _ c.put_here.new.file c.index_mut.ensures.value
    c.args.place.now refl c.put_here.ensures.keeps

pub returns-in_err-last-clause-keeps : goal.returns-in_err-last-clause-keeps
returns-in_err-last-clause-keeps g c =
    kept_among g.D.Disk c.args.disks.now.items c.args.place.now.number c.requires.there _ c.put_here.new.file c.index_mut.ensures.value
    c.args.place.now refl c.put_here.ensures.keeps

pub returns-clause-usable : goal.returns-clause-usable
returns-clause-usable g c used =
    all_after g.D.Disk c.args.disks.now.items c.args.place.now.number c.requires.there _ c.put_here.new.file c.index_mut.ensures.value
    (λ d. IsTrue (g.D.Disk.is_usable d)) (λ was. c.in_ok-last.ensures.usable) used

pub returns-clause-faults : goal.returns-clause-faults
returns-clause-faults g c =
    same_faults g.D.Disk c.args.disks.now.items c.args.place.now.number c.requires.there _ c.put_here.new.file c.index_mut.ensures.value
    c.in_ok-last.ensures.faults

pub returns-in_err-last-clause-why : goal.returns-in_err-last-clause-why
returns-in_err-last-clause-why g c =
    err_told _ _ _ c.from_residual.ensures
    (refused_among g.D.Disk c.args.disks.now.items c.args.place.now.number c.requires.there _ c.put_here.new.file c.index_mut.ensures.value
    c.args.place.now c.args.lines.now refl _ c.in_err-last.ensures.why)
