use Rattle.sqlite.specs.Held.{state}
use Rattle.dr_store_open.specs.Renewing.{IsMadeBy, IsMadeWith}
use Rattle.dr_store_open.proofs.Filling.{leaves_more}
use Rattle.dr_store_open.proofs.Opens.{begun_head, head_again}
use Rattle.dr_store_open.proofs.opening.make_new.Goals as goal

pub returns-in-Ok-clause-crash : goal.returns-in-Ok-clause-crash
returns-in-Ok-clause-crash g c clean =
    let part = c.args.site.now in
    let mark = c.in-Ok.beside.1.items in
    leaves_more (state g.S.Store c.args.conn.now) (state g.S.Store c.make_with.new.conn) (IsMadeWith mark part) (IsMadeBy part)
    (λ d made. (mark, made)) (c.make_with.ensures.crash clean)

pub returns-in-Ok-clause-begun : goal.returns-in-Ok-clause-begun
returns-in-Ok-clause-begun g c file =
    let it = c.in-Ok.ensures.file file in
    head_again g.F.Disk.Disk.seen c.in-Ok.beside.0 c.make_with.result
    (begun_head g.F.Disk.Disk.seen g.F.Disk.Disk.may_leave it.0 c.in-Ok.beside.0 it.2) c.make_with.ensures.disk
