use Rattle.std.proofs.Common.{◌≡◌, subst, sym, rules}
use Rattle.dr_store_data.specs.Heads.{HasHead}
use Rattle.dr_store_data.proofs.Opens.{is_opened}
use Rattle.dr_store_data.proofs.opening.open_in.Goals as goal

pub returns-in-Ok-clause-opened : goal.returns-in-Ok-clause-opened
returns-in-Ok-clause-opened g c =
    is_opened c.args.list.items c.in_ok-all.all.items _ c.in_ok-all.ensures c.in-Ok.ensures.listed c.in-Ok.ensures.filled c.in-Ok.ensures.apart

pub returns-in-Ok-clause-marked : goal.returns-in-Ok-clause-marked
returns-in-Ok-clause-marked g c = λ clean.
    let mark = c.args.mark.now.mark in
    let was : HasHead mark (g.D.Disk.seen c.args.file) = search rules in
    let same : g.D.Disk.seen c.in-Ok.shelf.bodies.disk ≡ g.D.Disk.seen c.args.file = search rules in
    subst (HasHead mark) (sym same) was
