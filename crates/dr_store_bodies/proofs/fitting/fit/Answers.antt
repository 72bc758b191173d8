use Rattle.std.proofs.Common.{rules, ◌≡◌, ◌^◌, ◌<◌, length, subst}
use Rattle.dr_store_bodies.specs.Extents.{AreFit}
use Rattle.dr_store_bodies.proofs.fitting.fit.Goals as goal

pub returns-in_default-clause-why : goal.returns-in_default-clause-why
returns-in_default-clause-why g c clean fit =
    let same : length (g.D.Disk.seen c.args.file.now) ≡ c.in_ok-size.size = search rules in
    let named : c.in_ok-size.size < 2 ^ 64 = search rules in
    c.in_default.ensures.unfit c.in_ok-size.size named (subst (AreFit c.args.list.now) same fit)
