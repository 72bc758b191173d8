use Rattle.std.proofs.Common.{◌≡◌, ◌+◌, length, take, drop, sym, ◌∙◌, ap, subst, arith, rules}
use Rattle.sqlite_disk.specs.Disk.{Holds}
use Rattle.sqlite_disk.specs.Digest.{digest}
use Rattle.dr_store_bodies.proofs.PieceLemmas.{part_seen, part_read}
use Rattle.dr_store_bodies.proofs.bodies.Bodies.get_tested.Goals as goal

pub read_checked-requires-clause-want : goal.read_checked-requires-clause-want
read_checked-requires-clause-want g c clean =
    let (bytes, kept) = c.requires.kept clean in
    let held = kept.0 in
    let want = kept.1 in
    let here : c.in-Some.at ≡ c.args.extent.at + c.args.from = search rules in
    let seen = g.D.Disk.seen c.args.self.now.disk in
    let n = length c.args.buf.now in
    let part = part_seen seen bytes c.args.extent.at c.args.from held.now n (omega (arith, held.whole, c.requires.within)) in
    want ∙ ap (digest c.args.key) (sym part) ∙ ap (λ at. digest c.args.key (take n (drop at seen))) (sym here)

pub returns-clause-read : goal.returns-clause-read
returns-clause-read g c clean bytes held =
    let here : c.in-Some.at ≡ c.args.extent.at + c.args.from = search rules in
    let len : length c.read_checked.new.buf ≡ length c.args.buf.now = search rules in
    let seen = g.D.Disk.seen c.args.self.now.disk in
    part_read seen bytes c.args.extent.at c.args.from held.now c.read_checked.new.buf _ len (omega (arith, held.whole, c.requires.within))
    (subst (λ at. Holds seen at c.read_checked.new.buf) here (c.in_ok-read_checked.ensures.read clean))
