use Rattle.std.proofs.Common.{rules, ◌≡◌, sym, subst, arith}
use Rattle.sqlite_disk.specs.Disk.{Holds}
use Rattle.dr_store_sealed.specs.Lines.{mark_of}
use Rattle.dr_store_sealed.proofs.FileLemmas.{endures_fewer, on_ok}
use Rattle.dr_store_sealed.proofs.Refused.{fit_by_put}
use Rattle.dr_store_sealed.proofs.fitting.fit.Goals as goal

pub returns-clause-shows : goal.returns-clause-shows
returns-clause-shows g c from kept before holds =
    let same : g.D.Disk.seen c.test_end.new.file ≡ g.D.Disk.seen c.args.file.now = search rules in
    c.put_end.ensures.shows from kept before (subst (λ file. Holds file from kept) (sym same) holds)

pub returns-clause-keeps : goal.returns-clause-keeps
returns-clause-keeps g c from kept before old =
    let same : g.D.Disk.seen c.test_end.new.file ≡ g.D.Disk.seen c.args.file.now = search rules in
    c.put_end.ensures.keeps from kept before
    (endures_fewer from _ _ kept _ _ same (λ left may. c.len.ensures.crash left (c.test_end.ensures.leaves left may)) old)

pub returns-clause-ends : goal.returns-clause-ends
returns-clause-ends g c =
    on_ok c.put_end.result (λ clean some.
    let (at, place, holds) = c.in_ok-test_end.ensures.ends (c.put_end.ensures.clean clean) some in
    (at, place, c.put_end.ensures.shows at (mark_of c.args.seal.now.chain) (omega (arith, place)) holds))

pub returns-clause-why : goal.returns-clause-why
returns-clause-why g c =
    let same : g.D.Disk.faults c.test_end.new.file ≡ g.D.Disk.faults c.args.file.now = search rules in
    fit_by_put g.D.Disk c.args.seal.now c.args.file.now c.test_end.new.file c.put_end.new.file c.put_end.result same c.put_end.ensures.why
