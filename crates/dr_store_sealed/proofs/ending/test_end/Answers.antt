use Rattle.std.proofs.Common.{rules, ◌≡◌, ◌+◌, ◌<◌, length, sym, subst, arith}
use Rattle.sqlite_disk.specs.Disk.{Holds}
use Rattle.dr_store_sealed.specs.Lines.{mark_of}
use Rattle.dr_store_sealed.proofs.FileLemmas.{ends_otherwise, ends_read}
use Rattle.dr_store_sealed.proofs.ending.test_end.Goals as goal

pub returns-clause-ends : goal.returns-clause-ends
returns-clause-ends g c clean =
    let found = c.in_ok-found.found.items in
    let seal = c.args.seal.now in
    let size : length found ≡ c.len-2.result = c.in_ok-found.ensures.size in
    let is : found ≡ mark_of seal.chain = search rules in
    let place : c.in-Some.at + length found ≡ seal.offset = search rules in
    let seen : g.D.Disk.seen c.read_piece.new.file ≡ g.D.Disk.seen c.args.file.now = search rules in
    ends_read _ found seal c.in-Some.at place is
    (λ some. subst (λ file. Holds file c.in-Some.at found) (sym seen) (c.in_ok-found.ensures.read clean (omega (arith, size, some))))

pub returns-then-not-are_alike-clause-why : goal.returns-then-not-are_alike-clause-why
returns-then-not-are_alike-clause-why g c clean =
    let found = c.in_ok-found.found.items in
    let seal = c.args.seal.now in
    let some : 0 < seal.offset = search rules in
    let size : length found ≡ length (mark_of seal.chain) = search rules in
    let place : c.in-Some.at + length (mark_of seal.chain) ≡ seal.offset = search rules in
    ends_otherwise _ found seal c.in-Some.at place some size (λ same. search rules)
    (c.in_ok-found.ensures.read clean (search rules))
