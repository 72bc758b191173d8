use Rattle.std.proofs.Common.{◌∙◌, ◌<◌, get_or, length, refl, sym, arith}
use Rattle.dr_word_audit_at.specs.Cuts.{cuts, lines_named}
use Rattle.dr_word_audit_at.proofs.CutJournals.{front_here, front_later}
use Rattle.dr_word_audit_at.proofs.Noted.{all_long, first_at, so_of}
use Rattle.dr_word_audit_at.proofs.moving.is_behind.Goals as goal

pub bounds-all-place : goal.bounds-all-place
bounds-all-place c = let long = all_long c.args.all.now c.args.read.now c.requires.first in omega (arith, long, c.loop-place-test.true)

pub returns-then-eq : goal.returns-then-eq
returns-then-eq c =
    let counts = c.args.counts.now in
    let read = c.args.read.now in
    let i = c.loop-place.place in
    let name = c.args.name.now in
    let node = c.index-read-place.result in
    let few : i < length counts = omega (arith, c.requires.same, c.loop-place-test.true) in
    let here = front_here counts read i 0 (get_or counts i 0) _ node few c.loop-place-test.true refl c.index-read-place.is name (lines_named name (cuts counts read)) (sym c.eq.ensures ∙ c.if-eq.true) c.loop-place.invariant in
    let first = first_at c.args.all.now read i _ c.index-all-place.result _ node c.requires.first c.loop-place-test.true c.index-all-place.is c.index-read-place.is in
    so_of c.said_behind.result c.args.missing.now _ (lines_named name (cuts counts read)) here (c.said_behind.ensures node.lines first)

pub loop-place-preserved : goal.loop-place-preserved
loop-place-preserved c =
    let counts = c.args.counts.now in
    let read = c.args.read.now in
    let i = c.loop-place.place in
    let name = c.args.name.now in
    let few : i < length counts = omega (arith, c.requires.same, c.loop-place-test.true) in
    front_later counts read i 0 (get_or counts i 0) _ c.index-read-place.result few c.loop-place-test.true refl c.index-read-place.is name (lines_named name (cuts counts read)) (sym c.eq.ensures ∙ c.if-eq.false) c.loop-place.invariant
