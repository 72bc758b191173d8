use Rattle.std.proofs.Common.{◌∙◌, ◌<◌, ◌≤◌, List, drop, get_or, length, refl, sym, ap, subst, arith}
use Rattle.dr_ledger_history.specs.declared.line.JournalLine.{JournalLine}
use Rattle.dr_word_audit_at.specs.Cuts.{MendsNowhere, rest_named}
use Rattle.dr_word_audit_at.proofs.CutJournals.{found_cut, no_rest, put_here, put_later, rest_here, rest_later}
use Rattle.dr_word_audit_at.proofs.cutting.next_cut.Goals as goal

pub loop-place-preserved : goal.loop-place-preserved
loop-place-preserved c =
    let counts = c.args.counts.now in
    let read = c.args.read.now in
    let i = c.loop-place.place in
    let few : i < length counts = omega (arith, c.requires, c.loop-place-test.true) in (
      rest_later counts read i 0 (get_or counts i 0) _ c.index-read-place.result few c.loop-place-test.true refl c.index-read-place.is c.args.name.now (rest_named c.args.name.now counts read) (sym c.eq.ensures ∙ c.if-eq.false) c.loop-place.invariant.0,
      put_later counts read i 0 (get_or counts i 0) _ c.index-read-place.result few c.loop-place-test.true refl c.index-read-place.is c.args.name.now (sym c.eq.ensures ∙ c.if-eq.false) c.loop-place.invariant.1,
    )

pub returns-then-eq : goal.returns-then-eq
returns-then-eq c =
    let counts = c.args.counts.now in
    let read = c.args.read.now in
    let i = c.loop-place.place in
    let few : i < length counts = omega (arith, c.requires, c.loop-place-test.true) in
    let rest = rest_named c.args.name.now counts read in
    let same = sym c.eq.ensures ∙ c.if-eq.true in
    let here = rest_here counts read i 0 (get_or counts i 0) _ c.index-read-place.result few c.loop-place-test.true refl c.index-read-place.is c.args.name.now rest same c.loop-place.invariant.0 in
    let put = put_here counts read i 0 (get_or counts i 0) _ c.index-read-place.result few c.loop-place-test.true refl c.index-read-place.is c.args.name.now same c.loop-place.invariant.1 in
    found_cut c.args.missing.now c.args.name.now counts read i (get_or counts i 0) c.as_slice.result.now rest c.cut_behind.result few (here ∙ ap (λ (ls : List JournalLine). drop (get_or counts i 0) ls) (sym c.as_slice.ensures)) put c.cut_behind.ensures

pub returns : goal.returns
returns c =
    let counts = c.args.counts.now in
    let read = c.args.read.now in
    let i = c.loop-place.place in
    let rest = rest_named c.args.name.now counts read in
    let over : length read ≤ i = omega (arith, c.loop-place-test.false) in
    subst (MendsNowhere c.args.missing.now) (sym (no_rest c.args.name.now counts read i rest over c.loop-place.invariant.0)) tt
