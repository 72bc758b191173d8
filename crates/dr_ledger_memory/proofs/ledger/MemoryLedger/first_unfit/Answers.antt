use Rattle.std.proofs.Common.{List, None, Some, sym, subst}
use Rattle.dr_base.specs.Texts.{Text}
use Rattle.dr_ledger.specs.Adopting.{Unfits}
use Rattle.dr_ledger.specs.Pairs.{Pair}
use Rattle.dr_ledger_memory.specs.declared.held.Held.{Held as Entry}
use Rattle.dr_ledger_memory.specs.Contents.{content}
use Rattle.dr_ledger_memory.specs.Unfits.{UnfitsIn}
use Rattle.dr_ledger_memory.proofs.Fitting.{AreLeft, fewer, first_unfit, none_unfit}
use Rattle.dr_ledger_memory.proofs.ledger.MemoryLedger.first_unfit.Goals as goal

pub returns-in-Some-unfit_row : goal.returns-in-Some-unfit_row
returns-in-Some-unfit_row c =
    let l = c.args.self.now in
    let plan = c.args.next.now.plan in
    let dest = c.in-Some-unfit_row.dest.now in
    let P : List (Text × Entry) → Type 0 = λ es. AreLeft plan l.site.name l.parts l.ordered es in
    let Q : Text → Type 0 = λ name. UnfitsIn plan name c.in-Some.entry.now (Some dest) in
    let R : Pair → Type 0 = λ k. Unfits plan l.site.name (content l.parts) (Some k) in
    subst R (λ j. (sym c.in_ok-clone.ensures j, sym c.in_ok-clone-2.ensures j))
    (first_unfit plan l.site.name l.parts l.ordered (c.in-Some.uid.now, c.in-Some.entry.now) c.next.new.self dest (subst P c.in-Some.ensures.steps c.loop-uid.invariant)
    (subst Q c.name.ensures c.in-Some-unfit_row.ensures))

pub loop-uid-preserved : goal.loop-uid-preserved
loop-uid-preserved c =
    let l = c.args.self.now in
    let plan = c.args.next.now.plan in
    let P : List (Text × Entry) → Type 0 = λ es. AreLeft plan l.site.name l.parts l.ordered es in
    let Q : Text → Type 0 = λ name. UnfitsIn plan name c.in-Some.entry.now None in
    fewer plan l.site.name l.parts l.ordered (c.in-Some.uid.now, c.in-Some.entry.now) c.next.new.self (subst P c.in-Some.ensures.steps c.loop-uid.invariant) (subst Q c.name.ensures c.in_default.ensures)

pub returns : goal.returns
returns c =
    let l = c.args.self.now in
    let plan = c.args.next.now.plan in
    let P : List (Text × Entry) → Type 0 = λ es. AreLeft plan l.site.name l.parts l.ordered es in
    none_unfit plan l.site.name l.parts l.ordered (subst P c.in-None.ensures.steps.0 c.loop-uid.invariant)
