use Rattle.std.proofs.Common.{Option, subst}
use Rattle.dr_ledger.specs.Adopting.{Unfits}
use Rattle.dr_ledger.specs.Pairs.{Pair}
use Rattle.dr_world.proofs.Adopting.{fits_still}
use Rattle.dr_world.proofs.Listed.{same_node}
use Rattle.dr_world.proofs.changing.test_fit.Goals as goal

pub returns-in-Ok-None-clause-same : goal.returns-in-Ok-None-clause-same
returns-in-Ok-None-clause-same g c =
    same_node c.args.node.now c.unfit.new.self c.unfit.ensures.reads c.unfit.ensures.rest

pub returns-in-Ok-None-clause-fit : goal.returns-in-Ok-None-clause-fit
returns-in-Ok-None-clause-fit g c =
    let next = c.args.next.now.plan in
    let old = c.args.node.now in
    let same = same_node old c.unfit.new.self c.unfit.ensures.reads c.unfit.ensures.rest in
    let P : Option Pair → Type 0 =
    λ found. Unfits next (g.L.Ledger.site old.desk.ledger).name
    (g.L.Ledger.book old.desk.ledger) found in
    fits_still next old c.unfit.new.self same
    (λ s. subst P c.in-Ok-None.field-0-is (c.in-Ok-None.ensures.reply s))

pub returns-in-Ok-Some-clause-same : goal.returns-in-Ok-Some-clause-same
returns-in-Ok-Some-clause-same g c =
    same_node c.args.node.now c.unfit.new.self c.unfit.ensures.reads c.unfit.ensures.rest

pub returns-in-Err-clause-same : goal.returns-in-Err-clause-same
returns-in-Err-clause-same g c =
    same_node c.args.node.now c.unfit.new.self c.unfit.ensures.reads c.unfit.ensures.rest
