use Rattle.std.proofs.Common.{subst}
use Rattle.dr_store_calls.specs.Owners.{IsPlanWith}
use Rattle.dr_store_calls.proofs.Owners.{both_behind, never, none_behind, other_digest, too_short}
use Rattle.dr_store_calls.proofs.owning.mark_for.Goals as goal

pub returns-in_default : goal.returns-in_default
returns-in_default c = λ mark seal. too_short c.args.cell.now c.in_default.ensures.cases mark seal c.args.digest.now

pub returns-then-not-is_same : goal.returns-then-not-is_same
returns-then-not-is_same c = other_digest c.args.cell.now c.in-Some.front.now c.in-Some.rest.now c.in-Some.ensures.cases c.args.digest.now (never _ c.is_same.ensures c.if-not-is_same.true)

pub returns-in-None : goal.returns-in-None
returns-in-None c = λ mark seal. none_behind c.args.cell.now c.in-Some.front.now c.in-Some.rest.now c.in-Some.ensures.cases c.in-None.ensures mark seal c.args.digest.now

pub returns-in-Some-split_rest : goal.returns-in-Some-split_rest
returns-in-Some-split_rest c =
    let mark = c.in-Some-split_rest.mark.now in
    let seal = c.in-Some-split_rest.seal.now in
    subst (λ d. IsPlanWith mark seal d c.args.cell.now) (c.is_same.ensures.0 c.if-not-is_same.false)
    (both_behind c.args.cell.now c.in-Some.front.now c.in-Some.rest.now c.in-Some.ensures.cases mark seal c.in-Some-split_rest.ensures)
