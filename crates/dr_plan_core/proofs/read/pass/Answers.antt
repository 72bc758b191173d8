use Rattle.std.proofs.Common.{refl}
use Rattle.std.proofs.lemmas.Bool.{false≢true}
use Rattle.dr_plan_core.specs.Reading.{HasGoodNames}
use Rattle.dr_plan_core.proofs.EachNames.{knows, is_known}
use Rattle.dr_plan_core.proofs.read.pass.Goals as goal

pub returns-then-not-each_name-2 : goal.returns-then-not-each_name-2
returns-then-not-each_name-2 c =
    let told = rw (c.in-Some.is, c.as_slice.ensures) at c.in_ok-names.ensures.names in
    let good : HasGoodNames c.args.plan.now = record { formed = c.if-not-each_name.ensures.0 refl; apart = told.0 } in (
      c.if-not-knows_syntaxes.ensures.0 refl,
      good,
      c.if-not-is_within_limits.ensures.0 refl,
      λ each. false≢true (c.if-not-each_name-2.ensures.1 (is_known c.args.plan.now c.in-Some.names told.1 each)),
    )

pub returns-then-not-sends_elsewhere : goal.returns-then-not-sends_elsewhere
returns-then-not-sends_elsewhere c =
    let told = rw (c.in-Some.is, c.as_slice.ensures) at c.in_ok-names.ensures.names in
    let good : HasGoodNames c.args.plan.now = record { formed = c.if-not-each_name.ensures.0 refl; apart = told.0 } in (
      c.if-not-knows_syntaxes.ensures.0 refl,
      good,
      c.if-not-is_within_limits.ensures.0 refl,
      knows c.args.plan.now c.in-Some.names told.1 (c.if-not-each_name-2.ensures.0 refl),
      λ all. false≢true (c.if-not-sends_elsewhere.ensures.1 all),
    )

pub returns : goal.returns
returns c =
    let told = rw (c.in-Some.is, c.as_slice.ensures) at c.in_ok-names.ensures.names in
    let good : HasGoodNames c.args.plan.now = record { formed = c.if-not-each_name.ensures.0 refl; apart = told.0 } in (
      c.if-not-knows_syntaxes.ensures.0 refl,
      good,
      c.if-not-is_within_limits.ensures.0 refl,
      knows c.args.plan.now c.in-Some.names told.1 (c.if-not-each_name-2.ensures.0 refl),
      c.if-not-sends_elsewhere.ensures.0 refl,
    )
