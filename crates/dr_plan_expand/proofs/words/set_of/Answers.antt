use Rattle.std.proofs.Common.{map}
use Rattle.std.specs.Prelude.{◌≢◌, []}
use Rattle.dr_plan_expand.specs.Lists.{Yields}
use Rattle.dr_plan_expand.specs.Words.{YieldsClass, YieldsOfSet, IsSet, entries, of_sets}
use Rattle.dr_plan_expand.proofs.Worded.{ok_as, none_as, none_pair_as, own_set, of_own_set, other_set, of_other_set}
use Rattle.dr_plan_expand.proofs.words.set_of.Goals as goal

pub returns-in-Some-clause-ok : goal.returns-in-Some-clause-ok
returns-in-Some-clause-ok c =
    let table = map entries c.args.classes.now.0.now in
    let usual = map of_sets c.args.classes.now.1.now in
    ok_as (Yields (YieldsClass table) c.in-Some.words.now) (IsSet table usual c.args.classes.now.2.now c.args.name.now) c.all.result
    (own_set table usual c.args.classes.now.2.now c.args.name.now c.in-Some.words.now c.in-Some.ensures) c.all.ensures.ok

pub returns-in-Some-clause-unknown : goal.returns-in-Some-clause-unknown
returns-in-Some-clause-unknown c =
    let table = map entries c.args.classes.now.0.now in
    let usual = map of_sets c.args.classes.now.1.now in
    none_as (Yields (YieldsClass table) c.in-Some.words.now) (IsSet table usual c.args.classes.now.2.now c.args.name.now) c.all.result
    (of_own_set table usual c.args.classes.now.2.now c.args.name.now c.in-Some.words.now c.in-Some.ensures) c.all.ensures.unknown

pub returns-in-None-clause-ok : goal.returns-in-None-clause-ok
returns-in-None-clause-ok c =
    let table = map entries c.args.classes.now.0.now in
    let usual = map of_sets c.args.classes.now.1.now in
    ok_as (λ uids. Yields (Yields (YieldsOfSet c.args.name.now)) usual uids × (uids ≢ [])) (IsSet table usual c.args.classes.now.2.now c.args.name.now) c.usual_set.result
    (other_set table usual c.args.classes.now.2.now c.args.name.now c.in-None.ensures) c.usual_set.ensures.ok

pub returns-in-None-clause-unknown : goal.returns-in-None-clause-unknown
returns-in-None-clause-unknown c =
    let table = map entries c.args.classes.now.0.now in
    let usual = map of_sets c.args.classes.now.1.now in
    none_pair_as (Yields (YieldsOfSet c.args.name.now)) usual (IsSet table usual c.args.classes.now.2.now c.args.name.now) c.usual_set.result
    (of_other_set table usual c.args.classes.now.2.now c.args.name.now c.in-None.ensures) c.usual_set.ensures.unknown
