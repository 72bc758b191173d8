use Rattle.std.proofs.Common.{map}
use Rattle.dr_plan_expand.specs.Words.{YieldsClass, YieldsClasses, IsSet, entries, of_sets}
use Rattle.dr_plan_expand.proofs.Worded.{ok_as, none_as, marked, of_marked, unmarked, of_unmarked}
use Rattle.dr_plan_expand.proofs.words.ClassesYielding.things.Goals as goal

pub returns-in-Some-clause-ok : goal.returns-in-Some-clause-ok
returns-in-Some-clause-ok c =
    let table = map entries c.args.self.now.0.now in
    let usual = map of_sets c.args.self.now.1.now in
    ok_as (IsSet table usual c.args.self.now.2.now c.in-Some.name.now) (YieldsClasses table usual c.args.self.now.2.now c.args.word.now) c.set_of.result
    (marked table usual c.args.self.now.2.now c.args.word.now c.in-Some.name.now (rw c.as_bytes.ensures at c.in-Some.ensures)) c.set_of.ensures.ok

pub returns-in-Some-clause-unknown : goal.returns-in-Some-clause-unknown
returns-in-Some-clause-unknown c =
    let table = map entries c.args.self.now.0.now in
    let usual = map of_sets c.args.self.now.1.now in
    none_as (IsSet table usual c.args.self.now.2.now c.in-Some.name.now) (YieldsClasses table usual c.args.self.now.2.now c.args.word.now) c.set_of.result
    (of_marked table usual c.args.self.now.2.now c.args.word.now c.in-Some.name.now (rw c.as_bytes.ensures at c.in-Some.ensures)) c.set_of.ensures.unknown

pub returns-in-None-clause-ok : goal.returns-in-None-clause-ok
returns-in-None-clause-ok c =
    let table = map entries c.args.self.now.0.now in
    let usual = map of_sets c.args.self.now.1.now in
    ok_as (YieldsClass table c.args.word.now) (YieldsClasses table usual c.args.self.now.2.now c.args.word.now) c.things.result
    (unmarked table usual c.args.self.now.2.now c.args.word.now (rw c.as_bytes.ensures at c.in-None.ensures)) c.things.ensures.ok

pub returns-in-None-clause-unknown : goal.returns-in-None-clause-unknown
returns-in-None-clause-unknown c =
    let table = map entries c.args.self.now.0.now in
    let usual = map of_sets c.args.self.now.1.now in
    none_as (YieldsClass table c.args.word.now) (YieldsClasses table usual c.args.self.now.2.now c.args.word.now) c.things.result
    (of_unmarked table usual c.args.self.now.2.now c.args.word.now (rw c.as_bytes.ensures at c.in-None.ensures)) c.things.ensures.unknown
