use Rattle.std.proofs.Common.{◌≡◌, Option, Some, rules, subst}
use Rattle.sqlite.specs.Held.{state}
use Rattle.sqlite.specs.Tree.{Trees}
use Rattle.dr_store_writes.specs.Effects.{IsSiteOf}
use Rattle.dr_store_reads.specs.Queries.{IsOwnerOf}
use Rattle.dr_store_reads.specs.declared.finding.Owner.{Owner}
use Rattle.dr_store_calls.proofs.Calls.{asked_looked}
use Rattle.dr_store_calls.proofs.Changes.{looked_adopted, looked_none, looked_only}
use Rattle.dr_store_calls.proofs.adopting.adopt.Goals as goal

pub returns-in-Ok-Some-clause-adopted : goal.returns-in-Ok-Some-clause-adopted
returns-in-Ok-Some-clause-adopted g c part =
    let n = c.args.n in
    let owner = c.in-Ok-Some.owner in
    let old = state g.S.Store c.args.conn.now in
    let mid = state g.S.Store c.find_owner.new.conn in
    let new = state g.S.Store c.adopt_from.new.conn in
    let Shows : Trees → Option Owner → Type 0 = λ base. IsOwnerOf base in
    let is : c.in-Ok-Some.field-0 ≡ Some owner = search rules in
    looked_adopted n part c.args.next.now old mid new Shows c.in-Ok-Some.field-0 c.adopt_from.result (IsSiteOf owner.node owner.plan) (asked_looked n part _ old mid Shows c.in-Ok-Some.ensures.asked) (c.adopt_from.ensures.adopted part)
    (λ db shown. subst (IsOwnerOf db) is shown)

pub returns-in-Ok-None-clause-adopted : goal.returns-in-Ok-None-clause-adopted
returns-in-Ok-None-clause-adopted g c part =
    let n = c.args.n in
    let old = state g.S.Store c.args.conn.now in
    let new = state g.S.Store c.find_owner.new.conn in
    let Shows : Trees → Option Owner → Type 0 = λ base. IsOwnerOf base in
    looked_only n part c.args.next.now old new Shows c.in-Ok-None.field-0 (asked_looked n part _ old new Shows c.in-Ok-None.ensures.asked)

pub returns-in-Err-clause-adopted : goal.returns-in-Err-clause-adopted
returns-in-Err-clause-adopted g c part =
    let n = c.args.n in
    let old = state g.S.Store c.args.conn.now in
    let new = state g.S.Store c.find_owner.new.conn in
    let Shows : Trees → Option Owner → Type 0 = λ base. IsOwnerOf base in
    looked_none n part c.args.next.now old new Shows c.in-Err.fault (asked_looked n part _ old new Shows c.in-Err.ensures.asked)
