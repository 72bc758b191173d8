use Rattle.std.proofs.Common.{◌≡◌, ◌+◌, Option, Some, rules, subst}
use Rattle.sqlite.specs.Held.{state}
use Rattle.sqlite.specs.Tree.{Trees}
use Rattle.dr_store_writes.specs.Effects.{IsSiteOf}
use Rattle.dr_store_reads.specs.Queries.{IsOwnerOf}
use Rattle.dr_store_reads.specs.declared.finding.Owner.{Owner}
use Rattle.dr_store_calls.proofs.Calls.{asked_looked}
use Rattle.dr_store_calls.proofs.Sealings.{looked_failed, looked_sealed, looked_still}
use Rattle.dr_store_calls.proofs.sealing.seal_to.Goals as goal

pub returns-in-Ok-Some-clause-sealed : goal.returns-in-Ok-Some-clause-sealed
returns-in-Ok-Some-clause-sealed g c =
    let part = c.args.site.now in
    let last = c.args.last.now in
    let n = last.count + 1 in
    let owner = c.in-Ok-Some.owner in
    let old = state g.S.Store c.args.conn.now in
    let mid = state g.S.Store c.find_owner.new.conn in
    let new = state g.S.Store c.seal_for.new.conn in
    let Shows : Trees → Option Owner → Type 0 = λ base. IsOwnerOf base in
    let is : c.in-Ok-Some.field-0 ≡ Some owner = search rules in
    looked_sealed n part last old mid new Shows c.in-Ok-Some.field-0 c.seal_for.result (IsSiteOf owner.node owner.plan) (asked_looked n part _ old mid Shows c.in-Ok-Some.ensures.asked) c.seal_for.ensures.sealed
    (λ db shown. subst (IsOwnerOf db) is shown)

pub returns-in-Ok-None-clause-sealed : goal.returns-in-Ok-None-clause-sealed
returns-in-Ok-None-clause-sealed g c =
    let part = c.args.site.now in
    let last = c.args.last.now in
    let n = last.count + 1 in
    let old = state g.S.Store c.args.conn.now in
    let new = state g.S.Store c.find_owner.new.conn in
    let Shows : Trees → Option Owner → Type 0 = λ base. IsOwnerOf base in
    looked_still n part last old new Shows c.in-Ok-None.field-0 (asked_looked n part _ old new Shows c.in-Ok-None.ensures.asked)

pub returns-in-Err-clause-sealed : goal.returns-in-Err-clause-sealed
returns-in-Err-clause-sealed g c =
    let part = c.args.site.now in
    let last = c.args.last.now in
    let n = last.count + 1 in
    let old = state g.S.Store c.args.conn.now in
    let new = state g.S.Store c.find_owner.new.conn in
    let Shows : Trees → Option Owner → Type 0 = λ base. IsOwnerOf base in
    looked_failed n part last old new Shows c.in-Err.fault (asked_looked n part _ old new Shows c.in-Err.ensures.asked)
