use Rattle.std.proofs.Common.{◌∙◌, ◌++◌, List, subst, ap}
use Rattle.std.specs.Prelude.{Option, Err}
use Rattle.dr_world_audit.specs.declared.audit.Mismatch.{Mismatch}
use Rattle.dr_world_audit.specs.declared.audit.AuditStop.{AuditStop}
use Rattle.dr_world_audit.specs.declared.trail.Trail.{Trail}
use Rattle.dr_world_audit.specs.declared.hop.AuditHop.{AuditHop as Held}
use Rattle.dr_world_audit.specs.Hops.{held}
use Rattle.dr_world_audit.specs.Sites.{Audits, all_came, all_done, all_sent}
use Rattle.dr_world_audit.specs.Stops.{Compares, IsFaultOf, IsVerdictOf, ReadsAll, Refuses}
use Rattle.dr_world_audit.proofs.Deciding.{holds, mismatches, one_fails}
use Rattle.dr_world_audit.proofs.Stopping.{faulted, if_so, stopped}
use Rattle.dr_world_audit.proofs.audit.audit.Goals as goal

pub returns-in-Err : goal.returns-in-Err
returns-in-Err c =
    let plan = c.args.sealed.now.plan in
    let nodes = c.args.nodes.now in
    let keys = c.in_ok-ours.ours.keys in
    let old : Trail = record { came = c.new.result; sent = c.new-2.result; done = c.new-3.result } in
    let P : AuditStop → Type 0 = λ s. ReadsAll plan keys nodes old c.read_all.new.trail (Err s) in
    if_so (IsVerdictOf c.in-Err.stop) (Audits plan nodes) (IsFaultOf c.in-Err.stop) (Refuses plan nodes) c.verdict_of.result c.verdict_of.ensures
    (λ v is. stopped (Audits plan nodes) c.in-Err.stop v is (λ told same.
    let u = subst P same c.in-Err.ensures in
    one_fails plan nodes c.in_ok-ours.ensures.apart keys c.in_ok-ours.ensures.same u.0 told u.1 u.2))
    (λ why is. faulted (Refuses plan nodes) c.in-Err.stop why is (λ other same. subst P same c.in-Err.ensures))

pub returns-in-Some : goal.returns-in-Some
returns-in-Some c =
    let plan = c.args.sealed.now.plan in
    let nodes = c.args.nodes.now in
    let keys = c.in_ok-ours.ours.keys in
    let notes = c.in-Ok.ensures.notes in
    let came = notes.arrivals ∙ ap (λ (hs : List Held). hs ++ held (all_came nodes)) c.new.ensures.items in
    let sent = notes.reasons ∙ ap (λ (hs : List Held). hs ++ held (all_sent plan nodes)) c.new-2.ensures.items in
    let done = notes.successes ∙ ap (λ (hs : List Held). hs ++ held (all_done nodes)) c.new-3.ensures.items in
    let P : List Held × List Held × List Held × Option Mismatch → Type 0 = λ p. Compares keys p.0 p.1 p.2 p.3 in
    mismatches plan nodes c.in_ok-ours.ensures.apart keys c.in_ok-ours.ensures.same c.in-Ok.ensures.each c.in-Some.mismatch (subst P (λ j. (came j, sent j, done j, c.in-Some.is j)) c.in_ok-mismatch.ensures)

pub returns : goal.returns
returns c =
    let plan = c.args.sealed.now.plan in
    let nodes = c.args.nodes.now in
    let keys = c.in_ok-ours.ours.keys in
    let notes = c.in-Ok.ensures.notes in
    let came = notes.arrivals ∙ ap (λ (hs : List Held). hs ++ held (all_came nodes)) c.new.ensures.items in
    let sent = notes.reasons ∙ ap (λ (hs : List Held). hs ++ held (all_sent plan nodes)) c.new-2.ensures.items in
    let done = notes.successes ∙ ap (λ (hs : List Held). hs ++ held (all_done nodes)) c.new-3.ensures.items in
    let P : List Held × List Held × List Held × Option Mismatch → Type 0 = λ p. Compares keys p.0 p.1 p.2 p.3 in
    holds plan nodes c.in_ok-ours.ensures.apart keys c.in_ok-ours.ensures.same c.plan-plan.ensures.sound c.in-Ok.ensures.each (subst P (λ j. (came j, sent j, done j, c.in-None.is j)) c.in_ok-mismatch.ensures)
