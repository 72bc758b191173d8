use Rattle.std.proofs.Common.{List, subst, Err}
use Rattle.std.specs.Prelude.{map as mapped}
use Rattle.dr_site.specs.Sites.{IsCertified}
use Rattle.dr_ledger_history.specs.declared.line.JournalLine.{JournalLine}
use Rattle.dr_ledger_history.specs.Lines.{line_of}
use Rattle.dr_world_audit.specs.Readings.{IsRead, Reads}
use Rattle.dr_world_audit.proofs.Planned.{node_read, node_stops}
use Rattle.dr_world_audit.proofs.Stopping.{tested}
use Rattle.dr_world_audit.proofs.audit.read_node.Goals as goal

pub returns-in-Ok-read_journal : goal.returns-in-Ok-read_journal
returns-in-Ok-read_journal c =
    let plan = c.args.sealed.now.plan in
    let certificate = c.args.sealed.now.certificate in
    let certified : IsCertified plan certificate = record { formed = c.plan-plan.ensures.well_formed; sound = c.plan-plan.ensures.sound; certified = c.certificate-certificate.ensures.own } in
    let site = c.in-Ok-of.site in
    let P : List JournalLine → Type 0 = λ ls. IsRead plan site (mapped line_of ls) c.args.trail.now c.read_journal.new.trail in
    node_read plan certificate site certified c.in-Ok-of.ensures.1 c.args.ours.now.keys c.args.node.now c.in-Ok-of.ensures.0 c.args.trail.now c.read_journal.new.trail
    (subst P c.as_slice.ensures c.in-Ok-read_journal.ensures) (c.in-Ok.ensures plan)

pub returns : goal.returns
returns c =
    let plan = c.args.sealed.now.plan in
    let certificate = c.args.sealed.now.certificate in
    let certified : IsCertified plan certificate = record { formed = c.plan-plan.ensures.well_formed; sound = c.plan-plan.ensures.sound; certified = c.certificate-certificate.ensures.own } in
    let site = c.in-Ok-of.site in
    let P : List JournalLine → Type 0 = λ ls. Reads plan site (mapped line_of ls) c.args.trail.now c.read_journal.new.trail (Err c.in-Err-read_journal.fault) in
    node_stops plan certificate site certified c.in-Ok-of.ensures.1 c.args.ours.now.keys c.args.node.now c.in-Ok-of.ensures.0 c.args.trail.now c.read_journal.new.trail c.in-Err-read_journal.fault c.stop_of.result
    c.stop_of.ensures (subst P c.as_slice.ensures c.in-Err-read_journal.ensures)

pub returns-in-Err : goal.returns-in-Err
returns-in-Err c = tested c.args.sealed.now.plan c.args.ours.now.keys c.args.node.now c.args.trail.now c.args.trail.now c.in-Err.stop (c.in-Err.ensures c.args.sealed.now.plan)
