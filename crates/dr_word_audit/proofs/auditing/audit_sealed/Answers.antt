use Rattle.std.proofs.Common.{◌≡◌, ◌∙◌, inl, inr, sym, subst, ap, List}
use Rattle.dr_base.specs.Texts.{Text}
use Rattle.dr_plan_model.specs.Networks.{Network}
use Rattle.dr_plan_model.specs.Plans.{NamesNoNode}
use Rattle.dr_run_open.specs.declared.halt.Halt.{Halt}
use Rattle.dr_word_audit.specs.Audits.{IsMissing, IsStop}
use Rattle.dr_word_adopt.specs.Names.{AreNodes}
use Rattle.dr_word_audit.specs.Names.{our_names}
use Rattle.dr_word_audit.specs.Readings.{AreGathered}
use Rattle.dr_word_audit.specs.declared.audited.Audited.TheVariants.{No}
use Rattle.dr_word_audit.specs.declared.reading.Gathering.{Gathering}
use Rattle.dr_word_audit.proofs.Apart.{of_nodes, ours_known}
use Rattle.dr_word_audit.proofs.Stopped.{stop_known}
use Rattle.dr_word_audit.proofs.auditing.audit_sealed.Goals as goal

pub returns-in-Some : goal.returns-in-Some
returns-in-Some g c =
    let none = subst (λ (p : Network). NamesNoNode p c.in-Some.name.now) c.plan.ensures.same c.in-Some.ensures.1 in
    let P : Halt → Type 0 = λ halt. IsStop c.args.sealed.now.plan c.args.others.now halt in
    subst P (sym c.at.ensures) (c.in-Some.name.now, c.in-Some.ensures.0, none)

pub returns-in-Ok-Missing : goal.returns-in-Ok-Missing
returns-in-Ok-Missing g c =
    let plan = c.args.sealed.now.plan in
    let others = c.args.others.now in
    let all : c.as_slice.result.now ≡ our_names others plan.nodes = c.as_slice.ensures.value ∙ c.in_ok-names.ensures ∙ ap (λ (p : Network). our_names others p.nodes) c.plan-2.ensures.same in
    let known = subst (λ (p : Network). AreNodes p others) c.plan.ensures.same c.in_default.ensures in
    let read = subst (λ (x : Gathering g.row.O-Ledger.Denot). AreGathered (g.O.Ledgers.opens c.args.ledgers.now) g.O.Ledger.Ledger.site g.O.Ledger.Ledger.book g.O.Ledger.Ledger.stands c.args.folder.now c.args.sealed.now others c.as_slice.result.now x)
    c.in-Ok-Missing.field-0-is c.in-Ok-Missing.ensures in
    (known, inr (c.in-Ok-Missing.name, subst (λ (ns : List Text). IsMissing (g.O.Ledgers.opens c.args.ledgers.now) g.O.Ledger.Ledger.site g.O.Ledger.Ledger.book g.O.Ledger.Ledger.stands c.args.folder.now c.args.sealed.now others ns c.in-Ok-Missing.name) all read, ap (λ (t : Text). No t) c.in_ok-text-in-Ok-Missing.ensures))

pub returns-in-Err : goal.returns-in-Err
returns-in-Err g c =
    let plan = c.args.sealed.now.plan in
    let others = c.args.others.now in
    let all : c.as_slice.result.now ≡ our_names others plan.nodes = c.as_slice.ensures.value ∙ c.in_ok-names.ensures ∙ ap (λ (p : Network). our_names others p.nodes) c.plan-2.ensures.same in
    stop_known plan others c.as_slice.result.now (subst (λ (ns : List Text). AreNodes plan ns) (sym all) (ours_known plan others)) c.in-Err.stop.halt c.in-Err.ensures

pub conclude-came-requires : goal.conclude-came-requires
conclude-came-requires g c =
    let plan = c.args.sealed.now.plan in
    let others = c.args.others.now in
    let all : c.as_slice.result.now ≡ our_names others plan.nodes = c.as_slice.ensures.value ∙ c.in_ok-names.ensures ∙ ap (λ (p : Network). our_names others p.nodes) c.plan-2.ensures.same in
    let read = subst (λ (x : Gathering g.row.O-Ledger.Denot). AreGathered (g.O.Ledgers.opens c.args.ledgers.now) g.O.Ledger.Ledger.site g.O.Ledger.Ledger.book g.O.Ledger.Ledger.stands c.args.folder.now c.args.sealed.now others c.as_slice.result.now x)
    c.in-Ok-All.field-0-is c.in-Ok-All.ensures in
    of_nodes plan others c.in-Ok-All.all.journals.items c.plan.ensures.well_formed (read.0 ∙ all)

pub returns-in-Ok : goal.returns-in-Ok
returns-in-Ok g c =
    let plan = c.args.sealed.now.plan in
    let others = c.args.others.now in
    let all : c.as_slice.result.now ≡ our_names others plan.nodes = c.as_slice.ensures.value ∙ c.in_ok-names.ensures ∙ ap (λ (p : Network). our_names others p.nodes) c.plan-2.ensures.same in
    let known = subst (λ (p : Network). AreNodes p others) c.plan.ensures.same c.in_default.ensures in
    let read = subst (λ (x : Gathering g.row.O-Ledger.Denot). AreGathered (g.O.Ledgers.opens c.args.ledgers.now) g.O.Ledger.Ledger.site g.O.Ledger.Ledger.book g.O.Ledger.Ledger.stands c.args.folder.now c.args.sealed.now others c.as_slice.result.now x)
    c.in-Ok-All.field-0-is c.in-Ok-All.ensures in
    (known, inl (c.in-Ok-All.all.journals.items, c.in-Ok-All.all.told.items, read.0 ∙ all, read.1, c.in-Ok.ensures))
