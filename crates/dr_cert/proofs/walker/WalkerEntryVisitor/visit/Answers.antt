use Rattle.std.proofs.Common.{refl, sym, ◌∙◌, ap, subst, Some}
use Rattle.dr_base.specs.Texts.{Text}
use Rattle.dr_route.specs.Laws.{key_of}
use Rattle.dr_route.specs.Routes.{local}
use Rattle.dr_plan_sound.specs.declared.certificate.Stop.{Stop}
use Rattle.dr_plan_sound.proofs.Hopping.{reached_entry}
use Rattle.dr_cert.specs.Indexing.{HasNoLine}
use Rattle.dr_cert.specs.Walking.{IsComeTo, AfterMark}
use Rattle.dr_cert.proofs.Marks.{unchanged}
use Rattle.dr_cert.proofs.Following.{target_missing}
use Rattle.dr_cert.proofs.Visiting.{entry_stop, visited}
use Rattle.dr_cert.proofs.walker.WalkerEntryVisitor.visit.Goals as goal

pub mark-requires-clause-come_to : goal.mark-requires-clause-come_to
mark-requires-clause-come_to c =
    let P : Stop → Type 0 = λ s. IsComeTo c.args.self.now.plan.now s in
    subst P (sym (c.of_cell-stop.ensures ∙ ap (λ (t : Text). entry_stop t c.args.site.now c.args.cell.now) c.requires.ready.local_caller))
    (c.requires.cell, reached_entry c.args.self.now.plan.now (key_of c.args.cell.now) c.args.site.now c.requires.entry)

pub returns-in-Some : goal.returns-in-Some
returns-in-Some c =
    let P : Stop → Type 0 = λ s. AfterMark c.args.self.now c.mark.new.self s (Some c.in-Some.field-0) in
    let after : P c.of_cell-stop.result = rw c.in-Some.is at c.in_ok-mark.ensures in
    visited c.args.self.now c.mark.new.self c.args.site.now c.args.cell.now c.in-Some.field-0
    (subst P (c.of_cell-stop.ensures ∙ ap (λ (t : Text). entry_stop t c.args.site.now c.args.cell.now) c.requires.ready.local_caller) after)

pub returns-in-None : goal.returns-in-None
returns-in-None c =
    let P : Stop → Type 0 = λ s. HasNoLine c.args.self.now.lines.now s in
    let none : P c.of_cell-stop.result = rw c.in-None.is at c.in_ok-mark.ensures in (
      refl,
      λ real. target_missing c.args.self.now c.args.self.now (entry_stop local c.args.site.now c.args.cell.now) c.requires.ready.formed (unchanged c.args.self.now)
          (c.requires.cell, reached_entry c.args.self.now.plan.now (key_of c.args.cell.now) c.args.site.now c.requires.entry)
          (subst P (c.of_cell-stop.ensures ∙ ap (λ (t : Text). entry_stop t c.args.site.now c.args.cell.now) c.requires.ready.local_caller) none),
    )
