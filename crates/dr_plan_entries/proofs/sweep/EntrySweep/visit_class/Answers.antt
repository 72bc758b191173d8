use Rattle.std.proofs.Common.{◌∙◌, inl, inr, sym, subst}
use Rattle.dr_base.specs.Syntaxes.{syntax_uid}
use Rattle.dr_base.specs.declared.syntax.Syntax.{Syntax}
use Rattle.dr_base.specs.declared.syntax.Syntax.TheVariants.{Implicit, Explicit}
use Rattle.dr_plan_entries.specs.Entering.{WantsClass, WantsSyntax}
use Rattle.dr_plan_entries.specs.InOrder.{IsLess}
use Rattle.dr_plan_entries.proofs.Entries.{two_syntaxes}
use Rattle.dr_plan_entries.proofs.Orders.{by_syntax, implicit_is_not_above}
use Rattle.dr_plan_entries.proofs.Visits.{found_first, then_more, went_on}
use Rattle.dr_plan_entries.proofs.sweep.EntrySweep.visit_class.Goals as goal

pub returns-then-is_some : goal.returns-then-is_some
returns-then-is_some g c =
    found_first g.V.EntryVisitor.plan g.V.EntryVisitor.is_ready g.V.EntryVisitor.has_visited g.V.EntryVisitor.shows
    (WantsSyntax c.args.self.now.plan.now c.args.site.now c.args.class.now Implicit c.args.among.now) (WantsClass c.args.self.now.plan.now c.args.site.now c.args.class.now c.args.among.now)
    c.args.visitor.now c.visit_class_in.new.visitor c.in_ok-found.found (sym c.if-is_some.ensures) c.in_ok-found.ensures (λ s x w. w.1)
    (λ s t x y w v before. elim (by_syntax s t x y (w.1.0 ∙ sym v.1.1.0) (w.0 ∙ sym v.1.0) before) [
      | inl less ↦ (let L : Syntax → Type 0 = λ z. IsLess (syntax_uid x.syntax) (syntax_uid z) in absurd (implicit_is_not_above x.syntax (subst L v.0 less)))
      | inr same ↦ (same ∙ v.0, w)
    ])

pub returns : goal.returns
returns g c =
    then_more g.V.EntryVisitor.plan g.V.EntryVisitor.is_ready g.V.EntryVisitor.has_visited g.V.EntryVisitor.shows
    (WantsSyntax c.args.self.now.plan.now c.args.site.now c.args.class.now Implicit c.args.among.now) (WantsSyntax c.args.self.now.plan.now c.args.site.now c.args.class.now Explicit c.args.among.now)
    (WantsClass c.args.self.now.plan.now c.args.site.now c.args.class.now c.args.among.now)
    c.args.visitor.now c.visit_class_in.new.visitor c.visit_class_in-2.new.visitor c.in_ok-later.later
    (λ s x w. elim (two_syntaxes x.syntax) [ inl one ↦ inl (one, w) | inr other ↦ inr (other, w) ]) (λ s x w. w.1)
    (went_on g.V.EntryVisitor.plan g.V.EntryVisitor.is_ready g.V.EntryVisitor.has_visited g.V.EntryVisitor.shows _ c.args.visitor.now c.visit_class_in.new.visitor c.in_ok-found.found
    (sym c.if-is_some.ensures) c.in_ok-found.ensures)
    c.in_ok-later.ensures
