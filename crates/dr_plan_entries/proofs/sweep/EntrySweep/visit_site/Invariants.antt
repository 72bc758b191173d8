use Rattle.std.proofs.Common.{take, Contains}
use Rattle.dr_plan_entries.specs.Entering.{WantsSite}
use Rattle.dr_plan_entries.specs.Visiting.{VisitorGoesOn}
use Rattle.dr_plan_entries.proofs.sweep.EntrySweep.visit_site.Given as goal

abbrev pub invariant-loop-class : goal.invariant-loop-class
invariant-loop-class g l = VisitorGoesOn g.V.EntryVisitor.plan g.V.EntryVisitor.is_ready g.V.EntryVisitor.has_visited g.V.EntryVisitor.shows
    (λ s c. WantsSite l.self.plan.now l.site l.among s c × Contains (take l.class-index l.class-items) c.class) l.initial.visitor l.visitor
