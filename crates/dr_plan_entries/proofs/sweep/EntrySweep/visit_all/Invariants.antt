use Rattle.std.proofs.Common.{take, Contains}
use Rattle.dr_plan_entries.specs.Entering.{WantsAny}
use Rattle.dr_plan_entries.specs.Visiting.{VisitorGoesOn}
use Rattle.dr_plan_entries.proofs.sweep.EntrySweep.visit_all.Given as goal

abbrev pub invariant-loop-site : goal.invariant-loop-site
invariant-loop-site g l = VisitorGoesOn g.V.EntryVisitor.plan g.V.EntryVisitor.is_ready g.V.EntryVisitor.has_visited g.V.EntryVisitor.shows
    (λ s c. WantsAny l.self.plan.now s c × Contains (take l.site-index l.site-items) s) l.initial.visitor l.visitor
