use Rattle.std.proofs.Common.{take, Contains}
use Rattle.dr_plan_entries.specs.Entering.{WantsSyntax}
use Rattle.dr_plan_entries.specs.Visiting.{VisitorGoesOn}
use Rattle.dr_plan_entries.proofs.sweep.EntrySweep.visit_modalities.Given as goal

abbrev pub invariant-loop-modality : goal.invariant-loop-modality
invariant-loop-modality g l = VisitorGoesOn g.V.EntryVisitor.plan g.V.EntryVisitor.is_ready g.V.EntryVisitor.has_visited g.V.EntryVisitor.shows
    (λ s c. WantsSyntax l.self.plan.now l.entrance.site.now l.entrance.class.now l.entrance.syntax l.among s c × Contains (take l.modality-index l.row) c.modality) l.initial.visitor l.visitor
