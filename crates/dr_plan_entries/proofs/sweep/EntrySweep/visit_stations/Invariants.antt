use Rattle.std.proofs.Common.{take, Contains}
use Rattle.dr_plan_entries.specs.Entering.{WantsModality}
use Rattle.dr_plan_entries.specs.Visiting.{VisitorGoesOn}
use Rattle.dr_plan_entries.proofs.sweep.EntrySweep.visit_stations.Given as goal

abbrev pub invariant-loop-station : goal.invariant-loop-station
invariant-loop-station g l = VisitorGoesOn g.V.EntryVisitor.plan g.V.EntryVisitor.is_ready g.V.EntryVisitor.has_visited g.V.EntryVisitor.shows
    (λ s c. WantsModality l.self.plan.now l.entrance.site.now l.entrance.class.now l.entrance.syntax l.modality l.among s c × Contains (take l.station-index l.row) c.station) l.initial.visitor l.visitor
