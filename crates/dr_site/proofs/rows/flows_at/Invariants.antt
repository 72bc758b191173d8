use Rattle.std.proofs.Common.{◌≡◌, filter, take}
use Rattle.dr_site.specs.Parts.{is_at}
use Rattle.dr_site.proofs.rows.flows_at.Given as goal

abbrev pub invariant-loop-flow : goal.invariant-loop-flow
invariant-loop-flow l = l.own ≡ filter (is_at l.site) (take l.flow-index l.flows)
