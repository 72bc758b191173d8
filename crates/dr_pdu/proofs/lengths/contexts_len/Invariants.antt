use Rattle.std.proofs.Common.{◌≡◌, ◌≤◌, take, map, false}
use Rattle.std.specs.List.{AllByRecursion}
use Rattle.dr_pdu.specs.Fitting.{weight}
use Rattle.dr_pdu.proofs.lengths.contexts_len.Given as goal

abbrev pub invariant-loop-context : goal.invariant-loop-context
invariant-loop-context g l = (l.len ≡ weight (map (g.C.Context.body_text false) (take l.context-index l.contexts))) × (l.len ≤ 262144) × AllByRecursion g.C.Context.context_fits (take l.context-index l.contexts)
