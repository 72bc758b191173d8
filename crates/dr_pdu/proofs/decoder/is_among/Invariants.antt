use Rattle.std.proofs.Common.{drop, map}
use Rattle.std.specs.List.{Contains}
use Rattle.dr_pdu.proofs.decoder.is_among.Given as goal

-- it is not among those before
abbrev pub invariant-loop-context : goal.invariant-loop-context
invariant-loop-context g l = Contains (map g.C.Context.id_of l.contexts) l.id → Contains (map g.C.Context.id_of (drop l.context-index l.contexts)) l.id
