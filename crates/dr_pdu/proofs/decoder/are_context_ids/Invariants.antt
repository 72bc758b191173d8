use Rattle.std.proofs.Common.{drop, map}
use Rattle.dr_pdu.specs.Grammar.{AreContextIds}
use Rattle.dr_pdu.proofs.decoder.are_context_ids.Given as goal

-- the ids from here on decide
abbrev pub invariant-loop-i : goal.invariant-loop-i
invariant-loop-i g l = (AreContextIds (map g.C.Context.id_of (drop l.i l.contexts)) → AreContextIds (map g.C.Context.id_of l.contexts))
    × (AreContextIds (map g.C.Context.id_of l.contexts) → AreContextIds (map g.C.Context.id_of (drop l.i l.contexts)))
