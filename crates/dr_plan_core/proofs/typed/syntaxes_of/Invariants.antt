use Rattle.std.proofs.Common.{◌≡◌, map, take}
use Rattle.dr_base.specs.Syntaxes.{syntax_uid}
use Rattle.dr_plan_core.proofs.typed.syntaxes_of.Given as goal

abbrev pub invariant-loop-uid : goal.invariant-loop-uid
invariant-loop-uid l = map syntax_uid l.syntaxes.items ≡ take l.uid-index l.uids
