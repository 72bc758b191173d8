use Rattle.std.proofs.Common.{◌≡◌, ◌++◌, take}
use Rattle.std.specs.List.{flat_map}
use Rattle.dr_pdu.specs.Written.{item}
use Rattle.dr_pdu.proofs.encoder.put_contexts.Given as goal

abbrev pub invariant-loop-context : goal.invariant-loop-context
invariant-loop-context g l = l.out.items ≡ l.fn.out.items ++ flat_map (λ c. item l.kind (g.C.Context.body_text l.full c)) (take l.context-index l.contexts)
