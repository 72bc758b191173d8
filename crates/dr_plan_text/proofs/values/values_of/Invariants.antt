use Rattle.std.proofs.Common.{◌≡◌, take}
use Rattle.std.specs.Prelude.{flat_map}
use Rattle.dr_plan_model.specs.Naming.{literal_of, prefix_of}
use Rattle.dr_plan_text.proofs.values.values_of.Given as goal

abbrev pub invariant-loop-pattern : goal.invariant-loop-pattern
invariant-loop-pattern l = (l.values.literals ≡ flat_map literal_of (take l.pattern-index l.patterns)) × (l.values.prefixes ≡ flat_map prefix_of (take l.pattern-index l.patterns))
