use Rattle.std.proofs.Common.{take}
use Rattle.dr_cert_diff.specs.Going.{Adds, AtClass, Over}
use Rattle.dr_cert_diff.proofs.going.over_classes.Given as goal

abbrev pub invariant-loop-class : goal.invariant-loop-class
invariant-loop-class l = Adds l.fn.both.old.now.plan l.fn.both.new.now.plan (Over (take l.class-index l.fn.classes) (AtClass l.fn.both.old.now.plan l.fn.both.new.now.plan l.fn.site l.fn.parts)) l.initial.changes.items l.changes.items
