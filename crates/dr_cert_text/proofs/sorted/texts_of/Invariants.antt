use Rattle.std.proofs.Common.{◌≡◌, map, take}
use Rattle.dr_cert_text.proofs.sorted.texts_of.Given as goal

abbrev pub invariant-loop-item : goal.invariant-loop-item
invariant-loop-item g l = l.texts.items ≡ map g.P.Printed.printed (take l.item-index l.items)
