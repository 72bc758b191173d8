use Rattle.std.proofs.Common.{◌↔◌, take, Contains}
use Rattle.dr_cert_hops.specs.declared.hops.Passage.{Passage}
use Rattle.dr_cert_hops.specs.Numbering.{IsPassage}
use Rattle.dr_cert_hops.proofs.hops.passages_of.Given as goal

abbrev pub invariant-loop-line : goal.invariant-loop-line
invariant-loop-line l = (p : Passage) → Contains l.passages.keys p ↔ IsPassage (take l.line-index l.lines) p
