use Rattle.std.proofs.Common.{◌≡◌, filter, take}
use Rattle.dr_site.specs.Parts.{is_of}
use Rattle.dr_site.proofs.rows.lines_of.Given as goal

abbrev pub invariant-loop-line : goal.invariant-loop-line
invariant-loop-line l = l.own.items ≡ filter (is_of l.node) (take l.line-index l.lines)
