use Rattle.std.proofs.Common.{take}
use Rattle.dr_cert_trace.specs.Reaches.{PassesAll}
use Rattle.dr_cert_trace.proofs.reaching.pass_all.Given as goal

-- what the nodes of the places so far do
abbrev pub invariant-loop-place : goal.invariant-loop-place
invariant-loop-place l = PassesAll l.fn.plan l.fn.key (take l.place-index l.fn.front) l.next l.fn.nodes l.nodes l.fn.keeps l.keeps
