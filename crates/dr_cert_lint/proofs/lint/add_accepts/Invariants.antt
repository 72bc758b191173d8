use Rattle.std.proofs.Common.{◌≡◌, take}
use Rattle.dr_cert_lint.specs.Findings.{IsAcceptText}
use Rattle.dr_cert_lint.proofs.Numbered.{AreAdded}
use Rattle.dr_cert_lint.proofs.lint.add_accepts.Given as goal

abbrev pub invariant-loop-row : goal.invariant-loop-row
invariant-loop-row l = (l.number ≡ l.row-index) × AreAdded (IsAcceptText l.fn.sealed.plan l.fn.node) (take l.row-index l.fn.node.accepts) l.initial.out.items l.out.items
