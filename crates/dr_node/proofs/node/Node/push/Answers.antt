use Rattle.std.proofs.Common.{◌∙◌}
use Rattle.std.proofs.Math.Logic.{∥∥₁_map}
use Rattle.dr_node.proofs.Keeping.{push_stays}
use Rattle.dr_node.proofs.node.Node.push.Goals as goal

pub invariant_of-self-clause-of : goal.invariant_of-self-clause-of
invariant_of-self-clause-of g c =
    let l = g.L.Ledger in
    ∥∥₁_map c.args.self.now.of (λ was. push_stays l.site l.book l.bodies l.armed l.trusts l.stands l.failed c.args.now c.args.link c.args.self.now.links c.push.new.self c.args.self.now.desk c.push.new.port c.push.result c.push.ensures ∙ was)
