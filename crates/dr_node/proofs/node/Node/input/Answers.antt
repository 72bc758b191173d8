use Rattle.std.proofs.Common.{◌∙◌}
use Rattle.std.proofs.Math.Logic.{∥∥₁_map}
use Rattle.dr_node.proofs.Keeping.{input_stays}
use Rattle.dr_node.proofs.node.Node.input.Goals as goal

pub invariant_of-self-clause-of : goal.invariant_of-self-clause-of
invariant_of-self-clause-of g c =
    let l = g.L.Ledger in
    ∥∥₁_map c.args.self.now.of (λ was. input_stays l.site l.book l.bodies l.armed l.trusts l.stands l.failed c.args.event c.args.now c.args.link c.args.self.now.links c.input.new.self c.args.self.now.desk c.input.new.port c.input.result c.input.ensures ∙ was)
