use Rattle.std.proofs.Common.{refl, ◌++◌}
use Rattle.dr_cert_lint.proofs.Chained.{chained}
use Rattle.dr_cert_lint.proofs.lint.add_node.Goals as goal

pub returns : goal.returns
returns c =
    let old = c.args.out.now.items in
    let whole = c.in_ok-add_whole.ensures in
    let accepts = c.in_ok-add_accepts.ensures in
    let rules = c.in_ok-add_rules.ensures in (
      whole.0 ++ accepts.0 ++ rules.0,
      (whole.0, accepts.0, rules.0, whole.1, accepts.1, rules.1, refl),
      chained old (whole.0 ++ accepts.0) rules.0 c.add_accepts.new.out.items c.add_rules.new.out.items
          (chained old whole.0 accepts.0 c.add_whole.new.out.items c.add_accepts.new.out.items whole.2 accepts.2) rules.2,
    )
