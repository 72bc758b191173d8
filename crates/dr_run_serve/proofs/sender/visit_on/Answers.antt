use Rattle.std.proofs.Common.{false, refl, rules}
use Rattle.dr_run_serve.proofs.sender.visit_on.Goals as goal

pub returns : goal.returns
returns g c = record {
  port = record { rt = c.args.node.now.rt; desk = c.args.node.now.desk; pass = c.args.pass; signal = c.args.node.now.signal; log = c.args.node.now.log; passed = false };
  last = c.visit_hop-visited.new.port;
  fresh = refl;
  visits = rw c.site.ensures at c.visit_hop-visited.ensures;
  settled = search rules;
  passed = refl;
}
