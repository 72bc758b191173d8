use Rattle.std.proofs.Common.{sym, ◌∙◌, ap, ◌++◌, List}
use Rattle.std.proofs.lemmas.List.{append-nil}
use Rattle.dr_run_open.specs.declared.hops.NextHop.{NextHop}
use Rattle.dr_run_open.proofs.hops.add_hop.Goals as goal

pub returns-in_default : goal.returns-in_default
returns-in_default c = sym (append-nil c.args.hops.now.items) ∙ ap (λ (more : List NextHop). c.args.hops.now.items ++ more) (sym (rw c.in_default.is at c.in_ok-hop.ensures))

pub returns : goal.returns
returns c = c.in_ok-push.ensures.items ∙ ap (λ (more : List NextHop). c.args.hops.now.items ++ more) (sym (rw c.in-Some.is at c.in_ok-hop.ensures))
