use Rattle.std.proofs.lemmas.Bool.{false≢true}
use Rattle.toml.specs.View.{table_view}
use Rattle.dr_plan_text.proofs.OnePlan.{misfit}
use Rattle.dr_plan_text.proofs.tables.read_root.Goals as goal

pub returns-then-not-fits_format-clause-field : goal.returns-then-not-fits_format-clause-field
returns-then-not-fits_format-clause-field c = λ e.
    misfit (table_view c.args.root.now) (record { format = c.in_ok-format.format; nodes = c.in_ok-nodes.nodes; flows = c.in_ok-flows.flows }) c.in_ok-format.ensures.ok (rw c.new.ensures at c.in_ok-nodes.ensures.ok)
    (rw c.new-2.ensures at c.in_ok-flows.ensures.ok) (λ fits. false≢true (c.if-not-fits_format.ensures.1 fits))
