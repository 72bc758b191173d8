use Rattle.std.proofs.lemmas.Bool.{false≢true}
use Rattle.toml.specs.View.{table_view}
use Rattle.dr_plan_expand.proofs.ShortOne.{no_rows}
use Rattle.dr_plan_expand.proofs.tables.ShortNodeTableTableForm.read_table.Goals as goal

pub returns-then-not-may_accept-clause-field : goal.returns-then-not-may_accept-clause-field
returns-then-not-may_accept-clause-field c = λ e.
    no_rows (table_view c.args.table.now) c.in_ok-listens.listens c.in_ok-accepts.accepts c.in_ok-listens.ensures.ok (rw c.new.ensures at c.in_ok-accepts.ensures.ok) (λ may. false≢true (c.if-not-may_accept.ensures.1 may))
