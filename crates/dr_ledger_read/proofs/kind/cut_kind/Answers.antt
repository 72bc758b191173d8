use Rattle.dr_ledger_read.specs.declared.kind.CallKind.TheVariants as kind
use Rattle.dr_ledger_read.proofs.Literals.{kind_cut, no_kind}
use Rattle.dr_ledger_read.proofs.kind.cut_kind.Goals as goal

pub returns-in-Some : goal.returns-in-Some
returns-in-Some c = kind_cut c.args.text.now kind.Arrival c.in-Some.rest c.in-Some.ensures

pub returns-in-Some-after : goal.returns-in-Some-after
returns-in-Some-after c = kind_cut c.args.text.now kind.Repeat c.in-Some-after.rest c.in-Some-after.ensures

pub returns-in-Some-after-2 : goal.returns-in-Some-after-2
returns-in-Some-after-2 c = kind_cut c.args.text.now kind.Settling c.in-Some-after-2.rest c.in-Some-after-2.ensures

pub returns-in-Some-after-3 : goal.returns-in-Some-after-3
returns-in-Some-after-3 c = kind_cut c.args.text.now kind.Requeuing c.in-Some-after-3.rest c.in-Some-after-3.ensures

pub returns-in-Some-after-4 : goal.returns-in-Some-after-4
returns-in-Some-after-4 c = kind_cut c.args.text.now kind.Dropping c.in-Some-after-4.rest c.in-Some-after-4.ensures

pub returns-in-Some-after-5 : goal.returns-in-Some-after-5
returns-in-Some-after-5 c = kind_cut c.args.text.now kind.Forgetting c.in-Some-after-5.rest c.in-Some-after-5.ensures

pub returns-in_err-rest : goal.returns-in_err-rest
returns-in_err-rest c =
    rw c.from_residual.ensures
    (no_kind c.args.text.now c.in_default.ensures c.in_default-after.ensures c.in_default-after-2.ensures c.in_default-after-3.ensures c.in_default-after-4.ensures c.in_default-after-5.ensures c.in_err-rest.ensures)

pub returns : goal.returns
returns c = kind_cut c.args.text.now kind.Adoption c.in_ok-rest.rest c.in_ok-rest.ensures
