use Rattle.std.proofs.Common.{inl, inr, refl}
use Rattle.dr_run_control.proofs.Telling.{misreads}
use Rattle.dr_run_control.proofs.console.Console.obey.Goals as goal

pub returns-in-Err-clause-tells : goal.returns-in-Err-clause-tells
returns-in-Err-clause-tells g c = inr (record {
  why = c.in-Err.fault;
  misreads = misreads c.args.route c.args.form.now c.in-Err.fault c.in-Err.ensures;
  status_is = c.misread.ensures.status;
  told = c.misread.ensures.text;
  leaves = (refl, refl);
})

pub returns-in-Err-clause-access : goal.returns-in-Err-clause-access
returns-in-Err-clause-access g c = (refl, refl, refl)

pub returns-clause-tells : goal.returns-clause-tells
returns-clause-tells g c = inl (c.in-Ok.order, c.in-Ok.ensures, c.do_order.ensures.comes)

pub returns-clause-access : goal.returns-clause-access
returns-clause-access g c = c.do_order.ensures.access
