use Rattle.std.proofs.Common.{inl, inr, refl, sym, ◌∙◌}
use Rattle.std.proofs.lemmas.Bool.{false≢true}
use Rattle.dr_run_control.proofs.console.Console.do_order.Goals as goal

pub returns-then-goes-clause-comes : goal.returns-then-goes-clause-comes
returns-then-goes-clause-comes g c = inl (record {
  answer = c.act-answer.result;
  goes = c.goes.ensures.0 c.if-goes.true;
  acts = c.act-answer.ensures;
  status_is = c.answered.ensures.status;
  told = c.answered.ensures.text;
})

pub returns-then-goes-clause-access : goal.returns-then-goes-clause-access
returns-then-goes-clause-access g c = (refl, refl, refl)

pub returns-clause-comes : goal.returns-clause-comes
returns-clause-comes g c = inr (record {
  unknown = λ known. false≢true (sym c.if-goes.false ∙ c.goes.ensures.1 known);
  status_is = c.nowhere.ensures.status;
  told = c.nowhere.ensures.text;
  leaves = (refl, refl);
})

pub returns-clause-access : goal.returns-clause-access
returns-clause-access g c = (refl, refl, refl)
