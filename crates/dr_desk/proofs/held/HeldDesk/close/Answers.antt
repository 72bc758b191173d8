use Rattle.std.proofs.Common.{refl, ◌∙◌, arith}
use Rattle.dr_desk.proofs.Journals.{apart_by, at_most, ends_by, grows_by}
use Rattle.dr_desk.proofs.Journals.{journalled_by, just, no_fewer, of_lines_by, rise_by}
use Rattle.dr_desk.proofs.held.HeldDesk.close.Goals as goal

pub returns-in-Err-clause-fails : goal.returns-in-Err-clause-fails
returns-in-Err-clause-fails g c = (
  c.in-Err.ensures.same.site ∙ c.args.self.of,
  λ s.
      let grows = grows_by _ _ _ _ _ (c.in-Err.ensures.same.same s)
      (c.args.self.grows (c.in-Err.ensures.same.stood s)) in
      ends_by (λ p. p.receipts.items) c.in-Err.why c.unagreed.result _ _ _ _ _
      c.unagreed.ensures c.as_slice.ensures.value (no_fewer _ _ _ grows.1) (c.in-Err.ensures.fault s),
)

pub returns-clause-ends : goal.returns-clause-ends
returns-clause-ends g c = record {
  of = c.in_default.ensures.same.site ∙ c.args.self.of;
  begins = λ s.
      (grows_by _ _ _ _ _ (c.in_default.ensures.same.same s)
      (c.args.self.grows (c.in_default.ensures.same.stood s))).0;
  history = λ s.
      journalled_by _ _ _ (c.in_default.ensures.same.site ∙ c.args.self.of)
      (g.L.Ledger.journalled c.agree.new.ledger s);
  tally = record {
    of_lines = λ s.
        of_lines_by (λ p. p.receipts.items) _ _ _ _ c.as_slice.ensures.value
        refl (c.in_default.ensures.of_lines s);
    rise = rise_by (λ p. p.receipts.items) c.as_slice.result.now c.args.passes.items
        c.as_slice.ensures.value c.in_default.ensures.rise;
    apart = apart_by (λ p. p.receipts.items) c.as_slice.result.now c.args.passes.items
        c.as_slice.ensures.value c.in_default.ensures.apart;
    sum = c.joined-sum.ensures.sum;
    some = λ s.
        let grows = grows_by _ _ _ _ _ (c.in_default.ensures.same.same s)
        (c.args.self.grows (c.in_default.ensures.same.stood s)) in
        at_most _ _ _ _ _ _ grows c.args.self.total c.joined-sum.ensures.some;
    all = λ s each.
        let grows = grows_by _ _ _ _ _ (c.in_default.ensures.same.same s)
        (c.args.self.grows (c.in_default.ensures.same.stood s)) in
        just _ _ _ _ _ _ grows c.args.self.total
        (c.joined-sum.ensures.all
        (let p = c.args.self.parts in let q = c.requires in omega arith));
    few = let p = c.args.self.parts in let q = c.requires in let f = c.joined-sum.ensures.few in
        omega arith;
  };
}
