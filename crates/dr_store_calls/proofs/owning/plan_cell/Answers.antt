use Rattle.std.proofs.Common.{◌≡◌, ◌∙◌, ◌++◌, ap, length, rules}
use Rattle.dr_store_calls.proofs.Owners.{three_pushed}
use Rattle.dr_store_calls.proofs.owning.plan_cell.Goals as goal

pub returns : goal.returns
returns c = λ marked sealed. record {
  long = let long : length c.args.digest.now ≡ 32 = search rules in long;
  marked = marked;
  sealed = sealed;
  is =
      three_pushed c.new-cell.result.items c.extend_from_slice.new.self.items c.extend_from_slice-2.new.self.items c.extend_from_slice-3.new.self.items
      c.as_slice.result.now c.args.mark.now c.args.seal.now
      c.new-cell.ensures.items c.in_ok-extend_from_slice.ensures.items c.in_ok-extend_from_slice-2.ensures.items c.in_ok-extend_from_slice-3.ensures.items
      ∙ ap (λ x. x ++ (c.args.mark.now ++ c.args.seal.now)) c.as_slice.ensures;
}
