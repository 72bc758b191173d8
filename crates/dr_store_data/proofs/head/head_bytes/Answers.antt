use Rattle.std.proofs.Common.{◌≡◌, ◌∙◌, ◌++◌, ap, refl, rules}
use Rattle.std.specs.Prelude.{codes}
use Rattle.dr_store_data.proofs.HeadLemmas.{three_pushed}
use Rattle.dr_store_data.proofs.head.head_bytes.Goals as goal

pub returns : goal.returns
returns c =
    three_pushed c.new-head.result.items c.extend_from_slice.new.self.items c.extend_from_slice-2.new.self.items c.extend_from_slice-3.new.self.items
    c.as_slice.result.now c.as_slice-2.result.now c.as_slice-3.result.now
    c.new-head.ensures.items
    c.in_ok-extend_from_slice.ensures.items
    c.in_ok-extend_from_slice-2.ensures.items
    c.in_ok-extend_from_slice-3.ensures.items
    ∙ ap (λ x. x ++ c.as_slice-2.result.now ++ c.as_slice-3.result.now) c.as_slice.ensures
    ∙ ap (λ x. codes "Bitrusset data 1" ++ x ++ c.as_slice-3.result.now) c.as_slice-2.ensures
    ∙ ap (λ x. codes "Bitrusset data 1" ++ c.args.mark.now ++ x) c.as_slice-3.ensures
