use Rattle.std.proofs.Common.{◌≡◌, map, rules}
use Rattle.std.proofs.lemmas.Fn.{always_returns_same}
use Rattle.std.proofs.lemmas.List.Sorted.{ranks_by}
use Rattle.std.specs.Cmp.Lexicographic.{nat_list_cmp_total}
use Rattle.dr_plan_entries.specs.declared.fields.ShownPart.{ShownPart}
use Rattle.std.specs.Ordering.{is_lt}
use Rattle.dr_base.specs.Texts.{text_cmp}
use Rattle.dr_plan_entries.specs.Entering.{part_of}
use Rattle.dr_plan_entries.proofs.FieldLemmas.{sorted_parts, sorted_shown}
use Rattle.dr_plan_entries.proofs.fields.parts_of.Goals as goal

pub returns-clause-same : goal.returns-clause-same
returns-clause-same c =
    let items : c.in_ok-parts.parts.items ≡ map part_of c.sort_unstable_by.new.self.items = search rules in
    rw (c.from_vec.ensures, items) (sorted_parts c.args.values.now _ _ c.in_ok-shown.ensures.parts c.sort_unstable_by.ensures.permutation)

pub returns-clause-ordered : goal.returns-clause-ordered
returns-clause-ordered c =
    let items : c.in_ok-parts.parts.items ≡ map part_of c.sort_unstable_by.new.self.items = search rules in
    let sorted = c.sort_unstable_by.ensures.sorted (λ a b. is_lt (text_cmp a.text b.text)) (ranks_by nat_list_cmp_total (λ (s : ShownPart). s.text)) (always_returns_same _ _ _ (λ a r f' called. search rules)) in
    rw (c.from_vec.ensures, items) (sorted_shown _ _ c.in_ok-shown.ensures.texts c.sort_unstable_by.ensures.permutation sorted)
