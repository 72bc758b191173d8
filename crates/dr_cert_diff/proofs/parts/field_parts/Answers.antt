use Rattle.std.proofs.Common.{◌≡◌, ◌⊎◌, ◌↔◌, sym, subst, List, ◌++◌, Contains}
use Rattle.dr_base.specs.Texts.{Text}
use Rattle.dr_cert_diff.specs.Differing.{values_of_both}
use Rattle.dr_cert_diff.proofs.Gathering.{Same, field_parts, named_by_both}
use Rattle.dr_cert_diff.proofs.parts.field_parts.Goals as goal

abbrev Merges : List Text → List Text → List Text → Type 0
Merges xs one other = (t : Text) → Contains xs t ↔ (Contains one t ⊎ Contains other t)

pub returns : goal.returns
returns c =
    let one = c.args.one.now in
    let other = c.args.other.now in
    let values = c.in_ok-values.values in
    let prefixes = c.in_ok-prefixes.prefixes in
    let merged_values : Merges values one.literals other.literals =
    subst (λ (xs : List Text). Merges values xs other.literals) c.as_slice.ensures (subst (λ (xs : List Text). Merges values c.as_slice.result.now xs) c.as_slice-2.ensures c.in_ok-values.ensures) in
    let merged_prefixes : Merges prefixes one.prefixes other.prefixes =
    subst (λ (xs : List Text). Merges prefixes xs other.prefixes) c.as_slice-3.ensures (subst (λ (xs : List Text). Merges prefixes c.as_slice-3.result.now xs) c.as_slice-4.ensures c.in_ok-prefixes.ensures) in
    let singles : Same c.as_slice-5.result.now (one.literals ++ other.literals) =
    subst (λ (xs : List Text). Same xs (one.literals ++ other.literals)) (sym c.as_slice-5.ensures) (named_by_both values one.literals other.literals merged_values) in
    let unders : Same c.as_slice-6.result.now (one.prefixes ++ other.prefixes) =
    subst (λ (xs : List Text). Same xs (one.prefixes ++ other.prefixes)) (sym c.as_slice-6.ensures) (named_by_both prefixes one.prefixes other.prefixes merged_prefixes) in
    field_parts c.as_slice-5.result.now c.as_slice-6.result.now (values_of_both one other) singles unders c.in_ok-parts.parts.items c.in_ok-parts.ensures
