use Rattle.std.proofs.Common.{◌≡◌, ◌<◌, get_or, subst, List, length, take, arith}
use Rattle.std.proofs.lemmas.List.{take_all}
use Rattle.dr_route.specs.declared.cell.OwnedField.{OwnedField}
use Rattle.dr_cert_diff.specs.Going.{Adds, AtModality, Over}
use Rattle.dr_cert_diff.proofs.Adding.{adds_more}
use Rattle.dr_cert_diff.proofs.going.over_modalities.Goals as goal

pub loop-modality-preserved : goal.loop-modality-preserved
loop-modality-preserved c =
    let old = c.args.both.now.old.now.plan in
    let new = c.args.both.now.new.now.plan in
    let pair = c.args.pair.now in
    let items = c.args.parts.now.modalities.items in
    let modality = c.modality-item.result in
    let i = c.loop-modality.modality-index in
    let same : c.as_slice-modality-items.result.now ≡ items = c.as_slice-modality-items.ensures.value in
    let lt : i < length items = subst (λ (xs : List OwnedField). i < length xs) same c.loop-modality-test.true in
    let at : modality ≡ get_or items i modality = subst (λ (xs : List OwnedField). modality ≡ get_or xs i modality) same c.modality-item.is in
    adds_more old new (AtModality old new c.args.site.now pair.class.now pair.syntax c.args.parts.now.stations.items) items i modality c.args.changes.now.items c.loop-modality.changes.items c.over_stations.new.changes.items lt at
    c.loop-modality.invariant c.in_ok-over_stations.ensures
