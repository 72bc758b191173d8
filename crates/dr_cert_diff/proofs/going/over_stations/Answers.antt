use Rattle.std.proofs.Common.{◌≡◌, ◌<◌, ◌≤◌, get_or, sym, subst, List, Contains, length, take, arith}
use Rattle.std.proofs.lemmas.List.{take_all}
use Rattle.dr_route.specs.declared.cell.OwnedField.{OwnedField}
use Rattle.dr_cert_diff.specs.Going.{Adds, At, Over, cell_at}
use Rattle.dr_cert_diff.proofs.Adding.{adds_more}
use Rattle.dr_cert_diff.proofs.Finding.{both_have_keys}
use Rattle.dr_cert_diff.proofs.going.over_stations.Goals as goal

pub note_at-requires : goal.note_at-requires
note_at-requires c =
    let old = c.args.both.now.old.now.plan in
    let new = c.args.both.now.new.now.plan in
    let pair = c.args.pair.now in
    let items = c.args.parts.now.stations.items in
    let station = c.station-item.result in
    let i = c.loop-station.station-index in
    let same : c.as_slice-station-items.result.now ≡ items = c.as_slice-station-items.ensures.value in
    let lt : i < length items = subst (λ (xs : List OwnedField). i < length xs) same c.loop-station-test.true in
    let at : station ≡ get_or items i station = subst (λ (xs : List OwnedField). station ≡ get_or xs i station) same c.station-item.is in
    let among : Contains items station = (i, lt, sym at) in
    both_have_keys old new c.plan-old.ensures.well_formed c.plan-new.ensures.well_formed pair.class.now pair.syntax c.args.modality.now station c.requires.modality ((c.requires.parts.stations station).0 among)

pub loop-station-preserved : goal.loop-station-preserved
loop-station-preserved c =
    let old = c.args.both.now.old.now.plan in
    let new = c.args.both.now.new.now.plan in
    let pair = c.args.pair.now in
    let items = c.args.parts.now.stations.items in
    let station = c.station-item.result in
    let i = c.loop-station.station-index in
    let same : c.as_slice-station-items.result.now ≡ items = c.as_slice-station-items.ensures.value in
    let lt : i < length items = subst (λ (xs : List OwnedField). i < length xs) same c.loop-station-test.true in
    let at : station ≡ get_or items i station = subst (λ (xs : List OwnedField). station ≡ get_or xs i station) same c.station-item.is in
    adds_more old new (λ (place : OwnedField). At old new c.args.site.now (cell_at pair.class.now pair.syntax c.args.modality.now place)) items i station c.args.changes.now.items c.loop-station.changes.items c.note_at.new.changes.items lt at
    c.loop-station.invariant c.in_ok-note_at.ensures

pub returns : goal.returns
returns c =
    let old = c.args.both.now.old.now.plan in
    let new = c.args.both.now.new.now.plan in
    let pair = c.args.pair.now in
    let items = c.args.parts.now.stations.items in
    let same : c.as_slice-station-items.result.now ≡ items = c.as_slice-station-items.ensures.value in
    let all : take c.loop-station.station-index items ≡ items = take_all _ _ (subst (λ (xs : List OwnedField). length xs ≤ c.loop-station.station-index) same c.loop-station-test.false) in
    subst (λ (xs : List OwnedField). Adds old new (Over xs (λ (place : OwnedField). At old new c.args.site.now (cell_at pair.class.now pair.syntax c.args.modality.now place))) c.args.changes.now.items c.loop-station.changes.items) all c.loop-station.invariant
