use Rattle.std.proofs.Common.{◌≡◌, ◌+◌, ◌∙◌, inl, sym, subst, List, [], ◌∷◌, ◌++◌, take, Contains, arith}
use Rattle.std.proofs.lemmas.List.{take_more, take_all}
use Rattle.dr_route.specs.declared.cell.OwnedField.{OwnedField}
use Rattle.dr_plan_sound.specs.Printed.{printed_field}
use Rattle.dr_plan_entries.specs.Entering.{WantsModality, WantsStation}
use Rattle.dr_plan_entries.specs.Visiting.{VisitorGoesOn}
use Rattle.dr_plan_entries.proofs.Orders.{by_station}
use Rattle.dr_plan_entries.proofs.Visits.{one_more, all_of_them, went_on, found_in_row}
use Rattle.dr_plan_entries.proofs.sweep.EntrySweep.visit_stations.Goals as goal

pub loop-station-preserved : goal.loop-station-preserved
loop-station-preserved g c =
    let items : List OwnedField = c.args.row.now in
    let e = take_more items c.loop-station.station-index c.station-item.result c.loop-station-test.true in
    let more : take (c.loop-station.station-index + 1) items ≡ take c.loop-station.station-index items ++ c.station-item.result ∷ [] = rw (← c.station-item.is) at e in
    let went = went_on g.V.EntryVisitor.plan g.V.EntryVisitor.is_ready g.V.EntryVisitor.has_visited g.V.EntryVisitor.shows _ c.loop-station.visitor c.visit_station.new.visitor c.in_ok-found.found
    (sym c.if-is_some.ensures) c.in_ok-found.ensures in
    one_more g.V.EntryVisitor.plan g.V.EntryVisitor.is_ready g.V.EntryVisitor.has_visited g.V.EntryVisitor.shows
    (λ s x. x.station) (WantsModality c.args.self.now.plan.now c.args.entrance.now.site.now c.args.entrance.now.class.now c.args.entrance.now.syntax c.args.modality.now c.args.among.now) (WantsStation c.args.self.now.plan.now c.args.entrance.now.site.now c.args.entrance.now.class.now c.args.entrance.now.syntax c.args.modality.now c.station-item.result c.args.among.now)
    (take c.loop-station.station-index items) (take (c.loop-station.station-index + 1) items) c.station-item.result c.args.visitor.now c.loop-station.visitor c.visit_station.new.visitor more
    c.loop-station.invariant went (λ s x w same. (sym same, w))

pub returns-then-is_some : goal.returns-then-is_some
returns-then-is_some g c =
    let items : List OwnedField = c.args.row.now in
    found_in_row g.V.EntryVisitor.plan g.V.EntryVisitor.is_ready g.V.EntryVisitor.has_visited g.V.EntryVisitor.shows
    printed_field (λ s x. x.station) (WantsModality c.args.self.now.plan.now c.args.entrance.now.site.now c.args.entrance.now.class.now c.args.entrance.now.syntax c.args.modality.now c.args.among.now) (WantsStation c.args.self.now.plan.now c.args.entrance.now.site.now c.args.entrance.now.class.now c.args.entrance.now.syntax c.args.modality.now c.station-item.result c.args.among.now)
    items c.loop-station.station-index c.station-item.result c.args.visitor.now c.loop-station.visitor c.visit_station.new.visitor c.in_ok-found.found (sym c.if-is_some.ensures)
    c.requires.row.ordered c.loop-station-test.true (sym c.station-item.is)
    c.loop-station.invariant c.in_ok-found.ensures
    (λ s x w. let t = w.1.1.1.2 in c.requires.row.whole t.0 t.2.0 x.station t.1 t.2.1 t.2.2.station w.1.1.1.1.1)
    (λ s x w same. (sym same, w)) (λ s x w. (w.1, w.0))
    (λ s t x y w v before. inl (by_station s t x y (w.1.1.1.0 ∙ sym v.1.1.1.0) (w.1.1.0 ∙ sym v.1.1.0) (w.1.0 ∙ sym v.1.0) (w.0 ∙ sym v.0) before))

pub returns : goal.returns
returns g c =
    let items : List OwnedField = c.args.row.now in
    let all : take c.loop-station.station-index items ≡ items = take_all c.loop-station.station-index items (omega arith) in
    let P : List OwnedField → Type 0 = λ xs. VisitorGoesOn g.V.EntryVisitor.plan g.V.EntryVisitor.is_ready g.V.EntryVisitor.has_visited g.V.EntryVisitor.shows
    (λ s x. WantsModality c.args.self.now.plan.now c.args.entrance.now.site.now c.args.entrance.now.class.now c.args.entrance.now.syntax c.args.modality.now c.args.among.now s x × Contains xs (x.station)) c.args.visitor.now c.loop-station.visitor in
    all_of_them g.V.EntryVisitor.plan g.V.EntryVisitor.is_ready g.V.EntryVisitor.has_visited g.V.EntryVisitor.shows (λ s x. x.station) (WantsModality c.args.self.now.plan.now c.args.entrance.now.site.now c.args.entrance.now.class.now c.args.entrance.now.syntax c.args.modality.now c.args.among.now)
    items c.args.visitor.now c.loop-station.visitor (subst P all c.loop-station.invariant)
    (λ s x w. let t = w.1.1.1.2 in c.requires.row.whole t.0 t.2.0 x.station t.1 t.2.1 t.2.2.station w.1.1.1.1.1)
