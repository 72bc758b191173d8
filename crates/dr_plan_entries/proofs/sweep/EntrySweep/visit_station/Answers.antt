use Rattle.std.proofs.Common.{◌≡◌, ◌<◌, ℕ, sym, ◌∙◌, subst, List, length, Some}
use Rattle.std.specs.Prelude.{slice_get}
use Rattle.std.proofs.lemmas.Option.{same_Some}
use Rattle.std.proofs.lemmas.List.Elements.{All-contains}
use Rattle.dr_route.specs.Laws.{key_of}
use Rattle.dr_route.specs.declared.cell.OwnedField.{OwnedField}
use Rattle.dr_plan_model.specs.declared.plan.Flow.{Flow}
use Rattle.dr_plan_model.specs.Networks.{Network}
use Rattle.dr_plan_model.specs.Walks.{IsEntry}
use Rattle.dr_plan_entries.specs.Entering.{AdmitsField, WantsStation}
use Rattle.dr_plan_entries.proofs.Entries.{enters}
use Rattle.dr_plan_entries.proofs.Orders.{not_before_itself, same_cell}
use Rattle.dr_plan_entries.proofs.Visits.{stays, the_only_one}
use Rattle.dr_plan_entries.proofs.Wanted.{is_wanted}
use Rattle.dr_plan_entries.proofs.sweep.EntrySweep.visit_station.Goals as goal

pub visit-requires-clause-entry : goal.visit-requires-clause-entry
visit-requires-clause-entry g c =
    let k : ℕ = c.in-Some.field-0 in
    let A : List Flow → Type 0 = λ fs. (flow : Flow) × (slice_get fs k ≡ Some flow) × AdmitsField flow.stations c.args.station.now in
    let here = subst A c.flows.ensures.same c.in-Some.ensures.1 in
    let P : Network → Type 0 = λ n. IsEntry n c.args.entrance.now.site.now (key_of c.in_ok-cell.cell) in
    subst P (sym c.requires.plan)
    (enters c.args.self.now.plan.now c.args.entrance.now.site.now c.args.entrance.now.class.now c.args.entrance.now.syntax c.args.modality.now c.args.station.now c.in_ok-cell.cell k
    (All-contains (λ n. n < length c.args.self.now.plan.now.flows) c.args.among.now k c.requires.below c.in-Some.ensures.0) c.in_ok-cell.ensures
    (λ flow at.
    let same : here.0 ≡ flow = same_Some _ _ (sym here.1 ∙ at) in
    let S : Flow → Type 0 = λ f. AdmitsField f.stations c.args.station.now in
    (subst S same here.2, c.requires.fit flow k c.in-Some.ensures.0 at)))

pub returns-in_default : goal.returns-in_default
returns-in_default g c =
    stays g.V.EntryVisitor.plan g.V.EntryVisitor.is_ready g.V.EntryVisitor.has_visited g.V.EntryVisitor.shows
    (WantsStation c.args.self.now.plan.now c.args.entrance.now.site.now c.args.entrance.now.class.now c.args.entrance.now.syntax c.args.modality.now c.args.station.now c.args.among.now)
    c.args.visitor.now c.requires.ready
    (λ s x w.
    let t = w.1.1.1.1.2 in
    let A : List Flow → Type 0 = λ fs. (flow : Flow) × (slice_get fs t.0 ≡ Some flow) × AdmitsField flow.stations c.args.station.now in
    let S : OwnedField → Type 0 = λ y. AdmitsField t.2.0.stations y in
    c.in_default.ensures t.0 t.1 (subst A (sym c.flows.ensures.same) (t.2.0, t.2.1, subst S w.0 t.2.2.station)))

pub returns : goal.returns
returns g c =
    let plan : Network = c.args.self.now.plan.now in
    let k : ℕ = c.in-Some.field-0 in
    let A : List Flow → Type 0 = λ fs. (flow : Flow) × (slice_get fs k ≡ Some flow) × AdmitsField flow.stations c.args.station.now in
    let here = subst A c.flows.ensures.same c.in-Some.ensures.1 in
    the_only_one g.V.EntryVisitor.plan g.V.EntryVisitor.is_ready g.V.EntryVisitor.has_visited g.V.EntryVisitor.shows
    (WantsStation plan c.args.entrance.now.site.now c.args.entrance.now.class.now c.args.entrance.now.syntax c.args.modality.now c.args.station.now c.args.among.now)
    c.args.entrance.now.site.now c.in_ok-cell.cell c.args.visitor.now c.visit.new.self c.in_ok-found.found c.requires.ready
    (is_wanted plan c.args.entrance.now.site.now c.args.entrance.now.class.now c.args.entrance.now.syntax c.args.modality.now c.args.station.now c.args.among.now c.in_ok-cell.cell k here.0 c.in_ok-cell.ensures
    (c.requires.modality_part, c.requires.station_part)
    c.in-Some.ensures.0 here.1 (here.2, c.requires.fit here.0 k c.in-Some.ensures.0 here.1))
    (λ s x w. (
      w.1.1.1.1.0,
      same_cell x (record { class = c.args.entrance.now.class.now; syntax = c.args.entrance.now.syntax; modality = c.args.modality.now; station = c.args.station.now }) w.1.1.1.0 w.1.1.0 w.1.0 w.0
          ∙ sym c.in_ok-cell.ensures,
    ))
    (not_before_itself c.args.entrance.now.site.now c.in_ok-cell.cell) c.in_ok-found.ensures
