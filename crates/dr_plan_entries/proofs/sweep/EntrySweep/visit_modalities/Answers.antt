use Rattle.std.proofs.Common.{◌≡◌, ℕ, ◌+◌, ◌∙◌, sym, subst, List, [], ◌∷◌, ◌++◌, take, Contains, arith}
use Rattle.std.proofs.lemmas.List.{take_more, take_all}
use Rattle.dr_route.specs.declared.cell.OwnedField.{OwnedField}
use Rattle.dr_plan_model.specs.Networks.{Network}
use Rattle.dr_plan_model.specs.declared.plan.Flow.{Flow}
use Rattle.dr_plan_sound.specs.Printed.{printed_field}
use Rattle.dr_plan_entries.specs.Entering.{AdmitsField, AllBelow, WantsSyntax, WantsModality}
use Rattle.dr_plan_entries.specs.Visiting.{VisitorGoesOn}
use Rattle.dr_plan_entries.proofs.Orders.{by_modality}
use Rattle.dr_plan_entries.proofs.Visits.{Picks, picked_is, picked_below, one_more, all_of_them, went_on, found_in_row}
use Rattle.dr_plan_entries.specs.Listing.{IsRow}
use Rattle.dr_plan_entries.specs.declared.rows.FlowSide.TheVariants.{Station}
use Rattle.dr_plan_entries.proofs.RowLemmas.{fewer_flows}
use Rattle.dr_plan_entries.proofs.Wanted.{modality_in, modality_out}
use Rattle.dr_plan_entries.proofs.sweep.EntrySweep.visit_modalities.Goals as goal

pub visit_left-requires-clause-fit : goal.visit_left-requires-clause-fit
visit_left-requires-clause-fit g c = λ flow k has at.
    let S : Flow → Type 0 = λ f. AdmitsField f.modalities c.modality-item.result in
    let P : List ℕ → Type 0 = λ ks. Contains ks k in
    let Q : List Flow → Type 0 = λ fs. Picks fs c.args.among.now S c.in_ok-here.here.items in
    let n = picked_is c.args.self.now.plan.now.flows c.args.among.now c.in_ok-here.here.items S (subst Q c.flows.ensures.same c.in_ok-here.ensures) k flow
    (subst P c.as_slice-left.ensures.value has) at in
    (n.1, c.requires.fit flow k n.0 at)

pub visit_left-requires-clause-below : goal.visit_left-requires-clause-below
visit_left-requires-clause-below g c =
    let S : Flow → Type 0 = λ f. AdmitsField f.modalities c.modality-item.result in
    let P : List ℕ → Type 0 = λ ks. AllBelow ks c.args.self.now.plan.now.flows in
    let Q : List Flow → Type 0 = λ fs. Picks fs c.args.among.now S c.in_ok-here.here.items in
    subst P (sym c.as_slice-left.ensures.value)
    (picked_below c.args.self.now.plan.now.flows c.args.among.now c.in_ok-here.here.items S (subst Q c.flows.ensures.same c.in_ok-here.ensures) c.requires.below)

pub visit_left-requires-clause-row : goal.visit_left-requires-clause-row
visit_left-requires-clause-row g c =
    let S : Flow → Type 0 = λ f. AdmitsField f.modalities c.modality-item.result in
    let P : List ℕ → Type 0 = λ ks. IsRow Station c.args.self.now.plan.now ks c.args.stations.now in
    let Q : List Flow → Type 0 = λ fs. Picks fs c.args.among.now S c.in_ok-here.here.items in
    let picks = subst Q c.flows.ensures.same c.in_ok-here.ensures in
    subst P (sym c.as_slice-left.ensures.value)
    (fewer_flows Station c.args.self.now.plan.now c.args.among.now c.in_ok-here.here.items c.args.stations.now (λ k has. ((picks k).0 has).0) c.requires.stations)

pub loop-modality-preserved : goal.loop-modality-preserved
loop-modality-preserved g c =
    let plan : Network = c.args.self.now.plan.now in
    let items : List OwnedField = c.args.row.now in
    let S : Flow → Type 0 = λ f. AdmitsField f.modalities c.modality-item.result in
    let Q : List Flow → Type 0 = λ fs. Picks fs c.args.among.now S c.in_ok-here.here.items in
    let H : List ℕ → Type 0 = λ ks. Picks plan.flows c.args.among.now S ks in
    let picks : H c.as_slice-left.result.now = subst H (sym c.as_slice-left.ensures.value) (subst Q c.flows.ensures.same c.in_ok-here.ensures) in
    let e = take_more items c.loop-modality.modality-index c.modality-item.result c.loop-modality-test.true in
    let more : take (c.loop-modality.modality-index + 1) items ≡ take c.loop-modality.modality-index items ++ c.modality-item.result ∷ [] = rw (← c.modality-item.is) at e in
    let went = went_on g.V.EntryVisitor.plan g.V.EntryVisitor.is_ready g.V.EntryVisitor.has_visited g.V.EntryVisitor.shows _ c.loop-modality.visitor c.visit_left.new.visitor c.in_ok-found.found
    (sym c.if-is_some.ensures) c.in_ok-found.ensures in
    one_more g.V.EntryVisitor.plan g.V.EntryVisitor.is_ready g.V.EntryVisitor.has_visited g.V.EntryVisitor.shows
    (λ s x. x.modality) (WantsSyntax plan c.args.entrance.now.site.now c.args.entrance.now.class.now c.args.entrance.now.syntax c.args.among.now) (WantsModality plan c.args.entrance.now.site.now c.args.entrance.now.class.now c.args.entrance.now.syntax c.modality-item.result c.as_slice-left.result.now)
    (take c.loop-modality.modality-index items) (take (c.loop-modality.modality-index + 1) items) c.modality-item.result c.args.visitor.now c.loop-modality.visitor c.visit_left.new.visitor more
    c.loop-modality.invariant went (modality_in plan c.args.entrance.now.site.now c.args.entrance.now.class.now c.args.entrance.now.syntax c.modality-item.result c.args.among.now c.as_slice-left.result.now picks)

pub returns-then-is_some : goal.returns-then-is_some
returns-then-is_some g c =
    let plan : Network = c.args.self.now.plan.now in
    let items : List OwnedField = c.args.row.now in
    let S : Flow → Type 0 = λ f. AdmitsField f.modalities c.modality-item.result in
    let Q : List Flow → Type 0 = λ fs. Picks fs c.args.among.now S c.in_ok-here.here.items in
    let H : List ℕ → Type 0 = λ ks. Picks plan.flows c.args.among.now S ks in
    let picks : H c.as_slice-left.result.now = subst H (sym c.as_slice-left.ensures.value) (subst Q c.flows.ensures.same c.in_ok-here.ensures) in
    found_in_row g.V.EntryVisitor.plan g.V.EntryVisitor.is_ready g.V.EntryVisitor.has_visited g.V.EntryVisitor.shows
    printed_field (λ s x. x.modality) (WantsSyntax plan c.args.entrance.now.site.now c.args.entrance.now.class.now c.args.entrance.now.syntax c.args.among.now) (WantsModality plan c.args.entrance.now.site.now c.args.entrance.now.class.now c.args.entrance.now.syntax c.modality-item.result c.as_slice-left.result.now)
    items c.loop-modality.modality-index c.modality-item.result c.args.visitor.now c.loop-modality.visitor c.visit_left.new.visitor c.in_ok-found.found (sym c.if-is_some.ensures)
    c.requires.row.ordered c.loop-modality-test.true (sym c.modality-item.is)
    c.loop-modality.invariant c.in_ok-found.ensures
    (λ s x w. let t = w.1.1.2 in c.requires.row.whole t.0 t.2.0 x.modality t.1 t.2.1 t.2.2.modality w.1.1.1.0)
    (modality_in plan c.args.entrance.now.site.now c.args.entrance.now.class.now c.args.entrance.now.syntax c.modality-item.result c.args.among.now c.as_slice-left.result.now picks)
    (modality_out plan c.args.entrance.now.site.now c.args.entrance.now.class.now c.args.entrance.now.syntax c.modality-item.result c.args.among.now c.as_slice-left.result.now picks)
    (λ s t x y w v before. by_modality s t x y (w.1.1.0 ∙ sym v.1.1.0) (w.1.0 ∙ sym v.1.0) (w.0 ∙ sym v.0) before)

pub returns : goal.returns
returns g c =
    let items : List OwnedField = c.args.row.now in
    let all : take c.loop-modality.modality-index items ≡ items = take_all c.loop-modality.modality-index items (omega arith) in
    let P : List OwnedField → Type 0 = λ xs. VisitorGoesOn g.V.EntryVisitor.plan g.V.EntryVisitor.is_ready g.V.EntryVisitor.has_visited g.V.EntryVisitor.shows
    (λ s x. WantsSyntax c.args.self.now.plan.now c.args.entrance.now.site.now c.args.entrance.now.class.now c.args.entrance.now.syntax c.args.among.now s x × Contains xs (x.modality)) c.args.visitor.now c.loop-modality.visitor in
    all_of_them g.V.EntryVisitor.plan g.V.EntryVisitor.is_ready g.V.EntryVisitor.has_visited g.V.EntryVisitor.shows (λ s x. x.modality) (WantsSyntax c.args.self.now.plan.now c.args.entrance.now.site.now c.args.entrance.now.class.now c.args.entrance.now.syntax c.args.among.now)
    items c.args.visitor.now c.loop-modality.visitor (subst P all c.loop-modality.invariant)
    (λ s x w. let t = w.1.1.2 in c.requires.row.whole t.0 t.2.0 x.modality t.1 t.2.1 t.2.2.modality w.1.1.1.0)
