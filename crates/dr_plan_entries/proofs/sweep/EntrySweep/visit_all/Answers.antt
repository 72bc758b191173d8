use Rattle.std.proofs.Common.{◌≡◌, ℕ, ◌+◌, ◌∙◌, sym, subst, List, [], ◌∷◌, ◌++◌, take, Contains, Some, arith}
use Rattle.std.specs.Prelude.{slice_get, None}
use Rattle.std.proofs.lemmas.List.{take_more, take_all}
use Rattle.dr_base.specs.Texts.{Text, IsInByteOrder}
use Rattle.dr_route.specs.declared.cell.OwnedCell.{OwnedCell}
use Rattle.dr_plan_model.specs.Networks.{Network}
use Rattle.dr_plan_model.specs.declared.plan.Flow.{Flow}
use Rattle.dr_plan_entries.specs.Entering.{AllBelow, TakesIn, HasSites, WantsAny, WantsSite}
use Rattle.dr_plan_entries.specs.Visiting.{VisitorGoesOn, IsEntryCell}
use Rattle.dr_plan_entries.proofs.Entries.{wanted_entry, entry_wanted}
use Rattle.dr_plan_entries.proofs.Orders.{by_site, byte_order_is_printed}
use Rattle.dr_plan_entries.proofs.Visits.{Picks, picked_is, picked_below, one_more, all_of_them, went_on, wants_alike, found_in_row}
use Rattle.dr_plan_entries.proofs.Wanted.{site_in, site_out}
use Rattle.dr_plan_entries.proofs.sweep.EntrySweep.visit_all.Goals as goal

pub narrowed-requires-clause-below : goal.narrowed-requires-clause-below
narrowed-requires-clause-below g c =
    let P : List ℕ → Type 0 = λ ks. AllBelow ks c.flows-in-loop-site.result.now in
    let Q : List Flow → Type 0 = λ fs. AllBelow c.in_ok-all.all.items fs in
    subst P (sym c.as_slice.ensures.value) (subst Q (c.flows.ensures.same ∙ sym c.flows-in-loop-site.ensures.same)
    c.in_ok-all.ensures.below)

pub visit_site-requires-clause-fit : goal.visit_site-requires-clause-fit
visit_site-requires-clause-fit g c = λ flow k has at.
    let S : Flow → Type 0 = λ f. f.at ≡ c.site-item.result in
    let P : List ℕ → Type 0 = λ ks. Contains ks k in
    let Q : List Flow → Type 0 = λ fs. Picks fs c.as_slice.result.now S c.in_ok-here.here.items in
    (picked_is c.args.self.now.plan.now.flows c.as_slice.result.now c.in_ok-here.here.items S (subst Q c.flows-in-loop-site.ensures.same c.in_ok-here.ensures) k flow
    (subst P c.as_slice-in-loop-site.ensures.value has) at).1

pub visit_site-requires-clause-below : goal.visit_site-requires-clause-below
visit_site-requires-clause-below g c =
    let S : Flow → Type 0 = λ f. f.at ≡ c.site-item.result in
    let P : List ℕ → Type 0 = λ ks. AllBelow ks c.args.self.now.plan.now.flows in
    let Q : List Flow → Type 0 = λ fs. Picks fs c.as_slice.result.now S c.in_ok-here.here.items in
    let R : List Flow → Type 0 = λ fs. AllBelow c.in_ok-all.all.items fs in
    let below : AllBelow c.as_slice.result.now c.args.self.now.plan.now.flows = subst P (sym c.as_slice.ensures.value) (subst R c.flows.ensures.same
    c.in_ok-all.ensures.below) in
    subst P (sym c.as_slice-in-loop-site.ensures.value)
    (picked_below c.args.self.now.plan.now.flows c.as_slice.result.now c.in_ok-here.here.items S (subst Q c.flows-in-loop-site.ensures.same c.in_ok-here.ensures) below)

pub loop-site-preserved : goal.loop-site-preserved
loop-site-preserved g c =
    let plan : Network = c.args.self.now.plan.now in
    let items : List Text = c.as_slice-site-items.result.now in
    let S : Flow → Type 0 = λ f. f.at ≡ c.site-item.result in
    let Q : List Flow → Type 0 = λ fs. Picks fs c.as_slice.result.now S c.in_ok-here.here.items in
    let H : List ℕ → Type 0 = λ ks. Picks plan.flows c.as_slice.result.now S ks in
    let picks : H c.as_slice-in-loop-site.result.now = subst H (sym c.as_slice-in-loop-site.ensures.value) (subst Q c.flows-in-loop-site.ensures.same c.in_ok-here.ensures) in
    let A : List Flow → ℕ → Flow → Type 0 = λ fs k flow. slice_get fs k ≡ Some flow in
    let whole : (k : ℕ) (flow : Flow) (cell : OwnedCell) → slice_get plan.flows k ≡ Some flow → TakesIn flow cell → Contains c.as_slice.result.now k =
    λ k flow cell at takes.
    (let B : List Flow → Type 0 = λ fs. A fs k flow in
    let L : List ℕ → Type 0 = λ ks. Contains ks k in
    subst L (sym c.as_slice.ensures.value) (c.in_ok-all.ensures.whole k flow cell (subst B (sym c.flows.ensures.same) at) takes)) in
    let e = take_more items c.loop-site.site-index c.site-item.result c.loop-site-test.true in
    let more : take (c.loop-site.site-index + 1) items ≡ take c.loop-site.site-index items ++ c.site-item.result ∷ [] = rw (← c.site-item.is) at e in
    let went = went_on g.V.EntryVisitor.plan g.V.EntryVisitor.is_ready g.V.EntryVisitor.has_visited g.V.EntryVisitor.shows _ c.loop-site.visitor c.visit_site.new.visitor c.in_ok-found.found
    (sym c.if-is_some.ensures) c.in_ok-found.ensures in
    one_more g.V.EntryVisitor.plan g.V.EntryVisitor.is_ready g.V.EntryVisitor.has_visited g.V.EntryVisitor.shows
    (λ s x. s) (WantsAny plan) (WantsSite plan c.site-item.result c.as_slice-in-loop-site.result.now)
    (take c.loop-site.site-index items) (take (c.loop-site.site-index + 1) items) c.site-item.result c.args.visitor.now c.loop-site.visitor c.visit_site.new.visitor more
    c.loop-site.invariant went (site_in plan c.site-item.result c.as_slice.result.now c.as_slice-in-loop-site.result.now picks whole)

pub returns-then-is_some : goal.returns-then-is_some
returns-then-is_some g c =
    let plan : Network = c.args.self.now.plan.now in
    let items : List Text = c.as_slice-site-items.result.now in
    let S : Flow → Type 0 = λ f. f.at ≡ c.site-item.result in
    let Q : List Flow → Type 0 = λ fs. Picks fs c.as_slice.result.now S c.in_ok-here.here.items in
    let H : List ℕ → Type 0 = λ ks. Picks plan.flows c.as_slice.result.now S ks in
    let picks : H c.as_slice-in-loop-site.result.now = subst H (sym c.as_slice-in-loop-site.ensures.value) (subst Q c.flows-in-loop-site.ensures.same c.in_ok-here.ensures) in
    let A : List Flow → ℕ → Flow → Type 0 = λ fs k flow. slice_get fs k ≡ Some flow in
    let whole : (k : ℕ) (flow : Flow) (cell : OwnedCell) → slice_get plan.flows k ≡ Some flow → TakesIn flow cell → Contains c.as_slice.result.now k =
    λ k flow cell at takes.
    (let B : List Flow → Type 0 = λ fs. A fs k flow in
    let L : List ℕ → Type 0 = λ ks. Contains ks k in
    subst L (sym c.as_slice.ensures.value) (c.in_ok-all.ensures.whole k flow cell (subst B (sym c.flows.ensures.same) at) takes)) in
    let B : List Text → Type 0 = λ ts. IsInByteOrder ts in
    wants_alike g.V.EntryVisitor.plan g.V.EntryVisitor.is_ready g.V.EntryVisitor.has_visited g.V.EntryVisitor.shows
    (WantsAny plan) (IsEntryCell plan) c.args.visitor.now c.visit_site.new.visitor c.in_ok-found.found (λ s x. (wanted_entry plan s x, entry_wanted plan c.flows.ensures.well_formed s x))
    (found_in_row g.V.EntryVisitor.plan g.V.EntryVisitor.is_ready g.V.EntryVisitor.has_visited g.V.EntryVisitor.shows
    (λ t. t) (λ s x. s) (WantsAny plan) (WantsSite plan c.site-item.result c.as_slice-in-loop-site.result.now)
    items c.loop-site.site-index c.site-item.result c.args.visitor.now c.loop-site.visitor c.visit_site.new.visitor c.in_ok-found.found (sym c.if-is_some.ensures)
    (byte_order_is_printed items (subst B (sym c.as_slice-site-items.ensures) c.in_ok-sites.ensures.ordered)) c.loop-site-test.true (sym c.site-item.is)
    c.loop-site.invariant c.in_ok-found.ensures
    (λ s x w.
    let H : List Flow → Type 0 = λ fs. HasSites fs c.in_ok-sites.sites in
    let T : Text → Type 0 = λ t. Contains items t in
    let F : List Text → Type 0 = λ xs. Contains xs w.1.0.at in
    subst T w.1.2 (subst F (sym c.as_slice-site-items.ensures) (subst H c.flows-2.ensures.same c.in_ok-sites.ensures.whole w.1.0 w.1.1)))
    (site_in plan c.site-item.result c.as_slice.result.now c.as_slice-in-loop-site.result.now picks whole)
    (site_out plan c.site-item.result c.as_slice.result.now c.as_slice-in-loop-site.result.now picks)
    (λ s t x y w v before. by_site s t x y before))

pub returns : goal.returns
returns g c =
    let plan : Network = c.args.self.now.plan.now in
    let items : List Text = c.as_slice-site-items.result.now in
    let all : take c.loop-site.site-index items ≡ items = take_all c.loop-site.site-index items (omega arith) in
    let P : List Text → Type 0 = λ xs. VisitorGoesOn g.V.EntryVisitor.plan g.V.EntryVisitor.is_ready g.V.EntryVisitor.has_visited g.V.EntryVisitor.shows
    (λ s x. WantsAny plan s x × Contains xs s) c.args.visitor.now c.loop-site.visitor in
    wants_alike g.V.EntryVisitor.plan g.V.EntryVisitor.is_ready g.V.EntryVisitor.has_visited g.V.EntryVisitor.shows
    (WantsAny plan) (IsEntryCell plan) c.args.visitor.now c.loop-site.visitor None (λ s x. (wanted_entry plan s x, entry_wanted plan c.flows.ensures.well_formed s x))
    (all_of_them g.V.EntryVisitor.plan g.V.EntryVisitor.is_ready g.V.EntryVisitor.has_visited g.V.EntryVisitor.shows (λ s x. s) (WantsAny plan)
    items c.args.visitor.now c.loop-site.visitor (subst P all c.loop-site.invariant)
    (λ s x w.
    let H : List Flow → Type 0 = λ fs. HasSites fs c.in_ok-sites.sites in
    let T : Text → Type 0 = λ t. Contains items t in
    let F : List Text → Type 0 = λ xs. Contains xs w.1.0.at in
    subst T w.1.2 (subst F (sym c.as_slice-site-items.ensures) (subst H c.flows-2.ensures.same c.in_ok-sites.ensures.whole w.1.0 w.1.1))))
