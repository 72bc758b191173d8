use Rattle.std.proofs.Common.{◌≡◌, ℕ, ◌+◌, ◌∙◌, sym, subst, List, [], ◌∷◌, ◌++◌, take, Contains, arith}
use Rattle.std.proofs.lemmas.List.{take_more, take_all}
use Rattle.dr_base.specs.Texts.{Text, IsInByteOrder}
use Rattle.dr_plan_model.specs.Networks.{Network}
use Rattle.dr_plan_model.specs.declared.plan.Flow.{Flow}
use Rattle.dr_plan_entries.specs.Entering.{AllBelow, HasClasses, WantsSite, WantsClass}
use Rattle.dr_plan_entries.specs.Visiting.{VisitorGoesOn}
use Rattle.dr_plan_entries.proofs.Orders.{by_class, byte_order_is_printed}
use Rattle.dr_plan_entries.proofs.Visits.{Picks, picked_is, picked_below, one_more, all_of_them, went_on, found_in_row}
use Rattle.dr_plan_entries.proofs.Wanted.{class_in, class_out}
use Rattle.dr_plan_entries.proofs.sweep.EntrySweep.visit_site.Goals as goal

pub visit_class-requires-clause-fit : goal.visit_class-requires-clause-fit
visit_class-requires-clause-fit g c = λ flow k has at.
    let S : Flow → Type 0 = λ f. Contains f.classes c.class-item.result in
    let P : List ℕ → Type 0 = λ ks. Contains ks k in
    let Q : List Flow → Type 0 = λ fs. Picks fs c.args.among.now S c.in_ok-here.here.items in
    let n = picked_is c.args.self.now.plan.now.flows c.args.among.now c.in_ok-here.here.items S (subst Q c.flows-in-loop-class.ensures.same c.in_ok-here.ensures) k flow
    (subst P c.as_slice.ensures.value has) at in
    (n.1, c.requires.fit flow k n.0 at)

pub visit_class-requires-clause-below : goal.visit_class-requires-clause-below
visit_class-requires-clause-below g c =
    let S : Flow → Type 0 = λ f. Contains f.classes c.class-item.result in
    let P : List ℕ → Type 0 = λ ks. AllBelow ks c.args.self.now.plan.now.flows in
    let Q : List Flow → Type 0 = λ fs. Picks fs c.args.among.now S c.in_ok-here.here.items in
    subst P (sym c.as_slice.ensures.value)
    (picked_below c.args.self.now.plan.now.flows c.args.among.now c.in_ok-here.here.items S (subst Q c.flows-in-loop-class.ensures.same c.in_ok-here.ensures) c.requires.below)

pub loop-class-preserved : goal.loop-class-preserved
loop-class-preserved g c =
    let plan : Network = c.args.self.now.plan.now in
    let items : List Text = c.as_slice-class-items.result.now in
    let e = take_more items c.loop-class.class-index c.class-item.result c.loop-class-test.true in
    let more : take (c.loop-class.class-index + 1) items ≡ take c.loop-class.class-index items ++ c.class-item.result ∷ [] = rw (← c.class-item.is) at e in
    let went = went_on g.V.EntryVisitor.plan g.V.EntryVisitor.is_ready g.V.EntryVisitor.has_visited g.V.EntryVisitor.shows _ c.loop-class.visitor c.visit_class.new.visitor c.in_ok-found.found
    (sym c.if-is_some.ensures) c.in_ok-found.ensures in
    let S : Flow → Type 0 = λ f. Contains f.classes c.class-item.result in
    let Q : List Flow → Type 0 = λ fs. Picks fs c.args.among.now S c.in_ok-here.here.items in
    let H : List ℕ → Type 0 = λ ks. Picks plan.flows c.args.among.now S ks in
    let picks : H c.as_slice.result.now = subst H (sym c.as_slice.ensures.value) (subst Q c.flows-in-loop-class.ensures.same c.in_ok-here.ensures) in
    one_more g.V.EntryVisitor.plan g.V.EntryVisitor.is_ready g.V.EntryVisitor.has_visited g.V.EntryVisitor.shows
    (λ s x. x.class) (WantsSite plan c.args.site.now c.args.among.now) (WantsClass plan c.args.site.now c.class-item.result c.as_slice.result.now)
    (take c.loop-class.class-index items) (take (c.loop-class.class-index + 1) items) c.class-item.result c.args.visitor.now c.loop-class.visitor c.visit_class.new.visitor more
    c.loop-class.invariant went (class_in plan c.args.site.now c.class-item.result c.args.among.now c.as_slice.result.now picks)

pub returns-then-is_some : goal.returns-then-is_some
returns-then-is_some g c =
    let plan : Network = c.args.self.now.plan.now in
    let items : List Text = c.as_slice-class-items.result.now in
    let S : Flow → Type 0 = λ f. Contains f.classes c.class-item.result in
    let Q : List Flow → Type 0 = λ fs. Picks fs c.args.among.now S c.in_ok-here.here.items in
    let H : List ℕ → Type 0 = λ ks. Picks plan.flows c.args.among.now S ks in
    let picks : H c.as_slice.result.now = subst H (sym c.as_slice.ensures.value) (subst Q c.flows-in-loop-class.ensures.same c.in_ok-here.ensures) in
    let B : List Text → Type 0 = λ ts. IsInByteOrder ts in
    let R : List Flow → Type 0 = λ fs. HasClasses fs c.args.among.now c.in_ok-classes.classes in
    let row : HasClasses plan.flows c.args.among.now c.in_ok-classes.classes = subst R c.flows.ensures.same c.in_ok-classes.ensures.whole in
    found_in_row g.V.EntryVisitor.plan g.V.EntryVisitor.is_ready g.V.EntryVisitor.has_visited g.V.EntryVisitor.shows
    (λ t. t) (λ s x. x.class) (WantsSite plan c.args.site.now c.args.among.now) (WantsClass plan c.args.site.now c.class-item.result c.as_slice.result.now)
    items c.loop-class.class-index c.class-item.result c.args.visitor.now c.loop-class.visitor c.visit_class.new.visitor c.in_ok-found.found (sym c.if-is_some.ensures)
    (byte_order_is_printed items (subst B (sym c.as_slice-class-items.ensures) c.in_ok-classes.ensures.ordered)) c.loop-class-test.true (sym c.class-item.is)
    c.loop-class.invariant c.in_ok-found.ensures
    (λ s x w. let F : List Text → Type 0 = λ xs. Contains xs x.class in subst F (sym c.as_slice-class-items.ensures) (row w.2.0 w.2.2.0 x.class w.2.1 w.2.2.1 w.2.2.2.class))
    (class_in plan c.args.site.now c.class-item.result c.args.among.now c.as_slice.result.now picks)
    (class_out plan c.args.site.now c.class-item.result c.args.among.now c.as_slice.result.now picks)
    (λ s t x y w v before. by_class s t x y (w.0 ∙ sym v.0) before)

pub returns : goal.returns
returns g c =
    let items : List Text = c.as_slice-class-items.result.now in
    let all : take c.loop-class.class-index items ≡ items = take_all c.loop-class.class-index items (omega arith) in
    let P : List Text → Type 0 = λ xs. VisitorGoesOn g.V.EntryVisitor.plan g.V.EntryVisitor.is_ready g.V.EntryVisitor.has_visited g.V.EntryVisitor.shows
    (λ s x. WantsSite c.args.self.now.plan.now c.args.site.now c.args.among.now s x × Contains xs (x.class)) c.args.visitor.now c.loop-class.visitor in
    all_of_them g.V.EntryVisitor.plan g.V.EntryVisitor.is_ready g.V.EntryVisitor.has_visited g.V.EntryVisitor.shows (λ s x. x.class) (WantsSite c.args.self.now.plan.now c.args.site.now c.args.among.now)
    items c.args.visitor.now c.loop-class.visitor (subst P all c.loop-class.invariant)
    (λ s x w. let F : List Text → Type 0 = λ xs. Contains xs x.class in
    let H : List Flow → Type 0 = λ fs. HasClasses fs c.args.among.now c.in_ok-classes.classes in
    subst F (sym c.as_slice-class-items.ensures) (subst H c.flows.ensures.same c.in_ok-classes.ensures.whole w.2.0 w.2.2.0 x.class w.2.1 w.2.2.1 w.2.2.2.class))
