use Rattle.std.proofs.Common.{ℕ, sym, subst, List, Contains}
use Rattle.dr_plan_model.specs.Networks.{Network}
use Rattle.dr_plan_model.specs.declared.plan.Flow.{Flow}
use Rattle.dr_plan_entries.specs.Entering.{AllBelow, WantsSyntax}
use Rattle.dr_plan_entries.proofs.Visits.{Picks, picked_is, picked_below, wants_alike}
use Rattle.dr_plan_entries.proofs.Wanted.{syntax_alike}
use Rattle.dr_plan_entries.proofs.sweep.EntrySweep.visit_class_in.Goals as goal

pub visit_syntax-requires-clause-fit : goal.visit_syntax-requires-clause-fit
visit_syntax-requires-clause-fit g c = λ flow k has at.
    let S : Flow → Type 0 = λ f. Contains f.syntaxes c.args.syntax in
    let P : List ℕ → Type 0 = λ ks. Contains ks k in
    let Q : List Flow → Type 0 = λ fs. Picks fs c.args.among.now S c.in_ok-here.here.items in
    let n = picked_is c.args.self.now.plan.now.flows c.args.among.now c.in_ok-here.here.items S (subst Q c.flows.ensures.same c.in_ok-here.ensures) k flow
    (subst P c.as_slice.ensures.value has) at in
    (n.1, c.requires.fit flow k n.0 at)

pub visit_syntax-requires-clause-below : goal.visit_syntax-requires-clause-below
visit_syntax-requires-clause-below g c =
    let S : Flow → Type 0 = λ f. Contains f.syntaxes c.args.syntax in
    let P : List ℕ → Type 0 = λ ks. AllBelow ks c.args.self.now.plan.now.flows in
    let Q : List Flow → Type 0 = λ fs. Picks fs c.args.among.now S c.in_ok-here.here.items in
    subst P (sym c.as_slice.ensures.value)
    (picked_below c.args.self.now.plan.now.flows c.args.among.now c.in_ok-here.here.items S (subst Q c.flows.ensures.same c.in_ok-here.ensures) c.requires.below)

pub returns : goal.returns
returns g c =
    let plan : Network = c.args.self.now.plan.now in
    let S : Flow → Type 0 = λ f. Contains f.syntaxes c.args.syntax in
    let Q : List Flow → Type 0 = λ fs. Picks fs c.args.among.now S c.in_ok-here.here.items in
    let H : List ℕ → Type 0 = λ ks. Picks plan.flows c.args.among.now S ks in
    let picks : H c.as_slice.result.now = subst H (sym c.as_slice.ensures.value) (subst Q c.flows.ensures.same c.in_ok-here.ensures) in
    wants_alike g.V.EntryVisitor.plan g.V.EntryVisitor.is_ready g.V.EntryVisitor.has_visited g.V.EntryVisitor.shows
    (WantsSyntax plan c.args.site.now c.args.class.now c.args.syntax c.as_slice.result.now)
    (WantsSyntax plan c.args.site.now c.args.class.now c.args.syntax c.args.among.now)
    c.args.visitor.now c.visit_syntax.new.visitor c.in_ok-found.found
    (syntax_alike plan c.args.site.now c.args.class.now c.args.syntax c.args.among.now c.as_slice.result.now picks) c.in_ok-found.ensures
