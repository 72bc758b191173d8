use Rattle.std.proofs.Common.{◌∙◌, ℕ, sym, subst, List}
use Rattle.std.specs.Prelude.{Option, MatchOption}
use Rattle.dr_base.specs.Texts.{Text}
use Rattle.dr_route.specs.declared.cell.OwnedField.{OwnedField}
use Rattle.dr_plan_model.specs.declared.plan.Flow.{Flow}
use Rattle.dr_plan_model.specs.Networks.{Network}
use Rattle.dr_plan_model.specs.Listings.{AreListedBy}
use Rattle.dr_plan_entries.specs.Entering.{AllBelow}
use Rattle.dr_plan_entries.specs.declared.rows.FlowSide.TheVariants.{Station}
use Rattle.dr_plan_entries.specs.Listing.{AreNamed, IsRow}
use Rattle.dr_plan_entries.proofs.RowLemmas.{named_parts}
use Rattle.dr_plan_entries.proofs.sweep.EntrySweep.stations_for.Goals as goal

pub names_in-requires-clause-below : goal.names_in-requires-clause-below
names_in-requires-clause-below c = let P : List Flow → Type 0 = λ fs. AllBelow c.args.among.now fs in subst P (sym c.flows.ensures.same) c.requires.below

pub names_in-requires-clause-listed : goal.names_in-requires-clause-listed
names_in-requires-clause-listed c = let P : List Flow → Type 0 = λ fs. AreListedBy fs c.listed.result.now in subst P (sym c.flows.ensures.same) c.listed.ensures

pub returns : goal.returns
returns c =
    let plan : Network = c.args.self.now.plan.now in
    let among : List ℕ = c.args.among.now in
    let O : Option (List Text) → Type 0 = λ o. MatchOption o (Unit {0}) (λ names. AreNamed Station c.flows.result.now among names) in
    let named : AreNamed Station c.flows.result.now among c.in-Some.names = subst O c.in-Some.is c.in_ok-named.ensures in
    let F : List Flow → Type 0 = λ fs. AreNamed Station fs among c.in-Some.names in
    let R : List OwnedField → Type 0 = λ row. IsRow Station plan among row in
    subst R (sym (c.from_vec.ensures ∙ c.in_ok-row.ensures)) (named_parts Station plan among c.in-Some.names (subst F c.flows.ensures.same named))
