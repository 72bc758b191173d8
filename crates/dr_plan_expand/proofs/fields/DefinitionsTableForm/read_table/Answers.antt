use Rattle.std.proofs.Common.{List, ◌∙◌, ap, subst, string_bytes}
use Rattle.std.proofs.lemmas.Result.{err_from_is_err_and}
use Rattle.toml.specs.View.{view, members_view, table_view}
use Rattle.toml.proofs.Views.{Entry}
use Rattle.dr_plan_expand.specs.Fields.{IsDefinition}
use Rattle.dr_plan_expand.proofs.Defining.{Defined, defined_start, defined_more, defined_none, defined_all}
use Rattle.dr_plan_expand.proofs.fields.DefinitionsTableForm.read_table.Goals as goal

pub loop-name-init : goal.loop-name-init
loop-name-init c =
    let listed = c.into_iter-name-iterator.ensures.into_iter_gives ∙ c.iter-name-items.ensures.rest in
    rw (ap members_view listed, c.new-read.ensures.items) (defined_start (table_view c.args.table.now))

pub loop-name-preserved : goal.loop-name-preserved
loop-name-preserved c =
    let all = table_view c.args.table.now in
    let D : List Entry → Type 0 = λ es. Defined all (members_view es) c.loop-name.read.items in
    let is : IsDefinition (string_bytes c.in-Some.name.now) (view c.in-Some.value.now) c.in_ok-definition_of.field-0 = rw c.as_str.ensures.value at c.in_ok-definition_of.ensures.ok in
    rw c.in_ok-push.ensures.items
    (defined_more all _ (string_bytes c.in-Some.name.now) (view c.in-Some.value.now) c.loop-name.read.items c.in_ok-definition_of.field-0 is (subst D c.in-Some.ensures.steps c.loop-name.invariant))

pub returns-in_err-definition_of-clause-field : goal.returns-in_err-definition_of-clause-field
returns-in_err-definition_of-clause-field c =
    let all = table_view c.args.table.now in
    let D : List Entry → Type 0 = λ es. Defined all (members_view es) c.loop-name.read.items in
    let p = err_from_is_err_and c.from_residual.result c.from_residual.ensures.1 in
    rw (p.1, p.2) (λ e.
    defined_none all _ (string_bytes c.in-Some.name.now) (view c.in-Some.value.now) c.loop-name.read.items (rw c.as_str.ensures.value at (c.in_err-definition_of.ensures.field e)) (subst D c.in-Some.ensures.steps c.loop-name.invariant))

pub returns-clause-ok : goal.returns-clause-ok
returns-clause-ok c =
    let all = table_view c.args.table.now in
    let D : List Entry → Type 0 = λ es. Defined all (members_view es) c.loop-name.read.items in
    rw c.from_vec.ensures (defined_all all c.loop-name.read.items (subst D c.in-None.ensures.steps.0 c.loop-name.invariant))
