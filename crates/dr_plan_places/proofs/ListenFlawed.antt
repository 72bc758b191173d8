-- Why a node's table is at fault where it says that the node listens.
use Rattle.std.proofs.Common.{◌≡◌, refl, sym, ◌∙◌, ap, subst, List, [], ◌∷◌, Option, None, Some, Bool, true, false, not, IsTrue, length, ◌==◌, codes}
use Rattle.std.proofs.lemmas.Option.{none-some}
use Rattle.toml.specs.Data.{Data, array, Items, no_items, item, Members, get_member}
use Rattle.dr_base.specs.Texts.{Text}
use Rattle.dr_plan_model.specs.Formed.{IsAddress}
use Rattle.dr_plan_model.specs.Listening.{AtItsAddress, ListensFits, MayAccept}
use Rattle.dr_plan_model.specs.declared.listens.Listens.{Listens}
use Rattle.dr_plan_model.specs.declared.listens.Listens.TheVariants.{Nowhere, At}
use Rattle.dr_plan_model.specs.declared.plan.Format.{Format}
use Rattle.dr_plan_model.specs.declared.plan.Format.TheVariants.{Three}
use Rattle.dr_plan_text.specs.Fields.{SaysFormed, SaysSome, SaysTable, Given, GivenOr, IsListOf, ListsValues}
use Rattle.dr_plan_text.specs.Listening.{CallsOnly, SaysListens, IsListens}
use Rattle.dr_plan_text.specs.Tables.{IsAcceptTable}
use Rattle.dr_plan_text.proofs.Listened.{calls_and_listens}
use Rattle.toml.specs.declared.value.Value.{Value}
use Rattle.toml.specs.View.{items_view}
use Rattle.dr_plan_text.specs.declared.words.NodeText.{NodeText}
use Rattle.dr_plan_expand.specs.Tables.{IsShortRow, IsShortNode}
use Rattle.dr_plan_expand.specs.declared.short.ShortNode.{ShortNode}
use Rattle.dr_plan_places.specs.FieldFlaws.{IsAtFault, IsNodeOf, items_at}
use Rattle.dr_plan_places.proofs.FieldsFlawed.{not_both}
use Rattle.dr_plan_places.specs.Listening.{IsListensOf, HasItems}

-- where nothing to bind to is said, nothing is given
none_bound : (field : Option Data) (bind : Option Text) → GivenOr None (SaysSome (SaysFormed IsAddress)) field bind → bind ≡ None → field ≡ None
none_bound None bind says none = refl
none_bound (Some d) None says none = absurd says
none_bound (Some d) (Some own) says none = absurd (none-some own (sym none))

module _ (may : Bool) (format : Format) (fields : Members) where
  pub nowhere_unfit : CallsOnly fields → (ListensFits format Nowhere → ⊥) → IsAtFault (IsListensOf may format) fields (codes "listens")
  nowhere_unfit calls unfit other Nowhere same beside is = unfit is.1
  nowhere_unfit calls unfit other (At address bind) same beside is = calls_and_listens may other (same ∙ calls) is.0.0

  pub said_wrongly : (CallsOnly fields → ⊥) → (SaysListens may (get_member (codes "listens") fields) → ⊥) → IsAtFault (IsListensOf may format) fields (codes "listens")
  said_wrongly no_call no_say other Nowhere same beside is = no_call (sym same ∙ is.0.0)
  said_wrongly no_call no_say other (At address bind) same beside is = no_say (subst (SaysListens may) same is.0.0)

  pub addressed : CallsOnly fields → (get_member (codes "address") fields ≡ None → ⊥) → IsAtFault (IsListensOf may format) fields (codes "address")
  addressed calls given other Nowhere same beside is = given (sym same ∙ is.0.1)
  addressed calls given other (At address bind) same beside is = calls_and_listens may other (beside ∙ calls) is.0.0

  pub unaddressed : (CallsOnly fields → ⊥) → ((x : Text) → Given (SaysFormed IsAddress) (get_member (codes "address") fields) x → ⊥) → IsAtFault (IsListensOf may format) fields (codes "address")
  unaddressed no_call none other Nowhere same beside is = no_call (sym beside ∙ is.0.0)
  unaddressed no_call none other (At address bind) same beside is = none address (subst (λ (d : Option Data). Given (SaysFormed IsAddress) d address) same is.0.1)

  pub bound : CallsOnly fields → (get_member (codes "bind") fields ≡ None → ⊥) → IsAtFault (IsListensOf may format) fields (codes "bind")
  bound calls given other Nowhere same beside is = given (sym same ∙ is.0.2)
  bound calls given other (At address bind) same beside is = calls_and_listens may other (beside ∙ calls) is.0.0

  pub bound_before : ((place : Listens) → ListensFits format place → AtItsAddress place) → (get_member (codes "bind") fields ≡ None → ⊥) → IsAtFault (IsListensOf may format) fields (codes "bind")
  bound_before before given other Nowhere same beside is = before Nowhere is.1
  bound_before before given other (At address bind) same beside is = given (sym same ∙ none_bound (get_member (codes "bind") other) bind is.0.2 (before (At address bind) is.1))

  pub misbound : (CallsOnly fields → ⊥) → ((default x : Option Text) → GivenOr default (SaysSome (SaysFormed IsAddress)) (get_member (codes "bind") fields) x → ⊥) → IsAtFault (IsListensOf may format) fields (codes "bind")
  misbound no_call none other Nowhere same beside is = no_call (sym beside ∙ is.0.0)
  misbound no_call none other (At address bind) same beside is = none None bind (subst (λ (d : Option Data). GivenOr None (SaysSome (SaysFormed IsAddress)) d bind) same is.0.2)

-- a list that says nothing has no item
no_item : {X : Type 0} (Says : Data → X → Type 0) (d : Data) (items : Items) → d ≡ array items → ListsValues Says items [] → items_at (Some d) ≡ no_items
no_item Says d no_items same lists = ap (λ (e : Data). items_at (Some e)) same
no_item Says d (item first more) same lists = absurd lists

nothing_listed : {X : Type 0} (Says : Data → X → Type 0) (field : Option Data) (rows : List X) → GivenOr [] (IsListOf Says) field rows → rows ≡ [] → items_at field ≡ no_items
nothing_listed Says None rows says none = refl
nothing_listed Says (Some d) rows says none = no_item Says d says.0 says.1 (subst (λ r. ListsValues Says says.0 r) none says.2)

-- a node that only calls has no list of rows with a row in it
none_accepted : {X : Type 0} (may : Bool) (Says : Data → X → Type 0) (other : Members) (place : Listens) (rows : List X) → CallsOnly other → IsListens may other place → MayAccept place rows
    → (field : Option Data) → HasItems field → GivenOr [] (IsListOf Says) field rows → ⊥
none_accepted may Says other Nowhere rows calls is none field has says = has (nothing_listed Says field rows says none)
none_accepted may Says other (At address bind) rows calls is none field has says = absurd (calls_and_listens may other calls is.0)

-- a slice of values with one in it is seen as a list with an item
pub some_seen : (b : Bool) (values : List Value) → b ≡ (length values == 0) → IsTrue (not b) → items_view values ≡ no_items → ⊥
some_seen b [] is some none = not_both b some (subst IsTrue (sym is) refl)
some_seen b (value ∷ values) is some none = cc

-- what is at fault in how a node listens is at fault in its table
pub node_at : (format : Format) (fields : Members) (key : Text) → IsAtFault (IsListensOf false format) fields key → IsAtFault (IsNodeOf format) fields key
node_at format fields key fault other x same beside is = fault other x.listens same beside (is.0.listens, is.1)

pub short_at : (fields : Members) (key : Text) → IsAtFault (IsListensOf true Three) fields key → IsAtFault IsShortNode fields key
short_at fields key fault other x same beside is = fault other x.listens same beside (is.listens, tt)

pub node_accepts : (format : Format) (fields : Members) → CallsOnly fields → HasItems (get_member (codes "accept") fields) → IsAtFault (IsNodeOf format) fields (codes "accept")
node_accepts format fields calls has other x same beside is =
    none_accepted false (SaysTable IsAcceptTable) other x.listens x.accepts (beside ∙ calls) is.0.listens is.0.may_accept (get_member (codes "accept") other)
    (subst HasItems (sym same) has) is.0.accept

pub short_accepts : (fields : Members) → CallsOnly fields → HasItems (get_member (codes "accept") fields) → IsAtFault IsShortNode fields (codes "accept")
short_accepts fields calls has other x same beside is =
    none_accepted true (SaysTable IsShortRow) other x.listens x.accepts (beside ∙ calls) is.listens is.may_accept (get_member (codes "accept") other)
    (subst HasItems (sym same) has) is.accept
