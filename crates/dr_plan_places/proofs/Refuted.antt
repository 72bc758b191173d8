-- Tables with a flaw write no plan.
use Rattle.std.proofs.Common.{◌≡◌, refl, subst, ℕ, zero, suc, List, [], ◌∷◌, Option, None, Some}
use Rattle.std.specs.Prelude.{IsSome, codes, All}
use Rattle.std.proofs.Common.{Contains}
use Rattle.std.proofs.lemmas.List.Elements.{All-contains}
use Rattle.dr_plan_model.proofs.Gathered.{Contains-here, Contains-there}
use Rattle.dr_plan_model.specs.declared.plan.Format.{Format}
use Rattle.dr_plan_model.specs.declared.plan.Format.TheVariants.{One, Two, Three}
use Rattle.dr_plan_text.specs.declared.words.FlowText.{FlowText}
use Rattle.dr_plan_model.specs.Formed.{RuleFits, ValuesFit}
use Rattle.dr_plan_model.specs.Listening.{ListensFits}
use Rattle.dr_plan_text.proofs.OnePlan.{format_one}
use Rattle.std.proofs.lemmas.Bool.{false≢true}
use Rattle.std.proofs.lemmas.Option.{none-some, same_Some}
use Rattle.toml.specs.Data.{Data, Items, no_items, item, Members, get_item, get_member, table, as_table}
use Rattle.dr_base.specs.Texts.{Text}
use Rattle.dr_plan_text.specs.Fields.{GivenOr, IsListOf, ListsValues, SaysTable}
use Rattle.dr_plan_text.specs.Tables.{IsAcceptTable, IsFlowTable, IsNodeTable, IsRoot, IsRuleTable, IsFormat}
use Rattle.dr_plan_text.specs.declared.words.NodeText.{NodeText}
use Rattle.dr_plan_text.specs.declared.words.PlanText.{PlanText}
use Rattle.dr_plan_places.specs.FieldFlaws.{HasFlaw, HasWrong, IsAt, IsIn, IsInNode, IsReadAs, IsNodeOf, IsRuleText, IsFlowOf, items_at, table_in}
use Rattle.dr_plan_places.specs.declared.flaw.Flaw.{Flaw}
use Rattle.dr_plan_places.specs.declared.flaw.Wrong.{Wrong}
use Rattle.dr_plan_places.specs.declared.flaw.Wrong.TheVariants.{Missing, Unknown, IllFormed}
use Rattle.dr_plan_places.specs.declared.field_place.FieldPlace.{FieldPlace}
use Rattle.dr_plan_places.specs.declared.field_place.FieldPlace.TheVariants.{Root, OfNode, OfFlow}
use Rattle.dr_plan_places.specs.declared.field_place.NodePart.{NodePart}
use Rattle.dr_plan_places.specs.declared.field_place.NodePart.TheVariants.{Own, AcceptRow, Rule}

refuted_by : {X : Type 0} (IsTable : Members → X → Type 0) (fields : Members) (key : Text) (wrong : Wrong) (x : X) → HasWrong IsTable fields key wrong → IsTable fields x → ⊥
refuted_by IsTable fields key Missing x h is = h.0 fields x refl refl is
refuted_by IsTable fields key Unknown x h is = absurd (false≢true (subst IsSome (h.1 fields x is) h.0))
refuted_by IsTable fields key IllFormed x h is = h.0 fields x refl refl is

-- a table with a flaw isn't of the form
pub refuted : {X : Type 0} (IsTable : Members → X → Type 0) (fields : Members) (flaw : Flaw) (x : X) → HasFlaw IsTable fields flaw → IsTable fields x → ⊥
refuted IsTable fields flaw x h is = refuted_by IsTable fields flaw.key flaw.wrong x h is

module _ {X : Type 0} (IsTable : Members → X → Type 0) where
  said : (d : Data) (x : X) (row : Members) → SaysTable IsTable d x → as_table d ≡ Some row → IsTable row x
  said d x row (members, same, is) at =
      let here : as_table (table members) ≡ Some row = subst (λ (e : Data). as_table e ≡ Some row) same at in
      subst (λ (m : Members). IsTable m x) (same_Some members row here) is

  -- each table of an array of tables of the form says one of the values
  listed : (items : Items) (xs : List X) (i : ℕ) (row : Members) → ListsValues (SaysTable IsTable) items xs → table_in (get_item i items) ≡ Some row → (x : X) × IsTable row x × Contains xs x
  listed no_items xs i row lists at = absurd (none-some row at)
  listed (item d items) [] i row lists at = absurd lists
  listed (item d items) (x ∷ xs) zero row lists at = (x, said d x row lists.0 at, Contains-here x xs)
  listed (item d items) (x ∷ xs) (suc i) row lists at = (let found = listed items xs i row lists.1 at in (found.0, found.1, Contains-there x xs found.0 found.2))

  pub row_is : (value : Option Data) (default xs : List X) (i : ℕ) (row : Members) → GivenOr default (IsListOf (SaysTable IsTable)) value xs → table_in (get_item i (items_at value)) ≡ Some row
      → (x : X) × IsTable row x × Contains xs x
  row_is None default xs i row given at = absurd (none-some row at)
  row_is (Some d) default xs i row (items, same, lists) at =
      listed items xs i row lists (subst (λ (e : Data). table_in (get_item i (items_at (Some e))) ≡ Some row) same at)

-- the rules of a node of the text fit the format, and so does how it listens, and a flow
abbrev NodeFits : Format → NodeText → Type 0
NodeFits format node = All (RuleFits format) node.rules × ListensFits format node.listens

abbrev FlowFits : Format → FlowText → Type 0
FlowFits format flow = ValuesFit format flow.modalities flow.stations

-- what fits the text's format fits that as which its tables are looked at
fits_moved : (root : Members) (plan : PlanText) (format : Format) → plan.format ≡ format → IsRoot root plan → All (NodeFits format) plan.nodes × All (FlowFits format) plan.flows
fits_moved root plan format same is = (
  subst (λ (format : Format). All (NodeFits format) plan.nodes) same (λ k d h. (is.fits.rules k d h, is.fits.listen k d h)),
  subst (λ (format : Format). All (FlowFits format) plan.flows) same is.fits.flows,
)

-- a plan of the text fits the format as which its tables are looked at
fits_as : (format : Format) (root : Members) (plan : PlanText) → IsReadAs (get_member (codes "format") root) format → IsRoot root plan →
    All (NodeFits format) plan.nodes × All (FlowFits format) plan.flows
fits_as One root plan read is = fits_moved root plan One (format_one root plan.format One is.format read) is
fits_as Two root plan read is = fits_moved root plan Two (format_one root plan.format Two is.format read) is
fits_as Three root plan read is = (λ k d h. (λ i r g. (tt, tt, tt), tt), λ k d h. (tt, tt))

refuted_node : (format : Format) (node : Members) (part : NodePart) (flaw : Flaw) (x : NodeText) → NodeFits format x → IsInNode format node part flaw → IsNodeTable node x → ⊥
refuted_node format node Own flaw x fits h is = refuted (IsNodeOf format) node flaw x h (is, fits.1)
refuted_node format node (AcceptRow index) flaw x fits (row, at, h) is =
    let found = row_is IsAcceptTable (get_member (codes "accept") node) [] x.accepts index row is.accept at in
    refuted IsAcceptTable row flaw found.0 h found.1
refuted_node format node (Rule index) flaw x fits (row, at, h) is =
    let found = row_is IsRuleTable (get_member (codes "rule") node) [] x.rules index row is.rule at in
    refuted (IsRuleText format) row flaw found.0 h (found.1, All-contains (RuleFits format) x.rules found.0 fits.0 found.2)

refuted_as : (format : Format) (root : Members) (place : FieldPlace) (flaw : Flaw) (plan : PlanText) → All (NodeFits format) plan.nodes × All (FlowFits format) plan.flows →
    IsAt format root place flaw → IsRoot root plan → ⊥
refuted_as format root Root flaw plan fits h is = refuted IsRoot root flaw plan h is
refuted_as format root (OfNode index part) flaw plan fits (node, at, h) is =
    let found = row_is IsNodeTable (get_member (codes "node") root) [] plan.nodes index node is.node at in
    refuted_node format node part flaw found.0 (All-contains (NodeFits format) plan.nodes found.0 fits.0 found.2) h found.1
refuted_as format root (OfFlow index) flaw plan fits (flow, at, h) is =
    let found = row_is IsFlowTable (get_member (codes "flow") root) [] plan.flows index flow is.flow at in
    refuted (IsFlowOf format) flow flaw found.0 h (found.1, All-contains (FlowFits format) plan.flows found.0 fits.1 found.2)

pub refuted_text : (root : Members) (place : FieldPlace) (flaw : Flaw) (plan : PlanText) → IsIn root place flaw → IsRoot root plan → ⊥
refuted_text root place flaw plan (format, read, h) is = refuted_as format root place flaw plan (fits_as format root plan read is) h is

-- the format that the text says is that as which its tables are looked at
pub read_as : (root : Members) (format : Format) → IsFormat (get_member (codes "format") root) format → IsReadAs (get_member (codes "format") root) format
read_as root One is = is
read_as root Two is = is
read_as root Three is = (
  λ one. let same : One ≡ Three = format_one root One Three one is in cc,
  λ two. let same : Two ≡ Three = format_one root Two Three two is in cc,
)
