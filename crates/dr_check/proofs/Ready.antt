-- A checker that has visited all entries has the lines of the plan; they and their hops can be printed.
use Rattle.std.proofs.Common.{◌≡◌, ◌≢◌, ℕ, ◌+◌, ◌*◌, ◌<◌, ◌≤◌, inl, inr, refl, sym, ◌∙◌, ap, subst, List, [], ◌∷◌, ◌++◌, length, Contains, Some, get_or, arith}
use Rattle.std.specs.Prelude.{All, AllPairs, ◌↔◌, slice_get}
use Rattle.std.specs.Cmp.{IsTotalOrder}
use Rattle.std.specs.Cmp.Lexicographic.{nat_list_cmp_total}
use Rattle.std.proofs.lemmas.Cmp.{then_total, on_total}
use Rattle.std.proofs.lemmas.Option.{same_Some, slice_get_cases, slice_get_past}
use Rattle.std.proofs.lemmas.List.Elements.{All-contains, All-nil, All-cons, Contains-get_or, Contains-push}
use Rattle.dr_base.specs.Texts.{Text}
use Rattle.dr_base.specs.Syntaxes.{syntax_uid}
use Rattle.dr_cert_hops.proofs.Rows.{same_sorted}
use Rattle.dr_plan_sound.specs.Certificates.{pair_cmp}
use Rattle.dr_base.specs.declared.syntax.Syntax.{Syntax}
use Rattle.dr_base.specs.declared.syntax.Syntax.TheVariants.{Implicit}
use Rattle.dr_route.specs.declared.cell.OwnedCell.{OwnedCell}
use Rattle.dr_route.specs.Routes.{local}
use Rattle.dr_route.specs.Laws.{IsPart, key_of}
use Rattle.dr_route.specs.declared.cell.FieldValues.{FieldValues}
use Rattle.dr_route.specs.declared.key.Key.{Key}
use Rattle.dr_route.specs.declared.cell.OwnedField.{OwnedField}
use Rattle.dr_route.specs.declared.cell.OwnedField.TheVariants.{Literal, Prefix, Rest}
use Rattle.dr_plan_model.specs.declared.literals.Attribute.TheVariants.{Modality, ModalityPrefix, Station, StationPrefix}
use Rattle.dr_plan_model.specs.Networks.{Network}
use Rattle.dr_plan_model.specs.Formed.{IsName, IsLiteral, IsPrefix, IsClass, IsKnownName, IsWellFormedNode, IsWellFormedFlow}
use Rattle.dr_plan_model.specs.Plans.{IsWellFormed, literals_of}
use Rattle.dr_plan_model.specs.Walks.{IsReached}
use Rattle.dr_plan_model.specs.Laws.{IsCellOf}
use Rattle.dr_plan_model.proofs.WalksAlike.{named_has_form}
use Rattle.dr_plan_sound.specs.declared.certificate.Line.{Line}
use Rattle.dr_plan_sound.specs.declared.certificate.Hop.{Hop}
use Rattle.dr_plan_sound.specs.Certificates.{HasHop}
use Rattle.dr_plan_sound.specs.HopPairs.{OverHop, HasNumber, AreNumbered}
use Rattle.dr_plan_sound.specs.Ranked.{AreRanked}
use Rattle.dr_plan_sound.proofs.Hopping.{last_hop, reached_is_known, hop_pairs, over_hop}
use Rattle.dr_cert_text.specs.Printable.{IsPlain, IsPlainField, IsPrintableLine, IsPrintableHop}
use Rattle.dr_plan_entries.specs.Visiting.{IsEntryCell}
use Rattle.dr_check.specs.declared.checker.Checker.{Checker}
use Rattle.dr_check.specs.Checking.{CheckerIsReady, HasVisited}
use Rattle.dr_check.specs.Answering.{AreFew}
use Rattle.dr_check.proofs.Marking.{finished_same}

-- ---- the lines
pub are_ranked : (c : Checker) → CheckerIsReady c → ((site : Text) (cell : _) → IsEntryCell c.plan.now site cell → HasVisited c site cell) → AreRanked c.plan.now c.search.lines.items
are_ranked c ready visited = record {
  each = λ stop r line. (ready.searching stop.cell).ranked stop r line;
  cells = λ stop r line. ((ready.searching stop.cell).known stop _ ((ready.searching stop.cell).listed stop r line)).0;
  reached = λ stop r line. ((ready.searching stop.cell).known stop _ ((ready.searching stop.cell).listed stop r line)).1;
  one = λ stop r s a b. finished_same ((ready.searching stop.cell).listed stop r a) ((ready.searching stop.cell).listed stop s b);
  entries = λ key cell site lies entry. visited site cell (key, lies, entry);
}

-- some cell, for what holds whatever the cell
any : OwnedCell
any = record { class = []; syntax = Implicit; modality = Rest; station = Rest }

at_most : (c : Checker) → CheckerIsReady c → length c.search.lines.items ≤ 65536
at_most c ready =
    let s = ready.searching any in
    let room = s.room in
    let within = s.within in
    omega arith

rank_below : (c : Checker) → CheckerIsReady c → (line : Line) → Contains c.search.lines.items line → line.rank ≤ 65536
rank_below c ready line among =
    let below : line.rank < length c.search.lines.items = (ready.searching line.stop.cell).counted line.stop line.rank among in
    let most : length c.search.lines.items ≤ 65536 = at_most c ready in
    omega arith

pub are_few : (c : Checker) → CheckerIsReady c → AreFew c.search.lines.items
are_few c ready = (at_most c ready, rank_below c ready)

pub are_apart : (c : Checker) → CheckerIsReady c → AllPairs (λ a b. a ≢ b) c.search.lines.items
are_apart c ready = (ready.searching any).apart

-- ---- printing
plain_name : (text : Text) → IsName text → IsPlain text
plain_name text name = λ k d h. let p = name.printable k d h in ((λ e. let a : 32 ≤ get_or text k d = p.0 in omega arith), (λ e. let a : 32 ≤ get_or text k d = p.0 in omega arith))

plain_class : (text : Text) → IsClass text → IsPlain text
plain_class text class = λ k d h. (
  (λ e. elim (class.digits k d h) [ inl digit ↦ (let a : 48 ≤ get_or text k d = digit.0 in omega arith) | inr dot ↦ (let a : get_or text k d ≡ 46 = dot in omega arith) ]),
  (λ e. elim (class.digits k d h) [ inl digit ↦ (let a : 48 ≤ get_or text k d = digit.0 in omega arith) | inr dot ↦ (let a : get_or text k d ≡ 46 = dot in omega arith) ]),
)

plain_literal : (text : Text) → IsLiteral text → IsPlain text
plain_literal text literal = λ k d h. let p = literal.printable k d h in ((λ e. let a : 32 ≤ get_or text k d = p.0 in omega arith), (λ e. let a : 32 ≤ get_or text k d = p.0 in omega arith))

plain_local : IsPlain local
plain_local = All-cons (λ (byte : ℕ). (byte ≢ 9) × (byte ≢ 10)) 45 [] ((λ e. let a : 45 ≡ 9 = e in omega arith), (λ e. let a : 45 ≡ 10 = e in omega arith)) (All-nil _)

-- no literal has an asterisk at its end
no_star_behind : (text front : Text) → IsLiteral text → text ≡ front ++ 42 ∷ [] → ⊥
no_star_behind text front literal e =
    let P : ℕ → Type 0 = λ byte. (32 ≤ byte) × (byte < 127) × (byte ≢ 42) in
    let Q : Text → Type 0 = λ t. All P t in
    (All-contains P (front ++ 42 ∷ []) 42 (subst Q e literal.printable) (Contains-push front 42)).2 refl

-- a part of a field can be told from its text, where the field's literals and prefixes are of the right form
plain_part : (values : FieldValues) → ((t : Text) → Contains values.literals t → IsLiteral t) → ((t : Text) → Contains values.prefixes t → IsPrefix t) →
    (part : OwnedField) → IsPart values part → IsPlainField part
plain_part values literals prefixes (Literal literal) is = let form = literals literal is in (plain_literal literal form, λ front e. no_star_behind literal front form e)
plain_part values literals prefixes (Prefix prefix) is = let form = prefixes prefix is in (plain_literal prefix form.literal, form.some)
plain_part values literals prefixes Rest is = tt

known_plain : (plan : Network) → IsWellFormed plan → (name : Text) → IsKnownName plan.nodes name → IsPlain name
known_plain plan formed name known =
    let node : IsWellFormedNode plan.nodes known.0 = All-contains (IsWellFormedNode plan.nodes) plan.nodes known.0 formed.each_node known.1 in
    let P : Text → Type 0 = λ t. IsPlain t in
    subst P known.2 (plain_name known.0.name node.name)

caller_plain : (plan : Network) → IsWellFormed plan → (key : Key) (caller name : Text) → IsReached plan key caller name → IsPlain caller
caller_plain plan formed key caller name r =
    elim (last_hop plan key local r.0 r.1 caller name r.3 r.4) [
      | inl none ↦ (let P : Text → Type 0 = λ t. IsPlain t in subst P none.1 plain_local)
      | inr more ↦ known_plain plan formed caller (reached_is_known plan formed key more.1 caller (r.0, more.0, r.2, more.2, more.3))
    ]

class_plain : (plan : Network) → IsWellFormed plan → (key : Key) (caller name : Text) → IsReached plan key caller name → IsPlain key.class
class_plain plan formed key caller name r =
    let entered = r.2.1 in
    let flow : IsWellFormedFlow plan.nodes entered.0 = All-contains (IsWellFormedFlow plan.nodes) plan.flows entered.0 formed.each_flow entered.1 in
    plain_class key.class (All-contains IsClass entered.0.classes key.class flow.classes.1 entered.4.class)

pub line_is_printable : (plan : Network) → IsWellFormed plan → (lines : List Line) → AreRanked plan lines → AreFew lines → (line : Line) → Contains lines line → IsPrintableLine line
line_is_printable plan formed lines all few line among =
    let cell : IsCellOf plan line.stop.cell = all.cells line.stop line.rank among in
    let r : IsReached plan (key_of line.stop.cell) line.stop.caller line.stop.node = all.reached line.stop line.rank among in
    let small : line.rank ≤ 65536 = few.1 line among in
    record {
      caller = caller_plain plan formed (key_of line.stop.cell) line.stop.caller line.stop.node r;
      node = known_plain plan formed line.stop.node (reached_is_known plan formed (key_of line.stop.cell) line.stop.caller line.stop.node r);
      class = class_plain plan formed (key_of line.stop.cell) line.stop.caller line.stop.node r;
      modality = plain_part (literals_of plan).modalities (named_has_form plan formed Modality) (named_has_form plan formed ModalityPrefix) line.stop.cell.modality cell.0;
      station = plain_part (literals_of plan).stations (named_has_form plan formed Station) (named_has_form plan formed StationPrefix) line.stop.cell.station cell.1;
      rank = omega arith;
    }

-- ---- the hops
pub hops_are_the_hops : (plan : Network) → IsWellFormed plan → (lines : List Line) → AreRanked plan lines → (hop : Hop) → HasNumber lines hop ↔ HasHop plan hop
hops_are_the_hops plan formed lines all hop = (
  λ h. (h.0, h.1, hop_pairs plan formed lines all hop.from hop.to h.0 h.2, h.3, h.4),
  λ h. (h.0, h.1, over_hop plan formed lines all hop.from hop.to h.0 h.2, h.3, h.4),
)

-- what stands at a place is among them
at_place : {X : Type 0} (xs : List X) (k : ℕ) (x : X) → slice_get xs k ≡ Some x → Contains xs x
at_place xs k x e = elim (slice_get_cases xs k).1 [
  | inl found ↦ (let same : found.0 ≡ x = same_Some _ _ (sym found.2 ∙ e) in let P : _ → Type 0 = λ y. Contains xs y in subst P (found.3 ∙ same) (Contains-get_or xs k found.0 found.1))
  | inr past ↦ (let none = slice_get_past xs k past.0 in cc (none, e))
]

-- a place at which something stands
below_length : {X : Type 0} (xs : List X) (k : ℕ) (x : X) → slice_get xs k ≡ Some x → k < length xs
below_length xs k x e = elim (slice_get_cases xs k).1 [
  | inl found ↦ found.1
  | inr past ↦ (let none = slice_get_past xs k past.0 in cc (none, e))
]

pair_total : IsTotalOrder pair_cmp
pair_total = then_total (on_total (λ (p : Text × Syntax). p.0) nat_list_cmp_total) (on_total (λ (p : Text × Syntax). syntax_uid p.1) nat_list_cmp_total)

-- its number is that of one of at most 128 pairs
id_is_small : (lines : List Line) (hops : List Hop) → AreNumbered lines hops → (hop : Hop) → Contains hops hop → hop.id ≤ 255
id_is_small lines hops numbered hop among =
    let h = (numbered.each hop).0 among in
    let few = numbered.few hop.from hop.to in
    let same : h.0 ≡ few.0 = same_sorted pair_cmp pair_total h.0 few.0 h.2.ordered few.1.ordered
    (λ pair. (λ x. (few.1.each pair).1 ((h.2.each pair).0 x), λ x. (h.2.each pair).1 ((few.1.each pair).0 x))) in
    let low : h.1 < length h.0 = below_length h.0 h.1 (hop.class, hop.syntax) h.3 in
    let long : length h.0 ≡ length few.0 = ap (λ (xs : List (Text × Syntax)). length xs) same in
    let small : length few.0 ≤ 128 = few.2 in
    let id : hop.id ≡ 2 * h.1 + 1 = h.4 in
    omega arith

-- a hop has the texts of a line
pub hop_is_printable : (plan : Network) → IsWellFormed plan → (lines : List Line) → AreRanked plan lines → AreFew lines → (hops : List Hop) → AreNumbered lines hops →
    (hop : Hop) → Contains hops hop → IsPrintableHop hop
hop_is_printable plan formed lines all few hops numbered hop among =
    let h = (numbered.each hop).0 among in
    let pair : Text × Syntax = (hop.class, hop.syntax) in
    let over : OverHop lines hop.from hop.to pair = (h.2.each pair).0 (at_place h.0 h.1 pair h.3) in
    let line : IsPrintableLine (record { stop = over.0; rank = over.1 }) = line_is_printable plan formed lines all few (record { stop = over.0; rank = over.1 }) over.2 in
    let P : Text → Type 0 = λ t. IsPlain t in
    record {
      «from» = subst P over.3 line.caller;
      «to» = subst P over.4 line.node;
      id = id_is_small lines hops numbered hop among;
      class = subst P (sym (ap (λ (p : Text × Syntax). p.0) over.6)) line.class;
    }
