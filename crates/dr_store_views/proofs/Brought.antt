-- Who brought an instance: the callers of the rows of arrival that have its uid.
use Rattle.std.proofs.Common.{◌≡◌, List, [], ◌∷◌, map, filter, Contains, Bool, true, false, ◌&&◌, refl, sym, ap, subst, ◌∙◌}
use Rattle.std.specs.Ordering.{is_eq, nat_cmp}
use Rattle.std.specs.Cmp.Lexicographic.{slice_cmp}
use Rattle.std.specs.FinSet as set
use Rattle.std.specs.List.{AllByRecursion}
use Rattle.std.specs.List.Sorted.{IsPermutation, IsStrictlySortedBy}
use Rattle.std.specs.Str.{bytes_eq}
use Rattle.std.proofs.lemmas.Cmp.{eq_by_cmp_equiv}
use Rattle.std.proofs.lemmas.List.Sorted.{IsPermutation-map, IsPermutation-sym}
use Rattle.std.proofs.lemmas.Map.Text.{is_eq-slice_cmp}
use Rattle.std.proofs.lemmas.Map.Views.{Contains-from_any, list_any-from_Contains}
use Rattle.std.proofs.lemmas.Slice.Eq.{bytes_eq-Decides}
use Rattle.sqlite.specs.declared.types.Value.TheVariants.{Null, Text as TextCell}
use Rattle.sqlite.specs.Order.{Row, column}
use Rattle.sqlite.specs.Program.{overlay}
use Rattle.sqlite.specs.Query.{IsAnswer, Output, output}
use Rattle.sqlite.specs.State.{State, Shown}
use Rattle.sqlite.proofs.Callers.{reads_as}
use Rattle.dr_base.specs.Texts.{Text, text_cmp}
use Rattle.dr_ledger.specs.Pairs.{Pair, pair_cmp}
use Rattle.dr_ledger_views.specs.Views.{AreCallers}
use Rattle.dr_ledger_views.proofs.Asked.{Has}
use Rattle.dr_ledger_views.proofs.Ordered.{contains_has, filtered_has, has_contains, has_filtered, has_permuted}
use Rattle.dr_store_schema.specs.Books.{arrival_in, arrivals_in}
use Rattle.dr_store_schema.specs.Cells.{text_in}
use Rattle.dr_store_schema.specs.Ledgers.{IsLedger}
use Rattle.dr_store_schema.specs.Tables.{tables}
use Rattle.dr_store_writes.proofs.Keys.{IsQueueRow, arrival_rows, pairs_exact, pairs_total, same_text}
use Rattle.dr_store_writes.proofs.Maps as maps
use Rattle.dr_store_writes.proofs.Updated.{hits, matched}
use Rattle.dr_store_reads.specs.Queries.{shown_text}
use Rattle.dr_store_reads.proofs.Points.{map_twice}
use Rattle.dr_store_views.specs.Statements as text
use Rattle.dr_store_views.proofs.First.{all_of, has_mapped, mapped_has}
use Rattle.dr_store_views.proofs.Selects as select

and_true : (b : Bool) → (b && true) ≡ b
and_true true = refl
and_true false = refl

-- the caller of a row
abbrev who : Row → Text
who row = text_in (column row 1)

module _ (uid : Text) where
  abbrev pub caller_params : Row
  caller_params = TextCell uid ∷ []

  abbrev hit : Row → Bool
  hit = hits select.of_uid_brought caller_params

  hit_is : (row : Row) (is : IsQueueRow row) → hit row ≡ bytes_eq is.at.1 uid
  hit_is row is = let test : hit row ≡ (is_eq (slice_cmp nat_cmp is.at.1 uid) && true) = rw (is.dest, same_text is.at.1 uid) in test ∙ and_true _ ∙ is_eq-slice_cmp is.at.1 uid

  module _ (old new : State) (rows : List Row) (has : IsLedger old.now) (h : Shown text.callers_of caller_params old new rows) where
    abbrev table : List Row
    table = old.now.trees 5

    abbrev its : Output → Text
    its o = shown_text o.1

    own : (row : Row) → Has table row → IsQueueRow row
    own row there = all_of IsQueueRow table row (arrival_rows old.now has) there

    -- the callers of the rows that have the uid are shown, in some order
    same : IsPermutation (map who (filter hit table)) (map shown_text rows)
    same =
        let answer : IsAnswer select.callers_query (overlay old.now.trees []) caller_params rows =
        (reads_as text.callers_of caller_params old new tables has.schema _ select.callers_of.command select.callers_of.plain select.callers_of.listing rows h).answer Null in
        let out : Row → Output = λ r. output select.callers_query (caller_params ∷ r ∷ []) in
        let kept : answer.kept ≡ map out (filter hit table) =
        answer.distinct ∙ ap (map (output select.callers_query)) (answer.grouped ∙ matched hit (λ r. caller_params ∷ r ∷ []) table)
        ∙ map_twice (λ r. caller_params ∷ r ∷ []) (output select.callers_query) (filter hit table) in
        let shown : map shown_text rows ≡ map its answer.ordered = ap (map shown_text) answer.shown ∙ map_twice (λ (o : Output). o.1) shown_text answer.ordered in
        let kept_is : map its answer.kept ≡ map who (filter hit table) = ap (map its) kept ∙ map_twice out its (filter hit table) in
        subst (λ xs. IsPermutation xs (map shown_text rows)) kept_is
        (subst (λ xs. IsPermutation (map its answer.kept) xs) (sym shown) (IsPermutation-map its answer.kept answer.ordered answer.same))

    brought : (caller : Text) → Has (map shown_text rows) caller → Has (map arrival_in table) (caller, uid)
    brought caller there =
        let row = mapped_has who (filter hit table) caller (has_permuted (map shown_text rows) (map who (filter hit table)) caller (IsPermutation-sym _ _ same) there) in
        let found = filtered_has hit table row.0 row.1 in
        let is = own row.0 found.0 in
        let its_uid : text_in (column row.0 2) ≡ uid = ap text_in is.dest ∙ (bytes_eq-Decides is.at.1 uid).0 (sym (hit_is row.0 is) ∙ found.1) in
        let named : arrival_in row.0 ≡ (caller, uid) = λ i. (sym row.2 i, its_uid i) in
        subst (Has (map arrival_in table)) named (has_mapped arrival_in table row.0 found.0)

    shown_too : (caller : Text) → Has (map arrival_in table) (caller, uid) → Has (map shown_text rows) caller
    shown_too caller there =
        let row = mapped_has arrival_in table (caller, uid) there in
        let is = own row.0 row.1 in
        let its_uid : is.at.1 ≡ uid = sym (ap text_in is.dest) ∙ sym (ap (λ (k : Pair). k.1) row.2) in
        let hits_it : hit row.0 ≡ true = hit_is row.0 is ∙ (bytes_eq-Decides is.at.1 uid).1 its_uid in
        has_permuted (map who (filter hit table)) (map shown_text rows) caller same
        (subst (Has (map who (filter hit table))) (sym (ap (λ (k : Pair). k.0) row.2)) (has_mapped who (filter hit table) row.0 (has_filtered hit table row.0 row.1 hits_it)))

    pub callers_found : IsStrictlySortedBy text_cmp (map shown_text rows) → AreCallers (arrivals_in table) uid (map shown_text rows)
    callers_found sorted = record {
      ordered = sorted;
      each = λ caller. (
        (λ there. set.contains-from_list pairs_total (map arrival_in table) (caller, uid)
            ∙ list_any-from_Contains (eq_by_cmp_equiv pairs_total) (caller, uid) (map arrival_in table) (has_contains (map arrival_in table) (caller, uid) (brought caller (contains_has (map shown_text rows) caller there)))),
        (λ noted. has_contains (map shown_text rows) caller
            (shown_too caller
            (contains_has (map arrival_in table) (caller, uid)
            (Contains-from_any (λ a b tied. pairs_exact a b (maps.equal (pair_cmp a b) tied)) (caller, uid) (map arrival_in table) (sym (set.contains-from_list pairs_total (map arrival_in table) (caller, uid)) ∙ noted))))),
      );
    }
