-- What the lists of all tables show is a ledger's.
use Rattle.std.proofs.Common.{◌≡◌, ◌≤◌, ◌<◌, ◌⊎◌, ◌+◌, ◌++◌, ℕ, List, length, Contains, Bool, true, false, Option, None, Some, is_some, refl, sym, ap, subst, ◌∙◌, arith, true≢false}
use Rattle.std.specs.declared.cmp.Ordering.{Ordering}
use Rattle.std.specs.Prelude.{◌↔◌, All}
use Rattle.std.specs.Cmp.{eq_by_cmp_equiv}
use Rattle.std.specs.Cmp.Lexicographic.{nat_list_cmp_total}
use Rattle.std.specs.FinMap as map
use Rattle.std.specs.FinMap.{FinMap}
use Rattle.std.specs.FinSet as set
use Rattle.std.specs.FinSet.{FinSet}
use Rattle.std.specs.List.{AllByRecursion}
use Rattle.std.proofs.lemmas.List.Elements.{All-contains}
use Rattle.std.proofs.lemmas.Map.Lookups.{exact_bytes}
use Rattle.std.proofs.lemmas.Map.Views.{Contains-from_any, list_any-from_Contains}
use Rattle.sqlite.specs.Tree.{Trees}
use Rattle.dr_base.specs.Texts.{Text, text_cmp}
use Rattle.dr_route.specs.declared.key.Key.{Key}
use Rattle.dr_site.specs.Parts.{Part}
use Rattle.dr_ledger.specs.declared.item.Instance.{Instance}
use Rattle.dr_ledger.specs.declared.item.Progress.{Progress}
use Rattle.dr_ledger.specs.Books.{Book, Fold, Line}
use Rattle.dr_ledger.specs.Histories.{IsJournalled, IsSolid}
use Rattle.dr_ledger.specs.Pairs.{Pair}
use Rattle.dr_ledger.specs.Replies.{Lists}
use Rattle.dr_ledger.specs.SiteRoutes.{site_routing}
use Rattle.dr_ledger.proofs.Folding.{folds_have_their_lines}
use Rattle.dr_ledger.proofs.Maps.{IsExact, text_pairs, texts}
use Rattle.dr_ledger.proofs.Solid.{journals_are_solid}
use Rattle.dr_ledger_history.specs.Contents.{Content, all_of, content_of}
use Rattle.dr_ledger_history.proofs.Telling.{all_but_the_lines}
use Rattle.dr_ledger_past.specs.Pasts.{with_past}
use Rattle.dr_store_schema.specs.Books.{all_kept_in, arrivals_in, book_of, names_in, rows_of}
use Rattle.dr_store_writes.proofs.Maps.{equal}
use Rattle.dr_store_reads.specs.declared.finding.Print.{Print}
use Rattle.dr_store_lists.specs.declared.listing.JournalRow.{JournalRow}
use Rattle.dr_store_lists.specs.Lists.{Goal, goals_of}
use Rattle.dr_store_lists.proofs.Alike.{goals_are_names}
use Rattle.dr_store_audit.specs.Found.{AreListsOf, HoldTogether, IsFound}
use Rattle.dr_store_audit.specs.Journal.{CountUp, lines_told}
use Rattle.dr_store_audit.specs.Needs.{IsOpenIn}
use Rattle.dr_store_audit.specs.Stock.{Stocks}
use Rattle.dr_store_audit.specs.Telling.{IsToldJournal}
use Rattle.dr_store_audit.proofs.Journals.{lines_are}
use Rattle.dr_store_audit.proofs.Needed.{there}
use Rattle.dr_store_audit.proofs.Stocked.{both_there, stocked}

pub same_bool : (a b : Bool) → (a ≡ true → b ≡ true) → (b ≡ true → a ≡ true) → a ≡ b
same_bool true b f h = sym (f refl)
same_bool false true f h = absurd (true≢false (sym (h refl)))
same_bool false false f h = refl

-- a set is that of the list of its elements
module _ {K : Type 0} {R : K → K → Ordering} (x : IsExact R) where
  as_listed : (s : FinSet R) (all : List K) → Lists R s all → set.from_list all ≡ s
  as_listed s all are = set.same_set x.total x.exact (set.from_list all) s (λ q.
      set.contains-from_list x.total all q
      ∙ same_bool _ _ (λ any. (are.each q).0 (Contains-from_any (λ a b tied. x.exact a b (equal (R a b) tied)) q all any)) (λ has. list_any-from_Contains (eq_by_cmp_equiv x.total) q all ((are.each q).1 has)))

  as_mapped : {V : Type 0} (m : FinMap R V) → map.from_entries (map.entries m) ≡ m
  as_mapped m = map.same_map x.total x.exact (map.from_entries (map.entries m)) m (λ q. map.get-from_entries x.total (map.entries m) q ∙ sym (map.get-entries m q))

-- what all lists make is what the tables' book has
module _ (db : Trees) (keys : List (Text × Key)) (prints : List (Text × Print)) (arrivals : List Pair) (kept : List Text) (rows : List (Pair × Progress)) (notes : List (ℕ × JournalRow)) (goals : List Goal)
    (are : AreListsOf db keys prints arrivals kept rows notes goals) (items : FinMap text_cmp Instance) (stocks : Stocks map.empty keys prints items) where
  pub listed_is : all_of items arrivals kept rows ≡ content_of (book_of db)
  listed_is = λ i. record {
    items = stocked db keys prints items are.keys_are are.prints_are stocks i;
    arrivals = as_listed text_pairs (arrivals_in (db 5)) arrivals are.arrivals_are i;
    kept = as_listed texts (all_kept_in (db 7)) kept are.kept_are i;
    rows = (ap map.from_entries are.rows_are ∙ as_mapped text_pairs (rows_of db)) i;
  }

-- what holds of a book with a past before it holds of it alone
solid_alone : (past : List Line) (b : Book) → IsSolid (with_past past b) → IsSolid b
solid_alone past b is = record { named = is.named; arrived = is.arrived; kept = is.kept; rows = is.rows; figures = is.figures }

module _ (past : List Line) (n : ℕ) (part : Part) (db : Trees) (keys : List (Text × Key)) (prints : List (Text × Print)) (arrivals : List Pair) (kept : List Text) (rows : List (Pair × Progress)) (notes : List (ℕ × JournalRow)) (goals : List Goal)
    (are : AreListsOf db keys prints arrivals kept rows notes goals) (items : FinMap text_cmp Instance) (stocks : Stocks map.empty keys prints items) (c : Content)
    (journal : IsToldJournal (site_routing part) (past ++ lines_told goals notes) c) (all : c ≡ all_of items arrivals kept rows) (uids : FinSet text_cmp)
    (are_needed : (q : Text) → (set.contains uids q ≡ true) ↔ (Contains kept q ⊎ IsOpenIn rows q)) (each : AllByRecursion (λ (p : Text × Print). p.1.whole ≡ set.contains uids p.0) prints) (before : All (λ (g : Goal). g.0 < n) goals) where
  -- all but the lines
  content_is : content_of (book_of db) ≡ c
  content_is = sym (all ∙ listed_is db keys prints arrivals kept rows notes goals are items stocks)

  abbrev whole : Book
  whole = with_past past (book_of db)

  book_is : whole ≡ Fold (past ++ lines_told goals notes)
  book_is = all_but_the_lines whole (Fold (past ++ lines_told goals notes)) (content_is ∙ journal.fold)
      (ap (λ lines. past ++ lines) (lines_are db goals are.goals_are notes are.notes_are) ∙ sym (folds_have_their_lines (past ++ lines_told goals notes)))

  journalled : IsJournalled (site_routing part) whole
  journalled = subst (IsJournalled (site_routing part)) (sym book_is) journal.journalled

  -- no line from n on goes anywhere
  nowhere : (m : ℕ) → n ≤ m → names_in (db 12) m ≡ map.empty
  nowhere m late = map.same_map nat_list_cmp_total exact_bytes (names_in (db 12) m) map.empty (λ q. none (map.get (names_in (db 12) m) q) (not_there q) ∙ sym (map.get-empty text_cmp q))
    where
      none : (o : Option (Unit {0})) → is_some o ≡ false → o ≡ None
      none None h = refl
      none (Some tt) h = absurd (true≢false h)

      not_there : (q : Text) → map.contains_key (names_in (db 12) m) q ≡ false
      not_there q = sym (goals_are_names db m q) ∙ absent (set.contains (goals_of db) (m, q)) refl
        where
          absent : (b : Bool) → set.contains (goals_of db) (m, q) ≡ b → b ≡ false
          absent false is = refl
          absent true is = let low = All-contains (λ (g : Goal). g.0 < n) goals (m, q) before ((are.goals_are.each (m, q)).1 is) in absurd (omega (arith, low, late))

  found : IsFound past n part db
  found = record {
    ahead = nowhere;
    journalled = journalled;
    there = there db prints kept rows uids are.prints_are are.kept_are are.rows_are (both_there db keys prints items are.keys_are are.prints_are stocks) are_needed each (solid_alone past (book_of db) (journals_are_solid (site_routing part) journalled.0 whole journalled.1));
  }

  pub agreed : CountUp (length past + 1) notes → HoldTogether past n part db notes
  agreed numbered = record {
    found = found;
    together = both_there db keys prints items are.keys_are are.prints_are stocks;
    numbered = numbered;
  }
