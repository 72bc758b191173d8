-- What the queries by key answer.
use Rattle.std.proofs.Common.{◌≡◌, ◌==◌, inl, inr, List, [], ◌∷◌, map, length, Bool, true, false, not, cond, Option, Some, None, is_some, refl, sym, ap, subst, ◌∙◌}
use Rattle.std.specs.Cmp.Lexicographic.{nat_list_cmp_total}
use Rattle.std.specs.FinMap as fin
use Rattle.std.specs.FinMap.{get-from_entries}
use Rattle.std.specs.FinSet as set
use Rattle.std.specs.List.{AllByRecursion}
use Rattle.std.proofs.lemmas.Map.Lookups.{exact_bytes}
use Rattle.sqlite.specs.declared.types.Value.TheVariants.{Null, Text as TextCell}
use Rattle.sqlite.specs.Effect.{Database}
use Rattle.sqlite.specs.Order.{Row}
use Rattle.sqlite.specs.Program.{overlay}
use Rattle.sqlite.specs.Query.{IsAnswer}
use Rattle.sqlite.specs.State.{State, Shown}
use Rattle.sqlite.specs.Tree.{Trees}
use Rattle.sqlite.proofs.Callers.{reads_as}
use Rattle.sqlite_catalog.specs.Listing.{IsSound}
use Rattle.sqlite_schema.specs.Rules.{is_of, passes}
use Rattle.sqlite_schema.specs.declared.schema.Constraint.TheVariants.{Datatype, NotNull}
use Rattle.sqlite_sql.specs.Ops.{is_null}
use Rattle.sqlite.specs.Kind.TheVariants as kind
use Rattle.dr_base.specs.Texts.{Text, text_cmp}
use Rattle.dr_route.specs.declared.key.Key.{Key}
use Rattle.dr_ledger.specs.Pairs.{Pair}
use Rattle.dr_store_schema.specs.Books.{Print, all_kept_in, arrival_in, arrivals_in, bodies_of, content_in, contents_in, entry_in, instance_by, is_whole, item_in, items_of, kept_in, key_in, print_in, print_or_none, prints_of, rows_of, whole_in, wholes_in}
use Rattle.dr_store_schema.specs.Ledgers.{IsLedger}
use Rattle.dr_store_schema.specs.Statements as text
use Rattle.dr_store_schema.specs.Tables.{kept_table, tables}
use Rattle.dr_store_writes.proofs.Commands.{by_key, by_uid, over}
use Rattle.dr_store_writes.proofs.Keys.{IsQueueRow, IsUidRow, a_text, all_both, all_hit, all_uid_hits, arrival_rows, both, item_uids, items_apart, pairs_exact, pairs_total, print_uids, prints_apart, queue_apart, queue_rows}
use Rattle.dr_store_writes.proofs.Maps.{found_hit}
use Rattle.dr_store_writes.proofs.Updated.{hits}
use Rattle.dr_store_reads.specs.Queries.{IsJobOf, IsKeyOf, IsPrintOf, IsStored, first_of, shown_job, shown_key, shown_print, shown_progress}
use Rattle.dr_store_reads.specs.declared.finding.Print.{Print as Found}
use Rattle.dr_store_reads.proofs.Points.{any_hit, at_key, none_hit, none_shown, same_keys}
use Rattle.dr_store_reads.proofs.Selects as select

-- ---- one instance

pub key_found : (old new : State) (uid : Text) (rows : List Row) → IsLedger old.now → Shown text.find_key (TextCell uid ∷ []) old new rows → IsKeyOf uid old.now.trees (first_of shown_key rows)
key_found old new uid rows has h =
    let params : Row = TextCell uid ∷ [] in
    let db = old.now.trees in
    let answer : IsAnswer (over 1 by_uid select.key_shown) (overlay db []) params rows =
    (reads_as text.find_key params old new tables has.schema _ select.find_key.command select.find_key.plain select.find_key.listing rows h).answer Null in
    let test = all_uid_hits uid [] (db 1) (item_uids old.now has) in
    let entry = item_in (prints_of db) in
    let in_map = get-from_entries nat_list_cmp_total (map entry (db 1)) uid in
    elim (at_key 1 by_uid select.key_shown db params rows answer answer.grouped nat_list_cmp_total exact_bytes content_in uid has.items (items_apart old.now has) test) [
      | inl none ↦ subst (λ rs. IsKeyOf uid db (first_of shown_key rs)) (sym none.1) (in_map ∙ none_hit nat_list_cmp_total exact_bytes entry (hits by_uid params) uid (db 1) test none.0)
      | inr one ↦ subst (λ rs. IsKeyOf uid db (first_of shown_key rs)) (sym one.shown)
          (in_map ∙ found_hit nat_list_cmp_total exact_bytes entry (hits by_uid params) uid one.row (db 1) test one.hits ∙ ap (λ u. Some (instance_by (prints_of db) u (key_in one.row))) one.its)
    ]

pub job_found : (old new : State) (uid : Text) (rows : List Row) → IsLedger old.now → Shown text.find_item (TextCell uid ∷ []) old new rows → IsJobOf uid old.now.trees (first_of (shown_job uid) rows)
job_found old new uid rows has h =
    let params : Row = TextCell uid ∷ [] in
    let db = old.now.trees in
    let answer : IsAnswer (over 1 by_uid select.job_shown) (overlay db []) params rows =
    (reads_as text.find_item params old new tables has.schema _ select.find_item.command select.find_item.plain select.find_item.listing rows h).answer Null in
    let test = all_uid_hits uid [] (db 1) (item_uids old.now has) in
    let entry = item_in (prints_of db) in
    let in_map = get-from_entries nat_list_cmp_total (map entry (db 1)) uid in
    elim (at_key 1 by_uid select.job_shown db params rows answer answer.grouped nat_list_cmp_total exact_bytes content_in uid has.items (items_apart old.now has) test) [
      | inl none ↦ subst (λ rs. IsJobOf uid db (first_of (shown_job uid) rs)) (sym none.1) (in_map ∙ none_hit nat_list_cmp_total exact_bytes entry (hits by_uid params) uid (db 1) test none.0)
      | inr one ↦ subst (λ rs. IsJobOf uid db (first_of (shown_job uid) rs)) (sym one.shown) (
        refl,
        in_map ∙ found_hit nat_list_cmp_total exact_bytes entry (hits by_uid params) uid one.row (db 1) test one.hits ∙ ap (λ u. Some (instance_by (prints_of db) u (key_in one.row))) one.its,
        get-from_entries nat_list_cmp_total (map content_in (db 1)) uid ∙ found_hit nat_list_cmp_total exact_bytes content_in (hits by_uid params) uid one.row (db 1) test one.hits,
      )
    ]

pub print_found : (old new : State) (uid : Text) (rows : List Row) → IsLedger old.now → Shown text.find_print (TextCell uid ∷ []) old new rows → IsPrintOf uid old.now.trees (first_of shown_print rows)
print_found old new uid rows has h =
    let params : Row = TextCell uid ∷ [] in
    let db = old.now.trees in
    let answer : IsAnswer (over 3 by_uid select.print_shown) (overlay db []) params rows =
    (reads_as text.find_print params old new tables has.schema _ select.find_print.command select.find_print.plain select.find_print.listing rows h).answer Null in
    let test = all_uid_hits uid [] (db 3) (print_uids old.now has) in
    let prints = get-from_entries nat_list_cmp_total (map print_in (db 3)) uid in
    let wholes = get-from_entries nat_list_cmp_total (map whole_in (db 3)) uid in
    elim (at_key 3 by_uid select.print_shown db params rows answer answer.grouped nat_list_cmp_total exact_bytes whole_in uid has.prints (prints_apart old.now has) test) [
      | inl none ↦ subst (λ rs. IsPrintOf uid db (first_of shown_print rs)) (sym none.1) (
        prints ∙ none_hit nat_list_cmp_total exact_bytes print_in (hits by_uid params) uid (db 3) test none.0,
        wholes ∙ none_hit nat_list_cmp_total exact_bytes whole_in (hits by_uid params) uid (db 3) test none.0,
      )
      | inr one ↦ subst (λ rs. IsPrintOf uid db (first_of shown_print rs)) (sym one.shown) (
        prints ∙ found_hit nat_list_cmp_total exact_bytes print_in (hits by_uid params) uid one.row (db 3) test one.hits,
        ap is_whole (wholes ∙ found_hit nat_list_cmp_total exact_bytes whole_in (hits by_uid params) uid one.row (db 3) test one.hits),
      )
    ]

-- a data set is there where the item is, and its print says that it is whole
body_there : (db : Trees) (uid : Text) → is_some (fin.get (bodies_of db) uid) ≡ cond (is_whole (fin.get (wholes_in (db 3)) uid)) (is_some (fin.get (items_of db) uid)) false
body_there db uid =
    ap is_some (fin.get-retain_keys (contents_in (db 1)) (λ u. is_whole (fin.get (wholes_in (db 3)) u)) uid (λ x same. ap (λ u. is_whole (fin.get (wholes_in (db 3)) u)) (sym (exact_bytes uid x same))))
    ∙ go (is_whole (fin.get (wholes_in (db 3)) uid))
  where
    alike : is_some (fin.get (contents_in (db 1)) uid) ≡ is_some (fin.get (items_of db) uid)
    alike =
        ap is_some (get-from_entries nat_list_cmp_total (map content_in (db 1)) uid)
        ∙ same_keys text_cmp (λ r. (content_in r).0) (λ r. (content_in r).1) (λ r. (item_in (prints_of db) r).1) uid (db 1)
        ∙ sym (ap is_some (get-from_entries nat_list_cmp_total (map (item_in (prints_of db)) (db 1)) uid))

    go : (b : Bool) → is_some (cond b (fin.get (contents_in (db 1)) uid) None) ≡ cond b (is_some (fin.get (items_of db) uid)) false
    go true = alike
    go false = refl

either : {A : Type 0} (b : Bool) (x : A) → cond b x x ≡ x
either true x = refl
either false x = refl

pub none_stored : (db : Trees) (uid : Text) → IsKeyOf uid db None → IsStored uid db None
none_stored db uid none = record { item = none; whole = body_there db uid ∙ ap (λ o. cond (is_whole (fin.get (wholes_in (db 3)) uid)) (is_some o) false) none ∙ either (is_whole (fin.get (wholes_in (db 3)) uid)) false }

pub one_stored : (db : Trees) (uid : Text) (key : Key) (print : Found) → IsPrintOf uid db (Some print) → IsKeyOf uid db (Some key)
    → IsStored uid db (Some (record { instance = record { uid = uid; key = key; size = print.size; digest = print.digest }; whole = print.whole }))
one_stored db uid key print p k = record {
  item = k ∙ ap (λ (o : Option Print). Some (record { uid = uid; key = key; size = (print_or_none o).0; digest = (print_or_none o).1 })) p.0;
  whole = body_there db uid ∙ ap (λ o. cond (is_whole (fin.get (wholes_in (db 3)) uid)) (is_some o) false) k ∙ ap (λ b. cond b true false) p.1 ∙ itself print.whole;
}
  where
    itself : (b : Bool) → cond b true false ≡ b
    itself true = refl
    itself false = refl

-- ---- the row of an instance and a destination

pub row_found : (old new : State) (k : Pair) (rows : List Row) → IsLedger old.now → Shown text.find_row (TextCell k.0 ∷ TextCell k.1 ∷ []) old new rows
    → first_of shown_progress rows ≡ fin.get (rows_of old.now.trees) k
row_found old new k rows has h =
    let params : Row = TextCell k.0 ∷ TextCell k.1 ∷ [] in
    let db = old.now.trees in
    let answer : IsAnswer (over 9 by_key select.row_shown) (overlay db []) params rows =
    (reads_as text.find_row params old new tables has.schema _ select.find_row.command select.find_row.plain select.find_row.listing rows h).answer Null in
    let test = all_hit k [] (db 9) (queue_rows old.now has) in
    let in_map = get-from_entries pairs_total (map entry_in (db 9)) k in
    elim (at_key 9 by_key select.row_shown db params rows answer answer.grouped pairs_total pairs_exact entry_in k has.queue (queue_apart old.now has) test) [
      | inl none ↦ ap (first_of shown_progress) none.1 ∙ sym (in_map ∙ none_hit pairs_total pairs_exact entry_in (hits by_key params) k (db 9) test none.0)
      | inr one ↦ ap (first_of shown_progress) one.shown ∙ sym (in_map ∙ found_hit pairs_total pairs_exact entry_in (hits by_key params) k one.row (db 9) test one.hits)
    ]

-- ---- arrivals, and what is kept

pub arrival_found : (old new : State) (at : Pair) (rows : List Row) → IsLedger old.now → Shown text.find_arrival (TextCell at.0 ∷ TextCell at.1 ∷ []) old new rows
    → not (length rows == 0) ≡ set.contains (arrivals_in (old.now.trees 5)) at
arrival_found old new at rows has h =
    let params : Row = TextCell at.0 ∷ TextCell at.1 ∷ [] in
    let db = old.now.trees in
    let answer : IsAnswer (over 5 by_key select.arrival_shown) (overlay db []) params rows =
    (reads_as text.find_arrival params old new tables has.schema _ select.find_arrival.command select.find_arrival.plain select.find_arrival.listing rows h).answer Null in
    none_shown 5 by_key select.arrival_shown db params rows answer answer.grouped
    ∙ any_hit pairs_total pairs_exact entry_in (hits by_key params) at (db 5) (all_hit at [] (db 5) (arrival_rows old.now has))
    ∙ sym (set.contains-from_list pairs_total (map arrival_in (db 5)) at)

kept_row : (db : Trees) (row : Row) → passes Datatype tables db kept_table row ≡ true → passes NotNull tables db kept_table row ≡ true → IsUidRow row
kept_row db [] typed there = absurd cc
kept_row db (id ∷ []) typed there = absurd cc
kept_row db (id ∷ a ∷ rest) typed there =
    let t1 = both (is_of kind.Text a) _ (both _ true typed).0 in
    let n1 = both (not (is_null a)) _ there in
    a_text a t1.0 n1.0

kept_rows : (db : Database) → IsLedger db → AllByRecursion IsUidRow (db.trees 7)
kept_rows db is =
    let obeys = (subst (λ s. IsSound s db.trees) is.schema is.sound).obeys in
    all_both _ _ IsUidRow (kept_row db.trees) (db.trees 7) (obeys.rules Datatype).1.1.1.1.0 (obeys.rules NotNull).1.1.1.1.0

pub kept_found : (old new : State) (uid : Text) (rows : List Row) → IsLedger old.now → Shown text.find_kept (TextCell uid ∷ []) old new rows
    → not (length rows == 0) ≡ set.contains (all_kept_in (old.now.trees 7)) uid
kept_found old new uid rows has h =
    let params : Row = TextCell uid ∷ [] in
    let db = old.now.trees in
    let answer : IsAnswer (over 7 by_uid select.kept_shown) (overlay db []) params rows =
    (reads_as text.find_kept params old new tables has.schema _ select.find_kept.command select.find_kept.plain select.find_kept.listing rows h).answer Null in
    none_shown 7 by_uid select.kept_shown db params rows answer answer.grouped
    ∙ any_hit nat_list_cmp_total exact_bytes content_in (hits by_uid params) uid (db 7) (all_uid_hits uid [] (db 7) (kept_rows old.now has))
    ∙ sym (set.contains-from_list nat_list_cmp_total (map kept_in (db 7)) uid)
