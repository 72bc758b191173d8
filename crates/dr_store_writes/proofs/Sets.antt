-- Each UPDATE changes one row.
use Rattle.std.proofs.Common.{◌≡◌, ◌<◌, ◌≤◌, ◌+◌, ◌^◌, inl, inr, ℕ, ℤ, pos, List, [], ◌∷◌, map, filter, true, not, ◌&&◌, cond, Option, Some, None, Ok, Err, Result, OnOk, IsSome, refl, sym, ap, subst, ◌∙◌, arith}
use Rattle.std.specs.Cmp.Lexicographic.{nat_list_cmp_total}
use Rattle.std.specs.FinMap as fin
use Rattle.std.specs.FinMap.{insert, get-from_entries}
use Rattle.std.specs.List.{AllByRecursion}
use Rattle.std.specs.Ordering.{is_eq}
use Rattle.std.proofs.lemmas.Cmp.{tied_itself}
use Rattle.std.proofs.lemmas.Map.Lookups.{exact_bytes}
use Rattle.sqlite.specs.declared.error.Error.{Error}
use Rattle.sqlite.specs.declared.types.Value.TheVariants.{Int, Text, Blob}
use Rattle.sqlite.specs.Order.{Row, column}
use Rattle.sqlite.specs.Rowids.TheVariants.{Given}
use Rattle.sqlite.specs.State.{State, ExecutesInside}
use Rattle.sqlite.specs.Tree.{put_row, without_rowid}
use Rattle.sqlite_sql.specs.declared.ops.CompareOp.TheVariants.{Eq}
use Rattle.sqlite_value.proofs.OrderLemmas.{value_cmp_total}
use Rattle.sqlite_rules.specs.Edit.{Edit, edit_of}
use Rattle.sqlite_rules.specs.Calls.{ids_of}
use Rattle.sqlite_rules.proofs.ListLemmas.{all_has}
use Rattle.dr_ledger.specs.declared.item.Cause.TheVariants as cause
use Rattle.dr_ledger.specs.declared.item.Progress.{Progress}
use Rattle.dr_ledger.specs.declared.item.Progress.TheVariants.{Waiting, Held, Done, Dropped}
use Rattle.dr_ledger.specs.Pairs.{Pair}
use Rattle.dr_store_schema.specs.Books.{content_in, contents_in, entry_in, item_in, items_in, print_in, prints_in, rows_in, whole_in, wholes_in}
use Rattle.dr_store_schema.specs.Cells.{cells, state_of, text_in, tries_of, due_of}
use Rattle.dr_store_schema.specs.Ledgers.{IsCounted, IsLedger}
use Rattle.dr_store_schema.specs.Statements as text
use Rattle.dr_store_schema.specs.Tables as table
use Rattle.dr_store_writes.specs.Effects.{HasItem, HasPrint, HasRow, HasSite, SetsBody, SetsPlan, SetsRow, SetsWhole, site_row}
use Rattle.dr_store_writes.proofs.Casts.{cast_int, cast_null, cast_why}
use Rattle.dr_store_writes.proofs.Commands as command
use Rattle.dr_store_writes.proofs.Inserted.{Wrote, bare}
use Rattle.dr_store_writes.proofs.Keys as keys
use Rattle.dr_store_writes.proofs.Keys.{pairs_total, pairs_exact, queue_rows, queue_apart, all_hit, item_rows, item_uids, items_apart, print_rows, print_uids, prints_apart, all_uid_hits}
use Rattle.dr_store_writes.proofs.Maps as maps
use Rattle.dr_store_writes.proofs.Maps.{IsOnlyRow, one_hit, map_replaced, found_hit, insert_there}
use Rattle.dr_store_writes.proofs.Updated.{updated, replaced, found_one, hits}

none_some : {A B : Type 0} {a : Option A} → a ≡ None → IsSome a → B
none_some e there = absurd (let h = subst IsSome e there in cc)

-- ---- queue

abbrev pub row_params : Pair → Progress → Row
row_params at to = Text at.0 ∷ Text at.1 ∷ cells to

abbrev stored_row : ℤ → Pair → Progress → Row
stored_row id at p = Int id ∷ Text at.0 ∷ Text at.1 ∷ cells p

stored_back : (id : ℤ) (at : Pair) (p : Progress) → entry_in (stored_row id at p) ≡ (at, p)
stored_back id at (Waiting tries due) = refl
stored_back id at (Held (cause.Status status)) = refl
stored_back id at (Held cause.NoContext) = refl
stored_back id at (Held cause.Unreadable) = refl
stored_back id at Done = refl
stored_back id at Dropped = refl

known_state : (p : Progress) → state_of p < 4
known_state (Waiting tries due) = omega arith
known_state (Held why) = omega arith
known_state Done = omega arith
known_state Dropped = omega arith

row_counted : (id : ℤ) (at : Pair) (p : Progress) → due_of p ≤ 2 ^ 62 + 300000 → IsCounted (stored_row id at p)
row_counted id at p fits = record { state = state_of p; due = due_of p; state_is = refl; due_is = refl; known = known_state p; fits = omega (arith, fits) }

sets_row : (old new : State) (k : Pair) (to : Progress) (count : ℕ) → due_of to ≤ 2 ^ 62 + 300000 → IsLedger old.now → HasRow k old.now.trees → ExecutesInside 0 text.set_row (row_params k to) old new (Ok count) → SetsRow k to old new
sets_row old new k to count fits has there h =
    let params = row_params k to in
    let db = old.now.trees in
    let u = updated old new text.set_row params 5 9 command.by_key command.set_row_shown table.queue_table count has.schema command.set_row.0 command.set_row.1 refl h in
    elim (one_hit pairs_total pairs_exact entry_in (hits command.by_key params) k (db 9) has.queue.apart has.queue.ints (queue_apart old.now has) (all_hit k (cells to) (db 9) (queue_rows old.now has))) [
      | inl none ↦ none_some (get-from_entries pairs_total (map entry_in (db 9)) k ∙ none.1) there
      | inr one ↦
          let is = all_has keys.IsQueueRow (db 9) one.row (queue_rows old.now has) one.among in
          let at : is.at ≡ k = sym (keys.key_of one.row is) ∙ one.key in
          let id = one.id in
          let row = stored_row id k to in
          let shown = found_one 9 command.by_key command.set_row_shown db params u.0 u.1 u.1.grouped one.row (Int id ∷ row) one.hits
          (rw (one.rowid_is, is.uid ∙ ap (λ (e : Pair). Text e.0) at, is.dest ∙ ap (λ (e : Pair). Text e.1) at)) in
          let edit : Edit = record { table = bare table.queue_table; gone = id ∷ []; news = row ∷ [] } in
          let edit_is : edit_of db (bare table.queue_table) (ids_of u.0) Given 1 u.0 ≡ edit = ap (λ f. edit_of db (bare table.queue_table) (ids_of f) Given 1 f) shown
          ∙ rw (cast_int id, cast_int (pos (state_of to)), cast_int (pos (tries_of to)), cast_int (pos (due_of to)), cast_why to) in
          let it = replaced old new table.queue_table id row has refl refl (inl (omega arith)) (inl (omega arith)) (inl (omega arith)) (inr refl) (λ _. row_counted id k to fits) (subst (λ e. Wrote e old new) edit_is u.2) in
          let back = stored_back id k to in
          let its : AllByRecursion (maps.IsItsRow entry_in id (entry_in row).0) (db 9) = subst (λ e. AllByRecursion (maps.IsItsRow entry_in id e) (db 9)) (sym (ap (λ (e : Pair × Progress). e.0) back)) one.its in
          let result : SetsRow k to old new = record {
            goes_on = it.goes_on;
            rows = ap rows_in it.rows ∙ map_replaced pairs_total pairs_exact entry_in id row (db 9) its it.free ∙ ap (λ (e : Pair × Progress). insert (rows_in (db 9)) e.0 e.1) back;
            others = it.others;
          } in result
    ]

pub row_set : (old new : State) (at : Pair) (to : Progress) (r : Result ℕ Error) → due_of to ≤ 2 ^ 62 + 300000 → IsLedger old.now → ExecutesInside 0 text.set_row (row_params at to) old new r → OnOk r (HasRow at old.now.trees → SetsRow at to old new)
row_set old new at to (Ok count) fits has h = λ there. sets_row old new at to count fits has there h
row_set old new at to (Err e) fits has h = tt

-- ---- item: its body

sets_body : (old new : State) (uid body : List ℕ) (count : ℕ) → IsLedger old.now → HasItem uid old.now.trees → ExecutesInside 0 text.set_body (Text uid ∷ Blob body ∷ []) old new (Ok count) → SetsBody uid body old new
sets_body old new uid body count has there h =
    let params = Text uid ∷ Blob body ∷ [] in
    let db = old.now.trees in
    let rows = db 1 in
    let test = all_uid_hits uid (Blob body ∷ []) rows (item_uids old.now has) in
    let u = updated old new text.set_body params 1 1 command.by_uid command.set_body_shown table.item_table count has.schema command.set_body.0 command.set_body.1 refl h in
    elim (one_hit nat_list_cmp_total exact_bytes content_in (hits command.by_uid params) uid rows has.items.apart has.items.ints (items_apart old.now has) test) [
      | inl none ↦ none_some (get-from_entries nat_list_cmp_total (map content_in rows) uid ∙ none.1) there
      | inr one ↦
          let is = all_has keys.IsItemRow rows one.row (item_rows old.now has) one.among in
          let id = one.id in
          let row : Row = Int id ∷ Text is.uid ∷ Text is.class ∷ Text is.syntax ∷ Blob is.modality ∷ Blob is.station ∷ Blob body ∷ [] in
          let shown = found_one 1 command.by_uid command.set_body_shown db params u.0 u.1 u.1.grouped one.row (Int id ∷ row) one.hits
          (rw (one.rowid_is, is.uid_is, is.class_is, is.syntax_is, is.modality_is, is.station_is)) in
          let edit : Edit = record { table = bare table.item_table; gone = id ∷ []; news = row ∷ [] } in
          let edit_is : edit_of db (bare table.item_table) (ids_of u.0) Given 1 u.0 ≡ edit = ap (λ f. edit_of db (bare table.item_table) (ids_of f) Given 1 f) shown ∙ rw (cast_int id) in
          let it = replaced old new table.item_table id row has refl refl (inr refl) (inl (omega arith)) (inl (omega arith)) (inl (omega arith)) (λ e. absurd (omega (arith, e))) (subst (λ e. Wrote e old new) edit_is u.2) in
          let key : is.uid ≡ uid = sym (keys.uid_of one.row is.uid is.uid_is) ∙ one.key in
          let its : AllByRecursion (maps.IsItsRow content_in id is.uid) rows = subst (λ k. AllByRecursion (maps.IsItsRow content_in id k) rows) (sym key) one.its in
          let result : SetsBody uid body old new = record {
            goes_on = it.goes_on;
            contents = ap contents_in it.rows ∙ map_replaced nat_list_cmp_total exact_bytes content_in id row rows its it.free ∙ ap (λ k. insert (contents_in rows) k body) key;
            items = λ prints.
                let entry = item_in prints in
                let same : (entry one.row).1 ≡ (entry row).1 = rw (is.uid_is, is.class_is, is.syntax_is, is.modality_is, is.station_is) in
                let had : fin.get (items_in prints rows) uid ≡ Some (entry row).1 =
                get-from_entries nat_list_cmp_total (map entry rows) uid ∙ found_hit nat_list_cmp_total exact_bytes entry (hits command.by_uid params) uid one.row rows test one.hits ∙ ap Some same in
                ap (items_in prints) it.rows ∙ map_replaced nat_list_cmp_total exact_bytes entry id row rows its it.free ∙ ap (λ k. insert (items_in prints rows) k (entry row).1) key
                ∙ insert_there nat_list_cmp_total exact_bytes entry (items_in prints rows) uid (entry row).1 had;
            others = it.others;
          } in result
    ]

pub body_set : (old new : State) (uid body : List ℕ) (r : Result ℕ Error) → IsLedger old.now → ExecutesInside 0 text.set_body (Text uid ∷ Blob body ∷ []) old new r → OnOk r (HasItem uid old.now.trees → SetsBody uid body old new)
body_set old new uid body (Ok count) has h = λ there. sets_body old new uid body count has there h
body_set old new uid body (Err e) has h = tt

-- ---- print: whether the data set is there

sets_whole : (old new : State) (uid : List ℕ) (whole : ℕ) (count : ℕ) → IsLedger old.now → HasPrint uid old.now.trees → ExecutesInside 0 text.set_whole (Text uid ∷ Int (pos whole) ∷ []) old new (Ok count)
    → SetsWhole uid whole old new
sets_whole old new uid whole count has there h =
    let params = Text uid ∷ Int (pos whole) ∷ [] in
    let db = old.now.trees in
    let rows = db 3 in
    let test = all_uid_hits uid (Int (pos whole) ∷ []) rows (print_uids old.now has) in
    let u = updated old new text.set_whole params 2 3 command.by_uid command.set_whole_shown table.print_table count has.schema command.set_whole.0 command.set_whole.1 refl h in
    elim (one_hit nat_list_cmp_total exact_bytes whole_in (hits command.by_uid params) uid rows has.prints.apart has.prints.ints (prints_apart old.now has) test) [
      | inl none ↦ none_some (get-from_entries nat_list_cmp_total (map whole_in rows) uid ∙ none.1) there
      | inr one ↦
          let is = all_has keys.IsPrintRow rows one.row (print_rows old.now has) one.among in
          let id = one.id in
          let row : Row = Int id ∷ Text is.uid ∷ Int is.size ∷ Blob is.digest ∷ Int (pos whole) ∷ [] in
          let shown = found_one 3 command.by_uid command.set_whole_shown db params u.0 u.1 u.1.grouped one.row (Int id ∷ row) one.hits (rw (one.rowid_is, is.uid_is, is.size_is, is.digest_is)) in
          let edit : Edit = record { table = bare table.print_table; gone = id ∷ []; news = row ∷ [] } in
          let edit_is : edit_of db (bare table.print_table) (ids_of u.0) Given 1 u.0 ≡ edit = ap (λ f. edit_of db (bare table.print_table) (ids_of f) Given 1 f) shown ∙ rw (cast_int id, cast_int is.size, cast_int (pos whole)) in
          let it = replaced old new table.print_table id row has refl refl (inl (omega arith)) (inr refl) (inl (omega arith)) (inl (omega arith)) (λ e. absurd (omega (arith, e))) (subst (λ e. Wrote e old new) edit_is u.2) in
          let key : is.uid ≡ uid = sym (keys.uid_of one.row is.uid is.uid_is) ∙ one.key in
          let its : AllByRecursion (maps.IsItsRow whole_in id is.uid) rows = subst (λ k. AllByRecursion (maps.IsItsRow whole_in id k) rows) (sym key) one.its in
          let same : (print_in one.row).1 ≡ (print_in row).1 = rw (is.size_is, is.digest_is) in
          let had : fin.get (prints_in rows) uid ≡ Some (print_in row).1 =
          get-from_entries nat_list_cmp_total (map print_in rows) uid ∙ found_hit nat_list_cmp_total exact_bytes print_in (hits command.by_uid params) uid one.row rows test one.hits ∙ ap Some same in
          let result : SetsWhole uid whole old new = record {
            goes_on = it.goes_on;
            wholes = ap wholes_in it.rows ∙ map_replaced nat_list_cmp_total exact_bytes whole_in id row rows its it.free ∙ ap (λ k. insert (wholes_in rows) k whole) key;
            prints = ap prints_in it.rows ∙ map_replaced nat_list_cmp_total exact_bytes print_in id row rows its it.free ∙ ap (λ k. insert (prints_in rows) k (print_in row).1) key
                ∙ insert_there nat_list_cmp_total exact_bytes print_in (prints_in rows) uid (print_in row).1 had;
            others = it.others;
          } in result
    ]

pub whole_set : (old new : State) (uid : List ℕ) (whole : ℕ) (r : Result ℕ Error) → IsLedger old.now → ExecutesInside 0 text.set_whole (Text uid ∷ Int (pos whole) ∷ []) old new r → OnOk r (HasPrint uid old.now.trees → SetsWhole uid whole old new)
whole_set old new uid whole (Ok count) has h = λ there. sets_whole old new uid whole count has there h
whole_set old new uid whole (Err e) has h = tt

-- ---- site: the plan in force

its_row : (node : List ℕ) (was plan : List ℕ) → hits command.by_one (Blob plan ∷ []) (site_row node was) ≡ true
its_row node was plan = ap (λ b. b && true) (keys.int_test Eq (pos 1) (pos 1))

-- its rowid is 1
alone : (node was : List ℕ) → without_rowid (pos 1) (site_row node was ∷ []) ≡ []
alone node was = ap (λ o. cond (not (is_eq o)) (site_row node was ∷ []) []) (tied_itself value_cmp_total (Int (pos 1)))

abbrev node_in : List Row → List ℕ
node_in [] = []
node_in (row ∷ rows) = text_in (column row 2)

sets_plan : (old new : State) (plan : List ℕ) (count : ℕ) → IsLedger old.now → HasSite old.now.trees → ExecutesInside 0 text.set_plan (Blob plan ∷ []) old new (Ok count) → SetsPlan plan old new
sets_plan old new plan count has there h =
    let params = Blob plan ∷ [] in
    let db = old.now.trees in
    let u = updated old new text.set_plan params 0 0 command.by_one command.set_plan_shown table.site_table count has.schema command.set_plan.0 command.set_plan.1 refl h in
    let was : Row = site_row there.0 there.1 in
    let row : Row = site_row there.0 plan in
    let one : filter (hits command.by_one params) (db 0) ≡ was ∷ [] = ap (filter (hits command.by_one params)) there.2 ∙ ap (λ b. cond b (was ∷ []) []) (its_row there.0 there.1 plan) in
    let shown = found_one 0 command.by_one command.set_plan_shown db params u.0 u.1 u.1.grouped was (Int (pos 1) ∷ row) one refl in
    let edit : Edit = record { table = bare table.site_table; gone = pos 1 ∷ []; news = row ∷ [] } in
    let edit_is : edit_of db (bare table.site_table) (ids_of u.0) Given 1 u.0 ≡ edit = ap (λ f. edit_of db (bare table.site_table) (ids_of f) Given 1 f) shown ∙ rw (cast_int (pos 1), cast_null) in
    let it = replaced old new table.site_table (pos 1) row has refl refl (inl (omega arith)) (inl (omega arith)) (inl (omega arith)) (inl (omega arith)) (λ e. absurd (omega (arith, e))) (subst (λ e. Wrote e old new) edit_is u.2) in
    let left : new.now.trees 0 ≡ row ∷ [] = it.rows ∙ ap (λ rows. put_row row (without_rowid (pos 1) rows)) there.2 ∙ ap (put_row row) (alone there.0 there.1) in
    record {
      goes_on = it.goes_on;
      site = λ node before is. left ∙ ap (λ name. site_row name plan ∷ []) (ap node_in (sym there.2 ∙ is));
      others = it.others;
    }

pub plan_set : (old new : State) (plan : List ℕ) (r : Result ℕ Error) → IsLedger old.now → ExecutesInside 0 text.set_plan (Blob plan ∷ []) old new r → OnOk r (HasSite old.now.trees → SetsPlan plan old new)
plan_set old new plan (Ok count) has h = λ there. sets_plan old new plan count has there h
plan_set old new plan (Err e) has h = tt
