-- Instances that come.
use Rattle.std.proofs.Common.{◌≡◌, ℕ, pos, List, [], ◌∷◌, map as mapped, Bool, true, false, cond, Some, None, refl, sym, ap, subst, ◌∙◌, arith, option_map}
use Rattle.std.specs.Cmp.Lexicographic.{nat_list_cmp_total}
use Rattle.std.specs.FinMap as map
use Rattle.std.specs.FinMap.{FinMap, find}
use Rattle.std.specs.Ordering.{eq_by_cmp}
use Rattle.std.proofs.lemmas.Map.Lookups.{exact_bytes}
use Rattle.sqlite.specs.declared.types.Value.TheVariants.{Int}
use Rattle.sqlite.specs.Edit.{is_taken}
use Rattle.sqlite.specs.Order.{Row}
use Rattle.sqlite.specs.State.{State}
use Rattle.sqlite.specs.Tree.{put_row, rowid}
use Rattle.dr_base.specs.Texts.{Text, text_cmp}
use Rattle.dr_ledger.specs.declared.item.Instance.{Instance}
use Rattle.dr_route.specs.declared.key.Key.{Key}
use Rattle.dr_store_schema.specs.Books.{Print, content_in, contents_in, instance_by, item_in, items_in, items_of, key_in, print_in, print_or_none, prints_in, prints_of, whole_in, wholes_in}
use Rattle.dr_store_schema.proofs.WhatIsWritten.{cells_say_what_was_written}
use Rattle.dr_store_writes.specs.Effects.{AddsCells, AddsRow, GoesOn, item_row, print_cells}
use Rattle.dr_store_writes.proofs.Maps.{equal, map_put}
use Rattle.dr_store_changes.specs.Changes.{AddsOnlyLine, HasNeither, Stores}
use Rattle.dr_store_changes.specs.Writing.{IsMade}
use Rattle.dr_store_changes.proofs.Movements.{goes_over}

-- ---- a line alone

pub only_line : (n : ℕ) (line : Row) (old new : State) → rowid line ≡ Int (pos n) → AddsRow 11 line old new → IsMade n (AddsOnlyLine line) old new
only_line n line old new numbered adds =
    let o = adds.others in
    record {
      goes_on = adds.goes_on;
      line = record { row = line; numbered = numbered; journal = adds.rows };
      made = record {
        journal = adds.rows;
        site = o.site (omega arith);
        items = o.items (omega arith);
        prints = o.prints (omega arith);
        arrivals = o.arrivals (omega arith);
        kept = o.kept (omega arith);
        queue = o.queue (omega arith);
        targets = o.targets (omega arith);
      };
    }

-- ---- the items, by what stands at each uid

abbrev pub keyed : Row → Text × Key
keyed row = ((content_in row).0, key_in row)

abbrev pub keys_in : List Row → FinMap text_cmp Key
keys_in rows = map.from_entries (mapped keyed rows)

found_item : (prints : FinMap text_cmp Print) (q : Text) (rows : List Row) → find text_cmp q (mapped (item_in prints) rows) ≡ option_map (λ key. instance_by prints q key) (find text_cmp q (mapped keyed rows))
found_item prints q [] = refl
found_item prints q (r ∷ rows) = go (eq_by_cmp text_cmp q (content_in r).0) refl (found_item prints q rows)
  where
    go : (b : Bool) → eq_by_cmp text_cmp q (content_in r).0 ≡ b → find text_cmp q (mapped (item_in prints) rows) ≡ option_map (λ key. instance_by prints q key) (find text_cmp q (mapped keyed rows))
        → cond b (Some (item_in prints r).1) (find text_cmp q (mapped (item_in prints) rows)) ≡ option_map (λ key. instance_by prints q key) (cond b (Some (key_in r)) (find text_cmp q (mapped keyed rows)))
    go true is later = ap (λ uid. Some (instance_by prints uid (key_in r))) (sym (exact_bytes q (content_in r).0 (equal _ is)))
    go false is later = later

pub item_at : (prints : FinMap text_cmp Print) (rows : List Row) (q : Text) → map.get (items_in prints rows) q ≡ option_map (λ key. instance_by prints q key) (map.get (keys_in rows) q)
item_at prints rows q =
    map.get-from_entries nat_list_cmp_total (mapped (item_in prints) rows) q ∙ found_item prints q rows
    ∙ ap (option_map (λ key. instance_by prints q key)) (sym (map.get-from_entries nat_list_cmp_total (mapped keyed rows) q))

-- ---- an instance that wasn't there

not_found : {V : Type 0} (entry : Row → Text × V) (rows : List Row) (q : Text) → map.get (map.from_entries {R = text_cmp} (mapped entry rows)) q ≡ None → find text_cmp q (mapped entry rows) ≡ None
not_found entry rows q none = sym (map.get-from_entries nat_list_cmp_total (mapped entry rows) q) ∙ none

-- where one part of the rows has no such key, another one hasn't
no_key : {V W : Type 0} (v : Row → V) (w : Row → W) (q : Text) (rows : List Row) → find text_cmp q (mapped (λ r. ((content_in r).0, v r)) rows) ≡ None → find text_cmp q (mapped (λ r. ((content_in r).0, w r)) rows) ≡ None
no_key v w q [] none = refl
no_key v w q (r ∷ rows) none = go (eq_by_cmp text_cmp q (content_in r).0) none (no_key v w q rows)
  where
    go : (b : Bool) → cond b (Some (v r)) (find text_cmp q (mapped (λ r. ((content_in r).0, v r)) rows)) ≡ None
        → (find text_cmp q (mapped (λ r. ((content_in r).0, v r)) rows) ≡ None → find text_cmp q (mapped (λ r. ((content_in r).0, w r)) rows) ≡ None)
        → cond b (Some (w r)) (find text_cmp q (mapped (λ r. ((content_in r).0, w r)) rows)) ≡ None
    go true none later = absurd cc
    go false none later = later none

abbrev new_item : Text → Key → ℕ → List ℕ → Instance
new_item uid key size digest = record { uid = uid; key = key; size = size; digest = digest }

pub stores : (n : ℕ) (uid : Text) (key : Key) (size : ℕ) (digest body : List ℕ) (whole : ℕ) (old mid new : State) → HasNeither uid old.now.trees → AddsRow 1 (item_row n uid key body) old mid
    → AddsCells 3 (print_cells uid size digest whole) mid new → GoesOn old new × Stores (new_item uid key size digest) body whole old.now.trees new.now.trees
stores n uid key size digest body whole old mid new neither item print =
    let before = old.now.trees in
    let between = mid.now.trees in
    let after = new.now.trees in
    let i = item.others in
    let p = print.adds.others in
    let rows = before 1 in
    let marks = before 3 in
    let row : Row = item_row n uid key body in
    let mark : Row = Int print.id ∷ print_cells uid size digest whole in
    let rows_are : after 1 ≡ put_row row rows = p.items (omega arith) ∙ item.rows in
    let marks_were : between 3 ≡ marks = i.prints (omega arith) in
    let marks_are : after 3 ≡ put_row mark marks = print.adds.rows ∙ ap (put_row mark) marks_were in
    let free_mark = subst (λ rs. is_taken rs mark ≡ false) marks_were print.adds.free in
    let no_item = not_found content_in rows uid neither.0 in
    let no_mark = not_found whole_in marks uid neither.1 in
    let contents : contents_in (after 1) ≡ map.insert (contents_in rows) uid body = ap contents_in rows_are ∙ map_put nat_list_cmp_total exact_bytes content_in row rows item.free no_item in
    let key_is : key_in row ≡ key = ap (λ syntax. record key { syntax = syntax }) (cells_say_what_was_written.syntax key.syntax) in
    let keys : keys_in (after 1) ≡ map.insert (keys_in rows) uid key =
    ap keys_in rows_are ∙ map_put nat_list_cmp_total exact_bytes keyed row rows item.free (no_key (λ r. (content_in r).1) key_in uid rows no_item) ∙ ap (map.insert (keys_in rows) uid) key_is in
    let wholes : wholes_in (after 3) ≡ map.insert (wholes_in marks) uid whole = ap wholes_in marks_are ∙ map_put nat_list_cmp_total exact_bytes whole_in mark marks free_mark no_mark in
    let prints : prints_in (after 3) ≡ map.insert (prints_in marks) uid (size, digest) =
    ap prints_in marks_are ∙ map_put nat_list_cmp_total exact_bytes print_in mark marks free_mark (no_key (λ r. (whole_in r).1) (λ r. (print_in r).1) uid marks no_mark) in
    let items : items_of after ≡ map.insert (items_of before) uid (new_item uid key size digest) = map.same_map nat_list_cmp_total exact_bytes _ _ (λ q.
    item_at (prints_in (after 3)) (after 1) q
    ∙ (λ j. option_map (λ k. instance_by (prints j) q k) (map.get (keys j) q))
    ∙ ap (option_map (λ k. instance_by (map.insert (prints_in marks) uid (size, digest)) q k)) (map.get-insert nat_list_cmp_total (keys_in rows) uid key q)
    ∙ at q (eq_by_cmp text_cmp q uid) refl
    ∙ ap (λ got. cond (eq_by_cmp text_cmp q uid) (Some (new_item uid key size digest)) got) (sym (item_at (prints_in marks) rows q))
    ∙ sym (map.get-insert nat_list_cmp_total (items_of before) uid (new_item uid key size digest) q)) in (
      goes_over old mid new item.goes_on print.adds.goes_on,
      record {
        items = items;
        contents = contents;
        wholes = wholes;
        site = p.site (omega arith) ∙ i.site (omega arith);
        arrivals = p.arrivals (omega arith) ∙ i.arrivals (omega arith);
        kept = p.kept (omega arith) ∙ i.kept (omega arith);
        queue = p.queue (omega arith) ∙ i.queue (omega arith);
        journal = p.journal (omega arith) ∙ i.journal (omega arith);
        targets = p.targets (omega arith) ∙ i.targets (omega arith);
      },
    )
  where
    all : FinMap text_cmp Print
    all = map.insert (prints_of old.now.trees) uid (size, digest)

    at : (q : Text) (b : Bool) → eq_by_cmp text_cmp q uid ≡ b
        → option_map (λ k. instance_by all q k) (cond (eq_by_cmp text_cmp q uid) (Some key) (map.get (keys_in (old.now.trees 1)) q))
        ≡ cond (eq_by_cmp text_cmp q uid) (Some (new_item uid key size digest)) (option_map (λ k. instance_by (prints_of old.now.trees) q k) (map.get (keys_in (old.now.trees 1)) q))
    at q true is =
        let got : map.get all q ≡ Some (size, digest) = map.get-insert nat_list_cmp_total (prints_of old.now.trees) uid (size, digest) q ∙ ap (λ b. cond b (Some (size, digest)) (map.get (prints_of old.now.trees) q)) is in
        let same : instance_by all q key ≡ new_item uid key size digest = λ j. record {
          uid = exact_bytes q uid (equal _ is) j;
          key = key;
          size = (print_or_none (got j)).0;
          digest = (print_or_none (got j)).1;
        } in
        ap (λ b. option_map (λ k. instance_by all q k) (cond b (Some key) (map.get (keys_in (old.now.trees 1)) q))) is ∙ ap Some same
        ∙ ap (λ b. cond b (Some (new_item uid key size digest)) (option_map (λ k. instance_by (prints_of old.now.trees) q k) (map.get (keys_in (old.now.trees 1)) q))) (sym is)
    at q false is =
        let got : map.get all q ≡ map.get (prints_of old.now.trees) q =
        map.get-insert nat_list_cmp_total (prints_of old.now.trees) uid (size, digest) q ∙ ap (λ b. cond b (Some (size, digest)) (map.get (prints_of old.now.trees) q)) is in
        ap (λ b. option_map (λ k. instance_by all q k) (cond b (Some key) (map.get (keys_in (old.now.trees 1)) q))) is
        ∙ ap (λ print. option_map (λ k. record { uid = q; key = k; size = (print_or_none print).0; digest = (print_or_none print).1 }) (map.get (keys_in (old.now.trees 1)) q)) got
        ∙ ap (λ b. cond b (Some (new_item uid key size digest)) (option_map (λ k. instance_by (prints_of old.now.trees) q k) (map.get (keys_in (old.now.trees 1)) q))) (sym is)
