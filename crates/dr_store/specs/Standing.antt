-- What data sets of tables there are, by what can be read by their cells.
use Rattle.std.proofs.Common.{◌≡◌, ℕ, Bool, true, false, cond, List, [], ◌∷◌, Option, Some, None}
use Rattle.std.proofs.Common.{option_map, is_some, unwrap_or, refl, sym, ap, subst, ◌∙◌}
use Rattle.std.proofs.Common.{length, take}
use Rattle.std.proofs.Common.{map as mapped}
use Rattle.std.specs.Prelude.{option_and_then}
use Rattle.std.specs.Cmp.Lexicographic.{nat_list_cmp_total}
use Rattle.std.specs.FinMap as map
use Rattle.std.specs.FinMap.{find}
use Rattle.std.specs.Ordering.{eq_by_cmp}
use Rattle.std.proofs.lemmas.List.{length-take, take_min}
use Rattle.std.proofs.lemmas.Map.Lookups.{exact_bytes}
use Rattle.sqlite.specs.Tree.{Trees}
use Rattle.dr_base.specs.Texts.{Text, text_cmp}
use Rattle.dr_ledger.specs.declared.content.Job.{Job}
use Rattle.dr_ledger.specs.declared.item.Instance.{Instance}
use Rattle.dr_ledger.specs.Bodies.{HasBodies}
use Rattle.dr_ledger.specs.Books.{Line}
use Rattle.dr_ledger.specs.Histories.{IsJournalled}
use Rattle.dr_ledger.specs.SiteRoutes.{site_routing}
use Rattle.dr_ledger_past.specs.Pasts.{with_past}
use Rattle.dr_site.specs.Parts.{Part}
use Rattle.dr_store_sealed.specs.declared.seal.Seal.{Seal}
use Rattle.dr_store_past.specs.Lines.{past_in}
use Rattle.dr_store_calls.specs.Calling.{IsLedgerOf}
use Rattle.dr_ledger.specs.Items.{IsItem, instance_of}
use Rattle.dr_store_shelf.specs.Tested.{all_if, those_if}
use Rattle.dr_store_schema.specs.Books.{bodies_of, book_of, items_of}
use Rattle.dr_store_changes.specs.Bringing.{HasCells}
use Rattle.dr_store.specs.DataSets.{IsDataSetOf, data_set_told, job_with}
use Rattle.dr_store.specs.Owning.{IsReadAt, bodies_with, body_under, data_set_at, read_where}
use Rattle.dr_store.specs.Pasts.{past_of, whole_book}

-- an item is that of its instance
pub its_own : (item : Job) → IsItem item → IsDataSetOf (instance_of item) item.body
its_own item is = record { item = is; size = refl; digest = refl }

module _ (read_of : List ℕ → Option (List ℕ)) where
  abbrev bytes_of : List ℕ → List ℕ
  bytes_of cell = unwrap_or (read_of cell) []

  -- the first of two, or what is found behind it
  under_first : (b : Bool) (cell : List ℕ) (rest found : Option (List ℕ))
      → rest ≡ option_map bytes_of found
      → cond b (Some (bytes_of cell)) rest ≡ option_map bytes_of (cond b (Some cell) found)
  under_first true cell rest found is = refl
  under_first false cell rest found is = is

  found_under : (uid : Text) (es : List (Text × List ℕ))
      → find text_cmp uid (mapped (body_under read_of) es)
      ≡ option_map bytes_of (find text_cmp uid es)
  found_under uid [] = refl
  found_under uid (e ∷ es) =
      under_first (eq_by_cmp text_cmp uid e.0) e.1
      (find text_cmp uid (mapped (body_under read_of) es)) (find text_cmp uid es)
      (found_under uid es)

  module _ (db : Trees) (uid : Text) where
    -- what is read by the cell of a uid, whether or not it is the instance's
    bytes_at : map.get (map.from_entries {R = text_cmp}
        (mapped (body_under read_of) (map.entries (bodies_of db)))) uid
        ≡ option_map bytes_of (map.get (bodies_of db) uid)
    bytes_at =
        map.get-from_entries nat_list_cmp_total
        (mapped (body_under read_of) (map.entries (bodies_of db))) uid
        ∙ found_under uid (map.entries (bodies_of db))
        ∙ ap (option_map bytes_of) (sym (map.get-entries (bodies_of db) uid))

    -- what stands at a uid
    pub data_at : map.get (bodies_with read_of db) uid ≡ data_set_at read_of db uid
    data_at =
        map.get-retain_keys
        (map.from_entries (mapped (body_under read_of) (map.entries (bodies_of db))))
        (λ u. is_some (data_set_at read_of db u)) uid
        (λ u tie. ap (λ u'. is_some (data_set_at read_of db u')) (sym (exact_bytes uid u tie)))
        ∙ ap (λ o. cond (is_some (data_set_at read_of db uid)) o None) bytes_at
        ∙ by_known (map.get (items_of db) uid) (map.get (bodies_of db) uid)
      where
        by_told : (bytes : List ℕ) {P : Type 0} (told : Dec P)
            → cond (is_some (those_if bytes told)) (Some bytes) None ≡ those_if bytes told
        by_told bytes (yes p) = refl
        by_told bytes (no n) = refl

        by_read : (i : Instance) (found : Option (List ℕ))
            → cond (is_some (read_where (Some i) found)) (Some (unwrap_or found [])) None
            ≡ read_where (Some i) found
        by_read i None = refl
        by_read i (Some bytes) = by_told bytes (data_set_told i bytes)

        by_known : (known : Option Instance) (cell : Option (List ℕ))
            → cond (is_some (read_where known (option_and_then read_of cell)))
            (option_map bytes_of cell) None
            ≡ read_where known (option_and_then read_of cell)
        by_known None cell = refl
        by_known (Some i) None = refl
        by_known (Some i) (Some cell) = by_read i (read_of cell)

    -- a data set that is there can be read
    pub is_read : (body : List ℕ) → map.get (bodies_with read_of db) uid ≡ Some body
        → IsReadAt read_of db uid body
    is_read body h =
        by_known (map.get (items_of db) uid) (map.get (bodies_of db) uid) refl refl
        (sym data_at ∙ h)
      where
        by_told : (i : Instance) (cell bytes : List ℕ) (told : Dec (IsDataSetOf i bytes))
            → map.get (items_of db) uid ≡ Some i → map.get (bodies_of db) uid ≡ Some cell
            → read_of cell ≡ Some bytes → those_if bytes told ≡ Some body
            → IsReadAt read_of db uid body
        by_told i cell bytes (yes own) is there reads e =
            let same : bytes ≡ body = cc in
            let item : Job = job_with i bytes in
            let known : instance_of item ≡ i =
            λ j. record { uid = i.uid; key = i.key; size = own.size j; digest = own.digest j } in
            record {
              cell = cell;
              there = there;
              reads = reads ∙ ap Some same;
              item = item;
              is_item = own.item;
              same = same;
              known = is ∙ ap Some (sym known);
            }
        by_told i cell bytes (no n) is there reads e = absurd (let f : ⊥ = cc in f)

        by_read : (i : Instance) (cell : List ℕ) (found : Option (List ℕ))
            → map.get (items_of db) uid ≡ Some i → map.get (bodies_of db) uid ≡ Some cell
            → read_of cell ≡ found → read_where (Some i) found ≡ Some body
            → IsReadAt read_of db uid body
        by_read i cell None is there reads e = absurd (let f : ⊥ = cc in f)
        by_read i cell (Some bytes) is there reads e =
            by_told i cell bytes (data_set_told i bytes) is there reads e

        by_known : (known : Option Instance) (cell : Option (List ℕ))
            → map.get (items_of db) uid ≡ known → map.get (bodies_of db) uid ≡ cell
            → data_set_at read_of db uid ≡ Some body → IsReadAt read_of db uid body
        by_known None found is there e =
            let cell = map.get (bodies_of db) uid in
            let none : None ≡ Some body =
            sym (λ j. read_where (is j) (option_and_then read_of cell)) ∙ e in
            absurd (let f : ⊥ = cc in f)
        by_known (Some i) None is there e =
            let none : None ≡ Some body =
            sym (λ j. read_where (is j) (option_and_then read_of (there j))) ∙ e in
            absurd (let f : ⊥ = cc in f)
        by_known (Some i) (Some cell) is there e =
            by_read i cell (read_of cell) is there refl
            (sym (λ j. read_where (is j) (option_and_then read_of (there j))) ∙ e)

    -- what can be read is there
    pub read_is : (body : List ℕ) → IsReadAt read_of db uid body
        → map.get (bodies_with read_of db) uid ≡ Some body
    read_is body it =
        let own : IsDataSetOf (instance_of it.item) body =
        subst (IsDataSetOf (instance_of it.item)) it.same (its_own it.item it.is_item) in
        data_at
        ∙ (λ j. read_where (it.known j) (option_and_then read_of (it.there j)))
        ∙ ap (read_where (Some (instance_of it.item))) it.reads
        ∙ all_if body (data_set_told (instance_of it.item) body) own

-- the data sets are such as the whole book needs
pub has_bodies : (all : List Line) (read_of : List ℕ → Option (List ℕ)) (db : Trees)
    → HasCells (book_of db) (bodies_of db)
    → HasBodies (whole_book all db) (bodies_with read_of db)
has_bodies all read_of db has = record {
  there = λ uid body is.
      let it = is_read read_of db uid body is in
      (has.there uid).0 (it.cell, it.there);
  own = λ uid body is.
      let it = is_read read_of db uid body is in
      (it.item, it.is_item, it.same, it.known);
}

-- as many of the lines as the first of them are, are these
taken_again : (k : ℕ) (all : List Line) → take (length (take k all)) all ≡ take k all
taken_again k all = ap (λ n. take n all) (length-take k all) ∙ take_min k all

-- Tables of a ledger over as much of the past as a seal counts have just that past.
pub past_kept : (all : List Line) (seal : Seal) (n : ℕ) (part : Part) (db : Trees)
    → IsLedgerOf (past_in all seal) n part db → past_of all db ≡ past_in all seal
past_kept all seal n part db l =
    ap (λ n. take n all) (sym l.counted) ∙ taken_again seal.count all

-- So their journal makes their whole book.
pub is_journalled : (all : List Line) (seal : Seal) (n : ℕ) (part : Part) (db : Trees)
    → IsLedgerOf (past_in all seal) n part db
    → IsJournalled (site_routing part) (whole_book all db)
is_journalled all seal n part db l =
    subst (λ past. IsJournalled (site_routing part) (with_past past (book_of db)))
    (sym (past_kept all seal n part db l)) l.journalled
