-- What the tables have of an item that arrives.
use Rattle.std.proofs.Common.{◌≡◌, ◌≢◌, ◌↔◌, ◌⊎◌, inl, inr, ℕ, Bool, true, false, cond, is_some, IsTrue, List, [], ◌∷◌, map as mapped, Option, Some, None, IsSome, option_map, Ok, Err, Result, refl, sym, ap, subst, ◌∙◌, true≢false}
use Rattle.std.specs.Cmp.Lexicographic.{nat_list_cmp_total}
use Rattle.std.specs.FinMap as map
use Rattle.std.specs.FinMap.{FinMap, find}
use Rattle.std.specs.Ordering.{eq_by_cmp}
use Rattle.sqlite.specs.Order.{Row, column}
use Rattle.sqlite.specs.Tree.{Trees}
use Rattle.dr_base.specs.Texts.{Text, text_cmp}
use Rattle.dr_route.specs.declared.key.Key.{Key}
use Rattle.dr_ledger.specs.declared.item.Instance.{Instance}
use Rattle.dr_store_schema.specs.Books.{bodies_of, content_in, contents_in, instance_by, is_whole, item_in, items_of, print_in, print_or_none, prints_of, whole_in, wholes_in}
use Rattle.dr_store_schema.specs.Cells.{bytes_in, number_in, text_in}
use Rattle.dr_store_changes.specs.Changes.{HasBoth, HasNeither}
use Rattle.dr_store_changes.proofs.LettingGo.{body_at}
use Rattle.dr_store_reads.specs.declared.finding.Print.{Print}
use Rattle.dr_store_reads.specs.Queries.{IsKeyOf, IsPrintOf}
use Rattle.dr_store_calls.specs.Knowing.{IsWhatIsKnown, IsThere}
use Rattle.dr_store_calls.specs.declared.knowing.Known.TheVariants as known

-- ---- two maps of the same rows by the same keys

abbrev by_key : {V : Type 0} → (Row → Text) → (Row → V) → List Row → FinMap text_cmp V
by_key key value rows = map.from_entries (mapped (λ row. (key row, value row)) rows)

found_alike : {V W : Type 0} (key : Row → Text) (v : Row → V) (w : Row → W) (q : Text) (rows : List Row)
    → is_some (find text_cmp q (mapped (λ row. (key row, v row)) rows)) ≡ is_some (find text_cmp q (mapped (λ row. (key row, w row)) rows))
found_alike key v w q [] = refl
found_alike key v w q (r ∷ rows) = go (eq_by_cmp text_cmp q (key r)) (found_alike key v w q rows)
  where
    go : (b : Bool) → is_some (find text_cmp q (mapped (λ row. (key row, v row)) rows)) ≡ is_some (find text_cmp q (mapped (λ row. (key row, w row)) rows))
        → is_some (cond b (Some (v r)) (find text_cmp q (mapped (λ row. (key row, v row)) rows))) ≡ is_some (cond b (Some (w r)) (find text_cmp q (mapped (λ row. (key row, w row)) rows)))
    go true later = refl
    go false later = later

same_keys : {V W : Type 0} (key : Row → Text) (v : Row → V) (w : Row → W) (q : Text) (rows : List Row) → map.contains_key (by_key key v rows) q ≡ map.contains_key (by_key key w rows) q
same_keys key v w q rows =
    ap is_some (map.get-from_entries nat_list_cmp_total (mapped (λ row. (key row, v row)) rows) q) ∙ found_alike key v w q rows
    ∙ sym (ap is_some (map.get-from_entries nat_list_cmp_total (mapped (λ row. (key row, w row)) rows) q))

items_and_contents : (db : Trees) (uid : Text) → map.contains_key (items_of db) uid ≡ map.contains_key (contents_in (db 1)) uid
items_and_contents db uid = same_keys (λ row. text_in (column row 1)) (λ row. (item_in (prints_of db) row).1) (λ row. (content_in row).1) uid (db 1)

prints_and_wholes : (db : Trees) (uid : Text) → map.contains_key (prints_of db) uid ≡ map.contains_key (wholes_in (db 3)) uid
prints_and_wholes db uid = same_keys (λ row. text_in (column row 1)) (λ row. (print_in row).1) (λ row. (whole_in row).1) uid (db 3)

none_of : {X : Type 0} (o : Option X) → is_some o ≡ false → o ≡ None
none_of None h = refl
none_of (Some x) h = absurd (true≢false h)

-- ---- what is known

-- where there is no item, there is no data set
pub no_content : (db : Trees) (uid : Text) → map.get (items_of db) uid ≡ None → map.get (contents_in (db 1)) uid ≡ None
no_content db uid none = none_of _ (sym (items_and_contents db uid) ∙ ap is_some none)

-- and where there is no data set, no item
pub no_item_there : (db : Trees) (uid : Text) → map.get (contents_in (db 1)) uid ≡ None → map.get (items_of db) uid ≡ None
no_item_there db uid none = none_of _ (items_and_contents db uid ∙ ap is_some none)

-- the instance of a key and a print
abbrev pub instance_with : Text → Key → Print → Instance
instance_with uid key print = record { uid = uid; key = key; size = print.size; digest = print.digest }

found_instance : (db : Trees) (uid : Text) (key : Key) (print : Print) → IsKeyOf uid db (Some key) → IsPrintOf uid db (Some print) → map.get (items_of db) uid ≡ Some (instance_with uid key print)
found_instance db uid key print k p = k ∙ ap (λ o. Some (record { uid = uid; key = key; size = (print_or_none o).0; digest = (print_or_none o).1 })) p.0

found_both : (db : Trees) (uid : Text) (key : Key) (print : Print) → IsKeyOf uid db (Some key) → IsPrintOf uid db (Some print) → HasBoth uid db
found_both db uid key print k p = (sym (items_and_contents db uid) ∙ ap is_some k, sym (prints_and_wholes db uid) ∙ ap is_some p.0)

body_there : (w : Bool) (o : Option (List ℕ)) → IsSome o → is_some (cond w o None) ≡ w
body_there true o there = there
body_there false o there = refl

found_body : (db : Trees) (uid : Text) (key : Key) (print : Print) → IsKeyOf uid db (Some key) → IsPrintOf uid db (Some print) → map.contains_key (bodies_of db) uid ≡ print.whole
found_body db uid key print k p =
    ap is_some (body_at (contents_in (db 1)) (wholes_in (db 3)) uid) ∙ body_there (is_whole (map.get (wholes_in (db 3)) uid)) (map.get (contents_in (db 1)) uid) (found_both db uid key print k p).0 ∙ p.1

pub known_no : (db : Trees) (item : Instance) → IsKeyOf item.uid db None → IsPrintOf item.uid db None → IsWhatIsKnown db item known.No
known_no db item k p = (no_content db item.uid k, p.1)

abbrev pub AreSame : Instance → Key → Print → Type 0
AreSame item key print = (key ≡ item.key) × (print.size ≡ item.size) × (print.digest ≡ item.digest)

pub known_same : (db : Trees) (item : Instance) (key : Key) (print : Print) → AreSame item key print → IsKeyOf item.uid db (Some key) → IsPrintOf item.uid db (Some print) → IsWhatIsKnown db item (known.Same print.whole)
known_same db item key print same k p = record {
  same = found_instance db item.uid key print k p ∙ ap Some (λ i. record { uid = item.uid; key = same.0 i; size = same.1 i; digest = same.2 i });
  both = found_both db item.uid key print k p;
  body = found_body db item.uid key print k p;
}

pub known_other : (db : Trees) (item : Instance) (key : Key) (print : Print) → (AreSame item key print → ⊥) → IsKeyOf item.uid db (Some key) → IsPrintOf item.uid db (Some print) → IsWhatIsKnown db item known.Other
known_other db item key print other k p = (
  instance_with item.uid key print,
  found_instance db item.uid key print k p,
  λ is. other (ap (λ (i : Instance). i.key) is, ap (λ (i : Instance). i.size) is, ap (λ (i : Instance). i.digest) is),
)
