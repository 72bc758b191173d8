-- What the lists of whole tables tell of the book.
use Rattle.std.proofs.Common.{◌≡◌, ◌==◌, ℕ, List, [], ◌∷◌, map, filter, Bool, true, false, T, not, ◌&&◌, ◌||◌, cond, Some, is_some, option_map, refl, sym, ap, ◌∙◌, true≢false}
use Rattle.std.specs.declared.cmp.Ordering.{Ordering}
use Rattle.std.specs.declared.cmp.Ordering.TheVariants.{Less, Equal, Greater}
use Rattle.std.specs.Cmp.{nat_cmp_is, ranked}
use Rattle.std.specs.Cmp.Lexicographic.{nat_list_cmp_total}
use Rattle.std.specs.FinMap.Entries.{is_some-find}
use Rattle.std.specs.FinMap.{find, get-from_entries}
use Rattle.std.specs.FinSet as set
use Rattle.std.specs.List.{list_any}
use Rattle.std.specs.Ordering.{eq_by_cmp, is_eq, nat_cmp, ordering_then}
use Rattle.std.proofs.Math.Dec.{eqb_refl}
use Rattle.std.proofs.lemmas.Bool.{eqb-true}
use Rattle.std.proofs.lemmas.Map.Lookups.{exact_bytes}
use Rattle.sqlite.specs.Order.{Row, column}
use Rattle.sqlite.specs.Tree.{Trees}
use Rattle.dr_base.specs.Texts.{Text, text_cmp}
use Rattle.dr_store_schema.specs.Books.{instance_by, is_of_line, item_in, key_in, named_in, print_in, prints_of, whole_in}
use Rattle.dr_store_schema.specs.Cells.{number_in, text_in}
use Rattle.dr_store_writes.proofs.Maps as maps
use Rattle.dr_store_lists.specs.Lists.{Goal, GoalsAreNames, KeysAndPrintsAreInstances, goal_cmp, whole_print_in}
use Rattle.dr_store_reads.specs.declared.finding.Print.{Print as Whole}
use Rattle.dr_store_lists.proofs.Lists.{goals_total}

-- the value at a key, put through a function of the key and the value
found_through : {V W : Type 0} (key : Row → Text) (f : Row → V) (g : Row → W) (h : Text → V → W) → ((row : Row) → g row ≡ h (key row) (f row)) → (q : Text) (rows : List Row)
    → find text_cmp q (map (λ r. (key r, g r)) rows) ≡ option_map (h q) (find text_cmp q (map (λ r. (key r, f r)) rows))
found_through key f g h is q [] = refl
found_through {V = V} {W = W} key f g h is q (r ∷ rows) = go (eq_by_cmp text_cmp q (key r)) refl (found_through key f g h is q rows)
  where
    go : (b : Bool) → eq_by_cmp text_cmp q (key r) ≡ b
        → find text_cmp q (map (λ x. (key x, g x)) rows) ≡ option_map (h q) (find text_cmp q (map (λ x. (key x, f x)) rows))
        → cond b (Some (g r)) (find text_cmp q (map (λ x. (key x, g x)) rows)) ≡ option_map (h q) (cond b (Some (f r)) (find text_cmp q (map (λ x. (key x, f x)) rows)))
    go true same later = ap Some (is r ∙ ap (λ k. h k (f r)) (sym (exact_bytes q (key r) (maps.equal _ same))))
    go false same later = later

abbrev uid_in : Row → Text
uid_in row = text_in (column row 1)

pub keys_and_prints : (db : Trees) → KeysAndPrintsAreInstances db
keys_and_prints db = record {
  items = λ uid.
      get-from_entries nat_list_cmp_total (map (item_in (prints_of db)) (db 1)) uid
      ∙ found_through uid_in key_in (λ r. (item_in (prints_of db) r).1) (instance_by (prints_of db)) (λ r. refl) uid (db 1)
      ∙ ap (option_map (instance_by (prints_of db) uid)) (sym (get-from_entries nat_list_cmp_total (map (λ (r : Row). (text_in (column r 1), key_in r)) (db 1)) uid));
  prints = λ uid.
      get-from_entries nat_list_cmp_total (map print_in (db 3)) uid ∙ found_through uid_in whole_print_in (λ r. (print_in r).1) (λ u (p : Whole). (p.size, p.digest)) (λ r. refl) uid (db 3)
      ∙ ap (option_map (λ (p : Whole). (p.size, p.digest))) (sym (get-from_entries nat_list_cmp_total (map (λ (r : Row). (text_in (column r 1), whole_print_in r)) (db 3)) uid));
  wholes = λ uid.
      ap (option_map (λ n. not (n == 0))) (get-from_entries nat_list_cmp_total (map whole_in (db 3)) uid)
      ∙ sym (found_through uid_in (λ r. (whole_in r).1) (λ r. (whole_print_in r).whole) (λ u n. not (n == 0)) (λ r. refl) uid (db 3))
      ∙ found_through uid_in whole_print_in (λ r. (whole_print_in r).whole) (λ u (p : Whole). p.whole) (λ r. refl) uid (db 3)
      ∙ ap (option_map (λ (p : Whole). p.whole)) (sym (get-from_entries nat_list_cmp_total (map (λ (r : Row). (text_in (column r 1), whole_print_in r)) (db 3)) uid));
}

-- ---- target

it_is : (b : Bool) → T b → b ≡ true
it_is true h = refl
it_is false h = absurd h

-- numbers are tied where they are the same
pub tied_number : (m n : ℕ) (b : Bool) → (n == m) ≡ b → is_eq (nat_cmp m n) ≡ b
tied_number m n true e = ap is_eq (sym (nat_cmp_is m n Equal (sym (eqb-true n m e))))
tied_number m n false e = differ (nat_cmp m n) refl
  where
    differ : (o : Ordering) → o ≡ nat_cmp m n → is_eq (nat_cmp m n) ≡ false
    differ Less is = ap is_eq (sym is)
    differ Equal is = absurd (true≢false (sym (it_is (m == m) (eqb_refl m)) ∙ ap (λ k. k == m) (ranked m n Equal is) ∙ e))
    differ Greater is = ap is_eq (sym is)

pub both_tied : (o p : Ordering) → is_eq (ordering_then o p) ≡ (is_eq o && is_eq p)
both_tied Less p = refl
both_tied Equal p = refl
both_tied Greater p = refl

abbrev goal_in : Row → Goal
goal_in row = (number_in (column row 1), text_in (column row 2))

goal_or_name : (n : ℕ) (name : Text) (rows : List Row)
    → list_any (eq_by_cmp goal_cmp (n, name)) (map goal_in rows) ≡ list_any (eq_by_cmp text_cmp name) (map (λ (e : Text × Unit {0}). e.0) (map named_in (filter (is_of_line n) rows)))
goal_or_name n name [] = refl
goal_or_name n name (r ∷ rows) = go (number_in (column r 1) == n) refl (goal_or_name n name rows)
  where
    go : (b : Bool) → (number_in (column r 1) == n) ≡ b
        → list_any (eq_by_cmp goal_cmp (n, name)) (map goal_in rows) ≡ list_any (eq_by_cmp text_cmp name) (map (λ (e : Text × Unit {0}). e.0) (map named_in (filter (is_of_line n) rows)))
        → (eq_by_cmp goal_cmp (n, name) (goal_in r) || list_any (eq_by_cmp goal_cmp (n, name)) (map goal_in rows))
        ≡ list_any (eq_by_cmp text_cmp name) (map (λ (e : Text × Unit {0}). e.0) (map named_in (cond b (r ∷ filter (is_of_line n) rows) (filter (is_of_line n) rows))))
    go true is later =
        ap (λ b. b || list_any (eq_by_cmp goal_cmp (n, name)) (map goal_in rows))
        (both_tied (nat_cmp n (number_in (column r 1))) (text_cmp name (text_in (column r 2))) ∙ ap (λ b. b && is_eq (text_cmp name (text_in (column r 2)))) (tied_number n (number_in (column r 1)) true is))
        ∙ ap (λ b. is_eq (text_cmp name (text_in (column r 2))) || b) later
    go false is later =
        ap (λ b. b || list_any (eq_by_cmp goal_cmp (n, name)) (map goal_in rows))
        (both_tied (nat_cmp n (number_in (column r 1))) (text_cmp name (text_in (column r 2))) ∙ ap (λ b. b && is_eq (text_cmp name (text_in (column r 2)))) (tied_number n (number_in (column r 1)) false is))
        ∙ later

pub goals_are_names : GoalsAreNames
goals_are_names db n name =
    set.contains-from_list goals_total (map goal_in (db 12)) (n, name) ∙ goal_or_name n name (db 12)
    ∙ sym (is_some-find text_cmp name (map named_in (filter (is_of_line n) (db 12))))
    ∙ sym (ap is_some (get-from_entries nat_list_cmp_total (map named_in (filter (is_of_line n) (db 12))) name))
