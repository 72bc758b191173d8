-- What the book of the parts has at each key.
use Rattle.std.proofs.Common.{◌≡◌, Bool, true, false, cond, ◌&&◌, List, [], ◌∷◌, ◌++◌, Option, None, Some, is_some, refl, sym, ap, subst, ◌∙◌, inl, inr}
use Rattle.std.specs.declared.cmp.Ordering.{Ordering}
use Rattle.std.specs.declared.cmp.Ordering.TheVariants.{Less, Equal, Greater}
use Rattle.std.specs.Ordering.{eq_by_cmp, is_eq, ordering_then}
use Rattle.std.specs.List.{AllByRecursion}
use Rattle.std.specs.List.Sorted.{IsStrictlySortedBy}
use Rattle.std.specs.Map.{lookup, keys_of}
use Rattle.std.specs.BTreeMap as tree
use Rattle.std.specs.BTreeMap.{is_at}
use Rattle.std.specs.BTreeSet as sorted
use Rattle.std.specs.FinMap as map
use Rattle.std.specs.FinMap.{find}
use Rattle.std.specs.FinMap.Entries.{is_some-find}
use Rattle.std.specs.FinSet as set
use Rattle.std.proofs.lemmas.Map.Views.{tells_apart}
use Rattle.dr_base.specs.Texts.{Text, text_cmp}
use Rattle.dr_ledger.specs.declared.item.Progress.{Progress}
use Rattle.dr_ledger.specs.Pairs.{Pair, pair_cmp}
use Rattle.dr_ledger.proofs.Maps.{texts, text_pairs, cases_of}
use Rattle.dr_ledger_memory.specs.declared.held.Held.{Held as Entry}
use Rattle.dr_ledger_memory.specs.declared.parts.Parts.{Parts}
use Rattle.dr_ledger_memory.specs.Changes.{at}
use Rattle.dr_ledger_memory.specs.Contents.{all_rows, collected, content, data_sets, kept_mark, keys, one_more, own_rows}
use Rattle.dr_ledger_memory.specs.Entries.{OwnRow, body_in, instance_in, is_kept_in, row_in}

-- what f finds in the entry of a uid
abbrev pub found_in : {X : Type 0} → (Entry → Option X) → Option Entry → Option X
found_in f None = None
found_in f (Some entry) = f entry

abbrev pub Es : Type 0
Es = List (Text × Entry)

abbrev pub In : Text → Es → Option Entry
In uid es = lookup (is_at (text_cmp uid)) es

-- an order of the keys, as the maps of books know it
below : (x : Text) (es : Es) → AllByRecursion (λ y. text_cmp x y ≡ Less) (keys_of es) → In x es ≡ None
below x [] h = refl
below x (e ∷ es) h = ap (λ r. cond (is_eq r) (Some e.1) (In x es)) h.0 ∙ below x es h.1

-- a key that ties with the first of keys in order is none of the others
not_later : (uid x : Text) (es : Es) → eq_by_cmp text_cmp uid x ≡ true → AllByRecursion (λ y. text_cmp x y ≡ Less) (keys_of es) → In uid es ≡ None
not_later uid x es t h = (let P : Text → Type 0 = λ u. In u es ≡ None in subst P (sym (tells_apart texts.exact uid x t)) (below x es h))

abbrev pub IsInOrder : Es → Type 0
IsInOrder es = IsStrictlySortedBy text_cmp (keys_of es)

pub head_of : (e : Text × Entry) (es : Es) → IsInOrder (e ∷ es) → AllByRecursion (λ y. text_cmp e.0 y ≡ Less) (keys_of es)
unfolding IsStrictlySortedBy
head_of e es h = h.0

pub rest_of : (e : Text × Entry) (es : Es) → IsInOrder (e ∷ es) → IsInOrder es
unfolding IsStrictlySortedBy
rest_of e es h = h.1

-- ---- what is collected
module _ {X : Type 0} (f : Entry → Option X) where
  -- of a uid that isn't there nothing is
  none_collected : (uid : Text) (es : Es) → In uid es ≡ None → find text_cmp uid (collected f es) ≡ None
  none_collected uid [] h = refl
  none_collected uid (e ∷ es) h = elim (cases_of (eq_by_cmp text_cmp uid e.0)) [
    | inl t ↦ absurd (let g : Some e.1 ≡ None = sym (ap (λ b. cond b (Some e.1) (In uid es)) t) ∙ h in let z : ⊥ = cc in z)
    | inr n ↦ passed (f e.1) n (none_collected uid es (sym (ap (λ b. cond b (Some e.1) (In uid es)) n) ∙ h))
  ]
    where
      passed : (x : Option X) → eq_by_cmp text_cmp uid e.0 ≡ false → find text_cmp uid (collected f es) ≡ None → find text_cmp uid (one_more e.0 x (collected f es)) ≡ None
      passed None n later = later
      passed (Some x) n later = ap (λ b. cond b (Some x) (find text_cmp uid (collected f es))) n ∙ later

  pub find_collected : (uid : Text) (es : Es) → IsInOrder es → find text_cmp uid (collected f es) ≡ found_in f (In uid es)
  find_collected uid [] h = refl
  find_collected uid (e ∷ es) h = elim (cases_of (eq_by_cmp text_cmp uid e.0)) [
    | inl t ↦ own (f e.1) t (none_collected uid es (not_later uid e.0 es t (head_of e es h))) ∙ sym (ap (λ b. found_in f (cond b (Some e.1) (In uid es))) t)
    | inr n ↦ passed (f e.1) n ∙ (find_collected uid es (rest_of e es h) ∙ sym (ap (λ b. found_in f (cond b (Some e.1) (In uid es))) n))
  ]
    where
      own : (x : Option X) → eq_by_cmp text_cmp uid e.0 ≡ true → find text_cmp uid (collected f es) ≡ None → find text_cmp uid (one_more e.0 x (collected f es)) ≡ x
      own None t later = later
      own (Some x) t later = ap (λ b. cond b (Some x) (find text_cmp uid (collected f es))) t

      passed : (x : Option X) → eq_by_cmp text_cmp uid e.0 ≡ false → find text_cmp uid (one_more e.0 x (collected f es)) ≡ find text_cmp uid (collected f es)
      passed None n = refl
      passed (Some x) n = ap (λ b. cond b (Some x) (find text_cmp uid (collected f es))) n

-- ---- rows
abbrev or_else : {X : Type 0} → Option X → Option X → Option X
or_else None o = o
or_else (Some x) o = Some x

kept_or : {X : Type 0} (b : Bool) (x : X) (o p : Option X) → cond b (Some x) (or_else o p) ≡ or_else (cond b (Some x) o) p
kept_or true x o p = refl
kept_or false x o p = refl

find_joined : {X : Type 0} (k : Pair) (xs ys : List (Pair × X)) → find pair_cmp k (xs ++ ys) ≡ or_else (find pair_cmp k xs) (find pair_cmp k ys)
find_joined k [] ys = refl
find_joined k (x ∷ xs) ys = ap (cond (eq_by_cmp pair_cmp k x.0) (Some x.1)) (find_joined k xs ys) ∙ kept_or (eq_by_cmp pair_cmp k x.0) x.1 (find pair_cmp k xs) (find pair_cmp k ys)

pub pair_ties : (r s : Ordering) → is_eq (ordering_then r s) ≡ (is_eq r && is_eq s)
pair_ties Less s = refl
pair_ties Equal s = refl
pair_ties Greater s = refl

nothing : (b : Bool) → ◌≡◌ {A = Option Progress} None (cond b None None)
nothing true = refl
nothing false = refl

-- the rows of one uid
find_own : (uid dest x : Text) (rows : List OwnRow) → find pair_cmp (uid, dest) (own_rows x rows) ≡ cond (eq_by_cmp text_cmp uid x) (find text_cmp dest rows) None
find_own uid dest x [] = nothing (eq_by_cmp text_cmp uid x)
find_own uid dest x (row ∷ rows) =
    ap (λ b. cond b (Some row.1) (find pair_cmp (uid, dest) (own_rows x rows))) (pair_ties (text_cmp uid x) (text_cmp dest row.0))
    ∙ (ap (cond (eq_by_cmp text_cmp uid x && eq_by_cmp text_cmp dest row.0) (Some row.1)) (find_own uid dest x rows) ∙ by_case (eq_by_cmp text_cmp uid x) (eq_by_cmp text_cmp dest row.0))
  where
    by_case : (a b : Bool) → cond (a && b) (Some row.1) (cond a (find text_cmp dest rows) None) ≡ cond a (cond b (Some row.1) (find text_cmp dest rows)) None
    by_case true b = refl
    by_case false b = refl

none_of : (uid dest : Text) (es : Es) → In uid es ≡ None → find pair_cmp (uid, dest) (all_rows es) ≡ None
none_of uid dest [] h = refl
none_of uid dest (e ∷ es) h = elim (cases_of (eq_by_cmp text_cmp uid e.0)) [
  | inl t ↦ absurd (let g : Some e.1 ≡ None = sym (ap (λ b. cond b (Some e.1) (In uid es)) t) ∙ h in let z : ⊥ = cc in z)
  | inr n ↦ find_joined (uid, dest) (own_rows e.0 e.1.rows.items) (all_rows es)
      ∙ (ap (λ o. or_else o (find pair_cmp (uid, dest) (all_rows es))) (find_own uid dest e.0 e.1.rows.items ∙ ap (λ b. cond b (find text_cmp dest e.1.rows.items) None) n)
      ∙ none_of uid dest es (sym (ap (λ b. cond b (Some e.1) (In uid es)) n) ∙ h))
]

or_none : {X : Type 0} (o : Option X) → or_else o None ≡ o
or_none None = refl
or_none (Some x) = refl

pub find_row : (uid dest : Text) (es : Es) → IsInOrder es → find pair_cmp (uid, dest) (all_rows es) ≡ row_in (In uid es) dest
find_row uid dest [] h = refl
find_row uid dest (e ∷ es) h = find_joined (uid, dest) (own_rows e.0 e.1.rows.items) (all_rows es)
    ∙ (ap (λ o. or_else o (find pair_cmp (uid, dest) (all_rows es))) (find_own uid dest e.0 e.1.rows.items) ∙ elim (cases_of (eq_by_cmp text_cmp uid e.0)) [
      | inl t ↦ ap (λ b. or_else (cond b (find text_cmp dest e.1.rows.items) None) (find pair_cmp (uid, dest) (all_rows es))) t
          ∙ (ap (or_else (find text_cmp dest e.1.rows.items)) (none_of uid dest es (not_later uid e.0 es t (head_of e es h))) ∙ (or_none (find text_cmp dest e.1.rows.items)
          ∙ sym (ap (λ b. row_in (cond b (Some e.1) (In uid es)) dest) t)))
      | inr n ↦ ap (λ b. or_else (cond b (find text_cmp dest e.1.rows.items) None) (find pair_cmp (uid, dest) (all_rows es))) n
          ∙ (find_row uid dest es (rest_of e es h) ∙ sym (ap (λ b. row_in (cond b (Some e.1) (In uid es)) dest) n))
    ])

-- ---- the book
same_instance : (o : Option Entry) → found_in (λ entry. Some entry.instance) o ≡ instance_in o
same_instance None = refl
same_instance (Some e) = refl

same_body : (o : Option Entry) → found_in (λ entry. entry.body) o ≡ body_in o
same_body None = refl
same_body (Some e) = refl

marked : (b : Bool) → is_some {T = Unit {0}} (cond b (Some tt) None) ≡ b
marked true = refl
marked false = refl

same_kept : (o : Option Entry) → is_some (found_in kept_mark o) ≡ is_kept_in o
same_kept None = refl
same_kept (Some e) = marked e.is_kept

module _ (p : Parts) (order : tree.IsOrdered text_cmp p.held) where
  pub item_at : (uid : Text) → map.get (content p).items uid ≡ instance_in (at p.held uid)
  item_at uid = map.get-from_entries texts.total (collected (λ entry. Some entry.instance) p.held.entries) uid
      ∙ (find_collected (λ entry. Some entry.instance) uid p.held.entries order ∙ same_instance (at p.held uid))

  pub body_at : (uid : Text) → map.get (data_sets p) uid ≡ body_in (at p.held uid)
  body_at uid = map.get-from_entries texts.total (collected (λ entry. entry.body) p.held.entries) uid
      ∙ (find_collected (λ entry. entry.body) uid p.held.entries order ∙ same_body (at p.held uid))

  pub kept_at : (uid : Text) → set.contains (content p).kept uid ≡ is_kept_in (at p.held uid)
  kept_at uid = set.contains-from_list texts.total (keys (collected kept_mark p.held.entries)) uid
      ∙ (sym (is_some-find text_cmp uid (collected kept_mark p.held.entries)) ∙ (ap is_some (find_collected kept_mark uid p.held.entries order) ∙ same_kept (at p.held uid)))

  pub row_at : (uid dest : Text) → map.get (content p).rows (uid, dest) ≡ row_in (at p.held uid) dest
  row_at uid dest = map.get-from_entries text_pairs.total (all_rows p.held.entries) (uid, dest) ∙ find_row uid dest p.held.entries order

pub arrival_at : (p : Parts) (key : Pair) → set.contains (content p).arrivals key ≡ sorted.contains pair_cmp p.arrivals key
arrival_at p key = set.contains-from_list text_pairs.total p.arrivals.keys key
