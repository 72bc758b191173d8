-- Tables whose key is a text, or two texts: no two rows have one key, and a query by the key finds its row.
use Rattle.std.proofs.Common.{◌≡◌, ◌≢◌, ℕ, ℤ, List, [], ◌∷◌, Bool, true, false, not, ◌&&◌, IsTrue, Some, refl, sym, ap, subst, ◌∙◌, true≢false}
use Rattle.std.specs.declared.cmp.Ordering.{Ordering}
use Rattle.std.specs.declared.cmp.Ordering.TheVariants.{Less, Equal, Greater}
use Rattle.std.specs.Ordering.{int_cmp, nat_cmp, is_eq, is_ne}
use Rattle.std.specs.Cmp.Lexicographic.{slice_cmp, nat_list_cmp_total}
use Rattle.std.specs.Cmp.{IsTotalOrder}
use Rattle.std.specs.FinMap.{IsAntisymmetric}
use Rattle.std.specs.List.{AllByRecursion, list_any, list_all}
use Rattle.std.proofs.lemmas.Cmp.{then_total, on_total, tied_itself}
use Rattle.std.proofs.lemmas.Map.Lookups.{exact_bytes, exact_pairs, exact_signed}
use Rattle.sqlite.specs.declared.types.Value.{Value}
use Rattle.sqlite.specs.declared.types.Value.TheVariants.{Null, Int, Real, Text, Blob}
use Rattle.sqlite.specs.Collation.TheVariants.{Binary}
use Rattle.sqlite.specs.Effect.{Database}
use Rattle.sqlite.specs.Kind.TheVariants as kind
use Rattle.sqlite.specs.Order.{Row, column, value_cmp}
use Rattle.sqlite.specs.Term.{holds}
use Rattle.sqlite.specs.Tree.{Trees, rowid, IsAscending}
use Rattle.sqlite_catalog.specs.Listing.{IsSound}
use Rattle.sqlite_schema.specs.declared.schema.Constraint.TheVariants.{Datatype, NotNull, Unique}
use Rattle.sqlite_schema.specs.Rules.{passes, is_of, agree, differ}
use Rattle.sqlite_sql.specs.Ops.{binary, is_true, is_null, from_truth, test}
use Rattle.sqlite_sql.specs.declared.ops.BinaryOp.TheVariants.{Compare}
use Rattle.sqlite_sql.specs.declared.ops.CompareOp.{CompareOp}
use Rattle.sqlite_sql.specs.declared.ops.CompareOp.TheVariants.{Eq}
use Rattle.sqlite_trees.proofs.ListLemmas.{all_weaker}
use Rattle.sqlite_trees.specs.View.{is_int}
use Rattle.sqlite_value.proofs.KeyLemmas.{first_key-plain}
use Rattle.sqlite_value.proofs.OrderLemmas.{value_cmp-Text, value_cmp-Int}
use Rattle.sqlite_value.specs.Keys.{plain}
use Rattle.dr_ledger.specs.Pairs.{Pair, pair_cmp}
use Rattle.dr_store_schema.specs.Books.{content_in, entry_in, whole_in}
use Rattle.dr_store_schema.specs.Ledgers.{AreRows, IsLedger}
use Rattle.dr_store_schema.specs.Tables.{tables, arrival_table, item_table, print_table, queue_table}
use Rattle.dr_store_writes.proofs.Commands.{by_uid, by_key}
use Rattle.dr_store_writes.proofs.Maps as maps

pub pairs_total : IsTotalOrder pair_cmp
pairs_total = then_total (on_total (λ e. e.0) nat_list_cmp_total) (on_total (λ e. e.1) nat_list_cmp_total)

pub pairs_exact : IsAntisymmetric pair_cmp
pairs_exact = exact_pairs (slice_cmp nat_cmp) (slice_cmp nat_cmp) exact_bytes exact_bytes

-- ---- lists

pub both : (a b : Bool) → (a && b) ≡ true → (a ≡ true) × (b ≡ true)
both true b h = (refl, h)
both false b h = absurd cc

pub all_both : {X : Type 0} (P Q S : X → Type 0) → ((x : X) → P x → Q x → S x) → (xs : List X) → AllByRecursion P xs → AllByRecursion Q xs → AllByRecursion S xs
all_both P Q S f [] p q = tt
all_both P Q S f (x ∷ xs) p q = (f x p.0 q.0, all_both P Q S f xs p.1 q.1)

pub none_of : {X : Type 0} (p : X → Bool) (xs : List X) → list_any p xs ≡ false → AllByRecursion (λ x. p x ≡ false) xs
none_of p [] h = tt
none_of p (x ∷ xs) h = let parts = maps.neither (p x) (list_any p xs) h in (parts.0, none_of p xs parts.1)

not_not : (b : Bool) → (not b && true) ≡ true → b ≡ false
not_not true h = absurd cc
not_not false h = refl

-- ---- values of a type

pub a_text : (v : Value) → is_of kind.Text v ≡ true → not (is_null v) ≡ true → (t : List ℕ) × (v ≡ Text t)
a_text Null typed there = absurd cc
a_text (Int n) typed there = absurd cc
a_text (Real x) typed there = absurd cc
a_text (Text t) typed there = (t, refl)
a_text (Blob b) typed there = absurd cc

pub a_blob : (v : Value) → is_of kind.Blob v ≡ true → not (is_null v) ≡ true → (t : List ℕ) × (v ≡ Blob t)
a_blob Null typed there = absurd cc
a_blob (Int n) typed there = absurd cc
a_blob (Real x) typed there = absurd cc
a_blob (Text t) typed there = absurd cc
a_blob (Blob b) typed there = (b, refl)

pub a_number : (v : Value) → is_of kind.Integer v ≡ true → not (is_null v) ≡ true → (n : ℤ) × (v ≡ Int n)
a_number Null typed there = absurd cc
a_number (Int n) typed there = (n, refl)
a_number (Real x) typed there = absurd cc
a_number (Text t) typed there = absurd cc
a_number (Blob b) typed there = absurd cc

-- ---- comparisons

pub truth_of : (b : Bool) → is_true (from_truth (Some b)) ≡ b
truth_of true = refl
truth_of false = refl

pub same_text : (s t : List ℕ) → is_true (binary (Compare Eq Binary) (Text s) (Text t)) ≡ is_eq (slice_cmp nat_cmp s t)
unfolding binary
same_text s t = truth_of (is_eq (value_cmp (Text s) (Text t))) ∙ ap is_eq (value_cmp-Text s t)

-- a comparison of numbers
pub int_test : (op : CompareOp) (m n : ℤ) → is_true (binary (Compare op Binary) (Int m) (Int n)) ≡ test op (int_cmp m n)
unfolding binary
int_test op m n = truth_of (test op (value_cmp (Int m) (Int n))) ∙ ap (test op) (value_cmp-Int m n)

its_other : (o : Ordering) → (o ≡ Equal → ⊥) → is_ne o ≡ true
its_other Less h = refl
its_other Equal h = absurd (h refl)
its_other Greater h = refl

other_rowid : (m n : ℤ) → m ≢ n → differ (Int m) (Int n) ≡ true
unfolding binary
other_rowid m n other = truth_of (is_ne (value_cmp (Int m) (Int n))) ∙ its_other _ (λ e. other (exact_signed m n (sym (value_cmp-Int m n) ∙ e)))

-- ---- keys that differ, in a table in which no row clashes with another one

module _ {K : Type 0} (HasKey : Row → K → Type 0) (clash : Row → Row → Bool) (key : Row → K)
    (keyed : (r : Row) (k : K) → HasKey r k → key r ≡ k)
    (clashing : (r x : Row) (v w : ℤ) (k : K) → rowid r ≡ Int v → rowid x ≡ Int w → HasKey r k → HasKey x k → v ≢ w → clash r x ≡ true) where
  abbrev IsKeyed : Row → Type 0
  IsKeyed r = (k : K) × HasKey r k

  not_same : (r x : Row) → IsTrue (is_int (rowid r)) → IsTrue (is_int (rowid x)) → IsKeyed r → IsKeyed x → rowid r ≢ rowid x → clash r x ≡ false → key r ≢ key x
  not_same r x int_r int_x is_r is_x less none e =
      let v = maps.an_int (rowid r) int_r in
      let w = maps.an_int (rowid x) int_x in
      let same : is_x.0 ≡ is_r.0 = sym (keyed x is_x.0 is_x.1) ∙ sym e ∙ keyed r is_r.0 is_r.1 in
      let below : v.0 ≢ w.0 = λ same. less (v.1 ∙ ap Int same ∙ sym w.1) in
      true≢false (sym (clashing r x v.0 w.0 is_r.0 v.1 w.1 is_r.1 (subst (HasKey x) same is_x.1) below) ∙ none)

  pub apart : (rows : List Row) → AllByRecursion (λ r. IsTrue (is_int (rowid r))) rows → AllByRecursion IsKeyed rows → IsAscending (λ a b. rowid a ≢ rowid b) rows
      → AllByRecursion (λ row. AllByRecursion (λ other. clash other row ≡ false) rows) rows → IsAscending (λ a b. key a ≢ key b) rows
  apart [] ints shaped table free = tt
  apart (r ∷ rows) ints shaped table free = (
    later rows ints.1 shaped.1 table.0 (all_weaker _ (λ x. clash r x ≡ false) (λ x h. h.0) rows free.1),
    apart rows ints.1 shaped.1 table.1 (all_weaker _ (λ row. AllByRecursion (λ other. clash other row ≡ false) rows) (λ x h. h.1) rows free.1),
  )
    where
      later : (xs : List Row) → AllByRecursion (λ x. IsTrue (is_int (rowid x))) xs → AllByRecursion IsKeyed xs → AllByRecursion (λ x. rowid r ≢ rowid x) xs
          → AllByRecursion (λ x. clash r x ≡ false) xs → AllByRecursion (λ x. key r ≢ key x) xs
      later [] a b c d = tt
      later (x ∷ xs) a b c d = (not_same r x ints.0 a.0 shaped.0 b.0 c.0 d.0, later xs a.1 b.1 c.1 d.1)

  pub apart_in : (rows : List Row) → AreRows rows → AllByRecursion IsKeyed rows → AllByRecursion (λ row. (not (list_any (λ other. clash other row) rows) && true) ≡ true) rows
      → IsAscending (λ a b. key a ≢ key b) rows
  apart_in rows are shaped free =
      apart rows are.ints shaped are.apart (all_weaker _ (λ row. AllByRecursion (λ other. clash other row ≡ false) rows) (λ row h. none_of (λ other. clash other row) rows (not_not (list_any (λ other. clash other row) rows) h)) rows free)

-- ---- one text: item and print

abbrev pub HasText : Row → List ℕ → Type 0
HasText row uid = column row 1 ≡ Text uid

abbrev pub uid_clash : Row → Row → Bool
uid_clash other row = agree plain (1 ∷ []) other (1 ∷ []) row && differ (rowid other) (rowid row)

uid_clashing : (r x : Row) (v w : ℤ) (k : List ℕ) → rowid r ≡ Int v → rowid x ≡ Int w → HasText r k → HasText x k → v ≢ w → uid_clash r x ≡ true
uid_clashing r x v w k r0 x0 r1 x1 less = rw (first_key-plain, r1, x1, same_text k k, tied_itself nat_list_cmp_total k, r0, x0, other_rowid v w less)

pub uid_of : (row : Row) (k : List ℕ) → HasText row k → (content_in row).0 ≡ k
uid_of row k is = rw is

abbrev pub has_uid : Row → Row → Bool
has_uid params row = list_all (holds (params ∷ row ∷ [])) by_uid

abbrev pub IsUidRow : Row → Type 0
IsUidRow row = (uid : List ℕ) × HasText row uid

-- WHERE uid = ?1 finds the rows of that uid
uid_hits : (k : List ℕ) (more : Row) (row : Row) → IsUidRow row → maps.Hits content_in (has_uid (Text k ∷ more)) k row
uid_hits k more row is =
    let test : has_uid (Text k ∷ more) row ≡ (is_eq (slice_cmp nat_cmp is.0 k) && true) = rw (is.1, same_text is.0 k) in (
      λ hit. uid_of row is.0 is.1 ∙ exact_bytes is.0 k (maps.equal _ (both (is_eq (slice_cmp nat_cmp is.0 k)) true (sym test ∙ hit)).0),
      λ same. let at : is.0 ≡ k = sym (uid_of row is.0 is.1) ∙ same in test ∙ ap (λ x. is_eq (slice_cmp nat_cmp x k) && true) at ∙ rw (tied_itself nat_list_cmp_total k),
    )

pub all_uid_hits : (k : List ℕ) (more : Row) (rows : List Row) → AllByRecursion IsUidRow rows → AllByRecursion (maps.Hits content_in (has_uid (Text k ∷ more)) k) rows
all_uid_hits k more = all_weaker IsUidRow _ (uid_hits k more)

-- ---- two texts: queue

-- its key is a pair of texts
pub record IsQueueRow (row : Row) : Type 0 where
  pub at : Pair
  pub uid : column row 1 ≡ Text at.0
  pub dest : column row 2 ≡ Text at.1

abbrev HasPair : Row → Pair → Type 0
HasPair row at = (column row 1 ≡ Text at.0) × (column row 2 ≡ Text at.1)

abbrev pair_clash : Row → Row → Bool
pair_clash other row = agree plain (1 ∷ 2 ∷ []) other (1 ∷ 2 ∷ []) row && differ (rowid other) (rowid row)

pair_clashing : (r x : Row) (v w : ℤ) (k : Pair) → rowid r ≡ Int v → rowid x ≡ Int w → HasPair r k → HasPair x k → v ≢ w → pair_clash r x ≡ true
pair_clashing r x v w k r0 x0 rk xk less =
    rw (first_key-plain, rk.0, xk.0, rk.1, xk.1, same_text k.0 k.0, same_text k.1 k.1, tied_itself nat_list_cmp_total k.0, tied_itself nat_list_cmp_total k.1, r0, x0, other_rowid v w less)

pair_of : (row : Row) (k : Pair) → HasPair row k → (entry_in row).0 ≡ k
pair_of row k is = rw (is.0, is.1)

pub key_of : (row : Row) (is : IsQueueRow row) → (entry_in row).0 ≡ is.at
key_of row is = pair_of row is.at (is.uid, is.dest)

queue_row : (db : Trees) (row : Row) → passes Datatype tables db queue_table row ≡ true → passes NotNull tables db queue_table row ≡ true → IsQueueRow row
queue_row db [] typed there = absurd cc
queue_row db (id ∷ []) typed there = absurd cc
queue_row db (id ∷ a ∷ []) typed there = let h = both (not (is_null a)) _ there in absurd (let e = h.1 in cc)
queue_row db (id ∷ a ∷ b ∷ rest) typed there =
    let t1 = both (is_of kind.Text a) _ (both _ true typed).0 in
    let t2 = both (is_of kind.Text b) _ t1.1 in
    let n1 = both (not (is_null a)) _ there in
    let n2 = both (not (is_null b)) _ n1.1 in
    let uid = a_text a t1.0 n1.0 in
    let dest = a_text b t2.0 n2.0 in
    record { at = (uid.0, dest.0); uid = uid.1; dest = dest.1 }

pub queue_rows : (db : Database) → IsLedger db → AllByRecursion IsQueueRow (db.trees 9)
queue_rows db is =
    let obeys = (subst (λ s. IsSound s db.trees) is.schema is.sound).obeys in
    all_both _ _ IsQueueRow (queue_row db.trees) (db.trees 9) (obeys.rules Datatype).1.1.1.1.1.0 (obeys.rules NotNull).1.1.1.1.1.0

-- an arrival has two texts too, of which the second is the uid
arrival_row : (db : Trees) (row : Row) → passes Datatype tables db arrival_table row ≡ true → passes NotNull tables db arrival_table row ≡ true → IsQueueRow row
arrival_row db [] typed there = absurd cc
arrival_row db (id ∷ []) typed there = absurd cc
arrival_row db (id ∷ a ∷ []) typed there = let h = both (not (is_null a)) _ there in absurd (let e = h.1 in cc)
arrival_row db (id ∷ a ∷ b ∷ rest) typed there =
    let t1 = both (is_of kind.Text a) _ (both _ true typed).0 in
    let t2 = both (is_of kind.Text b) _ t1.1 in
    let n1 = both (not (is_null a)) _ there in
    let n2 = both (not (is_null b)) _ n1.1 in
    let caller = a_text a t1.0 n1.0 in
    let uid = a_text b t2.0 n2.0 in
    record { at = (caller.0, uid.0); uid = caller.1; dest = uid.1 }

pub arrival_rows : (db : Database) → IsLedger db → AllByRecursion IsQueueRow (db.trees 5)
arrival_rows db is =
    let obeys = (subst (λ s. IsSound s db.trees) is.schema is.sound).obeys in
    all_both _ _ IsQueueRow (arrival_row db.trees) (db.trees 5) (obeys.rules Datatype).1.1.1.0 (obeys.rules NotNull).1.1.1.0

pub queue_apart : (db : Database) → IsLedger db → maps.AreApart entry_in (db.trees 9)
queue_apart db is =
    let obeys = (subst (λ s. IsSound s db.trees) is.schema is.sound).obeys in
    apart_in HasPair pair_clash (λ row. (entry_in row).0) pair_of pair_clashing (db.trees 9) is.queue
    (all_weaker IsQueueRow (λ row. (k : Pair) × HasPair row k) (λ row h. (h.at, (h.uid, h.dest))) (db.trees 9) (queue_rows db is)) (obeys.rules Unique).1.1.1.1.1.0

abbrev pub has_key : Row → Row → Bool
has_key params row = list_all (holds (params ∷ row ∷ [])) by_key

-- WHERE uid = ?1 AND dest = ?2 finds the row of that pair
key_hits : (k : Pair) (more : Row) (row : Row) → IsQueueRow row → maps.Hits entry_in (has_key (Text k.0 ∷ Text k.1 ∷ more)) k row
key_hits k more row is =
    let e = is.at in
    let test : has_key (Text k.0 ∷ Text k.1 ∷ more) row ≡ (is_eq (slice_cmp nat_cmp e.0 k.0) && (is_eq (slice_cmp nat_cmp e.1 k.1) && true)) = rw (is.uid, is.dest, same_text e.0 k.0, same_text e.1 k.1) in (
      λ hit.
          let parts = both (is_eq (slice_cmp nat_cmp e.0 k.0)) _ (sym test ∙ hit) in
          let more = both (is_eq (slice_cmp nat_cmp e.1 k.1)) true parts.1 in
          key_of row is ∙ (λ i. (exact_bytes e.0 k.0 (maps.equal _ parts.0) i, exact_bytes e.1 k.1 (maps.equal _ more.0) i)),
      λ same.
          let at : e ≡ k = sym (key_of row is) ∙ same in
          test ∙ ap (λ (x : Pair). is_eq (slice_cmp nat_cmp x.0 k.0) && (is_eq (slice_cmp nat_cmp x.1 k.1) && true)) at ∙ rw (tied_itself nat_list_cmp_total k.0, tied_itself nat_list_cmp_total k.1),
    )

pub all_hit : (k : Pair) (more : Row) (rows : List Row) → AllByRecursion IsQueueRow rows → AllByRecursion (maps.Hits entry_in (has_key (Text k.0 ∷ Text k.1 ∷ more)) k) rows
all_hit k more = all_weaker IsQueueRow _ (key_hits k more)

-- ---- the rows of item and print, with all their cells

-- its columns, all of their types
pub record IsItemRow (row : Row) : Type 0 where
  pub uid : List ℕ
  pub class : List ℕ
  pub syntax : List ℕ
  pub modality : List ℕ
  pub station : List ℕ
  pub body : List ℕ
  pub uid_is : column row 1 ≡ Text uid
  pub class_is : column row 2 ≡ Text class
  pub syntax_is : column row 3 ≡ Text syntax
  pub modality_is : column row 4 ≡ Blob modality
  pub station_is : column row 5 ≡ Blob station
  pub body_is : column row 6 ≡ Blob body

item_row : (db : Trees) (row : Row) → passes Datatype tables db item_table row ≡ true → passes NotNull tables db item_table row ≡ true → IsItemRow row
item_row db [] typed there = absurd cc
item_row db (id ∷ []) typed there = absurd cc
item_row db (id ∷ a ∷ []) typed there = let h = both (not (is_null a)) _ there in absurd (let e = h.1 in cc)
item_row db (id ∷ a ∷ b ∷ []) typed there = let h = both (not (is_null b)) _ (both (not (is_null a)) _ there).1 in absurd (let e = h.1 in cc)
item_row db (id ∷ a ∷ b ∷ c ∷ []) typed there = let h = both (not (is_null c)) _ (both (not (is_null b)) _ (both (not (is_null a)) _ there).1).1 in absurd (let e = h.1 in cc)
item_row db (id ∷ a ∷ b ∷ c ∷ d ∷ []) typed there =
    let h = both (not (is_null d)) _ (both (not (is_null c)) _ (both (not (is_null b)) _ (both (not (is_null a)) _ there).1).1).1 in absurd (let e = h.1 in cc)
item_row db (id ∷ a ∷ b ∷ c ∷ d ∷ e ∷ []) typed there =
    let h = both (not (is_null e)) _ (both (not (is_null d)) _ (both (not (is_null c)) _ (both (not (is_null b)) _ (both (not (is_null a)) _ there).1).1).1).1 in absurd (let e = h.1 in cc)
item_row db (id ∷ a ∷ b ∷ c ∷ d ∷ e ∷ f ∷ rest) typed there =
    let t1 = both (is_of kind.Text a) _ (both _ true typed).0 in
    let t2 = both (is_of kind.Text b) _ t1.1 in
    let t3 = both (is_of kind.Text c) _ t2.1 in
    let t4 = both (is_of kind.Blob d) _ t3.1 in
    let t5 = both (is_of kind.Blob e) _ t4.1 in
    let t6 = both (is_of kind.Blob f) _ t5.1 in
    let n1 = both (not (is_null a)) _ there in
    let n2 = both (not (is_null b)) _ n1.1 in
    let n3 = both (not (is_null c)) _ n2.1 in
    let n4 = both (not (is_null d)) _ n3.1 in
    let n5 = both (not (is_null e)) _ n4.1 in
    let n6 = both (not (is_null f)) _ n5.1 in
    let v1 = a_text a t1.0 n1.0 in
    let v2 = a_text b t2.0 n2.0 in
    let v3 = a_text c t3.0 n3.0 in
    let v4 = a_blob d t4.0 n4.0 in
    let v5 = a_blob e t5.0 n5.0 in
    let v6 = a_blob f t6.0 n6.0 in
    record { uid = v1.0; class = v2.0; syntax = v3.0; modality = v4.0; station = v5.0; body = v6.0; uid_is = v1.1; class_is = v2.1; syntax_is = v3.1; modality_is = v4.1; station_is = v5.1; body_is = v6.1 }

pub item_rows : (db : Database) → IsLedger db → AllByRecursion IsItemRow (db.trees 1)
item_rows db is =
    let obeys = (subst (λ s. IsSound s db.trees) is.schema is.sound).obeys in
    all_both _ _ IsItemRow (item_row db.trees) (db.trees 1) (obeys.rules Datatype).1.0 (obeys.rules NotNull).1.0

pub item_uids : (db : Database) → IsLedger db → AllByRecursion IsUidRow (db.trees 1)
item_uids db is = all_weaker IsItemRow IsUidRow (λ row h. (h.uid, h.uid_is)) (db.trees 1) (item_rows db is)

pub items_apart : (db : Database) → IsLedger db → maps.AreApart content_in (db.trees 1)
items_apart db is =
    let obeys = (subst (λ s. IsSound s db.trees) is.schema is.sound).obeys in
    apart_in HasText uid_clash (λ row. (content_in row).0) uid_of uid_clashing (db.trees 1) is.items (item_uids db is) (obeys.rules Unique).1.0

pub record IsPrintRow (row : Row) : Type 0 where
  pub uid : List ℕ
  pub size : ℤ
  pub digest : List ℕ
  pub whole : ℤ
  pub uid_is : column row 1 ≡ Text uid
  pub size_is : column row 2 ≡ Int size
  pub digest_is : column row 3 ≡ Blob digest
  pub whole_is : column row 4 ≡ Int whole

print_row : (db : Trees) (row : Row) → passes Datatype tables db print_table row ≡ true → passes NotNull tables db print_table row ≡ true → IsPrintRow row
print_row db [] typed there = absurd cc
print_row db (id ∷ []) typed there = absurd cc
print_row db (id ∷ a ∷ []) typed there = let h = both (not (is_null a)) _ there in absurd (let e = h.1 in cc)
print_row db (id ∷ a ∷ b ∷ []) typed there = let h = both (not (is_null b)) _ (both (not (is_null a)) _ there).1 in absurd (let e = h.1 in cc)
print_row db (id ∷ a ∷ b ∷ c ∷ []) typed there = let h = both (not (is_null c)) _ (both (not (is_null b)) _ (both (not (is_null a)) _ there).1).1 in absurd (let e = h.1 in cc)
print_row db (id ∷ a ∷ b ∷ c ∷ d ∷ rest) typed there =
    let t1 = both (is_of kind.Text a) _ (both _ true typed).0 in
    let t2 = both (is_of kind.Integer b) _ t1.1 in
    let t3 = both (is_of kind.Blob c) _ t2.1 in
    let t4 = both (is_of kind.Integer d) _ t3.1 in
    let n1 = both (not (is_null a)) _ there in
    let n2 = both (not (is_null b)) _ n1.1 in
    let n3 = both (not (is_null c)) _ n2.1 in
    let n4 = both (not (is_null d)) _ n3.1 in
    let v1 = a_text a t1.0 n1.0 in
    let v2 = a_number b t2.0 n2.0 in
    let v3 = a_blob c t3.0 n3.0 in
    let v4 = a_number d t4.0 n4.0 in
    record { uid = v1.0; size = v2.0; digest = v3.0; whole = v4.0; uid_is = v1.1; size_is = v2.1; digest_is = v3.1; whole_is = v4.1 }

pub print_rows : (db : Database) → IsLedger db → AllByRecursion IsPrintRow (db.trees 3)
print_rows db is =
    let obeys = (subst (λ s. IsSound s db.trees) is.schema is.sound).obeys in
    all_both _ _ IsPrintRow (print_row db.trees) (db.trees 3) (obeys.rules Datatype).1.1.0 (obeys.rules NotNull).1.1.0

pub print_uids : (db : Database) → IsLedger db → AllByRecursion IsUidRow (db.trees 3)
print_uids db is = all_weaker IsPrintRow IsUidRow (λ row h. (h.uid, h.uid_is)) (db.trees 3) (print_rows db is)

pub prints_apart : (db : Database) → IsLedger db → maps.AreApart whole_in (db.trees 3)
prints_apart db is =
    let obeys = (subst (λ s. IsSound s db.trees) is.schema is.sound).obeys in
    apart_in HasText uid_clash (λ row. (content_in row).0) uid_of uid_clashing (db.trees 3) is.prints (print_uids db is) (obeys.rules Unique).1.1.0
