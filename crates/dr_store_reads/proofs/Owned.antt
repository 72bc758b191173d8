-- Whose ledger it is, as the query of site shows it.
use Rattle.std.proofs.Common.{◌≡◌, ℕ, pos, List, [], ◌∷◌, map, length, slice_get, true, not, Option, Some, None, refl, sym, ap, subst, ◌∙◌, arith}
use Rattle.std.specs.List.{AllByRecursion}
use Rattle.std.specs.List.Sorted.{IsPermutation}
use Rattle.std.proofs.lemmas.List.Sorted.{IsPermutation-sym}
use Rattle.sqlite.specs.declared.types.Value.{Value}
use Rattle.sqlite.specs.declared.types.Value.TheVariants.{Null, Int, Real, Text as TextCell, Blob}
use Rattle.sqlite.specs.Effect.{Database}
use Rattle.sqlite.specs.Kind.TheVariants as kind
use Rattle.sqlite.specs.Order.{Row, column}
use Rattle.sqlite.specs.Program.{overlay}
use Rattle.sqlite.specs.Query.{IsAnswer}
use Rattle.sqlite.specs.State.{State, Shown}
use Rattle.sqlite.specs.Tree.{Trees}
use Rattle.sqlite.proofs.Callers.{one_permutation, reads_as}
use Rattle.sqlite_catalog.specs.Listing.{IsSound}
use Rattle.sqlite_schema.specs.Rules.{is_of, passes}
use Rattle.sqlite_schema.specs.declared.schema.Constraint.TheVariants.{Datatype, NotNull}
use Rattle.sqlite_sql.specs.Ops.{is_null}
use Rattle.dr_store_schema.specs.Cells.{bytes_in, text_in}
use Rattle.dr_store_schema.specs.Ledgers.{IsLedger}
use Rattle.dr_store_schema.specs.Statements as text
use Rattle.dr_store_schema.specs.Tables.{site_table, tables}
use Rattle.sqlite_trees.proofs.ListLemmas.{all_of, filter_all}
use Rattle.dr_store_writes.specs.Effects.{site_row}
use Rattle.dr_store_writes.proofs.Commands.{over}
use Rattle.dr_store_writes.proofs.Updated.{hits}
use Rattle.dr_store_writes.proofs.Keys.{a_blob, a_text, all_both, both}
use Rattle.dr_store_reads.specs.Queries.{IsOwnerAsShown, IsOwnerIn, IsOwnerOf, IsOwnerRow}
use Rattle.dr_store_reads.specs.declared.finding.Owner.{Owner}
use Rattle.dr_store_reads.proofs.Points.{all_found}
use Rattle.dr_store_reads.proofs.Selects as select

-- ---- the one row of an answer

same_some : {A : Type 0} {x y : A} → Some x ≡ Some y → x ≡ y
same_some e = cc

same_first : {A : Type 0} {x y : A} → x ∷ [] ≡ y ∷ [] → x ≡ y
same_first e = cc

pub one_row : (rows : List Row) (row : Row) → length rows ≡ 1 → Some row ≡ slice_get rows 0 → rows ≡ row ∷ []
one_row [] row n e = absurd (omega (arith, n))
one_row (r ∷ []) row n e = ap (λ x. x ∷ []) (sym (same_some e))
one_row (r ∷ s ∷ rows) row n e = absurd (omega (arith, n))

pub owner_of_row : (rows : List Row) (row : Row) → rows ≡ row ∷ [] → (found : Option Owner) → IsOwnerIn row found → IsOwnerAsShown rows found
owner_of_row rows row one None h = λ other owner is r. h owner (subst (λ x. IsOwnerRow x owner) (same_first (sym is ∙ one)) r)
owner_of_row rows row one (Some owner) h = (row, one, h)

-- ---- the rows of site

-- its columns, all of their types
record IsSiteRow (row : Row) : Type 0 where
  id : Value
  node : List ℕ
  plan : List ℕ
  is : row ≡ id ∷ Null ∷ TextCell node ∷ Blob plan ∷ []

null_alone : (v : Value) → is_null v ≡ true → v ≡ Null
null_alone Null h = refl
null_alone (Int n) h = absurd cc
null_alone (Real x) h = absurd cc
null_alone (TextCell t) h = absurd cc
null_alone (Blob b) h = absurd cc

a_site_row : (db : Trees) (row : Row) → passes Datatype tables db site_table row ≡ true → passes NotNull tables db site_table row ≡ true → IsSiteRow row
a_site_row db [] typed there = absurd cc
a_site_row db (id ∷ []) typed there = absurd cc
a_site_row db (id ∷ a ∷ []) typed there = absurd cc
a_site_row db (id ∷ a ∷ b ∷ []) typed there = let h = both (not (is_null b)) _ there in absurd (let e = h.1 in cc)
a_site_row db (id ∷ a ∷ b ∷ c ∷ []) typed there =
    let t1 = both (is_null a) _ (both _ true typed).0 in
    let t2 = both (is_of kind.Text b) _ t1.1 in
    let t3 = both (is_of kind.Blob c) _ t2.1 in
    let n2 = both (not (is_null b)) _ there in
    let n3 = both (not (is_null c)) _ n2.1 in
    let node = a_text b t2.0 n2.0 in
    let plan = a_blob c t3.0 n3.0 in
    record { id = id; node = node.0; plan = plan.0; is = λ i. id ∷ null_alone a t1.0 i ∷ node.1 i ∷ plan.1 i ∷ [] }
a_site_row db (id ∷ a ∷ b ∷ c ∷ d ∷ rest) typed there =
    let t1 = both (is_null a) _ (both _ true typed).0 in
    let t2 = both (is_of kind.Text b) _ t1.1 in
    let t3 = both (is_of kind.Blob c) _ t2.1 in
    absurd (let e = t3.1 in cc)

site_rows : (db : Database) → IsLedger db → AllByRecursion IsSiteRow (db.trees 0)
site_rows db is =
    let obeys = (subst (λ s. IsSound s db.trees) is.schema is.sound).obeys in
    all_both _ _ IsSiteRow (a_site_row db.trees) (db.trees 0) (obeys.rules Datatype).0 (obeys.rules NotNull).0

abbrev site_shown : Row → Row
site_shown r = column r 0 ∷ column r 2 ∷ column r 3 ∷ []

the_one : (table : List Row) → AllByRecursion IsSiteRow table → (row : Row) → map site_shown table ≡ row ∷ [] → (owner : Owner) → IsOwnerRow row owner → table ≡ site_row owner.node owner.plan ∷ []
the_one [] all row e owner is = absurd cc
the_one (r ∷ []) all row e owner is =
    let it = all.0 in
    let cells : row ≡ it.id ∷ TextCell it.node ∷ Blob it.plan ∷ [] = sym (same_first e) ∙ ap site_shown it.is in
    let id : it.id ≡ Int (pos 1) = sym (ap (λ x. column x 0) cells) ∙ is.id in
    let node : it.node ≡ owner.node = ap text_in (sym (ap (λ x. column x 1) cells) ∙ is.node) in
    let plan : it.plan ≡ owner.plan = ap bytes_in (sym (ap (λ x. column x 2) cells) ∙ is.plan) in
    ap (λ x. x ∷ []) (it.is ∙ (λ i. id i ∷ Null ∷ TextCell (node i) ∷ Blob (plan i) ∷ []))
the_one (r ∷ s ∷ table) all row e owner is = absurd cc

pub owner_found : (old new : State) (rows : List Row) → IsLedger old.now → Shown text.the_site [] old new rows → (found : Option Owner) → IsOwnerAsShown rows found → IsOwnerOf old.now.trees found
owner_found old new rows has h found is = go found is
  where
    same : IsPermutation (map site_shown (old.now.trees 0)) rows
    same =
        let answer : IsAnswer (over 0 [] select.site_shown) (overlay old.now.trees []) [] rows =
        (reads_as text.the_site [] old new tables has.schema _ select.the_site.command select.the_site.plain select.the_site.listing rows h).answer Null in
        subst (λ t. IsPermutation (map site_shown t) rows) (filter_all (hits [] []) (old.now.trees 0) (all_of (λ r. hits [] [] r ≡ true) (λ r. refl) (old.now.trees 0)))
        (all_found 0 [] select.site_shown old.now.trees [] rows answer answer.grouped)

    go : (found : Option Owner) → IsOwnerAsShown rows found → IsOwnerOf old.now.trees found
    go None none = λ node plan it.
        let shown : Row = Int (pos 1) ∷ TextCell node ∷ Blob plan ∷ [] in
        let one : rows ≡ shown ∷ [] = one_permutation shown rows (subst (λ t. IsPermutation (map site_shown t) rows) it same) in
        none shown (record { node = node; plan = plan }) one (record { id = refl; node = refl; plan = refl })
    go (Some owner) one =
        the_one (old.now.trees 0) (site_rows old.now has) one.0
        (one_permutation one.0 (map site_shown (old.now.trees 0)) (subst (λ rs. IsPermutation rs (map site_shown (old.now.trees 0))) one.1 (IsPermutation-sym _ _ same))) owner one.2
