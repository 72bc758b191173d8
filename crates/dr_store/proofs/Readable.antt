-- Which data sets can be read.
use Rattle.std.proofs.Common.{◌≡◌, ◌≢◌, ◌⊎◌, ◌∙◌, inl, inr, ℕ, List, length, Option, Some, None, refl, sym, ap, subst}
use Rattle.std.specs.FinMap as map
use Rattle.sha2.specs.Sha256.{sha256}
use Rattle.sqlite.specs.Tree.{Trees}
use Rattle.dr_base.specs.Texts.{Text}
use Rattle.dr_ledger.specs.declared.content.Job.{Job}
use Rattle.dr_ledger.specs.declared.item.Instance.{Instance}
use Rattle.dr_ledger.specs.Items.{IsItem, instance_of}
use Rattle.dr_ledger.proofs.Growing.{inside}
use Rattle.dr_store_schema.specs.Books.{bodies_of, items_of}
use Rattle.dr_store.specs.DataSets.{IsDataSetOf}
use Rattle.dr_store.specs.Owning.{AllThatStandAreThere, BodiesAreWhatIsRead, ItsOwnIsThere, OtherBytesAreNotThere, OtherItemsAreNotThere, bodies_with}
use Rattle.dr_store.specs.Standing.{is_read, its_own, read_is}
use Rattle.dr_store.proofs.Again.{its_own_item}

pub just : BodiesAreWhatIsRead
just read_of db uid body = (is_read read_of db uid body, read_is read_of db uid body)

pub own_is_there : ItsOwnIsThere
own_is_there read_of db uid cell item is there reads known = read_is read_of db uid item.body (record { cell = cell; there = there; reads = reads; item = item; is_item = is; same = refl; known = known })

pub all_there : (Stands : List ℕ → List ℕ → Type 0) (read_of : List ℕ → Option (List ℕ)) → ((cell bytes : List ℕ) → Stands cell bytes → read_of cell ≡ Some bytes) → AllThatStandAreThere Stands read_of
all_there Stands read_of reads db own has uid needed =
    let there = (has.there uid).1 needed in
    let it = own uid there.0 there.1 in
    (it.0.body, own_is_there read_of db uid there.0 it.0 it.1 there.1 (reads there.0 it.0.body it.2) it.3)

-- what isn't the instance's data set isn't there
none_there : (read_of : List ℕ → Option (List ℕ)) (db : Trees) (uid : Text) (cell bytes : List ℕ) (i : Instance) → map.get (bodies_of db) uid ≡ Some cell → read_of cell ≡ Some bytes → map.get (items_of db) uid ≡ Some i → (IsDataSetOf i bytes → ⊥) → map.get (bodies_with read_of db) uid ≡ None
none_there read_of db uid cell bytes i there reads known never = go (map.get (bodies_with read_of db) uid) refl
  where
    go : (o : Option (List ℕ)) → map.get (bodies_with read_of db) uid ≡ o → map.get (bodies_with read_of db) uid ≡ None
    go None is = is
    go (Some body) is =
        let it = is_read read_of db uid body is in
        let same_cell : it.cell ≡ cell = inside it.cell cell (sym it.there ∙ there) in
        let same_body : body ≡ bytes = inside body bytes (sym it.reads ∙ ap read_of same_cell ∙ reads) in
        let same : instance_of it.item ≡ i = inside (instance_of it.item) i (sym it.known ∙ known) in
        let own : IsDataSetOf (instance_of it.item) bytes = subst (IsDataSetOf (instance_of it.item)) (it.same ∙ same_body) (its_own it.item it.is_item) in
        absurd (never (subst (λ k. IsDataSetOf k bytes) same own))

pub other_bytes : OtherBytesAreNotThere
other_bytes read_of db uid cell bytes i there reads known differ = none_there read_of db uid cell bytes i there reads known (λ own. elim differ [ inl size ↦ size own.size | inr digest ↦ digest own.digest ])

pub other_items : OtherItemsAreNotThere
other_items read_of db uid cell i item is there reads known syntax differ =
    let never : IsDataSetOf i item.body → ⊥ = λ own.
    let it = its_own_item item i is syntax own in
    elim differ [ inl uid ↦ uid it.0 | inr key ↦ key it.1 ] in
    none_there read_of db uid cell item.body i there reads known never
