-- What is due, with its data set.
use Rattle.std.proofs.Common.{◌≡◌, ◌≢◌, ◌⊎◌, inl, inr, ℕ, length, Bool, true, false, cond, List, Option, Some, None, is_some, refl, sym, ap, subst, ◌∙◌}
use Rattle.std.specs.Prelude.{◌↔◌, IsTrue}
use Rattle.std.specs.FinMap as map
use Rattle.sha2.specs.Sha256.{sha256}
use Rattle.sqlite.specs.Tree.{Trees}
use Rattle.dr_base.specs.Texts.{Text}
use Rattle.dr_ledger.specs.declared.content.Job.{Job}
use Rattle.dr_ledger.specs.declared.content.NextRow.{NextRow}
use Rattle.dr_ledger.specs.declared.content.NextRow.TheVariants.{Whole, Unreadable}
use Rattle.dr_ledger.specs.declared.item.Instance.{Instance}
use Rattle.dr_ledger.specs.declared.item.Progress.TheVariants.{Waiting}
use Rattle.dr_ledger.specs.Bodies.{IsNeeded, IsThere, NextsWith}
use Rattle.dr_ledger.specs.Items.{IsItem, instance_of}
use Rattle.dr_ledger.specs.Replies.{IsNext}
use Rattle.dr_ledger.proofs.Growing.{inside}
use Rattle.dr_store_schema.specs.Books.{bodies_of, book_of, contents_in, instance_by, is_whole, items_of, print_or_none, prints_of, wholes_in}
use Rattle.dr_store_changes.specs.Bringing.{HasCells}
use Rattle.dr_store_changes.proofs.LettingGo.{body_at}
use Rattle.dr_store_reads.specs.declared.finding.Print.{Print}
use Rattle.dr_store_reads.specs.Queries.{IsFirstDue, IsJobOf, IsPrintOf}
use Rattle.dr_store.specs.declared.due.DueRow.{DueRow}
use Rattle.dr_store.specs.DataSets.{IsDataSetOf, job_with}
use Rattle.dr_store.specs.Owning.{AreUsed, bodies_with}
use Rattle.dr_store.specs.Reading.{IsHandedOut, IsRowOf, IsTold, IsToldOf, IsWholeRow, NextsRead, TellsWhereNeeded}
use Rattle.dr_store.specs.Standing.{is_read, its_own, read_is}

the_body : (w : Bool) (o : Option (List ℕ)) (body content : List ℕ) → o ≡ Some content → cond w o None ≡ Some body → body ≡ content
the_body true o body content is h = inside body content (sym h ∙ is)
the_body false o body content is h = absurd (let f : ⊥ = cc in f)

-- what was found of a job, with its print
pub row_is : (db : Trees) (uid : Text) (job : Job) (print : Print) (due : DueRow) → IsPrintOf uid db (Some print) → IsJobOf uid db (Some job)
    → due.instance.uid ≡ job.uid → due.instance.key ≡ job.key → due.instance.size ≡ print.size → due.instance.digest ≡ print.digest → due.cell ≡ job.body → IsRowOf uid db due
row_is db uid job print due (printed, whole) (uid_is, has, content) same_uid same_key size digest cell =
    let known : Instance = instance_by (prints_of db) uid job.key in
    let size_is : due.instance.size ≡ known.size = size ∙ sym (ap (λ o. (print_or_none o).0) printed) in
    let digest_is : due.instance.digest ≡ known.digest = digest ∙ sym (ap (λ o. (print_or_none o).1) printed) in
    let uid_too : due.instance.uid ≡ uid = same_uid ∙ uid_is in
    let same : due.instance ≡ known = λ i. record { uid = uid_too i; key = same_key i; size = size_is i; digest = digest_is i } in
    (uid_too, has ∙ ap Some (sym same), content ∙ ap Some (sym cell))

module _ (Uses : List ℕ → Type 0) (read_of : List ℕ → Option (List ℕ)) (db : Trees) (dest : Text) (now : ℕ) (cells : HasCells (book_of db) (bodies_of db)) (used : AreUsed Uses (bodies_of db)) where
  module _ (due : DueRow) (first : IsFirstDue db dest now (Some due.instance.uid)) (row : IsRowOf due.instance.uid db due) where
    -- what stands in its row is its cell
    cell_is : map.get (bodies_of db) due.instance.uid ≡ Some due.cell
    cell_is =
        let uid = due.instance.uid in
        let waits = first.1.0 in
        let needed : IsNeeded (book_of db) uid = inr (dest, Waiting waits.0 first.0, waits.1, refl) in
        let there = (cells.there uid).1 needed in
        there.1 ∙ ap Some (the_body (is_whole (map.get (wholes_in (db 3)) uid)) (map.get (contents_in (db 1)) uid) there.0 due.cell row.2 (sym (body_at (contents_in (db 1)) (wholes_in (db 3)) uid) ∙ there.1))

    next_is : IsNext (book_of db) dest now due.instance
    next_is = record { due = first.0; row = first.1; has = row.1; least = first.2 }

    whole : (job : Job) → IsHandedOut read_of due (Whole job) → NextsWith (book_of db) (bodies_with read_of db) dest now (Some (Whole job))
    whole job (same, reads, own) =
        let uid_is : job.uid ≡ due.instance.uid = ap (λ (j : Job). j.uid) same in
        let key_is : job.key ≡ due.instance.key = ap (λ (j : Job). j.key) same in
        let known : instance_of job ≡ due.instance = λ i. record { uid = uid_is i; key = key_is i; size = own.size i; digest = own.digest i } in (
          subst (IsNext (book_of db) dest now) (sym known) next_is,
          ap (map.get (bodies_with read_of db)) uid_is
              ∙ read_is read_of db due.instance.uid job.body (record {
                cell = due.cell;
                there = cell_is;
                reads = reads;
                item = job;
                is_item = subst IsItem (sym same) own.item;
                same = refl;
                known = row.1 ∙ ap Some (sym known);
              }),
        )

    none_there : ((bytes : List ℕ) → read_of due.cell ≡ Some bytes → IsDataSetOf due.instance bytes → ⊥) → map.get (bodies_with read_of db) due.instance.uid ≡ None
    none_there never = go (map.get (bodies_with read_of db) due.instance.uid) refl
      where
        go : (o : Option (List ℕ)) → map.get (bodies_with read_of db) due.instance.uid ≡ o → map.get (bodies_with read_of db) due.instance.uid ≡ None
        go None is = is
        go (Some body) is =
            let it = is_read read_of db due.instance.uid body is in
            let cell : it.cell ≡ due.cell = inside it.cell due.cell (sym it.there ∙ cell_is) in
            let known : instance_of it.item ≡ due.instance = inside (instance_of it.item) due.instance (sym it.known ∙ row.1) in
            absurd (never body (ap read_of (sym cell) ∙ it.reads) (subst (λ i. IsDataSetOf i body) known (subst (IsDataSetOf (instance_of it.item)) it.same (its_own it.item it.is_item))))

    unreadable : (uid : Text) → IsHandedOut read_of due (Unreadable uid) → NextsWith (book_of db) (bodies_with read_of db) dest now (Some (Unreadable uid))
    unreadable uid (same, never) = (due.instance, sym same, next_is, ap (map.get (bodies_with read_of db)) same ∙ none_there never)

  -- what was found in its row, and read by its cell, is the next instance with its data set, or that can't be read
  pub next_of : (row : Option NextRow) → NextsRead Uses read_of db dest now row → NextsWith (book_of db) (bodies_with read_of db) dest now row
  next_of None none = none
  next_of (Some (Whole job)) (due, found, by) = whole due found.0 found.1 job (by (used due.instance.uid due.cell (cell_is due found.0 found.1)))
  next_of (Some (Unreadable uid)) (due, found, by) = unreadable due found.0 found.1 uid (by (used due.instance.uid due.cell (cell_is due found.0 found.1)))

-- a row is handed out with its data set just where that can be read
pub told_by : (read_of : List ℕ → Option (List ℕ)) (due : DueRow) (row : NextRow) (told : Bool) → IsWholeRow row told → IsHandedOut read_of due row → IsTold read_of due told
told_by read_of due (Whole job) told is (same, reads, own) = subst (IsTold read_of due) (sym is) (job.body, reads, own)
told_by read_of due (Unreadable uid) told is (same, never) = subst (IsTold read_of due) (sym is) never

module _ (Uses : List ℕ → Type 0) (read_of : List ℕ → Option (List ℕ)) (db : Trees) (uid : Text) (cells : HasCells (book_of db) (bodies_of db)) (used : AreUsed Uses (bodies_of db)) where
  -- what was told of the instance is told of its data set, where that is needed
  pub told_where_needed : (told : Bool) → IsToldOf Uses read_of db uid told → TellsWhereNeeded read_of db uid told
  told_where_needed told (due, row, by) needed = by_told told (by (used uid due.cell there))
    where
      has : (cell : List ℕ) × (map.get (bodies_of db) uid ≡ Some cell)
      has = (cells.there uid).1 needed

      there : map.get (bodies_of db) uid ≡ Some due.cell
      there = has.1 ∙ ap Some (the_body (is_whole (map.get (wholes_in (db 3)) uid)) (map.get (contents_in (db 1)) uid) has.0 due.cell row.2 (sym (body_at (contents_in (db 1)) (wholes_in (db 3)) uid) ∙ has.1))

      yes_there : (bytes : List ℕ) → read_of due.cell ≡ Some bytes → IsDataSetOf due.instance bytes → map.get (bodies_with read_of db) uid ≡ Some bytes
      yes_there bytes reads own =
          let item : Job = job_with due.instance bytes in
          let known : instance_of item ≡ due.instance = λ i. record { uid = due.instance.uid; key = due.instance.key; size = own.size i; digest = own.digest i } in
          read_is read_of db uid bytes (record {
            cell = due.cell;
            there = there;
            reads = reads;
            item = item;
            is_item = own.item;
            same = refl;
            known = row.1 ∙ ap Some (sym known);
          })

      not_there : ((bytes : List ℕ) → read_of due.cell ≡ Some bytes → IsDataSetOf due.instance bytes → ⊥) → IsThere (bodies_with read_of db) uid → ⊥
      not_there never (body, is) =
          let it = is_read read_of db uid body is in
          let cell : it.cell ≡ due.cell = inside it.cell due.cell (sym it.there ∙ there) in
          let known : instance_of it.item ≡ due.instance = inside (instance_of it.item) due.instance (sym it.known ∙ row.1) in
          never body (ap read_of (sym cell) ∙ it.reads) (subst (λ i. IsDataSetOf i body) known (subst (IsDataSetOf (instance_of it.item)) it.same (its_own it.item it.is_item)))

      by_told : (told : Bool) → IsTold read_of due told → IsTrue told ↔ IsThere (bodies_with read_of db) uid
      by_told true (bytes, reads, own) = (λ t. (bytes, yes_there bytes reads own), λ h. refl)
      by_told false never = (λ t. absurd (let f : ⊥ = cc in f), λ h. absurd (not_there never h))

-- a cell is there just where its data set is needed
pub needed_told : (db : Trees) (uid : Text) (b : Bool) → HasCells (book_of db) (bodies_of db) → b ≡ map.contains_key (bodies_of db) uid → IsTrue b ↔ IsNeeded (book_of db) uid
needed_told db uid b has is = (λ t. (has.there uid).0 (some_of (map.get (bodies_of db) uid) (sym is ∙ t)), λ n. is ∙ ap is_some ((has.there uid).1 n).1)
  where
    some_of : (o : Option (List ℕ)) → is_some o ≡ true → (cell : List ℕ) × (o ≡ Some cell)
    some_of None h = absurd (let f : ⊥ = cc in f)
    some_of (Some cell) h = (cell, refl)
