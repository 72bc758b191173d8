-- Bytes that are read again as the data set of an instance.
use Rattle.std.proofs.Common.{◌≡◌, ◌≢◌, ◌∙◌, ℕ, List, length, Option, Some, None, Result, Ok, Err, refl, sym, ap, subst}
use Rattle.sha2.specs.Sha256.{sha256}
use Rattle.dr_ledger.specs.declared.content.ItemFault.{ItemFault}
use Rattle.dr_ledger.specs.declared.content.ItemFault.TheVariants.{Memory}
use Rattle.dr_ledger.specs.declared.content.Job.{Job}
use Rattle.dr_ledger.specs.declared.content.NextRow.{NextRow}
use Rattle.dr_ledger.specs.declared.content.NextRow.TheVariants.{Whole, Unreadable}
use Rattle.dr_ledger.specs.declared.fault.LedgerFault.{LedgerFault}
use Rattle.dr_ledger.specs.declared.fault.LedgerFault.TheVariants as fault
use Rattle.dr_ledger.specs.declared.item.Instance.{Instance}
use Rattle.dr_ledger.specs.Items.{IsItem, ReadsItem}
use Rattle.dr_ledger.specs.Replies.{Reads}
use Rattle.dr_ledger.proofs.Growing.{inside}
use Rattle.dr_ledger.proofs.Reading.{items_are_one}
use Rattle.dr_store.specs.declared.due.DueRow.{DueRow}
use Rattle.dr_store.specs.DataSets.{IsDataSetOf, job_with}
use Rattle.dr_store.specs.Reading.{IsHandedOut, IsReadAgain}

-- the item is the one of the instance
abbrev pub IsItsOwn : Job → Instance → Type 0
IsItsOwn item i = (item.uid ≡ i.uid) × (item.key ≡ i.key) × (length item.body ≡ i.size) × (sha256 item.body ≡ i.digest)

pub is_again : (item job : Job) (i : Instance) → IsItem item → job ≡ item → IsItsOwn item i → IsReadAgain i item.body (Whole job)
is_again item job i is same it =
    let own : item ≡ job_with i item.body = λ j. record { uid = it.0 j; key = it.1 j; body = item.body } in
    (same ∙ own, record { item = subst IsItem own is; size = it.2; digest = it.3 })

no_fault : (x : Job) → ◌≢◌ {A = Result Job ItemFault} (Ok x) (Err Memory)
no_fault x e = cc

same_item : (x y : Job) → ◌≡◌ {A = Result Job ItemFault} (Ok x) (Ok y) → x ≡ y
same_item x y e = cc

not_both : (f : ItemFault) (x : Job) → ◌≡◌ {A = Result Job ItemFault} (Err f) (Ok x) → ⊥
not_both f x e = cc

not_memory : (f : ItemFault) → f ≢ Memory → ◌≢◌ {A = Result Job ItemFault} (Err f) (Err Memory)
not_memory f other e = other cc

-- bytes are read as one item
pub one_item : (item : Job) (i : Instance) → IsItem item → item.key.syntax ≡ i.key.syntax → IsDataSetOf i item.body → item ≡ job_with i item.body
one_item item i is syntax own =
    let job : Job = job_with i item.body in
    same_item item job (items_are_one item.key.syntax item.body (Ok item) (Ok job) (no_fault item) (no_fault job) (is, refl, refl) (own.item, sym syntax, refl))

pub its_own_item : (item : Job) (i : Instance) → IsItem item → item.key.syntax ≡ i.key.syntax → IsDataSetOf i item.body → IsItsOwn item i
its_own_item item i is syntax own =
    let same = one_item item i is syntax own in
    (ap (λ (j : Job). j.uid) same, ap (λ (j : Job). j.key) same, own.size, own.digest)

-- bytes that aren't read as an item are no data set
pub no_item : (i : Instance) (bytes : List ℕ) (f : ItemFault) → ReadsItem i.key.syntax bytes (Err f) → f ≢ Memory → IsDataSetOf i bytes → ⊥
no_item i bytes f reads other own =
    let job : Job = job_with i bytes in
    not_both f job (items_are_one i.key.syntax bytes (Err f) (Ok job) (not_memory f other) (no_fault job) reads (own.item, refl, refl))

-- ---- what is handed out

pub handed_out : (read_of : List ℕ → Option (List ℕ)) (due : DueRow) (got : List ℕ) (row : NextRow) → read_of due.cell ≡ Some got → IsReadAgain due.instance got row → IsHandedOut read_of due row
handed_out read_of due got (Whole job) reads again =
    let body : job.body ≡ got = ap (λ (j : Job). j.body) again.0 in (
      again.0 ∙ ap (job_with due.instance) (sym body),
      reads ∙ ap Some (sym body),
      subst (IsDataSetOf due.instance) (sym body) again.1,
    )
handed_out read_of due got (Unreadable uid) reads again = (again.0, λ bytes is own. again.1 (subst (IsDataSetOf due.instance) (inside bytes got (sym is ∙ reads)) own))

pub none_handed_out : (read_of : List ℕ → Option (List ℕ)) (due : DueRow) (row : NextRow) → read_of due.cell ≡ None → row ≡ Unreadable due.instance.uid → IsHandedOut read_of due row
none_handed_out read_of due row none is =
    subst (IsHandedOut read_of due) (sym is) (refl, λ bytes reads own. let e : None ≡ Some bytes = sym none ∙ reads in (let f : ⊥ = cc in f))

-- ---- answers

-- a failed answer says the same of anything
pub err_reads : {A B : Type 0} (e : LedgerFault) (P : A → Type 0) (Q : B → Type 0) → Reads (Err e) P → Reads (Err e) Q
err_reads fault.Store P Q it = tt
err_reads fault.Memory P Q it = tt
err_reads fault.NoLine P Q it = it
err_reads fault.Conflict P Q it = it
err_reads fault.NotWaiting P Q it = it
err_reads fault.NotHeld P Q it = it
err_reads fault.NotOver P Q it = it
