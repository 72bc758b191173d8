-- Data sets that are read again, and what is read of them.
use Rattle.std.proofs.Common.{◌≡◌, ◌≢◌, ◌∙◌, Bool, false, true≢false, Some, None, Result, Ok, Err}
use Rattle.std.proofs.Common.{IsTrue, refl, sym, ap, subst}
use Rattle.std.specs.Prelude.{◌↔◌}
use Rattle.sqlite.specs.Tree.{Trees}
use Rattle.dr_base.specs.Texts.{Text}
use Rattle.dr_ledger.specs.declared.content.ItemFault.{ItemFault}
use Rattle.dr_ledger.specs.declared.content.ItemFault.TheVariants.{Memory}
use Rattle.dr_ledger.specs.declared.content.Job.{Job}
use Rattle.dr_ledger.specs.declared.item.Instance.{Instance}
use Rattle.dr_ledger.specs.Items.{IsItem, ReadsItem}
use Rattle.dr_ledger.proofs.Reading.{items_are_one}
use Rattle.dr_store_schema.specs.Books.{instance_by, prints_of}
use Rattle.dr_store_reads.specs.Queries.{IsJobOf}
use Rattle.dr_store_reads.specs.declared.finding.Print.{Print}
use Rattle.dr_store_open.specs.DataSets.{IsReadAs, IsSpelled}

inner : {X : Type 0} (x y : X) → Some x ≡ Some y → x ≡ y
inner x y e = cc

same_item : (r q : Result Job ItemFault) (x y : Job) → r ≡ Ok x → q ≡ Ok y → r ≡ q → x ≡ y
same_item r q x y one two e = cc

apart : (r q : Result Job ItemFault) (fault : ItemFault) (x : Job) → r ≡ Err fault → q ≡ Ok x
    → r ≡ q → ⊥
apart r q fault x one two e = cc

not_memory : (r : Result Job ItemFault) (fault : ItemFault) → r ≡ Err fault → fault ≢ Memory
    → r ≢ Err Memory
not_memory r fault is other e = other cc

no_fault : (r : Result Job ItemFault) (x : Job) → r ≡ Ok x → r ≢ Err Memory
no_fault r x is e = cc

-- the item that is read of a data set is the one item that the row can have
pub own_if : (job item : Job) (print : Print) (own : Bool)
    → ReadsItem job.key.syntax job.body (Ok item)
    → (IsTrue own ↔ ((item.uid ≡ job.uid) × (item.key ≡ job.key) × IsSpelled item print))
    → IsTrue own ↔ (IsItem job × IsSpelled job print)
own_if job item print own reads says = (
  λ yes.
      let it = says.0 yes in
      let same : item ≡ job =
      λ i. record { uid = it.0 i; key = it.1 i; body = reads.2 i } in
      (subst IsItem same reads.0, subst (λ j. IsSpelled j print) same it.2),
  λ is.
      let same : item ≡ job =
      same_item (Ok item) (Ok job) item job refl refl
      (items_are_one job.key.syntax job.body (Ok item) (Ok job)
      (no_fault (Ok item) item refl) (no_fault (Ok job) job refl) reads (is.0, refl, refl)) in
      says.1 (
        ap (λ (j : Job). j.uid) same,
        ap (λ (j : Job). j.key) same,
        subst (λ j. IsSpelled j print) (sym same) is.1,
      ),
)

-- a data set that isn't read is no item's
pub not_own : (job : Job) (print : Print) (fault : ItemFault) (own : Bool)
    → ReadsItem job.key.syntax job.body (Err fault) → (own ≡ false) × (fault ≢ Memory)
    → IsTrue own ↔ (IsItem job × IsSpelled job print)
not_own job print fault own reads says = (
  λ yes. absurd (true≢false (sym yes ∙ says.0)),
  λ is.
      absurd (apart (Err fault) (Ok job) fault job refl refl
      (items_are_one job.key.syntax job.body (Err fault) (Ok job)
      (not_memory (Err fault) fault refl says.1) (no_fault (Ok job) job refl)
      reads (is.0, refl, refl))),
)

-- a row has one data set
one_job : (db : Trees) (uid : Text) (a b : Job) → IsJobOf uid db (Some a) → IsJobOf uid db (Some b)
    → a ≡ b
one_job db uid a b one two =
    let row : instance_by (prints_of db) uid a.key ≡ instance_by (prints_of db) uid b.key =
    inner (instance_by (prints_of db) uid a.key) (instance_by (prints_of db) uid b.key)
    (sym one.1 ∙ two.1) in
    let key : a.key ≡ b.key = ap (λ (i : Instance). i.key) row in
    let body : a.body ≡ b.body = inner a.body b.body (sym one.2 ∙ two.2) in
    let uids : a.uid ≡ b.uid = one.0 ∙ sym two.0 in
    λ i. record { uid = uids i; key = key i; body = body i }

-- what stands in the row, and whether it is read so
pub read_if_own : (db : Trees) (uid : Text) (job : Job) (print : Print) (own : Bool)
    → IsJobOf uid db (Some job) → (IsTrue own ↔ (IsItem job × IsSpelled job print))
    → IsTrue own ↔ IsReadAs uid print db
read_if_own db uid job print own stored says = (
  λ yes. let it = says.0 yes in (job, stored, it.0, it.1),
  λ read.
      let same : read.0 ≡ job = one_job db uid read.0 job read.1 stored in
      says.1 (subst IsItem same read.2, subst (λ j. IsSpelled j print) same read.3),
)

-- where there is no such row, nothing is read
pub none_read : (db : Trees) (uid : Text) (print : Print) → IsJobOf uid db None
    → IsTrue false ↔ IsReadAs uid print db
none_read db uid print none = (
  λ yes. absurd (true≢false (sym yes)),
  λ read.
      absurd (nothing (instance_by (prints_of db) uid read.0.key) (sym none ∙ read.1.1)),
)
  where
    nothing : (x : Instance) → None ≡ Some x → ⊥
    nothing x e = cc
