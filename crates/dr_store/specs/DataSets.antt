-- Whether bytes are the data set of an instance, which can be told of any.
use Rattle.std.specs.Prelude.{◌≡◌, ◌≢◌, ℕ, ◌≤◌, Bool, true, false, List, [], ◌∷◌, length}
use Rattle.std.specs.Prelude.{Result, Ok, Err}
use Rattle.std.specs.List.{AllByRecursion}
use Rattle.std.proofs.Common.{eqb, leb, refl, ap, subst, arith, eqb-true}
use Rattle.std.proofs.lemmas.Bool.{eqb-false, leb-true, leb-false}
use Rattle.sha2.specs.Sha256.{sha256}
use Rattle.dr_base.specs.declared.syntax.Syntax.{Syntax}
use Rattle.dr_base.specs.Uids.{IsUid}
use Rattle.dr_dataset.specs.declared.fault.DataFault.{DataFault}
use Rattle.dr_dataset.specs.declared.fault.DataFault.TheVariants.{Memory}
use Rattle.dr_dataset.specs.declared.values.Attributes.{Attributes}
use Rattle.dr_dataset.specs.DataSet.{Scans}
use Rattle.dr_dataset.proofs.OneAnswerLemmas.{one_answer}
use Rattle.dr_dataset.proofs.SomeAnswerLemmas.{some_answer}
use Rattle.dr_ledger.specs.declared.content.Job.{Job}
use Rattle.dr_ledger.specs.declared.item.Instance.{Instance}
use Rattle.dr_ledger.specs.Items.{IsItem, largest_body, values_of}

-- the job of that instance with these bytes
abbrev pub job_with : Instance → List ℕ → Job
job_with i bytes = record { uid = i.uid; key = i.key; body = bytes }

-- The bytes are the data set of that instance: they are read as an item with its uid and key, and
-- have its length and its SHA-256.
pub record IsDataSetOf (i : Instance) (bytes : List ℕ) : Type 0 where
  pub item : IsItem (job_with i bytes)
  pub size : length bytes ≡ i.size
  pub digest : sha256 bytes ≡ i.digest

-- ---- it can be told

both : {P Q : Type 0} → Dec P → Dec Q → Dec (P × Q)
both (yes p) (yes q) = yes (p, q)
both (yes p) (no n) = no (λ h. n h.1)
both (no n) q = no (λ h. n h.0)

same_number : (m n : ℕ) → Dec (m ≡ n)
same_number m n = go (eqb m n) refl
  where
    go : (b : Bool) → eqb m n ≡ b → Dec (m ≡ n)
    go true is = yes (eqb-true m n is)
    go false is = no (eqb-false m n is)

no_more : (m n : ℕ) → Dec (m ≤ n)
no_more m n = go (leb m n) refl
  where
    go : (b : Bool) → leb m n ≡ b → Dec (m ≤ n)
    go true is = yes (leb-true m n is)
    go false is = no (λ low. omega (arith, low, leb-false m n is))

same_list : (xs ys : List ℕ) → Dec (xs ≡ ys)
same_list [] [] = yes refl
same_list [] (y ∷ ys) = no (λ e. let f : ⊥ = cc in f)
same_list (x ∷ xs) [] = no (λ e. let f : ⊥ = cc in f)
same_list (x ∷ xs) (y ∷ ys) = go (same_number x y) (same_list xs ys)
  where
    first : (a b : ℕ) (as' bs : List ℕ) → a ∷ as' ≡ b ∷ bs → a ≡ b
    first a b as' bs e = cc

    rest : (a b : ℕ) (as' bs : List ℕ) → a ∷ as' ≡ b ∷ bs → as' ≡ bs
    rest a b as' bs e = cc

    go : Dec (x ≡ y) → Dec (xs ≡ ys) → Dec (x ∷ xs ≡ y ∷ ys)
    go (yes p) (yes q) = yes (λ j. p j ∷ q j)
    go (yes p) (no n) = no (λ e. n (rest x y xs ys e))
    go (no n) q = no (λ e. n (first x y xs ys e))

are_graphic : (bytes : List ℕ) → Dec (AllByRecursion (λ b. (0x21 ≤ b) × (b ≤ 0x7E)) bytes)
are_graphic [] = yes tt
are_graphic (b ∷ more) = both (both (no_more 0x21 b) (no_more b 0x7E)) (are_graphic more)

uid_told : (bytes : List ℕ) → Dec (IsUid bytes)
uid_told bytes = go (no_more 1 (length bytes)) (no_more (length bytes) 64) (are_graphic bytes)
  where
    go : Dec (1 ≤ length bytes) → Dec (length bytes ≤ 64)
        → Dec (AllByRecursion (λ b. (0x21 ≤ b) × (b ≤ 0x7E)) bytes) → Dec (IsUid bytes)
    go (yes a) (yes b) (yes c) = yes (a, b, c)
    go (no n) b c = no (λ h. n h.0)
    go (yes a) (no n) c = no (λ h. n h.1)
    go (yes a) (yes b) (no n) = no (λ h. n h.2)

same_values : (a b : Attributes) → Dec (a ≡ b)
same_values a b = go (same_list a.class b.class) (same_list a.instance b.instance)
    (same_list a.modality b.modality) (same_list a.station b.station)
  where
    go : Dec (a.class ≡ b.class) → Dec (a.instance ≡ b.instance)
        → Dec (a.modality ≡ b.modality) → Dec (a.station ≡ b.station) → Dec (a ≡ b)
    go (yes c) (yes i) (yes m) (yes s) =
        yes (λ j. record { class = c j; instance = i j; modality = m j; station = s j })
    go (no n) i m s = no (λ e. n (ap (λ (v : Attributes). v.class) e))
    go (yes c) (no n) m s = no (λ e. n (ap (λ (v : Attributes). v.instance) e))
    go (yes c) (yes i) (no n) s = no (λ e. n (ap (λ (v : Attributes). v.modality) e))
    go (yes c) (yes i) (yes m) (no n) = no (λ e. n (ap (λ (v : Attributes). v.station) e))

-- a text has one answer, so whether it has these values is seen by the one that it has
scan_told : (s : Syntax) (text : List ℕ) (values : Attributes) → Dec (Scans s text (Ok values))
scan_told s text values = go (some_answer s text)
  where
    inner : (a b : Attributes) → ◌≡◌ {A = Result Attributes DataFault} (Ok a) (Ok b) → a ≡ b
    inner a b e = cc

    ok_is : (a : Attributes) → ◌≢◌ {A = Result Attributes DataFault} (Ok a) (Err Memory)
    ok_is a e = cc

    by_values : (a : Attributes) → Scans s text (Ok a) → Dec (a ≡ values)
        → Dec (Scans s text (Ok values))
    by_values a is (yes same) = yes (subst (λ v. Scans s text (Ok v)) same is)
    by_values a is (no n) =
        no (λ h.
        let same = one_answer s text (Ok a) (Ok values) (ok_is a) (ok_is values) is h in
        n (inner a values same))

    go : ((r : Result Attributes DataFault) × (r ≢ Err Memory) × Scans s text r)
        → Dec (Scans s text (Ok values))
    go (Ok a, other, is) = by_values a is (same_values a values)
    go (Err fault, other, is) =
        no (λ h. let e = one_answer s text (Err fault) (Ok values) other (ok_is values) is h in
        let f : ⊥ = cc in f)

item_told : (job : Job) → Dec (IsItem job)
item_told job = go (scan_told job.key.syntax job.body (values_of job)) (uid_told job.key.class)
    (uid_told job.uid) (no_more (length job.body) largest_body)
  where
    go : Dec (Scans job.key.syntax job.body (Ok (values_of job))) → Dec (IsUid job.key.class)
        → Dec (IsUid job.uid) → Dec (length job.body ≤ largest_body) → Dec (IsItem job)
    go (yes r) (yes c) (yes i) (yes f) =
        yes (record { read = r; class = c; instance = i; fits = f })
    go (no n) c i f = no (λ (h : IsItem job). n h.read)
    go (yes r) (no n) i f = no (λ (h : IsItem job). n h.class)
    go (yes r) (yes c) (no n) f = no (λ (h : IsItem job). n h.instance)
    go (yes r) (yes c) (yes i) (no n) = no (λ (h : IsItem job). n h.fits)

-- whether the bytes are the data set of that instance
pub data_set_told : (i : Instance) (bytes : List ℕ) → Dec (IsDataSetOf i bytes)
data_set_told i bytes = go (item_told (job_with i bytes)) (same_number (length bytes) i.size)
    (same_list (sha256 bytes) i.digest)
  where
    go : Dec (IsItem (job_with i bytes)) → Dec (length bytes ≡ i.size)
        → Dec (sha256 bytes ≡ i.digest) → Dec (IsDataSetOf i bytes)
    go (yes item) (yes size) (yes digest) =
        yes (record { item = item; size = size; digest = digest })
    go (no n) s d = no (λ (h : IsDataSetOf i bytes). n h.item)
    go (yes item) (no n) d = no (λ (h : IsDataSetOf i bytes). n h.size)
    go (yes item) (yes size) (no n) = no (λ (h : IsDataSetOf i bytes). n h.digest)
