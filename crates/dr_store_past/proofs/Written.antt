-- Why a call on a past came to nothing, and what it left.
use Rattle.std.proofs.Common.{◌≡◌, ◌<◌, ◌≤◌, ℕ, List, [], ◌∷◌, ◌++◌, length, slice_index_or, HoldsAt, sym, ap, subst, arith, Result, Ok, Err, IsErr, IsErrAnd, IfErr, IfOk, OnOk}
use Rattle.std.proofs.lemmas.List.{get_or-map}
use Rattle.dr_ledger.specs.Books.{Line}
use Rattle.sqlite_disk.specs.declared.Disk.{Ghosts}
use Rattle.dr_store_sealed.specs.declared.fault.SealFault.TheVariants as fault
use Rattle.dr_store_sealed.specs.declared.seal.Seal.{Seal}
use Rattle.dr_store_line_files.specs.Filed.{AreFiled, HaveLines, InFiles, place_behind}
use Rattle.dr_store_sealed.specs.Seals.{first_seal, next_seal, seal_after}
use Rattle.dr_store_line_files.specs.Several.{AreClean, AreUsable, KeepsFiles, all_faults, all_shown}
use Rattle.dr_store_past.specs.declared.fault.PastFault.{PastFault}
use Rattle.dr_store_past.specs.declared.fault.PastFault.TheVariants as reason
use Rattle.dr_store_past.specs.declared.lines.PastLine.{PastLine}
use Rattle.dr_store_past.specs.Counted.{texts_size}
use Rattle.dr_store_past.specs.Lines.{texts_behind}
use Rattle.dr_store_past.specs.Refusals.{IsWhyNotPut, IsWhyNotTold, IsWhyNotWritten}
use Rattle.dr_store_past.specs.Shown.{IsCleanPast}
use Rattle.dr_store_past.proofs.Growing.{shown_back, shown_on}
use Rattle.dr_store_past.proofs.Shows.{clean_noted, clean_unnoted}

-- what an error is of which it is known why
pub err_told : {A E : Type 0} (P : E → Type 0) (r : Result A E) (why : E) → IsErr r × IsErrAnd r (λ e. e ≡ why) → P why → IfErr r P
err_told P (Ok value) why is h = tt
err_told P (Err e) why is h = subst P (sym is.1) h

pub err_map : {A E : Type 0} (P Q : E → Type 0) (r : Result A E) → ((e : E) → P e → Q e) → IfErr r P → IfErr r Q
err_map P Q (Ok value) f h = tt
err_map P Q (Err e) f h = f e h

-- ---- why lines were not written

-- there is a disk, if there is one of that number
some_disk : {D : Type 0} (disks : List D) (n : ℕ) → n < length disks → D
some_disk [] n less = absurd (omega (arith, less))
some_disk (d ∷ ds) n less = d

module _ {D : Type 0} (g : Ghosts D) (all : List Line) (seal : Seal) (places : List Seal) (old new : List D)
    (keeps : KeepsFiles g (place_behind seal) old new) (there : seal.number < length old) where
  -- what is shown was the past before a write, and so it is after it
  pub clean_unwritten : IsCleanPast all (AreClean g new) (all_shown g new) seal (places ++ seal ∷ []) → IsCleanPast all (AreClean g old) (all_shown g old) seal places
  clean_unwritten it =
      clean_unnoted all (AreClean g new) (AreClean g old) (all_shown g new) (all_shown g old) seal places (keeps.clean it.honest)
      (λ lines has. shown_back g seal old new keeps it.honest there (some_disk old seal.number there) first_seal lines has) it

  pub clean_written : AreClean g new → IsCleanPast all (AreClean g old) (all_shown g old) seal places
      → IsCleanPast all (AreClean g new) (all_shown g new) seal (places ++ seal ∷ [])
  clean_written clean it =
      clean_noted all (AreClean g old) (AreClean g new) (all_shown g old) (all_shown g new) seal places clean
      (λ lines has. shown_on g seal old new keeps clean there (some_disk old seal.number there) first_seal lines has) it

  -- a file that shows the past reaches up to it
  last_shown : (files : List (List ℕ)) (s last : Seal) (x : List ℕ) (xs : List (List ℕ)) → last ≡ seal_after s (x ∷ xs) → AreFiled (InFiles files) s (x ∷ xs)
      → last.offset ≤ length (slice_index_or files last.number [])
  last_shown files s last x [] after filed =
      let next = next_seal s x in
      let within = filed.0.bytes.within in
      let n : last.number ≡ next.number = ap (λ (a : Seal). a.number) after in
      let o : last.offset ≡ next.offset = ap (λ (a : Seal). a.offset) after in
      subst (λ k. last.offset ≤ length (slice_index_or files k [])) (sym n)
      (let e : last.offset ≤ length (slice_index_or files next.number []) = omega (arith, within, o) in e)
  last_shown files s last x (y ∷ ys) after filed = last_shown files (next_seal s x) last y ys after filed.1

  reaches : (lines : List (List ℕ)) → HaveLines (all_shown g old) first_seal lines seal → seal.offset ≤ length (slice_index_or (all_shown g old) seal.number [])
  reaches [] has = (let e : seal.offset ≡ 0 = ap (λ (s : Seal). s.offset) has.after in omega (arith, e))
  reaches (x ∷ xs) has = last_shown (all_shown g old) first_seal seal x xs has.after has.filed

  never_short : IsCleanPast all (AreClean g new) (all_shown g new) seal (places ++ seal ∷ [])
      → HoldsAt (λ disk. length (g.seen disk) < seal.offset) old seal.number → ⊥
  never_short it short =
      let d = some_disk old seal.number there in
      let was = (clean_unwritten it).shows in
      let low = reaches (texts_behind 0 was.lines) was.has in
      let size : length (slice_index_or (all_shown g old) seal.number []) ≡ length (g.seen (slice_index_or old seal.number d)) =
      ap (λ (l : List ℕ). length l) (get_or-map (λ (f : D). g.seen f) old seal.number d [] there) in
      let less = short d in
      omega (arith, low, size, less)

  pub not_written : (takes : Type 0) (lines : List PastLine) (why : PastFault) → IsWhyNotPut g old new seal (texts_behind seal.count lines) why
      → IsWhyNotWritten takes (IsCleanPast all (AreClean g new) (all_shown g new) seal (places ++ seal ∷ []))
      (AreUsable g old) (all_faults g old) (all_faults g new) seal lines why
  not_written takes lines (reason.File why) told = told
  not_written takes lines (reason.Sealed (fault.Io error)) told = told
  not_written takes lines (reason.Sealed fault.Memory) told = tt
  not_written takes lines (reason.Sealed fault.Unusable) told = told
  not_written takes lines (reason.Sealed fault.Short) told = λ clean. never_short clean (told clean.honest)
  not_written takes lines (reason.Sealed fault.OtherChain) told = absurd told
  not_written takes lines (reason.Sealed fault.Broken) told = absurd told
  not_written takes lines (reason.Sealed fault.Unfit) told = told
  not_written takes lines (reason.Sealed fault.Full) told = told
  not_written takes lines (reason.Sealed fault.Uncounted) told =
      let size = texts_size seal.count lines in omega (arith, told, size)
  not_written takes lines reason.NoLine told = absurd told
  not_written takes lines reason.Later told = absurd told
  not_written takes lines reason.Nowhere told = absurd told

-- ---- the same under less

pub told_under : (A B usable : Type 0) (old new : ℕ) → (A → B) → (why : PastFault) → IsWhyNotTold B usable old new why → IsWhyNotTold A usable old new why
told_under A B usable old new f (reason.File fault) h = h
told_under A B usable old new f (reason.Sealed (fault.Io error)) h = λ a. h (f a)
told_under A B usable old new f (reason.Sealed fault.Memory) h = tt
told_under A B usable old new f (reason.Sealed fault.Unusable) h = h
told_under A B usable old new f (reason.Sealed fault.Short) h = h
told_under A B usable old new f (reason.Sealed fault.OtherChain) h = h
told_under A B usable old new f (reason.Sealed fault.Broken) h = λ a. h (f a)
told_under A B usable old new f (reason.Sealed fault.Unfit) h = λ a. h (f a)
told_under A B usable old new f (reason.Sealed fault.Full) h = h
told_under A B usable old new f (reason.Sealed fault.Uncounted) h = λ a. h (f a)
told_under A B usable old new f reason.NoLine h = λ a. h (f a)
told_under A B usable old new f reason.Later h = h
told_under A B usable old new f reason.Nowhere h = h

pub ok_map : {A E : Type 0} (P Q : Type 0) (r : Result A E) → (P → Q) → OnOk r P → OnOk r Q
ok_map P Q (Ok value) f h = f h
ok_map P Q (Err e) f h = tt

pub if_map : {A E : Type 0} (P Q : A → Type 0) (r : Result A E) → ((a : A) → P a → Q a) → IfOk r P → IfOk r Q
if_map P Q (Ok value) f h = f value h
if_map P Q (Err e) f h = tt
