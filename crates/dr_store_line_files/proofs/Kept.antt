-- What calls leave of the files before a place.
use Rattle.std.proofs.Common.{◌≡◌, ◌≢◌, ℕ, ◌+◌, ◌<◌, ◌≤◌, List, length, take, All, slice_index_or, slice_set as set, IsTrue, Result, Ok, Err, IsErr, IsErrAnd, IfErr}
use Rattle.std.proofs.Common.{refl, sym, ◌∙◌, ap, subst, inl, inr, arith}
use Rattle.std.proofs.lemmas.Bool.{cases_eq}
use Rattle.std.proofs.lemmas.List.{get_or-set_other, get_or-set_same, get_or_default, length-set}
use Rattle.std.proofs.lemmas.List.Sums.{get_or-le-sum_by, sum_by-set}
use Rattle.sqlite_disk.specs.declared.Disk.{Ghosts}
use Rattle.sqlite_disk.specs.Disk.{MoreFaults, Only}
use Rattle.dr_store_sealed.specs.declared.fault.SealFault.{SealFault}
use Rattle.dr_store_sealed.specs.declared.fault.SealFault.TheVariants as fault
use Rattle.dr_store_sealed.specs.declared.seal.Seal.{Seal}
use Rattle.dr_store_line_files.specs.Filed.{AreFiled, EntryEndures, HasEntryAt, InDisks}
use Rattle.dr_store_sealed.specs.Files.{Endures}
use Rattle.dr_store_sealed.specs.Held.{IsWhyNotAdded}
use Rattle.dr_store_sealed.specs.Lines.{bytes_of}
use Rattle.dr_store_sealed.specs.Seals.{TakesLines, full, lines_between}
use Rattle.dr_store_line_files.specs.Several.{AreClean, IsWhyNotPutHere, IsWhyNotPutIn, KeepsFile, KeepsFiles, all_faults}
use Rattle.dr_store_sealed.proofs.FileLemmas.{endures_fewer}
use Rattle.dr_store_line_files.proofs.Filing.{file_filed, filed_map}

-- what an error is of which it is known why
pub err_told : {A E : Type 0} (P : E → Type 0) (r : Result A E) (why : E) → IsErr r × IsErrAnd r (λ e. e ≡ why) → P why → IfErr r P
err_told P (Ok value) why is h = tt
err_told P (Err e) why is h = subst P (sym is.1) h

module _ {D : Type 0} (g : Ghosts D) where
  -- ---- one file

  -- what shows the same, and leaves no more after a crash
  pub same_file : (at : ℕ) (old new : D) → g.seen new ≡ g.seen old → ((c : List ℕ) → g.may_leave new c → g.may_leave old c)
      → (IsTrue (g.is_clean new) → IsTrue (g.is_clean old)) → KeepsFile g at old new
  same_file at old new seen fewer clean =
      record {
        before = λ from kept low. endures_fewer from (g.seen old) (g.seen new) kept (g.may_leave old) (g.may_leave new) seen fewer;
        same = λ told. ap (take at) seen;
        clean = clean;
      }

  -- what was written behind a place that is within the file
  pub appended : (at size : ℕ) (old new : D)
      → ((from : ℕ) (kept : List ℕ) → from + length kept ≤ at → Endures (g.seen old) (g.may_leave old) from kept → Endures (g.seen new) (g.may_leave new) from kept)
      → (at ≤ length (g.seen old) → take at (g.seen new) ≡ take at (g.seen old))
      → (IsTrue (g.is_clean new) → IsTrue (g.is_clean old)) → (IsTrue (g.is_clean old) → size ≡ length (g.seen old)) → at ≤ size → KeepsFile g at old new
  appended at size old new before same clean is low =
      record { before = before; same = λ told. same (let n = is (clean told) in omega (arith, n, low)); clean = clean }

  pub then_kept : (at : ℕ) (old mid new : D) → KeepsFile g at old mid → KeepsFile g at mid new → KeepsFile g at old new
  then_kept at old mid new first later =
      record {
        before = λ from kept low was. later.before from kept low (first.before from kept low was);
        same = λ told. later.same told ∙ first.same (later.clean told);
        clean = λ told. first.clean (later.clean told);
      }

  -- the lines that were put at the end of a file are filed there
  pub put_filed : (place last : Seal) (lines : List (List ℕ)) (file : D) → TakesLines place lines last
      → Endures (g.seen file) (g.may_leave file) place.offset (bytes_of place.chain (lines_between place last lines))
      → length (g.seen file) ≡ last.offset → Only (g.seen file) (g.may_leave file)
      → AreFiled (λ number at entry. (number ≡ place.number) × EntryEndures (g.seen file) (g.may_leave file) at entry) place (lines_between place last lines)
  put_filed place last lines file takes put ends only =
      file_filed (λ number at entry. (number ≡ place.number) × EntryEndures (g.seen file) (g.may_leave file) at entry)
      (g.seen file) place last (lines_between place last lines) (record { after = takes.after; one_file = takes.one_file }) put.now (λ over. ends)
      (λ at entry has. (
        refl,
        (let e : EntryEndures (g.seen file) (g.may_leave file) at entry =
            record { now = has; after_crash = λ left may. subst (λ t. HasEntryAt t at entry) (sym (only left may)) has } in e),
      ))

  pub added_refused : (place : Seal) (lines : List (List ℕ)) (old mid new : D) → place.offset < full → g.faults mid ≡ g.faults old → IsTrue (g.is_usable mid)
      → (why : SealFault) → IsWhyNotAdded g place lines mid new why → IsWhyNotPutHere g place.offset place.count lines old new why
  added_refused place lines old mid new low same can (fault.Io error) told = subst (λ n. MoreFaults n (g.faults new)) same told
  added_refused place lines old mid new low same can fault.Memory told = tt
  added_refused place lines old mid new low same can fault.Unusable told = λ used. told.0 can
  added_refused place lines old mid new low same can fault.Short told = absurd told
  added_refused place lines old mid new low same can fault.OtherChain told = absurd told
  added_refused place lines old mid new low same can fault.Broken told = absurd told
  added_refused place lines old mid new low same can fault.Unfit told = told.0
  added_refused place lines old mid new low same can fault.Full told = let over = told.0 in absurd (omega (arith, low, over))
  added_refused place lines old mid new low same can fault.Uncounted told = told.0

  -- ---- one of several files

  module _ (disks : List D) (i : ℕ) (low : i < length disks) (old new : D) (is : old ≡ slice_index_or disks i old) where
    abbrev after : List D
    after = set disks i new

    size : length after ≡ length disks
    size = length-set disks i new

    here : (d : D) → slice_index_or after i d ≡ new
    here d = get_or-set_same disks i new d low

    was : (d : D) → slice_index_or disks i d ≡ old
    was d = get_or_default disks i d old low ∙ sym is

    others : (k : ℕ) (d : D) → k ≢ i → slice_index_or after k d ≡ slice_index_or disks k d
    others k d apart = get_or-set_other disks i k new d apart

    -- each of them, where that one is what it was
    pub all_before : (P : D → Type 0) → (P new → P old) → All P after → All P disks
    all_before P one are =
        λ k d less.
        elim (cases_eq k i) [
          | inl same ↦
              let there : P (slice_index_or after i d) = subst (λ n. P (slice_index_or after n d)) same (are k d (omega (arith, less, size))) in
              subst (λ n. P (slice_index_or disks n d)) (sym same) (subst P (sym (was d)) (one (subst P (here d) there)))
          | inr apart ↦ subst P (others k d apart) (are k d (omega (arith, less, size)))
        ]

    pub all_after : (P : D → Type 0) → (P old → P new) → All P disks → All P after
    all_after P one are =
        λ k d less.
        elim (cases_eq k i) [
          | inl same ↦
              let there : P (slice_index_or disks i d) = are i d low in
              subst (λ n. P (slice_index_or after n d)) (sym same) (subst P (sym (here d)) (one (subst P (was d) there)))
          | inr apart ↦ subst P (sym (others k d apart)) (are k d (omega (arith, less, size)))
        ]

    pub clean_in : AreClean g after → IsTrue (g.is_clean new)
    clean_in clean = subst (λ f. IsTrue (g.is_clean f)) (here old) (clean i old (omega (arith, low, size)))

    pub kept_among : (place : Seal) → place.number ≡ i → KeepsFile g place.offset old new → KeepsFiles g place disks after
    kept_among place number keeps =
        record {
          longer = omega (arith, size);
          files = λ k d before less. others k d (λ same. omega (arith, before, number, same));
          here = λ d less.
              subst (λ n. KeepsFile g place.offset (slice_index_or disks n d) (slice_index_or after n d)) (sym number)
              (subst (λ f. KeepsFile g place.offset f (slice_index_or after i d)) (sym (was d))
              (subst (λ f. KeepsFile g place.offset old f) (sym (here d)) keeps));
          clean = all_before (λ d. IsTrue (g.is_clean d)) keeps.clean;
        }

    faults_after : all_faults g after + g.faults old ≡ all_faults g disks + g.faults new
    faults_after = ap (λ f. all_faults g after + g.faults f) (sym (was old)) ∙ sum_by-set (λ d. g.faults d) disks i new old low

    pub same_faults : g.faults new ≡ g.faults old → all_faults g after ≡ all_faults g disks
    same_faults same = let all = faults_after in omega (arith, all, same)

    pub more_faults : MoreFaults (g.faults old) (g.faults new) → MoreFaults (all_faults g disks) (all_faults g after)
    more_faults more =
        let all = faults_after in
        let part : g.faults old ≤ all_faults g disks =
        subst (λ f. g.faults f ≤ all_faults g disks) (was old) (get_or-le-sum_by (λ d. g.faults d) disks i old low) in
        omega (arith, all, part, more)

    pub filed_among : (place : Seal) (lines : List (List ℕ)) → place.number ≡ i
        → AreFiled (λ number at entry. (number ≡ place.number) × EntryEndures (g.seen new) (g.may_leave new) at entry) place lines
        → AreFiled (InDisks g after) place lines
    filed_among place lines number filed =
        filed_map (λ number at entry. (number ≡ place.number) × EntryEndures (g.seen new) (g.may_leave new) at entry) (InDisks g after) place lines
        (λ n at entry has.
        let same : n ≡ i = has.0 ∙ number in (
          (let e : n < length after = omega (arith, same, low, size) in e),
          λ d.
              subst (λ k. EntryEndures (g.seen (slice_index_or after k d)) (g.may_leave (slice_index_or after k d)) at entry) (sym same)
              (subst (λ f. EntryEndures (g.seen f) (g.may_leave f) at entry) (sym (here d)) has.1),
        ))
        filed

    pub refused_among : (place : Seal) (lines : List (List ℕ)) → place.number ≡ i → (why : SealFault)
        → IsWhyNotPutHere g place.offset place.count lines old new why → IsWhyNotPutIn g place lines disks after why
    refused_among place lines number (fault.Io error) told = more_faults told
    refused_among place lines number fault.Memory told = tt
    refused_among place lines number fault.Unusable told =
        λ used. told (subst (λ f. IsTrue (g.is_usable f)) (was old) (used i old low))
    refused_among place lines number fault.Short told =
        λ clean d.
        subst (λ n. length (g.seen (slice_index_or disks n d)) < place.offset) (sym number)
        (subst (λ f. length (g.seen f) < place.offset) (sym (was d))
        (told (clean_in clean)))
    refused_among place lines number fault.OtherChain told = absurd told
    refused_among place lines number fault.Broken told = absurd told
    refused_among place lines number fault.Unfit told = told
    refused_among place lines number fault.Full told = absurd told
    refused_among place lines number fault.Uncounted told = told
