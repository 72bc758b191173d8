-- The next lines of several files, and why they were not read.
use Rattle.std.proofs.Common.{◌≡◌, ℕ, ◌+◌, ◌^◌, ◌<◌, ◌≤◌, List, [], ◌∷◌, ◌++◌, length, take, drop, All, IsTrue, slice_index_or, slice_set as set, map as mapped}
use Rattle.std.proofs.Common.{refl, sym, ◌∙◌, ap, subst, inl, inr, arith, length-take, take-append-drop}
use Rattle.std.proofs.lemmas.Bool.{both_ways, cases_eq, cases_lt}
use Rattle.std.proofs.lemmas.List.{append_assoc, get_or-map, get_or-set_other, get_or-set_same, get_or_past, length-map, length-set, map-set, set-get_or}
use Rattle.std.proofs.lemmas.List.Elements.{All-take}
use Rattle.sqlite_disk.specs.declared.Disk.{Ghosts}
use Rattle.sqlite_disk.specs.Disk.{MoreFaults}
use Rattle.dr_store_sealed.specs.declared.fault.SealFault.{SealFault}
use Rattle.dr_store_sealed.specs.declared.fault.SealFault.TheVariants as fault
use Rattle.dr_store_sealed.specs.declared.seal.Seal.{Seal}
use Rattle.dr_store_line_files.specs.Filed.{AreFiled, EntryEndures, HasEntryAt, HaveLines, InDisks, InFiles, place_behind}
use Rattle.dr_store_sealed.specs.Files.{HasLines, HasRightLinesTo}
use Rattle.dr_store_line_files.specs.Following.{GoesOnTo, IsEnd, IsWhyNotReadHere, ReadsTo}
use Rattle.dr_store_sealed.specs.Lines.{IsOneLine, bytes_of}
use Rattle.dr_store_sealed.specs.Refusals.{IsWhyNotPut, IsWhyNotRead}
use Rattle.dr_store_sealed.specs.Seals.{full, next_seal, seal_after}
use Rattle.dr_store_line_files.specs.Several.{AreClean, AreNext, HaveRightLines, IsWhyNotNext, all_shown}
use Rattle.dr_store_line_files.proofs.Filing.{FirstPart, behind_full, behind_other, filed_turned, first_part, same_number}
use Rattle.dr_store_line_files.proofs.Kept.{clean_in, more_faults}
use Rattle.dr_store_sealed.proofs.LawLemmas.{entry_size, next_file}
use Rattle.dr_store_sealed.proofs.Prefixes.{counts, piece_of, prefix}
use Rattle.dr_store_sealed.proofs.SealLemmas.{count_after, grows, number_rises, reaches}

-- ---- one file

-- lines end at one place
pub end_is : (seen : List ℕ) (place last : Seal) (a b : ℕ) → IsEnd seen place last a → IsEnd seen place last b → a ≡ b
end_is seen place last a b one other =
    elim (cases_eq place.number last.number) [
      | inl same ↦ one.same same ∙ sym (other.same same)
      | inr apart ↦ one.other apart ∙ sym (other.other apart)
    ]

pub end_here : (seen : List ℕ) (place last : Seal) → place.number ≡ last.number → IsEnd seen place last last.offset
end_here seen place last same = record { same = λ is. refl; other = λ apart. absurd (apart same) }

pub end_there : (seen : List ℕ) (place last : Seal) (size : ℕ) → (place.number ≡ last.number → ⊥) → size ≡ length seen → IsEnd seen place last size
end_there seen place last size apart is = record { same = λ same. absurd (apart same); other = λ other. is }

pub reads_to : (seen shown : List ℕ) (place last : Seal) (lines : List (List ℕ)) (next : Seal) (end : ℕ) → shown ≡ seen → HasLines shown place lines next → next.offset ≤ end
    → IsEnd seen place last end → ReadsTo seen place last lines next
reads_to seen shown place last lines next end same has low is =
    record {
      has = subst (λ file. HasLines file place lines next) same has;
      within = λ other its. subst (λ n. next.offset ≤ n) (end_is seen place last end other is its) low;
    }

module _ {D : Type 0} (g : Ghosts D) (place last : Seal) where
  pub no_end : (old new : D) (why : SealFault) → IsWhyNotPut g old new why → IsWhyNotReadHere g place last old new why
  no_end old new (fault.Io error) told = λ clean goes. told
  no_end old new fault.Memory told = absurd told
  no_end old new fault.Unusable told = absurd told
  no_end old new fault.Short told = absurd told
  no_end old new fault.OtherChain told = absurd told
  no_end old new fault.Broken told = absurd told
  no_end old new fault.Unfit told = absurd told
  no_end old new fault.Full told = absurd told
  no_end old new fault.Uncounted told = absurd told

  module _ (old mid new : D) (end : ℕ) (seen : g.seen mid ≡ g.seen old) (faults : g.faults mid ≡ g.faults old) (usable : IsTrue (g.is_usable mid))
      (is : IsTrue (g.is_clean new) → IsEnd (g.seen old) place last end) where
    there : IsTrue (g.is_clean new) → GoesOnTo (g.seen old) place last → HasRightLinesTo (g.seen mid) place end
    there clean goes =
        subst (λ n. HasRightLinesTo (g.seen mid) place n) (end_is (g.seen old) place last goes.end end goes.is (is clean))
        (subst (λ file. HasRightLinesTo file place goes.end) (sym seen) goes.right)

    pub none_there : end ≤ place.offset → IsTrue (g.is_clean new) → GoesOnTo (g.seen old) place last → ⊥
    none_there over clean goes =
        let same = end_is (g.seen old) place last goes.end end goes.is (is clean) in
        let some = goes.some in
        omega (arith, over, same, some)

    within : IsTrue (g.is_clean new) → GoesOnTo (g.seen old) place last → end ≤ length (g.seen mid)
    within clean goes =
        let (to, right, ends) = there clean goes in
        let at = reaches place to right.lines right.has.spans in
        let low = right.has.bytes.within in
        omega (arith, at, ends, low)

    pub not_read : (why : SealFault) → IsWhyNotRead g place end mid new why → IsWhyNotReadHere g place last old new why
    not_read (fault.Io error) told = λ clean goes. subst (λ n. MoreFaults n (g.faults new)) faults (told clean (within clean goes))
    not_read fault.Memory told = tt
    not_read fault.Unusable told = λ used. both_ways (g.is_usable mid) told usable
    not_read fault.Short told = absurd told
    not_read fault.OtherChain told = absurd told
    not_read fault.Broken told = λ clean goes. told clean (there clean goes)
    not_read fault.Unfit told = λ clean goes. told clean (there clean goes)
    not_read fault.Full told = absurd told
    not_read fault.Uncounted told = λ clean goes. told clean (there clean goes)

-- lines that take room are counted
pub onward_counts : (seen : List ℕ) (place next : Seal) (lines : List (List ℕ)) → HasLines seen place lines next → place.offset < next.offset → place.count < next.count
onward_counts seen place next [] has up =
    absurd (let same : next.offset ≡ place.offset = ap (λ (s : Seal). s.offset) has.spans.after in omega (arith, up, same))
onward_counts seen place next (x ∷ xs) has up = let n = counts place next (x ∷ xs) has.spans in omega (arith, n)

-- ---- where lines go on

filed_place : (Has : ℕ → ℕ → List ℕ → Type 0) (s : Seal) (x : List ℕ) (xs : List (List ℕ)) → AreFiled Has s (x ∷ xs) → AreFiled Has (place_behind s) (x ∷ xs)
filed_place Has s x xs filed =
    elim (cases_lt s.offset full) [
      | inl low ↦ subst (λ p. AreFiled Has p (x ∷ xs)) (sym (behind_other s low)) filed
      | inr over ↦ subst (λ p. AreFiled Has p (x ∷ xs)) (sym (behind_full s over)) (filed_turned Has s x xs over filed)
    ]

pub after_place : (s : Seal) (x : List ℕ) (xs : List (List ℕ)) → seal_after (place_behind s) (x ∷ xs) ≡ seal_after s (x ∷ xs)
after_place s x xs =
    elim (cases_lt s.offset full) [
      | inl low ↦ ap (λ p. seal_after p (x ∷ xs)) (behind_other s low)
      | inr over ↦ ap (λ p. seal_after p (x ∷ xs)) (behind_full s over) ∙ ap (λ p. seal_after p xs) (sym (next_file s x over))
    ]

pub count_place : (s : Seal) → (place_behind s).count ≡ s.count
count_place s =
    elim (cases_lt s.offset full) [
      | inl low ↦ ap (λ (p : Seal). p.count) (behind_other s low)
      | inr over ↦ ap (λ (p : Seal). p.count) (behind_full s over)
    ]

-- the number of the file of the next line
number_next : (s : Seal) (x : List ℕ) → (next_seal s x).number ≡ (place_behind s).number
number_next s x =
    elim (cases_lt s.offset full) [
      | inl low ↦ same_number s x low ∙ sym (ap (λ (p : Seal). p.number) (behind_other s low))
      | inr over ↦ ap (λ (p : Seal). p.number) (next_file s x over) ∙ sym (ap (λ (p : Seal). p.number) (behind_full s over))
    ]

some_lines : (from last : Seal) (lines : List (List ℕ)) → last ≡ seal_after from lines → from.count < last.count
    → (x : List ℕ) × (xs : List (List ℕ)) × (lines ≡ x ∷ xs)
some_lines from last [] after less = absurd (let n : last.count ≡ from.count = ap (λ (s : Seal). s.count) after in omega (arith, less, n))
some_lines from last (x ∷ xs) after less = (x, xs, refl)

pub after_some : (s place : Seal) (lines : List (List ℕ)) → place ≡ place_behind s → 0 < length lines → seal_after place lines ≡ seal_after s lines
after_some s place [] is some = absurd (omega (arith, some))
after_some s place (x ∷ xs) is some = ap (λ p. seal_after p (x ∷ xs)) is ∙ after_place s x xs

module _ (files : List (List ℕ)) (from last place : Seal) (is : place ≡ place_behind from) (lines : List (List ℕ)) (has : HaveLines files from lines last)
    (less : from.count < last.count) where
  -- the file of the next line is there
  pub is_there : place.number < length files
  is_there =
      let (x, xs, are) = some_lines from last lines has.after less in
      let filed : AreFiled (InFiles files) from (x ∷ xs) = subst (AreFiled (InFiles files) from) are has.filed in
      elim (cases_lt place.number (length files)) [
        | inl low ↦ low
        | inr over ↦
            let n : (next_seal from x).number ≡ place.number = number_next from x ∙ sym (ap (λ (p : Seal). p.number) is) in
            let none : slice_index_or files (next_seal from x).number [] ≡ [] = get_or_past files (next_seal from x).number [] (omega (arith, n, over)) in
            let within = filed.0.bytes.within in
            let sizes : length (slice_index_or files (next_seal from x).number []) ≡ 0 = ap (λ (t : List ℕ). length t) none in
            let entry = entry_size from.chain x in
            absurd (omega (arith, within, sizes, entry))
      ]

  pub number_low : place.number ≤ last.number
  number_low =
      let (x, xs, are) = some_lines from last lines has.after less in
      let n : (next_seal from x).number ≡ place.number = number_next from x ∙ sym (ap (λ (p : Seal). p.number) is) in
      let up = number_rises (next_seal from x) xs in
      let e : last.number ≡ (seal_after (next_seal from x) xs).number = ap (λ (s : Seal). s.number) (has.after ∙ ap (seal_after from) are) in
      omega (arith, n, up, e)

  pub part : place.offset < full → FirstPart files place last lines
  part low =
      let (x, xs, are) = some_lines from last lines has.after less in
      let filed : AreFiled (InFiles files) from (x ∷ xs) = subst (AreFiled (InFiles files) from) are has.filed in
      let there : AreFiled (InFiles files) place (x ∷ xs) = subst (λ p. AreFiled (InFiles files) p (x ∷ xs)) (sym is) (filed_place (InFiles files) from x xs filed) in
      let after : last ≡ seal_after place (x ∷ xs) =
      has.after ∙ ap (seal_after from) are ∙ sym (after_place from x xs) ∙ ap (λ p. seal_after p (x ∷ xs)) (sym is) in
      subst (FirstPart files place last) (sym are) (first_part files place last x xs low after there)

part_end : (files : List (List ℕ)) (place last : Seal) (lines : List (List ℕ)) (p : FirstPart files place last lines)
    → IsEnd (slice_index_or files place.number []) place last p.mid.offset
part_end files place last lines p =
    elim (p.ends) [
      | inl same ↦ record {
        same = λ is. ap (λ (s : Seal). s.offset) same;
        other = λ apart. absurd (apart (sym p.has.spans.one_file ∙ ap (λ (s : Seal). s.number) same));
      }
      | inr before ↦ record {
        same = λ is. (let less = before.2 in absurd (omega (arith, is, less)));
        other = λ apart. sym before.1;
      }
    ]

module _ {D : Type 0} (g : Ghosts D) (disks : List D) (i : ℕ) (low : i < length disks) (old : D) (was : old ≡ slice_index_or disks i old)
    (from last place : Seal) (is : place ≡ place_behind from) (number : place.number ≡ i) (room : place.offset < full) (less : from.count < last.count) where
  abbrev files : List (List ℕ)
  files = all_shown g disks

  file_is : slice_index_or files place.number [] ≡ g.seen old
  file_is =
      ap (λ n. slice_index_or files n []) number
      ∙ get_or-map (λ (d : D). g.seen d) disks i old [] low
      ∙ ap (λ d. g.seen d) (sym was)

  -- the lines that were read are the next ones
  pub are_next : (texts : List (List ℕ)) (next : Seal) → All IsOneLine texts → place.count < next.count → ReadsTo (g.seen old) place last texts next → AreNext g disks from last texts next
  are_next texts next one up read =
      λ lines has are counted.
      let n = counts place next texts read.has.spans in
      let some : 0 < length texts = omega (arith, n, up) in
      let p : FirstPart files place last lines = part files from last place is lines has less room in
      let first = take p.count lines in
      let end : IsEnd (g.seen old) place last p.mid.offset = subst (λ file. IsEnd file place last p.mid.offset) file_is (part_end files place last lines p) in
      let there : HasLines (g.seen old) place first p.mid = subst (λ file. HasLines file place first p.mid) file_is p.has in
      let a = bytes_of place.chain texts in
      let b = bytes_of place.chain first in
      let to_next = reaches place next texts read.has.spans in
      let to_mid = reaches place p.mid first there.spans in
      let low = read.within p.mid.offset end in
      let same = piece_of (g.seen old) place.offset a b (omega (arith, to_next, to_mid, low)) read.has.bytes there.bytes in
      let (rest, splits, others, bytes) = prefix place texts first (drop (length a) b) one (All-take IsOneLine p.count lines are) same in (
        rest ++ drop p.count lines,
        sym (take-append-drop p.count lines) ∙ ap (λ ls. ls ++ drop p.count lines) splits ∙ append_assoc texts rest (drop p.count lines),
        read.has.spans.after ∙ after_some from place texts is some,
      )

  goes : HaveRightLines g disks from last → GoesOnTo (g.seen old) place last
  goes right =
      let p : FirstPart files place last right.lines = part files from last place is right.lines right.has less room in
      let first = take p.count right.lines in
      let there : HasLines (g.seen old) place first p.mid = subst (λ file. HasLines file place first p.mid) file_is p.has in
      let size = length-take p.count right.lines in
      let n = counts place p.mid first there.spans in
      let all : last.count ≡ from.count + length right.lines = ap (λ (s : Seal). s.count) right.has.after ∙ count_after from right.lines in
      let same : place.count ≡ from.count = ap (λ (s : Seal). s.count) is ∙ count_place from in
      let some = p.some in
      let up = p.within in
      let low = right.counted in
      record {
        end = p.mid.offset;
        is = subst (λ file. IsEnd file place last p.mid.offset) file_is (part_end files place last right.lines p);
        some = grows place p.mid first there.spans (omega (arith, size, some, up));
        right = (
          p.mid,
          record { lines = first; are = All-take IsOneLine p.count right.lines right.are; has = there; counted = omega (arith, size, n, all, same, up, low) },
          refl,
        );
      }

  module _ (new : D) where
    is_clean_there : AreClean g (set disks i new) → IsTrue (g.is_clean new)
    is_clean_there clean = clean_in g disks i low old new was clean

    pub not_next : (why : SealFault) → IsWhyNotReadHere g place last old new why → IsWhyNotNext g from last disks (set disks i new) why
    not_next (fault.Io error) told =
        λ clean right. more_faults g disks i low old new was (told (is_clean_there clean) (goes right))
    not_next fault.Memory told = tt
    not_next fault.Unusable told = λ used. told (subst (λ f. IsTrue (g.is_usable f)) (sym was) (used i old low))
    not_next fault.Short told = absurd told
    not_next fault.OtherChain told = absurd told
    not_next fault.Broken told = λ clean right. told (is_clean_there clean) (goes right)
    not_next fault.Unfit told = λ clean right. told (is_clean_there clean) (goes right)
    not_next fault.Full told = absurd told
    not_next fault.Uncounted told = λ clean right. told (is_clean_there clean) (goes right)

-- ---- several files

module _ {D : Type 0} (g : Ghosts D) (disks : List D) (i : ℕ) (low : i < length disks) (old new : D) (was : old ≡ slice_index_or disks i old) where
  pub shown_after : g.seen new ≡ g.seen old → all_shown g (set disks i new) ≡ all_shown g disks
  shown_after same =
      let f = λ (d : D). g.seen d in
      map-set f disks i new
      ∙ ap (λ s. set (mapped f disks) i s) (same ∙ ap f was ∙ sym (get_or-map f disks i old [] low))
      ∙ set-get_or (mapped f disks) i []

  pub disks_after : g.seen new ≡ g.seen old → ((c : List ℕ) → g.may_leave new c → g.may_leave old c)
      → (number at : ℕ) (entry : List ℕ) → InDisks g disks number at entry → InDisks g (set disks i new) number at entry
  disks_after same fewer number at entry has =
      let size = length-set disks i new in (
        (let less = has.0 in omega (arith, less, size)),
        λ d.
            elim (cases_eq number i) [
              | inl is ↦
                  let there = subst (λ n. EntryEndures (g.seen (slice_index_or disks n old)) (g.may_leave (slice_index_or disks n old)) at entry) is (has.1 old) in
                  let mine = subst (λ f. EntryEndures (g.seen f) (g.may_leave f) at entry) (sym was) there in
                  let kept : EntryEndures (g.seen new) (g.may_leave new) at entry =
                  record { now = subst (λ t. HasEntryAt t at entry) (sym same) mine.now; after_crash = λ left may. mine.after_crash left (fewer left may) } in
                  subst (λ n. EntryEndures (g.seen (slice_index_or (set disks i new) n d)) (g.may_leave (slice_index_or (set disks i new) n d)) at entry) (sym is)
                  (subst (λ f. EntryEndures (g.seen f) (g.may_leave f) at entry) (sym (get_or-set_same disks i new d low)) kept)
              | inr apart ↦
                  subst (λ f. EntryEndures (g.seen f) (g.may_leave f) at entry) (sym (get_or-set_other disks i number new d apart)) (has.1 d)
            ],
      )

-- why no file is there for the next line
module _ {D : Type 0} (g : Ghosts D) (disks : List D) (from last : Seal) (less : from.count < last.count) where
  pub no_number : full ≤ from.offset → from.number + 1 ≡ 2 ^ 64 → last.number < 2 ^ 64 → HaveRightLines g disks from last → ⊥
  no_number over top low right =
      let up = number_low (all_shown g disks) from last (place_behind from) refl right.lines right.has less in
      let n : (place_behind from).number ≡ from.number + 1 = ap (λ (s : Seal). s.number) (behind_full from over) in
      omega (arith, up, n, top, low)

  pub no_file : (place : Seal) → place ≡ place_behind from → length disks ≤ place.number → HaveRightLines g disks from last → ⊥
  no_file place is over right =
      let there = is_there (all_shown g disks) from last place is right.lines right.has less in
      let size = length-map disks (λ (d : D). g.seen d) in
      omega (arith, there, size, over)
