-- Lines that are written page by page and file by file.
use Rattle.std.proofs.Common.{◌≡◌, ◌+◌, ◌<◌, ◌≤◌, ◌⊎◌, ℕ, List, [], ◌∷◌, ◌++◌, length, take, All, IsTrue, slice_index_or}
use Rattle.std.proofs.Common.{refl, sym, ◌∙◌, ap, subst, inl, inr, arith, length-take, get_or-take}
use Rattle.std.proofs.lemmas.Bool.{cases_lt}
use Rattle.std.proofs.lemmas.List.{append-nil, get_or_append_left, get_or-map, length-append, take-take}
use Rattle.sqlite_disk.specs.declared.Disk.{Ghosts}
use Rattle.sqlite_disk.specs.Disk.{Holds}
use Rattle.dr_store_sealed.specs.declared.seal.Seal.{Seal}
use Rattle.dr_store_line_files.specs.Filed.{AreFiled, EntryEndures, HasEntryAt, HaveLines, InDisks, InFiles, KeepLines, place_behind}
use Rattle.dr_store_sealed.specs.Files.{Endures}
use Rattle.dr_store_sealed.specs.Seals.{full}
use Rattle.dr_store_line_files.specs.Several.{AreClean, KeepsFile, KeepsFiles, all_shown}
use Rattle.dr_store_line_files.proofs.Filing.{IsUpTo, behind_full, behind_other, filed_kept, filed_unturned}
use Rattle.dr_store_line_files.proofs.Kept.{same_file, then_kept}

-- ---- places

abbrev pub Above : Seal → Seal → Type 0
Above p q = IsUpTo p.number p.offset q

-- where the next lines begin rises with the seal
pub places_up : (from at : Seal) → Above from at → Above (place_behind from) (place_behind at)
places_up from at up =
    elim (cases_lt from.offset full) [
      | inl low ↦
          let one = behind_other from low in
          elim (cases_lt at.offset full) [
            | inl room ↦ subst (λ p. Above p (place_behind at)) (sym one) (subst (Above from) (sym (behind_other at room)) up)
            | inr over ↦
                let other = ap (λ (s : Seal). s.number) (behind_full at over) in
                subst (λ p. Above p (place_behind at)) (sym one)
                (inl (elim up [
                  | inl less ↦ omega (arith, less, other)
                  | inr same ↦ let e = same.0 in omega (arith, e, other)
                ]))
          ]
      | inr large ↦
          let number = ap (λ (s : Seal). s.number) (behind_full from large) in
          let offset = ap (λ (s : Seal). s.offset) (behind_full from large) in
          elim (cases_lt at.offset full) [
            | inl room ↦
                let n = ap (λ (s : Seal). s.number) (behind_other at room) in
                elim up [
                  | inl less ↦
                      elim (cases_lt (from.number + 1) at.number) [
                        | inl more ↦ inl (omega (arith, number, n, more))
                        | inr same ↦ inr (omega (arith, number, n, same, less), omega (arith, offset))
                      ]
                  | inr same ↦ let e = same.1 in absurd (omega (arith, e, large, room))
                ]
            | inr over ↦
                let n = ap (λ (s : Seal). s.number) (behind_full at over) in
                elim up [
                  | inl less ↦ inl (omega (arith, number, n, less))
                  | inr same ↦ let e = same.0 in inr (omega (arith, number, n, e), omega (arith, offset))
                ]
          ]
    ]

pub above_itself : (p : Seal) → Above p p
above_itself p = inr (refl, omega arith)

pub filed_unplaced : (Has : ℕ → ℕ → List ℕ → Type 0) (s : Seal) (xs : List (List ℕ)) → AreFiled Has (place_behind s) xs → AreFiled Has s xs
filed_unplaced Has s [] filed = tt
filed_unplaced Has s (x ∷ xs) filed =
    elim (cases_lt s.offset full) [
      | inl low ↦ subst (λ p. AreFiled Has p (x ∷ xs)) (behind_other s low) filed
      | inr over ↦ filed_unturned Has s x xs over (subst (λ p. AreFiled Has p (x ∷ xs)) (behind_full s over) filed)
    ]

-- ---- a line in files that are alike

-- both are the same, or they are up to where the line ends, where the file has room
abbrev AreAlike : List ℕ → List ℕ → ℕ → Type 0
AreAlike file other end = (file ≡ other) ⊎ ((o : ℕ) × (end ≤ o) × (o < full) × (take o file ≡ take o other))

turned_same : {file other : List ℕ} {end : ℕ} → AreAlike file other end → AreAlike other file end
turned_same like =
    elim like [
      | inl same ↦ inl (sym same)
      | inr part ↦ inr (part.0, part.1, part.2, sym part.3)
    ]

held_alike : (at from : ℕ) (file other kept : List ℕ) → take at file ≡ take at other → from + length kept ≤ at
    → Holds file from kept → Holds other from kept
held_alike at from file other kept same low holds =
    let was = length-take at file in
    let is = length-take at other in
    let sizes : length (take at file) ≡ length (take at other) = ap (λ (l : List ℕ). length l) same in
    record {
      within = omega (arith, holds.within, was, is, sizes, low);
      each = λ i less.
          sym (get_or-take at other (from + i) 0 (omega (arith, less, low)))
          ∙ sym (ap (λ (l : List ℕ). slice_index_or l (from + i) 0) same)
          ∙ get_or-take at file (from + i) 0 (omega (arith, less, low))
          ∙ holds.each i less;
    }

alike : (file other : List ℕ) (from : ℕ) (entry : List ℕ) → AreAlike file other (from + length entry) → HasEntryAt file from entry → HasEntryAt other from entry
alike file other from entry like has =
    elim like [
      | inl same ↦ subst (λ f. HasEntryAt f from entry) same has
      | inr part ↦ record {
        bytes = held_alike part.0 from file other entry part.3 part.1 has.bytes;
        closed = λ over. (let low = part.1 in let room = part.2 in absurd (omega (arith, over, low, room)));
      }
    ]

module _ {D : Type 0} (g : Ghosts D) where
  -- ---- what stays before a place

  kept_less : (at there : ℕ) (old new : D) → at ≤ there → KeepsFile g there old new → KeepsFile g at old new
  kept_less at there old new low keeps =
      record {
        before = λ from kept below was. keeps.before from kept (omega (arith, below, low)) was;
        same = λ told.
            sym (take-take at there (g.seen new) low) ∙ ap (take at) (keeps.same told) ∙ take-take at there (g.seen old) low;
        clean = keeps.clean;
      }

  pub first_all : (P : D → Type 0) (xs ys : List D) → All P (xs ++ ys) → All P xs
  first_all P xs ys all =
      λ k d less.
      let size = length-append xs ys in
      subst P (get_or_append_left xs ys d k less) (all k d (omega (arith, less, size)))

  -- more files leave those that were there
  pub keeps_made : (place : Seal) (old more : List D) → KeepsFiles g place old (old ++ more)
  keeps_made place old more =
      let size = length-append old more in
      record {
        longer = omega (arith, size);
        files = λ k d before less. get_or_append_left old more d k less;
        here = λ d less.
            subst (KeepsFile g place.offset (slice_index_or old place.number d)) (sym (get_or_append_left old more d place.number less))
            (same_file g place.offset (slice_index_or old place.number d) (slice_index_or old place.number d) refl (λ c may. may) (λ clean. clean));
        clean = first_all (λ d. IsTrue (g.is_clean d)) old more;
      }

  pub keeps_all : (place : Seal) (old new : List D) → new ≡ old → KeepsFiles g place old new
  keeps_all place old new same = subst (KeepsFiles g place old) (append-nil old ∙ sym same) (keeps_made place old [])

  pub keeps_on : (p q : Seal) (old mid new : List D) → Above p q → KeepsFiles g p old mid → KeepsFiles g q mid new → KeepsFiles g p old new
  keeps_on p q old mid new up first later =
      let a = first.longer in
      let b = later.longer in
      let number : p.number ≤ q.number =
      elim up [
        | inl less ↦ omega (arith, less)
        | inr same ↦ let e = same.0 in omega (arith, e)
      ] in
      record {
        longer = omega (arith, a, b);
        files = λ k d before less.
            later.files k d (omega (arith, before, number)) (omega (arith, less, a)) ∙ first.files k d before less;
        here = λ d less.
            let one = first.here d less in
            elim up [
              | inl before ↦
                  subst (KeepsFile g p.offset (slice_index_or old p.number d)) (sym (later.files p.number d before (omega (arith, less, a)))) one
              | inr same ↦
                  let there = later.here d (let e = same.0 in omega (arith, less, a, e)) in
                  let mine : KeepsFile g q.offset (slice_index_or mid p.number d) (slice_index_or new p.number d) =
                  subst (λ n. KeepsFile g q.offset (slice_index_or mid n d) (slice_index_or new n d)) (sym same.0) there in
                  then_kept g p.offset (slice_index_or old p.number d) (slice_index_or mid p.number d) (slice_index_or new p.number d) one
                  (kept_less p.offset q.offset (slice_index_or mid p.number d) (slice_index_or new p.number d) same.1 mine)
            ];
        clean = λ told. first.clean (later.clean told);
      }

  -- a line before the place stays
  entry_here : (at from : ℕ) (entry : List ℕ) (old new : D) → KeepsFile g at old new → from + length entry ≤ at → at < full
      → EntryEndures (g.seen old) (g.may_leave old) from entry → EntryEndures (g.seen new) (g.may_leave new) from entry
  entry_here at from entry old new keeps low room was =
      let bytes : Endures (g.seen old) (g.may_leave old) from entry =
      record { now = was.now.bytes; after_crash = λ left may. (was.after_crash left may).bytes } in
      let is = keeps.before from entry low bytes in
      record {
        now = record { bytes = is.now; closed = λ over. absurd (omega (arith, over, low, room)) };
        after_crash = λ left may. record { bytes = is.after_crash left may; closed = λ over. absurd (omega (arith, over, low, room)) };
      }

  module _ (at : Seal) (old new : List D) (keeps : KeepsFiles g (place_behind at) old new) where
    -- a file of a line up to the seal is the same, or it is the one of the seal, which has room
    before_at : (n : ℕ) → (end : ℕ) → IsUpTo n end at
        → (n < (place_behind at).number) ⊎ ((n ≡ (place_behind at).number) × (end ≤ (place_behind at).offset) × ((place_behind at).offset < full))
    before_at n end up =
        elim (cases_lt at.offset full) [
          | inl low ↦
              let same = behind_other at low in
              let number = ap (λ (s : Seal). s.number) same in
              let offset = ap (λ (s : Seal). s.offset) same in
              elim up [
                | inl less ↦ inl (omega (arith, less, number))
                | inr here ↦ let e = here.0 in let f = here.1 in inr (omega (arith, e, number), omega (arith, f, offset), omega (arith, low, offset))
              ]
          | inr over ↦
              let number = ap (λ (s : Seal). s.number) (behind_full at over) in
              inl (elim up [
                | inl less ↦ omega (arith, less, number)
                | inr here ↦ let e = here.0 in omega (arith, e, number)
              ])
        ]

    entry_kept : (n from : ℕ) (entry : List ℕ) → IsUpTo n (from + length entry) at → InDisks g old n from entry → InDisks g new n from entry
    entry_kept n from entry up has =
        let more = keeps.longer in (
          (let less = has.0 in omega (arith, less, more)),
          λ d.
              elim (before_at n (from + length entry) up) [
                | inl before ↦
                    subst (λ f. EntryEndures (g.seen f) (g.may_leave f) from entry) (sym (keeps.files n d before has.0)) (has.1 d)
                | inr here ↦
                    let less : (place_behind at).number < length old = (let e = here.0 in let l = has.0 in omega (arith, e, l)) in
                    let was = subst (λ k. EntryEndures (g.seen (slice_index_or old k d)) (g.may_leave (slice_index_or old k d)) from entry) here.0 (has.1 d) in
                    let is = entry_here (place_behind at).offset from entry (slice_index_or old (place_behind at).number d) (slice_index_or new (place_behind at).number d)
                    (keeps.here d less) here.1 here.2 was in
                    subst (λ k. EntryEndures (g.seen (slice_index_or new k d)) (g.may_leave (slice_index_or new k d)) from entry) (sym here.0) is
              ],
        )

    -- lines up to the seal stay
    pub lines_kept : (start : Seal) (lines : List (List ℕ)) → KeepLines g old start lines at → KeepLines g new start lines at
    lines_kept start lines was =
        record {
          after = was.after;
          filed = filed_kept (InDisks g old) (InDisks g new) start at lines was.after entry_kept was.filed;
        }

    -- and so does what is shown of them
    module _ (clean : AreClean g new) (there : at.number < length old) (d : D) where
      low_number : (n end : ℕ) → IsUpTo n end at → n < length old
      low_number n end up =
          elim up [
            | inl less ↦ omega (arith, less, there)
            | inr here ↦ let e = here.0 in omega (arith, e, there)
          ]

      shown_old : (n : ℕ) → n < length old → slice_index_or (all_shown g old) n [] ≡ g.seen (slice_index_or old n d)
      shown_old n less = get_or-map (λ (f : D). g.seen f) old n d [] less

      shown_new : (n : ℕ) → n < length old → slice_index_or (all_shown g new) n [] ≡ g.seen (slice_index_or new n d)
      shown_new n less = let more = keeps.longer in get_or-map (λ (f : D). g.seen f) new n d [] (omega (arith, less, more))

      is_clean_at : (n : ℕ) → n < length old → IsTrue (g.is_clean (slice_index_or new n d))
      is_clean_at n less = let more = keeps.longer in clean n d (omega (arith, less, more))

      same_at : (n from : ℕ) (entry : List ℕ) → IsUpTo n (from + length entry) at
          → AreAlike (g.seen (slice_index_or new n d)) (g.seen (slice_index_or old n d)) (from + length entry)
      same_at n from entry up =
          let less = low_number n (from + length entry) up in
          elim (before_at n (from + length entry) up) [
            | inl before ↦ inl (ap (λ f. g.seen f) (keeps.files n d before less))
            | inr here ↦
                let o = (place_behind at).offset in
                let low : (place_behind at).number < length old = (let e = here.0 in omega (arith, e, less)) in
                let same = (keeps.here d low).same (is_clean_at (place_behind at).number low) in
                inr (o, here.1, here.2, subst (λ k. take o (g.seen (slice_index_or new k d)) ≡ take o (g.seen (slice_index_or old k d))) (sym here.0) same)
          ]

      pub shown_on : (start : Seal) (lines : List (List ℕ)) → HaveLines (all_shown g old) start lines at → HaveLines (all_shown g new) start lines at
      shown_on start lines was =
          record {
            after = was.after;
            filed = filed_kept (InFiles (all_shown g old)) (InFiles (all_shown g new)) start at lines was.after
                (λ n from entry up has.
                let less = low_number n (from + length entry) up in
                let mine = subst (λ f. HasEntryAt f from entry) (shown_old n less) has in
                subst (λ f. HasEntryAt f from entry) (sym (shown_new n less))
                (alike (g.seen (slice_index_or old n d)) (g.seen (slice_index_or new n d)) from entry (turned_same (same_at n from entry up)) mine))
                was.filed;
          }

      pub shown_back : (start : Seal) (lines : List (List ℕ)) → HaveLines (all_shown g new) start lines at → HaveLines (all_shown g old) start lines at
      shown_back start lines was =
          record {
            after = was.after;
            filed = filed_kept (InFiles (all_shown g new)) (InFiles (all_shown g old)) start at lines was.after
                (λ n from entry up has.
                let less = low_number n (from + length entry) up in
                let mine = subst (λ f. HasEntryAt f from entry) (shown_new n less) has in
                subst (λ f. HasEntryAt f from entry) (sym (shown_old n less))
                (alike (g.seen (slice_index_or new n d)) (g.seen (slice_index_or old n d)) from entry (same_at n from entry up) mine))
                was.filed;
          }
