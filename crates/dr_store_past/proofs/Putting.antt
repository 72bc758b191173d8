-- Texts that are put behind a seal, and why some were not.
use Rattle.std.proofs.Common.{◌≡◌, ◌+◌, ◌-◌, ◌<◌, ◌≤◌, ℕ, List, [], ◌∷◌, ◌++◌, length, take, drop, All, IsTrue, slice_index_or}
use Rattle.std.proofs.Common.{refl, sym, ◌∙◌, ap, subst, inl, inr, arith, length-take, take-append-drop}
use Rattle.std.proofs.lemmas.Bool.{cases_lt}
use Rattle.std.proofs.lemmas.List.{append_assoc, drop_at, get_or_append_left, length-append, take_at}
use Rattle.std.proofs.lemmas.List.Elements.{All-append, All-drop, All-nil, All-take}
use Rattle.std.proofs.lemmas.List.Sums.{sum_by-append}
use Rattle.sqlite_disk.specs.declared.Disk.{Ghosts}
use Rattle.dr_store_sealed.specs.declared.fault.SealFault.{SealFault}
use Rattle.dr_store_sealed.specs.declared.fault.SealFault.TheVariants as fault
use Rattle.dr_store_sealed.specs.declared.seal.Seal.{Seal}
use Rattle.dr_store_line_files.specs.Filed.{AreFiled, InDisks, place_behind}
use Rattle.dr_store_sealed.specs.Lines.{IsOneLine}
use Rattle.dr_store_sealed.specs.Seals.{TakesLines, full, lines_between, next_seal, seal_after}
use Rattle.dr_store_line_files.specs.Several.{AreClean, AreUsable, IsWhyNotPutIn, KeepsFiles, all_faults}
use Rattle.dr_store_line_files.proofs.Filing.{IsUpTo, behind_full, behind_other, filed_more, up_after}
use Rattle.dr_store_line_files.proofs.Nexts.{after_some, count_place}
use Rattle.dr_store_sealed.proofs.SealLemmas.{after_more, count_after}
use Rattle.dr_store_past.specs.declared.fault.PastFault.{PastFault}
use Rattle.dr_store_past.specs.declared.fault.PastFault.TheVariants as reason
use Rattle.dr_store_past.specs.declared.lines.PastLine.{PastLine}
use Rattle.dr_store_past.specs.Refusals.{FillsFile, IsWhyNoPlace, IsWhyNoTexts, IsWhyNotPut}
use Rattle.dr_store_past.specs.Shown.{ArePut}
use Rattle.dr_store_past.proofs.Growing.{above_itself, filed_unplaced, keeps_made, keeps_on, lines_kept, places_up}

-- the first of the first of some, behind others
pub take_behind : {X : Type 0} (xs ys zs : List X) (n : ℕ) → take (length xs + length (take n ys)) (xs ++ (ys ++ zs)) ≡ xs ++ take n ys
take_behind xs ys zs n =
    let m = length (take n ys) in
    let cut = length-take n ys in
    let part : take n ys ++ drop n ys ≡ ys = take-append-drop n ys in
    let whole : (xs ++ take n ys) ++ (drop n ys ++ zs) ≡ xs ++ (ys ++ zs) =
    append_assoc xs (take n ys) (drop n ys ++ zs)
    ∙ ap (λ l. xs ++ l) (sym (append_assoc (take n ys) (drop n ys) zs) ∙ ap (λ l. l ++ zs) part) in
    let size = length-append xs (take n ys) in
    ap (take (length xs + m)) (sym whole)
    ∙ take_at (xs ++ take n ys) (drop n ys ++ zs) (length xs + m) (omega (arith, size))

all_second : {X : Type 0} (P : X → Type 0) (xs ys zs : List X) → All P (xs ++ (ys ++ zs)) → All P ys
all_second P xs ys zs all =
    let rest : All P (ys ++ zs) = subst (All P) (drop_at xs (ys ++ zs) (length xs) refl) (All-drop P (length xs) (xs ++ (ys ++ zs)) all) in
    subst (All P) (take_at ys zs (length ys) refl) (All-take P (length ys) (ys ++ zs) rest)

module _ {D : Type 0} (g : Ghosts D) where
  -- the last line ends in its file
  last_reaches : (disks : List D) (s last : Seal) (x : List ℕ) (xs : List (List ℕ)) → last ≡ seal_after s (x ∷ xs) → AreFiled (InDisks g disks) s (x ∷ xs)
      → (d : D) → last.offset ≤ length (g.seen (slice_index_or disks last.number d))
  last_reaches disks s last x [] after filed d =
      let next = next_seal s x in
      let within = (filed.0.1 d).now.bytes.within in
      let n : last.number ≡ next.number = ap (λ (a : Seal). a.number) after in
      let o : last.offset ≡ next.offset = ap (λ (a : Seal). a.offset) after in
      subst (λ k. last.offset ≤ length (g.seen (slice_index_or disks k d))) (sym n)
      (let e : last.offset ≤ length (g.seen (slice_index_or disks next.number d)) = omega (arith, within, o) in e)
  last_reaches disks s last x (y ∷ ys) after filed d = last_reaches disks (next_seal s x) last y ys after filed.1 d

  -- no text is put yet
  pub none_put : (disks : List D) (from : Seal) → from.number < length disks → ArePut g disks disks from [] from
  none_put disks from there =
      record { kept = record { after = refl; filed = tt }; one = All-nil IsOneLine; there = there; usable = λ used. used; faults = omega arith }

  -- the seal counts the texts that were put
  pub put_count : (old new : List D) (from : Seal) (texts : List (List ℕ)) (last : Seal) → ArePut g old new from texts last → last.count ≡ from.count + length texts
  put_count old new from texts last put = ap (λ (s : Seal). s.count) put.kept.after ∙ count_after from texts

  -- a file that is shorter than a seal was so before, and some lines up to the seal are in none
  short_on : (first mid : List D) (from at : Seal) (xs : List (List ℕ)) → ArePut g first mid from xs at → from.number < length first
      → KeepsFiles g (place_behind from) first mid → (d : D) → AreClean g mid
      → length (g.seen (slice_index_or mid at.number d)) < at.offset → length (g.seen (slice_index_or first from.number d)) < from.offset
  short_on first mid from at (x ∷ xs) was there keeps d clean short =
      let low = last_reaches mid from at x xs was.kept.after was.kept.filed d in
      absurd (omega (arith, short, low))
  short_on first mid from at [] was there keeps d clean short =
      let here : length (g.seen (slice_index_or mid from.number d)) < from.offset =
      subst (λ (s : Seal). length (g.seen (slice_index_or mid s.number d)) < s.offset) was.kept.after short in
      elim (cases_lt from.offset full) [
        | inl low ↦
            let same = behind_other from low in
            let number = ap (λ (s : Seal). s.number) same in
            let more = keeps.longer in
            let kept = (keeps.here d (let e : (place_behind from).number < length first = omega (arith, number, there) in e)).same
            (clean (place_behind from).number d (omega (arith, number, there, more))) in
            let mine : take from.offset (g.seen (slice_index_or mid from.number d)) ≡ take from.offset (g.seen (slice_index_or first from.number d)) =
            subst (λ (p : Seal). take p.offset (g.seen (slice_index_or mid p.number d)) ≡ take p.offset (g.seen (slice_index_or first p.number d))) same kept in
            let a = length-take from.offset (g.seen (slice_index_or mid from.number d)) in
            let b = length-take from.offset (g.seen (slice_index_or first from.number d)) in
            let sizes = ap (λ (l : List ℕ). length l) mine in
            omega (arith, a, b, sizes, here)
        | inr over ↦
            let number = ap (λ (s : Seal). s.number) (behind_full from over) in
            subst (λ f. length (g.seen f) < from.offset) (keeps.files from.number d (omega (arith, number)) there) here
      ]

  module _ (first mid new : List D) (from at : Seal) (xs : List (List ℕ)) (was : ArePut g first mid from xs at) where
    count_at : at.count ≡ from.count + length xs
    count_at = ap (λ (s : Seal). s.count) was.kept.after ∙ count_after from xs

    -- more texts
    pub puts_on : (last : Seal) (ys : List (List ℕ)) → KeepsFiles g (place_behind at) mid new → ArePut g mid new at ys last → ArePut g first new from (xs ++ ys) last
    puts_on last ys keeps more =
        record {
          kept = record {
            after = more.kept.after ∙ ap (λ s. seal_after s ys) was.kept.after ∙ sym (after_more from xs ys);
            filed = filed_more (InDisks g new) from xs ys (lines_kept g at mid new keeps from xs was.kept).filed
                (subst (λ s. AreFiled (InDisks g new) s ys) was.kept.after more.kept.filed);
          };
          one = All-append IsOneLine xs ys was.one more.one;
          there = more.there;
          usable = λ used. more.usable (was.usable used);
          faults = (let a = was.faults in let b = more.faults in omega (arith, a, b));
        }

    pub keeps_through : KeepsFiles g (place_behind from) first mid → KeepsFiles g (place_behind at) mid new → KeepsFiles g (place_behind from) first new
    keeps_through one later =
        keeps_on g (place_behind from) (place_behind at) first mid new
        (places_up from at (subst (IsUpTo from.number from.offset) (sym was.kept.after) (up_after from xs))) one later

    fills_on : (ys zs texts : List (List ℕ)) → texts ≡ xs ++ (ys ++ zs) → (last : Seal) → FillsFile at ys last → FillsFile from texts last
    fills_on ys zs texts are last it =
        record {
          count = length xs + length (take it.count ys);
          after = it.after
              ∙ ap (λ s. seal_after s (take it.count ys)) was.kept.after
              ∙ sym (after_more from xs (take it.count ys))
              ∙ ap (seal_after from) (sym (take_behind xs ys zs it.count) ∙ sym (ap (take (length xs + length (take it.count ys))) are));
          full = it.full;
        }

    -- why more texts were not put
    pub refused_on : (ys zs texts : List (List ℕ)) → texts ≡ xs ++ (ys ++ zs) → from.number < length first
        → KeepsFiles g (place_behind from) first mid → KeepsFiles g (place_behind at) mid new
        → (why : PastFault) → IsWhyNotPut g mid new at ys why → IsWhyNotPut g first new from texts why
    refused_on ys zs texts are there one later (reason.File why) told = (told.0, fills_on ys zs texts are told.0 told.1)
    refused_on ys zs texts are there one later (reason.Sealed (fault.Io error)) told =
        let low = was.faults in omega (arith, low, told)
    refused_on ys zs texts are there one later (reason.Sealed fault.Memory) told = tt
    refused_on ys zs texts are there one later (reason.Sealed fault.Unusable) told = λ used. told (was.usable used)
    refused_on ys zs texts are there one later (reason.Sealed fault.Short) told =
        λ clean d. short_on first mid from at xs was there one d (later.clean clean) (told clean d)
    refused_on ys zs texts are there one later (reason.Sealed fault.OtherChain) told = absurd told
    refused_on ys zs texts are there one later (reason.Sealed fault.Broken) told = absurd told
    refused_on ys zs texts are there one later (reason.Sealed fault.Unfit) told =
        λ all. told (all_second IsOneLine xs ys zs (subst (All IsOneLine) are all))
    refused_on ys zs texts are there one later (reason.Sealed fault.Full) told =
        (told.0, fills_on ys zs texts are told.0 told.1, told.2)
    refused_on ys zs texts are there one later (reason.Sealed fault.Uncounted) told =
        let n = count_at in
        let size : length texts ≡ length (xs ++ (ys ++ zs)) = ap (λ (l : List (List ℕ)). length l) are in
        let outer = length-append xs (ys ++ zs) in
        let inner = length-append ys zs in
        omega (arith, told, n, size, outer, inner)
    refused_on ys zs texts are there one later reason.NoLine told = absurd told
    refused_on ys zs texts are there one later reason.Later told = absurd told
    refused_on ys zs texts are there one later reason.Nowhere told = absurd told

  -- ---- as many as go into one file

  pub no_place : (old new : List D) (from : Seal) (texts : List (List ℕ)) (why : PastFault) → IsWhyNoPlace from why → IsWhyNotPut g old new from texts why
  no_place old new from texts (reason.File why) over = (from, record { count = 0; after = refl; full = over })
  no_place old new from texts (reason.Sealed (fault.Io error)) over = absurd over
  no_place old new from texts (reason.Sealed fault.Memory) over = tt
  no_place old new from texts (reason.Sealed fault.Unusable) over = absurd over
  no_place old new from texts (reason.Sealed fault.Short) over = absurd over
  no_place old new from texts (reason.Sealed fault.OtherChain) over = absurd over
  no_place old new from texts (reason.Sealed fault.Broken) over = absurd over
  no_place old new from texts (reason.Sealed fault.Unfit) over = absurd over
  no_place old new from texts (reason.Sealed fault.Full) over = (from, record { count = 0; after = refl; full = over.0 }, over.1)
  no_place old new from texts (reason.Sealed fault.Uncounted) over = absurd over
  no_place old new from texts reason.NoLine over = absurd over
  no_place old new from texts reason.Later over = absurd over
  no_place old new from texts reason.Nowhere over = absurd over

  module _ (old more made new : List D) (is : made ≡ old ++ more) (can : AreUsable g more) (from place : Seal) (at : place ≡ place_behind from) where
    pub made_kept : KeepsFiles g place made new → KeepsFiles g (place_behind from) old new
    made_kept keeps =
        subst (λ p. KeepsFiles g p old new) at
        (keeps_on g place place old made new (above_itself place) (subst (KeepsFiles g place old) (sym is) (keeps_made g place old more)) keeps)

    usable_made : AreUsable g old → AreUsable g made
    usable_made used = subst (AreUsable g) (sym is) (All-append (λ d. IsTrue (g.is_usable d)) old more used can)

    faults_made : all_faults g old ≤ all_faults g made
    faults_made =
        let all = sum_by-append (λ (d : D). g.faults d) old more in
        let same : all_faults g made ≡ all_faults g (old ++ more) = ap (all_faults g) is in
        omega (arith, all, same)

    pub part_put : (texts : List (List ℕ)) (last : Seal) → TakesLines place texts last → (0 < length texts → place.count < last.count)
        → All IsOneLine (lines_between place last texts) → AreFiled (InDisks g new) place (lines_between place last texts)
        → length new ≡ length made → place.number < length made
        → (AreUsable g made → AreUsable g new) → all_faults g new ≡ all_faults g made
        → 0 < length texts
        → (count : ℕ) × (0 < count) × (count ≤ length texts) × (last.count ≡ from.count + count) × ArePut g old new from (take count texts) last
    part_put texts last takes some one filed size there usable faults filled =
        let count = last.count - place.count in
        let up = some filled in
        let n : last.count ≡ place.count + length (take count texts) = ap (λ (s : Seal). s.count) takes.after ∙ count_after place (take count texts) in
        let cut = length-take count texts in
        let same : place.count ≡ from.count = ap (λ (s : Seal). s.count) at ∙ count_place from in
        let number = takes.one_file in
        let low = faults_made in (
          count,
          (let e : 0 < count = omega (arith, up) in e),
          (let e : count ≤ length texts = omega (arith, n, cut, up) in e),
          (let e : last.count ≡ from.count + count = omega (arith, up, same) in e),
          record {
            kept = record {
              after = takes.after ∙ after_some from place (take count texts) at (omega (arith, n, up));
              filed = filed_unplaced (InDisks g new) from (take count texts) (subst (λ p. AreFiled (InDisks g new) p (take count texts)) at filed);
            };
            one = one;
            there = omega (arith, number, size, there);
            usable = λ used. usable (usable_made used);
            faults = omega (arith, low, faults);
          },
        )

    pub part_refused : (texts : List (List ℕ)) → place.offset < full → (why : SealFault) → IsWhyNotPutIn g place texts made new why → place.number < length made
        → from.number < length old → IsWhyNotPut g old new from texts (reason.Sealed why)
    part_refused texts room (fault.Io error) told there was = let low = faults_made in omega (arith, low, told)
    part_refused texts room fault.Memory told there was = tt
    part_refused texts room fault.Unusable told there was = λ used. told (usable_made used)
    part_refused texts room fault.Short told there was =
        λ clean d.
        let short = told clean d in
        elim (cases_lt from.offset full) [
          | inl low ↦
              let same : place ≡ from = at ∙ behind_other from low in
              let mine : length (g.seen (slice_index_or made from.number d)) < from.offset =
              subst (λ (p : Seal). length (g.seen (slice_index_or made p.number d)) < p.offset) same short in
              subst (λ f. length (g.seen f) < from.offset)
              (ap (λ l. slice_index_or l from.number d) is ∙ get_or_append_left old more d from.number was) mine
          | inr over ↦
              let none : place.offset ≡ 0 = ap (λ (s : Seal). s.offset) (at ∙ behind_full from over) in
              absurd (omega (arith, short, none))
        ]
    part_refused texts room fault.OtherChain told there was = absurd told
    part_refused texts room fault.Broken told there was = absurd told
    part_refused texts room fault.Unfit told there was = told
    part_refused texts room fault.Full told there was = absurd told
    part_refused texts room fault.Uncounted told there was =
        let same : place.count ≡ from.count = ap (λ (s : Seal). s.count) at ∙ count_place from in
        omega (arith, told, same)

  -- no texts were made
  pub untold : (old new : List D) (from : Seal) (texts : List (List ℕ)) (after : ℕ) (lines : List PastLine) → after ≡ from.count → length lines ≡ length texts
      → (why : SealFault) → IsWhyNoTexts after lines why → IsWhyNotPut g old new from texts (reason.Sealed why)
  untold old new from texts after lines is size (fault.Io error) told = absurd told
  untold old new from texts after lines is size fault.Memory told = tt
  untold old new from texts after lines is size fault.Unusable told = absurd told
  untold old new from texts after lines is size fault.Short told = absurd told
  untold old new from texts after lines is size fault.OtherChain told = absurd told
  untold old new from texts after lines is size fault.Broken told = absurd told
  untold old new from texts after lines is size fault.Unfit told = absurd told
  untold old new from texts after lines is size fault.Full told = absurd told
  untold old new from texts after lines is size fault.Uncounted told = omega (arith, told, is, size)
