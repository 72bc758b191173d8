-- What files show of a past before a call and after it.
use Rattle.std.proofs.Common.{◌≡◌, ◌+◌, ◌<◌, ◌≤◌, ℕ, List, [], ◌∷◌, ◌++◌, length, take, drop, All, slice_index_or}
use Rattle.std.proofs.Common.{refl, sym, ◌∙◌, ap, subst, arith, length-drop, length-take, take-append-drop}
use Rattle.std.proofs.lemmas.List.{drop-take, get_or_append_left, get_or-map, length-append, map-append, take-append-le, take-take, take_all, take_at}
use Rattle.std.proofs.lemmas.List.Elements.{All-append, All-contains, All-drop, All-push, All-take}
use Rattle.dr_ledger.specs.Books.{Line}
use Rattle.dr_ledger_text.specs.Laws.{TextsAreOfOneLine}
use Rattle.sqlite_disk.specs.declared.Disk.{Ghosts}
use Rattle.dr_store_sealed.specs.declared.seal.Seal.{Seal}
use Rattle.dr_store_line_files.specs.Filed.{AreFiled, HasEntryAt, HaveLines, InDisks, InFiles, KeepLines}
use Rattle.dr_store_sealed.specs.Lines.{IsOneLine}
use Rattle.dr_store_sealed.specs.Seals.{first_seal, seal_after}
use Rattle.dr_store_line_files.specs.Several.{HaveRightLines, all_shown}
use Rattle.dr_store_line_files.proofs.Filing.{crash_leaves, filed_map, filed_more, filed_rest, filed_first, files_have_one}
use Rattle.dr_store_sealed.proofs.SealLemmas.{after_more, count_after}
use Rattle.dr_store_past.specs.declared.lines.PastLine.{PastLine}
use Rattle.dr_store_past.specs.Counted.{shown_count, texts_size}
use Rattle.dr_store_past.specs.Laws.{CrashLeavesEither, ShowsOnePast, WrittenGoesOn}
use Rattle.dr_store_past.specs.Lines.{FitsPast, IsHeldPast, all_said, said_by, texts_behind}
use Rattle.dr_store_past.specs.Paging.{IsPage}
use Rattle.dr_store_past.specs.Shown.{AreNextIn, HaveWrittenLines, IsCleanPast, IsPlaceIn, ShowsPast}
use Rattle.dr_store_past.proofs.Pages.{both_taken}
use Rattle.dr_store_past.proofs.Told.{all_fit, said_drop, said_take, same_texts, texts_drop, texts_more, texts_take}

-- ---- places in some lines

-- its count is within them
pub place_low : (texts : List (List ℕ)) (place : Seal) → IsPlaceIn texts place → place.count ≤ length texts
place_low texts place is =
    let n : place.count ≡ 0 + length (take place.count texts) =
    ap (λ (s : Seal). s.count) is ∙ count_after first_seal (take place.count texts) in
    let cut = length-take place.count texts in
    omega (arith, n, cut)

-- it is a place in more lines, too, and in fewer that it doesn't go beyond
pub place_more : (texts more : List (List ℕ)) (place : Seal) → place.count ≤ length texts → IsPlaceIn texts place → IsPlaceIn (texts ++ more) place
place_more texts more place low is = is ∙ ap (seal_after first_seal) (sym (take-append-le place.count texts more low))

pub place_fewer : (texts : List (List ℕ)) (count : ℕ) (place : Seal) → place.count ≤ count → IsPlaceIn texts place → IsPlaceIn (take count texts) place
place_fewer texts count place low is = is ∙ ap (seal_after first_seal) (sym (take-take place.count count texts low))

-- the files go on from a place
pub lines_on : (files : List (List ℕ)) (texts : List (List ℕ)) (seal place : Seal) → HaveLines files first_seal texts seal → IsPlaceIn texts place
    → HaveLines files place (drop place.count texts) seal
lines_on files texts seal place has is =
    let first = take place.count texts in
    let rest = drop place.count texts in
    let parts : texts ≡ first ++ rest = sym (take-append-drop place.count texts) in
    record {
      after = has.after ∙ ap (seal_after first_seal) parts ∙ after_more first_seal first rest ∙ ap (λ s. seal_after s rest) (sym is);
      filed = subst (λ s. AreFiled (InFiles files) s rest) (sym is)
          (filed_rest (InFiles files) first_seal first rest (subst (AreFiled (InFiles files) first_seal) parts has.filed));
    }

-- and they come to it
pub lines_to : (files : List (List ℕ)) (texts : List (List ℕ)) (seal place : Seal) → HaveLines files first_seal texts seal → IsPlaceIn texts place
    → HaveLines files first_seal (take place.count texts) place
lines_to files texts seal place has is =
    let first = take place.count texts in
    let rest = drop place.count texts in
    record {
      after = is;
      filed = filed_first (InFiles files) first_seal first rest (subst (AreFiled (InFiles files) first_seal) (sym (take-append-drop place.count texts)) has.filed);
    }

-- ---- what is written

module _ {D : Type 0} (g : Ghosts D) where
  -- disks show what they keep
  pub kept_shown : (disks : List D) (start last : Seal) (lines : List (List ℕ)) → KeepLines g disks start lines last → HaveLines (all_shown g disks) start lines last
  kept_shown [] start last lines keeps =
      record {
        after = keeps.after;
        filed = filed_map (InDisks g []) (InFiles []) start lines (λ n at entry has. absurd (let e = has.0 in omega (arith, e))) keeps.filed;
      }
  kept_shown (d ∷ ds) start last lines keeps =
      record {
        after = keeps.after;
        filed = filed_map (InDisks g (d ∷ ds)) (InFiles (all_shown g (d ∷ ds))) start lines
            (λ n at entry has.
            subst (λ file. HasEntryAt file at entry) (sym (get_or-map (λ (f : D). g.seen f) (d ∷ ds) n d [] has.0)) (has.1 d).now)
            keeps.filed;
      }

  pub count_written : (disks : List D) (from last : Seal) (lines : List PastLine) → KeepLines g disks from (texts_behind from.count lines) last
      → last.count ≡ from.count + length lines
  count_written disks from last lines keeps =
      let n = ap (λ (s : Seal). s.count) keeps.after ∙ count_after from (texts_behind from.count lines) in
      let size = texts_size from.count lines in
      omega (arith, n, size)

  -- what was written goes on what the past has
  pub holds_more : (disks : List D) (seal last : Seal) (before lines : List PastLine)
      → KeepLines g disks first_seal (texts_behind 0 before) seal → KeepLines g disks seal (texts_behind seal.count lines) last
      → KeepLines g disks first_seal (texts_behind 0 (before ++ lines)) last
  holds_more disks seal last before lines it more =
      let n : seal.count ≡ 0 + length before = count_written disks first_seal seal before it in
      let texts : texts_behind 0 before ++ texts_behind seal.count lines ≡ texts_behind 0 (before ++ lines) =
      ap (λ k. texts_behind 0 before ++ texts_behind k lines) n ∙ sym (texts_more 0 before lines) in
      let a = texts_behind 0 before in
      let b = texts_behind seal.count lines in
      subst (λ ls. KeepLines g disks first_seal ls last) texts
      (let k : KeepLines g disks first_seal (a ++ b) last =
      record {
        after = more.after ∙ ap (λ s. seal_after s b) it.after ∙ sym (after_more first_seal a b);
        filed = filed_more (InDisks g disks) first_seal a b it.filed (subst (λ s. AreFiled (InDisks g disks) s b) it.after more.filed);
      } in k)

  module _ (all : List Line) (disks : List D) (places : List Seal) (from : Seal) (lines : List PastLine) (last : Seal)
      (written : HaveWrittenLines g disks places from lines last) where
    abbrev texts : List (List ℕ)
    texts = texts_behind from.count lines

    abbrev files : List (List ℕ)
    files = all_shown g disks

    count : last.count ≡ from.count + length lines
    count = count_written disks from last lines written.written

    size : length texts ≡ length lines
    size = texts_size from.count lines

    module _ (law : TextsAreOfOneLine) (it : ShowsPast all files last) (place : IsPlaceIn (texts_behind 0 it.lines) from) where
      abbrev whole : List (List ℕ)
      whole = texts_behind 0 it.lines

      same : texts ≡ drop from.count whole
      same =
          files_have_one files from last last texts (drop from.count whole) written.one (All-drop IsOneLine from.count whole it.one)
          (kept_shown disks from last texts written.written) (lines_on files whole last from it.has place) refl

      are_said : all_said lines ≡ all_said (drop from.count it.lines)
      are_said =
          same_texts law from.count lines (drop from.count it.lines) written.fit
          (All-drop FitsPast from.count it.lines (all_fit it.lines it.held))
          (let low = written.counted in let n = count in omega (arith, n, low))
          (same ∙ texts_drop 0 from.count it.lines ∙ ap (λ k. texts_behind k (drop from.count it.lines)) (let e : 0 + from.count ≡ from.count = omega arith in e))

      next_said : AreNextIn all from lines
      next_said =
          are_said ∙ said_drop from.count it.lines ∙ ap (drop from.count) (it.said ∙ ap (λ k. take k all) count)
          ∙ drop-take from.count (length lines) all

      shows_before : ShowsPast all files from
      shows_before =
          record {
            lines = take from.count it.lines;
            held = All-take IsHeldPast from.count it.lines it.held;
            one = subst (All IsOneLine) (texts_take 0 from.count it.lines) (All-take IsOneLine from.count whole it.one);
            has = subst (λ ls. HaveLines files first_seal ls from) (texts_take 0 from.count it.lines) (lines_to files whole last from it.has place);
            said = said_take from.count it.lines ∙ ap (take from.count) it.said
                ∙ take-take from.count last.count all (let n = count in omega (arith, n));
            counted = (let low = it.counted in let n = count in omega (arith, n, low));
          }

    pub shows_after : ShowsPast all files from → All IsHeldPast lines → AreNextIn all from lines → ShowsPast all files last
    shows_after it held next =
        let own = shown_count all files from it in
        let n : from.count ≡ 0 + length it.lines = omega (arith, own) in
        let a = texts_behind 0 it.lines in
        let joined : a ++ texts ≡ texts_behind 0 (it.lines ++ lines) =
        ap (λ k. a ++ texts_behind k lines) n ∙ sym (texts_more 0 it.lines lines) in
        let more = kept_shown disks from last texts written.written in
        record {
          lines = it.lines ++ lines;
          held = All-append IsHeldPast it.lines lines it.held held;
          one = subst (All IsOneLine) joined (All-append IsOneLine a texts it.one written.one);
          has = subst (λ ls. HaveLines files first_seal ls last) joined
              (let h : HaveLines files first_seal (a ++ texts) last =
              record {
                after = more.after ∙ ap (λ s. seal_after s texts) it.has.after ∙ sym (after_more first_seal a texts);
                filed = filed_more (InFiles files) first_seal a texts it.has.filed (subst (λ s. AreFiled (InFiles files) s texts) it.has.after more.filed);
              } in h);
          said =
              map-append said_by it.lines lines
              ∙ ap (λ ls. ls ++ all_said lines) it.said
              ∙ ap (λ ls. take from.count all ++ ls) next
              ∙ both_taken from.count (length lines) all
              ∙ ap (λ k. take k all) (sym count);
          counted = written.counted;
        }

    pub clean_before : TextsAreOfOneLine → (H K : Type 0) → K → All (λ (p : Seal). p.count ≤ from.count) places
        → IsCleanPast all H files last places → IsCleanPast all K files from places
    unfolding shows_before
    clean_before law H K k within it =
        let place = All-contains (IsPlaceIn (texts_behind 0 it.shows.lines)) places from it.places written.known in
        record {
          honest = k;
          shows = shows_before law it.shows place;
          places = λ i d less.
              subst (λ ls. IsPlaceIn ls (slice_index_or places i d)) (texts_take 0 from.count it.shows.lines)
              (place_fewer (texts_behind 0 it.shows.lines) from.count (slice_index_or places i d) (within i d less) (it.places i d less));
        }

    pub clean_next : TextsAreOfOneLine → (H : Type 0) → IsCleanPast all H files last places → AreNextIn all from lines
    clean_next law H it = next_said law it.shows (All-contains (IsPlaceIn (texts_behind 0 it.shows.lines)) places from it.places written.known)

    pub clean_after : (H K : Type 0) → K → IsCleanPast all H files from places → All IsHeldPast lines → AreNextIn all from lines → IsCleanPast all K files last places
    unfolding shows_after
    clean_after H K k it held next =
        let own = shown_count all files from it.shows in
        let n : from.count ≡ 0 + length it.shows.lines = omega (arith, own) in
        let joined : texts_behind 0 it.shows.lines ++ texts ≡ texts_behind 0 (it.shows.lines ++ lines) =
        ap (λ m. texts_behind 0 it.shows.lines ++ texts_behind m lines) n ∙ sym (texts_more 0 it.shows.lines lines) in
        record {
          honest = k;
          shows = shows_after it.shows held next;
          places = λ i d less.
              let is = it.places i d less in
              subst (λ ls. IsPlaceIn ls (slice_index_or places i d)) joined
              (place_more (texts_behind 0 it.shows.lines) texts (slice_index_or places i d)
              (place_low (texts_behind 0 it.shows.lines) (slice_index_or places i d) is) is);
        }

  pub written_up : (disks : List D) (places : List Seal) (from : Seal) (lines : List PastLine) (last : Seal)
      → HaveWrittenLines g disks places from lines last → (from.count ≤ last.count) × (last.number < length disks)
  written_up disks places from lines last it =
      let n = count_written disks from last lines it.written in
      ((let e : from.count ≤ last.count = omega (arith, n) in e), it.there)

-- ---- files that show as much as others

pub shows_alike : (all : List Line) (files other : List (List ℕ)) (seal : Seal)
    → ((lines : List (List ℕ)) → HaveLines files first_seal lines seal → HaveLines other first_seal lines seal)
    → ShowsPast all files seal → ShowsPast all other seal
shows_alike all files other seal on it =
    record { lines = it.lines; held = it.held; one = it.one; has = on (texts_behind 0 it.lines) it.has; said = it.said; counted = it.counted }

-- ---- places that are noted

-- the seal is the place of all lines
pub seal_place : (all : List Line) (files : List (List ℕ)) (seal : Seal) (it : ShowsPast all files seal) → IsPlaceIn (texts_behind 0 it.lines) seal
seal_place all files seal it =
    let own = shown_count all files seal it in
    let size = texts_size 0 it.lines in
    it.has.after ∙ ap (seal_after first_seal) (sym (take_all seal.count (texts_behind 0 it.lines) (omega (arith, own, size))))

pub clean_noted : (all : List Line) (H K : Type 0) (files other : List (List ℕ)) (seal : Seal) (places : List Seal) → K
    → ((lines : List (List ℕ)) → HaveLines files first_seal lines seal → HaveLines other first_seal lines seal)
    → IsCleanPast all H files seal places → IsCleanPast all K other seal (places ++ seal ∷ [])
unfolding shows_alike
clean_noted all H K files other seal places k on it =
    record {
      honest = k;
      shows = shows_alike all files other seal on it.shows;
      places = All-push (IsPlaceIn (texts_behind 0 it.shows.lines)) places seal it.places (seal_place all files seal it.shows);
    }

pub clean_unnoted : (all : List Line) (H K : Type 0) (files other : List (List ℕ)) (seal : Seal) (places : List Seal) → K
    → ((lines : List (List ℕ)) → HaveLines files first_seal lines seal → HaveLines other first_seal lines seal)
    → IsCleanPast all H files seal (places ++ seal ∷ []) → IsCleanPast all K other seal places
unfolding shows_alike
clean_unnoted all H K files other seal places k on it =
    let size = length-append places (seal ∷ []) in
    record {
      honest = k;
      shows = shows_alike all files other seal on it.shows;
      places =
          λ i d less.
          subst (IsPlaceIn (texts_behind 0 it.shows.lines)) (get_or_append_left places (seal ∷ []) d i less)
          (it.places i d (omega (arith, less, size)));
    }

pub within_noted : (seal : Seal) (places : List Seal) → All (λ (p : Seal). p.count ≤ seal.count) places
    → All (λ (p : Seal). p.count ≤ seal.count) (places ++ seal ∷ [])
within_noted seal places low = All-push (λ (p : Seal). p.count ≤ seal.count) places seal low (omega arith)

pub within_onward : (seal last : Seal) (places : List Seal) → seal.count ≤ last.count → All (λ (p : Seal). p.count ≤ seal.count) places
    → All (λ (p : Seal). p.count ≤ last.count) places
within_onward seal last places up low = λ k d less. (let own = low k d less in omega (arith, own, up))

-- ---- reading

module _ (all : List Line) (files : List (List ℕ)) (seal : Seal) (it : ShowsPast all files seal) where
  pub first_place : IsPlaceIn (texts_behind 0 it.lines) first_seal
  first_place = refl

  module _ (at : Seal) (place : IsPlaceIn (texts_behind 0 it.lines) at) where
    pub low_place : at.count ≤ seal.count
    low_place =
        let own = shown_count all files seal it in
        let size = texts_size 0 it.lines in
        let low = place_low (texts_behind 0 it.lines) at place in
        omega (arith, own, size, low)

    pub rest_there : HaveLines files at (drop at.count (texts_behind 0 it.lines)) seal
    rest_there = lines_on files (texts_behind 0 it.lines) seal at it.has place

    module _ (next : Seal) (texts more : List (List ℕ)) (parts : drop at.count (texts_behind 0 it.lines) ≡ texts ++ more) (after : next ≡ seal_after at texts) where
      count_next : next.count ≡ at.count + length texts
      count_next = ap (λ (s : Seal). s.count) after ∙ count_after at texts

      first_texts : texts ≡ take (length texts) (drop at.count (texts_behind 0 it.lines))
      first_texts = sym (ap (take (length texts)) parts ∙ take_at texts more (length texts) refl)

      pub low_next : next.count ≤ seal.count
      low_next =
          let own = shown_count all files seal it in
          let size = texts_size 0 it.lines in
          let low = place_low (texts_behind 0 it.lines) at place in
          let left = length-drop at.count (texts_behind 0 it.lines) in
          let both = length-append texts more in
          let sizes = ap (λ (l : List (List ℕ)). length l) parts in
          let n = count_next in
          omega (arith, own, size, low, left, both, sizes, n)

      pub page_there : IsPage texts at.count it.lines
      page_there = record {
        held = it.held;
        are = first_texts
            ∙ ap (take (length texts)) (texts_drop 0 at.count it.lines)
            ∙ texts_take (0 + at.count) (length texts) (drop at.count it.lines)
            ∙ ap (λ k. texts_behind k (take (length texts) (drop at.count it.lines))) (let e : 0 + at.count ≡ at.count = omega arith in e);
        within = (let own = shown_count all files seal it in let n = count_next in let low = low_next in omega (arith, own, n, low));
        counted = (let own = shown_count all files seal it in let low = it.counted in omega (arith, own, low));
      }

      pub place_next : IsPlaceIn (texts_behind 0 it.lines) next
      place_next =
          let whole = texts_behind 0 it.lines in
          after ∙ ap (λ s. seal_after s texts) place
          ∙ sym (after_more first_seal (take at.count whole) texts)
          ∙ ap (seal_after first_seal)
          (ap (λ ls. take at.count whole ++ ls) first_texts ∙ both_taken at.count (length texts) whole ∙ ap (λ k. take k whole) (sym count_next))

      pub counted_next : next.count ≡ at.count + length texts
      counted_next = count_next

  -- the first of what is said
  pub firsts : (count : ℕ) → count ≤ seal.count → take count (all_said it.lines) ≡ take count all
  firsts count low = ap (take count) it.said ∙ take-take count seal.count all low

-- disks that show the past have right lines from each place on
pub right_there : {D : Type 0} (g : Ghosts D) (disks : List D) (all : List Line) (seal : Seal) (it : ShowsPast all (all_shown g disks) seal)
    (at : Seal) → IsPlaceIn (texts_behind 0 it.lines) at → HaveRightLines g disks at seal
right_there g disks all seal it at place =
    record {
      lines = drop at.count (texts_behind 0 it.lines);
      are = All-drop IsOneLine at.count (texts_behind 0 it.lines) it.one;
      has = rest_there all (all_shown g disks) seal it at place;
      counted = it.counted;
    }

-- ---- laws

pub one_past : TextsAreOfOneLine → ShowsOnePast
one_past law all other files seal it its =
    let own = shown_count all files seal it in
    let count = shown_count other files seal its in
    let low = its.counted in
    let same : all_said its.lines ≡ all_said it.lines =
    same_texts law 0 its.lines it.lines (all_fit its.lines its.held) (all_fit it.lines it.held) (omega (arith, count, low))
    (files_have_one files first_seal seal seal (texts_behind 0 its.lines) (texts_behind 0 it.lines) its.one it.one its.has it.has refl) in
    sym it.said ∙ sym same ∙ its.said

pub goes_on : {D : Type 0} (g : Ghosts D) → WrittenGoesOn g
goes_on g disks seal last before lines it more = holds_more g disks seal last before lines it more

pub either : {D : Type 0} (g : Ghosts D) → CrashLeavesEither g
either g disks left seal last before lines it more may =
    record {
      old = crash_leaves g disks left first_seal seal (texts_behind 0 before) it may;
      new = crash_leaves g disks left first_seal last (texts_behind 0 (before ++ lines)) (holds_more g disks seal last before lines it more) may;
    }
