-- Reading a past: a page more, its end, and why it came to nothing.
use Rattle.std.proofs.Common.{◌≡◌, ◌+◌, ◌≤◌, ℕ, List, [], ◌∷◌, ◌++◌, length, take, drop, All, sym, ◌∙◌, ap, subst, arith}
use Rattle.std.proofs.Common.{length-drop, length-take}
use Rattle.std.proofs.lemmas.List.{drop_all, length-map}
use Rattle.std.proofs.lemmas.List.Elements.{All-cons, All-contains, All-drop, All-take}
use Rattle.dr_base.specs.Texts.{Text}
use Rattle.dr_ledger.specs.Books.{Line}
use Rattle.dr_ledger_history.specs.declared.line.JournalLine.{JournalLine}
use Rattle.dr_ledger_history.specs.Lines.{line_of, lines_of}
use Rattle.sqlite_disk.specs.declared.Disk.{Ghosts}
use Rattle.sqlite_disk.specs.Disk.{MoreFaults}
use Rattle.dr_store_sealed.specs.declared.fault.SealFault.{SealFault}
use Rattle.dr_store_sealed.specs.declared.fault.SealFault.TheVariants as fault
use Rattle.dr_store_sealed.specs.declared.seal.Seal.{Seal}
use Rattle.dr_store_line_files.specs.Filed.{HaveLines, InDisks, KeepLines}
use Rattle.dr_store_sealed.specs.Lines.{IsOneLine}
use Rattle.dr_store_sealed.specs.Seals.{first_seal, seal_after}
use Rattle.dr_store_line_files.specs.Several.{AreClean, AreNext, AreUsable, HaveRightLines, IsWhyNotNext, all_faults, all_shown}
use Rattle.dr_store_line_files.proofs.Filing.{filed_map}
use Rattle.dr_store_past.specs.declared.fault.PastFault.{PastFault}
use Rattle.dr_store_past.specs.declared.fault.PastFault.TheVariants as reason
use Rattle.dr_store_past.specs.declared.lines.PastLine.{PastLine}
use Rattle.dr_store_past.specs.Lines.{IsHeldPast, all_said, past_in, texts_behind}
use Rattle.dr_store_past.specs.Paging.{IsPage, IsWhyNoPage}
use Rattle.dr_store_past.specs.Places.{IsPlaceBefore}
use Rattle.dr_store_past.specs.Refusals.{IsWhyNotTold}
use Rattle.dr_store_past.specs.Shown.{IsPlaceIn, ShowsPast}
use Rattle.dr_store_past.proofs.Pages.{all_found, take_none}
use Rattle.dr_store_past.proofs.Shows.{counted_next, first_place, firsts, low_next, low_place, page_there, place_next, rest_there}

-- what is found up to a place is that of all lines up to it
pub record IsToldTo (all : List Line) (texts : List (List ℕ)) (at : Seal) (after limit : ℕ) (found : List Line) : Type 0 where
  pub place : IsPlaceIn texts at
  pub told : found ≡ take limit (drop after (take at.count all))

pub begins_within : (seal : Seal) (places : List Seal) → All (λ (p : Seal). p.count ≤ seal.count) places
    → (count : ℕ) (at : Seal) → IsPlaceBefore places count at → at.count ≤ seal.count
begins_within seal places within count at before =
    let P = λ (p : Seal). p.count ≤ seal.count in
    All-contains P (first_seal ∷ places) at (All-cons P first_seal places (omega arith) within) before.known

module _ (all : List Line) (files : List (List ℕ)) (seal : Seal) (after limit : ℕ) (it : ShowsPast all files seal) where
  abbrev pub Told : Seal → List Line → Type 0
  Told at found = IsToldTo all (texts_behind 0 it.lines) at after limit found

  pub begun : (places : List Seal) → All (IsPlaceIn (texts_behind 0 it.lines)) places → (at : Seal) → IsPlaceBefore places after at
      → (found : List JournalLine) → found ≡ [] → Told at (lines_of found)
  begun places are at before found none =
      let size = length-take at.count all in
      let low = before.low in
      let P = IsPlaceIn (texts_behind 0 it.lines) in
      subst (λ (l : List JournalLine). Told at (lines_of l)) (sym none)
      (let t : Told at [] =
      record {
        place = All-contains P (first_seal ∷ places) at (All-cons P first_seal places (first_place all files seal it) are) before.known;
        told = sym (ap (take limit) (drop_all after (take at.count all) (omega (arith, size, low))) ∙ take_none {X = Line} limit);
      } in t)

  pub told_next : (at next : Seal) (texts more : List (List ℕ)) (old new : List Line)
      → drop at.count (texts_behind 0 it.lines) ≡ texts ++ more → next ≡ seal_after at texts
      → ((lines : List PastLine) → IsPage texts at.count lines → old ≡ take limit (drop after (take at.count (all_said lines)))
      → new ≡ take limit (drop after (take (at.count + length texts) (all_said lines))))
      → Told at old → Told next new
  told_next at next texts more old new parts on picked was =
      let up = low_next all files seal it at was.place next texts more parts on in
      let n = counted_next all files seal it at was.place next texts more parts on in
      record {
        place = place_next all files seal it at was.place next texts more parts on;
        told =
            picked it.lines (page_there all files seal it at was.place next texts more parts on)
            (was.told ∙ ap (λ l. take limit (drop after l)) (sym (firsts all files seal it at.count (low_place all files seal it at was.place))))
            ∙ ap (λ l. take limit (drop after l)) (ap (λ k. take k (all_said it.lines)) (sym n) ∙ firsts all files seal it next.count up);
      }

  pub told_end : (at : Seal) (found : List Line) → seal.count ≤ at.count → Told at found → found ≡ take limit (drop after (past_in all seal))
  told_end at found over was =
      let low = low_place all files seal it at was.place in
      was.told ∙ ap (λ k. take limit (drop after (take k all))) (let e : at.count ≡ seal.count = omega (arith, low, over) in e)

  pub told_full : (at : Seal) (found : List JournalLine) → limit ≤ length found → Told at (lines_of found)
      → lines_of found ≡ take limit (drop after (past_in all seal))
  told_full at found full was =
      let size : length found ≡ length (take limit (drop after (take at.count all))) =
      sym (length-map found line_of) ∙ ap (λ (l : List Line). length l) was.told in
      was.told ∙ all_found at.count seal.count after limit all (low_place all files seal it at was.place) (omega (arith, full, size))

-- why the next lines were not read
pub unread : {D : Type 0} (g : Ghosts D) (seal at : Seal) (first mid new : List D) (Holds : Type 0) → all_faults g mid ≡ all_faults g first
    → (AreUsable g first → AreUsable g mid) → (Holds → AreClean g new) → (Holds → HaveRightLines g mid at seal) → (why : SealFault)
    → IsWhyNotNext g at seal mid new why → IsWhyNotTold Holds (AreUsable g first) (all_faults g first) (all_faults g new) (reason.Sealed why)
unread g seal at first mid new Holds faults usable clean right (fault.Io error) told =
    λ holds. subst (λ n. MoreFaults n (all_faults g new)) faults (told (clean holds) (right holds))
unread g seal at first mid new Holds faults usable clean right fault.Memory told = tt
unread g seal at first mid new Holds faults usable clean right fault.Unusable told = λ used. told (usable used)
unread g seal at first mid new Holds faults usable clean right fault.Short told = absurd told
unread g seal at first mid new Holds faults usable clean right fault.OtherChain told = absurd told
unread g seal at first mid new Holds faults usable clean right fault.Broken told = λ holds. told (clean holds) (right holds)
unread g seal at first mid new Holds faults usable clean right fault.Unfit told = λ holds. told (clean holds) (right holds)
unread g seal at first mid new Holds faults usable clean right fault.Full told = absurd told
unread g seal at first mid new Holds faults usable clean right fault.Uncounted told = λ holds. told (clean holds) (right holds)

-- no line was read of a page that is there
pub unpicked : (texts : List Text) (count : ℕ) (clean usable : Type 0) (old new : ℕ) (why : PastFault)
    → (clean → (lines : List PastLine) × IsPage texts count lines) → IsWhyNoPage texts why → IsWhyNotTold clean usable old new why
unpicked texts count clean usable old new (reason.File fault) page h = absurd h
unpicked texts count clean usable old new (reason.Sealed (fault.Io error)) page h = absurd h
unpicked texts count clean usable old new (reason.Sealed fault.Memory) page h = tt
unpicked texts count clean usable old new (reason.Sealed fault.Unusable) page h = absurd h
unpicked texts count clean usable old new (reason.Sealed fault.Short) page h = absurd h
unpicked texts count clean usable old new (reason.Sealed fault.OtherChain) page h = absurd h
unpicked texts count clean usable old new (reason.Sealed fault.Broken) page h = absurd h
unpicked texts count clean usable old new (reason.Sealed fault.Unfit) page h = absurd h
unpicked texts count clean usable old new (reason.Sealed fault.Full) page h = absurd h
unpicked texts count clean usable old new (reason.Sealed fault.Uncounted) page h = absurd h
unpicked texts count clean usable old new reason.Later page h = absurd h
unpicked texts count clean usable old new reason.Nowhere page h = absurd h
unpicked texts count clean usable old new reason.NoLine page h =
    λ holds.
    let (lines, is) = page holds in
    let part = take (length texts) (drop count lines) in
    h count part
    (All-take IsHeldPast (length texts) (drop count lines) (All-drop IsHeldPast count lines is.held))
    (let cut = length-take (length texts) (drop count lines) in let left = length-drop count lines in let up = is.counted in let low = is.within in omega (arith, cut, left, up, low))
    is.are

-- no memory was left for a place
pub unnoted : (clean usable : Type 0) (old new : ℕ) (why : PastFault) → why ≡ reason.Sealed fault.Memory → IsWhyNotTold clean usable old new why
unnoted clean usable old new why is = subst (IsWhyNotTold clean usable old new) (sym is) tt

-- lines that disks keep are there after a reading
pub kept_read : {D : Type 0} (g : Ghosts D) (old new : List D) → ((number at : ℕ) (entry : List ℕ) → InDisks g old number at entry → InDisks g new number at entry)
    → (start : Seal) (lines : List (List ℕ)) (last : Seal) → KeepLines g old start lines last → KeepLines g new start lines last
kept_read g old new keeps start lines last was =
    record { after = was.after; filed = filed_map (InDisks g old) (InDisks g new) start lines keeps was.filed }

-- ---- what was read of disks that show the same as at first

module _ {D : Type 0} (g : Ghosts D) (all : List Line) (seal : Seal) (after limit : ℕ) (first mid : List D) (seen : all_shown g mid ≡ all_shown g first)
    (it : ShowsPast all (all_shown g first) seal) (at : Seal) where
  rest_read : IsPlaceIn (texts_behind 0 it.lines) at → HaveLines (all_shown g mid) at (drop at.count (texts_behind 0 it.lines)) seal
  rest_read place =
      subst (λ files. HaveLines files at (drop at.count (texts_behind 0 it.lines)) seal) (sym seen)
      (rest_there all (all_shown g first) seal it at place)

  pub right_read : (found : List Line) → IsToldTo all (texts_behind 0 it.lines) at after limit found → HaveRightLines g mid at seal
  right_read found was =
      record {
        lines = drop at.count (texts_behind 0 it.lines);
        are = All-drop IsOneLine at.count (texts_behind 0 it.lines) it.one;
        has = rest_read was.place;
        counted = it.counted;
      }

  module _ (next : Seal) (texts : List (List ℕ)) (read : AreNext g mid at seal texts next) where
    next_parts : IsPlaceIn (texts_behind 0 it.lines) at
        → (more : List (List ℕ)) × (drop at.count (texts_behind 0 it.lines) ≡ texts ++ more) × (next ≡ seal_after at texts)
    next_parts place =
        read (drop at.count (texts_behind 0 it.lines)) (rest_read place)
        (All-drop IsOneLine at.count (texts_behind 0 it.lines) it.one) it.counted

    pub told_read : (old new : List Line)
        → ((lines : List PastLine) → IsPage texts at.count lines → old ≡ take limit (drop after (take at.count (all_said lines)))
        → new ≡ take limit (drop after (take (at.count + length texts) (all_said lines))))
        → IsToldTo all (texts_behind 0 it.lines) at after limit old → IsToldTo all (texts_behind 0 it.lines) next after limit new
    told_read old new picked was =
        let (more, parts, on) = next_parts was.place in
        told_next all (all_shown g first) seal after limit it at next texts more old new parts on picked was

    pub page_read : (found : List Line) → IsToldTo all (texts_behind 0 it.lines) at after limit found → IsPage texts at.count it.lines
    page_read found was =
        let (more, parts, on) = next_parts was.place in
        page_there all (all_shown g first) seal it at was.place next texts more parts on

    -- no more lines come than the seal counts
    pub never_more : (found : List Line) → IsToldTo all (texts_behind 0 it.lines) at after limit found → next.count ≤ seal.count
    never_more found was =
        let (more, parts, on) = next_parts was.place in
        low_next all (all_shown g first) seal it at was.place next texts more parts on
