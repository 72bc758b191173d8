-- Pages of a journal, as they are read one behind the other.
use Rattle.std.proofs.Common.{◌≡◌, ◌∙◌, ap, sym, subst, refl, arith, inl, inr, ℕ, ◌≤◌, ◌+◌, ◌++◌, List, [], ◌∷◌, Bool, true, false, length, Result, Ok, Err}
use Rattle.std.specs.Prelude.{◌==◌}
use Rattle.std.proofs.lemmas.Bool.{eqb-true, false≢true}
use Rattle.std.proofs.lemmas.List.{append-nil, append_assoc, length_push, nil_from_length}
use Rattle.std.specs.Result.{IsErr, IsErrAnd}
use Rattle.dr_ledger.specs.declared.fault.LedgerFault.{LedgerFault}
use Rattle.dr_ledger.specs.declared.fault.LedgerFault.TheVariants as fault
use Rattle.dr_ledger_history.specs.declared.line.JournalLine.{JournalLine}
use Rattle.dr_run_serve.specs.Pasts.{ArePages, HasNoted, ReadsOn, ReadsPage, counted_from, joined}
use Rattle.dr_run_serve.specs.declared.past.Past.{Past}
use Rattle.dr_run_serve.proofs.Noting.{counted_more}

joined_more : (pages : List (List JournalLine)) (page : List JournalLine) → joined (pages ++ page ∷ []) ≡ joined pages ++ page
joined_more [] page = append-nil page
joined_more (p ∷ ps) page = ap (λ (ls : List JournalLine). p ++ ls) (joined_more ps page) ∙ sym (append_assoc p (joined ps) page)

-- a list with elements isn't the empty one
full : (page : List JournalLine) → (length page == 0) ≡ false → page ≡ [] → ⊥
full page some none = false≢true (sym some ∙ ap (λ (ls : List JournalLine). length ls == 0) none)

module _ (tells : ℕ → Result (List JournalLine) LedgerFault → Type 0) where
  -- ---- one page

  -- what came of a page, where these lines had been noted
  abbrev pub PageCame : List JournalLine → Past → Result Bool LedgerFault → Type 0
  PageCame lines past result = (more : List JournalLine) × HasNoted (lines ++ more) past × ReadsPage tells (counted_from 0 lines) result more

  told_at : (lines : List JournalLine) (past : Past) (came : Result (List JournalLine) LedgerFault) → HasNoted lines past → tells past.after came → tells (counted_from 0 lines) came
  told_at lines past came had told = subst (λ n. tells n came) had.count told

  noted_none : (lines : List JournalLine) (past : Past) → HasNoted lines past → HasNoted (lines ++ []) past
  noted_none lines past had = subst (λ (ls : List JournalLine). HasNoted ls past) (sym (append-nil lines)) had

  pub page_none : (lines : List JournalLine) (past : Past) (page : List JournalLine) → HasNoted lines past → tells past.after (Ok page) → (length page == 0) ≡ true → PageCame lines past (Ok true)
  page_none lines past page had told empty =
      let is : page ≡ [] = nil_from_length page (eqb-true (length page) 0 empty) in
      ([], noted_none lines past had, (refl, told_at lines past (Ok []) had (subst (λ (ls : List JournalLine). tells past.after (Ok ls)) is told)))

  pub page_refused : (lines : List JournalLine) (past : Past) (why : LedgerFault) → HasNoted lines past → tells past.after (Err why) → PageCame lines past (Err why)
  page_refused lines past why had told = ([], noted_none lines past had, inl (refl, told_at lines past (Err why) had told))

  pub page_whole : (lines : List JournalLine) (old new : Past) (page : List JournalLine) → HasNoted lines old → tells old.after (Ok page) → (length page == 0) ≡ false → HasNoted (lines ++ page) new
      → PageCame lines new (Ok false)
  page_whole lines old new page had told some noted = (page, noted, (full page some, told_at lines old (Ok page) had told))

  pub page_part : (lines : List JournalLine) (old new : Past) (page : List JournalLine) (r : Result Bool LedgerFault) → IsErr r → IsErrAnd r (λ (e : LedgerFault). e ≡ fault.Memory) → HasNoted lines old
      → tells old.after (Ok page) → (some rest : List JournalLine) × (page ≡ some ++ rest) × HasNoted (lines ++ some) new → PageCame lines new r
  page_part lines old new page (Ok done) err gives had told part = absurd (false≢true err)
  page_part lines old new page (Err why) err gives had told part =
      (part.0, part.3, inr (part.1, gives, told_at lines old (Ok (part.0 ++ part.1)) had (subst (λ (ls : List JournalLine). tells old.after (Ok ls)) part.2 told)))

  -- ---- pages

  pages_more : (after : ℕ) (pages : List (List JournalLine)) (page : List JournalLine) → ArePages tells after pages → ReadsPage tells (counted_from after (joined pages)) (Ok false) page
      → ArePages tells after (pages ++ page ∷ [])
  pages_more after [] page h read = (read, tt)
  pages_more after (p ∷ ps) page h read =
      (h.0, pages_more (counted_from after p) ps page h.1 (subst (λ n. ReadsPage tells n (Ok false) page) (counted_more after p (joined ps)) read))

  -- so many pages were read behind these lines, and what they say is noted
  abbrev pub SoFar : List JournalLine → ℕ → Past → Type 0
  SoFar lines n past = (pages : List (List JournalLine)) × ArePages tells (counted_from 0 lines) pages × (length pages ≡ n) × HasNoted (lines ++ joined pages) past

  -- what came of it
  abbrev pub Came : List JournalLine → Past → Result Bool LedgerFault → Type 0
  Came lines past result = (more : List JournalLine) × HasNoted (lines ++ more) past × ReadsOn tells (counted_from 0 lines) result more

  pub so_none : (lines : List JournalLine) (past : Past) → HasNoted lines past → SoFar lines 0 past
  so_none lines past had = ([], tt, refl, noted_none lines past had)

  module _ (lines : List JournalLine) (n : ℕ) (old new : Past) (so : SoFar lines n old) where
    place : counted_from 0 (lines ++ joined so.0) ≡ counted_from (counted_from 0 lines) (joined so.0)
    place = counted_more 0 lines (joined so.0)

    -- one page more
    pub so_more : PageCame (lines ++ joined so.0) new (Ok false) → SoFar lines (n + 1) new
    so_more came =
        let page = came.0 in
        let read : ReadsPage tells (counted_from (counted_from 0 lines) (joined so.0)) (Ok false) page = subst (λ m. ReadsPage tells m (Ok false) page) place came.2 in
        let e : lines ++ joined so.0 ++ page ≡ lines ++ joined (so.0 ++ page ∷ []) =
        append_assoc lines (joined so.0) page ∙ ap (λ (ls : List JournalLine). lines ++ ls) (sym (joined_more so.0 page)) in (
          so.0 ++ page ∷ [],
          pages_more (counted_from 0 lines) so.0 page so.1 read,
          length_push so.0 page ∙ ap (λ m. m + 1) so.2,
          subst (λ (ls : List JournalLine). HasNoted ls new) e came.1,
        )

    few : n ≤ 100 → length so.0 ≤ 100
    few most = subst (λ m. m ≤ 100) (sym so.2) most

    -- all was read
    pub came_whole : n ≤ 100 → PageCame (lines ++ joined so.0) new (Ok true) → Came lines new (Ok true)
    came_whole most came =
        let last = came.0 in (
          joined so.0 ++ last,
          subst (λ (ls : List JournalLine). HasNoted ls new) (append_assoc lines (joined so.0) last) came.1,
          (so.0, last, so.1, few most, refl, subst (λ m. ReadsPage tells m (Ok true) last) place came.2),
        )

    -- no more could be read
    pub came_fault : (why : LedgerFault) → n ≤ 100 → PageCame (lines ++ joined so.0) new (Err why) → Came lines new (Err why)
    came_fault why most came =
        let last = came.0 in (
          joined so.0 ++ last,
          subst (λ (ls : List JournalLine). HasNoted ls new) (append_assoc lines (joined so.0) last) came.1,
          (so.0, last, so.1, few most, refl, subst (λ m. ReadsPage tells m (Err why) last) place came.2),
        )

  -- it was as much as is read at most
  pub came_part : (lines : List JournalLine) (n : ℕ) (past : Past) → n ≡ 100 → SoFar lines n past → Came lines past (Ok false)
  came_part lines n past most so =
      let count : length so.0 ≡ 100 = so.2 ∙ most in (
        joined so.0,
        so.3,
        (so.0, [], so.1, subst (λ m. m ≤ 100) (sym count) (omega arith), sym (append-nil (joined so.0)), (refl, count)),
      )
