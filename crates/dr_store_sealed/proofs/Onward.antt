-- Why reading came to nothing, by what refused one of its steps.
use Rattle.std.proofs.Common.{◌≡◌, ℕ, ◌+◌, ◌-◌, ◌<◌, ◌≤◌, min, List, length, drop, All, IsTrue}
use Rattle.std.proofs.Common.{sym, ◌∙◌, subst, inl, inr, arith, length-drop}
use Rattle.std.proofs.lemmas.Bool.{both_ways, cases_lt}
use Rattle.sqlite_disk.specs.declared.Disk.{Ghosts}
use Rattle.sqlite_disk.specs.Disk.{Holds, MoreFaults}
use Rattle.dr_store_sealed.specs.declared.fault.SealFault.{SealFault}
use Rattle.dr_store_sealed.specs.declared.fault.SealFault.TheVariants as fault
use Rattle.dr_store_sealed.specs.declared.seal.Seal.{Seal}
use Rattle.dr_store_sealed.specs.Files.{HasLines, HasRightLines, HasRightLinesTo}
use Rattle.dr_store_sealed.specs.Lines.{IsOneLine, bytes_of}
use Rattle.dr_store_sealed.specs.Refusals.{BeginsNoLines, IsWhyNoLines, IsWhyNotRead, IsWhyNotWhole}
use Rattle.dr_store_sealed.proofs.Prefixes.{none_left, piece_of, right_on}
use Rattle.dr_store_sealed.proofs.SealLemmas.{reaches}

module _ {D : Type 0} (g : Ghosts D) where
  module _ (from : Seal) (end : ℕ) (old new : D) (piece : List ℕ) where
    none_there : from.offset < end → length piece ≡ min 262144 (end - from.offset)
        → (IsTrue (g.is_clean new) → Holds (g.seen old) from.offset piece)
        → BeginsNoLines from piece → IsTrue (g.is_clean new) → HasRightLinesTo (g.seen old) from end → ⊥
    none_there before size held none clean (last, right, ends) =
        let bytes = bytes_of from.chain right.lines in
        let place : from.offset + length bytes ≡ last.offset = reaches from last right.lines right.has.spans in
        let low : length piece ≤ length bytes = omega (arith, place, ends, size) in
        let same = piece_of (g.seen old) from.offset piece bytes low (held clean) right.has.bytes in
        let left = length-drop (length piece) bytes in
        none right.lines last (drop (length piece) bytes) right.are right.has.spans right.counted same (
          omega (arith, size, before),
          elim (cases_lt (end - from.offset) 262144) [
            | inl small ↦ inr (omega (arith, left, place, ends, size, small))
            | inr large ↦ inl (omega (arith, size, large))
          ],
        )

    pub read_refused : (why : SealFault) → from.offset < end → length piece ≡ min 262144 (end - from.offset)
        → (IsTrue (g.is_clean new) → Holds (g.seen old) from.offset piece)
        → IsWhyNoLines from piece why → IsWhyNotRead g from end old new why
    read_refused (fault.Io error) before size held none = absurd none
    read_refused fault.Memory before size held none = tt
    read_refused fault.Unusable before size held none = absurd none
    read_refused fault.Short before size held none = absurd none
    read_refused fault.OtherChain before size held none = absurd none
    read_refused fault.Broken before size held none = λ clean right. none_there before size held none clean right
    read_refused fault.Unfit before size held none = λ clean right. none_there before size held none clean right
    read_refused fault.Full before size held none = absurd none
    read_refused fault.Uncounted before size held none = λ clean right. none_there before size held none clean right

  module _ (start at : Seal) (end whole : ℕ) (old mid new : D)
      (seen : g.seen mid ≡ g.seen old) (faults : g.faults mid ≡ g.faults old) (usable : IsTrue (g.is_usable mid))
      (clean_mid : IsTrue (g.is_clean new) → IsTrue (g.is_clean mid))
      (was : IsTrue (g.is_clean mid) → (lines : List (List ℕ)) × (All IsOneLine lines × HasLines (g.seen mid) start lines at))
      (low : at.offset ≤ end) (is_whole : IsTrue (g.is_clean new) → end ≡ whole) where
    right_there : IsTrue (g.is_clean new) → HasRightLinesTo (g.seen old) start whole → HasRightLinesTo (g.seen mid) at end
    right_there clean (last, right, ends) =
        let (lines, parts) = was (clean_mid clean) in
        let all = is_whole clean in (
          last,
          right_on (g.seen mid) start at last lines parts.0 parts.1 (omega (arith, low, all, ends))
              (subst (λ file. HasRightLines file start last) (sym seen) right),
          ends ∙ sym all,
        )

    pub onward_refused : (why : SealFault) → IsWhyNotRead g at end mid new why → IsWhyNotRead g start whole old new why
    onward_refused (fault.Io error) told =
        λ clean within.
        subst (λ n. MoreFaults n (g.faults new)) faults
        (told clean (subst (λ file. end ≤ length file) (sym seen) (omega (arith, within, is_whole clean))))
    onward_refused fault.Memory told = tt
    onward_refused fault.Unusable told = absurd (both_ways (g.is_usable mid) told usable)
    onward_refused fault.Short told = absurd told
    onward_refused fault.OtherChain told = absurd told
    onward_refused fault.Broken told = λ clean right. told clean (right_there clean right)
    onward_refused fault.Unfit told = λ clean right. told clean (right_there clean right)
    onward_refused fault.Full told = absurd told
    onward_refused fault.Uncounted told = λ clean right. told clean (right_there clean right)

  -- all lines were read, and the seal is another
  pub other_end : (start at last : Seal) (old new : D) → g.seen new ≡ g.seen old
      → (IsTrue (g.is_clean new) → (lines : List (List ℕ)) × (All IsOneLine lines × HasLines (g.seen new) start lines at))
      → last.offset ≡ at.offset → (at ≡ last → ⊥) → IsTrue (g.is_clean new) → HasRightLines (g.seen old) start last → ⊥
  other_end start at last old new seen was place differs clean right =
      let (lines, parts) = was clean in
      differs (sym (none_left (g.seen new) at last place
      (right_on (g.seen new) start at last lines parts.0 parts.1 (omega (arith, place))
      (subst (λ file. HasRightLines file start last) (sym seen) right))))

  pub whole_refused : (start last : Seal) (old new : D) (why : SealFault) → IsWhyNotRead g start last.offset old new why → IsWhyNotWhole g start last old new why
  whole_refused start last old new (fault.Io error) told = told
  whole_refused start last old new fault.Memory told = told
  whole_refused start last old new fault.Unusable told = told
  whole_refused start last old new fault.Short told = told
  whole_refused start last old new fault.OtherChain told = absurd told
  whole_refused start last old new fault.Broken told = told
  whole_refused start last old new fault.Unfit told = told
  whole_refused start last old new fault.Full told = told
  whole_refused start last old new fault.Uncounted told = told
