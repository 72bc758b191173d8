use Rattle.std.proofs.Common.{◌≡◌, ◌≢◌, ◌≤◌, ◌<◌, ◌+◌, ◌++◌, ◌∷◌, ◌∙◌, ℕ, [], inl, inr, slice_index_or, take, ap, subst, sym, arith}
use Rattle.std.proofs.lemmas.List.{take_more}
use Rattle.dr_store_lists.specs.declared.listing.JournalRow.{JournalRow}
use Rattle.dr_store_lists.specs.declared.listing.JournalRow.TheVariants as note
use Rattle.dr_store_audit.specs.Telling.{EndsAtAdoption}
use Rattle.dr_store_audit.proofs.Split.{one_more_none}
use Rattle.dr_store_audit.proofs.telling.count_past.Goals as goal

pub loop-i-preserved : goal.loop-i-preserved
loop-i-preserved c =
    let notes = c.args.notes.now in
    let i = c.loop-i.i in
    let entry = c.index-notes-i.result in
    let inv = c.loop-i.invariant in
    let low = inv.0 in
    let e = take_more notes i entry c.loop-i-test.true in
    let more : take (i + 1) notes ≡ take i notes ++ entry ∷ [] = rw (← c.index-notes-i.is) at e in
    elim c.end_after-end.ensures [
      | inl stays ↦ (
        (let same = stays.0 in omega (arith, same, low)),
        subst (λ k. EndsAtAdoption (take k notes)) (sym stays.0) inv.1,
        subst (λ end. (k : ℕ) (d : ℕ × JournalRow) → end ≤ k → k < i + 1 → (slice_index_or notes k d).1 ≢ note.Adoption) (sym stays.0) (one_more_none notes i c.loop-i.end entry (sym c.index-notes-i.is) c.loop-i-test.true stays.1 inv.2),
      )
      | inr new ↦ (
        (let is = new.0 in omega (arith, is)),
        subst (λ k. EndsAtAdoption (take k notes)) (sym new.0) (inr (take i notes, entry.0, more ∙ ap (λ (x : JournalRow). take i notes ++ (entry.0, x) ∷ []) new.1)),
        λ k d from low. absurd (let is = new.0 in omega (arith, is, from, low)),
      )
    ]
