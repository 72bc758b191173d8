use Rattle.std.proofs.Common.{◌≡◌, ◌+◌, ◌⊎◌, inl, inr, Contains, ◌∷◌, drop, subst, sym, ap, ◌∙◌, true≢false}
use Rattle.std.specs.Prelude.{◌↔◌}
use Rattle.std.proofs.lemmas.List.{drop_more}
use Rattle.std.specs.FinSet as set
use Rattle.dr_base.specs.Texts.{text_cmp}
use Rattle.dr_ledger.proofs.Maps.{texts}
use Rattle.dr_ledger_history.specs.Trees.{as_set}
use Rattle.dr_ledger_history.proofs.Mapped.{no_keys}
use Rattle.dr_store_audit.proofs.Adding.{first_kept, moved_over, one_more}
use Rattle.dr_store_audit.proofs.needs.all_kept.Goals as goal

pub loop-uid-init : goal.loop-uid-init
loop-uid-init c = λ q.
    let none = ap (λ s. set.contains s q) (no_keys texts c.new-uids.result c.new-uids.ensures.empty) ∙ set.contains-empty text_cmp q in (
      λ h. elim h [ inl has ↦ absurd (true≢false (sym has ∙ none)) | inr there ↦ there ],
      λ there. inr there,
    )

pub loop-uid-preserved : goal.loop-uid-preserved
loop-uid-preserved c = λ q.
    let kept = c.args.kept.now in
    let i = c.loop-uid.uid-index in
    let uid = c.uid-item.result in
    let e = drop_more kept i uid c.loop-uid-test.true in
    let more : drop i kept ≡ uid ∷ drop (i + 1) kept = rw (← c.uid-item.is) at e in
    let s = as_set text_cmp c.loop-uid.uids in
    let n = as_set text_cmp c.put_uid.new.uids in
    moved_over (c.loop-uid.invariant q) (one_more s n uid c.in_ok-put_uid.ensures q) (subst (λ xs. Contains xs q ↔ ((q ≡ uid) ⊎ Contains (drop (i + 1) kept) q)) (sym more) (first_kept uid (drop (i + 1) kept) q))
