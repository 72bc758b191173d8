-- What is picked of a book's rows.
use Rattle.std.proofs.Common.{◌≡◌, ◌∙◌, ◌∷◌, [], ◌⊎◌, Bool, true, false, cond, List, inl, inr, None, Option, Some, T, refl, sym, ap, subst, true≢false}
use Rattle.std.specs.Prelude.{Contains}
use Rattle.std.specs.FinMap as map
use Rattle.std.specs.FinMap.{find, is_sorted}
use Rattle.std.specs.Ordering.{eq_by_cmp}
use Rattle.std.proofs.lemmas.Map.Views.{tells_apart}
use Rattle.dr_base.specs.Texts.{Text, text_cmp}
use Rattle.dr_plan_model.proofs.Gathered.{Contains-cons_cases, nothing_in_nil}
use Rattle.dr_plan_model.specs.Networks.{Network}
use Rattle.dr_plan_model.specs.Walks.{IsReached}
use Rattle.dr_ledger.proofs.Growing.{inside}
use Rattle.dr_ledger.proofs.Maps.{text_pairs}
use Rattle.dr_ledger.specs.Adopting.{IsFit, IsUnfit}
use Rattle.dr_ledger.specs.Books.{Book, Row, is_queued}
use Rattle.dr_ledger.specs.Pairs.{Pair, pair_cmp}
use Rattle.dr_ledger.specs.declared.item.Instance.{Instance}
use Rattle.dr_ledger.specs.declared.item.Progress.{Progress}
use Rattle.dr_ledger_unfit.specs.Laws.{NoneIsFit, UnfitAreOne}
use Rattle.dr_ledger_unfit.specs.Unfit.{ArePicked, AreUnfit, IsFitRow, IsUnfitRow}

-- of a row that isn't both the same is picked
one_picked : (Holds Else : Row → Type 0) → ((row : Row) → Holds row → Else row → ⊥) → (rows : List Row) (one other : List Pair) → ArePicked Holds Else rows one → ArePicked Holds Else rows other → one ≡ other
one_picked Holds Else apart [] one other u v = u ∙ sym v
one_picked Holds Else apart (r ∷ rs) one other (inl u) (inl v) = u.2 ∙ ap (λ (ps : List Pair). r.0 ∷ ps) (one_picked Holds Else apart rs u.0 v.0 u.3 v.3) ∙ sym v.2
one_picked Holds Else apart (r ∷ rs) one other (inl u) (inr v) = absurd (apart r u.1 v.0)
one_picked Holds Else apart (r ∷ rs) one other (inr u) (inl v) = absurd (apart r v.1 u.0)
one_picked Holds Else apart (r ∷ rs) one other (inr u) (inr v) = one_picked Holds Else apart rs one other u.1 v.1

module _ (next : Network) (name : Text) (b : Book) where
  abbrev Unfit : Row → Type 0
  Unfit row = IsUnfitRow next name b.items row

  abbrev Fit : Row → Type 0
  Fit row = IsFitRow next name b.items row

  apart : (row : Row) → Unfit row → Fit row → ⊥
  apart row u (inl over) = true≢false (sym u.1 ∙ over)
  apart row u (inr goes) = u.3 (subst (λ (i : Instance). IsReached next i.key name row.0.1) (inside goes.0 u.0 (sym goes.1 ∙ u.2)) goes.2)

  -- where none is picked, each row that is found fits
  none_left : (rows : List Row) → ArePicked Unfit Fit rows [] → (at : Pair) (row : Progress) → find pair_cmp at rows ≡ Some row → Fit (at, row)
  none_left [] none at row h = absurd (let f : ⊥ = cc in f)
  none_left (r ∷ rs) (inl p) at row h = absurd (let e = p.2 in let f : ⊥ = cc in f)
  none_left (r ∷ rs) (inr p) at row h = go (eq_by_cmp pair_cmp at r.0) refl h (none_left rs p.1 at row)
    where
      go : (same : Bool) → eq_by_cmp pair_cmp at r.0 ≡ same → cond same (Some r.1) (find pair_cmp at rs) ≡ Some row → (find pair_cmp at rs ≡ Some row → Fit (at, row)) → Fit (at, row)
      go true t is later = subst Fit (λ j. (sym (tells_apart text_pairs.exact at r.0 t) j, inside r.1 row is j)) p.0
      go false t is later = later is

  goes_on : (at : Pair) (row : Progress) (item : Instance) → Fit (at, row) → is_queued row ≡ true → map.get b.items at.0 ≡ Some item → IsReached next item.key name at.1
  goes_on at row item (inl over) queued there = absurd (true≢false (sym queued ∙ over))
  goes_on at row item (inr goes) queued there = subst (λ (i : Instance). IsReached next i.key name at.1) (inside goes.0 item (sym goes.1 ∙ there)) goes.2

pub unfit_are_one : UnfitAreOne
unfit_are_one next name b one other u v = one_picked (IsUnfitRow next name b.items) (IsFitRow next name b.items) (apart next name b) (map.entries b.rows) one other u v

pub none_is_fit : NoneIsFit
none_is_fit next name b none at row item there queued has =
    goes_on next name b at row item (none_left next name b (map.entries b.rows) none at row (sym (map.get-entries b.rows at) ∙ there)) queued has
