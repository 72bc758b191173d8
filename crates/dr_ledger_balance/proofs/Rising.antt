-- Lists each of whose values comes before the next.
use Rattle.std.proofs.Common.{◌≡◌, ◌∙◌, ◌+◌, ◌-◌, ◌<◌, ◌≤◌, ℕ, List, [], ◌∷◌, Err, inl, inr, sym, ap, subst, arith, get_or, length}
use Rattle.std.specs.Cmp.{IsTotalOrder}
use Rattle.std.specs.List.Sorted.{IsStrictlySortedBy}
use Rattle.std.specs.declared.cmp.Ordering.{Ordering}
use Rattle.std.specs.declared.cmp.Ordering.TheVariants.{Less, Equal, Greater}
use Rattle.std.proofs.lemmas.Bool.{cases_lt}
use Rattle.std.proofs.lemmas.Cmp.{nat_list_cmp_total, on_total}
use Rattle.std.proofs.lemmas.List.{get_or_default}
use Rattle.std.proofs.lemmas.Map.Keys.{sorted_from_all_adjacent}
use Rattle.dr_base.specs.Texts.{text_cmp}
use Rattle.dr_ledger.specs.Pairs.{Pair, pair_cmp}
use Rattle.dr_ledger.specs.declared.item.Instance.{Instance}
use Rattle.dr_ledger.specs.declared.item.Progress.{Progress}
use Rattle.dr_ledger.proofs.Maps.{text_pairs}
use Rattle.dr_ledger_balance.specs.Orders.{AnswersOrder, AnswersPair, HasNeighbors, item_cmp, row_cmp}
use Rattle.dr_ledger_balance.specs.Reading.{AnswersOrders}
use Rattle.dr_ledger_balance.specs.declared.balance.Balance.{Balance}
use Rattle.dr_ledger_balance.specs.declared.fault.BalanceFault.{BalanceFault}
use Rattle.dr_ledger_balance.specs.declared.fault.BalanceFault.TheVariants as fault

pub items_total : IsTotalOrder item_cmp
items_total = on_total (λ (i : Instance). i.uid) nat_list_cmp_total

pub pairs_total : IsTotalOrder pair_cmp
pairs_total = text_pairs.total

pub texts_total : IsTotalOrder text_cmp
texts_total = nat_list_cmp_total

pub rows_total : IsTotalOrder row_cmp
rows_total = on_total (λ (r : Pair × Progress). r.0) text_pairs.total

module _ {X : Type 0} (cmp : X → X → Ordering) where
  -- the first of them, up to a place
  abbrev pub RisesTo : List X → ℕ → Type 0
  RisesTo xs end = (k : ℕ) (d : X) → k + 1 < end → cmp (get_or xs k d) (get_or xs (k + 1) d) ≡ Less

  pub rises_more : (xs : List X) (i : ℕ) (a b : X) → 1 ≤ i → i < length xs → a ≡ get_or xs (i - 1) a → b ≡ get_or xs i b → cmp a b ≡ Less → RisesTo xs i → RisesTo xs (i + 1)
  rises_more xs i a b low h at_a at_b less so_far k d below = elim (cases_lt (k + 1) i) [
    | inl before ↦ so_far k d before
    | inr here ↦
        let same : k ≡ i - 1 = omega arith in
        let next : k + 1 ≡ i = omega arith in
        let first : get_or xs k d ≡ a = ap (λ (n : ℕ). get_or xs n d) same ∙ (get_or_default xs (i - 1) d a (omega arith) ∙ sym at_a) in
        let second : get_or xs (k + 1) d ≡ b = ap (λ (n : ℕ). get_or xs n d) next ∙ (get_or_default xs i d b h ∙ sym at_b) in
        let P : X → Type 0 = λ t. cmp t (get_or xs (k + 1) d) ≡ Less in
        let Q : X → Type 0 = λ t. cmp a t ≡ Less in
        subst P (sym first) (subst Q (sym second) less)
  ]

  pub all_rise : IsTotalOrder cmp → (xs : List X) (i : ℕ) → length xs ≤ i → RisesTo xs i → IsStrictlySortedBy cmp xs
  unfolding IsStrictlySortedBy
  all_rise o [] i all so_far = tt
  all_rise o (x ∷ xs) i all so_far = sorted_from_all_adjacent o (x ∷ xs) x (λ k below. so_far k x (omega arith))

  neighbors : (xs : List X) (i : ℕ) (a b : X) (said : Ordering) → 1 ≤ i → i < length xs → a ≡ get_or xs (i - 1) a → b ≡ get_or xs i b → cmp a b ≡ said → HasNeighbors cmp said xs
  neighbors xs i a b said low h at_a at_b is = record {
    place = i - 1;
    one = a;
    next = b;
    within = omega (arith, low, h);
    is_one = at_a;
    is_next = at_b ∙ ap (λ (n : ℕ). get_or xs n b) (let e : i ≡ i - 1 + 1 = omega (arith, low) in e);
    so = is;
  }

  pub misplaced : (xs : List X) (i : ℕ) (a b : X) → 1 ≤ i → i < length xs → a ≡ get_or xs (i - 1) a → b ≡ get_or xs i b → (e : BalanceFault) → AnswersPair (cmp a b) (Err e) → AnswersOrder cmp xs (Err e)
  misplaced xs i a b low h at_a at_b fault.Twice is = neighbors xs i a b Equal low h at_a at_b is
  misplaced xs i a b low h at_a at_b fault.OutOfOrder is = neighbors xs i a b Greater low h at_a at_b is
  misplaced xs i a b low h at_a at_b fault.Cut is = is
  misplaced xs i a b low h at_a at_b fault.Changed is = is
  misplaced xs i a b low h at_a at_b fault.NoBalance is = is
  misplaced xs i a b low h at_a at_b fault.MoreThanSaid is = is
  misplaced xs i a b low h at_a at_b fault.Memory is = is

-- ---- all lists

pub in_items : (b : Balance) (e : BalanceFault) → AnswersOrder item_cmp b.items (Err e) → AnswersOrders b (Err e)
in_items b fault.Twice is = inl is
in_items b fault.OutOfOrder is = inl is
in_items b fault.Cut is = is
in_items b fault.Changed is = is
in_items b fault.NoBalance is = is
in_items b fault.MoreThanSaid is = is
in_items b fault.Memory is = is

pub in_arrivals : (b : Balance) (e : BalanceFault) → AnswersOrder pair_cmp b.arrivals (Err e) → AnswersOrders b (Err e)
in_arrivals b fault.Twice is = inr (inl is)
in_arrivals b fault.OutOfOrder is = inr (inl is)
in_arrivals b fault.Cut is = is
in_arrivals b fault.Changed is = is
in_arrivals b fault.NoBalance is = is
in_arrivals b fault.MoreThanSaid is = is
in_arrivals b fault.Memory is = is

pub in_kept : (b : Balance) (e : BalanceFault) → AnswersOrder text_cmp b.kept (Err e) → AnswersOrders b (Err e)
in_kept b fault.Twice is = inr (inr (inl is))
in_kept b fault.OutOfOrder is = inr (inr (inl is))
in_kept b fault.Cut is = is
in_kept b fault.Changed is = is
in_kept b fault.NoBalance is = is
in_kept b fault.MoreThanSaid is = is
in_kept b fault.Memory is = is

pub in_rows : (b : Balance) (e : BalanceFault) → AnswersOrder row_cmp b.rows (Err e) → AnswersOrders b (Err e)
in_rows b fault.Twice is = inr (inr (inr is))
in_rows b fault.OutOfOrder is = inr (inr (inr is))
in_rows b fault.Cut is = is
in_rows b fault.Changed is = is
in_rows b fault.NoBalance is = is
in_rows b fault.MoreThanSaid is = is
in_rows b fault.Memory is = is
