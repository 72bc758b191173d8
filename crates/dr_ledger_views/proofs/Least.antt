-- The least of some moments, and of one more.
use Rattle.std.proofs.Common.{◌≡◌, ◌∙◌, ◌≤◌, ◌<◌, ◌+◌, ◌++◌, ◌∷◌, ◌⊎◌, inl, inr, [], ℕ, List, All, Contains, Option, None, Some, min, take, get_or, length, le_refl, le_of_lt, sym, ap, subst}
use Rattle.std.specs.Prelude.{filter_map}
use Rattle.std.specs.List.{cons_option}
use Rattle.std.proofs.Math.Nat.{le_trans, min-eq_left, min-eq_right, min-le_left, min-le_right}
use Rattle.std.proofs.lemmas.Bool.{cases_lt}
use Rattle.std.proofs.lemmas.List.{append-nil, take_more}
use Rattle.std.proofs.lemmas.List.Elements.{All-nil, All-push, Contains-append_left, Contains-push, filter_map-append}
use Rattle.dr_base.specs.Texts.{Text}
use Rattle.dr_ledger.specs.Books.{Row}
use Rattle.dr_ledger_views.specs.Views.{IsLeast, due_for, dues}
use Rattle.dr_ledger_views.specs.Earlier.{earlier}

lesser_is_there : (moments : List ℕ) (a b : ℕ) → Contains moments a → (a < b) ⊎ (b ≤ a) → Contains (moments ++ b ∷ []) (min a b)
lesser_is_there moments a b has (inl lt) =
    subst (λ (m : ℕ). Contains (moments ++ b ∷ []) m) (sym (min-eq_left (le_of_lt lt))) (Contains-append_left moments (b ∷ []) a has)
lesser_is_there moments a b has (inr le) = subst (λ (m : ℕ). Contains (moments ++ b ∷ []) m) (sym (min-eq_right le)) (Contains-push moments b)

one_more : (moments : List ℕ) (least due : Option ℕ) → IsLeast moments least → IsLeast (moments ++ cons_option due []) (earlier least due)
one_more moments None None h = append-nil moments ∙ h
one_more moments (Some a) None h = subst (λ (ms : List ℕ). IsLeast ms (Some a)) (sym (append-nil moments)) h
one_more moments None (Some b) h =
    let P : ℕ → Type 0 = λ moment. b ≤ moment in
    (Contains-push moments b, All-push P moments b (subst (λ (ms : List ℕ). All P ms) (sym h) (All-nil P)) (le_refl b))
one_more moments (Some a) (Some b) h =
    let P : ℕ → Type 0 = λ moment. min a b ≤ moment in (
      lesser_is_there moments a b h.0 (cases_lt a b),
      All-push P moments b (λ k d lt. le_trans (min-le_left a b) (h.1 k d lt)) (min-le_right a b),
    )

-- the least of the moments of one row more
pub due_more : (rows : List Row) (dest : Text) (i : ℕ) (row : Row) (least due next : Option ℕ) → i < length rows → row ≡ get_or rows i row
    → IsLeast (dues (take i rows) dest) least → due ≡ due_for dest row → next ≡ earlier least due → IsLeast (dues (take (i + 1) rows) dest) next
due_more rows dest i row least due next lt at so_far is_due is_next =
    let pushed : take (i + 1) rows ≡ take i rows ++ row ∷ [] = take_more rows i row lt ∙ ap (λ (r : Row). take i rows ++ r ∷ []) (sym at) in
    let more : dues (take (i + 1) rows) dest ≡ dues (take i rows) dest ++ cons_option (due_for dest row) [] =
    ap (λ (rs : List Row). filter_map (due_for dest) rs) pushed ∙ filter_map-append (due_for dest) (take i rows) (row ∷ []) in
    let said : next ≡ earlier least (due_for dest row) = is_next ∙ ap (λ (d : Option ℕ). earlier least d) is_due in
    let P : List ℕ → Type 0 = λ moments. IsLeast moments next in
    let Q : Option ℕ → Type 0 = λ n. IsLeast (dues (take i rows) dest ++ cons_option (due_for dest row) []) n in
    subst P (sym more) (subst Q (sym said) (one_more (dues (take i rows) dest) least (due_for dest row) so_far))
