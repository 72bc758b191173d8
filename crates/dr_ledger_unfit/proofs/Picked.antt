-- Rows that are picked, one after another.
use Rattle.std.proofs.Common.{◌≡◌, ◌∙◌, ◌+◌, ◌<◌, ◌++◌, ◌∷◌, [], ℕ, Bool, true, false, List, get_or, inl, inr, length, take, refl, sym, ap, subst}
use Rattle.std.specs.Prelude.{MatchBool}
use Rattle.std.proofs.lemmas.List.{take_more}
use Rattle.dr_ledger.specs.Books.{Row}
use Rattle.dr_ledger.specs.Pairs.{Pair}
use Rattle.dr_ledger_unfit.specs.Unfit.{ArePicked}

module _ (Holds Else : Row → Type 0) where
  picked_push : (rows : List Row) (row : Row) (found : List Pair) → ArePicked Holds Else rows found → Holds row → ArePicked Holds Else (rows ++ row ∷ []) (found ++ row.0 ∷ [])
  picked_push [] row found none h = inl ([], h, ap (λ (fs : List Pair). fs ++ row.0 ∷ []) none, refl)
  picked_push (r ∷ rs) row found (inl p) h = inl (p.0 ++ row.0 ∷ [], p.1, ap (λ (fs : List Pair). fs ++ row.0 ∷ []) p.2, picked_push rs row p.0 p.3 h)
  picked_push (r ∷ rs) row found (inr p) h = inr (p.0, picked_push rs row found p.1 h)

  passed_push : (rows : List Row) (row : Row) (found : List Pair) → ArePicked Holds Else rows found → Else row → ArePicked Holds Else (rows ++ row ∷ []) found
  passed_push [] row found none e = inr (e, none)
  passed_push (r ∷ rs) row found (inl p) e = inl (p.0, p.1, p.2, passed_push rs row p.0 p.3 e)
  passed_push (r ∷ rs) row found (inr p) e = inr (p.0, passed_push rs row found p.1 e)

  pushed : (rows : List Row) (row : Row) (found more : List Pair) (holds : Bool) → ArePicked Holds Else rows found → MatchBool holds (Holds row) (Else row) → MatchBool holds (more ≡ found ++ row.0 ∷ []) (more ≡ found)
      → ArePicked Holds Else (rows ++ row ∷ []) more
  pushed rows row found more true picked h is = subst (ArePicked Holds Else (rows ++ row ∷ [])) (sym is) (picked_push rows row found picked h)
  pushed rows row found more false picked e is = subst (ArePicked Holds Else (rows ++ row ∷ [])) (sym is) (passed_push rows row found picked e)

  -- one row more
  pub picked_more : (rows : List Row) (i : ℕ) (row : Row) (found more : List Pair) (holds : Bool) → i < length rows → row ≡ get_or rows i row → ArePicked Holds Else (take i rows) found
      → MatchBool holds (Holds row) (Else row) → MatchBool holds (more ≡ found ++ row.0 ∷ []) (more ≡ found) → ArePicked Holds Else (take (i + 1) rows) more
  picked_more rows i row found more holds lt at picked h is =
      subst (λ (rs : List Row). ArePicked Holds Else rs more) (ap (λ (r : Row). take i rows ++ r ∷ []) at ∙ sym (take_more rows i row lt))
      (pushed (take i rows) row found more holds picked h is)
