-- The figures of lines with their numbers.
use Rattle.std.proofs.Common.{◌≡◌, ℕ, List, [], ◌∷◌, codes, length, refl, ap, arith}
use Rattle.dr_base.specs.Texts.{Text}
use Rattle.dr_ledger.specs.Books.{Adoption, Forgetting, Line}
use Rattle.dr_ledger_views.specs.LineLaws.{LineFiguresAreRight}

same_first : (m n : ℕ) (x y : Line) (es fs : List (ℕ × Line)) → (m, x) ∷ es ≡ (n, y) ∷ fs → (m ≡ n) × (x ≡ y) × (es ≡ fs)
same_first m n x y es fs h =
    let both : (m, x) ≡ (n, y) = cc in
    let rest : es ≡ fs = cc in
    (ap (λ (e : ℕ × Line). e.0) both, ap (λ (e : ℕ × Line). e.1) both, rest)

other_lines : (uid : Text) → Adoption ≡ Forgetting uid → ⊥
other_lines uid h = let f : ⊥ = cc in f

pub line_figures : LineFiguresAreRight
line_figures = record {
  page = refl;
  last = refl;
  not_one_further = λ h. other_lines (codes "1.2") (same_first 2 2 Adoption (Forgetting (codes "1.2")) [] [] h).1;
  not_a_part = λ h. let it : 1 ≡ 2 = ap (λ (es : List (ℕ × Line)). length es) h in omega (arith, it);
  numbers = refl;
  none_is_missing = λ h.
      let let_go : Line = Forgetting (codes "1.2") in
      let third : List (ℕ × Line) = (3, Adoption) ∷ [] in
      let second : List (ℕ × Line) = (2, Adoption) ∷ [] in
      let it : 3 ≡ 2 = (same_first 3 2 Adoption Adoption [] [] (same_first 1 1 let_go let_go third second h).2).0 in
      omega (arith, it);
}
