-- Rows that are made element by element.
use Rattle.std.proofs.Common.{◌≡◌, ℕ, ◌+◌, ◌<◌, refl, sym, ap, subst, ◌∙◌, List, [], ◌∷◌, ◌++◌, length, get_or, take, arith, append_assoc}
use Rattle.std.proofs.lemmas.List.{take_more, length-take-le, append-nil}
use Rattle.dr_base.specs.Texts.{Text}
use Rattle.dr_cert_lint.specs.Texts.{AreRows}

module _ {X : Type 0} (Has : ℕ → X → Text → Type 0) where
  -- one element more at the end
  rows_push : (number : ℕ) (xs : List X) (y : X) (done here : Text) → AreRows Has number xs done → Has (number + length xs) y here → AreRows Has number (xs ++ y ∷ []) (done ++ here)
  rows_push number [] y done here rows has =
      let same : number + 0 ≡ number = omega arith in
      (here, [], subst (λ (n : ℕ). Has n y here) same has, refl, ap (λ (d : Text). d ++ here) rows ∙ sym (append-nil here))
  rows_push number (x ∷ xs) y done here rows has =
      let same : number + length (x ∷ xs) ≡ number + 1 + length xs = omega arith in
      (rows.0, rows.1 ++ here, rows.2, rows_push (number + 1) xs y rows.1 here rows.3 (subst (λ (n : ℕ). Has n y here) same has), ap (λ (d : Text). d ++ here) rows.4 ∙ append_assoc rows.0 rows.1 here)

  -- the rows of one element more of a list
  pub rows_more : (xs : List X) (i : ℕ) (x : X) (done here : Text) → i < length xs → x ≡ get_or xs i x → AreRows Has 1 (take i xs) done → Has (i + 1) x here → AreRows Has 1 (take (i + 1) xs) (done ++ here)
  rows_more xs i x done here lt at rows has =
      let pushed : take (i + 1) xs ≡ take i xs ++ x ∷ [] = take_more xs i x lt ∙ ap (λ (y : X). take i xs ++ y ∷ []) (sym at) in
      let few : length (take i xs) ≡ i = length-take-le i xs (omega arith) in
      let same : i + 1 ≡ 1 + length (take i xs) = omega arith in
      subst (λ (ys : List X). AreRows Has 1 ys (done ++ here)) (sym pushed) (rows_push 1 (take i xs) x done here rows (subst (λ (n : ℕ). Has n x here) same has))

  -- the rows of these elements were added
  abbrev pub AreAdded : List X → List ℕ → List ℕ → Type 0
  AreAdded xs old new = (done : Text) × AreRows Has 1 xs done × (new ≡ old ++ done)

  pub none_added : (old : List ℕ) → AreAdded [] old old
  none_added old = ([], refl, sym (append-nil old))

  pub one_added : (xs : List X) (i : ℕ) (x : X) (old before now : List ℕ) → i < length xs → x ≡ get_or xs i x → AreAdded (take i xs) old before →
      ((here : Text) × Has (i + 1) x here × (now ≡ before ++ here)) → AreAdded (take (i + 1) xs) old now
  one_added xs i x old before now lt at so_far more = (
    so_far.0 ++ more.0,
    rows_more xs i x so_far.0 more.0 lt at so_far.1 more.1,
    more.2 ∙ ap (λ (b : List ℕ). b ++ more.0) so_far.2 ∙ append_assoc old so_far.0 more.0,
  )

  pub all_added : (xs : List X) (i : ℕ) (old now : List ℕ) → take i xs ≡ xs → AreAdded (take i xs) old now → AreAdded xs old now
  all_added xs i old now all so_far = subst (λ (ys : List X). AreAdded ys old now) all so_far
