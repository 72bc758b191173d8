-- Runs of parts: a run goes on by one more part, a text has one run that ends it, and what begins a text also begins
-- the text with more behind it.
use Rattle.std.proofs.Common.{◌≡◌, ◌≢◌, ℕ, List, [], ◌∷◌, ◌++◌, refl, sym, ap, subst, ◌∙◌}
use Rattle.std.proofs.lemmas.List.{append-nil}
use Rattle.dr_base.specs.Runs.{Run, AreParts}

module _ {X : Type 0} (Starts : List ℕ → X → List ℕ → Type 0) where
  pub run_more : (xs : List X) (x : X) (text mid rest : List ℕ) → Run Starts xs text mid → Starts mid x rest → Run Starts (xs ++ x ∷ []) text rest
  run_more [] x text mid rest r s = (rest, subst (λ (t : List ℕ). Starts t x rest) (sym r) s, refl)
  run_more (y ∷ ys) x text mid rest r s = (r.0, r.1, run_more ys x r.0 mid rest r.2 s)

  -- another run of the text that ends no earlier goes on from where the first one is
  pub run_later : AreParts Starts → (xs ys : List X) (text mid : List ℕ) → Run Starts xs text mid → Run Starts ys text [] → (later : List X) × (ys ≡ xs ++ later) × Run Starts later mid []
  run_later parts [] ys text mid r q = (ys, refl, subst (λ (t : List ℕ). Run Starts ys t []) r q)
  run_later parts (x ∷ xs) [] text mid r q = absurd (parts.some x r.0 (subst (λ (t : List ℕ). Starts t x r.0) q r.1))
  run_later parts (x ∷ xs) (y ∷ ys) text mid r q =
      let e = parts.one text x y r.0 q.0 r.1 q.1 in
      let onward = run_later parts xs ys r.0 mid r.2 (subst (λ (t : List ℕ). Run Starts ys t []) (sym (ap (λ (p : X × List ℕ). p.1) e)) q.2) in
      (onward.0, cc (ap (λ (p : X × List ℕ). p.0) e, onward.1), onward.2)

  -- where a run ends with the text, what is left of it begins with a part
  pub starts_then : AreParts Starts → (xs ys : List X) (text mid : List ℕ) → mid ≢ [] → Run Starts xs text mid → Run Starts ys text [] → (p : X × List ℕ) × Starts mid p.0 p.1
  starts_then parts xs ys text mid some r q = let l = run_later parts xs ys text mid r q in first l.0 mid some l.2
    where
      first : (later : List X) (mid : List ℕ) → mid ≢ [] → Run Starts later mid [] → (p : X × List ℕ) × Starts mid p.0 p.1
      first [] mid some r = absurd (some r)
      first (x ∷ xs) mid some r = ((x, r.0), r.1)

  pub run_same : AreParts Starts → (xs ys : List X) (text : List ℕ) → Run Starts xs text [] → Run Starts ys text [] → ys ≡ xs
  run_same parts xs ys text r q = let l = run_later parts xs ys text [] r q in l.1 ∙ ap (λ (k : List X). xs ++ k) (none l.0 l.2) ∙ append-nil xs
    where
      none : (later : List X) → Run Starts later [] [] → later ≡ []
      none [] h = refl
      none (x ∷ later) h = absurd (parts.some x h.0 h.1)

  pub run_append : (xs ys : List X) (text mid rest : List ℕ) → Run Starts xs text mid → Run Starts ys mid rest → Run Starts (xs ++ ys) text rest
  run_append [] ys text mid rest r s = subst (λ (t : List ℕ). Run Starts ys t rest) (sym r) s
  run_append (x ∷ xs) ys text mid rest r s = (r.0, r.1, run_append xs ys r.0 mid rest r.2 s)

  pub run_longer : ((text : List ℕ) (x : X) (rest more : List ℕ) → Starts text x rest → Starts (text ++ more) x (rest ++ more)) →
      (xs : List X) (text rest more : List ℕ) → Run Starts xs text rest → Run Starts xs (text ++ more) (rest ++ more)
  run_longer on [] text rest more r = ap (λ (t : List ℕ). t ++ more) r
  run_longer on (x ∷ xs) text rest more r = (r.0 ++ more, on text x r.0 more r.1, run_longer on xs r.0 rest more r.2)
