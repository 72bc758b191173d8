-- The first of rows in the order of their moments.
use Rattle.std.proofs.Common.{◌≡◌, ◌∙◌, ap, sym, refl, arith, ℕ, ◌<◌, List, [], ◌∷◌, Option, None, Some, length}
use Rattle.std.proofs.lemmas.Bool.{false≢true}
use Rattle.std.specs.Prelude.{IsSome, is_some, slice_get}
use Rattle.dr_base.specs.Texts.{Text}
use Rattle.dr_run_serve.specs.Waitings.{longest_of}

abbrev the : {X : Type 0} → X → Option X → X
the x None = x
the x (Some y) = y

pub first_longest : (ages : List (ℕ × Text)) (age : ℕ × Text) (uid : Text) → slice_get ages 0 ≡ Some age → uid ≡ age.1 → Some (uid, age.0) ≡ longest_of ages
first_longest [] age uid e is = absurd (false≢true (ap is_some e))
first_longest (x ∷ xs) age uid e is =
    let same : age ≡ x = sym (ap (λ (o : Option (ℕ × Text)). the x o) e) in
    let pair : ◌≡◌ {A = Text × ℕ} (uid, age.0) (x.1, x.0) = λ i. ((is ∙ ap (λ (a : ℕ × Text). a.1) same) i, ap (λ (a : ℕ × Text). a.0) same i) in
    ap (λ (p : Text × ℕ). Some p) pair

pub none_longest : (ages : List (ℕ × Text)) → (0 < length ages → ⊥) → None ≡ longest_of ages
none_longest [] none = refl
none_longest (x ∷ xs) none = absurd (none (omega arith))
