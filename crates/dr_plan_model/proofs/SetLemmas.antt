-- Values that are looked for in sets.
use Rattle.std.proofs.Common.{◌≡◌, ℕ, zero, suc, ◌<◌, ◌⊎◌, sym, subst, List, [], ◌∷◌, length, get_or, Contains, arith}
use Rattle.std.specs.Prelude.{◌↔◌}
use Rattle.std.specs.List.{AllZip}
use Rattle.dr_base.specs.Texts.{Text}
use Rattle.dr_route.specs.declared.cell.FieldValues.{FieldValues}
use Rattle.dr_plan_model.specs.declared.plan.Values.{Values}
use Rattle.dr_plan_model.specs.declared.plan.Values.TheVariants as values
use Rattle.dr_plan_model.specs.Naming.{listed_literals, listed_prefixes}
use Rattle.dr_plan_model.specs.Walks.{IsListed, BeginsOne}

-- of values that are a list, just those are spoken of that it has, and those that begin with a prefix that it has
pub listed_is : (v : Values) (own : FieldValues) (t : Text) → v ≡ values.Listed own → IsListed v t ↔ (Contains (listed_literals v) t ⊎ BeginsOne (listed_prefixes v) t)
listed_is v own t is =
    let P : Values → Type 0 = λ x. IsListed x t ↔ (Contains (listed_literals x) t ⊎ BeginsOne (listed_prefixes x) t) in subst P (sym is) (λ h. h, λ h. h)

-- the items at one place of lists that go together
pub zipped_at : {A B : Type 0} (R : A → B → Type 0) (xs : List A) (ys : List B) (k : ℕ) (d : A) (e : B) → AllZip R xs ys → k < length xs → R (get_or xs k d) (get_or ys k e)
zipped_at R [] [] k d e all below = absurd (omega (arith, below))
zipped_at R [] (y ∷ ys) k d e all below = absurd all
zipped_at R (x ∷ xs) [] k d e all below = absurd all
zipped_at R (x ∷ xs) (y ∷ ys) zero d e all below = all.0
zipped_at R (x ∷ xs) (y ∷ ys) (suc k) d e all below = zipped_at R xs ys k d e all.1 (omega (arith, below))
