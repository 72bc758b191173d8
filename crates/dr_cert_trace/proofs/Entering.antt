-- Whether a key enters at a site.
use Rattle.std.proofs.Common.{◌≡◌, ℕ, suc, ◌↔◌, true, false, List, [], ◌∷◌, length, Contains, IsTrue, ap}
use Rattle.std.specs.Prelude.{not, ◌==◌}
use Rattle.std.proofs.Math.Dec.{eqb-suc-zero}
use Rattle.dr_base.specs.Texts.{Text}
use Rattle.dr_plan_model.proofs.Gathered.{nothing_in_nil, Contains-here}

some_left : (n : ℕ) → (not (suc n == 0)) ≡ true
some_left n = ap not (eqb-suc-zero n)

-- there is one among them just where the list isn't empty
pub is_entry : (P : Text → Type 0) (to : List Text) → ((name : Text) → Contains to name ↔ P name) → IsTrue (not (length to == 0)) ↔ ((name : Text) × P name)
is_entry P [] same = (λ h. (let none : false ≡ true = h in absurd (cc)), λ some. absurd (nothing_in_nil some.0 ((same some.0).1 some.1)))
is_entry P (name ∷ more) same = (λ h. (name, (same name).0 (Contains-here name more)), λ some. some_left (length more))
