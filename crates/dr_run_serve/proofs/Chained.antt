-- One after the other, and one more.
use Rattle.std.proofs.Common.{◌≡◌, subst, refl, ap, arith, ℕ, ◌+◌, ◌++◌, List, [], ◌∷◌, Bool, length}
use Rattle.std.proofs.lemmas.List.{length_push}
use Rattle.dr_run_serve.specs.Sweeps.{Chain, counted, counted_all}

pub chain_more : {X Y : Type 0} (One : X → Y → X → Type 0) (each : List Y) (x y z : X) (came : Y) → Chain One each x y → One y came z → Chain One (each ++ came ∷ []) x z
chain_more One [] x y z came h one = (z, subst (λ w. One w came z) h one, refl)
chain_more One (b ∷ each) x y z came h one = (h.0, h.1, chain_more One each h.0 y z came h.2 one)

-- and some more
pub chain_joined : {X Y : Type 0} (One : X → Y → X → Type 0) (each more : List Y) (x y z : X) → Chain One each x y → Chain One more y z → Chain One (each ++ more) x z
chain_joined One [] more x y z h also = subst (λ w. Chain One more w z) h also
chain_joined One (b ∷ each) more x y z h also = (h.0, h.1, chain_joined One each more h.0 y z h.2 also)

pub counted_more : (count : ℕ) (each : List Bool) (came : Bool) → counted_all count (each ++ came ∷ []) ≡ counted (counted_all count each) came
counted_more count [] came = refl
counted_more count (b ∷ each) came = counted_more (counted count b) each came

-- one more is some
pub some_more : {Y : Type 0} (each : List Y) (came : Y) → each ++ came ∷ [] ≡ [] → ⊥
some_more each came e = absurd (let none : length (each ++ came ∷ []) ≡ 0 = ap length e in let one = length_push each came in omega (arith, none, one))
