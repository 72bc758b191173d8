-- One part of a list, and the parts before it.
use Rattle.std.proofs.Common.{◌≡◌, ℕ, zero, suc, ◌+◌, ◌<◌, ◌≤◌, List, [], ◌∷◌, ◌++◌, length, get_or, take, map, Option, Some, None, true, refl, sym, ap, subst, ◌∙◌, arith}
use Rattle.std.specs.List.{flat_map, AllByRecursion}
use Rattle.std.specs.Option.{SomeIff, is_some}
use Rattle.std.proofs.lemmas.List.{length-append, take_more}
use Rattle.dr_pdu.specs.declared.pdu.Pdv.{Pdv}
use Rattle.dr_pdu.specs.Items.{pdv_text}
use Rattle.dr_pdu.specs.Fitting.{weight}

pub all_at : {X : Type 0} (P : X → Type 0) (xs : List X) (i : ℕ) (d : X) → i < length xs → AllByRecursion P xs → P (get_or xs i d)
all_at P [] i d h a = absurd (omega arith)
all_at P (x ∷ xs) zero d h a = a.0
all_at P (x ∷ xs) (suc i) d h a = all_at P xs i d (omega arith) a.1

pub all_more : {X : Type 0} (P : X → Type 0) (xs : List X) (x : X) → AllByRecursion P xs → P x → AllByRecursion P (xs ++ x ∷ [])
all_more P [] x a p = (p, tt)
all_more P (y ∷ ys) x a p = (a.0, all_more P ys x a.1 p)

-- values: those before and the one here are among all
pub value_among : (ps : List Pdv) (i : ℕ) (d : Pdv) → i < length ps → length (flat_map pdv_text (take i ps)) + (6 + length (get_or ps i d).fragment) ≤ length (flat_map pdv_text ps)
value_among [] i d h = absurd (omega arith)
value_among (p ∷ ps) zero d h = omega (arith, length-append p.fragment (flat_map pdv_text ps))
value_among (p ∷ ps) (suc i) d h =
    omega (arith, length-append p.fragment (flat_map pdv_text ps), length-append p.fragment (flat_map pdv_text (take i ps)), value_among ps i d (omega arith))

-- bodies: those before and the one here are among all
pub body_among : (bs : List (List ℕ)) (i : ℕ) (d : List ℕ) → i < length bs → weight (take i bs) + (4 + length (get_or bs i d)) ≤ weight bs
body_among [] i d h = absurd (omega arith)
body_among (b ∷ bs) zero d h = omega arith
body_among (b ∷ bs) (suc i) d h = omega (arith, body_among bs i d (omega arith))

-- the bodies of values of a type
pub weight_among : {C : Type 0} (body_of : C → List ℕ) (cs : List C) (i : ℕ) (d : C) → i < length cs → weight (map body_of (take i cs)) + (4 + length (body_of (get_or cs i d))) ≤ weight (map body_of cs)
weight_among body_of [] i d h = absurd (omega arith)
weight_among body_of (c ∷ cs) zero d h = omega arith
weight_among body_of (c ∷ cs) (suc i) d h = omega (arith, weight_among body_of cs i d (omega arith))

pub value_here : (ps : List Pdv) (i : ℕ) (d : Pdv) → i < length ps → d ≡ get_or ps i d → length (flat_map pdv_text (take i ps)) + (6 + length d.fragment) ≤ length (flat_map pdv_text ps)
value_here ps i d h is = let e = ap (λ (p : Pdv). length p.fragment) is in omega (arith, value_among ps i d h, e)

pub name_here : (bs : List (List ℕ)) (i : ℕ) (d : List ℕ) → i < length bs → d ≡ get_or bs i d → weight (take i bs) + (4 + length d) ≤ weight bs
name_here bs i d h is = let e = ap (λ (b : List ℕ). length b) is in omega (arith, body_among bs i d h, e)

weight_push : (bs : List (List ℕ)) (b : List ℕ) → weight (bs ++ b ∷ []) ≡ weight bs + (4 + length b)
weight_push [] b = omega arith
weight_push (c ∷ cs) b = omega (arith, weight_push cs b)

pub name_more : (bs : List (List ℕ)) (i : ℕ) (d : List ℕ) → i < length bs → d ≡ get_or bs i d → weight (take (i + 1) bs) ≡ weight (take i bs) + (4 + length d)
name_more bs i d h is = ap weight (take_more bs i d h ∙ ap (λ (b : List ℕ). take i bs ++ b ∷ []) (sym is)) ∙ weight_push (take i bs) d

pub all_names_more : (P : List ℕ → Type 0) (bs : List (List ℕ)) (i : ℕ) (d : List ℕ) → i < length bs → d ≡ get_or bs i d → AllByRecursion P (take i bs) → P d → AllByRecursion P (take (i + 1) bs)
all_names_more P bs i d h is a p = subst (λ (xs : List (List ℕ)). AllByRecursion P xs) (sym (take_more bs i d h ∙ ap (λ (b : List ℕ). take i bs ++ b ∷ []) (sym is))) (all_more P (take i bs) d a p)

pub weight_here : {C : Type 0} (body_of : C → List ℕ) (cs : List C) (i : ℕ) (d : C) → i < length cs → d ≡ get_or cs i d → weight (map body_of (take i cs)) + (4 + length (body_of d)) ≤ weight (map body_of cs)
weight_here {C} body_of cs i d h is = let e = ap (λ (c : C). length (body_of c)) is in omega (arith, weight_among body_of cs i d h, e)

weight_of_push : {C : Type 0} (body_of : C → List ℕ) (cs : List C) (d : C) → weight (map body_of (cs ++ d ∷ [])) ≡ weight (map body_of cs) + (4 + length (body_of d))
weight_of_push body_of [] d = omega arith
weight_of_push body_of (c ∷ cs) d = omega (arith, weight_of_push body_of cs d)

pub weight_more : {C : Type 0} (body_of : C → List ℕ) (cs : List C) (i : ℕ) (d : C) → i < length cs → d ≡ get_or cs i d → weight (map body_of (take (i + 1) cs)) ≡ weight (map body_of (take i cs)) + (4 + length (body_of d))
weight_more {C} body_of cs i d h is = ap (λ (xs : List C). weight (map body_of xs)) (take_more cs i d h ∙ ap (λ (c : C). take i cs ++ c ∷ []) (sym is)) ∙ weight_of_push body_of (take i cs) d

pub all_items_more : {C : Type 0} (P : C → Type 0) (cs : List C) (i : ℕ) (d : C) → i < length cs → d ≡ get_or cs i d → AllByRecursion P (take i cs) → P d → AllByRecursion P (take (i + 1) cs)
all_items_more {C} P cs i d h is a p = subst (λ (xs : List C). AllByRecursion P xs) (sym (take_more cs i d h ∙ ap (λ (c : C). take i cs ++ c ∷ []) (sym is))) (all_more P (take i cs) d a p)

-- an answer that is there just where a fact holds
pub there_iff : (o : Option ℕ) (P : Type 0) (v : ℕ) → SomeIff o P v → (is_some o ≡ true → P) × (P → is_some o ≡ true)
there_iff None P v h = ((λ e. absurd (cc)), (λ p. absurd (h p)))
there_iff (Some x) P v h = ((λ e. h.0), (λ p. refl))
