-- Two lists that go together, and the items of one type.
use Rattle.std.proofs.Common.{◌≡◌, ℕ, zero, suc, ◌+◌, ◌<◌, List, [], ◌∷◌, ◌++◌, length, get_or, take, drop, map, filter, Bool, true, false, cond, eqb, refl, ap, ◌∙◌, arith, eq-eqb}
use Rattle.std.proofs.lemmas.List.{take_more}
use Rattle.dr_pdu.specs.declared.items.PduItem.{PduItem as Found}
use Rattle.dr_pdu.specs.Items.{Item, bodies}
use Rattle.dr_pdu.specs.Reads.{items}
use Rattle.dr_base.specs.Lists.{Each}

pub each_more : {A B : Type 0} (R : A → B → Type 0) (as' : List A) (bs : List B) (a : A) (b : B) → Each R as' bs → R a b → Each R (as' ++ a ∷ []) (bs ++ b ∷ [])
each_more R [] [] a b h r = (r, tt)
each_more R [] (y ∷ bs) a b h r = absurd h
each_more R (x ∷ as') [] a b h r = absurd h
each_more R (x ∷ as') (y ∷ bs) a b h r = (h.0, each_more R as' bs a b h.1 r)

-- each one of the first list has a partner
pub each_next : {A B : Type 0} (R : A → B → Type 0) (as' later : List A) (a : A) (bs : List B) → Each R (as' ++ a ∷ later) bs → (b : B) × R a b
each_next R [] later a [] h = absurd h
each_next R [] later a (b ∷ bs) h = (b, h.0)
each_next R (x ∷ as') later a [] h = absurd h
each_next R (x ∷ as') later a (y ∷ bs) h = each_next R as' later a bs h.1

-- the bodies of one type round an item of that type
bodies_round_by : (kind : ℕ) (found : List Found) (i : ℕ) (d : Found) → i < length found → eqb (get_or found i d).kind kind ≡ true
    → bodies kind (items found) ≡ bodies kind (items (take i found)) ++ (get_or found i d).body.now ∷ bodies kind (items (drop (suc i) found))
bodies_round_by kind [] i d h e = absurd (omega arith)
bodies_round_by kind (x ∷ xs) zero d h e = rw e refl
bodies_round_by kind (x ∷ xs) (suc i) d h e = at_head (eqb x.kind kind) x.body.now (bodies_round_by kind xs i d (omega arith) e)
  where
    at_head : (b : Bool) (y : List ℕ) → bodies kind (items xs) ≡ bodies kind (items (take i xs)) ++ (get_or xs i d).body.now ∷ bodies kind (items (drop (suc i) xs))
        → map (λ (z : Item). z.body) (cond b (record { kind = x.kind; body = y } ∷ filter (λ (z : Item). eqb z.kind kind) (items xs)) (filter (λ (z : Item). eqb z.kind kind) (items xs)))
        ≡ map (λ (z : Item). z.body) (cond b (record { kind = x.kind; body = y } ∷ filter (λ (z : Item). eqb z.kind kind) (items (take i xs))) (filter (λ (z : Item). eqb z.kind kind) (items (take i xs)))) ++ (get_or xs i d).body.now ∷ bodies kind (items (drop (suc i) xs))
    at_head true y ih = ap (λ (t : List (List ℕ)). y ∷ t) ih
    at_head false y ih = ih

pub bodies_round : (kind : ℕ) (found : List Found) (i : ℕ) (d : Found) → i < length found → (get_or found i d).kind ≡ kind
    → bodies kind (items found) ≡ bodies kind (items (take i found)) ++ (get_or found i d).body.now ∷ bodies kind (items (drop (suc i) found))
bodies_round kind found i d h e = bodies_round_by kind found i d h (eq-eqb _ _ e)

-- one more item of that type
pub bodies_more : (kind : ℕ) (found : List Found) (i : ℕ) (d : Found) → i < length found → (get_or found i d).kind ≡ kind
    → bodies kind (items (take (i + 1) found)) ≡ bodies kind (items (take i found)) ++ (get_or found i d).body.now ∷ []
bodies_more kind found i d h e =
    ap (λ (xs : List Found). bodies kind (items xs)) (take_more found i d h) ∙ pushed (take i found) (get_or found i d) (eq-eqb _ _ e)
  where
    pushed : (xs : List Found) (x : Found) → eqb x.kind kind ≡ true → bodies kind (items (xs ++ x ∷ [])) ≡ bodies kind (items xs) ++ x.body.now ∷ []
    pushed [] x e = rw e refl
    pushed (y ∷ ys) x e = at_head (eqb y.kind kind) y.body.now (pushed ys x e)
      where
        at_head : (b : Bool) (z : List ℕ) → bodies kind (items (ys ++ x ∷ [])) ≡ bodies kind (items ys) ++ x.body.now ∷ []
            → map (λ (w : Item). w.body) (cond b (record { kind = y.kind; body = z } ∷ filter (λ (w : Item). eqb w.kind kind) (items (ys ++ x ∷ []))) (filter (λ (w : Item). eqb w.kind kind) (items (ys ++ x ∷ []))))
            ≡ map (λ (w : Item). w.body) (cond b (record { kind = y.kind; body = z } ∷ filter (λ (w : Item). eqb w.kind kind) (items ys)) (filter (λ (w : Item). eqb w.kind kind) (items ys))) ++ x.body.now ∷ []
        at_head true z ih = ap (λ (t : List (List ℕ)). z ∷ t) ih
        at_head false z ih = ih
