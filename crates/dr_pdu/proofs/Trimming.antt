-- Names without their padding, and titles with it.
use Rattle.std.proofs.Common.{◌≡◌, ℕ, zero, suc, ◌-◌, ◌≤◌, List, [], ◌∷◌, ◌++◌, length, replicate, Bool, true, false, cond, eqb, refl, ap, ◌∙◌, arith}
use Rattle.std.proofs.lemmas.List.{length-append, length-replicate}
use Rattle.dr_base.specs.Padding.{is_padding, onto, unpadded, without_spaces, trimmed}
use Rattle.dr_pdu.specs.Written.{padded}

onto_short : (b : ℕ) (u : List ℕ) → length (onto b u) ≤ suc (length u)
onto_short b [] = by_test (is_padding b)
  where
    by_test : (t : Bool) → length (cond t [] (b ∷ [])) ≤ 1
    by_test true = omega arith
    by_test false = omega arith
onto_short b (c ∷ cs) = omega arith

pub unpadded_short : (t : List ℕ) → length (unpadded t) ≤ length t
unpadded_short [] = omega arith
unpadded_short (b ∷ bs) = omega (arith, onto_short b (unpadded bs), unpadded_short bs)

without_short : (t : List ℕ) → length (without_spaces t) ≤ length t
without_short [] = omega arith
without_short (b ∷ bs) = by_test (eqb b 32) (without_short bs)
  where
    by_test : (t : Bool) → length (without_spaces bs) ≤ length bs → length (cond t (without_spaces bs) (b ∷ bs)) ≤ suc (length bs)
    by_test true h = omega arith
    by_test false h = omega arith

pub title_short : (t : List ℕ) → length (trimmed t) ≤ length t
title_short t = omega (arith, unpadded_short (without_spaces t), without_short t)

-- what was trimmed stays
onto_twice : (b : ℕ) (u : List ℕ) → unpadded u ≡ u → unpadded (onto b u) ≡ onto b u
onto_twice b [] h = by_test (is_padding b) refl
  where
    by_test : (t : Bool) → is_padding b ≡ t → unpadded (cond t [] (b ∷ [])) ≡ cond t [] (b ∷ [])
    by_test true e = refl
    by_test false e = rw e refl
onto_twice b (c ∷ cs) h = ap (onto b) h

pub unpadded_twice : (t : List ℕ) → unpadded (unpadded t) ≡ unpadded t
unpadded_twice [] = refl
unpadded_twice (b ∷ bs) = onto_twice b (unpadded bs) (unpadded_twice bs)

-- where the first byte is no space, none is dropped in front
first_stays : (b : ℕ) (u : List ℕ) → eqb b 32 ≡ false → without_spaces (onto b u) ≡ onto b u
first_stays b [] h = by_test (is_padding b)
  where
    by_test : (t : Bool) → without_spaces (cond t [] (b ∷ [])) ≡ cond t [] (b ∷ [])
    by_test true = refl
    by_test false = rw h refl
first_stays b (c ∷ cs) h = rw h refl

pub title_twice : (t : List ℕ) → trimmed (trimmed t) ≡ trimmed t
title_twice [] = refl
title_twice (b ∷ bs) = by_test (eqb b 32) refl (title_twice bs)
  where
    by_test : (t : Bool) → eqb b 32 ≡ t → trimmed (trimmed bs) ≡ trimmed bs → trimmed (unpadded (cond t (without_spaces bs) (b ∷ bs))) ≡ unpadded (cond t (without_spaces bs) (b ∷ bs))
    by_test true e h = h
    by_test false e h = ap unpadded (first_stays b (unpadded bs) e) ∙ unpadded_twice (b ∷ bs)

-- spaces behind a name are padding
spaces_padding : (n : ℕ) → unpadded (replicate n 32) ≡ []
spaces_padding zero = refl
spaces_padding (suc n) = rw (spaces_padding n) refl

no_spaces : (n : ℕ) → without_spaces (replicate n 32) ≡ []
no_spaces zero = refl
no_spaces (suc n) = no_spaces n

unpadded_behind : (t : List ℕ) (n : ℕ) → unpadded (t ++ replicate n 32) ≡ unpadded t
unpadded_behind [] n = spaces_padding n
unpadded_behind (b ∷ bs) n = ap (onto b) (unpadded_behind bs n)

title_behind : (t : List ℕ) (n : ℕ) → trimmed (t ++ replicate n 32) ≡ trimmed t
title_behind [] n = rw (no_spaces n) refl
title_behind (b ∷ bs) n = by_test (eqb b 32) (title_behind bs n)
  where
    by_test : (t : Bool) → trimmed (bs ++ replicate n 32) ≡ trimmed bs → unpadded (cond t (without_spaces (bs ++ replicate n 32)) (b ∷ bs ++ replicate n 32)) ≡ unpadded (cond t (without_spaces bs) (b ∷ bs))
    by_test true h = h
    by_test false h = unpadded_behind (b ∷ bs) n

pub title_of_padded : (name : List ℕ) → trimmed (padded name) ≡ trimmed name
title_of_padded name = title_behind name (16 - length name)

pub length_of_padded : (name : List ℕ) → length name ≤ 16 → length (padded name) ≡ 16
length_of_padded name h = omega (arith, h, length-append name (replicate (16 - length name) 32), length-replicate {A = ℕ} (16 - length name) 32)
