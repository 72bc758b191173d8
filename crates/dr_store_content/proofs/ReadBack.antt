-- A row's bytes are those of one row.
use Rattle.std.proofs.Common.{◌≡◌, ◌∙◌, ℕ, ℤ, ◌<◌, ◌^◌, List, [], ◌∷◌, ◌++◌, length, drop, get_or, flat_map, refl, sym, ap, arith, append_assoc}
use Rattle.std.proofs.lemmas.Nat.{from_le_bytes-to_le_bytes_8}
use Rattle.std.proofs.lemmas.Int.{to_z-of_z}
use mir.ValLaws as laws
use Rattle.std.proofs.lemmas.List.Elements.{All-head, All-tail}
use Rattle.std.specs.Prelude.{All, FitsSigned}
use Rattle.std.specs.Int.{w64, cast_signed, cast_unsigned, from_le_bytes, to_le_bytes}
use Rattle.sqlite_value.specs.declared.value.Value.{Value}
use Rattle.sqlite_value.specs.declared.value.Value.TheVariants.{Null, Int, Real, Text, Blob}
use Rattle.dr_store_content.specs.Rows.{cell_text, counted, row_text}
use Rattle.dr_store_content.specs.Laws.{IsCell}

-- lists of one length in front of others
same_front : (a b x y : List ℕ) → length a ≡ length b → a ++ x ≡ b ++ y → (a ≡ b) × (x ≡ y)
same_front [] [] x y l e = (refl, e)
same_front [] (d ∷ ds) x y l e = absurd (omega (arith, l))
same_front (c ∷ cs) [] x y l e = absurd (omega (arith, l))
same_front (c ∷ cs) (d ∷ ds) x y l e =
    let on = same_front cs ds x y (omega (arith, l)) (ap (λ (xs : List ℕ). drop 1 xs) e) in
    (ap (λ (n : ℕ). n ∷ cs) (ap (λ (xs : List ℕ). get_or xs 0 0) e) ∙ ap (λ (xs : List ℕ). d ∷ xs) on.0, on.1)

-- a number in eight bytes in front of others
same_number : (n m : ℕ) (x y : List ℕ) → n < 2 ^ 64 → m < 2 ^ 64 → to_le_bytes w64 n ++ x ≡ to_le_bytes w64 m ++ y → (n ≡ m) × (x ≡ y)
same_number n m x y fits also e =
    let r = same_front (to_le_bytes w64 n) (to_le_bytes w64 m) x y refl e in
    (sym (from_le_bytes-to_le_bytes_8 n fits) ∙ ap (λ (bytes : List ℕ). from_le_bytes w64 bytes) r.0 ∙ from_le_bytes-to_le_bytes_8 m also, r.1)

-- bytes behind their number in front of others
same_counted : (a b x y : List ℕ) → length a < 2 ^ 64 → length b < 2 ^ 64 → counted a ++ x ≡ counted b ++ y → (a ≡ b) × (x ≡ y)
same_counted a b x y fits also e =
    let r = same_number (length a) (length b) (a ++ x) (b ++ y) fits also (sym (append_assoc (to_le_bytes w64 (length a)) a x) ∙ e ∙ append_assoc (to_le_bytes w64 (length b)) b y) in
    same_front a b x y r.0 r.1

behind : (a b : ℕ) (x y : List ℕ) → a ∷ x ≡ b ∷ y → (a ≡ b) × (x ≡ y)
behind a b x y e = (ap (λ (xs : List ℕ). get_or xs 0 0) e, ap (λ (xs : List ℕ). drop 1 xs) e)

-- a cell in front of others
same_cell : (a b : Value) (x y : List ℕ) → IsCell a → IsCell b → cell_text a ++ x ≡ cell_text b ++ y → (a ≡ b) × (x ≡ y)
same_cell Null Null x y p q e = (refl, (behind 0 0 x y e).1)
same_cell (Int n) (Int m) x y p q e =
    let r = same_front (to_le_bytes w64 (cast_unsigned w64 n)) (to_le_bytes w64 (cast_unsigned w64 m)) x y refl (behind 1 1 (to_le_bytes w64 (cast_unsigned w64 n) ++ x) (to_le_bytes w64 (cast_unsigned w64 m) ++ y) e).1 in
    (ap (λ (k : ℤ). Int k) (same_int n m p q r.0), r.1)
  where
    same_int : (n m : ℤ) → FitsSigned w64 n → FitsSigned w64 m → to_le_bytes w64 (cast_unsigned w64 n) ≡ to_le_bytes w64 (cast_unsigned w64 m) → n ≡ m
    same_int n m f g same =
        let r = same_number (cast_unsigned w64 n) (cast_unsigned w64 m) [] [] (laws.of_z_fits w64 n f).fits (laws.of_z_fits w64 m g).fits (ap (λ (bytes : List ℕ). bytes ++ []) same) in
        sym (to_z-of_z w64 n f) ∙ ap (λ (k : ℕ). cast_signed w64 k) r.0 ∙ to_z-of_z w64 m g
same_cell (Text s) (Text t) x y p q e =
    let r = same_counted s t x y p q (behind 3 3 (counted s ++ x) (counted t ++ y) e).1 in
    (ap (λ (k : List ℕ). Text k) r.0, r.1)
same_cell (Blob s) (Blob t) x y p q e =
    let r = same_counted s t x y p q (behind 4 4 (counted s ++ x) (counted t ++ y) e).1 in
    (ap (λ (k : List ℕ). Blob k) r.0, r.1)
same_cell (Real a) b x y p q e = absurd p
same_cell a (Real b) x y p q e = absurd q
same_cell a b x y p q e = absurd (omega (arith, ap (λ (xs : List ℕ). get_or xs 0 0) e))

-- a cell has a byte
never_empty : (a : Value) (x : List ℕ) → [] ≡ cell_text a ++ x → ⊥
never_empty Null x e = omega (arith, ap length e)
never_empty (Int n) x e = omega (arith, ap length e)
never_empty (Real n) x e = omega (arith, ap length e)
never_empty (Text t) x e = omega (arith, ap length e)
never_empty (Blob b) x e = omega (arith, ap length e)

same_cells : (a b : List Value) → All IsCell a → All IsCell b → flat_map cell_text a ≡ flat_map cell_text b → a ≡ b
same_cells [] [] p q e = refl
same_cells [] (d ∷ ds) p q e = absurd (never_empty d (flat_map cell_text ds) e)
same_cells (c ∷ cs) [] p q e = absurd (never_empty c (flat_map cell_text cs) (sym e))
same_cells (c ∷ cs) (d ∷ ds) p q e =
    let r = same_cell c d (flat_map cell_text cs) (flat_map cell_text ds) (All-head IsCell c cs p) (All-head IsCell d ds q) e in
    let on = same_cells cs ds (All-tail IsCell c cs p) (All-tail IsCell d ds q) r.1 in
    ap (λ (v : Value). v ∷ cs) r.0 ∙ ap (λ (vs : List Value). d ∷ vs) on

pub one_row : (table other : List ℕ) (cells more : List Value)
    → length table < 2 ^ 64 → length other < 2 ^ 64 → All IsCell cells → All IsCell more
    → row_text table cells ≡ row_text other more → (table ≡ other) × (cells ≡ more)
one_row table other cells more fits also p q e =
    let r = same_counted table other (flat_map cell_text cells) (flat_map cell_text more) fits also e in
    (r.0, same_cells cells more p q r.1)
