-- Pieces at the front of a text, told apart from what is behind them.
use Rattle.std.proofs.Common.{◌≡◌, ◌≢◌, ◌∙◌, ◌<◌, ◌≤◌, ◌+◌, ◌-◌, ◌*◌, ◌/◌, ◌%◌, ◌^◌, ◌==◌, ◌||◌, ◌&&◌, ◌⊎◌, inl, inr, ℕ, Bool, true, false, List, [], ◌∷◌, ◌++◌, refl, sym, ap, subst, arith, append_assoc, drop, get_or, flat_map, codes, decimal, nat_lt, nat_le, not, if◌then◌else◌}
use Rattle.std.proofs.lemmas.Bool.{and_parts, cases_lt, eqb-true, eqb-false, ne_eqb, lt-ltb, le-ltb, not-true, true≢false}
use Rattle.std.specs.Str.Parse.{AllDigits}
use Rattle.std.proofs.lemmas.Fmt.{decimal_injective, decimal_is_IsNumeral}
use Rattle.std.proofs.lemmas.Str.Parse.{digit_from_value}
use Rattle.dr_base.specs.Texts.{Text}
use Rattle.dr_base_quoted.specs.Quoting.{hex_digit, hex_escape, is_plain, quoted, quoted_byte}
use Rattle.dr_ledger_text.specs.Members.{flag, member, number, word}

-- ---- a piece that is the same in both

pub behind_same : (p x y : List ℕ) → p ++ x ≡ p ++ y → x ≡ y
behind_same [] x y e = e
behind_same (c ∷ cs) x y e = behind_same cs x y (ap (λ (l : List ℕ). drop 1 l) e)

pub behind_piece : (p v w x y : List ℕ) → (p ++ v) ++ x ≡ (p ++ w) ++ y → v ++ x ≡ w ++ y
behind_piece p v w x y e = behind_same p (v ++ x) (w ++ y) (sym (append_assoc p v x) ∙ e ∙ append_assoc p w y)

-- ---- a byte between quotes

abbrev escaped_third : ℕ → List ℕ
escaped_third c = if (c == 34) || (c == 92) then 92 ∷ c ∷ [] else hex_escape c

abbrev escaped_other : ℕ → List ℕ
escaped_other c = if c == 10 then 92 ∷ 110 ∷ [] else escaped_third c

-- the number of a digit
abbrev digit_number : ℕ → ℕ
digit_number d = if nat_lt d 58 then d - 48 else d - 87

digit_is : (n : ℕ) → digit_number (hex_digit n) ≡ n
digit_is n = by_size (cases_lt n 10)
  where
    by_size : (n < 10) ⊎ (10 ≤ n) → digit_number (hex_digit n) ≡ n
    by_size (inl low) =
        let e : hex_digit n ≡ 48 + n = ap (λ (t : Bool). if t then 48 + n else 87 + n) (lt-ltb n 10 low) in
        let f : digit_number (48 + n) ≡ 48 + n - 48 = ap (λ (t : Bool). if t then 48 + n - 48 else 48 + n - 87) (lt-ltb (48 + n) 58 (omega (arith, low))) in
        ap digit_number e ∙ f ∙ omega arith
    by_size (inr high) =
        let e : hex_digit n ≡ 87 + n = ap (λ (t : Bool). if t then 48 + n else 87 + n) (le-ltb n 10 high) in
        let f : digit_number (87 + n) ≡ 87 + n - 87 = ap (λ (t : Bool). if t then 87 + n - 48 else 87 + n - 87) (le-ltb (87 + n) 58 (omega (arith, high))) in
        ap digit_number e ∙ f ∙ omega arith

-- the byte that a text between quotes begins with, and what is behind it
abbrev after_backslash : ℕ → List ℕ → ℕ
after_backslash s xs = if s == 110 then 10 else (if s == 117 then digit_number (get_or xs 4 0) * 16 + digit_number (get_or xs 5 0) else s)

abbrev first_byte : List ℕ → ℕ
first_byte xs = if get_or xs 0 0 == 92 then after_backslash (get_or xs 1 0) xs else get_or xs 0 0

abbrev behind_byte : List ℕ → List ℕ
behind_byte xs = if get_or xs 0 0 == 92 then (if get_or xs 1 0 == 117 then drop 6 xs else drop 2 xs) else drop 1 xs

record IsRead (c : ℕ) (xs rest : List ℕ) : Type 0 where
  byte : first_byte xs ≡ c
  more : behind_byte xs ≡ rest
  open_still : get_or xs 0 0 ≢ 34

plain_read : (c : ℕ) (rest : List ℕ) → c ≢ 34 → c ≢ 92 → IsRead c (c ∷ rest) rest
plain_read c rest quote slash = record {
  byte = ap (λ (t : Bool). if t then after_backslash (get_or (c ∷ rest) 1 0) (c ∷ rest) else c) (ne_eqb c 92 slash);
  more = ap (λ (t : Bool). if t then (if get_or (c ∷ rest) 1 0 == 117 then drop 6 (c ∷ rest) else drop 2 (c ∷ rest)) else rest) (ne_eqb c 92 slash);
  open_still = quote;
}

feed_read : (c : ℕ) (rest : List ℕ) → c ≡ 10 → IsRead c (92 ∷ 110 ∷ rest) rest
feed_read c rest is = record { byte = sym is; more = refl; open_still = λ e. omega (arith, e) }

pair_read : (c : ℕ) (rest : List ℕ) → c ≢ 110 → c ≢ 117 → IsRead c (92 ∷ c ∷ rest) rest
pair_read c rest n u = record {
  byte = ap (λ (t : Bool). if t then 10 else (if c == 117 then digit_number (get_or (92 ∷ c ∷ rest) 4 0) * 16 + digit_number (get_or (92 ∷ c ∷ rest) 5 0) else c)) (ne_eqb c 110 n)
      ∙ ap (λ (t : Bool). if t then digit_number (get_or (92 ∷ c ∷ rest) 4 0) * 16 + digit_number (get_or (92 ∷ c ∷ rest) 5 0) else c) (ne_eqb c 117 u);
  more = ap (λ (t : Bool). if t then drop 6 (92 ∷ c ∷ rest) else rest) (ne_eqb c 117 u);
  open_still = λ e. omega (arith, e);
}

hex_read : (c : ℕ) (rest : List ℕ) → IsRead c (hex_escape c ++ rest) rest
hex_read c rest = record {
  byte = ap (λ (h : ℕ). h * 16 + digit_number (hex_digit (c % 16))) (digit_is (c / 16)) ∙ ap (λ (l : ℕ). c / 16 * 16 + l) (digit_is (c % 16)) ∙ omega arith;
  more = refl;
  open_still = λ e. omega (arith, e);
}

read_byte : (c : ℕ) (rest : List ℕ) → IsRead c (quoted_byte c ++ rest) rest
read_byte c rest = by_plain (is_plain c) refl
  where
    by_pair : (t : Bool) → ((c == 34) || (c == 92)) ≡ t → IsRead c (escaped_third c ++ rest) rest
    by_pair true e =
        let is : escaped_third c ≡ 92 ∷ c ∷ [] = ap (λ (s : Bool). if s then 92 ∷ c ∷ [] else hex_escape c) e in
        let n : c ≢ 110 = λ f. true≢false (sym e ∙ ap (λ (b : ℕ). (b == 34) || (b == 92)) f) in
        let u : c ≢ 117 = λ f. true≢false (sym e ∙ ap (λ (b : ℕ). (b == 34) || (b == 92)) f) in
        subst (λ (p : List ℕ). IsRead c (p ++ rest) rest) (sym is) (pair_read c rest n u)
    by_pair false e =
        let is : escaped_third c ≡ hex_escape c = ap (λ (s : Bool). if s then 92 ∷ c ∷ [] else hex_escape c) e in
        subst (λ (p : List ℕ). IsRead c (p ++ rest) rest) (sym is) (hex_read c rest)

    by_feed : (t : Bool) → (c == 10) ≡ t → IsRead c (escaped_other c ++ rest) rest
    by_feed true e =
        let is : escaped_other c ≡ 92 ∷ 110 ∷ [] = ap (λ (s : Bool). if s then 92 ∷ 110 ∷ [] else escaped_third c) e in
        subst (λ (p : List ℕ). IsRead c (p ++ rest) rest) (sym is) (feed_read c rest (eqb-true c 10 e))
    by_feed false e =
        let is : escaped_other c ≡ escaped_third c = ap (λ (s : Bool). if s then 92 ∷ 110 ∷ [] else escaped_third c) e in
        subst (λ (p : List ℕ). IsRead c (p ++ rest) rest) (sym is) (by_pair ((c == 34) || (c == 92)) refl)

    by_plain : (t : Bool) → is_plain c ≡ t → IsRead c (quoted_byte c ++ rest) rest
    by_plain true e =
        let is : quoted_byte c ≡ c ∷ [] = ap (λ (s : Bool). if s then c ∷ [] else escaped_other c) e in
        let both = and_parts (nat_le 32 c && nat_le c 126 && not (c == 34)) (not (c == 92)) e in
        let quote = (and_parts (nat_le 32 c && nat_le c 126) (not (c == 34)) both.0).1 in
        subst (λ (p : List ℕ). IsRead c (p ++ rest) rest) (sym is) (plain_read c rest (eqb-false c 34 (not-true (c == 34) quote)) (eqb-false c 92 (not-true (c == 92) both.1)))
    by_plain false e =
        let is : quoted_byte c ≡ escaped_other c = ap (λ (s : Bool). if s then c ∷ [] else escaped_other c) e in
        subst (λ (p : List ℕ). IsRead c (p ++ rest) rest) (sym is) (by_feed (c == 10) refl)

-- ---- a text in quotes

same_between : (a b x y : List ℕ) → flat_map quoted_byte a ++ 34 ∷ x ≡ flat_map quoted_byte b ++ 34 ∷ y → (a ≡ b) × (x ≡ y)
same_between [] [] x y e = (refl, ap (λ (l : List ℕ). drop 1 l) e)
same_between [] (d ∷ ds) x y e =
    let r = read_byte d (flat_map quoted_byte ds ++ 34 ∷ y) in
    absurd (r.open_still (ap (λ (l : List ℕ). get_or l 0 0) (sym (append_assoc (quoted_byte d) (flat_map quoted_byte ds) (34 ∷ y))) ∙ sym (ap (λ (l : List ℕ). get_or l 0 0) e)))
same_between (c ∷ cs) [] x y e =
    let r = read_byte c (flat_map quoted_byte cs ++ 34 ∷ x) in
    absurd (r.open_still (ap (λ (l : List ℕ). get_or l 0 0) (sym (append_assoc (quoted_byte c) (flat_map quoted_byte cs) (34 ∷ x))) ∙ ap (λ (l : List ℕ). get_or l 0 0) e))
same_between (c ∷ cs) (d ∷ ds) x y e =
    let p = flat_map quoted_byte cs ++ 34 ∷ x in
    let q = flat_map quoted_byte ds ++ 34 ∷ y in
    let f : quoted_byte c ++ p ≡ quoted_byte d ++ q = sym (append_assoc (quoted_byte c) (flat_map quoted_byte cs) (34 ∷ x)) ∙ e ∙ append_assoc (quoted_byte d) (flat_map quoted_byte ds) (34 ∷ y) in
    let r = read_byte c p in
    let s = read_byte d q in
    let one : c ≡ d = sym r.byte ∙ ap first_byte f ∙ s.byte in
    let on = same_between cs ds x y (sym r.more ∙ ap behind_byte f ∙ s.more) in
    (ap (λ (b : ℕ). b ∷ cs) one ∙ ap (λ (l : List ℕ). d ∷ l) on.0, on.1)

quoted_then : (t x : List ℕ) → quoted t ++ x ≡ 34 ∷ (flat_map quoted_byte t ++ 34 ∷ x)
quoted_then t x = append_assoc (34 ∷ flat_map quoted_byte t) (34 ∷ []) x

pub same_quoted : (a b x y : List ℕ) → quoted a ++ x ≡ quoted b ++ y → (a ≡ b) × (x ≡ y)
same_quoted a b x y e = same_between a b x y (ap (λ (l : List ℕ). drop 1 l) (sym (quoted_then a x) ∙ e ∙ quoted_then b y))

-- ---- a number

-- no digit stands first
pub record Stops (x : List ℕ) : Type 0 where
  pub it : (get_or x 0 0 < 48) ⊎ (57 < get_or x 0 0)

no_digit : (x : List ℕ) (c : ℕ) → Stops x → (48 ≤ c) × (c ≤ 57) → get_or x 0 0 ≡ c → ⊥
no_digit x c stops is e = go stops.it
  where
    go : (get_or x 0 0 < 48) ⊎ (57 < get_or x 0 0) → ⊥
    go (inl low) = omega (arith, low, is.0, e)
    go (inr high) = omega (arith, high, is.1, e)

same_digits : (a b x y : List ℕ) → AllDigits 10 a → AllDigits 10 b → Stops x → Stops y → a ++ x ≡ b ++ y → (a ≡ b) × (x ≡ y)
same_digits [] [] x y p q s t e = (refl, e)
same_digits [] (d ∷ ds) x y p q s t e = absurd (no_digit x d s (digit_from_value d q.0) (ap (λ (l : List ℕ). get_or l 0 0) e))
same_digits (c ∷ cs) [] x y p q s t e = absurd (no_digit y c t (digit_from_value c p.0) (ap (λ (l : List ℕ). get_or l 0 0) (sym e)))
same_digits (c ∷ cs) (d ∷ ds) x y p q s t e =
    let on = same_digits cs ds x y p.1 q.1 s t (ap (λ (l : List ℕ). drop 1 l) e) in
    (ap (λ (b : ℕ). b ∷ cs) (ap (λ (l : List ℕ). get_or l 0 0) e) ∙ ap (λ (l : List ℕ). d ∷ l) on.0, on.1)

pub same_decimal : (n m : ℕ) (x y : List ℕ) → n < 2 ^ 64 → m < 2 ^ 64 → Stops x → Stops y → decimal n ++ x ≡ decimal m ++ y → (n ≡ m) × (x ≡ y)
same_decimal n m x y p q s t e =
    let r = same_digits (decimal n) (decimal m) x y (decimal_is_IsNumeral n p).0.1 (decimal_is_IsNumeral m q).0.1 s t e in
    (decimal_injective n m p q r.0, r.1)

-- ---- members

abbrev head_of : Text → Text
head_of name = codes ",\"" ++ name ++ codes "\":"

pub same_word : (name a b x y : List ℕ) → word name a ++ x ≡ word name b ++ y → (a ≡ b) × (x ≡ y)
same_word name a b x y e = same_quoted a b x y (behind_piece (head_of name) (quoted a) (quoted b) x y e)

pub same_number : (name : List ℕ) (n m : ℕ) (x y : List ℕ) → n < 2 ^ 64 → m < 2 ^ 64 → Stops x → Stops y → number name n ++ x ≡ number name m ++ y → (n ≡ m) × (x ≡ y)
same_number name n m x y p q s t e = same_decimal n m x y p q s t (behind_piece (head_of name) (decimal n) (decimal m) x y e)

pub same_value : (name v w x y : List ℕ) → member name v ++ x ≡ member name w ++ y → v ++ x ≡ w ++ y
same_value name v w x y e = behind_piece (head_of name) v w x y e

pub same_flag : (name : List ℕ) (a b : Bool) (x y : List ℕ) → flag name a ++ x ≡ flag name b ++ y → (a ≡ b) × (x ≡ y)
same_flag name true true x y e = (refl, behind_same (codes "true") x y (same_value name (codes "true") (codes "true") x y e))
same_flag name false false x y e = (refl, behind_same (codes "false") x y (same_value name (codes "false") (codes "false") x y e))
same_flag name true false x y e = let f : 116 ≡ 102 = ap (λ (l : List ℕ). get_or l 0 0) (same_value name (codes "true") (codes "false") x y e) in absurd (omega (arith, f))
same_flag name false true x y e = let f : 102 ≡ 116 = ap (λ (l : List ℕ). get_or l 0 0) (same_value name (codes "false") (codes "true") x y e) in absurd (omega (arith, f))
