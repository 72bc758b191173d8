-- Bytes and texts as they stand between quotes, told apart from what is behind them.
use Rattle.std.proofs.Common.{◌≡◌, ◌≢◌, ◌∙◌, ◌<◌, ◌≤◌, ◌+◌, ◌-◌, ◌*◌, ◌/◌, ◌%◌, ◌==◌, ◌||◌, ◌⊎◌, inl, inr, ℕ, Bool, true, false, not, List, [], ◌∷◌, ◌++◌, Option, None, Some, Bor, refl, sym, ap, subst, arith, append_assoc, drop, get_or, length, flat_map, nat_lt, if◌then◌else◌}
use Rattle.std.proofs.lemmas.Bool.{cases_lt, eqb-true, ne_eqb, lt-ltb, le-ltb, not_from_false, true≢false}
use Rattle.std.proofs.lemmas.List.Elements.{All-head, All-tail}
use Rattle.dr_base.specs.Texts.{Text}
use Rattle.dr_base_quoted.specs.Quoting.{IsByte, hex_digit, hex_escape, is_plain, quoted, quoted_byte}
use Rattle.dr_ledger_read.specs.Cutting.{Cuts, HasNone, IsCut, Same}
use Rattle.dr_ledger_read.specs.Pieces.{AreBytes, Holds, IsEscaped, IsQuoted, IsQuotedByte}

-- ---- the five forms of a byte

abbrev escaped_third : ℕ → List ℕ
escaped_third c = if (c == 34) || (c == 92) then 92 ∷ c ∷ [] else hex_escape c

abbrev escaped_other : ℕ → List ℕ
escaped_other c = if c == 10 then 92 ∷ 110 ∷ [] else escaped_third c

pub by_form : (P : Type 0) (c : ℕ) → (is_plain c ≡ true → quoted_byte c ≡ c ∷ [] → P) → (c ≡ 10 → P) → (c ≡ 34 → P) → (c ≡ 92 → P) → (is_plain c ≡ false → quoted_byte c ≡ hex_escape c → P) → P
by_form P c plain feed quote slash hex = by_plain (is_plain c) refl
  where
    by_slash : (t : Bool) → (c == 92) ≡ t → (c == 34) ≡ false → (c == 10) ≡ false → is_plain c ≡ false → P
    by_slash true e q f p = slash (eqb-true c 92 e)
    by_slash false e q f p =
        hex p
        (ap (λ (s : Bool). if s then c ∷ [] else escaped_other c) p ∙ ap (λ (s : Bool). if s then 92 ∷ 110 ∷ [] else escaped_third c) f
        ∙ ap (λ (s : Bool). if s then 92 ∷ c ∷ [] else hex_escape c) (ap (λ (s : Bool). s || (c == 92)) q ∙ e))

    by_quote : (t : Bool) → (c == 34) ≡ t → (c == 10) ≡ false → is_plain c ≡ false → P
    by_quote true e f p = quote (eqb-true c 34 e)
    by_quote false e f p = by_slash (c == 92) refl e f p

    by_feed : (t : Bool) → (c == 10) ≡ t → is_plain c ≡ false → P
    by_feed true e p = feed (eqb-true c 10 e)
    by_feed false e p = by_quote (c == 34) refl e p

    by_plain : (t : Bool) → is_plain c ≡ t → P
    by_plain true e = plain e (ap (λ (s : Bool). if s then c ∷ [] else escaped_other c) e)
    by_plain false e = by_feed (c == 10) refl e

-- ---- a byte read again

-- the number of a digit
abbrev digit_number : ℕ → ℕ
digit_number d = if nat_lt d 58 then d - 48 else d - 87

pub digit_is : (n : ℕ) → digit_number (hex_digit n) ≡ n
digit_is n = by_size (cases_lt n 10)
  where
    by_size : (n < 10) ⊎ (10 ≤ n) → digit_number (hex_digit n) ≡ n
    by_size (inl low) =
        let e : hex_digit n ≡ 48 + n = ap (λ (t : Bool). if t then 48 + n else 87 + n) (lt-ltb n 10 low) in
        let f : digit_number (48 + n) ≡ 48 + n - 48 = ap (λ (t : Bool). if t then 48 + n - 48 else 48 + n - 87) (lt-ltb (48 + n) 58 (omega (arith, low))) in
        ap digit_number e ∙ f ∙ omega arith
    by_size (inr high) =
        let e : hex_digit n ≡ 87 + n = ap (λ (t : Bool). if t then 48 + n else 87 + n) (le-ltb n 10 high) in
        let f : digit_number (87 + n) ≡ 87 + n - 87 = ap (λ (t : Bool). if t then 87 + n - 48 else 87 + n - 87) (le-ltb (87 + n) 58 (omega (arith, high))) in
        ap digit_number e ∙ f ∙ omega arith

pub one_digit : (n m : ℕ) → hex_digit n ≡ hex_digit m → n ≡ m
one_digit n m e = sym (digit_is n) ∙ ap digit_number e ∙ digit_is m

abbrev after_backslash : ℕ → List ℕ → ℕ
after_backslash s xs = if s == 110 then 10 else (if s == 117 then digit_number (get_or xs 4 0) * 16 + digit_number (get_or xs 5 0) else s)

-- the byte that a text between quotes begins with, and what is behind it
abbrev first_byte : List ℕ → ℕ
first_byte xs = if get_or xs 0 0 == 92 then after_backslash (get_or xs 1 0) xs else get_or xs 0 0

abbrev behind_byte : List ℕ → List ℕ
behind_byte xs = if get_or xs 0 0 == 92 then (if get_or xs 1 0 == 117 then drop 6 xs else drop 2 xs) else drop 1 xs

record IsRead (c : ℕ) (xs rest : List ℕ) : Type 0 where
  byte : first_byte xs ≡ c
  more : behind_byte xs ≡ rest
  unended : get_or xs 0 0 ≢ 34

plain_read : (c : ℕ) (rest : List ℕ) → c ≢ 34 → c ≢ 92 → IsRead c (c ∷ rest) rest
plain_read c rest quote slash = record {
  byte = ap (λ (t : Bool). if t then after_backslash (get_or (c ∷ rest) 1 0) (c ∷ rest) else c) (ne_eqb c 92 slash);
  more = ap (λ (t : Bool). if t then (if get_or (c ∷ rest) 1 0 == 117 then drop 6 (c ∷ rest) else drop 2 (c ∷ rest)) else rest) (ne_eqb c 92 slash);
  unended = quote;
}

hex_read : (c : ℕ) (rest : List ℕ) → IsRead c (hex_escape c ++ rest) rest
hex_read c rest = record {
  byte = ap (λ (h : ℕ). h * 16 + digit_number (hex_digit (c % 16))) (digit_is (c / 16)) ∙ ap (λ (l : ℕ). c / 16 * 16 + l) (digit_is (c % 16)) ∙ omega arith;
  more = refl;
  unended = λ e. omega (arith, e);
}

read_byte : (c : ℕ) (rest : List ℕ) → IsRead c (quoted_byte c ++ rest) rest
read_byte c rest =
    by_form (IsRead c (quoted_byte c ++ rest) rest) c
    (λ p is. subst (λ (t : List ℕ). IsRead c (t ++ rest) rest) (sym is) (plain_read c rest (λ e. true≢false (sym p ∙ ap is_plain e)) (λ e. true≢false (sym p ∙ ap is_plain e))))
    (λ e. subst (λ (d : ℕ). IsRead d (quoted_byte d ++ rest) rest) (sym e) (record { byte = refl; more = refl; unended = λ f. omega (arith, f) }))
    (λ e. subst (λ (d : ℕ). IsRead d (quoted_byte d ++ rest) rest) (sym e) (record { byte = refl; more = refl; unended = λ f. omega (arith, f) }))
    (λ e. subst (λ (d : ℕ). IsRead d (quoted_byte d ++ rest) rest) (sym e) (record { byte = refl; more = refl; unended = λ f. omega (arith, f) }))
    (λ p is. subst (λ (t : List ℕ). IsRead c (t ++ rest) rest) (sym is) (hex_read c rest))

pub same_byte : (c d : ℕ) (x y : List ℕ) → quoted_byte c ++ x ≡ quoted_byte d ++ y → (c ≡ d) × (x ≡ y)
same_byte c d x y e =
    let r = read_byte c x in
    let s = read_byte d y in
    (sym r.byte ∙ ap first_byte e ∙ s.byte, sym r.more ∙ ap behind_byte e ∙ s.more)

-- ---- texts between quotes

-- where no byte follows, the text that was read so far is the whole of one that a quote ends
pub stopped : (t v rest later : List ℕ) → HasNone (IsQuotedByte rest) → AreBytes v → flat_map quoted_byte v ++ 34 ∷ later ≡ flat_map quoted_byte t ++ rest → (t ≡ v) × (rest ≡ 34 ∷ later)
stopped [] [] rest later none bytes e = (refl, sym e)
stopped [] (c ∷ cs) rest later none bytes e =
    absurd (none c (flat_map quoted_byte cs ++ 34 ∷ later) (All-head IsByte c cs bytes, sym e ∙ append_assoc (quoted_byte c) (flat_map quoted_byte cs) (34 ∷ later)))
stopped (d ∷ ds) [] rest later none bytes e =
    let r = read_byte d (flat_map quoted_byte ds ++ rest) in
    absurd (r.unended (sym (ap (λ (l : List ℕ). get_or l 0 0) (e ∙ append_assoc (quoted_byte d) (flat_map quoted_byte ds) rest))))
stopped (d ∷ ds) (c ∷ cs) rest later none bytes e =
    let f : quoted_byte c ++ (flat_map quoted_byte cs ++ 34 ∷ later) ≡ quoted_byte d ++ (flat_map quoted_byte ds ++ rest) =
    sym (append_assoc (quoted_byte c) (flat_map quoted_byte cs) (34 ∷ later)) ∙ e ∙ append_assoc (quoted_byte d) (flat_map quoted_byte ds) rest in
    let r = same_byte c d _ _ f in
    let on = stopped ds cs rest later none (All-tail IsByte c cs bytes) r.1 in
    (ap (λ (b : ℕ). b ∷ ds) (sym r.0) ∙ ap (λ (l : List ℕ). c ∷ l) on.0, on.1)

-- ---- digits

pub low_digit : (d : ℕ) → 48 ≤ d → d ≤ 57 → (d - 48 < 16) × (hex_digit (d - 48) ≡ d)
low_digit d low high =
    let e : hex_digit (d - 48) ≡ 48 + (d - 48) = ap (λ (t : Bool). if t then 48 + (d - 48) else 87 + (d - 48)) (lt-ltb (d - 48) 10 (omega (arith, low, high))) in
    (omega (arith, low, high), e ∙ omega (arith, low))

pub high_digit : (d : ℕ) → 97 ≤ d → d ≤ 102 → (d - 87 < 16) × (hex_digit (d - 87) ≡ d)
high_digit d low high =
    let e : hex_digit (d - 87) ≡ 87 + (d - 87) = ap (λ (t : Bool). if t then 48 + (d - 87) else 87 + (d - 87)) (le-ltb (d - 87) 10 (omega (arith, low))) in
    (omega (arith, low, high), e ∙ omega (arith, low))

-- where digits are
digit_range : (n d : ℕ) → n < 16 → hex_digit n ≡ d → ((48 ≤ d) × (d ≤ 57)) ⊎ ((97 ≤ d) × (d ≤ 102))
digit_range n d small is = by_size (cases_lt n 10)
  where
    by_size : (n < 10) ⊎ (10 ≤ n) → ((48 ≤ d) × (d ≤ 57)) ⊎ ((97 ≤ d) × (d ≤ 102))
    by_size (inl low) =
        let e : hex_digit n ≡ 48 + n = ap (λ (t : Bool). if t then 48 + n else 87 + n) (lt-ltb n 10 low) in
        inl (omega (arith, e, is), omega (arith, e, is, low))
    by_size (inr high) =
        let e : hex_digit n ≡ 87 + n = ap (λ (t : Bool). if t then 48 + n else 87 + n) (le-ltb n 10 high) in
        inr (omega (arith, e, is, high), omega (arith, e, is, small))

pub below_digits : (n d : ℕ) → n < 16 → hex_digit n ≡ d → d < 48 → ⊥
below_digits n d small is low = go (digit_range n d small is)
  where
    go : ((48 ≤ d) × (d ≤ 57)) ⊎ ((97 ≤ d) × (d ≤ 102)) → ⊥
    go (inl r) = omega (arith, r.0, low)
    go (inr r) = omega (arith, r.0, low)

pub between_digits : (n d : ℕ) → n < 16 → hex_digit n ≡ d → 57 < d → d < 97 → ⊥
between_digits n d small is low high = go (digit_range n d small is)
  where
    go : ((48 ≤ d) × (d ≤ 57)) ⊎ ((97 ≤ d) × (d ≤ 102)) → ⊥
    go (inl r) = omega (arith, r.1, low)
    go (inr r) = omega (arith, r.0, high)

pub above_digits : (n d : ℕ) → n < 16 → hex_digit n ≡ d → 102 < d → ⊥
above_digits n d small is high = go (digit_range n d small is)
  where
    go : ((48 ≤ d) × (d ≤ 57)) ⊎ ((97 ≤ d) × (d ≤ 102)) → ⊥
    go (inl r) = omega (arith, r.1, high)
    go (inr r) = omega (arith, r.1, high)

-- ---- which bytes have their digits

pub plain_is : (c : ℕ) → is_plain c ≡ true → quoted_byte c ≡ c ∷ []
plain_is c p = ap (λ (s : Bool). if s then c ∷ [] else escaped_other c) p

pub plain_unescaped : (c : ℕ) → is_plain c ≡ true → quoted_byte c ≡ hex_escape c → ⊥
plain_unescaped c p e = let f : 1 ≡ 6 = sym (ap (λ (l : List ℕ). length l) (plain_is c p)) ∙ ap (λ (l : List ℕ). length l) e in omega (arith, f)

pub feed_unescaped : (c : ℕ) → c ≡ 10 → quoted_byte c ≡ hex_escape c → ⊥
feed_unescaped c is e = let f : 2 ≡ 6 = sym (ap (λ (d : ℕ). length (quoted_byte d)) is) ∙ ap (λ (l : List ℕ). length l) e in omega (arith, f)

pub quote_unescaped : (c : ℕ) → c ≡ 34 → quoted_byte c ≡ hex_escape c → ⊥
quote_unescaped c is e = let f : 2 ≡ 6 = sym (ap (λ (d : ℕ). length (quoted_byte d)) is) ∙ ap (λ (l : List ℕ). length l) e in omega (arith, f)

slash_unescaped : (c : ℕ) → c ≡ 92 → quoted_byte c ≡ hex_escape c → ⊥
slash_unescaped c is e = let f : 2 ≡ 6 = sym (ap (λ (d : ℕ). length (quoted_byte d)) is) ∙ ap (λ (l : List ℕ). length l) e in omega (arith, f)

pub is_escaped : (c : ℕ) → is_plain c ≡ false → (c ≡ 10 → ⊥) → (c ≡ 34 → ⊥) → not (c == 92) ≡ true → quoted_byte c ≡ hex_escape c
is_escaped c p feed quote slash =
    by_form (quoted_byte c ≡ hex_escape c) c (λ q is. absurd (true≢false (sym q ∙ p))) (λ e. absurd (feed e)) (λ e. absurd (quote e))
    (λ e. absurd (true≢false (sym slash ∙ ap (λ (d : ℕ). not (d == 92)) e))) (λ q is. is)

pub no_slash : (c : ℕ) → quoted_byte c ≡ hex_escape c → not (c == 92) ≡ true
no_slash c e = not_from_false (c == 92) (ne_eqb c 92 (λ is. slash_unescaped c is e))

-- ---- a byte that has its digits

module _ (text digits : List ℕ) (whole : text ≡ 92 ∷ 117 ∷ 48 ∷ 48 ∷ digits) where
  escaped_parts : (b : ℕ) (rest : List ℕ) → IsEscaped text b rest → digits ≡ hex_digit (b / 16) ∷ hex_digit (b % 16) ∷ rest
  escaped_parts b rest is = ap (λ (l : List ℕ). drop 4 l) (sym whole ∙ is.2)

  pub no_high : length digits ≡ 0 → HasNone (IsEscaped text)
  no_high none b rest is = let f = ap (λ (l : List ℕ). length l) (escaped_parts b rest is) in omega (arith, f, none)

  pub no_low : (high : ℕ) (behind : List ℕ) → digits ≡ high ∷ behind → length behind ≡ 0 → HasNone (IsEscaped text)
  no_low high behind first none b rest is = let f = ap (λ (l : List ℕ). length l) (sym first ∙ escaped_parts b rest is) in omega (arith, f, none)

  module _ (high low : ℕ) (behind more : List ℕ) (first : digits ≡ high ∷ behind) (second : behind ≡ low ∷ more) where
    both : (b : ℕ) (rest : List ℕ) → IsEscaped text b rest → high ∷ low ∷ more ≡ hex_digit (b / 16) ∷ hex_digit (b % 16) ∷ rest
    both b rest is = ap (λ (l : List ℕ). high ∷ l) (sym second) ∙ sym first ∙ escaped_parts b rest is

    pub no_front : ((n : ℕ) → n < 16 → hex_digit n ≡ high → ⊥) → HasNone (IsEscaped text)
    no_front none b rest is = none (b / 16) (omega (arith, is.0)) (sym (ap (λ (l : List ℕ). get_or l 0 0) (both b rest is)))

    pub no_back : ((n : ℕ) → n < 16 → hex_digit n ≡ low → ⊥) → HasNone (IsEscaped text)
    no_back none b rest is = none (b % 16) (omega arith) (sym (ap (λ (l : List ℕ). get_or l 1 0) (both b rest is)))

    module _ (front back : ℕ) (a : (front < 16) × (hex_digit front ≡ high)) (z : (back < 16) × (hex_digit back ≡ low)) where
      one_escaped : (b : ℕ) (rest : List ℕ) → IsEscaped text b rest → (front * 16 + back ≡ b) × (rest ≡ more)
      one_escaped b rest is =
          let f : front ≡ b / 16 = one_digit front (b / 16) (a.1 ∙ ap (λ (l : List ℕ). get_or l 0 0) (both b rest is)) in
          let g : back ≡ b % 16 = one_digit back (b % 16) (z.1 ∙ ap (λ (l : List ℕ). get_or l 1 0) (both b rest is)) in
          (omega (arith, f, g), sym (ap (λ (l : List ℕ). drop 2 l) (both b rest is)))

      pub not_escaped : (quoted_byte (front * 16 + back) ≡ hex_escape (front * 16 + back) → ⊥) → HasNone (IsEscaped text)
      not_escaped none b rest is = none (subst (λ (d : ℕ). quoted_byte d ≡ hex_escape d) (sym (one_escaped b rest is).0) is.1)

      pub escaped_there : quoted_byte (front * 16 + back) ≡ hex_escape (front * 16 + back) → IsEscaped text (front * 16 + back) more
      escaped_there so =
          let byte = front * 16 + back in
          let f : hex_digit (byte / 16) ≡ high = ap hex_digit (let h : byte / 16 ≡ front = omega (arith, z.0) in h) ∙ a.1 in
          let g : hex_digit (byte % 16) ≡ low = ap hex_digit (let h : byte % 16 ≡ back = omega (arith, z.0) in h) ∙ z.1 in
          let e : digits ≡ hex_digit (byte / 16) ∷ hex_digit (byte % 16) ∷ more =
          first ∙ ap (λ (l : List ℕ). high ∷ l) second ∙ ap (λ (d : ℕ). d ∷ low ∷ more) (sym f) ∙ ap (λ (d : ℕ). hex_digit (byte / 16) ∷ d ∷ more) (sym g) in
          (omega (arith, a.0, z.0), so, whole ∙ ap (λ (l : List ℕ). 92 ∷ 117 ∷ 48 ∷ 48 ∷ l) e)

      pub escaped_cut : (rest : Bor (List ℕ)) → rest.now ≡ more → quoted_byte (front * 16 + back) ≡ hex_escape (front * 16 + back) → IsCut ℕ ℕ Same (IsEscaped text) (front * 16 + back, rest)
      escaped_cut rest last so = record {
        value = front * 16 + back;
        is = subst (λ (l : List ℕ). IsEscaped text (front * 16 + back) l) (sym last) (escaped_there so);
        each = λ b later is. ((one_escaped b later is).0, (one_escaped b later is).1 ∙ sym last);
      }

-- ---- a byte at the front

pub byte_cut : (text : List ℕ) (b : ℕ) (rest : Bor (List ℕ)) → b < 256 → text ≡ quoted_byte b ++ rest.now → IsCut ℕ ℕ Same (IsQuotedByte text) (b, rest)
byte_cut text b rest small is = record {
  value = b;
  is = (small, is);
  each = λ d later it. let r = same_byte b d rest.now later (sym is ∙ it.1) in (r.0, sym r.1);
}

module _ (text : List ℕ) (plain : is_plain (get_or text 0 0) ≡ false) (feed : (rest : List ℕ) → text ≡ 92 ∷ 110 ∷ rest → ⊥) (quote : (rest : List ℕ) → text ≡ 92 ∷ 34 ∷ rest → ⊥) (slash : (rest : List ℕ) → text ≡ 92 ∷ 92 ∷ rest → ⊥) where
  none_behind : ((b : ℕ) (rest : List ℕ) → IsEscaped text b rest → ⊥) → HasNone (IsQuotedByte text)
  none_behind escaped b rest is =
      by_form ⊥ b
      (λ p e. true≢false (sym (ap is_plain (ap (λ (l : List ℕ). get_or l 0 0) (is.1 ∙ ap (λ (l : List ℕ). l ++ rest) e)) ∙ p) ∙ plain))
      (λ e. feed rest (is.1 ∙ ap (λ (d : ℕ). quoted_byte d ++ rest) e))
      (λ e. quote rest (is.1 ∙ ap (λ (d : ℕ). quoted_byte d ++ rest) e))
      (λ e. slash rest (is.1 ∙ ap (λ (d : ℕ). quoted_byte d ++ rest) e))
      (λ p e. escaped b rest (is.0, e, is.1 ∙ ap (λ (l : List ℕ). l ++ rest) e))

  pub no_digits : ((rest : List ℕ) → text ≡ 92 ∷ 117 ∷ 48 ∷ 48 ∷ rest → ⊥) → HasNone (IsQuotedByte text)
  no_digits none = none_behind (λ b rest is. none _ is.2)

  pub by_digits : (r : Option (ℕ × Bor (List ℕ))) → Cuts Same (IsEscaped text) r → Cuts Same (IsQuotedByte text) r
  by_digits None none = none_behind none
  by_digits (Some (b, rest)) cut =
      let is : IsEscaped text b rest.now = subst (λ (d : ℕ). IsEscaped text d rest.now) (sym (cut.each cut.value rest.now cut.is).0) cut.is in
      byte_cut text b rest is.0 (is.2 ∙ ap (λ (l : List ℕ). l ++ rest.now) (sym is.1))

pub no_byte : (text : List ℕ) → length text ≡ 0 → HasNone (IsQuotedByte text)
no_byte text none b rest is =
    let f : length (quoted_byte b ++ rest) ≡ 0 = sym (ap (λ (l : List ℕ). length l) is.1) ∙ none in
    by_form ⊥ b
    (λ p e. let g = sym (ap (λ (l : List ℕ). length (l ++ rest)) e) ∙ f in omega (arith, g))
    (λ e. let g = sym (ap (λ (d : ℕ). length (quoted_byte d ++ rest)) e) ∙ f in omega (arith, g))
    (λ e. let g = sym (ap (λ (d : ℕ). length (quoted_byte d ++ rest)) e) ∙ f in omega (arith, g))
    (λ e. let g = sym (ap (λ (d : ℕ). length (quoted_byte d ++ rest)) e) ∙ f in omega (arith, g))
    (λ p e. let g = sym (ap (λ (l : List ℕ). length (l ++ rest)) e) ∙ f in omega (arith, g))
