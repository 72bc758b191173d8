-- Numbers, cut off the front of a text.
use Rattle.std.proofs.Common.{◌≡◌, ◌∙◌, ◌<◌, ◌≤◌, ◌+◌, ◌^◌, ◌⊎◌, inl, inr, ℕ, List, [], ◌∷◌, ◌++◌, Option, None, Some, Bor, refl, sym, ap, subst, arith, drop, get_or, length, take, decimal}
use Rattle.std.proofs.lemmas.List.{drop_all, get_or-drop, take_more}
use Rattle.std.specs.Str.Parse.{AllDigits}
use Rattle.std.specs.Char.{digit_value}
use Rattle.std.proofs.lemmas.Fmt.{decimal_injective, decimal_is_IsNumeral}
use Rattle.std.proofs.lemmas.Str.Parse.{digit_from_value}
use Rattle.dr_base.specs.Numbers.{IsNumeral}
use Rattle.dr_ledger_text.proofs.Pieces.{behind_same}
use Rattle.dr_ledger_read.specs.Cutting.{Cuts, HasNone, IsCut, Same}
use Rattle.dr_ledger_read.specs.Pieces.{IsCount, IsNumber, EndsDigits}

not_here : (x : List ℕ) (c : ℕ) → EndsDigits x → (48 ≤ c) × (c ≤ 57) → get_or x 0 0 ≡ c → ⊥
not_here x c stops is e = go stops.it
  where
    go : (get_or x 0 0 < 48) ⊎ (57 < get_or x 0 0) → ⊥
    go (inl low) = omega (arith, low, is.0, e)
    go (inr high) = omega (arith, high, is.1, e)

pub same_digits : (a b x y : List ℕ) → AllDigits 10 a → AllDigits 10 b → EndsDigits x → EndsDigits y → a ++ x ≡ b ++ y → (a ≡ b) × (x ≡ y)
same_digits [] [] x y p q s t e = (refl, e)
same_digits [] (d ∷ ds) x y p q s t e = absurd (not_here x d s (digit_from_value d q.0) (ap (λ (l : List ℕ). get_or l 0 0) e))
same_digits (c ∷ cs) [] x y p q s t e = absurd (not_here y c t (digit_from_value c p.0) (ap (λ (l : List ℕ). get_or l 0 0) (sym e)))
same_digits (c ∷ cs) (d ∷ ds) x y p q s t e =
    let on = same_digits cs ds x y p.1 q.1 s t (ap (λ (l : List ℕ). drop 1 l) e) in
    (ap (λ (b : ℕ). b ∷ cs) (ap (λ (l : List ℕ). get_or l 0 0) e) ∙ ap (λ (l : List ℕ). d ∷ l) on.0, on.1)

pub digits_push : (ds : List ℕ) (c : ℕ) → AllDigits 10 ds → digit_value c < 10 → AllDigits 10 (ds ++ c ∷ [])
digits_push [] c p lt = (lt, tt)
digits_push (d ∷ ds) c p lt = (p.0, digits_push ds c p.1 lt)

pub stops_empty : EndsDigits []
stops_empty = record { it = inl (omega arith) }

module _ (text digits : List ℕ) (rest : Bor (List ℕ)) (whole : text ≡ digits ++ rest.now) (all : AllDigits 10 digits) (stops : EndsDigits rest.now) where
  parts : (n : ℕ) (later : List ℕ) → IsNumber text n later → (digits ≡ decimal n) × (rest.now ≡ later)
  parts n later is = same_digits digits (decimal n) rest.now later all (decimal_is_IsNumeral n is.0).0.1 stops is.1 (sym whole ∙ is.2)

  pub no_number : ((n : ℕ) → IsNumeral 64 n digits → ⊥) → HasNone (IsNumber text)
  no_number none n later is = none n (sym (parts n later is).0, is.0)

  pub number_cut : (n : ℕ) → IsNumeral 64 n digits → IsCut ℕ ℕ Same (IsNumber text) (n, rest)
  number_cut n numeral = record {
    value = n;
    is = (numeral.1, stops, whole ∙ ap (λ (l : List ℕ). l ++ rest.now) (sym numeral.0));
    each = λ m later is. (decimal_injective n m numeral.1 is.0 (numeral.0 ∙ (parts m later is).0), sym (parts m later is).1);
  }

-- behind given bytes
pub count_cut : (start text behind : List ℕ) (r : Option (ℕ × Bor (List ℕ))) → text ≡ start ++ behind → Cuts Same (IsNumber behind) r → Cuts Same (IsCount start text) r
count_cut start text behind None e none = λ n rest is. none n rest (is.0, is.1, behind_same start behind (decimal n ++ rest) (sym e ∙ is.2))
count_cut start text behind (Some found) e cut = record {
  value = cut.value;
  is = (cut.is.0, cut.is.1, e ∙ ap (λ (l : List ℕ). start ++ l) cut.is.2);
  each = λ n rest is. cut.each n rest (is.0, is.1, behind_same start behind (decimal n ++ rest) (sym e ∙ is.2));
}

-- ---- how many digits there are

pub stops_at : (text : List ℕ) (count i : ℕ) → count ≡ i → (get_or text i 0 < 48) ⊎ (57 < get_or text i 0) → EndsDigits (drop count text)
stops_at text count i e out =
    record { it = subst (λ (c : ℕ). (c < 48) ⊎ (57 < c)) (sym (get_or-drop count text 0 0 ∙ ap (λ (k : ℕ). get_or text k 0) (let f : count + 0 ≡ i = omega (arith, e) in f))) out }

pub stops_at_end : (text : List ℕ) (count : ℕ) → length text ≤ count → EndsDigits (drop count text)
stops_at_end text count all = subst EndsDigits (sym (drop_all count text all)) stops_empty

pub one_digit_more : (text : List ℕ) (count i : ℕ) → count ≡ i → i < length text → digit_value (get_or text i 0) < 10 → AllDigits 10 (take count text) → AllDigits 10 (take (count + 1) text)
one_digit_more text count i e lt digit all =
    subst (AllDigits 10) (sym (take_more text count 0 (omega (arith, e, lt)))) (digits_push (take count text) (get_or text count 0) all (subst (λ (k : ℕ). digit_value (get_or text k 0) < 10) (sym e) digit))
