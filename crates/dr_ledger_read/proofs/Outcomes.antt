-- What came of a try, cut off the front of a text.
use Rattle.std.proofs.Common.{◌≡◌, ◌∙◌, ◌<◌, ◌≤◌, ◌+◌, ◌-◌, ◌*◌, ◌/◌, ◌%◌, ◌^◌, ◌⊎◌, inl, inr, ℕ, zero, suc, List, [], ◌∷◌, ◌++◌, Option, None, Some, Bor, refl, sym, ap, subst, arith, drop, get_or, length, codes, slice_index}
use Rattle.hex.specs.Hex.{IsBytes, encode_upper, encode_with, upper_digits}
use Rattle.dr_base_quoted.specs.Quoting.{quoted_byte}
use Rattle.dr_ledger.specs.declared.item.Outcome.{Outcome}
use Rattle.dr_ledger.specs.declared.item.Outcome.TheVariants as outcome
use Rattle.dr_ledger_text.proofs.Pieces.{behind_same}
use Rattle.dr_ledger_read.specs.Behind.{outcome_then}
use Rattle.dr_ledger_read.specs.Cutting.{Cuts, HasNone, IsCut, Same}
use Rattle.dr_ledger_read.specs.Places.{IsOutcome, IsStatus}
use Rattle.dr_ledger_read.proofs.Between.{found_is, quoted_then}
use Rattle.dr_ledger_read.proofs.Digests.{quoted_hex}

-- ---- digits

abbrev upper : ℕ → ℕ
upper n = slice_index upper_digits n

-- where digits are
upper_at : (n : ℕ) → n < 16 → ((n < 10) × (upper n ≡ 48 + n)) ⊎ ((10 ≤ n) × (upper n ≡ 55 + n))
upper_at zero lt = inl (omega arith, refl)
upper_at (suc zero) lt = inl (omega arith, refl)
upper_at (suc (suc zero)) lt = inl (omega arith, refl)
upper_at (suc (suc (suc zero))) lt = inl (omega arith, refl)
upper_at (suc (suc (suc (suc zero)))) lt = inl (omega arith, refl)
upper_at (suc (suc (suc (suc (suc zero))))) lt = inl (omega arith, refl)
upper_at (suc (suc (suc (suc (suc (suc zero)))))) lt = inl (omega arith, refl)
upper_at (suc (suc (suc (suc (suc (suc (suc zero))))))) lt = inl (omega arith, refl)
upper_at (suc (suc (suc (suc (suc (suc (suc (suc zero)))))))) lt = inl (omega arith, refl)
upper_at (suc (suc (suc (suc (suc (suc (suc (suc (suc zero))))))))) lt = inl (omega arith, refl)
upper_at (suc (suc (suc (suc (suc (suc (suc (suc (suc (suc zero)))))))))) lt = inr (omega arith, refl)
upper_at (suc (suc (suc (suc (suc (suc (suc (suc (suc (suc (suc zero))))))))))) lt = inr (omega arith, refl)
upper_at (suc (suc (suc (suc (suc (suc (suc (suc (suc (suc (suc (suc zero)))))))))))) lt = inr (omega arith, refl)
upper_at (suc (suc (suc (suc (suc (suc (suc (suc (suc (suc (suc (suc (suc zero))))))))))))) lt = inr (omega arith, refl)
upper_at (suc (suc (suc (suc (suc (suc (suc (suc (suc (suc (suc (suc (suc (suc zero)))))))))))))) lt = inr (omega arith, refl)
upper_at (suc (suc (suc (suc (suc (suc (suc (suc (suc (suc (suc (suc (suc (suc (suc zero))))))))))))))) lt = inr (omega arith, refl)
upper_at (suc (suc (suc (suc (suc (suc (suc (suc (suc (suc (suc (suc (suc (suc (suc (suc n)))))))))))))))) lt = absurd (omega (arith, lt))

upper_plain : (n : ℕ) → n < 16 → quoted_byte (upper n) ≡ upper n ∷ []
upper_plain zero lt = refl
upper_plain (suc zero) lt = refl
upper_plain (suc (suc zero)) lt = refl
upper_plain (suc (suc (suc zero))) lt = refl
upper_plain (suc (suc (suc (suc zero)))) lt = refl
upper_plain (suc (suc (suc (suc (suc zero))))) lt = refl
upper_plain (suc (suc (suc (suc (suc (suc zero)))))) lt = refl
upper_plain (suc (suc (suc (suc (suc (suc (suc zero))))))) lt = refl
upper_plain (suc (suc (suc (suc (suc (suc (suc (suc zero)))))))) lt = refl
upper_plain (suc (suc (suc (suc (suc (suc (suc (suc (suc zero))))))))) lt = refl
upper_plain (suc (suc (suc (suc (suc (suc (suc (suc (suc (suc zero)))))))))) lt = refl
upper_plain (suc (suc (suc (suc (suc (suc (suc (suc (suc (suc (suc zero))))))))))) lt = refl
upper_plain (suc (suc (suc (suc (suc (suc (suc (suc (suc (suc (suc (suc zero)))))))))))) lt = refl
upper_plain (suc (suc (suc (suc (suc (suc (suc (suc (suc (suc (suc (suc (suc zero))))))))))))) lt = refl
upper_plain (suc (suc (suc (suc (suc (suc (suc (suc (suc (suc (suc (suc (suc (suc zero)))))))))))))) lt = refl
upper_plain (suc (suc (suc (suc (suc (suc (suc (suc (suc (suc (suc (suc (suc (suc (suc zero))))))))))))))) lt = refl
upper_plain (suc (suc (suc (suc (suc (suc (suc (suc (suc (suc (suc (suc (suc (suc (suc (suc n)))))))))))))))) lt = absurd (omega (arith, lt))

one_upper : (n m : ℕ) → n < 16 → m < 16 → upper n ≡ upper m → n ≡ m
one_upper n m p q e = go (upper_at n p) (upper_at m q)
  where
    go : ((n < 10) × (upper n ≡ 48 + n)) ⊎ ((10 ≤ n) × (upper n ≡ 55 + n)) → ((m < 10) × (upper m ≡ 48 + m)) ⊎ ((10 ≤ m) × (upper m ≡ 55 + m)) → n ≡ m
    go (inl a) (inl b) = omega (arith, e, a.1, b.1)
    go (inl a) (inr b) = omega (arith, e, a.0, a.1, b.0, b.1)
    go (inr a) (inl b) = omega (arith, e, a.0, a.1, b.0, b.1)
    go (inr a) (inr b) = omega (arith, e, a.1, b.1)

upper_small : (n : ℕ) → n < 16 → upper n ≤ 70
upper_small n p = go (upper_at n p)
  where
    go : ((n < 10) × (upper n ≡ 48 + n)) ⊎ ((10 ≤ n) × (upper n ≡ 55 + n)) → upper n ≤ 70
    go (inl a) = omega (arith, a.0, a.1)
    go (inr a) = omega (arith, p, a.1)

-- a digit in front
abbrev IsNibble : List ℕ → ℕ → List ℕ → Type 0
IsNibble text n rest = (n < 16) × (text ≡ upper n ∷ rest)

module _ (text : List ℕ) (digit : ℕ) (rest : Bor (List ℕ)) (whole : text ≡ digit ∷ rest.now) where
  digit_is : (n : ℕ) (later : List ℕ) → IsNibble text n later → upper n ≡ digit
  digit_is n later is = ap (λ (l : List ℕ). get_or l 0 0) (sym is.1 ∙ whole)

  pub below_upper : digit < 48 → HasNone (IsNibble text)
  below_upper low n later is = go (upper_at n is.0)
    where
      go : ((n < 10) × (upper n ≡ 48 + n)) ⊎ ((10 ≤ n) × (upper n ≡ 55 + n)) → ⊥
      go (inl a) = omega (arith, a.1, digit_is n later is, low)
      go (inr a) = omega (arith, a.1, digit_is n later is, low)

  pub between_upper : 57 < digit → digit < 65 → HasNone (IsNibble text)
  between_upper low high n later is = go (upper_at n is.0)
    where
      go : ((n < 10) × (upper n ≡ 48 + n)) ⊎ ((10 ≤ n) × (upper n ≡ 55 + n)) → ⊥
      go (inl a) = omega (arith, a.0, a.1, digit_is n later is, low)
      go (inr a) = omega (arith, a.0, a.1, digit_is n later is, high)

  pub above_upper : 70 < digit → HasNone (IsNibble text)
  above_upper high n later is = let f = upper_small n is.0 in omega (arith, f, digit_is n later is, high)

  nibble_cut : (n : ℕ) → n < 16 → upper n ≡ digit → IsCut ℕ ℕ Same (IsNibble text) (n, rest)
  nibble_cut n small is = record {
    value = n;
    is = (small, whole ∙ ap (λ (d : ℕ). d ∷ rest.now) (sym is));
    each = λ m later it. (one_upper n m small it.0 (is ∙ sym (digit_is m later it)), ap (λ (l : List ℕ). drop 1 l) (sym it.1 ∙ whole));
  }

  pub low_nibble : (n : ℕ) → n ≡ digit - 48 → 48 ≤ digit → digit ≤ 57 → IsCut ℕ ℕ Same (IsNibble text) (n, rest)
  low_nibble n is low high = nibble_cut n (omega (arith, is, high)) (go (upper_at n (omega (arith, is, high))))
    where
      go : ((n < 10) × (upper n ≡ 48 + n)) ⊎ ((10 ≤ n) × (upper n ≡ 55 + n)) → upper n ≡ digit
      go (inl a) = omega (arith, a.1, is, low)
      go (inr a) = omega (arith, a.0, is, high)

  pub high_nibble : (n : ℕ) → n ≡ digit - 55 → 65 ≤ digit → digit ≤ 70 → IsCut ℕ ℕ Same (IsNibble text) (n, rest)
  high_nibble n is low high = nibble_cut n (omega (arith, is, high)) (go (upper_at n (omega (arith, is, high))))
    where
      go : ((n < 10) × (upper n ≡ 48 + n)) ⊎ ((10 ≤ n) × (upper n ≡ 55 + n)) → upper n ≡ digit
      go (inl a) = omega (arith, a.0, is, low)
      go (inr a) = omega (arith, a.1, is, low)

pub no_digit_here : (text : List ℕ) → length text ≡ 0 → HasNone (IsNibble text)
no_digit_here text none n later is = let f = sym (ap (λ (l : List ℕ). length l) is.1) ∙ none in omega (arith, f)

-- ---- the status of a response

abbrev opened : List ℕ
opened = codes ",\"outcome\":\""

abbrev bytes_of : ℕ → List ℕ
bytes_of s = s / 256 ∷ s % 256 ∷ []

are_bytes : (s : ℕ) → s < 2 ^ 16 → IsBytes (bytes_of s)
are_bytes s low zero = omega (arith, low)
are_bytes s low (suc zero) = omega arith
are_bytes s low (suc (suc i)) = omega arith

abbrev pub digits_then : ℕ → List ℕ → List ℕ
digits_then s rest = upper (s / 256 / 16) ∷ upper (s / 256 % 16) ∷ upper (s % 256 / 16) ∷ upper (s % 256 % 16) ∷ 34 ∷ rest

pub status_then_is : (s : ℕ) (rest : List ℕ) → s < 2 ^ 16 → outcome_then (outcome.Status s) rest ≡ opened ++ digits_then s rest
unfolding encode_with
status_then_is s rest low =
    ap (λ (l : List ℕ). codes ",\"outcome\":" ++ l) (quoted_then (encode_upper (bytes_of s)) rest ∙ ap (λ (l : List ℕ). 34 ∷ (l ++ 34 ∷ rest)) (quoted_hex upper_digits upper_plain (bytes_of s) (are_bytes s low)))

module _ (text digits : List ℕ) (opens : text ≡ opened ++ digits) where
  pub digits_are : (s : ℕ) (rest : List ℕ) → IsStatus text s rest → digits ≡ digits_then s rest
  digits_are s rest is = behind_same opened digits (digits_then s rest) (sym opens ∙ is.1 ∙ status_then_is s rest is.0)

-- a digit that was cut off is one
pub nibble : (text : List ℕ) (n : ℕ) (more : Bor (List ℕ)) → IsCut ℕ ℕ Same (IsNibble text) (n, more) → n < 16
nibble text n more cut = (found_is ℕ (IsNibble text) n more cut).0

-- a digit that was cut off, and what stood behind it
pub next_digit : (text : List ℕ) (n : ℕ) (more : Bor (List ℕ)) → IsCut ℕ ℕ Same (IsNibble text) (n, more) → (m : ℕ) (rest : List ℕ) → m < 16 → text ≡ upper m ∷ rest → (n ≡ m) × (more.now ≡ rest)
next_digit text n more cut m rest small is = let r = cut.each m rest (small, is) in (r.0, sym r.1)

module _ (text digits : List ℕ) (opens : text ≡ opened ++ digits) (a : ℕ) (more : Bor (List ℕ)) (first : IsCut ℕ ℕ Same (IsNibble digits) (a, more)) where
  after_a : (s : ℕ) (rest : List ℕ) → IsStatus text s rest → (a ≡ s / 256 / 16) × (more.now ≡ upper (s / 256 % 16) ∷ upper (s % 256 / 16) ∷ upper (s % 256 % 16) ∷ 34 ∷ rest)
  after_a s rest is = next_digit digits a more first (s / 256 / 16) _ (let low = is.0 in omega (arith, low)) (digits_are text digits opens s rest is)

  pub no_b : HasNone (IsNibble more.now) → HasNone (IsStatus text)
  no_b none s rest is = none (s / 256 % 16) _ (omega arith, (after_a s rest is).1)

  module _ (b : ℕ) (again : Bor (List ℕ)) (second : IsCut ℕ ℕ Same (IsNibble more.now) (b, again)) where
    after_b : (s : ℕ) (rest : List ℕ) → IsStatus text s rest → (b ≡ s / 256 % 16) × (again.now ≡ upper (s % 256 / 16) ∷ upper (s % 256 % 16) ∷ 34 ∷ rest)
    after_b s rest is = next_digit more.now b again second (s / 256 % 16) _ (omega arith) (after_a s rest is).1

    pub no_c : HasNone (IsNibble again.now) → HasNone (IsStatus text)
    no_c none s rest is = none (s % 256 / 16) _ (omega arith, (after_b s rest is).1)

    module _ (c : ℕ) (later : Bor (List ℕ)) (third : IsCut ℕ ℕ Same (IsNibble again.now) (c, later)) where
      after_c : (s : ℕ) (rest : List ℕ) → IsStatus text s rest → (c ≡ s % 256 / 16) × (later.now ≡ upper (s % 256 % 16) ∷ 34 ∷ rest)
      after_c s rest is = next_digit again.now c later third (s % 256 / 16) _ (omega arith) (after_b s rest is).1

      pub no_d : HasNone (IsNibble later.now) → HasNone (IsStatus text)
      no_d none s rest is = none (s % 256 % 16) _ (omega arith, (after_c s rest is).1)

      module _ (d : ℕ) (last : Bor (List ℕ)) (fourth : IsCut ℕ ℕ Same (IsNibble later.now) (d, last)) where
        after_d : (s : ℕ) (rest : List ℕ) → IsStatus text s rest → (d ≡ s % 256 % 16) × (last.now ≡ 34 ∷ rest)
        after_d s rest is = next_digit later.now d last fourth (s % 256 % 16) _ (omega arith) (after_c s rest is).1

        pub unended : ((rest : List ℕ) → last.now ≡ 34 ∷ rest → ⊥) → HasNone (IsStatus text)
        unended none s rest is = none rest (after_d s rest is).1

        pub status_cut : (rest : Bor (List ℕ)) → last.now ≡ 34 ∷ rest.now → IsCut ℕ ℕ Same (IsStatus text) (a * 4096 + b * 256 + c * 16 + d, rest)
        status_cut rest closes =
            let A : IsNibble digits a more.now = found_is ℕ (IsNibble digits) a more first in
            let B : IsNibble more.now b again.now = found_is ℕ (IsNibble more.now) b again second in
            let C : IsNibble again.now c later.now = found_is ℕ (IsNibble again.now) c later third in
            let D : IsNibble later.now d last.now = found_is ℕ (IsNibble later.now) d last fourth in
            let s = a * 4096 + b * 256 + c * 16 + d in
            let low : s < 2 ^ 16 = omega (arith, A.0, B.0, C.0, D.0) in
            let ea : a ≡ s / 256 / 16 = omega (arith, A.0, B.0, C.0, D.0) in
            let eb : b ≡ s / 256 % 16 = omega (arith, A.0, B.0, C.0, D.0) in
            let ec : c ≡ s % 256 / 16 = omega (arith, A.0, B.0, C.0, D.0) in
            let ed : d ≡ s % 256 % 16 = omega (arith, A.0, B.0, C.0, D.0) in
            let spelled : digits ≡ upper a ∷ upper b ∷ upper c ∷ upper d ∷ 34 ∷ rest.now =
            A.1 ∙ ap (λ (l : List ℕ). upper a ∷ l) (B.1 ∙ ap (λ (l : List ℕ). upper b ∷ l) (C.1 ∙ ap (λ (l : List ℕ). upper c ∷ l) (D.1 ∙ ap (λ (l : List ℕ). upper d ∷ l) closes))) in
            let named : upper a ∷ upper b ∷ upper c ∷ upper d ∷ 34 ∷ rest.now ≡ digits_then s rest.now =
            ap (λ (n : ℕ). upper n ∷ upper b ∷ upper c ∷ upper d ∷ 34 ∷ rest.now) ea
            ∙ ap (λ (n : ℕ). upper (s / 256 / 16) ∷ upper n ∷ upper c ∷ upper d ∷ 34 ∷ rest.now) eb
            ∙ ap (λ (n : ℕ). upper (s / 256 / 16) ∷ upper (s / 256 % 16) ∷ upper n ∷ upper d ∷ 34 ∷ rest.now) ec
            ∙ ap (λ (n : ℕ). upper (s / 256 / 16) ∷ upper (s / 256 % 16) ∷ upper (s % 256 / 16) ∷ upper n ∷ 34 ∷ rest.now) ed in
            record {
              value = s;
              is = (low, opens ∙ ap (λ (l : List ℕ). opened ++ l) (spelled ∙ named) ∙ sym (status_then_is s rest.now low));
              each = λ t late is. (
                (let fa = (after_a t late is).0 in let fb = (after_b t late is).0 in let fc = (after_c t late is).0 in let fd = (after_d t late is).0 in omega (arith, fa, fb, fc, fd)),
                ap (λ (l : List ℕ). drop 1 l) (sym (after_d t late is).1 ∙ closes),
              );
            }

-- ---- what came of a try

-- the letter with which it begins
abbrev letter : List ℕ → ℕ
letter text = get_or text 12 0

pub status_letter : (s : ℕ) (rest : List ℕ) → s < 2 ^ 16 → letter (outcome_then (outcome.Status s) rest) ≤ 70
status_letter s rest low =
    let f : letter (outcome_then (outcome.Status s) rest) ≡ upper (s / 256 / 16) = ap letter (status_then_is s rest low) in
    let g = upper_small (s / 256 / 16) (omega (arith, low)) in
    omega (arith, f, g)

pub broken_cut : (text : List ℕ) (rest : Bor (List ℕ)) → text ≡ outcome_then outcome.Broken rest.now → IsCut Outcome Outcome Same (IsOutcome text) (outcome.Broken, rest)
broken_cut text rest is = record { value = outcome.Broken; is = (tt, is); each = one }
  where
    one : (o : Outcome) (later : List ℕ) → IsOutcome text o later → (outcome.Broken ≡ o) × (later ≡ rest.now)
    one outcome.Broken later it = (refl, behind_same (codes ",\"outcome\":\"broken\"") later rest.now (sym it.1 ∙ is))
    one outcome.NoContext later it = let g : 110 ≡ 98 = ap letter (sym it.1 ∙ is) in absurd (omega (arith, g))
    one outcome.Unreadable later it = let g : 117 ≡ 98 = ap letter (sym it.1 ∙ is) in absurd (omega (arith, g))
    one (outcome.Status s) later it = let g : letter (outcome_then (outcome.Status s) later) ≡ 98 = ap letter (sym it.1 ∙ is) in absurd (omega (arith, g, status_letter s later it.0))

pub no_context_cut : (text : List ℕ) (rest : Bor (List ℕ)) → text ≡ outcome_then outcome.NoContext rest.now → IsCut Outcome Outcome Same (IsOutcome text) (outcome.NoContext, rest)
no_context_cut text rest is = record { value = outcome.NoContext; is = (tt, is); each = one }
  where
    one : (o : Outcome) (later : List ℕ) → IsOutcome text o later → (outcome.NoContext ≡ o) × (later ≡ rest.now)
    one outcome.NoContext later it = (refl, behind_same (codes ",\"outcome\":\"no-context\"") later rest.now (sym it.1 ∙ is))
    one outcome.Broken later it = let g : 98 ≡ 110 = ap letter (sym it.1 ∙ is) in absurd (omega (arith, g))
    one outcome.Unreadable later it = let g : 117 ≡ 110 = ap letter (sym it.1 ∙ is) in absurd (omega (arith, g))
    one (outcome.Status s) later it = let g : letter (outcome_then (outcome.Status s) later) ≡ 110 = ap letter (sym it.1 ∙ is) in absurd (omega (arith, g, status_letter s later it.0))

pub unreadable_cut : (text : List ℕ) (rest : Bor (List ℕ)) → text ≡ outcome_then outcome.Unreadable rest.now → IsCut Outcome Outcome Same (IsOutcome text) (outcome.Unreadable, rest)
unreadable_cut text rest is = record { value = outcome.Unreadable; is = (tt, is); each = one }
  where
    one : (o : Outcome) (later : List ℕ) → IsOutcome text o later → (outcome.Unreadable ≡ o) × (later ≡ rest.now)
    one outcome.Unreadable later it = (refl, behind_same (codes ",\"outcome\":\"unreadable\"") later rest.now (sym it.1 ∙ is))
    one outcome.Broken later it = let g : 98 ≡ 117 = ap letter (sym it.1 ∙ is) in absurd (omega (arith, g))
    one outcome.NoContext later it = let g : 110 ≡ 117 = ap letter (sym it.1 ∙ is) in absurd (omega (arith, g))
    one (outcome.Status s) later it = let g : letter (outcome_then (outcome.Status s) later) ≡ 117 = ap letter (sym it.1 ∙ is) in absurd (omega (arith, g, status_letter s later it.0))

module _ (text : List ℕ) (broken : (rest : List ℕ) → text ≡ outcome_then outcome.Broken rest → ⊥) (context : (rest : List ℕ) → text ≡ outcome_then outcome.NoContext rest → ⊥) (unreadable : (rest : List ℕ) → text ≡ outcome_then outcome.Unreadable rest → ⊥) where
  pub no_outcome : HasNone (IsStatus text) → HasNone (IsOutcome text)
  no_outcome none outcome.Broken rest is = broken rest is.1
  no_outcome none outcome.NoContext rest is = context rest is.1
  no_outcome none outcome.Unreadable rest is = unreadable rest is.1
  no_outcome none (outcome.Status s) rest is = none s rest is

  pub status_found : (s : ℕ) (rest : Bor (List ℕ)) → IsCut ℕ ℕ Same (IsStatus text) (s, rest) → IsCut Outcome Outcome Same (IsOutcome text) (outcome.Status s, rest)
  status_found s rest cut = record { value = outcome.Status s; is = found_is ℕ (IsStatus text) s rest cut; each = one }
    where
      one : (o : Outcome) (later : List ℕ) → IsOutcome text o later → (outcome.Status s ≡ o) × (later ≡ rest.now)
      one (outcome.Status t) later is = let r = cut.each t later is in (ap outcome.Status r.0, r.1)
      one outcome.Broken later is = absurd (broken later is.1)
      one outcome.NoContext later is = absurd (context later is.1)
      one outcome.Unreadable later is = absurd (unreadable later is.1)
