-- Lines that are counted, and those of them whose numbers lie in a span.
use Rattle.std.proofs.Common.{◌≡◌, ℕ, zero, suc, ◌+◌, ◌-◌, ◌^◌, ◌<◌, ◌≤◌, min, Bool, true, false, ◌&&◌, cond, T, List, [], ◌∷◌, ◌++◌, length, map as mapped, take, drop, refl, sym, ap, subst, ◌∙◌, arith, true≢false}
use Rattle.std.specs.declared.cmp.Ordering.{Ordering}
use Rattle.std.specs.declared.cmp.Ordering.TheVariants.{Less, Equal, Greater}
use Rattle.std.specs.Cmp.{ranks}
use Rattle.std.specs.FinMap.{is_sorted}
use Rattle.std.specs.FinMap.Entries.{below_all}
use Rattle.std.specs.Ordering.{MatchOrdering, is_gt, is_le, is_lt, nat_cmp}
use Rattle.dr_ledger.specs.Books.{Line}
use Rattle.dr_ledger_views.specs.Numbers.{AreBehind, HaveNumbers, counted, is_within, last_of, lines_within}

-- ---- the order of numbers

ordered : (m n : ℕ) (o : Ordering) → nat_cmp m n ≡ o → MatchOrdering o (m < n) (m ≡ n) (n < m)
ordered m n o is = subst (λ k. MatchOrdering k (m < n) (m ≡ n) (n < m)) is (ranks m n)

above : (m n : ℕ) → n < m → is_gt (nat_cmp m n) ≡ true
above m n lt = go (nat_cmp m n) refl
  where
    go : (o : Ordering) → nat_cmp m n ≡ o → is_gt o ≡ true
    go Less is = let it : m < n = ordered m n Less is in absurd (omega (arith, it, lt))
    go Equal is = let it : m ≡ n = ordered m n Equal is in absurd (omega (arith, it, lt))
    go Greater is = refl

not_above : (m n : ℕ) → m ≤ n → is_gt (nat_cmp m n) ≡ false
not_above m n le = go (nat_cmp m n) refl
  where
    go : (o : Ordering) → nat_cmp m n ≡ o → is_gt o ≡ false
    go Less is = refl
    go Equal is = refl
    go Greater is = let it : n < m = ordered m n Greater is in absurd (omega (arith, it, le))

up_to : (m n : ℕ) → m ≤ n → is_le (nat_cmp m n) ≡ true
up_to m n le = go (nat_cmp m n) refl
  where
    go : (o : Ordering) → nat_cmp m n ≡ o → is_le o ≡ true
    go Less is = refl
    go Equal is = refl
    go Greater is = let it : n < m = ordered m n Greater is in absurd (omega (arith, it, le))

not_up_to : (m n : ℕ) → n < m → is_le (nat_cmp m n) ≡ false
not_up_to m n lt = go (nat_cmp m n) refl
  where
    go : (o : Ordering) → nat_cmp m n ≡ o → is_le o ≡ false
    go Less is = let it : m < n = ordered m n Less is in absurd (omega (arith, it, lt))
    go Equal is = let it : m ≡ n = ordered m n Equal is in absurd (omega (arith, it, lt))
    go Greater is = refl

no_and : (b : Bool) → (b && false) ≡ false
no_and true = refl
no_and false = refl

-- ---- numbers in a span

pub within : (after last n : ℕ) → after < n → n ≤ last → is_within after last n ≡ true
within after last n low high = ap (λ b. b && is_le (nat_cmp n last)) (above n after low) ∙ up_to n last high

pub before : (after last n : ℕ) → n ≤ after → is_within after last n ≡ false
before after last n low = ap (λ b. b && is_le (nat_cmp n last)) (not_above n after low)

pub beyond : (after last n : ℕ) → last < n → is_within after last n ≡ false
beyond after last n high = ap (λ b. is_gt (nat_cmp n after) && b) (not_up_to n last high) ∙ no_and (is_gt (nat_cmp n after))

-- what lies in a span lies behind the one and not behind the other
pub lies_within : (after last n : ℕ) → is_within after last n ≡ true → (after < n) × (n ≤ last)
lies_within after last n is = go (nat_cmp n after) refl (nat_cmp n last) refl is
  where
    go : (o : Ordering) → nat_cmp n after ≡ o → (p : Ordering) → nat_cmp n last ≡ p → (is_gt o && is_le p) ≡ true → (after < n) × (n ≤ last)
    go Less low p high both = absurd (true≢false (sym both))
    go Equal low p high both = absurd (true≢false (sym both))
    go Greater low Less high both =
        let a : after < n = ordered n after Greater low in
        let b : n < last = ordered n last Less high in (a, omega (arith, b))
    go Greater low Equal high both =
        let a : after < n = ordered n after Greater low in
        let b : n ≡ last = ordered n last Equal high in (a, omega (arith, b))
    go Greater low Greater high both = absurd (true≢false (sym both))

-- a number that is no greater than another one less 1
least_is : (a b : ℕ) → min a b ≤ b
least_is a b = omega arith

pub last_fits : (after limit : ℕ) → last_of after limit < 2 ^ 63
last_fits after limit = let it = least_is (after + limit) (2 ^ 63 - 1) in omega (arith, it)

-- ---- lines that are counted

told : (n : ℕ) (lines : List Line) → mapped (λ (e : ℕ × Line). e.1) (counted n lines) ≡ lines
told n [] = refl
told n (line ∷ lines) = ap (λ ls. line ∷ ls) (told (n + 1) lines)

both_T : (a b : Bool) → T a → T b → T (a && b)
both_T true b s t = t
both_T false b s t = absurd s

less_T : (m n : ℕ) → m < n → T (is_lt (nat_cmp m n))
less_T m n lt = go (nat_cmp m n) refl
  where
    go : (o : Ordering) → nat_cmp m n ≡ o → T (is_lt o)
    go Less is = tt
    go Equal is = let it : m ≡ n = ordered m n Equal is in absurd (omega (arith, it, lt))
    go Greater is = let it : n < m = ordered m n Greater is in absurd (omega (arith, it, lt))

above_all : (m n : ℕ) (lines : List Line) → m ≤ n → T (below_all nat_cmp m (counted n lines))
above_all m n [] le = tt
above_all m n (line ∷ lines) le = both_T (is_lt (nat_cmp m (n + 1))) _ (less_T m (n + 1) (omega (arith, le))) (above_all m (n + 1) lines (omega (arith, le)))

rise : (n : ℕ) (lines : List Line) → T (is_sorted nat_cmp (counted n lines))
rise n [] = tt
rise n (line ∷ lines) = both_T (below_all nat_cmp (n + 1) (counted (n + 1) lines)) _ (above_all (n + 1) (n + 1) lines (omega arith)) (rise (n + 1) lines)

pub are_told : (lines : List Line) (all : List (ℕ × Line)) → HaveNumbers lines all → mapped (λ (e : ℕ × Line). e.1) all ≡ lines
are_told lines all have = ap (mapped (λ (e : ℕ × Line). e.1)) have ∙ told 0 lines

pub numbers_rise : (lines : List Line) (all : List (ℕ × Line)) → HaveNumbers lines all → T (is_sorted nat_cmp all)
numbers_rise lines all have = let P : List (ℕ × Line) → Type 0 = λ es. T (is_sorted nat_cmp es) in subst P (sym have) (rise 0 lines)

-- ---- a page of them

step_true : (after last n : ℕ) (line : Line) (rest : List (ℕ × Line)) → is_within after last n ≡ true → lines_within after last ((n, line) ∷ rest) ≡ (n, line) ∷ lines_within after last rest
step_true after last n line rest is = ap (λ b. cond b ((n, line) ∷ lines_within after last rest) (lines_within after last rest)) is

step_false : (after last n : ℕ) (line : Line) (rest : List (ℕ × Line)) → is_within after last n ≡ false → lines_within after last ((n, line) ∷ rest) ≡ lines_within after last rest
step_false after last n line rest is = ap (λ b. cond b ((n, line) ∷ lines_within after last rest) (lines_within after last rest)) is

none_beyond : (after last base : ℕ) (lines : List Line) → last ≤ base → lines_within after last (counted base lines) ≡ []
none_beyond after last base [] le = refl
none_beyond after last base (line ∷ lines) le =
    step_false after last (base + 1) line (counted (base + 1) lines) (beyond after last (base + 1) (omega (arith, le))) ∙ none_beyond after last (base + 1) lines (omega (arith, le))

pub none_within : (after last : ℕ) (all : List (ℕ × Line)) → last ≤ after → lines_within after last all ≡ []
none_within after last [] le = refl
none_within after last (e ∷ all) le = step_false after last e.0 e.1 all (out e.0) ∙ none_within after last all le
  where
    out : (n : ℕ) → is_within after last n ≡ false
    out n = go (is_within after last n) refl
      where
        go : (b : Bool) → is_within after last n ≡ b → is_within after last n ≡ false
        go false is = is
        go true is = let it = lies_within after last n is in absurd (omega (arith, it.0, it.1, le))

first_lines : (after last base n : ℕ) (lines : List Line) → after ≤ base → last ≡ base + n → counted base (take n lines) ≡ lines_within after last (counted base lines)
first_lines after last base zero lines le is = sym (none_beyond after last base lines (omega (arith, is)))
first_lines after last base (suc n) [] le is = refl
first_lines after last base (suc n) (line ∷ lines) le is =
    ap (λ es. (base + 1, line) ∷ es) (first_lines after last (base + 1) n lines (omega (arith, le)) (omega (arith, is)))
    ∙ sym (step_true after last (base + 1) line (counted (base + 1) lines) (within after last (base + 1) (omega (arith, le)) (omega (arith, is))))

no_lines : (after n a : ℕ) → counted after (take n (drop a [])) ≡ []
no_lines after zero zero = refl
no_lines after (suc n) zero = refl
no_lines after zero (suc a) = refl
no_lines after (suc n) (suc a) = refl

lines_behind : (after last base a n : ℕ) (lines : List Line) → after ≡ base + a → last ≡ after + n → counted after (take n (drop a lines)) ≡ lines_within after last (counted base lines)
lines_behind after last base a n [] low high = no_lines after n a
lines_behind after last base zero n (line ∷ lines) low high =
    let same : after ≡ base = omega (arith, low) in
    ap (λ k. counted k (take n (line ∷ lines))) same ∙ first_lines after last base n (line ∷ lines) (omega (arith, same)) (omega (arith, same, high))
lines_behind after last base (suc a) n (line ∷ lines) low high =
    lines_behind after last (base + 1) a n lines (omega (arith, low)) high ∙ sym (step_false after last (base + 1) line (counted (base + 1) lines) (before after last (base + 1) (omega (arith, low))))

pub page_is : (after last : ℕ) (lines : List Line) → counted after (take (last - after) (drop after lines)) ≡ lines_within after last (counted 0 lines)
page_is after last lines = go (last - after) refl
  where
    go : (n : ℕ) → last - after ≡ n → counted after (take n (drop after lines)) ≡ lines_within after last (counted 0 lines)
    go zero is = sym (none_within after last (counted 0 lines) (omega (arith, is)))
    go (suc n) is = lines_behind after last 0 after (suc n) lines (omega arith) (omega (arith, is))

-- ---- pages in a row

-- what stands behind a number is these lines, where they have the numbers that follow it
pub are_next : (lines : List Line) (all : List (ℕ × Line)) (after limit : ℕ) (page : List Line) → HaveNumbers lines all → AreBehind after limit all page → page ≡ take (last_of after limit - after) (drop after lines)
are_next lines all after limit page have behind =
    let last = last_of after limit in
    let here : List Line = take (last - after) (drop after lines) in
    let same : counted after page ≡ counted after here = behind ∙ ap (lines_within after last) have ∙ sym (page_is after last lines) in
    sym (told after page) ∙ ap (mapped (λ (e : ℕ × Line). e.1)) same ∙ told after here

rejoined : (n : ℕ) (lines : List Line) → lines ≡ take n lines ++ drop (length (take n lines)) lines
rejoined zero lines = refl
rejoined (suc n) [] = refl
rejoined (suc n) (line ∷ lines) = ap (λ ls. line ∷ ls) (rejoined n lines)

none_of_none : (k : ℕ) (lines : List Line) → lines ≡ [] → drop k lines ≡ []
none_of_none zero lines is = is
none_of_none (suc k) [] is = refl
none_of_none (suc k) (line ∷ lines) is = let none : suc (length lines) ≡ 0 = ap length is in absurd (omega (arith, none))

further : (a m : ℕ) (lines : List Line) → drop m (drop a lines) ≡ drop (a + m) lines
further zero m lines = let same : m ≡ 0 + m = omega arith in ap (λ (k : ℕ). drop k lines) same
further (suc a) m [] = none_of_none m [] refl ∙ sym (none_of_none (suc a + m) [] refl)
further (suc a) m (line ∷ lines) =
    let same : suc (a + m) ≡ suc a + m = omega arith in
    further a m lines ∙ ap (λ (k : ℕ). drop k (line ∷ lines)) same

pub whole : (lines : List Line) (all : List (ℕ × Line)) (after limit : ℕ) (page : List Line) → HaveNumbers lines all → AreBehind after limit all page → drop after lines ≡ page ++ drop (after + length page) lines
whole lines all after limit page have behind =
    let n = last_of after limit - after in
    let is : page ≡ take n (drop after lines) = are_next lines all after limit page have behind in
    rejoined n (drop after lines)
    ∙ ap (λ (ls : List Line). ls ++ drop (length ls) (drop after lines)) (sym is)
    ∙ ap (λ (ls : List Line). page ++ ls) (further after (length page) lines)

none_taken : (n : ℕ) (lines : List Line) → [] ≡ take (suc n) lines → lines ≡ []
none_taken n [] is = refl
none_taken n (line ∷ lines) is = let none : 0 ≡ suc (length (take n lines)) = ap length is in absurd (omega (arith, none))

none_left : (a : ℕ) (lines : List Line) → length lines ≤ a → drop a lines ≡ []
none_left zero [] le = refl
none_left (suc a) [] le = refl
none_left zero (line ∷ lines) le = absurd (omega (arith, le))
none_left (suc a) (line ∷ lines) le = none_left a lines (omega (arith, le))

pub end : (lines : List Line) (all : List (ℕ × Line)) (after limit : ℕ) → length lines < 2 ^ 63 → HaveNumbers lines all → AreBehind after (suc limit) all [] → drop after lines ≡ []
end lines all after limit few have behind = go (last_of after (suc limit) - after) refl
  where
    go : (n : ℕ) → last_of after (suc limit) - after ≡ n → drop after lines ≡ []
    go zero is = none_left after lines (omega (arith, is, few))
    go (suc n) is = none_taken n (drop after lines) (are_next lines all after (suc limit) [] have behind ∙ ap (λ (k : ℕ). take k (drop after lines)) is)
