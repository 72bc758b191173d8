-- What a form asks for is one thing, and figures of the numbers that it may name.
use Rattle.std.specs.Prelude.{◌≡◌, ◌<◌, ◌≤◌, ℕ, get_or, Bool, true, false, eqb, zero, suc, List, [], ◌∷◌, length, codes, decimal, Option, None, Some}
use Rattle.std.proofs.Common.{refl, sym, ap, ◌∙◌, subst, arith, lit≤}
use Rattle.std.specs.Fmt.{digits}
use Rattle.std.proofs.lemmas.Bool.{false≢true}
use Rattle.std.proofs.lemmas.Fmt.{decimal_injective, decimal_nonempty, first_decimal}
use Rattle.dr_base.specs.Texts.{Text}
use Rattle.dr_run_request.specs.Forms.{IsLimit, LimitOf, StageOf, Wants, word_of}
use Rattle.dr_run_request.specs.Laws.{LimitsAreRight, PagesAreBounded, WantsDiffer}
use Rattle.dr_ledger_views.specs.declared.stage.Stage.{Stage}
use Rattle.dr_ledger_views.specs.declared.stage.Stage.TheVariants.{Waiting, Held, Done, Dropped}
use Rattle.dr_run_request.specs.declared.wanted.Wanted.{Wanted}
use Rattle.dr_run_request.proofs.Numerals.{one_number}

same_some : (found : Option Text) (one other : Text) → found ≡ Some one → found ≡ Some other → one ≡ other
same_some found one other a b = cc

one_limit : (word : Option Text) (m n : ℕ) → LimitOf word m → LimitOf word n → m ≡ n
one_limit None m n a b = a ∙ sym b
one_limit (Some word) m n a b = one_number word m n a.1 b.1 a.0 b.0

abbrev begins : ℕ → Text → Bool
begins n [] = false
begins n (x ∷ xs) = eqb x n

abbrev is_w : Text → Bool
is_w = begins 119

abbrev is_h : Text → Bool
is_h = begins 104

abbrev is_short : Text → Bool
is_short text = eqb (length text) 4

differ : (test : Text → Bool) (a b : Text) → test a ≡ true → test b ≡ false → a ≡ b → ⊥
differ test a b is other e = false≢true (sym other ∙ ap test (sym e) ∙ is)

one_word : (a b : Stage) → word_of a ≡ word_of b → a ≡ b
one_word Waiting Waiting e = refl
one_word Waiting Held e = absurd (differ is_w _ _ refl refl e)
one_word Waiting Done e = absurd (differ is_w _ _ refl refl e)
one_word Waiting Dropped e = absurd (differ is_w _ _ refl refl e)
one_word Held Waiting e = absurd (differ is_w _ _ refl refl (sym e))
one_word Held Held e = refl
one_word Held Done e = absurd (differ is_h _ _ refl refl e)
one_word Held Dropped e = absurd (differ is_h _ _ refl refl e)
one_word Done Waiting e = absurd (differ is_w _ _ refl refl (sym e))
one_word Done Held e = absurd (differ is_h _ _ refl refl (sym e))
one_word Done Done e = refl
one_word Done Dropped e = absurd (differ is_short _ _ refl refl e)
one_word Dropped Waiting e = absurd (differ is_w _ _ refl refl (sym e))
one_word Dropped Held e = absurd (differ is_h _ _ refl refl (sym e))
one_word Dropped Done e = absurd (differ is_short _ _ refl refl (sym e))
one_word Dropped Dropped e = refl

one_stage : (word : Option Text) (a b : Option Stage) → StageOf word a → StageOf word b → a ≡ b
one_stage None a b x y = x ∙ sym y
one_stage (Some word) a b x y = x.1 ∙ ap (λ (s : Stage). Some s) (one_word x.0 y.0 (sym x.2 ∙ y.2)) ∙ sym y.1

bounded : (word : Option Text) (n : ℕ) → LimitOf word n → IsLimit n
bounded None n is = subst IsLimit (sym is) (lit≤ tt, lit≤ tt)
bounded (Some word) n is = is.1

pub pages_are_bounded : PagesAreBounded
pages_are_bounded form wanted wants = bounded _ wanted.limit wants.3

pub wants_differ : WantsDiffer
wants_differ one other form a b = by_parts (same_some _ one.dest other.dest a.0 b.0) (one_stage _ one.stage other.stage a.1 b.1) (sym a.2 ∙ b.2) (one_limit _ one.limit other.limit a.3 b.3)
  where
    by_parts : one.dest ≡ other.dest → one.stage ≡ other.stage → one.after ≡ other.after → one.limit ≡ other.limit → one ≡ other
    by_parts d s t l = λ i. record { dest = d i; stage = s i; after = t i; limit = l i }

-- a number whose text is another one isn't within the bounds
another : (word : Text) (m n : ℕ) → m ≤ 100000 → word ≡ decimal m → (IsLimit m → ⊥) → LimitOf (Some word) n → ⊥
another word m n small is deny says =
    let same : n ≡ m = decimal_injective n m (omega (arith, says.1.1)) (omega (arith, small)) (sym says.0 ∙ is) in
    deny (subst IsLimit same says.1)

not_zero : IsLimit 0 → ⊥
not_zero is = omega (arith, is.0)

not_more : IsLimit 1001 → ⊥
not_more is = omega (arith, is.1)

not_empty : (n : ℕ) → LimitOf (Some []) n → ⊥
not_empty n says = let P : Text → Type 0 = λ t. 0 < length t in let some : 0 < 0 = subst P (sym says.0) (decimal_nonempty n (omega (arith, says.1.1))) in omega (arith, some)

not_padded : (n : ℕ) (rest : Text) → LimitOf (Some (48 ∷ rest)) n → ⊥
not_padded n rest says = let P : Text → Type 0 = λ t. 48 < get_or t 0 0 in let some : 48 < 48 = subst P (sym says.0) (first_decimal n (omega (arith, says.1.0)) (omega (arith, says.1.1))) in omega (arith, some)

zero_is : codes "0" ≡ decimal 0
unfolding digits
zero_is = refl

one_is : codes "1" ≡ decimal 1
unfolding digits
one_is = refl

most_is : codes "1000" ≡ decimal 1000
unfolding digits
most_is = refl

more_is : codes "1001" ≡ decimal 1001
unfolding digits
more_is = refl

pub limits_are_right : LimitsAreRight
limits_are_right = (
  (one_is, (lit≤ tt, lit≤ tt)),
  (most_is, (lit≤ tt, lit≤ tt)),
  refl,
  (λ n says. another (codes "0") 0 n (lit≤ tt) zero_is not_zero says),
  (λ n says. another (codes "1001") 1001 n (lit≤ tt) more_is not_more says),
  (λ n says. not_padded n _ says),
  (λ n says. not_empty n says),
)
