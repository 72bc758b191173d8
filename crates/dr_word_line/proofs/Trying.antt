-- Of readers that are tried one after another, of which the first that gives something counts.
use Rattle.std.specs.Prelude.{Option, None, Some, IfNone, IfSome, MatchOption, Result, Ok, Err, IfOk}
use Rattle.std.specs.Option.{option_or}
use Rattle.std.proofs.Common.{◌≡◌, ◌∙◌, ap, refl, subst, sym, Bool, true, false}
use Rattle.std.proofs.lemmas.Bool.{false≢true}

module _ {X : Type 0} (Q : X → Type 0) where
  some_first : (one other : Option X) → IfSome one Q → IfSome other Q → IfSome (option_or one other) Q
  some_first None other p q = q
  some_first (Some x) other p q = p

  -- what either gives is as both say
  pub some_or : (one other whole : Option X) → whole ≡ option_or one other → IfSome one Q → IfSome other Q → IfSome whole Q
  some_or one other whole is p q = subst (λ (o : Option X). IfSome o Q) (sym is) (some_first one other p q)

  -- what is said of a value, and of none, is one clause
  pub tried : (P : Type 0) (whole : Option X) → IfSome whole Q → IfNone whole P → MatchOption whole P Q
  tried P None some none = none
  tried P (Some x) some none = some

-- there is something, or there is not
abbrev is_there : {X : Type 0} → Option X → Bool
is_there None = false
is_there (Some x) = true

module _ {X : Type 0} where
  left_first : (P : Type 0) (one other : Option X) → IfNone one P → IfNone (option_or one other) P
  left_first P None None p = p
  left_first P None (Some x) p = tt
  left_first P (Some x) other p = tt

  -- where both give nothing, the first did
  pub none_left : (P : Type 0) (one other whole : Option X) → whole ≡ option_or one other → IfNone one P → IfNone whole P
  none_left P one other whole is p = subst (λ (o : Option X). IfNone o P) (sym is) (left_first P one other p)

  right_first : (P : Type 0) (one other : Option X) → IfNone other P → IfNone (option_or one other) P
  right_first P None other p = p
  right_first P (Some x) other p = tt

  -- and the second
  pub none_right : (P : Type 0) (one other whole : Option X) → whole ≡ option_or one other → IfNone other P → IfNone whole P
  none_right P one other whole is p = subst (λ (o : Option X). IfNone o P) (sym is) (right_first P one other p)

  -- what holds where there is nothing, from what holds then
  pub from_none : (P : Type 0) (whole : Option X) → (whole ≡ None → P) → IfNone whole P
  from_none P None f = f refl
  from_none P (Some x) f = tt

  pub at_none : (P : Type 0) (whole : Option X) → IfNone whole P → whole ≡ None → P
  at_none P whole p is = subst (λ (o : Option X). IfNone o P) is p

  split_none : (one other : Option X) → option_or one other ≡ None → (one ≡ None) × (other ≡ None)
  split_none None other is = (refl, is)
  split_none (Some x) other is = absurd (false≢true (sym (ap is_there is)))

  -- where the whole is nothing, both are
  pub ors : {one other whole : Option X} → whole ≡ option_or one other → whole ≡ None → (one ≡ None) × (other ≡ None)
  ors {one} {other} is none = split_none one other (sym is ∙ none)

-- of any result that which holds of all values
pub anything : {A E : Type 0} (Q : A → Type 0) (r : Result A E) → ((found : A) → Q found) → IfOk r Q
anything Q (Ok x) f = f x
anything Q (Err e) f = tt
