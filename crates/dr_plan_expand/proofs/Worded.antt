-- What the answers to parts of a word make of the whole.
use Rattle.std.proofs.Common.{◌≡◌, ◌≢◌, inl, inr, Ok, Err, List, [], ◌∷◌}
use Rattle.std.specs.Prelude.{Result, IfOk, IfErr}
use Rattle.dr_base.specs.Texts.{Text}
use Rattle.dr_plan_expand.specs.Lists.{Yields}
use Rattle.dr_plan_expand.specs.Words.{Known, OfSet, Defines, IsPlainWord, YieldsClass, YieldsOfSet, IsSet, YieldsClasses}
use Rattle.dr_plan_expand.specs.declared.short.Definition.{Definition}
use Rattle.dr_plan_expand.specs.declared.fault.WordFault.{WordFault}
use Rattle.dr_plan_expand.specs.declared.fault.WordFault.TheVariants.{Unknown}
use Rattle.dr_plan_expand.proofs.Marked.{same_mark}
use Rattle.dr_plan_expand.proofs.OneMeaning.{defines_one}

-- an answer to one relation answers another that follows from it
pub ok_as : {X : Type 0} (P Q : X → Type 0) (r : Result X WordFault) → ((x : X) → P x → Q x) → IfOk r P → IfOk r Q
ok_as P Q (Ok x) f h = f x h
ok_as P Q (Err e) f h = tt

-- where one relation has none, another that leads to it has none
pub none_as : {X : Type 0} (P Q : X → Type 0) (r : Result X WordFault) → ((x : X) → Q x → P x) → IfErr r (λ e. e ≡ Unknown → (x : X) → P x → ⊥) → IfErr r (λ e. e ≡ Unknown → (x : X) → Q x → ⊥)
none_as P Q (Ok x) f h = tt
none_as P Q (Err e) f h = λ is x q. h is x (f x q)

module _ (table : List (List Known)) (usual : List (List OfSet)) (sets : List Definition) where
  -- the classes of a set that the plan defines
  pub own_set : (name : Text) (words : List Text) → Defines sets name words → (uids : List Text) → Yields (YieldsClass table) words uids → IsSet table usual sets name uids
  own_set name words defined uids y = inl (words, defined, y)

  pub of_own_set : (name : Text) (words : List Text) → Defines sets name words → (uids : List Text) → IsSet table usual sets name uids → Yields (YieldsClass table) words uids
  of_own_set name words defined uids is = elim is [
    | inl x ↦ (let same = defines_one sets name x.0 words x.1 defined in rw same at x.2)
    | inr x ↦ absurd (x.0 words defined)
  ]

  -- those of one that comes with the product
  pub other_set : (name : Text) → ((words : List Text) → Defines sets name words → ⊥) → (uids : List Text) → Yields (Yields (YieldsOfSet name)) usual uids × (uids ≢ []) → IsSet table usual sets name uids
  other_set name none uids y = inr (none, y.0, y.1)

  pub of_other_set : (name : Text) → ((words : List Text) → Defines sets name words → ⊥) → (uids : List Text) → IsSet table usual sets name uids → Yields (Yields (YieldsOfSet name)) usual uids × (uids ≢ [])
  of_other_set name none uids is = elim is [ inl x ↦ absurd (none x.0 x.1) | inr x ↦ (x.1, x.2) ]

  -- a word with a mark, and one without
  pub marked : (word name : Text) → word ≡ 64 ∷ name → (uids : List Text) → IsSet table usual sets name uids → YieldsClasses table usual sets word uids
  marked word name is uids set = inl (name, is, set)

  pub of_marked : (word name : Text) → word ≡ 64 ∷ name → (uids : List Text) → YieldsClasses table usual sets word uids → IsSet table usual sets name uids
  of_marked word name is uids y = elim y [
    | inl x ↦ (let same = same_mark word x.0 name x.1 is in rw same at x.2)
    | inr x ↦ absurd (x.0 name is)
  ]

  pub unmarked : (word : Text) → IsPlainWord word → (uids : List Text) → YieldsClass table word uids → YieldsClasses table usual sets word uids
  unmarked word plain uids y = inr (plain, y)

  pub of_unmarked : (word : Text) → IsPlainWord word → (uids : List Text) → YieldsClasses table usual sets word uids → YieldsClass table word uids
  of_unmarked word plain uids y = elim y [ inl x ↦ absurd (plain x.0 x.1) | inr x ↦ x.1 ]

pub none_pair_as : {X Y : Type 0} (Of : X → List Y → Type 0) (xs : List X) (Q : List Y → Type 0) (r : Result (List Y) WordFault) → ((ys : List Y) → Q ys → Yields Of xs ys × (ys ≢ [])) →
    IfErr r (λ e. e ≡ Unknown → (ys : List Y) → Yields Of xs ys → ys ≢ [] → ⊥) → IfErr r (λ e. e ≡ Unknown → (ys : List Y) → Q ys → ⊥)
none_pair_as Of xs Q (Ok x) f h = tt
none_pair_as Of xs Q (Err e) f h = λ is ys q. h is ys (f ys q).0 (f ys q).1
