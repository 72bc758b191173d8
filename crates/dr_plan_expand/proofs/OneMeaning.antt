-- Words stand for one list each.
use Rattle.std.proofs.Common.{◌≡◌, sym, ◌∙◌, ap, subst, inl, inr, List, [], ◌∷◌, length, ◌==◌, false}
use Rattle.std.proofs.lemmas.Bool.{false≢true}
use Rattle.dr_base.specs.Texts.{Text}
use Rattle.dr_plan_expand.specs.Lists.{IsFirst, Yields}
use Rattle.dr_plan_expand.specs.Words.{Known, OfSet, HasUid, HasSome, Names, Defines, IsCalled, IsClassOf, YieldsClass, YieldsOfSet, IsSet, YieldsClasses, YieldsNodes, YieldsSyntax}
use Rattle.dr_plan_expand.specs.declared.short.Definition.{Definition}
use Rattle.dr_plan_expand.proofs.Marked.{same_mark}
use Rattle.dr_plan_expand.proofs.Yielded.{yields_one}

pub not_nil : {X : Type 0} (xs : List X) → false ≡ (length xs == 0) → xs ≡ [] → ⊥
not_nil [] e none = false≢true e
not_nil (x ∷ xs) e none = cc

pub of_set_one : (set : Text) (class : OfSet) (a b : List Text) → YieldsOfSet set class a → YieldsOfSet set class b → a ≡ b
of_set_one set class a b p q = elim p [
  | inl x ↦ elim q [ inl y ↦ x.1 ∙ sym y.1 | inr y ↦ absurd (y.0 x.0) ]
  | inr x ↦ elim q [ inl y ↦ absurd (x.0 y.0) | inr y ↦ x.1 ∙ sym y.1 ]
]

pub first_one : {X : Type 0} (P : X → Type 0) (xs : List X) (a b : X) → IsFirst P xs a → IsFirst P xs b → a ≡ b
first_one P [] a b p q = absurd p
first_one P (x ∷ xs) a b p q = elim p [
  | inl here ↦ elim q [ inl there ↦ here.1 ∙ sym there.1 | inr there ↦ absurd (there.0 here.0) ]
  | inr here ↦ elim q [ inl there ↦ absurd (here.0 there.0) | inr there ↦ first_one P xs a b here.1 there.1 ]
]

pub has_name_one : (table : List Known) (word a b : Text) → HasUid table word a → HasUid table word b → a ≡ b
has_name_one table word a b p q = p.2 ∙ (ap (λ (k : Known). k.2) (first_one (λ k. IsCalled k word) table p.0 q.0 p.1 q.1) ∙ sym q.2)

pub names_one : (tables : List (List Known)) (word a b : Text) → Names tables word a → Names tables word b → a ≡ b
names_one tables word a b p q =
    let H : List Known → Type 0 = λ table. HasUid table word a in
    has_name_one q.0 word a b (subst H (first_one (HasSome word) tables p.0 q.0 p.1 q.1) p.2) q.2

pub defines_one : (definitions : List Definition) (name : Text) (a b : List Text) → Defines definitions name a → Defines definitions name b → a ≡ b
defines_one definitions name a b p q = p.2 ∙ (ap (λ (d : Definition). d.words) (first_one (λ d. d.name ≡ name) definitions p.0 q.0 p.1 q.1) ∙ sym q.2)

pub class_one : (table : List (List Known)) (word a b : Text) → IsClassOf table word a → IsClassOf table word b → a ≡ b
class_one table word a b p q = elim p [
  | inl x ↦ elim q [ inl y ↦ x.1 ∙ sym y.1 | inr y ↦ absurd (y.0 x.0) ]
  | inr x ↦ elim q [ inl y ↦ absurd (x.0 y.0) | inr y ↦ names_one table word a b x.1 y.1 ]
]

pub yields_class_one : (table : List (List Known)) (word : Text) (a b : List Text) → YieldsClass table word a → YieldsClass table word b → a ≡ b
yields_class_one table word a b p q = p.2 ∙ (ap (λ (t : Text). t ∷ []) (class_one table word p.0 q.0 p.1 q.1) ∙ sym q.2)

pub set_one : (table : List (List Known)) (usual : List (List OfSet)) (sets : List Definition) (name : Text) (a b : List Text) → IsSet table usual sets name a → IsSet table usual sets name b → a ≡ b
set_one table usual sets name a b p q = elim p [
  | inl x ↦ elim q [
    | inl y ↦ yields_one (YieldsClass table) (yields_class_one table) y.0 a b (let same = defines_one sets name x.0 y.0 x.1 y.1 in rw same at x.2) y.2
    | inr y ↦ absurd (y.0 x.0 x.1)
  ]
  | inr x ↦ elim q [
    | inl y ↦ absurd (x.0 y.0 y.1)
    | inr y ↦ yields_one (Yields (YieldsOfSet name)) (yields_one (YieldsOfSet name) (of_set_one name)) usual a b x.1 y.1
  ]
]

pub classes_one : (table : List (List Known)) (usual : List (List OfSet)) (sets : List Definition) (word : Text) (a b : List Text) → YieldsClasses table usual sets word a → YieldsClasses table usual sets word b → a ≡ b
classes_one table usual sets word a b p q = elim p [
  | inl x ↦ elim q [
    | inl y ↦ set_one table usual sets y.0 a b (let same = same_mark word x.0 y.0 x.1 y.1 in rw same at x.2) y.2
    | inr y ↦ absurd (y.0 x.0 x.1)
  ]
  | inr x ↦ elim q [ inl y ↦ absurd (x.0 y.0 y.1) | inr y ↦ yields_class_one table word a b x.1 y.1 ]
]

pub nodes_one : (groups : List Definition) (word : Text) (a b : List Text) → YieldsNodes groups word a → YieldsNodes groups word b → a ≡ b
nodes_one groups word a b p q = elim p [
  | inl x ↦ elim q [
    | inl y ↦ defines_one groups y.0 a b (let same = same_mark word x.0 y.0 x.1 y.1 in rw same at x.2) y.2
    | inr y ↦ absurd (y.0 x.0 x.1)
  ]
  | inr x ↦ elim q [ inl y ↦ absurd (x.0 y.0 y.1) | inr y ↦ x.1 ∙ sym y.1 ]
]

pub syntax_one : (table : List (List Known)) (word : Text) (a b : List Text) → YieldsSyntax table word a → YieldsSyntax table word b → a ≡ b
syntax_one table word a b p q = elim p [
  | inl x ↦ elim q [ inl y ↦ x.2 ∙ (ap (λ (t : Text). t ∷ []) (names_one table word x.0 y.0 x.1 y.1) ∙ sym y.2) | inr y ↦ absurd (y.0 x.0 x.1) ]
  | inr x ↦ elim q [ inl y ↦ absurd (x.0 y.0 y.1) | inr y ↦ x.1 ∙ sym y.1 ]
]
