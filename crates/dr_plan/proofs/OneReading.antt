-- A text has one answer, also where another text is read for it.
use Rattle.std.proofs.Common.{◌≡◌, ◌≢◌, ◌⊎◌, inl, inr, refl, sym, ◌∙◌, ap, subst, Ok, Err}
use Rattle.std.specs.Prelude.{Result}
use Rattle.std.proofs.lemmas.Option.{same_Some}
use Rattle.toml.specs.Data.{Members}
use Rattle.dr_base.specs.Texts.{Text}
use Rattle.dr_plan_model.specs.Networks.{Network}
use Rattle.dr_plan_text.specs.Tables.{IsTree}
use Rattle.dr_plan_expand.specs.Tables.{IsThird}
use Rattle.dr_plan_expand.specs.Expanding.{Expands, ExpandsTo, Fails}
use Rattle.dr_plan_expand.specs.declared.fault.ExpandFault.{ExpandFault}
use Rattle.dr_plan_expand.specs.declared.fault.ExpandFault.TheVariants as expand
use Rattle.dr_plan_expand.proofs.OneExpansion.{one_expansion, none_expands_and_fails, one_fault}
use Rattle.dr_plan_core.specs.declared.fault.PlanFault.{PlanFault}
use Rattle.dr_plan_core.specs.declared.fault.PlanFault.TheVariants as fault
use Rattle.dr_plan.specs.Faults.{fault_of}
use Rattle.dr_plan_core.specs.Reading.{ReadsCore}
use Rattle.dr_plan.specs.Reading.{Reads, IsOfThird, IsReadFor, HasNoCore}
use Rattle.dr_plan_core.proofs.OneAnswer.{one_core_answer}

-- one text is read for a text
third_of : (text core : Text) → Expands text core → IsOfThird text
third_of text core e = (e.0, e.1, e.2.0.says.format)

pub one_core : (text a b : Text) → IsReadFor text a → IsReadFor text b → a ≡ b
one_core text a b p q = elim p [
  | inl x ↦ elim q [ inl y ↦ x.1 ∙ sym y.1 | inr y ↦ absurd (x.0 (third_of text b y)) ]
  | inr x ↦ elim q [ inl y ↦ absurd (y.0 (third_of text a x)) | inr y ↦ one_expansion text a b x y ]
]

-- a text of format 3 with such a fault, other than want of memory
record Coreless (text : Text) (none : ExpandFault) : Type 0 where
  root : Members
  tree : IsTree text root
  third : IsThird root
  fails : Fails root none

coreless : (text : Text) (none : ExpandFault) → none ≢ expand.Memory → HasNoCore text none → Coreless text none
coreless text expand.Field m h = record { root = h.0; tree = h.1; third = h.2; fails = h.3 }
coreless text expand.Limit m h = record { root = h.0; tree = h.1; third = h.2; fails = h.3 }
coreless text expand.Unknown m h = record { root = h.0; tree = h.1; third = h.2; fails = h.3 }
coreless text expand.Memory m h = absurd (m refl)

not_memory : (none : ExpandFault) (f : PlanFault) → f ≡ fault_of none → f ≢ fault.Memory → none ≢ expand.Memory
not_memory none f is m e = m (is ∙ ap fault_of e)

no_core : (text core : Text) (none : ExpandFault) → none ≢ expand.Memory → IsReadFor text core → Coreless text none → ⊥
no_core text core none m p c = elim p [
  | inl x ↦ x.0 (c.root, c.tree, c.third)
  | inr x ↦ (
      let same : x.0 ≡ c.root = same_Some x.0 c.root (sym x.1.1 ∙ c.tree.1) in
      let P : Members → Type 0 = λ r. ExpandsTo r core in
      none_expands_and_fails c.root core none (subst P same x.2) c.fails m
      )
]

-- no text expands that has a fault, want of memory aside
pub never_both : (text core : Text) (none : ExpandFault) → none ≢ expand.Memory → HasNoCore text none → Expands text core → ⊥
never_both text core none m h expands = no_core text core none m (inr expands) (coreless text none m h)

-- a text of another format doesn't expand
pub not_third : (text core : Text) → (IsOfThird text → ⊥) → Expands text core → ⊥
not_third text core other expands = other (third_of text core expands)

same_fault : (text : Text) (a b : ExpandFault) → a ≢ expand.Memory → b ≢ expand.Memory → Coreless text a → Coreless text b → a ≡ b
same_fault text a b m n p q =
    let same : p.root ≡ q.root = same_Some p.root q.root (sym p.tree.1 ∙ q.tree.1) in
    let P : Members → Type 0 = λ r. Fails r a in
    one_fault q.root a b (subst P same p.fails) q.fails m n

abbrev Cored : Text → Result Network PlanFault → Type 0
Cored text r = (core : Text) × IsReadFor text core × ReadsCore core r

abbrev Uncored : Text → Result Network PlanFault → Type 0
Uncored text r = (none : ExpandFault) × (none ≢ expand.Memory) × Coreless text none × (r ≡ Err (fault_of none))

ways : (text : Text) (r : Result Network PlanFault) → r ≢ Err fault.Memory → Reads text r → Cored text r ⊎ Uncored text r
ways text (Ok plan) m h = inl (h.core, h.is_for, h.reads)
ways text (Err f) m h = elim h.why [
  | inl x ↦ inl x
  | inr x ↦ (
      let other : x.0 ≢ expand.Memory = not_memory x.0 f x.2 (λ e. m (ap Err e)) in
      inr (x.0, other, coreless text x.0 other x.1, ap Err x.2)
      )
]

pub one_answer : (text : Text) (r s : Result Network PlanFault) → r ≢ Err fault.Memory → s ≢ Err fault.Memory → Reads text r → Reads text s → r ≡ s
one_answer text r s m n a b = elim (ways text r m a) [
  | inl x ↦ elim (ways text s n b) [
    | inl y ↦ (let P : Text → Type 0 = λ core. ReadsCore core r in one_core_answer y.0 r s m n (subst P (one_core text x.0 y.0 x.1 y.1) x.2) y.2)
    | inr y ↦ absurd (no_core text x.0 y.0 y.1 x.1 y.2)
  ]
  | inr x ↦ elim (ways text s n b) [
    | inl y ↦ absurd (no_core text y.0 x.0 x.1 y.1 x.2)
    | inr y ↦ x.3 ∙ (ap (λ (e : ExpandFault). Err (fault_of e)) (same_fault text x.0 y.0 x.1 y.1 x.2 y.2) ∙ sym y.3)
  ]
]

-- a fault of a text is one of the text that is read for it
pub fault_of_core : (text core : Text) (f : PlanFault) → f ≢ fault.Memory → IsReadFor text core → Reads text (Err f) → ReadsCore core (Err f)
fault_of_core text core f m for h = elim (ways text (Err f) (λ e. m (same_error f fault.Memory e)) h) [
  | inl x ↦ (let P : Text → Type 0 = λ c. ReadsCore c (Err f) in subst P (one_core text x.0 core x.1 for) x.2)
  | inr x ↦ absurd (no_core text core x.0 x.1 for x.2)
]
  where
    same_error : (f g : PlanFault) → ◌≡◌ {A = Result Network PlanFault} (Err f) (Err g) → f ≡ g
    same_error f g e = cc
