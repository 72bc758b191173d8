-- A text expands to one text, or has one fault.
use Rattle.std.proofs.Common.{◌≡◌, ℕ, refl, sym, ◌∙◌, ap, subst, inl, inr, codes, get_or, arith}
use Rattle.std.proofs.lemmas.Option.{same_Some}
use Rattle.toml.specs.Data.{Members}
use Rattle.dr_base.specs.Texts.{Text}
use Rattle.dr_plan_expand.specs.Meanings.{Means}
use Rattle.dr_plan_expand.specs.Amounts.{IsWithin}
use Rattle.dr_plan_expand.specs.Spelling.{plan_text}
use Rattle.dr_plan_expand.specs.Expanding.{StandsFor, IsOwn, Fails}
use Rattle.dr_plan_expand.specs.Laws.{EachTextExpandsToOne, ExpansionsAreTheirOwn, NoneExpandsAndFails, OneExpandFaultIsTold, EachTextHasAnAnswer, NodeStandsForItself, StrangeGroupStandsForNone}
use Rattle.dr_plan_expand.specs.declared.short.ShortPlan.{ShortPlan}
use Rattle.dr_plan_expand.specs.declared.fault.ExpandFault.TheVariants.{Field, Limit, Unknown, Memory}
use Rattle.dr_plan_expand.proofs.ShortOne.{short_one, stands_one}

pub one_expansion : EachTextExpandsToOne
one_expansion text a b p q =
    let same : p.0 ≡ q.0 = same_Some p.0 q.0 (sym p.1.1 ∙ q.1.1) in
    let P : Members → Type 0 = λ r. StandsFor r a in
    stands_one q.0 a b (subst P same p.2.0) q.2.0

pub own_expansion : ExpansionsAreTheirOwn
own_expansion text core p = (p.2.1.root, p.2.1.tree, (p.2.1.stands, p.2.1))

pub none_expands_and_fails : NoneExpandsAndFails
none_expands_and_fails root core Field e f m = elim f [
  | inl none ↦ none e.0.short e.0.says
  | inr other ↦ other.2 (subst IsOwn (stands_one root core other.0 e.0 other.1) e.1)
]
none_expands_and_fails root core Limit e f m = f.2 (subst IsWithin (short_one root e.0.short f.0 e.0.says f.1) e.0.within)
none_expands_and_fails root core Unknown e f m =
    let Q : ShortPlan → Type 0 = λ s. Means s e.0.plan in
    f.3 e.0.plan (subst Q (short_one root e.0.short f.0 e.0.says f.1) e.0.means)
none_expands_and_fails root core Memory e f m = m refl

no_field : (root : Members) → Fails root Field → Fails root Unknown → ⊥
no_field root a b = elim a [
  | inl none ↦ none b.0 b.1
  | inr other ↦ (let Q : ShortPlan → Type 0 = λ s. Means s other.1.plan in b.3 other.1.plan (subst Q (short_one root other.1.short b.0 other.1.says b.1) other.1.means))
]

no_field_limit : (root : Members) → Fails root Field → Fails root Limit → ⊥
no_field_limit root a b = elim a [
  | inl none ↦ none b.0 b.1
  | inr other ↦ b.2 (subst IsWithin (short_one root other.1.short b.0 other.1.says b.1) other.1.within)
]

no_limit : (root : Members) → Fails root Limit → Fails root Unknown → ⊥
no_limit root a b = a.2 (subst IsWithin (short_one root b.0 a.0 b.1 a.1) b.2)

pub one_fault : OneExpandFaultIsTold
one_fault root Field Field a b m n = refl
one_fault root Field Limit a b m n = absurd (no_field_limit root a b)
one_fault root Field Unknown a b m n = absurd (no_field root a b)
one_fault root Limit Field a b m n = absurd (no_field_limit root b a)
one_fault root Limit Limit a b m n = refl
one_fault root Limit Unknown a b m n = absurd (no_limit root a b)
one_fault root Unknown Field a b m n = absurd (no_field root b a)
one_fault root Unknown Limit a b m n = absurd (no_limit root b a)
one_fault root Unknown Unknown a b m n = refl
one_fault root Memory b p q m n = absurd (m refl)
one_fault root a Memory p q m n = absurd (n refl)

-- a text that doesn't fail in one of three ways stands for a text, and that is its own expansion
pub answered : EachTextHasAnAnswer
answered root none sound =
    sound Field (λ e. cc) (inl (λ short says.
    sound Limit (λ e. cc) (
      short,
      says,
      (λ within.
          sound Unknown (λ e. cc) (
            short,
            says,
            within,
            (λ plan means.
                let stands : StandsFor root (plan_text plan) = record { short = short; plan = plan; says = says; within = within; means = means; is = refl } in
                sound Field (λ e. cc) (inr (plan_text plan, stands, (λ own. none (plan_text plan) (stands, own))))
                ),
          )),
    )))

pub node_itself : NodeStandsForItself
node_itself = inr (λ rest e. (let d : ◌≡◌ {A = ℕ} 67 64 = ap (λ (t : Text). get_or t 0 0) e in omega arith), refl)

pub strange_group : StrangeGroupStandsForNone
strange_group names y = elim y [
  | inl group ↦ group.2.1
  | inr plain ↦ plain.0 (codes "all") refl
]
