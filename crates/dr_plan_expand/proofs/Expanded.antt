-- Faults of tables and of words, as faults of the text.
use Rattle.std.proofs.Common.{◌≡◌, refl, sym, ◌∙◌, subst, true, false, inl, None}
use Rattle.std.specs.Prelude.{◌↔◌, IsTrue, Bool}
use Rattle.std.specs.Str.{IsUtf8}
use Rattle.std.proofs.lemmas.Bool.{false≢true}
use Rattle.toml.specs.Parse.{parse_document}
use Rattle.std.proofs.lemmas.Option.{same_Some, none-some}
use Rattle.toml.specs.Data.{Members}
use Rattle.dr_base.specs.Texts.{Text}
use Rattle.dr_plan_text.specs.Tables.{IsTree}
use Rattle.dr_plan_text.specs.declared.fault.ReadFault.{ReadFault}
use Rattle.dr_plan_text.specs.declared.fault.ReadFault.TheVariants as read
use Rattle.dr_plan_text.specs.declared.words.PlanText.{PlanText}
use Rattle.dr_plan_expand.specs.Faults.{of_field, of_word}
use Rattle.dr_plan_expand.specs.Tables.{IsShortPlan}
use Rattle.dr_plan_expand.specs.Meanings.{Means}
use Rattle.dr_plan_expand.specs.Amounts.{IsWithin}
use Rattle.dr_plan_expand.specs.Expanding.{StandsFor, IsOwn, Fails}
use Rattle.dr_plan_expand.specs.declared.short.ShortPlan.{ShortPlan}
use Rattle.dr_plan_expand.specs.declared.fault.WordFault.{WordFault}
use Rattle.dr_plan_expand.specs.declared.fault.WordFault.TheVariants as word
use Rattle.dr_plan_expand.specs.declared.fault.ExpandFault.{ExpandFault}
use Rattle.dr_plan_expand.specs.declared.fault.ExpandFault.TheVariants.{Field, Limit, Unknown, Memory}
use Rattle.dr_plan_expand.proofs.ShortOne.{short_one, stands_one}

pub field_of : (f : ReadFault) → of_field f ≡ Field → f ≡ read.Field
field_of read.Field e = refl
field_of read.Memory e = cc

pub never_unknown : (f : ReadFault) → of_field f ≡ Unknown → ⊥
never_unknown read.Field e = cc
never_unknown read.Memory e = cc

pub field_no_limit : (f : ReadFault) → of_field f ≡ Limit → ⊥
field_no_limit read.Field e = cc
field_no_limit read.Memory e = cc

pub word_no_limit : (f : WordFault) → of_word f ≡ Limit → ⊥
word_no_limit word.Unknown e = cc
word_no_limit word.Memory e = cc

pub unknown_of : (f : WordFault) → of_word f ≡ Unknown → f ≡ word.Unknown
unknown_of word.Unknown e = refl
unknown_of word.Memory e = cc

pub never_field : (f : WordFault) → of_word f ≡ Field → ⊥
never_field word.Unknown e = cc
never_field word.Memory e = cc

-- what a first fault says of the text, it says as a fault of the whole
pub fails : (root : Members) (e : ExpandFault) → (e ≡ Field → (short : ShortPlan) → IsShortPlan root short → ⊥) →
    (e ≡ Limit → (short : ShortPlan) × IsShortPlan root short × (IsWithin short → ⊥)) →
    (e ≡ Unknown → (short : ShortPlan) × IsShortPlan root short × IsWithin short × ((plan : PlanText) → Means short plan → ⊥)) → Fails root e
fails root Field field limit unknown = inl (field refl)
fails root Limit field limit unknown = limit refl
fails root Unknown field limit unknown = unknown refl
fails root Memory field limit unknown = tt

pub own_if : (core : Text) (b : Bool) → (IsTrue b ↔ IsOwn core) → b ≡ true → IsOwn core
own_if core b both is = both.0 is

pub not_own_if : (core : Text) (b : Bool) → (IsTrue b ↔ IsOwn core) → b ≡ false → IsOwn core → ⊥
not_own_if core b both is own = false≢true (sym is ∙ both.1 own)

-- what isn't TOML isn't its own expansion
pub not_toml : (core : Text) → (IsUtf8 core → parse_document core ≡ None) → IsOwn core → ⊥
not_toml core none own = none-some own.root (sym (none own.tree.0) ∙ own.tree.1)

-- the tree of a text is one
same_tree : (core : Text) (root other : Members) → IsTree core root → IsTree core other → root ≡ other
same_tree core root other a b = same_Some root other (sym a.1 ∙ b.1)

pub no_short : (core : Text) (root : Members) → IsTree core root → ((short : ShortPlan) → IsShortPlan root short → ⊥) → IsOwn core → ⊥
no_short core root tree none own =
    let P : Members → Type 0 = λ r. IsShortPlan r own.stands.short in
    none own.stands.short (subst P (same_tree core own.root root own.tree tree) own.stands.says)

pub not_within : (core : Text) (root : Members) → IsTree core root → (short : ShortPlan) → IsShortPlan root short → (IsWithin short → ⊥) → IsOwn core → ⊥
not_within core root tree short says over own =
    let P : Members → Type 0 = λ r. IsShortPlan r own.stands.short in
    over (subst IsWithin (short_one root own.stands.short short (subst P (same_tree core own.root root own.tree tree) own.stands.says) says) own.stands.within)

pub no_meaning : (core : Text) (root : Members) → IsTree core root → (short : ShortPlan) → IsShortPlan root short → ((plan : PlanText) → Means short plan → ⊥) → IsOwn core → ⊥
no_meaning core root tree short says none own =
    let P : Members → Type 0 = λ r. IsShortPlan r own.stands.short in
    let Q : ShortPlan → Type 0 = λ s. Means s own.stands.plan in
    none own.stands.plan (subst Q (short_one root own.stands.short short (subst P (same_tree core own.root root own.tree tree) own.stands.says) says) own.stands.means)

pub own_of : (core again : Text) (root : Members) → IsTree core root → StandsFor root again → again ≡ core → IsOwn core
own_of core again root tree stands same = record { root = root; tree = tree; stands = subst (StandsFor root) same stands }

pub same_of : (core again : Text) (root : Members) → IsTree core root → StandsFor root again → IsOwn core → again ≡ core
same_of core again root tree stands own =
    let P : Members → Type 0 = λ r. StandsFor r core in
    stands_one root again core stands (subst P (same_tree core own.root root own.tree tree) own.stands)
