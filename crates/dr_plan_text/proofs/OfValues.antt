-- Fields and formats: what a value says of them, it alone says.
use Rattle.std.proofs.Common.{◌≡◌, ◌<◌, ◌≤◌, refl, sym, ◌∙◌, ap, subst, ℕ, pos, List, [], ◌∷◌, ◌++◌, None, Contains, arith}
use Rattle.std.specs.Prelude.{flat_map}
use Rattle.std.proofs.lemmas.List.{append_cancel_right}
use Rattle.std.proofs.lemmas.List.Elements.{All-contains, Contains-push}
use Rattle.std.proofs.lemmas.Option.{none-some}
use Rattle.toml.specs.Data.{Data, string, integer, array, as_str}
use Rattle.dr_base.specs.Texts.{Text}
use Rattle.dr_route.specs.declared.rule.FieldPattern.{FieldPattern}
use Rattle.dr_route.specs.declared.rule.FieldPattern.TheVariants as field
use Rattle.dr_plan_model.specs.declared.plan.Values.{Values}
use Rattle.dr_plan_model.specs.declared.plan.Values.TheVariants as values
use Rattle.dr_route.specs.declared.cell.FieldValues.{FieldValues}
use Rattle.dr_plan_model.specs.declared.plan.Format.{Format}
use Rattle.dr_plan_model.specs.declared.plan.Format.TheVariants.{One, Two, Three}
use Rattle.dr_plan_model.specs.Formed.{IsLiteral, IsPrefix}
use Rattle.dr_plan_model.specs.Naming.{literal_of, prefix_of}
use Rattle.dr_plan_text.specs.Fields.{SaysFormat, SaysNamed, SaysField, SaysValues, IsListOf, star}
use Rattle.dr_plan_text.proofs.OneAnswer.{SaysOne, SaysText-one, IsListOf-one}

same_number : (x y : ℕ) → integer (pos x) ≡ integer (pos y) → x ≡ y
same_number x y e = let same : pos x ≡ pos y = cc in cc

pub SaysFormat-one : SaysOne SaysFormat
SaysFormat-one d One One a b = refl
SaysFormat-one d One Two a b = absurd (let same : ◌≡◌ {A = ℕ} 1 2 = same_number 1 2 (sym a ∙ b) in omega arith)
SaysFormat-one d Two One a b = absurd (let same : ◌≡◌ {A = ℕ} 1 2 = same_number 1 2 (sym b ∙ a) in omega arith)
SaysFormat-one d One Three a b = absurd (let same : ◌≡◌ {A = ℕ} 1 3 = same_number 1 3 (sym a ∙ b) in omega arith)
SaysFormat-one d Two Two a b = refl
SaysFormat-one d Two Three a b = absurd (let same : ◌≡◌ {A = ℕ} 2 3 = same_number 2 3 (sym a ∙ b) in omega arith)
SaysFormat-one d Three One a b = absurd (let same : ◌≡◌ {A = ℕ} 1 3 = same_number 1 3 (sym b ∙ a) in omega arith)
SaysFormat-one d Three Two a b = absurd (let same : ◌≡◌ {A = ℕ} 2 3 = same_number 2 3 (sym b ∙ a) in omega arith)
SaysFormat-one d Three Three a b = refl

-- a value that is none of 1, 2 and 3 says no format
pub no_format : (d : Data) → (d ≡ integer (pos 1) → ⊥) → (d ≡ integer (pos 2) → ⊥) → (d ≡ integer (pos 3) → ⊥) → (x : Format) → SaysFormat d x → ⊥
no_format d not_one not_two not_three One says = not_one says
no_format d not_one not_two not_three Two says = not_two says
no_format d not_one not_two not_three Three says = not_three says

-- no literal ends in an asterisk
pub no_star_behind : (text prefix : Text) → IsLiteral text → text ≡ prefix ++ 42 ∷ [] → ⊥
no_star_behind text prefix is same =
    let among : Contains text 42 = subst (λ (t : Text). Contains t 42) (sym same) (Contains-push prefix 42) in
    let plain = All-contains (λ (byte : ℕ). (32 ≤ byte) × (byte < 127) × (byte ≡ 42 → ⊥)) text 42 is.printable among in
    plain.2 refl

pub SaysNamed-one : SaysOne SaysNamed
SaysNamed-one d field.Any field.Any a b = refl
SaysNamed-one d field.Any (field.Literal y) a b = absurd a
SaysNamed-one d field.Any (field.Prefix q) a b = absurd a
SaysNamed-one d (field.Literal x) field.Any a b = absurd b
SaysNamed-one d (field.Literal x) (field.Literal y) a b = ap field.Literal (SaysText-one d x y a.0 b.0)
SaysNamed-one d (field.Literal x) (field.Prefix q) a b = absurd (no_star_behind x q a.1 (SaysText-one d x (q ++ 42 ∷ []) a.0 b.0))
SaysNamed-one d (field.Prefix p) field.Any a b = absurd b
SaysNamed-one d (field.Prefix p) (field.Literal y) a b = absurd (no_star_behind y p b.1 (SaysText-one d y (p ++ 42 ∷ []) b.0 a.0))
SaysNamed-one d (field.Prefix p) (field.Prefix q) a b = ap field.Prefix (append_cancel_right p q (42 ∷ []) (SaysText-one d (p ++ 42 ∷ []) (q ++ 42 ∷ []) a.0 b.0))

-- `*` names no value
star_names_none : (d : Data) (x : FieldPattern) → d ≡ star → SaysNamed d x → ⊥
star_names_none d field.Any e says = says
star_names_none d (field.Literal literal) e says = no_star_behind literal [] says.1 (SaysText-one d literal ([] ++ 42 ∷ []) says.0 e)
star_names_none d (field.Prefix prefix) e says = says.1.some (append_cancel_right prefix [] (42 ∷ []) (SaysText-one d (prefix ++ 42 ∷ []) ([] ++ 42 ∷ []) says.0 e))

-- what a value names is a rule's
pub named_is : (d : Data) (x : FieldPattern) → SaysNamed d x → SaysField d x
named_is d field.Any says = absurd says
named_is d (field.Literal literal) says = says
named_is d (field.Prefix prefix) says = says

pub SaysField-one : SaysOne SaysField
SaysField-one d field.Any field.Any a b = refl
SaysField-one d field.Any (field.Literal y) a b = absurd (star_names_none d (field.Literal y) a b)
SaysField-one d field.Any (field.Prefix q) a b = absurd (star_names_none d (field.Prefix q) a b)
SaysField-one d (field.Literal x) field.Any a b = absurd (star_names_none d (field.Literal x) b a)
SaysField-one d (field.Literal x) (field.Literal y) a b = SaysNamed-one d (field.Literal x) (field.Literal y) a b
SaysField-one d (field.Literal x) (field.Prefix q) a b = SaysNamed-one d (field.Literal x) (field.Prefix q) a b
SaysField-one d (field.Prefix p) field.Any a b = absurd (star_names_none d (field.Prefix p) b a)
SaysField-one d (field.Prefix p) (field.Literal y) a b = SaysNamed-one d (field.Prefix p) (field.Literal y) a b
SaysField-one d (field.Prefix p) (field.Prefix q) a b = SaysNamed-one d (field.Prefix p) (field.Prefix q) a b

-- a value that is no `*`, and names no value, says none
pub no_value : (d : Data) → (d ≡ star → ⊥) → ((x : FieldPattern) → SaysNamed d x → ⊥) → (x : FieldPattern) → SaysField d x → ⊥
no_value d no_star no_name field.Any says = no_star says
no_value d no_star no_name (field.Literal literal) says = no_name (field.Literal literal) says
no_value d no_star no_name (field.Prefix prefix) says = no_name (field.Prefix prefix) says

-- a text that is no literal, and no prefix with `*` behind it, names no value
pub no_text_named : (text : Text) → (IsLiteral text → ⊥) → ((prefix : Text) → text ≡ prefix ++ 42 ∷ [] → IsPrefix prefix → ⊥) → (x : FieldPattern) → SaysNamed (string text) x → ⊥
no_text_named text no_literal no_prefix field.Any says = says
no_text_named text no_literal no_prefix (field.Literal literal) says =
    no_literal (subst IsLiteral (sym (SaysText-one (string text) text literal refl says.0)) says.1)
no_text_named text no_literal no_prefix (field.Prefix prefix) says =
    no_prefix prefix (SaysText-one (string text) text (prefix ++ 42 ∷ []) refl says.0) says.1

-- a value that is no text names none
pub no_other_named : (d : Data) → None ≡ as_str d → (x : FieldPattern) → SaysNamed d x → ⊥
no_other_named d none field.Any says = says
no_other_named d none (field.Literal literal) says = none-some literal (none ∙ ap as_str says.0)
no_other_named d none (field.Prefix prefix) says = none-some (prefix ++ 42 ∷ []) (none ∙ ap as_str says.0)

same_values : (literals literals2 prefixes prefixes2 : List Text) → literals ≡ literals2 → prefixes ≡ prefixes2 →
    (let x : FieldValues = record { literals = literals; prefixes = prefixes } in let y : FieldValues = record { literals = literals2; prefixes = prefixes2 } in x ≡ y)
same_values literals literals2 prefixes prefixes2 e_literals e_prefixes = rw (e_literals, e_prefixes) refl

pub SaysValues-one : SaysOne SaysValues
SaysValues-one d values.Any values.Any a b = refl
SaysValues-one d values.Any (values.Listed y) a b = absurd (let both : star ≡ array b.1.0 = sym a ∙ b.1.1 in cc)
SaysValues-one d (values.Listed x) values.Any a b = absurd (let both : star ≡ array a.1.0 = sym b ∙ a.1.1 in cc)
SaysValues-one d (values.Listed x) (values.Listed y) a b =
    let same : a.0 ≡ b.0 = IsListOf-one SaysNamed SaysNamed-one d a.0 b.0 a.1 b.1 in
    let literals : x.literals ≡ y.literals = a.2 ∙ (ap (λ (ps : List FieldPattern). flat_map literal_of ps) same ∙ sym b.2) in
    let prefixes : x.prefixes ≡ y.prefixes = a.3 ∙ (ap (λ (ps : List FieldPattern). flat_map prefix_of ps) same ∙ sym b.3) in
    ap values.Listed (same_values x.literals y.literals x.prefixes y.prefixes literals prefixes)

-- a value that is no `*`, and no list of named values either, says no values
pub no_values : (d : Data) → (d ≡ star → ⊥) → ((patterns : List FieldPattern) → IsListOf SaysNamed d patterns → ⊥) → (x : Values) → SaysValues d x → ⊥
no_values d no_star no_list values.Any says = no_star says
no_values d no_star no_list (values.Listed own) says = no_list says.0 says.1
