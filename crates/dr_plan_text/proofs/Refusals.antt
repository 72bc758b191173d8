-- Texts that are refused.
use Rattle.std.proofs.Common.{◌≡◌, ◌≢◌, refl, sym, ◌∙◌, subst, [], Err, Some}
use Rattle.std.proofs.lemmas.Option.{same_Some}
use Rattle.toml.specs.Data.{Members, no_members}
use Rattle.toml.specs.Errors.{IsBlank}
use Rattle.toml.specs.Parse.{parse_document}
use Rattle.toml.proofs.OnLiterals.{toml_on_literals}
use Rattle.dr_base.specs.Texts.{Text}
use Rattle.dr_plan_text.specs.Faults.{text_fault}
use Rattle.dr_plan_text.specs.Tables.{IsRoot, IsTree, ReadsText}
use Rattle.dr_plan_text.specs.declared.fault.ReadFault.{ReadFault}
use Rattle.dr_plan_text.specs.declared.fault.ReadFault.TheVariants.{Field, Memory}
use Rattle.dr_plan_text.specs.declared.words.PlanText.{PlanText}

pub nothing_parsed : parse_document [] ≡ Some no_members
unfolding toml_on_literals
nothing_parsed = refl

pub blank : (text : Text) → text ≡ [] → IsBlank text
unfolding toml_on_literals
blank text e = subst IsBlank (sym e) refl

-- the tree of the empty text has no members
pub empty_tree : (text : Text) (root : Members) → IsTree text root → text ≡ [] → root ≡ no_members
empty_tree text root tree e = same_Some _ _ (sym tree.1 ∙ rw e nothing_parsed)

pub refused : (text : Text) (root : Members) (fault : ReadFault) → IsTree text root → (fault ≡ Field → (plan : PlanText) → IsRoot root plan → ⊥) → (fault ≡ Memory → root ≢ no_members) →
    ReadsText text (Err (text_fault fault))
refused text root Field tree field memory = ((root, tree), λ plan w. let same : w.0 ≡ root = same_Some _ _ (sym w.1.1 ∙ tree.1) in field refl plan (rw same at w.2))
refused text root Memory tree field memory = λ e. memory refl (empty_tree text root tree e)
