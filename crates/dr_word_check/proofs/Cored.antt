-- What is found to be read for a text.
use Rattle.std.proofs.Common.{◌≡◌, ◌≢◌, refl, inl, inr, subst, sym, Ok, Err}
use Rattle.dr_base.specs.Texts.{Text}
use Rattle.dr_plan_core.specs.declared.fault.PlanFault.{PlanFault}
use Rattle.dr_plan.specs.Faults.{fault_of}
use Rattle.dr_plan.specs.Reading.{Reads, IsOfThird, IsReadFor, HasNoCore}
use Rattle.dr_plan.proofs.Cores.{uncored}
use Rattle.dr_plan.proofs.OneReading.{never_both, not_third}
use Rattle.dr_plan_expand.specs.Expanding.{Expands}
use Rattle.dr_plan_expand.specs.declared.fault.ExpandFault.{ExpandFault}
use Rattle.dr_plan_expand.specs.declared.fault.ExpandFault.TheVariants as expand
use Rattle.dr_run_open.specs.Answers.{IsNoPlan}
use Rattle.dr_run_open.specs.declared.answer.PlanAnswer.{PlanAnswer}
use Rattle.dr_run_open.specs.declared.answer.PlanAnswer.TheVariants.{Memory}
use Rattle.dr_word_check.specs.Expanded.{Finds}

-- a text of another format is read as it is
pub itself : (text core : Text) → (IsOfThird text → ⊥) → core ≡ text → Finds text (Ok core)
itself text core other same = inl (other, same)

pub its_core : (text core : Text) → Expands text core → Finds text (Ok core)
its_core text core expands = inr expands

-- and has an answer of its own, where it is no plan
pub no_plan : (text : Text) (answer : PlanAnswer) → (IsOfThird text → ⊥) → IsNoPlan text answer → Finds text (Err answer)
no_plan text answer other is = (is, λ core expands. absurd (not_third text core other expands))

pub wanting : (text : Text) → Finds text (Err Memory)
wanting text = (tt, λ core expands. refl)

-- a text of format 3 that doesn't expand
pub failing : (text : Text) (none : ExpandFault) (answer : PlanAnswer) → none ≢ expand.Memory → HasNoCore text none → IsNoPlan text answer → Finds text (Err answer)
failing text none answer told has is = (is, λ core expands. absurd (never_both text core none told has expands))

-- is a plan with this fault
pub faulty : (text : Text) (found none : ExpandFault) → found ≡ none → HasNoCore text found → Reads text (Err (fault_of none))
faulty text found none same has = uncored text none (subst (HasNoCore text) same has)

-- a field, the limit and a word are no want of memory
pub field_told : expand.Field ≢ expand.Memory
field_told e = cc

pub limit_told : expand.Limit ≢ expand.Memory
limit_told e = cc

pub unknown_told : expand.Unknown ≢ expand.Memory
unknown_told e = cc
