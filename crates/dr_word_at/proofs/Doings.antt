-- What a node is told by an errand.
use Rattle.std.proofs.Common.{◌≡◌, Result, subst, sym}
use Rattle.dr_base.specs.Texts.{Text}
use Rattle.dr_run_ask.specs.declared.answer.HttpAnswer.{HttpAnswer}
use Rattle.dr_run_ask.specs.declared.call.HttpCall.{HttpCall}
use Rattle.dr_run_ask.specs.declared.fault.AskFault.{AskFault}
use Rattle.dr_word_at.specs.Errands.{Runs}
use Rattle.dr_word_at.specs.declared.doing.ErrandOutcome.{ErrandOutcome}
use Rattle.dr_word_line.specs.declared.words.Errand.{Errand}

module _ {S : Type 0} (answers : S → HttpCall → Result HttpAnswer AskFault → S → Type 0) (name digest : Text) (old new : S) (came : Result ErrandOutcome AskFault) where
  -- an errand is done where the one is that it is
  pub as_asked : (errand one : Errand) → errand ≡ one → Runs answers name digest one old came new → Runs answers name digest errand old came new
  as_asked errand one is h = subst (λ (e : Errand). Runs answers name digest e old came new) (sym is) h
