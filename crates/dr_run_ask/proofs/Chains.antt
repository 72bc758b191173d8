-- What is asked one after the other.
use Rattle.std.proofs.Common.{◌≡◌, false, refl, subst, List, [], ◌∷◌, ◌++◌}
use Rattle.std.specs.Prelude.{Result}
use Rattle.dr_run_ask.specs.Calls.{is_act}
use Rattle.dr_run_ask.specs.Conversations.{Asked, NoneActs, OnlyReads}
use Rattle.dr_run_ask.specs.declared.answer.HttpAnswer.{HttpAnswer}
use Rattle.dr_run_ask.specs.declared.call.HttpCall.{HttpCall}
use Rattle.dr_run_ask.specs.declared.fault.AskFault.{AskFault}

none_act : (xs ys : List HttpCall) → NoneActs xs → NoneActs ys → NoneActs (xs ++ ys)
none_act [] ys a b = b
none_act (x ∷ xs) ys a b = (a.0, none_act xs ys a.1 b)

module _ {S : Type 0} (answers : S → HttpCall → Result HttpAnswer AskFault → S → Type 0) where
  asked_after : (xs ys : List HttpCall) (old mid new : S) → Asked answers xs old mid → Asked answers ys mid new → Asked answers (xs ++ ys) old new
  asked_after [] ys old mid new a b = subst (λ (s : S). Asked answers ys s new) a b
  asked_after (x ∷ xs) ys old mid new a b = (a.0, a.1, a.2, asked_after xs ys a.1 mid new a.3 b)

  pub reads_nothing : (s : S) → OnlyReads answers s s
  reads_nothing s = ([], tt, refl)

  pub reads_one : (call : HttpCall) (came : Result HttpAnswer AskFault) (old new : S) → is_act call ≡ false → answers old call came new → OnlyReads answers old new
  reads_one call came old new reads h = (call ∷ [], (reads, tt), (came, new, h, refl))

  pub reads_more : (old mid new : S) → OnlyReads answers old mid → OnlyReads answers mid new → OnlyReads answers old new
  reads_more old mid new a b = (a.0 ++ b.0, none_act a.0 b.0 a.1 b.1, asked_after a.0 b.0 old mid new a.2 b.2)
