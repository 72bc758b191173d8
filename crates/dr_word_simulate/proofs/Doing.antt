-- What a script tells, and what can be done of it.
use Rattle.std.proofs.Common.{◌≡◌, ℕ, suc, ◌<◌, List, [], ◌∷◌, ◌++◌, length, refl, sym, ap, subst, ◌∙◌, arith, length-append, inl, inr}
use Rattle.std.specs.List.{AllZip}
use Rattle.std.proofs.lemmas.List.{nil_from_length}
use Rattle.std.specs.Prelude.{Contains}
use Rattle.dr_base.specs.Texts.{Text}
use Rattle.dr_cert.specs.Sealing.{Certified}
use Rattle.dr_plan_model.proofs.Gathered.{Contains-cons_cases, Contains-here, Contains-there, nothing_in_nil}
use Rattle.dr_plan_model.specs.Networks.{Network}
use Rattle.dr_plan_sound.specs.declared.certificate.Certificate.{Certificate}
use Rattle.dr_world.specs.declared.deed.Deed.TheVariants as deed
use Rattle.dr_world.specs.declared.fault.WorldFault.{WorldFault}
use Rattle.dr_world.specs.declared.fault.WorldFault.TheVariants as fault
use Rattle.dr_world.specs.declared.order.WorldOrder.{WorldOrder}
use Rattle.dr_world.specs.declared.order.WorldOrder.TheVariants as order
use Rattle.dr_world.specs.Orders.{IsChangeOrder, OrdersChange, OrdersRefusal}
use Rattle.dr_world.specs.Played.{EndsEarly}
use Rattle.dr_world_script.specs.declared.act.Act.{Act}
use Rattle.dr_world_script.specs.declared.act.Act.TheVariants as act
use Rattle.dr_world_script.specs.declared.step.Step.{Step}
use Rattle.dr_world_script.specs.declared.step.Step.TheVariants as step
use Rattle.dr_world_script.specs.Scripts.{IsLineAt, IsScriptOf, Tells, told_lines}
use Rattle.dr_world_script.proofs.Placing.{lines_in_order}
use Rattle.dr_word_simulate.specs.declared.orders.ActFault.{ActFault}
use Rattle.dr_word_simulate.specs.declared.orders.ActFault.TheVariants as stop
use Rattle.dr_word_simulate.specs.declared.outcome.PlayOutcome.{PlayOutcome}
use Rattle.dr_word_simulate.specs.declared.outcome.PlayOutcome.TheVariants.{Report, NoScript, Unsealed, Unread, HalfAdopted, Memory}
use Rattle.dr_word_simulate.specs.Orders.{AddsOrder, IsOrderOf, IsUndone, StopsAt}
use Rattle.dr_word_simulate.specs.Outcomes.{HasChangeIn, IsOutcomeOf, StopsAs}
use Rattle.dr_word_simulate.specs.Reported.{IsUnreported}

-- lists that are told or done one by one are as long
zip_length : {X Y : Type 0} (P : X → Y → Type 0) (xs : List X) (ys : List Y) → AllZip P xs ys → length xs ≡ length ys
zip_length P [] [] h = refl
zip_length P [] (y ∷ ys) h = absurd h
zip_length P (x ∷ xs) [] h = absurd h
zip_length P (x ∷ xs) (y ∷ ys) h = ap suc (zip_length P xs ys h.1)

zip_push : {X Y : Type 0} (P : X → Y → Type 0) (xs : List X) (ys : List Y) (x : X) (y : Y) → AllZip P xs ys → P x y → AllZip P (xs ++ x ∷ []) (ys ++ y ∷ [])
zip_push P [] [] x y h one = (one, tt)
zip_push P [] (z ∷ ys) x y h one = absurd h
zip_push P (w ∷ xs) [] x y h one = absurd h
zip_push P (w ∷ xs) (z ∷ ys) x y h one = (h.0, zip_push P xs ys x y h.1 one)

-- what is left moves over to what was done
pub goes_on : {X : Type 0} (all done : List X) (x : X) (left rest : List X) → all ≡ done ++ left → left ≡ x ∷ rest → all ≡ (done ++ x ∷ []) ++ rest
goes_on {X} all done x left rest so_far next = so_far ∙ ap (λ (ys : List X). done ++ ys) next ∙ sym (pushed done)
  where
    pushed : (ys : List X) → (ys ++ x ∷ []) ++ rest ≡ ys ++ x ∷ rest
    pushed [] = refl
    pushed (y ∷ ys) = ap (λ (zs : List X). y ∷ zs) (pushed ys)

-- nothing is left
pub comes_to_end : {X : Type 0} (all done left : List X) → all ≡ done ++ left → length left ≡ 0 → all ≡ done
comes_to_end {X} all done left so_far none = so_far ∙ ap (λ (ys : List X). done ++ ys) (nil_from_length left none) ∙ alone done
  where
    alone : (ys : List X) → ys ++ [] ≡ ys
    alone [] = refl
    alone (y ∷ ys) = ap (λ (zs : List X). y ∷ zs) (alone ys)

module _ (Holds : Text → Text → Type 0) where
  pub ordered_more : (acts : List Act) (a : Act) (old new : List WorldOrder) → AllZip (IsOrderOf Holds) acts old → AddsOrder Holds a old new → AllZip (IsOrderOf Holds) (acts ++ a ∷ []) new
  ordered_more acts a old new so_far (one, is, e) =
      let P : List WorldOrder → Type 0 = λ os. AllZip (IsOrderOf Holds) (acts ++ a ∷ []) os in
      subst P (sym e) (zip_push (IsOrderOf Holds) acts old a one so_far is)

  pub stops : (all before : List Act) (a : Act) (left later : List Act) (orders : List WorldOrder) (place : ℕ) (fault : ActFault)
      → all ≡ before ++ left → left ≡ a ∷ later → AllZip (IsOrderOf Holds) before orders → place ≡ length orders → IsUndone Holds a fault → StopsAt Holds all place fault
  stops all before a left later orders place fault so_far next done at why =
      (before, a, later, so_far ∙ ap (λ (ys : List Act). before ++ ys) next, zip_length (IsOrderOf Holds) before orders done ∙ sym at, why, (orders, done))

  -- a stop is at a line
  pub stops_at_line : (text : Text) (acts : List Act) (place : ℕ) (fault : ActFault) → IsScriptOf text acts → StopsAt Holds acts place fault → place < length (told_lines text)
  stops_at_line text acts place fault script (before, a, later, e, at, why, rest) =
      let lines = zip_length Tells (told_lines text) acts script in
      let many = ap (λ (xs : List Act). length xs) e ∙ length-append before (a ∷ later) in
      omega (arith, lines, many, at)

  pub stopped : (plan : Network) (certificate : Certificate) (text : Text) (acts : List Act) (place : ℕ) (fault : ActFault) (outcome : PlayOutcome)
      → IsScriptOf text acts → StopsAt Holds acts place fault → StopsAs text place fault outcome → IsOutcomeOf Holds plan certificate text outcome
  stopped plan certificate text acts place stop.Unsealed (Unsealed line) script (before, act.Step step, later, e, at, why, rest) came = absurd why
  stopped plan certificate text acts place stop.Unsealed (Unsealed line) script (before, act.Bytes link side bytes, later, e, at, why, rest) came = absurd why
  stopped plan certificate text acts place stop.Unsealed (Unsealed line) script (before, act.Foreign what, later, e, at, why, rest) came = absurd why
  stopped plan certificate text acts place stop.Unsealed (Unsealed line) script (before, act.Adopt next own, later, e, at, why, rest) came =
      let P : List Act → Type 0 = λ xs. IsScriptOf text xs in
      let Q : ℕ → Type 0 = λ n. IsLineAt text n line in (
        (next, own, lines_in_order text before later (act.Adopt next own) line (subst P e script) (subst Q (sym at) came), why),
        (place, came, (acts, script, (before, act.Adopt next own, later, e, at, why, rest))),
      )
  stopped plan certificate text acts place stop.Unsealed (Report report) script at came = absurd came
  stopped plan certificate text acts place stop.Unsealed (NoScript line) script at came = absurd came
  stopped plan certificate text acts place stop.Unsealed (Unread path error) script at came = absurd came
  stopped plan certificate text acts place stop.Unsealed HalfAdopted script at came = absurd came
  stopped plan certificate text acts place stop.Unsealed Memory script at came = tt
  stopped plan certificate text acts place (stop.Unread named why) (Report report) script at came = absurd came
  stopped plan certificate text acts place (stop.Unread named why) (NoScript line) script at came = absurd came
  stopped plan certificate text acts place (stop.Unread named why) (Unsealed line) script at came = absurd came
  stopped plan certificate text acts place (stop.Unread named why) (Unread path error) script at came =
      (place, (acts, script, subst (StopsAt Holds acts place) (λ j. stop.Unread (sym came.0 j) (sym came.1 j)) at))
  stopped plan certificate text acts place (stop.Unread named why) HalfAdopted script at came = absurd came
  stopped plan certificate text acts place (stop.Unread named why) Memory script at came = tt
  stopped plan certificate text acts place stop.Memory (Report report) script at came = absurd came
  stopped plan certificate text acts place stop.Memory (NoScript line) script at came = absurd came
  stopped plan certificate text acts place stop.Memory (Unsealed line) script at came = absurd came
  stopped plan certificate text acts place stop.Memory (Unread path error) script at came = absurd came
  stopped plan certificate text acts place stop.Memory HalfAdopted script at came = absurd came
  stopped plan certificate text acts place stop.Memory Memory script at came = tt

-- ---- changes of plan

-- a change among the orders is one among the lines
told_change : (Holds : Text → Text → Type 0) (acts : List Act) (orders : List WorldOrder) (next : Certified) → AllZip (IsOrderOf Holds) acts orders → Contains orders (order.Deed (deed.Adopt next))
    → (plan certificate : Text) × Contains acts (act.Adopt plan certificate)
told_change Holds [] [] next h among = absurd (nothing_in_nil (order.Deed (deed.Adopt next)) among)
told_change Holds [] (one ∷ orders) next h among = absurd h
told_change Holds (a ∷ acts) [] next h among = absurd h
told_change Holds (a ∷ acts) (one ∷ orders) next h among = elim (Contains-cons_cases one orders (order.Deed (deed.Adopt next)) among) [
  | inl same ↦ here a one same h.0
  | inr later ↦ (let found = told_change Holds acts orders next h.1 later in (found.0, found.1, Contains-there a acts (act.Adopt found.0 found.1) found.2))
]
  where
    here : (b : Act) (x : WorldOrder) → x ≡ order.Deed (deed.Adopt next) → IsOrderOf Holds b x → (plan certificate : Text) × Contains (b ∷ acts) (act.Adopt plan certificate)
    here (act.Adopt plan certificate) (order.Deed (deed.Adopt sealed)) same is = (plan, certificate, Contains-here (act.Adopt plan certificate) acts)
    here (act.Step step) (order.Deed (deed.Adopt sealed)) same is = absurd is
    here (act.Bytes link side bytes) (order.Deed (deed.Adopt sealed)) same is = absurd is
    here (act.Foreign what) (order.Deed (deed.Adopt sealed)) same is = absurd is
    here a (order.Deed (deed.Step done)) same is = absurd (subst IsChangeOrder (sym same) tt)
    here a (order.Deed (deed.Bytes link side bytes)) same is = absurd (subst IsChangeOrder (sym same) tt)
    here a (order.Foreign what) same is = absurd (subst IsChangeOrder (sym same) tt)

-- a refusal among the orders is one among the lines
told_refusal : (Holds : Text → Text → Type 0) (acts : List Act) (orders : List WorldOrder) (node : Text) → AllZip (IsOrderOf Holds) acts orders → Contains orders (order.Deed (deed.Step (step.RefuseStore node)))
    → Contains acts (act.Step (step.RefuseStore node))
told_refusal Holds [] [] node h among = absurd (nothing_in_nil (order.Deed (deed.Step (step.RefuseStore node))) among)
told_refusal Holds [] (one ∷ orders) node h among = absurd h
told_refusal Holds (a ∷ acts) [] node h among = absurd h
told_refusal Holds (a ∷ acts) (one ∷ orders) node h among = elim (Contains-cons_cases one orders (order.Deed (deed.Step (step.RefuseStore node))) among) [
  | inl same ↦ here a (subst (IsOrderOf Holds a) same h.0)
  | inr later ↦ Contains-there a acts (act.Step (step.RefuseStore node)) (told_refusal Holds acts orders node h.1 later)
]
  where
    here : (b : Act) → IsOrderOf Holds b (order.Deed (deed.Step (step.RefuseStore node))) → Contains (b ∷ acts) (act.Step (step.RefuseStore node))
    here (act.Step told) is = subst (λ (z : Step). Contains (act.Step told ∷ acts) (act.Step z)) (sym is) (Contains-here (act.Step told) acts)
    here (act.Adopt plan certificate) is = absurd is
    here (act.Bytes link side bytes) is = absurd is
    here (act.Foreign what) is = absurd is

pub has_change : (Holds : Text → Text → Type 0) (text : Text) (acts : List Act) (orders : List WorldOrder) → IsScriptOf text acts → AllZip (IsOrderOf Holds) acts orders → OrdersChange orders × OrdersRefusal orders → HasChangeIn text
has_change Holds text acts orders script ordered ((next, among), (node, told)) =
    (acts, script, told_change Holds acts orders next ordered among, (node, told_refusal Holds acts orders node ordered told))

-- why there is no report, where a run comes to an end before its last order
pub ended_early : (orders : List WorldOrder) (f : WorldFault) → EndsEarly (OrdersChange orders × OrdersRefusal orders) f → IsUnreported orders f
ended_early orders fault.Memory h = tt
ended_early orders fault.HalfAdopted h = h
ended_early orders fault.WrongLedgers h = absurd h
ended_early orders fault.Store h = absurd h
