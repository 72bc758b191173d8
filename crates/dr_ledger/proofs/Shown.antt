-- What reads show, and when a failure counts.
use Rattle.std.proofs.Common.{◌≡◌, refl, sym, ap, subst, ◌∙◌, ◌⊎◌, inl, inr, ℕ, ◌<◌, ◌-◌, ◌^◌, true, false, List, [], ◌∷◌, All, Contains, Some, Result, Ok, Err, map as mapped, arith}
use Rattle.std.specs.FinMap as map
use Rattle.dr_base.specs.Texts.{Text}
use Rattle.dr_plan_model.proofs.Gathered.{nothing_in_nil, Contains-cons_cases, Contains-here, Contains-there}
use Rattle.dr_ledger.specs.declared.item.Instance.{Instance}
use Rattle.dr_ledger.specs.declared.fault.LedgerFault.{LedgerFault}
use Rattle.dr_ledger.specs.declared.fault.LedgerFault.TheVariants as fault
use Rattle.dr_ledger.specs.Replies.{LastsAfter}
use Rattle.dr_ledger.specs.Showing.{AddedIsUnarmed, EachCallKeepsPremises, FailuresAreCounted, FiguresRise, KeptAreMeasured, LinesAreShown, ListsAreOne, NoLineLeavesArmed, OthersLeaveArmed, PremisesLast, StoresSpend}
use Rattle.dr_ledger.proofs.Growing.{inside}
use Rattle.dr_ledger.proofs.PlanRouting.{one_list}

pub lines_are_shown : LinesAreShown
lines_are_shown = record { arrival = refl; repeat = refl; settling = refl; requeuing = refl; dropping = refl; forgetting = refl; adoption = refl }

abbrev uid_of : Text × ℕ → Text
uid_of e = e.0

-- the uids of a list
among : (all : List (Text × ℕ)) (e : Text × ℕ) → Contains all e → Contains (mapped uid_of all) e.0
among [] e h = absurd (nothing_in_nil e h)
among (first ∷ all) e h = elim (Contains-cons_cases first all e h) [
  | inl same ↦ (let P : Text × ℕ → Type 0 = λ x. Contains (first.0 ∷ mapped uid_of all) x.0 in subst P same (Contains-here first.0 (mapped uid_of all)))
  | inr later ↦ Contains-there first.0 (mapped uid_of all) e.0 (among all e later)
]

came_from : (all : List (Text × ℕ)) (uid : Text) → Contains (mapped uid_of all) uid → (size : ℕ) × Contains all (uid, size)
came_from [] uid h = absurd (nothing_in_nil uid h)
came_from (first ∷ all) uid h = elim (Contains-cons_cases first.0 (mapped uid_of all) uid h) [
  | inl same ↦ (first.1, (let P : Text → Type 0 = λ u. Contains (first ∷ all) (u, first.1) in subst P same (Contains-here first all)))
  | inr later ↦ (let c = came_from all uid later in (c.0, Contains-there first all (uid, c.0) c.1))
]

-- what holds of all holds of each
each_of : {X : Type 0} (P : X → Type 0) (all : List X) → All P all → (x : X) → Contains all x → P x
each_of P all h x is = subst P is.2 (h is.0 x is.1)

pub kept_are_measured : KeptAreMeasured
kept_are_measured b all h uid size =
    let Has : Text × ℕ → Type 0 = λ e. (item : Instance) × (map.get b.items e.0 ≡ Some item) × (item.size ≡ e.1) in (
      λ is. ((h.0.each uid).0 (among all (uid, size) is), each_of Has all h.1 (uid, size) is),
      λ k.
          let found = came_from all uid ((h.0.each uid).1 k.0) in
          let other = each_of Has all h.1 (uid, found.0) found.1 in
          let same : other.0 ≡ k.1.0 = inside other.0 k.1.0 (sym other.1 ∙ k.1.1) in
          let n : found.0 ≡ size = sym other.2 ∙ (ap (λ (i : Instance). i.size) same ∙ k.1.2) in
          subst (λ s. Contains all (uid, s)) n found.1,
    )

pub failures_are_counted : FailuresAreCounted
failures_are_counted before now c early = risen (c.has_cause refl)
  where
    risen : (before < now) ⊎ (now ≡ 2 ^ 64 - 1) → before < now
    risen (inl more) = more
    risen (inr full) = let no : ⊥ = omega (arith, full, early) in absurd no

pub figures_rise : FiguresRise
figures_rise = record { same = no_more; more = inl (omega arith); greatest = inr refl }
  where
    no_more : (3 < 3) ⊎ (3 ≡ 2 ^ 64 - 1) → ⊥
    no_more (inl less) = omega (arith, less)
    no_more (inr same) = omega (arith, same)

pub lists_are_one : ListsAreOne
lists_are_one elements first other f o = one_list first other f.ordered o.ordered (λ t. (
  λ h. (o.each t).1 ((f.each t).0 h),
  λ h. (f.each t).1 ((o.each t).0 h),
))

pub added_is_unarmed : AddedIsUnarmed
added_is_unarmed value old new h = h

pub others_leave_armed : OthersLeaveArmed
others_leave_armed fault.Store old new not_store h = absurd (not_store refl)
others_leave_armed fault.NoLine old new not_store h = h
others_leave_armed fault.Conflict old new not_store h = h
others_leave_armed fault.NotWaiting old new not_store h = h
others_leave_armed fault.NotHeld old new not_store h = h
others_leave_armed fault.NotOver old new not_store h = h
others_leave_armed fault.Memory old new not_store h = h

pub no_line_leaves_armed : NoLineLeavesArmed
no_line_leaves_armed (Ok value) old new h = h.1 ∙ sym h.0
no_line_leaves_armed (Err fault.Store) old new (inl same) = same
no_line_leaves_armed (Err fault.Store) old new (inr would) = absurd would.0
no_line_leaves_armed (Err fault.NoLine) old new h = h
no_line_leaves_armed (Err fault.Conflict) old new h = h
no_line_leaves_armed (Err fault.NotWaiting) old new h = h
no_line_leaves_armed (Err fault.NotHeld) old new h = h
no_line_leaves_armed (Err fault.NotOver) old new h = h
no_line_leaves_armed (Err fault.Memory) old new h = h

pub stores_spend : StoresSpend
stores_spend = record { spends = inr (tt, refl, refl); leaves = λ told. inl refl; tells_none = none }
  where
    none : (true ≡ false) ⊎ (Unit {0} × (false ≡ true) × (true ≡ false)) → ⊥
    none (inl e) = cc
    none (inr h) = (let e : false ≡ true = h.1 in cc)

-- the answer is a failed store, or want of memory
abbrev IsFailed : Result ℕ LedgerFault → Type 0
IsFailed r = (r ≡ Err fault.Store) ⊎ (r ≡ Err fault.Memory)

neither : (r : Result ℕ LedgerFault) → (r ≡ Err fault.Store → ⊥) → (r ≡ Err fault.Memory → ⊥) → IsFailed r → ⊥
neither r store memory (inl e) = store e
neither r store memory (inr e) = memory e

pub premises_last : PremisesLast
premises_last (Ok value) = (λ no. absurd no, neither (Ok value) (λ e. cc) (λ e. cc))
premises_last (Err fault.Store) = (λ no. inl refl, λ failed. tt)
premises_last (Err fault.Memory) = (λ no. inr refl, λ failed. tt)
premises_last (Err fault.NoLine) = (λ no. absurd no, neither (Err fault.NoLine) (λ e. cc) (λ e. cc))
premises_last (Err fault.Conflict) = (λ no. absurd no, neither (Err fault.Conflict) (λ e. cc) (λ e. cc))
premises_last (Err fault.NotWaiting) = (λ no. absurd no, neither (Err fault.NotWaiting) (λ e. cc) (λ e. cc))
premises_last (Err fault.NotHeld) = (λ no. absurd no, neither (Err fault.NotHeld) (λ e. cc) (λ e. cc))
premises_last (Err fault.NotOver) = (λ no. absurd no, neither (Err fault.NotOver) (λ e. cc) (λ e. cc))

ended : (r : Result ℕ LedgerFault) → LastsAfter r (Unit {0} → Unit {0} → ⊥) → IsFailed r
ended (Ok value) h = absurd (h tt tt)
ended (Err fault.Store) h = inl refl
ended (Err fault.Memory) h = inr refl
ended (Err fault.NoLine) h = absurd (h tt tt)
ended (Err fault.Conflict) h = absurd (h tt tt)
ended (Err fault.NotWaiting) h = absurd (h tt tt)
ended (Err fault.NotHeld) h = absurd (h tt tt)
ended (Err fault.NotOver) h = absurd (h tt tt)

pub each_call_keeps_premises : EachCallKeepsPremises
each_call_keeps_premises r = record { ends = λ p. ended r p.lasts; trusted = λ p. p.trusted tt }
