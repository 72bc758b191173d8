-- Rows that are searched in turn.
use Rattle.std.proofs.Common.{◌≡◌, Bool, List, [], ◌∷◌, ◌++◌, Some, None, refl, inl, inr}
use Rattle.std.specs.Prelude.{find}
use Rattle.std.proofs.lemmas.Bool.{cases_Bool}
use Rattle.dr_base.specs.Texts.{Text}
use Rattle.dr_base.specs.declared.syntax.Syntax.{Syntax}
use Rattle.dr_route.specs.declared.accept.AcceptRow.{AcceptRow}
use Rattle.dr_pdu.specs.declared.pdu.ContextProposal.{ContextProposal}
use Rattle.dr_nego.specs.Answering.{is_row_for, is_proposed, first_proposed, syntaxes_for}
use Rattle.dr_nego.specs.Tests.{offered_by}

found_first : {X : Type 0} (test : X → Bool) (xs ys : List X) (x : X) → find test xs ≡ Some x → find test (xs ++ ys) ≡ Some x
found_first test [] ys x e = absurd (cc e)
found_first test (z ∷ zs) ys x e = elim (cases_Bool (test z)) [
  | inl passes ↦ (let f : Some z ≡ Some x = rw passes at e in rw passes f)
  | inr fails ↦ (let f : find test zs ≡ Some x = rw fails at e in rw fails (found_first test zs ys x f))
]

found_later : {X : Type 0} (test : X → Bool) (xs ys : List X) → find test xs ≡ None → find test (xs ++ ys) ≡ find test ys
found_later test [] ys e = refl
found_later test (z ∷ zs) ys e = elim (cases_Bool (test z)) [
  | inl passes ↦ (let f : Some z ≡ None = rw passes at e in absurd (cc f))
  | inr fails ↦ (let f : find test zs ≡ None = rw fails at e in rw fails (found_later test zs ys f))
]

module _ (caller : Text) (c : ContextProposal) where
  -- what a first row offers is what all rows do
  pub offered_first : (row : AcceptRow) (rows : List AcceptRow) (s : Syntax) → offered_by row caller c ≡ Some s → first_proposed c (syntaxes_for (row ∷ rows) caller c.class) ≡ Some s
  offered_first row rows s e = elim (cases_Bool (is_row_for caller c.class row)) [
    | inl is_so ↦ (let f : first_proposed c row.syntaxes ≡ Some s = rw is_so at e in rw is_so (found_first (is_proposed c) row.syntaxes (syntaxes_for rows caller c.class) s f))
    | inr is_not ↦ (let f : None ≡ Some s = rw is_not at e in absurd (cc f))
  ]

  -- where it offers nothing, the others decide
  pub offered_later : (row : AcceptRow) (rows : List AcceptRow) → offered_by row caller c ≡ None → first_proposed c (syntaxes_for (row ∷ rows) caller c.class) ≡ first_proposed c (syntaxes_for rows caller c.class)
  offered_later row rows e = elim (cases_Bool (is_row_for caller c.class row)) [
    | inl is_so ↦ (let f : first_proposed c row.syntaxes ≡ None = rw is_so at e in rw is_so (found_later (is_proposed c) row.syntaxes (syntaxes_for rows caller c.class) f))
    | inr is_not ↦ rw is_not refl
  ]
