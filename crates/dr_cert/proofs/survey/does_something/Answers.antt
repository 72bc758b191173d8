use Rattle.std.proofs.Common.{◌≡◌, ◌⊎◌, inl, inr, ◌∙◌, sym, ap, List, [], ◌∷◌, length, Contains, false, arith}
use Rattle.std.specs.Prelude.{IsTrue, ◌==◌, not, ◌↔◌, Bool}
use Rattle.std.proofs.lemmas.Bool.{false≢true, cases_Bool}
use Rattle.std.proofs.lemmas.Bool.Decides.{Decides-eqb}
use Rattle.dr_base.specs.Texts.{Text}
use Rattle.dr_plan_model.proofs.Gathered.{Contains-here, nothing_in_nil}
use Rattle.dr_cert.proofs.survey.does_something.Goals as goal

not_none : (name : Text) (names : List Text) → IsTrue (not (length (name ∷ names) == 0))
not_none name names = elim (cases_Bool (length (name ∷ names) == 0)) [
  | inl none ↦ (let e : length (name ∷ names) ≡ 0 = (Decides-eqb (length (name ∷ names)) 0).0 none in absurd (omega arith))
  | inr some ↦ ap not some
]

is_some : (names : List Text) (keep : Bool) → keep ≡ false → IsTrue (not (length names == 0)) ↔ (IsTrue keep ⊎ ((name : Text) × Contains names name))
is_some [] keep off = (λ h. absurd (false≢true h), λ h. elim h [ inl k ↦ absurd (false≢true (sym off ∙ k)) | inr n ↦ absurd (nothing_in_nil n.0 n.1) ])
is_some (name ∷ names) keep off = (λ h. inr (name, Contains-here name names), λ h. not_none name names)

pub returns-else-targets : goal.returns-else-targets
returns-else-targets c = rw c.is_empty.ensures (is_some c.args.targets.now.to c.args.targets.now.keep c.if-targets.false)
