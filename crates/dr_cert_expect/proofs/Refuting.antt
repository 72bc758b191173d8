-- What is lacking refutes a row.
use Rattle.std.proofs.Common.{◌≡◌, ℕ, zero, suc, ◌+◌, ◌<◌, ◌⊎◌, inl, inr, sym, ap, ◌∙◌, Some, List, length, take, get_or, Contains, arith}
use Rattle.std.specs.Prelude.{All, slice_get}
use Rattle.std.proofs.lemmas.List.{get_or-take}
use Rattle.std.proofs.lemmas.List.Elements.{All-contains}
use Rattle.std.proofs.lemmas.Option.{slice_get_within, get_or_from_slice_get}
use Rattle.dr_plan_model.specs.Networks.{Network}
use Rattle.dr_plan_expect.specs.declared.words.Expectation.{Expectation}
use Rattle.dr_cert_expect.specs.declared.answer.Lack.{Lack}
use Rattle.dr_cert_expect.specs.declared.answer.Lack.TheVariants.{Nothing, Keep, Never}
use Rattle.dr_cert_expect.specs.declared.answer.Miss.{Miss}
use Rattle.dr_cert_expect.specs.Expected.{Holds, IsFirstMiss, ShowsLack}
use Rattle.dr_cert_expect.proofs.Naming.{in_front}

pub refutes : (plan : Network) (row : Expectation) (lack : Lack) → ShowsLack plan row lack → Holds plan row → ⊥
refutes plan row Nothing shows holds = shows holds.some
refutes plan row (Keep name case) shows holds = shows.2 ((holds.each case.site case.key shows.0).keep name shows.1)
refutes plan row (Never name case) shows holds = (holds.each case.site case.key shows.0).never name shows.1 shows.2

apart : (a b : ℕ) → (a < b) ⊎ ((b < a) ⊎ (a ≡ b))
apart zero zero = inr (inr (omega arith))
apart zero (suc b) = inl (omega arith)
apart (suc a) zero = inr (inl (omega arith))
apart (suc a) (suc b) = elim (apart a b) [ inl h ↦ inl (omega (arith, h)) | inr h ↦ inr (elim h [ inl g ↦ inl (omega (arith, g)) | inr e ↦ inr (ap suc e) ]) ]

-- a row before the first miss holds
holds_before : (plan : Network) (rows : List Expectation) (i k : ℕ) (row : Expectation) → slice_get rows i ≡ Some row → i < k → All (Holds plan) (take k rows) → Holds plan row
holds_before plan rows i k row is lt all =
    let within : i < length rows = slice_get_within rows i row is in
    All-contains (Holds plan) (take k rows) row all (i, in_front k rows i lt within, get_or-take k rows i row lt ∙ get_or_from_slice_get rows i row row is)

pub one_first : (plan : Network) (rows : List Expectation) (a b : Miss) → IsFirstMiss plan rows a → IsFirstMiss plan rows b → a.row ≡ b.row
one_first plan rows a b first second = elim (apart first.index second.index) [
  | inl less ↦ absurd (refutes plan first.row a.lack first.shows (holds_before plan rows first.index second.index first.row first.is less second.before))
  | inr other ↦ elim other [
    | inl more ↦ absurd (refutes plan second.row b.lack second.shows (holds_before plan rows second.index first.index second.row second.is more first.before))
    | inr same ↦ first.number ∙ (ap (λ n. n + 1) same ∙ sym second.number)
  ]
]
