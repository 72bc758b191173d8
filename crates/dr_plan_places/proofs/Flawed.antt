-- What has a flaw is no name.
use Rattle.std.proofs.Common.{◌≡◌, ℕ, ◌<◌, ◌≤◌, inl, inr, get_or, arith, subst, lit<}
use Rattle.std.proofs.lemmas.Option.{slice_get_within, get_or_from_slice_get}
use Rattle.dr_base.specs.Texts.{Text}
use Rattle.dr_plan_model.specs.Formed.{IsName}
use Rattle.dr_plan_places.specs.Flaws.{HasNameFlaw, IsNameByte, IsNoNameByte}
use Rattle.dr_plan_places.specs.Laws.{LongNameIsLongFirst, SecondTabIsNotTold}
use Rattle.dr_plan_places.specs.declared.flaws.NameFlaw.{NameFlaw}
use Rattle.dr_plan_places.specs.declared.flaws.NameFlaw.TheVariants.{Empty, Long, Reserved, Unprintable, Blank}

bad_byte : (byte : ℕ) → IsNoNameByte byte → IsNameByte byte → ⊥
bad_byte byte bad good = elim bad [
  | inl low ↦ (let h = good.0 in omega arith)
  | inr rest ↦ elim rest [
    | inl high ↦ (let h = good.1 in omega arith)
    | inr backslash ↦ good.2 backslash
  ]
]

pub flawed : (text : Text) (flaw : NameFlaw) → HasNameFlaw text flaw → IsName text → ⊥
flawed text Empty h is = is.some h
flawed text Long h is = let short = is.short in omega arith
flawed text Reserved h is = elim h [ inl star ↦ is.not_any star | inr dash ↦ is.not_local dash ]
flawed text (Unprintable index) h is =
    let byte : ℕ = h.1.value in
    let here : get_or text index byte ≡ byte = get_or_from_slice_get text index byte byte h.1.stands in
    bad_byte byte h.1.at (subst IsNameByte here (is.printable index byte (slice_get_within text index byte h.1.stands)))
flawed text Blank h is = h.2 is.trimmed

pub long_first : LongNameIsLongFirst
long_first h = let short : 17 ≤ 16 = h.0 in omega arith

pub first_tab : SecondTabIsNotTold
first_tab h = let good : IsNameByte 9 = h.1.before 0 0 (lit< tt) in (let low = good.0 in omega arith)
