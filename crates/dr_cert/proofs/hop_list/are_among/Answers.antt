use Rattle.std.proofs.Common.{◌≡◌, ℕ, ◌<◌, inl, inr, refl, sym, ◌∙◌, ap, subst, List, length, get_or, Contains, arith}
use Rattle.std.specs.Prelude.{IsTrue}
use Rattle.std.specs.BTreeSet.{contains}
use Rattle.std.proofs.lemmas.Bool.{cases_lt, false≢true}
use Rattle.std.proofs.lemmas.List.{get_or_default}
use Rattle.std.proofs.lemmas.List.Elements.{Contains-get_or}
use Rattle.dr_plan_sound.specs.declared.certificate.Hop.{Hop}
use Rattle.dr_cert.specs.HopSets.{numbered, numbered_cmp}
use Rattle.dr_cert.specs.declared.hop_list.NumberedPassage.{NumberedPassage}
use Rattle.dr_cert.proofs.HopLists.{in_set}
use Rattle.dr_cert.proofs.hop_list.are_among.Goals as goal

there : (hops : List Hop) (k : ℕ) (hop : Hop) → hop ≡ get_or hops k hop → k < length hops → Contains hops hop
there hops k hop at h = let P : Hop → Type 0 = λ x. Contains hops x in subst P (sym at) (Contains-get_or hops k hop h)

pub returns-then-not-contains : goal.returns-then-not-contains
returns-then-not-contains c = (
  (λ h. absurd (false≢true h)),
  (λ all.
      let among = all c.hop-item.result (there c.args.hops.now c.loop-hop.hop-index c.hop-item.result c.hop-item.is c.loop-hop-test.true) in
      let listed : Contains c.in_ok-all.all.keys (numbered c.hop-item.result) = (c.in_ok-all.ensures c.hop-item.result).1 among in
      let P : NumberedPassage → Type 0 = λ n. IsTrue (contains numbered_cmp c.in_ok-all.all n) in
      let has : P c.in_ok-here.here = subst P (sym c.in_ok-here.ensures) ((in_set c.in_ok-all.all (numbered c.hop-item.result)).1 listed) in
      absurd (false≢true (sym c.if-not-contains.true ∙ (c.contains.ensures ∙ has)))),
)

pub loop-hop-preserved : goal.loop-hop-preserved
loop-hop-preserved c = λ k d below. elim (cases_lt k c.loop-hop.hop-index) [
  | inl before ↦ c.loop-hop.invariant k d before
  | inr now ↦
      let same : k ≡ c.loop-hop.hop-index = omega arith in
      let at : get_or c.args.hops.now k d ≡ c.hop-item.result =
      ap (λ (n : ℕ). get_or c.args.hops.now n d) same ∙ (get_or_default c.args.hops.now c.loop-hop.hop-index d c.hop-item.result c.loop-hop-test.true ∙ sym c.hop-item.is) in
      let P : NumberedPassage → Type 0 = λ n. IsTrue (contains numbered_cmp c.in_ok-all.all n) in
      let has : P (numbered c.hop-item.result) = subst P c.in_ok-here.ensures (sym c.contains.ensures ∙ c.if-not-contains.false) in
      let Q : Hop → Type 0 = λ h. Contains c.args.others.now h in
      subst Q (sym at) ((c.in_ok-all.ensures c.hop-item.result).0 ((in_set c.in_ok-all.all (numbered c.hop-item.result)).0 has))
]

pub returns : goal.returns
returns c = (
  (λ h hop among.
      let Q : Hop → Type 0 = λ x. Contains c.args.others.now x in
      subst Q among.2 (c.loop-hop.invariant among.0 hop (let h : among.0 < length c.args.hops.now = among.1 in omega (arith, h, c.loop-hop-test.false)))),
  (λ all. refl),
)
