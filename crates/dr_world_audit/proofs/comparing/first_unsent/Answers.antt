use Rattle.std.proofs.Common.{◌≡◌, ◌+◌, ◌++◌, ◌∷◌, [], arith, inl, inr, refl, Contains, List, subst, sym, take}
use Rattle.std.proofs.lemmas.List.{take_all, take_more}
use Rattle.std.proofs.lemmas.List.Elements.{Contains-push_cases}
use Rattle.dr_world_audit.specs.Comparing.{IsUnsent}
use Rattle.dr_world_audit.specs.declared.hop.AuditHop.{AuditHop as Held}
use Rattle.dr_world_audit.proofs.comparing.first_unsent.Goals as goal

pub loop-hop-preserved : goal.loop-hop-preserved
loop-hop-preserved c =
    let all = c.args.came.now in
    let i = c.loop-hop.hop-index in
    let one = c.hop-item.result in
    let e = take_more all i one c.loop-hop-test.true in
    let more : take (i + 1) all ≡ take i all ++ one ∷ [] = rw (← c.hop-item.is) at e in
    λ hop among.
    let P : List Held → Type 0 = λ hs. Contains hs hop in
    let Q : Held → Type 0 = λ h. IsUnsent c.args.ours.now.keys c.args.sent.now h → ⊥ in
    elim (Contains-push_cases (take i all) one hop (subst P more among)) [
      | inl was ↦ c.loop-hop.invariant hop was
      | inr same ↦ subst Q same (c.if-is_unsent.ensures.no refl)
    ]

pub returns : goal.returns
returns c = λ hop among. (
    let P : List Held → Type 0 = λ hs. Contains hs hop in
    c.loop-hop.invariant hop (subst P (sym (take_all c.loop-hop.hop-index c.args.came.now (omega (arith, c.loop-hop-test.false)))) among)
    )
