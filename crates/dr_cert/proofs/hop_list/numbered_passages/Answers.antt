use Rattle.std.proofs.Common.{arith, ◌≡◌, ◌+◌, ◌++◌, ◌∷◌, [], sym, subst, List, take, true}
use Rattle.std.specs.BTreeSet.{Updates}
use Rattle.std.proofs.lemmas.List.{take_more, take_all}
use Rattle.dr_plan_sound.specs.declared.certificate.Hop.{Hop}
use Rattle.dr_cert.specs.HopSets.{numbered_cmp, AreTheNumbered}
use Rattle.dr_cert.specs.declared.hop_list.NumberedPassage.{NumberedPassage}
use Rattle.dr_cert.proofs.HopLists.{numbered_none, numbered_more}
use Rattle.dr_cert.proofs.hop_list.numbered_passages.Goals as goal

pub loop-hop-init : goal.loop-hop-init
loop-hop-init c = numbered_none c.new-all.result c.new-all.ensures.empty

pub loop-hop-preserved : goal.loop-hop-preserved
loop-hop-preserved c =
    let e = take_more c.args.hops.now c.loop-hop.hop-index c.hop-item.result c.loop-hop-test.true in
    let more : take (c.loop-hop.hop-index + 1) c.args.hops.now ≡ take c.loop-hop.hop-index c.args.hops.now ++ c.hop-item.result ∷ [] = rw (← c.hop-item.is) at e in
    let P : NumberedPassage → Type 0 = λ k. Updates numbered_cmp c.loop-hop.all c.insert.new.self k true in
    let Q : List Hop → Type 0 = λ hs. AreTheNumbered hs c.insert.new.self in
    subst Q (sym more) (numbered_more (take c.loop-hop.hop-index c.args.hops.now) c.hop-item.result c.loop-hop.all c.insert.new.self c.loop-hop.invariant (subst P c.in_ok-numbered_passage.ensures c.in_ok-insert.ensures.updates))

pub returns : goal.returns
returns c =
    let P : List Hop → Type 0 = λ hs. AreTheNumbered hs c.loop-hop.all in
    subst P (take_all c.loop-hop.hop-index c.args.hops.now (omega (arith, c.loop-hop-test.false))) c.loop-hop.invariant
