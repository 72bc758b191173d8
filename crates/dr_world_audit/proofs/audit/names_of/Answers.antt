use Rattle.std.proofs.Common.{◌≡◌, ◌+◌, ◌++◌, ◌∷◌, [], arith, refl, true, Contains, List, subst, sym, take, ◌∙◌, ap, drop}
use Rattle.std.specs.Prelude.{◌↔◌}
use Rattle.std.specs.BTreeSet.{Updates}
use Rattle.std.proofs.lemmas.List.{append_assoc, take-append-drop, take_all, take_more}
use Rattle.dr_base.specs.Texts.{Text, text_cmp}
use Rattle.dr_world_audit.specs.declared.audit.NodeJournal.{NodeJournal}
use Rattle.dr_world_audit.specs.Sites.{AreApart, names}
use Rattle.dr_world_audit.proofs.Named.{apart_push, named_twice, names_push}
use Rattle.dr_world_audit.proofs.Sets.{false_is, one_more_name, name_added}
use Rattle.dr_world_audit.proofs.audit.names_of.Goals as goal

pub loop-node-preserved : goal.loop-node-preserved
loop-node-preserved c =
    let all = c.args.nodes.now in
    let i = c.loop-node.node-index in
    let one = c.node-item.result in
    let e = take_more all i one c.loop-node-test.true in
    let more : take (i + 1) all ≡ take i all ++ one ∷ [] = rw (← c.node-item.is) at e in
    let P : List NodeJournal → Type 0 = λ ns. ((n : Text) → Contains c.insert.new.self.keys n ↔ Contains (names ns) n) × AreApart ns in
    let U : Text → Type 0 = λ k. Updates text_cmp c.loop-node.ours c.insert.new.self k true in
    let added = name_added c.loop-node.ours c.insert.new.self one.name (subst U c.in_ok-clone.ensures c.in_ok-insert.ensures.updates) in
    let Q : List Text → Type 0 = λ ts. (n : Text) → Contains c.insert.new.self.keys n ↔ Contains ts n in
    subst P (sym more) (
      subst Q (sym (names_push (take i all) one)) (one_more_name c.loop-node.ours.keys c.insert.new.self.keys (names (take i all)) one.name c.loop-node.invariant.0 added),
      apart_push (take i all) one c.loop-node.invariant.1 (λ h. false_is refl (c.if-is_ours.ensures.1 ((c.loop-node.invariant.0 one.name).1 h))),
    )

pub returns-clause-same : goal.returns-clause-same
returns-clause-same c =
    let P : List NodeJournal → Type 0 = λ ns. (n : Text) → Contains c.loop-node.ours.keys n ↔ Contains (names ns) n in
    subst P (take_all c.loop-node.node-index c.args.nodes.now (omega (arith, c.loop-node-test.false))) c.loop-node.invariant.0

pub returns-clause-apart : goal.returns-clause-apart
returns-clause-apart c = subst AreApart (take_all c.loop-node.node-index c.args.nodes.now (omega (arith, c.loop-node-test.false))) c.loop-node.invariant.1

pub returns-then-is_ours-clause-twice : goal.returns-then-is_ours-clause-twice
returns-then-is_ours-clause-twice c =
    let all = c.args.nodes.now in
    let i = c.loop-node.node-index in
    let one = c.node-item.result in
    let e = take_more all i one c.loop-node-test.true in
    let more : take (i + 1) all ≡ take i all ++ one ∷ [] = rw (← c.node-item.is) at e in
    let rest = drop (i + 1) all in
    let whole : all ≡ take i all ++ one ∷ rest = sym (take-append-drop (i + 1) all) ∙ (ap (λ (ns : List NodeJournal). ns ++ rest) more ∙ append_assoc (take i all) (one ∷ []) rest) in
    λ apart. named_twice (take i all) one rest ((c.loop-node.invariant.0 one.name).0 (c.is_ours.ensures.0 c.if-is_ours.true)) (subst AreApart whole apart)
