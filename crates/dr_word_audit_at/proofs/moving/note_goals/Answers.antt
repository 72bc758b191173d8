use Rattle.std.proofs.Common.{◌≡◌, ◌∙◌, ◌∷◌, ◌+◌, drop, sym, ap, arith}
use Rattle.std.proofs.lemmas.List.{drop_all, drop_more}
use Rattle.std.specs.BTreeMap as tree
use Rattle.std.specs.BTreeMap.{is_at}
use Rattle.dr_ledger.specs.Pairs.{pair_cmp}
use Rattle.dr_word_audit_at.specs.Firsts.{is_goal, or_first}
use Rattle.dr_word_audit_at.proofs.Noted.{first_twice, nothing_new}
use Rattle.dr_word_audit_at.proofs.moving.note_goals.Goals as goal

pub loop-dest-preserved : goal.loop-dest-preserved
loop-dest-preserved c q =
    let to = c.args.to.now in
    let i = c.loop-dest.dest-index in
    let uid = c.args.uid.now in
    let place = c.args.place in
    let now = tree.get pair_cmp c.loop-dest.goes q in
    let hit = is_at (pair_cmp (uid, c.dest-item.result)) q in
    let e = drop_more to i c.dest-item.result c.loop-dest-test.true in
    let more : drop i to ≡ c.dest-item.result ∷ drop (i + 1) to = rw (← c.dest-item.is) at e in
    ap (λ o. or_first o (is_goal uid (drop (i + 1) to) q) place) (c.in_ok-note_place.ensures q) ∙ first_twice now hit (is_goal uid (drop (i + 1) to) q) place
    ∙ ap (λ ns. or_first now (is_goal uid ns q) place) (sym more) ∙ c.loop-dest.invariant q

pub returns : goal.returns
returns c q =
    let to = c.args.to.now in
    let i = c.loop-dest.dest-index in
    let now = tree.get pair_cmp c.loop-dest.goes q in
    sym (nothing_new now c.args.place) ∙ sym (ap (λ ns. or_first now (is_goal c.args.uid.now ns q) c.args.place) (drop_all i to (omega (arith, c.loop-dest-test.false)))) ∙ c.loop-dest.invariant q
