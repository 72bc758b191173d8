use Rattle.std.proofs.Common.{◌≡◌, ◌∙◌, ap, sym}
use Rattle.std.specs.BTreeMap as tree
use Rattle.std.specs.BTreeMap.{is_at}
use Rattle.dr_ledger.specs.Pairs.{Pair, pair_cmp}
use Rattle.dr_word_audit_at.specs.Firsts.{or_first}
use Rattle.dr_word_audit_at.proofs.Noted.{kept, placed}
use Rattle.dr_word_audit_at.proofs.moving.note_place.Goals as goal

pub returns-then-contains_key : goal.returns-then-contains_key
returns-then-contains_key c q =
    let m = c.args.places.now in
    let key : Pair = (c.in_ok-clone.field-0, c.in_ok-clone-2.field-0) in
    let same : ◌≡◌ {A = Pair} key (c.args.uid.now, c.args.name.now) = λ j. (c.in_ok-clone.ensures j, c.in_ok-clone-2.ensures j) in
    kept m key c.args.place (sym c.contains_key.ensures ∙ c.if-contains_key.true) q ∙ ap (λ k. or_first (tree.get pair_cmp m q) (is_at (pair_cmp k) q) c.args.place) same

pub returns : goal.returns
returns c q =
    let m = c.args.places.now in
    let key : Pair = (c.in_ok-clone.field-0, c.in_ok-clone-2.field-0) in
    let same : ◌≡◌ {A = Pair} key (c.args.uid.now, c.args.name.now) = λ j. (c.in_ok-clone.ensures j, c.in_ok-clone-2.ensures j) in
    placed m c.insert.new.self key c.args.place (sym c.contains_key.ensures ∙ c.if-contains_key.false) c.in_ok-insert.ensures.updates.0 q ∙ ap (λ k. or_first (tree.get pair_cmp m q) (is_at (pair_cmp k) q) c.args.place) same
