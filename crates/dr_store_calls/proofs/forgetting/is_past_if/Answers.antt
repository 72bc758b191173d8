use Rattle.std.proofs.Common.{◌≡◌, ◌↔◌, Bool, true, IsTrue}
use Rattle.sqlite.specs.Held.{state}
use Rattle.sqlite.specs.Tree.{Trees}
use Rattle.dr_store_reads.specs.Queries.{HasOpen}
use Rattle.dr_store_calls.specs.Needs.{IsKeptIn}
use Rattle.dr_store_calls.proofs.Overs.{looked_as, past_there}
use Rattle.dr_store_calls.proofs.forgetting.is_past_if.Goals as goal

pub returns-then-there-clause-looked : goal.returns-then-there-clause-looked
returns-then-there-clause-looked g c n part =
    let uid = c.args.uid.now in
    let there = c.args.there in
    let Shows : Trees → Bool → Type 0 = λ base b. IsTrue b ↔ ((IsKeptIn base uid → ⊥) × (HasOpen base uid → ⊥)) in
    let Says : Trees → Bool → Type 0 = λ base b. IsTrue b ↔ ((there ≡ true) × (IsKeptIn base uid → ⊥) × (HasOpen base uid → ⊥)) in
    looked_as n part c.is_past.result (state g.S.Store c.args.conn.now) (state g.S.Store c.is_past.new.conn) Shows Says (c.is_past.ensures.looked n part)
    (λ base b says. past_there there b (IsKeptIn base uid) (HasOpen base uid) c.if-there.true says)
