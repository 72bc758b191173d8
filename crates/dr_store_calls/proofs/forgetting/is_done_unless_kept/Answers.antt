use Rattle.std.proofs.Common.{◌≡◌, ◌↔◌, Bool, false, not, IsTrue, Ok}
use Rattle.sqlite.specs.Held.{state}
use Rattle.sqlite.specs.Tree.{Trees}
use Rattle.dr_store_reads.specs.Queries.{HasOpen}
use Rattle.dr_store_calls.proofs.Calls.{asked_looked, looked_read}
use Rattle.dr_store_calls.proofs.Overs.{done_by}
use Rattle.dr_store_calls.proofs.forgetting.is_done_unless_kept.Goals as goal

pub returns-in-Ok-clause-looked : goal.returns-in-Ok-clause-looked
returns-in-Ok-clause-looked g c n part =
    let uid = c.args.uid.now in
    let kept = c.args.kept in
    let old = state g.S.Store c.args.conn.now in
    let new = state g.S.Store c.has_open.new.conn in
    let Shows : Trees → Bool → Type 0 = λ base b. IsTrue b ↔ HasOpen base uid in
    let Says : Trees → Bool → Type 0 = λ base b. IsTrue b ↔ ((kept ≡ false) × (HasOpen base uid → ⊥)) in
    looked_read n part old new Shows c.in-Ok.undone (Ok (not c.in-Ok.undone)) Says (asked_looked n part _ old new Shows c.in-Ok.ensures.asked)
    (λ base shown. done_by kept c.in-Ok.undone (HasOpen base uid) c.if-kept.false shown)
