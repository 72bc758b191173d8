use Rattle.std.proofs.Common.{◌≡◌, ◌↔◌, Bool, false, IsTrue}
use Rattle.std.specs.FinSet as set
use Rattle.sqlite.specs.Held.{state}
use Rattle.sqlite.specs.Tree.{Trees}
use Rattle.dr_ledger.specs.Replies.{Reads}
use Rattle.dr_store_schema.specs.Books.{all_kept_in}
use Rattle.dr_store_reads.specs.Queries.{HasOpen}
use Rattle.dr_store_calls.specs.Calling.{Nothing}
use Rattle.dr_store_calls.specs.Needs.{IsKeptIn}
use Rattle.dr_store_calls.proofs.Calls.{asked_looked, looked_then}
use Rattle.dr_store_calls.proofs.Overs.{past_by}
use Rattle.dr_store_calls.proofs.Reading.{reads_as}
use Rattle.dr_store_calls.proofs.forgetting.is_past.Goals as goal

pub returns-in-Ok-clause-looked : goal.returns-in-Ok-clause-looked
returns-in-Ok-clause-looked g c n part =
    let uid = c.args.uid.now in
    let kept = c.in-Ok.kept in
    let r = c.is_done_unless_kept.result in
    let old = state g.S.Store c.args.conn.now in
    let mid = state g.S.Store c.find_kept.new.conn in
    let new = state g.S.Store c.is_done_unless_kept.new.conn in
    let Shows : Trees → Bool → Type 0 = λ base b. b ≡ set.contains (all_kept_in (base 7)) uid in
    let Then : Trees → Bool → Type 0 = λ base b. IsTrue b ↔ ((kept ≡ false) × (HasOpen base uid → ⊥)) in
    let Says : Trees → Bool → Type 0 = λ base b. IsTrue b ↔ ((IsKeptIn base uid → ⊥) × (HasOpen base uid → ⊥)) in
    looked_then n n part old mid new Shows kept r Nothing Nothing (λ base db. (db ≡ base) × Reads r (Then base)) (λ base db. ⊥) (λ base db. (db ≡ base) × Reads r (Says base)) (λ base db. ⊥)
    (asked_looked n part _ old mid Shows c.in-Ok.ensures.asked) (c.is_done_unless_kept.ensures.looked n part)
    (λ past db l any shown. tt) (λ base db any shown it. (it.0, reads_as r (Then base) (Says base) (λ b says. past_by base uid kept b shown says) it.1)) (λ base db any shown none. none)
