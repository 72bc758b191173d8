use Rattle.std.proofs.Common.{◌≡◌, Option}
use Rattle.sqlite.specs.Held.{state}
use Rattle.sqlite.specs.Tree.{Trees}
use Rattle.dr_route.specs.declared.key.Key.{Key}
use Rattle.dr_ledger.specs.Replies.{Reads}
use Rattle.dr_store_reads.specs.Queries.{IsKeyOf}
use Rattle.dr_store_calls.specs.Calling.{Nothing}
use Rattle.dr_store_calls.specs.Knowing.{IsWhatIsKnown}
use Rattle.dr_store_calls.specs.declared.knowing.Known.{Known}
use Rattle.dr_store_calls.proofs.Calls.{asked_looked, looked_then}
use Rattle.dr_store_calls.proofs.Reading.{reads_as}
use Rattle.dr_store_calls.proofs.knowing.know.Goals as goal

pub returns-in-Ok-clause-looked : goal.returns-in-Ok-clause-looked
returns-in-Ok-clause-looked g c n part =
    let item = c.args.item.now in
    let key = c.in-Ok.key in
    let r = c.known_by.result in
    let old = state g.S.Store c.args.conn.now in
    let mid = state g.S.Store c.find_key.new.conn in
    let new = state g.S.Store c.known_by.new.conn in
    let Shows : Trees → Option Key → Type 0 = λ base. IsKeyOf item.uid base in
    let Then : Trees → Known → Type 0 = λ base known. IsKeyOf item.uid base key → IsWhatIsKnown base item known in
    let Says : Trees → Known → Type 0 = λ base known. IsWhatIsKnown base item known in
    looked_then n n part old mid new Shows key r Nothing Nothing (λ base db. (db ≡ base) × Reads r (Then base)) (λ base db. ⊥) (λ base db. (db ≡ base) × Reads r (Says base)) (λ base db. ⊥)
    (asked_looked n part _ old mid Shows c.in-Ok.ensures.asked) (c.known_by.ensures.looked n part)
    (λ past db l any shown. tt) (λ base db any shown it. (it.0, reads_as r (Then base) (Says base) (λ known says. says shown) it.1)) (λ base db any shown none. none)
