use Rattle.std.proofs.Common.{◌≡◌, ◌⊎◌, ◌↔◌, Bool, true, false, IsTrue, sym, ◌∙◌, true≢false}
use Rattle.sqlite.specs.Held.{state}
use Rattle.sqlite.specs.Tree.{Trees}
use Rattle.dr_ledger.specs.Books.{is_queued}
use Rattle.dr_ledger.specs.Replies.{Reads}
use Rattle.dr_store_reads.specs.Queries.{IsOpenElsewhere}
use Rattle.dr_store_calls.specs.Calling.{Nothing}
use Rattle.dr_store_calls.specs.Needs.{IsKeptIn, IsNeededStill}
use Rattle.dr_store_calls.proofs.Calls.{asked_looked, looked_then}
use Rattle.dr_store_calls.proofs.Reading.{reads_as, still_as}
use Rattle.dr_store_calls.proofs.needs.is_needed.Goals as goal

pub returns-in-Ok-clause-looked : goal.returns-in-Ok-clause-looked
returns-in-Ok-clause-looked g c n part =
    let uid = c.args.uid.now in
    let dest = c.args.dest.now in
    let to = c.args.to in
    let elsewhere = c.in-Ok.elsewhere in
    let r = c.or_kept.result in
    let old = state g.S.Store c.args.conn.now in
    let mid = state g.S.Store c.is_open_elsewhere.new.conn in
    let new = state g.S.Store c.or_kept.new.conn in
    let closed : is_queued to ≡ true → ⊥ = λ more. true≢false (sym more ∙ (sym c.is_queued.ensures ∙ c.if-is_queued.false)) in
    let Shows : Trees → Bool → Type 0 = λ base b. IsTrue b ↔ IsOpenElsewhere base uid dest in
    let Then : Trees → Bool → Type 0 = λ base b. IsTrue b ↔ ((elsewhere ≡ true) ⊎ IsKeptIn base uid) in
    let Says : Trees → Bool → Type 0 = λ base b. IsTrue b ↔ IsNeededStill base uid dest to in
    looked_then n n part old mid new Shows elsewhere r Nothing Nothing (λ base db. (db ≡ base) × Reads r (Then base)) (λ base db. ⊥) (λ base db. (db ≡ base) × Reads r (Says base)) (λ base db. ⊥)
    (asked_looked n part _ old mid Shows c.in-Ok.ensures.asked) (c.or_kept.ensures.looked n part)
    (λ past db l any shown. tt) (λ base db any shown it. (it.0, reads_as r (Then base) (Says base) (λ b says. still_as elsewhere b (is_queued to ≡ true) (IsOpenElsewhere base uid dest) (IsKeptIn base uid) closed shown says) it.1))
    (λ base db any shown none. none)
