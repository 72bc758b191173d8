use Rattle.std.proofs.Common.{◌≡◌, ◌↔◌, Bool, true, IsTrue, is_some, Option, subst}
use Rattle.sqlite.specs.Held.{state}
use Rattle.sqlite.specs.Tree.{Trees}
use Rattle.dr_route.specs.declared.key.Key.{Key}
use Rattle.dr_ledger.specs.Replies.{IsOver, Reads}
use Rattle.dr_store_schema.specs.Books.{book_of}
use Rattle.dr_store_reads.specs.Queries.{IsKeyOf, HasOpen}
use Rattle.dr_store_calls.specs.Calling.{Nothing}
use Rattle.dr_store_calls.specs.Needs.{IsKeptIn}
use Rattle.dr_store_calls.proofs.Calls.{asked_looked, looked_then}
use Rattle.dr_store_calls.proofs.Overs.{over_by}
use Rattle.dr_store_calls.proofs.Reading.{reads_as}
use Rattle.dr_store_calls.proofs.forgetting.is_over.Goals as goal

pub returns-in-Ok-clause-looked : goal.returns-in-Ok-clause-looked
returns-in-Ok-clause-looked g c n part =
    let uid = c.args.uid.now in
    let key = c.in-Ok.key in
    let r = c.is_past_if.result in
    let old = state g.S.Store c.args.conn.now in
    let mid = state g.S.Store c.find_key.new.conn in
    let new = state g.S.Store c.is_past_if.new.conn in
    let Past : Bool → Trees → Bool → Type 0 = λ there base b. IsTrue b ↔ ((there ≡ true) × (IsKeptIn base uid → ⊥) × (HasOpen base uid → ⊥)) in
    let Shows : Trees → Option Key → Type 0 = λ base. IsKeyOf uid base in
    let Then : Trees → Bool → Type 0 = Past c.is_some.result in
    let Says : Trees → Bool → Type 0 = λ base b. IsTrue b ↔ IsOver (book_of base) uid in
    looked_then n n part old mid new Shows key r Nothing Nothing (λ base db. (db ≡ base) × Reads r (Then base)) (λ base db. ⊥) (λ base db. (db ≡ base) × Reads r (Says base)) (λ base db. ⊥)
    (asked_looked n part _ old mid Shows c.in-Ok.ensures.asked) (c.is_past_if.ensures.looked n part)
    (λ past db l any shown. tt)
    (λ base db any shown it. (it.0, reads_as r (Then base) (Says base) (λ b says. over_by base uid key b shown (subst (λ there. Past there base b) c.is_some.ensures says)) it.1))
    (λ base db any shown none. none)
