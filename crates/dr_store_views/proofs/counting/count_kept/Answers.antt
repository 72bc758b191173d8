use Rattle.std.proofs.Common.{◌≡◌, ◌∙◌, ℕ, Err, ap, length, refl, sym}
use Rattle.sqlite.specs.Held.{state}
use Rattle.std.specs.Cmp.Lexicographic.{nat_list_cmp_total}
use Rattle.std.specs.FinSet as set
use Rattle.std.proofs.lemmas.Map.Lookups.{exact_bytes}
use Rattle.dr_ledger_views.proofs.Sets.{set_listed}
use Rattle.dr_store_schema.specs.Books.{all_kept_in}
use Rattle.dr_store_reads.proofs.Outcomes.{decoded, refused}
use Rattle.dr_store_views.proofs.counting.count_kept.Goals as goal

pub returns-in-Ok : goal.returns-in-Ok
returns-in-Ok g c =
    let old = state g.S.Store c.args.conn.now in
    let Says : ℕ → Type 0 = λ n. n ≡ set.len (all_kept_in (old.now.trees 7)) in
    record { asked = decoded {Q = Says} _ (λ has. has) (λ has lists. ap length c.as_slice.ensures.value ∙ sym (set_listed nat_list_cmp_total exact_bytes (all_kept_in (old.now.trees 7)) c.in-Ok.kept.items lists)) c.in-Ok.ensures.asked }

pub returns-in-Err : goal.returns-in-Err
returns-in-Err g c =
    let old = state g.S.Store c.args.conn.now in
    let Says : ℕ → Type 0 = λ n. n ≡ set.len (all_kept_in (old.now.trees 7)) in
    record { asked = refused {B = ℕ} {Q = Says} {r = Err c.in-Err.fault} (refl, refl) (λ has. has) c.in-Err.ensures.asked }
