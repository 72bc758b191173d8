use Rattle.std.proofs.Common.{◌≡◌, ℕ, ◌^◌, ◌<◌, ◌≤◌, [], ◌∷◌, length, insert, slice_index_or, All, IsTrue, is_ok}
use Rattle.std.proofs.Common.{ap, sym, subst, inl, inr, rules, arith}
use Rattle.std.proofs.lemmas.Bool.{cases_Bool, cases_lt}
use Rattle.std.proofs.lemmas.List.Elements.{All-contains, Contains-append_left, Contains-push}
use Rattle.std.proofs.lemmas.List.Sorted.{Contains-permutation, IsPermutation-insert}
use Rattle.sqlite_disk.specs.Disk.{Only}
use Rattle.dr_store_bodies.specs.declared.extent.Extent.{Extent}
use Rattle.dr_store_bodies.specs.Extents.{LiesBefore, IsSafe, end_of}
use Rattle.dr_store_bodies.specs.Place.{IsFirstPlace, IsFull, IsPlace}
use Rattle.dr_store_bodies.proofs.PlaceLemmas.{IsBeside, safe_beside, safe_fewer, safe_synced}
use Rattle.dr_store_bodies.proofs.PlaceLemmas.{All-insert, AllPairs-insert}
use Rattle.dr_store_bodies.proofs.bodies.Bodies.put.Goals as goal

pub returns-in_default-clause-why : goal.returns-in_default-clause-why
returns-in_default-clause-why g c = (
  subst (λ xs. IsFull xs (length c.args.body.now)) c.deref.ensures.value
      c.in_default.ensures.full,
  search rules,
)

pub returns-clause-first : goal.returns-clause-first
returns-clause-first g c =
    subst (λ xs. IsFirstPlace xs (length c.args.body.now) c.in-Some.at) c.deref.ensures.value
    c.in-Some.ensures.first

pub returns-clause-listed : goal.returns-clause-listed
returns-clause-listed g c = rw (c.in_ok-insert.ensures.items) (IsPermutation-insert _ _ _)

pub returns-clause-other : goal.returns-clause-other
returns-clause-other g c =
    let old = c.args.self.now.extents.items in
    let n = length c.args.body.now in
    let place : IsPlace old n c.in-Some.index c.in-Some.at =
    subst (λ xs. IsPlace xs n c.in-Some.index c.in-Some.at) c.deref.ensures.value
    c.in-Some.ensures.place in
    λ k d low.
    let some : 0 < (slice_index_or old k d).size = c.args.self.now.filled k d low in
    elim (cases_lt k c.in-Some.index) [
      | inl under ↦ λ e. absurd (omega (arith, e, some, place.gap.behind k d under))
      | inr over ↦ λ e. absurd (omega (arith, e, c.requires, place.gap.before k d over low))
    ]

-- what is written ends where its extent does
pub returns-clause-ends : goal.returns-clause-ends
returns-clause-ends g c size short all =
    let old = c.args.self.now.extents.items in
    let e : Extent = record { at = c.in-Some.at; size = length c.args.body.now } in
    let end : end_of e ≤ size =
    All-contains (λ (f : Extent). end_of f ≤ size) c.insert.new.self.items e all
    (Contains-permutation (e ∷ old) c.insert.new.self.items e
    (rw (c.in_ok-insert.ensures.items) (IsPermutation-insert _ _ _))
    (Contains-append_left (e ∷ []) old e (Contains-push [] e))) in
    let synced : length (g.D.Disk.seen c.sync.new.self) ≡ length (g.D.Disk.seen c.write_at.new.self) =
    ap length c.sync.ensures.seen in
    omega (arith, synced, c.write_at.ensures.others.no_longer, short, end)

pub invariant_of-self-2 : goal.invariant_of-self-2
invariant_of-self-2 g c =
    let old = c.args.self.now.extents.items in
    let e : Extent = record { at = c.in-Some.at; size = length c.args.body.now } in
    let n = length c.args.body.now in
    let place : IsPlace old n c.in-Some.index c.in-Some.at =
    subst (λ xs. IsPlace xs n c.in-Some.index c.in-Some.at) c.deref.ensures.value
    c.in-Some.ensures.place in
    let gap = place.gap in
    let holds = c.in_ok-write_at.ensures.written c.requires in
    let seen = g.D.Disk.seen c.sync.new.self in
    let is = g.D.Disk.may_leave c.sync.new.self in
    let durable : Only seen is =
    subst (λ file. Only file is) (sym c.sync.ensures.seen) c.in_ok-sync.ensures.durable in
    let beside : (k : ℕ) (d : Extent) → k < length old
    → IsBeside (slice_index_or old k d) c.in-Some.at n =
    λ k d low. elim (cases_lt k c.in-Some.index) [
      | inl under ↦ inl (gap.behind k d under)
      | inr over ↦ inr (gap.before k d over low)
    ] in
    let safe_old : IsTrue (g.D.Disk.is_clean c.sync.new.self) → All (IsSafe seen is) old =
    λ clean k d low.
    safe_fewer _ _ _ _ _ c.sync.ensures.seen c.sync.ensures.crash
    (safe_beside c.in-Some.at n _ _ _ _ _ (beside k d low)
    c.write_at.ensures.others c.write_at.ensures.crash
    (c.args.self.now.safe (c.write_at.ensures.clean (c.sync.ensures.clean clean)) k d low)) in
    let fits = gap.counted in
    elim (cases_Bool (is_ok c.insert.result)) [
      | inl stored ↦
          let items : c.insert.new.self.items ≡ insert old c.in-Some.index e =
          rw stored at c.insert.ensures.items in
          rw items (record {
            filled = All-insert old _ e fits (λ f. 0 < f.size) c.args.self.now.filled c.requires;
            apart = AllPairs-insert old _ e fits LiesBefore c.args.self.now.apart
                gap.behind gap.before;
            named = All-insert old _ e fits (λ f. end_of f < 2 ^ 64) c.args.self.now.named gap.fits;
            safe = λ clean. All-insert old _ e fits (IsSafe seen is) (safe_old clean)
                (safe_synced seen is e c.args.body.now (λ i. n) (rw c.sync.ensures.seen holds) durable);
          })
      | inr full ↦
          let items : c.insert.new.self.items ≡ old = rw full at c.insert.ensures.items in
          rw items (record {
            filled = c.args.self.now.filled;
            apart = c.args.self.now.apart;
            named = c.args.self.now.named;
            safe = safe_old;
          })
    ]
