-- The place where a stop is found among sorted lines.
use Rattle.std.proofs.Common.{◌≡◌, ℕ, ◌+◌, ◌<◌, inl, inr, sym, ◌∙◌, ap, List, length, get_or, false, arith}
use Rattle.std.specs.declared.cmp.Ordering.TheVariants.{Less, Equal, Greater}
use Rattle.std.specs.Ordering.{ordering_reverse, ordering_index, is_lt}
use Rattle.std.specs.List.Sorted.{IsNonDecreasingBy, IsPartitionPoint}
use Rattle.std.proofs.lemmas.Cmp.{tied_itself}
use Rattle.std.proofs.lemmas.Bool.{cases_lt}
use Rattle.std.proofs.lemmas.List.Sorted.{searchable_from_sorted}
use Rattle.std.proofs.lemmas.Option.{slice_get-get_or}
use Rattle.dr_plan_sound.specs.declared.certificate.Stop.{Stop}
use Rattle.dr_plan_sound.specs.declared.certificate.Line.{Line}
use Rattle.dr_plan_sound.specs.contracts.certificate.StopOrd.TheImpl.Laws as laws
use Rattle.dr_plan_sound.specs.Stops.{stop_cmp}
use Rattle.dr_plan_sound.proofs.SameStops.{stop_exact}
use Rattle.dr_cert.specs.Indexing.{AreSorted, StandsAt, HasNoLine}

pub found : (lines : List Line) (stop : Stop) (k : ℕ) → k < length lines → ((d : Line) → stop_cmp (get_or lines k d).stop stop ≡ Equal) → StandsAt lines stop k
found lines stop k h equal =
    let d : Line = record { stop = stop; rank = 0 } in
    (get_or lines k d, slice_get-get_or lines k d h, stop_exact (get_or lines k d).stop stop (equal d))

not_back : (a b : Stop) → stop_cmp a b ≡ Less → is_lt (stop_cmp b a) ≡ false
not_back a b less = ap is_lt (laws.total-law.antisymm b a ∙ ap ordering_reverse less)

rises : (lines : List Line) (stop : Stop) → AreSorted lines → IsNonDecreasingBy (λ (y : Line). ordering_index (stop_cmp y.stop stop)) lines
rises lines stop sorted = searchable_from_sorted laws.total-law (λ (l : Line). l.stop) lines stop (λ k d a b. not_back (get_or lines k d).stop (get_or lines (k + 1) d).stop (sorted k (k + 1) d (omega arith) (omega (arith, b))))

pub not_found : (lines : List Line) (stop : Stop) (i : ℕ) → AreSorted lines →
    (IsNonDecreasingBy (λ (y : Line). ordering_index (stop_cmp y.stop stop)) lines → IsPartitionPoint (λ (y : Line). stop_cmp y.stop stop ≡ Less) (λ (y : Line). stop_cmp y.stop stop ≡ Greater) lines i) →
    HasNoLine lines stop
not_found lines stop i sorted parted has =
    let p = parted (rises lines stop sorted) in
    let line : Line = record { stop = stop; rank = has.0 } in
    let k : ℕ = has.1.0 in
    let in_range : k < length lines = has.1.1 in
    let at : get_or lines k line ≡ line = has.1.2 in
    let equal : stop_cmp (get_or lines k line).stop stop ≡ Equal = ap (λ (l : Line). stop_cmp l.stop stop) at ∙ tied_itself laws.total-law stop in
    elim (cases_lt k i) [
      | inl before ↦ (let less : stop_cmp (get_or lines k line).stop stop ≡ Less = p.0 k line (omega arith) before in let e : Less ≡ Equal = sym less ∙ equal in absurd (cc e))
      | inr after ↦ (let more : stop_cmp (get_or lines k line).stop stop ≡ Greater = p.1 k line (omega arith) in_range in let e : Greater ≡ Equal = sym more ∙ equal in absurd (cc e))
    ]
