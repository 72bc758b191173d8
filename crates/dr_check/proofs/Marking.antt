-- Marks of stops: a map under the order of stops, in which equal stops are the same.
use Rattle.std.proofs.Common.{◌≡◌, ◌≢◌, ℕ, inl, inr, refl, sym, ◌∙◌, ap, [], get_or, Option, Some, None, false}
use Rattle.std.specs.Prelude.{AllPairs, All, IsSome}
use Rattle.std.specs.declared.cmp.Ordering.TheVariants.{Less, Equal}
use Rattle.std.specs.BTreeMap.{Updates, is_at, keys, IsOrdered}
use Rattle.std.specs.Cmp.{Equal-is}
use Rattle.std.proofs.lemmas.Cmp.{tied_itself}
use Rattle.std.proofs.lemmas.Bool.{cases_Bool, false≢true}
use Rattle.std.proofs.lemmas.Option.{same_Some}
use Rattle.std.proofs.lemmas.Map.Keys.{Less-from_sorted}
use Rattle.std.proofs.lemmas.Map.Views.{All-keys_found}
use Rattle.dr_plan_sound.specs.declared.certificate.Stop.{Stop}
use Rattle.dr_plan_sound.specs.contracts.certificate.StopOrd.TheImpl.Laws as laws
use Rattle.dr_plan_sound.specs.Stops.{stop_cmp}
use Rattle.dr_plan_sound.proofs.SameStops.{stop_exact}
use Rattle.dr_check.specs.declared.search.Mark.{Mark}
use Rattle.dr_check.specs.declared.search.Mark.TheVariants.{Open, Finished}
use Rattle.dr_plan_sound.specs.Stops.{stop_cmp}
use Rattle.dr_check.specs.Searching.{Marks, mark_at}

not_at : (a b : Stop) → (b ≡ a → ⊥) → is_at (stop_cmp a) b ≡ false
not_at a b apart = elim (cases_Bool (is_at (stop_cmp a) b)) [
  | inl same ↦ absurd (apart (sym (stop_exact a b ((Equal-is (stop_cmp a b)).0 same))))
  | inr other ↦ other
]

-- n is m with that mark at the stop
pub record Marks-set (m n : Marks) (stop : Stop) (mark : Mark) : Type 0 where
  pub here : mark_at n stop ≡ Some mark
  pub apart : (other : Stop) → (other ≡ stop → ⊥) → mark_at n other ≡ mark_at m other

pub marking : {m n : Marks} {stop : Stop} {mark : Mark} → Updates stop_cmp m n stop (Some mark) → Marks-set m n stop mark
marking {m} {n} {stop} {mark} h = record { here = h.1; apart = λ other apart. h.2 other (not_at stop other apart) }

pub open_is_not_finished : {o : Option Mark} {r : ℕ} → o ≡ Some Open → o ≡ Some (Finished r) → ⊥
open_is_not_finished {o} {r} a b = let e : Open ≡ Finished r = same_Some _ _ (sym a ∙ b) in cc

pub none_is_not_some : {o : Option Mark} {mark : Mark} → o ≡ None → o ≡ Some mark → ⊥
none_is_not_some {o} {mark} a b = cc

pub finished_same : {o : Option Mark} {r s : ℕ} → o ≡ Some (Finished r) → o ≡ Some (Finished s) → r ≡ s
finished_same {o} {r} {s} a b = let e : Finished r ≡ Finished s = same_Some _ _ (sym a ∙ b) in cc

pub unmarked : (m : Marks) → m.entries ≡ [] → (stop : Stop) → mark_at m stop ≡ None
unmarked m empty stop = rw empty refl

-- the stops of a map stand in it once
pub keys_apart : (m : Marks) → IsOrdered stop_cmp m → AllPairs (λ a b. a ≢ b) (keys m)
keys_apart m ordered i j d before h same =
    let less : stop_cmp (get_or (keys m) i d) (get_or (keys m) j d) ≡ Less = Less-from_sorted stop_cmp (keys m) i j d ordered before h in
    let tied : stop_cmp (get_or (keys m) j d) (get_or (keys m) j d) ≡ Equal = tied_itself laws.total-law (get_or (keys m) j d) in
    cc (less, tied, ap (λ (x : Stop). stop_cmp x (get_or (keys m) j d)) same)

some_mark : (o : Option Mark) → IsSome o → (mark : Mark) × (o ≡ Some mark)
some_mark (Some mark) h = (mark, refl)
some_mark None h = absurd (false≢true h)

-- each of them has a mark
pub keys_marked : (m : Marks) → IsOrdered stop_cmp m → All (λ stop. (mark : Mark) × (mark_at m stop ≡ Some mark)) (keys m)
keys_marked m ordered k d h = some_mark (mark_at m (get_or (keys m) k d)) (All-keys_found laws.total-law m ordered k d h)
