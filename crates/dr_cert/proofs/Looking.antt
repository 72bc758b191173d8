-- What a walker sees of one line.
use Rattle.std.proofs.Common.{◌≡◌, ℕ, ◌+◌, ◌<◌, ◌≤◌, ◌⊎◌, inl, inr, refl, sym, ◌∙◌, ap, subst, List, get_or, Contains, Some, arith}
use Rattle.std.specs.Prelude.{slice_get, ◌↔◌, ◌==◌, IsTrue, Bool}
use Rattle.std.specs.declared.cmp.Ordering.TheVariants.{Less, Equal}
use Rattle.std.proofs.Math.Logic.{⊎_elim}
use Rattle.std.proofs.lemmas.Bool.{cases_lt, cases_eq}
use Rattle.std.proofs.lemmas.Bool.Decides.{Decides-eqb}
use Rattle.std.proofs.lemmas.Cmp.{tied_itself}
use Rattle.std.proofs.lemmas.Option.{slice_get-get_or, slice_get_within, get_or_from_slice_get, same_Some}
use Rattle.dr_base.specs.Texts.{Text}
use Rattle.dr_route.specs.Laws.{key_of}
use Rattle.dr_plan_model.specs.Networks.{Network}
use Rattle.dr_plan_model.specs.Walks.{Keeps}
use Rattle.dr_plan_sound.specs.declared.certificate.Stop.{Stop}
use Rattle.dr_plan_sound.specs.declared.certificate.Line.{Line}
use Rattle.dr_plan_sound.specs.contracts.certificate.StopOrd.TheImpl.Laws as laws
use Rattle.dr_plan_sound.specs.Ranked.{SendsOn}
use Rattle.dr_plan_sound.proofs.Hopping.{reached_next}
use Rattle.dr_plan_sound.specs.Stops.{stop_cmp}
use Rattle.dr_cert.specs.Indexing.{AreSorted, StandsAt}
use Rattle.dr_cert.specs.Surveying.{IsLetIn, IsRankedAmong}
use Rattle.dr_cert.specs.Walking.{IsComeTo, IsCalledFor, AfterTargets, AfterLook, next_stop}
use Rattle.dr_cert.specs.declared.survey.Survey.{Survey}
use Rattle.dr_cert.specs.declared.walker.Walker.{Walker}

-- ---- a stop stands at one place of sorted lines
less_apart : (lines : List Line) (stop : Stop) (i j : ℕ) → AreSorted lines → StandsAt lines stop i → StandsAt lines stop j → i < j → ⊥
less_apart lines stop i j sorted at_i at_j before =
    let d : Line = at_i.0 in
    let less : stop_cmp (get_or lines i d).stop (get_or lines j d).stop ≡ Less = sorted i j d before (slice_get_within lines j at_j.0 at_j.1) in
    let stop_i : (get_or lines i d).stop ≡ stop = ap (λ (l : Line). l.stop) (get_or_from_slice_get lines i at_i.0 d at_i.1) ∙ at_i.2 in
    let stop_j : (get_or lines j d).stop ≡ stop = ap (λ (l : Line). l.stop) (get_or_from_slice_get lines j at_j.0 d at_j.1) ∙ at_j.2 in
    let A : Stop → Type 0 = λ s. stop_cmp s (get_or lines j d).stop ≡ Less in
    let B : Stop → Type 0 = λ s. stop_cmp stop s ≡ Less in
    let e : Less ≡ Equal = sym (subst B stop_j (subst A stop_i less)) ∙ tied_itself laws.total-law stop in
    cc e

pub one_place : (lines : List Line) (stop : Stop) (i j : ℕ) → AreSorted lines → StandsAt lines stop i → StandsAt lines stop j → i ≡ j
one_place lines stop i j sorted at_i at_j = elim (cases_lt i j) [
  | inl before ↦ absurd (less_apart lines stop i j sorted at_i at_j before)
  | inr not_before ↦ elim (cases_eq i j) [
    | inl same ↦ same
    | inr other ↦ (let after : j < i = omega arith in absurd (less_apart lines stop j i sorted at_j at_i after))
  ]
]

pub stands_of : (lines : List Line) (line : Line) (there : Contains lines line) → slice_get lines there.0 ≡ Some line
stands_of lines line there = slice_get-get_or lines there.0 line there.1 ∙ ap (λ (l : Line). Some l) there.2

pub one_rank_there : (lines : List Line) → AreSorted lines → (stop : Stop) (r s : ℕ) → Contains lines (record { stop = stop; rank = r }) → Contains lines (record { stop = stop; rank = s }) → r ≡ s
one_rank_there lines sorted stop r s in_r in_s =
    let line_r : Line = record { stop = stop; rank = r } in
    let line_s : Line = record { stop = stop; rank = s } in
    let at_r = stands_of lines line_r in_r in
    let at_s = stands_of lines line_s in_s in
    let same : in_r.0 ≡ in_s.0 = one_place lines stop in_r.0 in_s.0 sorted (line_r, at_r, refl) (line_s, at_s, refl) in
    ap (λ (l : Line). l.rank) (same_Some line_r line_s (sym at_r ∙ (ap (λ (k : ℕ). slice_get lines k) same ∙ at_s)))

-- ---- the rank that targets call for is the line's, or it isn't right
called_is_ranked : (plan : Network) (lines : List Line) (line : Line) (targets : List Text) (rank : ℕ) → ((to : Text) → Contains targets to ↔ SendsOn plan line.stop to) →
    IsCalledFor lines line.stop targets rank → rank ≡ line.rank → IsRankedAmong plan lines line
called_is_ranked plan lines line targets rank named called same = record {
  lower = λ to sent. (let l = called.lower to ((named to).1 sent) in let lt : l.0 < rank = l.2 in (l.0, l.1, omega arith));
  next = ⊎_elim
      (λ zero. (let z : rank ≡ 0 = zero in inl (omega arith)))
      (λ x. inr (x.0, x.1, (named x.0).0 x.2, x.3, (let e : rank ≡ x.1 + 1 = x.4 in omega arith)))
      called.next;
}

ranked_is_called : (plan : Network) (lines : List Line) (line : Line) (targets : List Text) (rank : ℕ) → AreSorted lines → ((to : Text) → Contains targets to ↔ SendsOn plan line.stop to) →
    IsCalledFor lines line.stop targets rank → IsRankedAmong plan lines line → rank ≡ line.rank
ranked_is_called plan lines line targets rank sorted named called ranked =
    let up : rank ≤ line.rank = ⊎_elim
    (λ zero. (let z : rank ≡ 0 = zero in omega arith))
    (λ x. (let l = ranked.lower x.0 ((named x.0).0 x.2) in
    let same : l.0 ≡ x.1 = one_rank_there lines sorted (next_stop line.stop x.0) l.0 x.1 l.1 x.3 in
    let lt : l.0 < line.rank = l.2 in let e : rank ≡ x.1 + 1 = x.4 in omega arith))
    called.next in
    let down : line.rank ≤ rank = ⊎_elim
    (λ zero. (let z : line.rank ≡ 0 = zero in omega arith))
    (λ x. (let l = called.lower x.0 ((named x.0).1 x.2) in
    let same : l.0 ≡ x.1 = one_rank_there lines sorted (next_stop line.stop x.0) l.0 x.1 l.1 x.3 in
    let lt : l.0 < rank = l.2 in let e : line.rank ≡ x.1 + 1 = x.4 in omega arith))
    ranked.next in
    omega arith

pub next_come_to : (plan : Network) (stop : Stop) (to : Text) → IsComeTo plan stop → SendsOn plan stop to → IsComeTo plan (next_stop stop to)
next_come_to plan stop to come sent = (come.0, reached_next plan (key_of stop.cell) stop.caller stop.node to come.1 sent)

pub looked : (old new : Walker) (line : Line) (targets : List Text) (rank : ℕ) (survey : Survey) (keep : Bool) → AreSorted old.lines.now → AfterTargets old new line.stop targets (Some rank) →
    ((to : Text) → Contains targets to ↔ SendsOn old.plan.now line.stop to) → (IsTrue keep ↔ Keeps old.plan.now line.stop.node line.stop.caller (key_of line.stop.cell)) →
    (IsTrue survey.accepted ↔ IsLetIn old.plan.now line) → (IsTrue survey.goes_on ↔ (IsTrue keep ⊎ ((to : Text) × Contains targets to))) → survey.ranked ≡ (rank == line.rank) →
    AfterLook old new line (Some survey)
looked old new line targets rank survey keep sorted after named keeps accepted goes ranked = (
  after.0,
  after.1,
  (λ to sent. after.2 to ((named to).1 sent)),
  record {
    accepted = accepted;
    goes_on = (
      (λ h. ⊎_elim (λ k. inl (keeps.0 k)) (λ x. inr (x.0, (named x.0).0 x.1)) (goes.0 h)),
      (λ h. goes.1 (⊎_elim (λ k. inl (keeps.1 k)) (λ x. inr (x.0, (named x.0).1 x.1)) h)),
    );
    ranked = (
      (λ h. called_is_ranked old.plan.now old.lines.now line targets rank named after.3 ((Decides-eqb rank line.rank).0 (sym ranked ∙ h))),
      (λ h. ranked ∙ (Decides-eqb rank line.rank).1 (ranked_is_called old.plan.now old.lines.now line targets rank sorted named after.3 h)),
    );
  },
)
