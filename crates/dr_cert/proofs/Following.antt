-- A walker follows a line, target by target.
use Rattle.std.proofs.Common.{◌≡◌, ℕ, ◌+◌, ◌<◌, inl, inr, refl, sym, ◌∙◌, ap, subst, List, [], ◌∷◌, ◌++◌, Contains, Some, arith, append_assoc, max}
use Rattle.std.specs.Prelude.{slice_get}
use Rattle.std.proofs.Math.Logic.{⊎_elim}
use Rattle.std.proofs.lemmas.Bool.{cases_lt}
use Rattle.std.proofs.lemmas.List.Elements.{Contains-push, Contains-push_cases, Contains-append_left}
use Rattle.std.proofs.lemmas.Option.{same_Some, slice_get_within, get_or_from_slice_get}
use Rattle.dr_base.specs.Texts.{Text}
use Rattle.dr_route.specs.Laws.{key_of}
use Rattle.dr_plan_model.specs.Networks.{Network}
use Rattle.dr_plan_model.specs.Plans.{IsWellFormed}
use Rattle.dr_plan_model.proofs.Gathered.{nothing_in_nil}
use Rattle.dr_plan_model.proofs.WalksAlike.{cell_has_a_key}
use Rattle.dr_plan_sound.specs.declared.certificate.Stop.{Stop}
use Rattle.dr_plan_sound.specs.declared.certificate.Line.{Line}
use Rattle.dr_plan_sound.specs.Ranked.{line_at}
use Rattle.dr_cert.specs.Conditions.{IsReachedStop, HasEachLine, HasALine}
use Rattle.dr_cert.specs.Indexing.{StandsAt, HasNoLine}
use Rattle.dr_cert.specs.Walking.{IsWalking, IsFurther, IsComeTo, IsMarked, AfterMark, AfterTargets, next_stop}
use Rattle.dr_cert.specs.declared.walker.Walker.{Walker}

pub come_to_is_reached : (plan : Network) → IsWellFormed plan → (stop : Stop) → IsComeTo plan stop → IsReachedStop plan stop
come_to_is_reached plan formed stop come = (key_of stop.cell, cell_has_a_key plan formed stop.cell come.0, come.1)

-- ---- lines at places
pub line_there : (lines : List Line) (place : ℕ) (line : Line) → slice_get lines place ≡ Some line → Contains lines line
line_there lines place line at = (place, slice_get_within lines place line at, get_or_from_slice_get lines place line line at)

pub stands_there : (lines : List Line) (stop : Stop) (place : ℕ) (line : Line) → StandsAt lines stop place → slice_get lines place ≡ Some line → Contains lines (record { stop = stop; rank = line.rank })
stands_there lines stop place line at here =
    let same : line ≡ at.0 = same_Some line at.0 (sym here ∙ at.1) in
    let P : Stop → Type 0 = λ s. Contains lines (record { stop = s; rank = line.rank }) in
    subst P (ap (λ (l : Line). l.stop) same ∙ at.2) (line_there lines place line here)

-- ---- walkers that went on
pub further_on : (a b c : Walker) → IsFurther a b → IsFurther b c → IsFurther a c
further_on a b c f g = record {
  plan = g.plan ∙ f.plan;
  lines = g.lines ∙ f.lines;
  reached = (f.reached.0 ++ g.reached.0, g.reached.1 ∙ (ap (λ (rs : List ℕ). rs ++ g.reached.0) f.reached.1 ∙ append_assoc a.reached.items f.reached.0 g.reached.0));
}

pub marked_still : (lines : List Line) (old new : Walker) (stop : Stop) → IsFurther old new → IsMarked lines old.reached.items stop → IsMarked lines new.reached.items stop
marked_still lines old new stop f marked =
    let P : List ℕ → Type 0 = λ rs. Contains rs marked.0 in
    (marked.0, subst P (sym f.reached.1) (Contains-append_left old.reached.items f.reached.0 marked.0 marked.1), marked.2)

-- ---- targets
pub targets_none : (w : Walker) (stop : Stop) → IsWalking w → IsFurther w w → AfterTargets w w stop [] (Some 0)
targets_none w stop walking same = (
  walking,
  same,
  (λ to among. absurd (nothing_in_nil to among)),
  record { lower = λ to among. absurd (nothing_in_nil to among); next = inl refl },
)

pub targets_more : (old s new : Walker) (stop : Stop) (done : List Text) (to : Text) (rank place : ℕ) (line : Line) → AfterTargets old s stop done (Some rank) →
    AfterMark s new (next_stop stop to) (Some place) → slice_get old.lines.now place ≡ Some line → AfterTargets old new stop (done ++ to ∷ []) (Some (max rank (line.rank + 1)))
targets_more old s new stop done to rank place line so_far mark here =
    let further : IsFurther old new = further_on old s new so_far.1 mark.1 in
    let P : List Line → Type 0 = λ ls. StandsAt ls (next_stop stop to) place in
    let at : StandsAt old.lines.now (next_stop stop to) place = subst P so_far.1.lines mark.3 in
    let there : Contains old.lines.now (line_at stop.node to stop.cell line.rank) = stands_there old.lines.now (next_stop stop to) place line at here in (
      mark.0,
      further,
      (λ name among. elim (Contains-push_cases done to name among) [
        | inl before ↦ marked_still old.lines.now s new (next_stop stop name) mark.1 (so_far.2 name before)
        | inr same ↦ (let R : Text → Type 0 = λ t. IsMarked old.lines.now new.reached.items (next_stop stop t) in subst R same (place, mark.2, at))
      ]),
      record {
        lower = λ name among. elim (Contains-push_cases done to name among) [
          | inl before ↦ (let l = so_far.3.lower name before in let lt : l.0 < rank = l.2 in (l.0, l.1, omega arith))
          | inr same ↦ (let R : Text → Type 0 = λ t. (s' : ℕ) × Contains old.lines.now (line_at stop.node t stop.cell s') × (s' < max rank (line.rank + 1)) in
              subst R same (line.rank, there, omega arith))
        ];
        next = elim (cases_lt rank (line.rank + 1)) [
          | inl more ↦ inr (to, line.rank, Contains-push done to, there, omega arith)
          | inr less ↦ ⊎_elim
              (λ zero. absurd (omega arith))
              (λ x. inr (x.0, x.1, Contains-append_left done (to ∷ []) x.0 x.2, x.3, (let e : rank ≡ x.1 + 1 = x.4 in omega arith)))
              so_far.3.next
        ];
      },
    )

-- a target without a line
pub target_missing : (old s : Walker) (stop : Stop) → IsWellFormed old.plan.now → IsFurther old s → IsComeTo old.plan.now stop → HasNoLine s.lines.now stop → HasEachLine old.plan.now old.lines.now → ⊥
target_missing old s stop formed further come none each =
    let P : List Line → Type 0 = λ ls. HasALine ls stop in
    none (subst P (sym further.lines) (each stop (come_to_is_reached old.plan.now formed stop come)))
