-- Runs over the plan of two nodes.
use Rattle.std.specs.Prelude.{◌≡◌, ◌≢◌, [], ◌∷◌, Contains, true, length}
use Rattle.std.proofs.Common.{refl, sym, ap, subst, ◌∙◌, arith}
use mathlib.Core.Logic.{inl, inr}
use Rattle.std.specs.FinSet as set
use Rattle.dr_base.specs.Texts.{Text}
use Rattle.dr_base.specs.declared.syntax.Syntax.{Syntax}
use Rattle.dr_base.specs.declared.syntax.Syntax.TheVariants.{Explicit}
use Rattle.dr_route.specs.Routes.{local}
use Rattle.dr_route.specs.declared.key.Key.{Key}
use Rattle.dr_plan_model.specs.Networks.{Network}
use Rattle.dr_plan_model.specs.Walks.{Flows, Sends, Accepts, GoesOver}
use Rattle.dr_plan_model.proofs.Gathered.{Contains-here}
use Rattle.dr_plan_sound.specs.Samples.{scanner, archive, keep_all, the_scanner, the_archive, the_flow, two_nodes}
use Rattle.dr_base.specs.Standard.{image}
use Rattle.dr_plan_sound.specs.Certificates.{pair_cmp as context_cmp}
use Rattle.dr_plan_sound.proofs.Hopping.{reached_entry}
use Rattle.dr_plan_sound.proofs.TwoNodes.{goes_only, keeps_stay, archive_accepts}
use Rattle.dr_world_model.specs.Worlds.{Contexts}
use Rattle.dr_world_model.specs.Steps.{AcceptsOffered}
use Rattle.dr_world_model.specs.Events.{HasNode}
use Rattle.dr_world_model.specs.Laws.{TwoNodesRun, AcceptedAreTheHops}
use Rattle.dr_ledger.proofs.Maps.{IsExact, contains_new, contained}
use Rattle.dr_world_model.proofs.OneReply.{contexts_exact, contexts_total}
use Rattle.dr_world_model.proofs.Possible.{one_hop_runs}
use Rattle.dr_world_model.proofs.EventsKept.{covers_of}

abbrev plan : Network
plan = two_nodes (keep_all ∷ [])

abbrev the_pair : Text × Syntax
the_pair = (image, Explicit)

contexts : IsExact context_cmp
contexts = record { total = contexts_total; exact = contexts_exact }

pub one_context : Contexts
one_context = set.insert set.empty the_pair

pub image_flows : (key : Key) → key.class ≡ image → key.syntax ≡ Explicit → Flows plan scanner key archive
image_flows key c e = (
  the_flow,
  Contains-here the_flow [],
  refl,
  refl,
  record {
    class = subst (Contains (image ∷ [])) (sym c) (Contains-here image []);
    syntax = (let P : Syntax → Type 0 = λ s. Contains (Explicit ∷ []) s in subst P (sym e) (Contains-here Explicit []));
    modality = tt;
    station = tt;
  },
)

pub image_sent : (key : Key) → key.class ≡ image → key.syntax ≡ Explicit → Sends plan scanner local key archive
image_sent key c e = inl (refl, image_flows key c e)

an_image : Key
an_image = record { class = image; syntax = Explicit; modality = []; station = [] }

image_goes_over : GoesOver plan scanner archive the_pair
unfolding an_image
image_goes_over = (an_image, refl, (local, reached_entry plan an_image scanner (archive, image_flows an_image refl refl), image_sent an_image refl refl))

pub scanner_is_there : HasNode plan scanner
scanner_is_there = (the_scanner, (Contains-here the_scanner (the_archive (keep_all ∷ []) ∷ []), refl))

pub they_differ : scanner ≢ archive
they_differ e = let l : length scanner ≡ length archive = ap (λ (t : Text). length t) e in omega (arith, l)

no_context : (pair : Text × Syntax) → set.contains (set.empty {R = context_cmp}) pair ≡ true → ⊥
no_context pair h = let e = set.contains-empty context_cmp pair in cc

pub offered_once : AcceptsOffered plan scanner archive one_context
unfolding one_context
offered_once pair = (
  λ h. elim (contained contexts set.empty the_pair pair h) [
    | inl e ↦ subst (λ (p : Text × Syntax). GoesOver plan scanner archive p × Accepts plan archive scanner p.0 p.1) (sym e) (image_goes_over, archive_accepts (keep_all ∷ []) image Explicit refl refl)
    | inr none ↦ absurd (no_context pair none)
  ],
  λ over.
      let g = goes_only (keep_all ∷ []) keeps_stay over.0.0 scanner archive over.0.2 in
      let is : pair ≡ the_pair = over.0.1 ∙ λ j. (g.2.0 j, g.2.1 j) in
      subst (λ p. set.contains {R = context_cmp} (set.insert set.empty the_pair) p ≡ true) (sym is) (contains_new contexts set.empty the_pair),
)

pub two_nodes_run : TwoNodesRun
two_nodes_run item c e =
    let runs = one_hop_runs plan scanner archive item one_context scanner_is_there they_differ (image_sent item.key c e) offered_once
    (archive_accepts (keep_all ∷ []) item.key.class item.key.syntax c e) in
    (runs.0, one_context, runs.1, runs.2)

pub accepted_are_the_hops : AcceptedAreTheHops
accepted_are_the_hops plan sound from to accepted offered pair = (λ h. ((offered pair).0 h).0, λ over. covers_of plan sound from to accepted offered pair over)
