-- What is expected of the plan of two nodes.
use Rattle.std.proofs.Common.{◌≡◌, refl, sym, subst, List, [], ◌∷◌, Contains}
use Rattle.dr_base.specs.Texts.{Text}
use Rattle.dr_base.specs.declared.syntax.Syntax.{Syntax}
use Rattle.dr_base.specs.declared.syntax.Syntax.TheVariants.{Explicit}
use Rattle.dr_route.specs.declared.key.Key.{Key}
use Rattle.dr_plan_model.specs.Networks.{Network}
use Rattle.dr_route.specs.Routes.{local}
use Rattle.dr_plan_model.specs.Walks.{FlowBrings, IsDestination, IsEntry}
use Rattle.dr_plan_model.specs.declared.plan.Flow.{Flow}
use Rattle.dr_plan_model.proofs.Gathered.{nothing_in_nil, only_one, Contains-here}
use Rattle.dr_plan_sound.specs.Samples.{archive, keep_all, scanner, the_flow, two_nodes}
use Rattle.dr_base.specs.Standard.{image}
use Rattle.dr_cert_trace.specs.Laws.{an_image, to_the_archive}
use Rattle.dr_cert_trace.specs.Traces.{IsJourney}
use Rattle.dr_cert_trace.proofs.TwoNodes.{goes_there}
use Rattle.dr_plan_expect.specs.declared.words.Expectation.{Expectation}
use Rattle.dr_cert_expect.specs.Expected.{Holds, IsCase, IsMet, SpeaksOf}
use Rattle.dr_cert_expect.specs.Laws.{of_all_keys}

abbrev plan : Network
plan = two_nodes (keep_all ∷ [])

speaks : (keep never : List Text) (site : Text) (key : Key) → SpeaksOf (of_all_keys keep never) site key
speaks keep never site key = record { at = tt; class = tt; syntax = tt; modality = tt; station = tt }

abbrev keeps : Expectation
keeps = of_all_keys (archive ∷ []) []

-- an image that enters at the scanner is kept
kept : (modality station : Text) → IsMet plan keeps scanner (an_image modality station)
kept modality station = record {
  keep = λ name among. subst (λ (t : Text). IsDestination plan local scanner (an_image modality station) t) (only_one archive name among) (((goes_there modality station).keeps archive).0 (Contains-here archive []));
  never = λ name among comes. nothing_in_nil name among;
}

-- and nothing else enters
each_kept : (site : Text) (key : Key) → IsEntry plan site key → IsMet plan keeps site key
each_kept site key entry =
    let flow = entry.1.0 in
    let same : the_flow ≡ flow = only_one the_flow flow entry.1.1 in
    let at : scanner ≡ site = subst (λ (f : Flow). f.at ≡ site) (sym same) entry.1.2 in
    let fits : FlowBrings the_flow key = subst (λ (f : Flow). FlowBrings f key) (sym same) entry.1.4 in
    let class : image ≡ key.class = only_one image key.class fits.class in
    let syntax : Explicit ≡ key.syntax = only_one Explicit key.syntax fits.syntax in
    let mk : Text → Syntax → Key = λ c s. record { class = c; syntax = s; modality = key.modality; station = key.station } in
    subst (λ (t : Text). IsMet plan keeps t key) at
    (subst (λ (c : Text). IsMet plan keeps scanner (mk c key.syntax)) class
    (subst (λ (s : Syntax). IsMet plan keeps scanner (mk image s)) syntax (kept key.modality key.station)))

pub two_nodes_keep : Holds plan keeps × (Holds plan (of_all_keys [] (archive ∷ [])) → ⊥)
two_nodes_keep = (
  record {
    some = (scanner, an_image [] [], (speaks (archive ∷ []) [] scanner (an_image [] []), (goes_there [] []).enters));
    each = λ site key case. each_kept site key case.1;
  },
  λ holds. (
      let journey = goes_there [] [] in
      let d = (journey.keeps archive).0 (Contains-here archive []) in
      (holds.each scanner (an_image [] []) (speaks [] (archive ∷ []) scanner (an_image [] []), journey.enters)).never archive (Contains-here archive []) (d.0, d.1, d.2)),
)
