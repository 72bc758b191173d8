-- The places that a key comes to, gathered line by line of the certificate.
use Rattle.std.proofs.Common.{◌≡◌, ℕ, ◌+◌, ◌<◌, ◌⊎◌, inl, inr, sym, ap, subst, ◌∙◌, List, [], ◌∷◌, ◌++◌, length, get_or, take, Contains}
use Rattle.std.proofs.lemmas.List.{take_more}
use Rattle.std.proofs.lemmas.List.Elements.{Contains-push_cases, Contains-push, Contains-append_left}
use Rattle.std.specs.Prelude.{IsPermutation}
use Rattle.std.proofs.lemmas.List.Sorted.{Contains-permutation, IsPermutation-sym}
use Rattle.dr_route.specs.declared.key.Key.{Key}
use Rattle.dr_plan_model.specs.Networks.{Network}
use Rattle.dr_plan_model.specs.Walks.{IsReached}
use Rattle.dr_plan_model.proofs.Gathered.{nothing_in_nil}
use Rattle.dr_plan_sound.specs.declared.certificate.Line.{Line}
use Rattle.dr_plan_sound.specs.Soundness.{IsSound}
use Rattle.dr_plan_sound.specs.declared.certificate.Certificate.{Certificate}
use Rattle.dr_plan_sound.specs.Certificates.{IsCertificateOf}
use Rattle.dr_plan_sound.specs.Ranked.{line_at}
use Rattle.dr_plan_sound.proofs.RankedLines.{some_cell}
use Rattle.dr_plan_sound.proofs.Ranks.{sound_has_rank}
use Rattle.dr_cert_trace.specs.Stages.{AreStages, GathersStages, HasDepth}
use Rattle.dr_cert_trace.specs.declared.stages.TraceStage.{TraceStage}

-- each stage has its depth, and each line's place that the key comes to is a stage
pub record AreSoFar (plan : Network) (key : Key) (lines : List Line) (stages : List TraceStage) : Type 0 where
  pub each : (stage : TraceStage) → Contains stages stage → HasDepth plan key stage
  pub all : (line : Line) → Contains lines line → IsReached plan key line.stop.caller line.stop.node → (stage : TraceStage) × Contains stages stage × (stage.place ≡ (line.stop.caller, line.stop.node))

pub none : (plan : Network) (key : Key) → AreSoFar plan key [] []
none plan key = record { each = λ stage h. absurd (nothing_in_nil stage h); all = λ line h reached. absurd (nothing_in_nil line h) }

module _ (plan : Network) (key : Key) (lines : List Line) (stages : List TraceStage) (i : ℕ) (line : Line) (lt : i < length lines) (at : line ≡ get_or lines i line) where
  pushed : take (i + 1) lines ≡ take i lines ++ line ∷ []
  pushed = take_more lines i line lt ∙ ap (λ (x : Line). take i lines ++ x ∷ []) (sym at)

  among : (x : Line) → Contains (take (i + 1) lines) x → Contains (take i lines) x ⊎ (line ≡ x)
  among x h = Contains-push_cases (take i lines) line x (subst (λ (xs : List Line). Contains xs x) pushed h)

  -- a line's place that the key comes to
  pub one_more : (stage : TraceStage) → HasDepth plan key stage → stage.place ≡ (line.stop.caller, line.stop.node) →
      AreSoFar plan key (take i lines) stages → AreSoFar plan key (take (i + 1) lines) (stages ++ stage ∷ [])
  one_more stage depth place so_far = record {
    each = λ x h. elim (Contains-push_cases stages stage x h) [ inl before ↦ so_far.each x before | inr same ↦ subst (HasDepth plan key) same depth ];
    all = λ x h reached. elim (among x h) [
      | inl before ↦ (let s = so_far.all x before reached in (s.0, Contains-append_left stages (stage ∷ []) s.0 s.1, s.2))
      | inr same ↦ (stage, Contains-push stages stage, place ∙ ap (λ (l : Line). (l.stop.caller, l.stop.node)) same)
    ];
  }

  -- a line's place that it doesn't come to
  pub passed : (IsReached plan key line.stop.caller line.stop.node → ⊥) → AreSoFar plan key (take i lines) stages → AreSoFar plan key (take (i + 1) lines) stages
  passed never so_far = record {
    each = so_far.each;
    all = λ x h reached. elim (among x h) [
      | inl before ↦ so_far.all x before reached
      | inr same ↦ absurd (never (subst (λ (l : Line). IsReached plan key l.stop.caller l.stop.node) (sym same) reached))
    ];
  }

  -- a line more
  pub goes_on : (next : List TraceStage) → GathersStages plan key line stages next → AreSoFar plan key (take i lines) stages → AreSoFar plan key (take (i + 1) lines) next
  goes_on next step so_far = elim step [
    | inl more ↦ subst (AreSoFar plan key (take (i + 1) lines)) (sym more.3) (one_more more.0 more.1 more.2 so_far)
    | inr never ↦ subst (AreSoFar plan key (take (i + 1) lines)) (sym never.1) (passed never.0 so_far)
  ]

-- each place that the key comes to has a line in the certificate
pub all_lines : (plan : Network) (certificate : Certificate) (key : Key) (stages : List TraceStage) → IsSound plan → IsCertificateOf plan certificate →
    AreSoFar plan key certificate.lines stages → AreStages plan key stages
all_lines plan certificate key stages sound own so_far = record {
  each = so_far.each;
  all = λ caller name reached. (
      let rank = sound_has_rank plan sound key caller name reached in
      let cell = some_cell plan key in
      let line : Line = line_at caller name cell.0 rank.0 in
      so_far.all line ((own.lines line).1 (key, cell.1, reached, rank.1)) reached);
}

-- in another order they are the same
pub permuted : (plan : Network) (key : Key) (these those : List TraceStage) → IsPermutation these those → AreStages plan key these → AreStages plan key those
permuted plan key these those same all = record {
  each = λ stage h. all.each stage (Contains-permutation those these stage (IsPermutation-sym these those same) h);
  all = λ caller name reached. (let s = all.all caller name reached in (s.0, Contains-permutation these those s.0 same s.1, s.2));
}
