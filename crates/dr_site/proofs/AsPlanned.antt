-- A site's lines, rules and flows say of a key what the plan says.
use Rattle.std.proofs.Common.{◌≡◌, inl, inr, refl, sym, ◌∙◌, subst, List, [], ◌∷◌, Contains, Bool, true}
use Rattle.std.specs.Prelude.{◌↔◌, filter}
use Rattle.std.specs.Str.{bytes_eq}
use Rattle.std.proofs.lemmas.Bool.{cases_Bool, false≢true}
use Rattle.std.proofs.lemmas.Slice.Eq.{bytes_eq-Decides}
use Rattle.dr_base.specs.Texts.{Text}
use Rattle.dr_route.specs.Routes.{SendsBy, KeepsBy}
use Rattle.dr_route.specs.declared.key.Key.{Key}
use Rattle.dr_route.proofs.Agreement.{cell_alike, same_turned}
use Rattle.dr_plan_model.specs.declared.plan.Node.{Node}
use Rattle.dr_plan_model.specs.declared.plan.Flow.{Flow}
use Rattle.dr_plan_model.specs.Networks.{Network}
use Rattle.dr_plan_model.specs.Plans.{literals_of}
use Rattle.dr_plan_model.specs.Walks.{FlowsAmong, Sends, Keeps, IsReached}
use Rattle.dr_plan_model.proofs.Gathered.{nothing_in_nil, Contains-cons_cases, Contains-there, Contains-here}
use Rattle.dr_plan_model.proofs.WalksAlike.{reach_alike}
use Rattle.dr_plan_sound.specs.declared.certificate.Line.{Line}
use Rattle.dr_plan_sound.specs.declared.certificate.Certificate.{Certificate}
use Rattle.dr_plan_sound.proofs.RankedLines.{some_cell}
use Rattle.dr_plan_sound.proofs.Ranks.{sound_has_rank}
use Rattle.dr_cert.proofs.Ranking.{lies_there}
use Rattle.dr_site.specs.Parts.{Part, IsPartOf, is_at, is_of}
use Rattle.dr_site.specs.Sites.{IsCertified}
use Rattle.dr_site.specs.Routing.{HasLineFor, SendsFrom, KeepsAt}

-- what a filter leaves
pub kept_by : {X : Type 0} (test : X → Bool) (xs : List X) (x : X) → Contains (filter test xs) x → Contains xs x × (test x ≡ true)
kept_by test [] x h = absurd (nothing_in_nil x h)
kept_by test (y ∷ ys) x h = elim (cases_Bool (test y)) [
  | inl passes ↦ elim (Contains-cons_cases y (filter test ys) x (rw passes at h)) [
    | inl same ↦ (let P : _ → Type 0 = λ z. Contains (y ∷ ys) z × (test z ≡ true) in subst P same (Contains-here y ys, passes))
    | inr later ↦ (let r = kept_by test ys x later in (Contains-there y ys x r.0, r.1))
  ]
  | inr falls ↦ (let r = kept_by test ys x (rw falls at h) in (Contains-there y ys x r.0, r.1))
]

pub keeps_by : {X : Type 0} (test : X → Bool) (xs : List X) (x : X) → Contains xs x → test x ≡ true → Contains (filter test xs) x
keeps_by test [] x h passes = absurd (nothing_in_nil x h)
keeps_by test (y ∷ ys) x h passes = elim (cases_Bool (test y)) [
  | inl here ↦ rw here (elim (Contains-cons_cases y ys x h) [
    | inl same ↦ (let P : _ → Type 0 = λ z. Contains (y ∷ filter test ys) z in subst P same (Contains-here y (filter test ys)))
    | inr later ↦ Contains-there y (filter test ys) x (keeps_by test ys x later passes)
  ])
  | inr falls ↦ rw falls (elim (Contains-cons_cases y ys x h) [
    | inl same ↦ (let P : _ → Type 0 = λ z. test z ≡ true in absurd (false≢true (sym falls ∙ subst P (sym same) passes)))
    | inr later ↦ keeps_by test ys x later passes
  ])
]

pub same_name : (a b : Text) → a ≡ b → bytes_eq a b ≡ true
same_name a b h = (bytes_eq-Decides a b).1 h

pub lines_as_planned : (plan : Network) (certificate : Certificate) (part : Part) → IsCertified plan certificate → IsPartOf plan certificate part →
    (caller : Text) (key : Key) → HasLineFor part caller key ↔ IsReached plan key caller part.name
lines_as_planned plan certificate part sealed is caller key = (
  λ h.
      let line = h.0 in
      let lies = lies_there plan part.literals key line.stop.cell is.literals h.4 in
      let own = kept_by (is_of part.name) certificate.lines line (is.lines.sound line h.1) in
      let has = (sealed.certified.lines line).0 own.0 in
      let comes = reach_alike plan line.stop.cell has.0 key has.1 lies line.stop.caller line.stop.node has.2 in
      let P : Text → Type 0 = λ c. IsReached plan key c line.stop.node in
      let Q : Text → Type 0 = λ n. IsReached plan key caller n in
      subst Q h.3 (subst P h.2 comes),
  λ reached.
      let cell = some_cell plan key in
      let rank = sound_has_rank plan sealed.sound key caller part.name reached in
      let line : Line = record { stop = record { caller = caller; node = part.name; cell = cell.0 }; rank = rank.0 } in
      let among = (sealed.certified.lines line).1 (key, cell.1, reached, rank.1) in
      let own = keeps_by (is_of part.name) certificate.lines line among (same_name part.name part.name refl) in
      let found = is.lines.whole line.stop (rank.0, own) in
      (record { stop = line.stop; rank = found.0 }, found.1, refl, refl, cell_alike (literals_of plan) part.literals (same_turned part.literals (literals_of plan) is.literals.same) cell.0 key cell.1),
)

flows_there : (flows : List Flow) (name : Text) (key : Key) (to : Text) → FlowsAmong (filter (is_at name) flows) name key to → FlowsAmong flows name key to
flows_there flows name key to f = (f.0, (kept_by (is_at name) flows f.0 f.1).0, f.2, f.3, f.4)

flows_back : (flows : List Flow) (name : Text) (key : Key) (to : Text) → FlowsAmong flows name key to → FlowsAmong (filter (is_at name) flows) name key to
flows_back flows name key to f = (f.0, keeps_by (is_at name) flows f.0 f.1 (same_name f.0.at name f.2), f.2, f.3, f.4)

pub sends_as_planned : (plan : Network) (certificate : Certificate) (part : Part) → IsPartOf plan certificate part →
    (caller : Text) (key : Key) (to : Text) → SendsFrom part caller key to ↔ Sends plan part.name caller key to
sends_as_planned plan certificate part is caller key to =
    let node = is.node.0 in
    let R : _ → Type 0 = λ rules. SendsBy rules caller key to in
    let F : List Flow → Type 0 = λ flows. FlowsAmong flows part.name key to in (
      λ h. elim h [
        | inl entered ↦ inl (entered.0, flows_there plan.flows part.name key to (subst F is.flows entered.1))
        | inr ruled ↦ inr (node, is.node.1.0, subst R is.node.3 ruled)
      ],
      λ h. elim h [
        | inl entered ↦ inl (entered.0, subst F (sym is.flows) (flows_back plan.flows part.name key to entered.1))
        | inr ruled ↦ inr (
            let N : Node → Type 0 = λ n. SendsBy n.rules caller key to in
            subst R (sym is.node.3) (subst N (is.node.1.1 ruled.0 ruled.1) ruled.2))
      ],
    )

pub keeps_as_planned : (plan : Network) (certificate : Certificate) (part : Part) → IsPartOf plan certificate part →
    (caller : Text) (key : Key) → KeepsAt part caller key ↔ Keeps plan part.name caller key
keeps_as_planned plan certificate part is caller key =
    let R : _ → Type 0 = λ rules. KeepsBy rules caller key in
    let N : Node → Type 0 = λ n. KeepsBy n.rules caller key in (
      λ h. (is.node.0, is.node.1.0, subst R is.node.3 h),
      λ h. subst R (sym is.node.3) (subst N (is.node.1.1 h.0 h.1) h.2),
    )
