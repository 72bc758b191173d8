-- The lines since the last adoption, and what they acknowledge.
use Rattle.std.proofs.Common.{◌≡◌, refl, sym, ap, subst, ◌∙◌, ◌⊎◌, inl, inr, Bool, List, [], ◌∷◌, ◌++◌, Contains}
use Rattle.std.proofs.lemmas.List.{append-nil, append_assoc}
use Rattle.std.proofs.lemmas.List.Elements.{Contains-append_left, Contains-append_right, Contains-push_cases}
use Rattle.dr_base.specs.Texts.{Text}
use Rattle.dr_plan_model.proofs.Gathered.{nothing_in_nil, Contains-here}
use Rattle.dr_ledger.specs.declared.item.Instance.{Instance}
use Rattle.dr_ledger.specs.Books.{Book, Line, Arrival, Repeat, Settling, Requeuing, Dropping, Forgetting, Adoption, with_line, since_from, since_adoption, after}
use Rattle.dr_ledger.specs.Histories.{IsBeforeAdoption, IsHistory}
use Rattle.dr_ledger.specs.OneNode.{IsAcknowledged, NothingWasTakenYet, SinceIsTheHistory, WasTaken}
use Rattle.dr_ledger.specs.Routings.{Routing}

since_from_push : (lines since : List Line) (line : Line) → since_from since (lines ++ line ∷ []) ≡ with_line (since_from since lines) line
since_from_push [] since line = refl
since_from_push (first ∷ lines) since line = since_from_push lines (with_line since first) line

-- one line more
pub since_push : (lines : List Line) (line : Line) → since_adoption (lines ++ line ∷ []) ≡ with_line (since_adoption lines) line
since_push lines line = since_from_push lines [] line

-- the line acknowledges the item to the caller
abbrev pub Acknowledges : Line → Text → Instance → Type 0
Acknowledges line caller item = ((to : List Text) × (keep : Bool) × (line ≡ Arrival caller item to keep)) ⊎ (line ≡ Repeat caller item)

-- a line that is no adoption
abbrev pub IsPlain : Line → Type 0
IsPlain line = (since : List Line) → with_line since line ≡ since ++ line ∷ []

acknowledged_with : (lines : List Line) (line : Line) (caller : Text) (item : Instance) → IsAcknowledged lines caller item → IsAcknowledged (lines ++ line ∷ []) caller item
acknowledged_with lines line caller item h = elim h [
  | inl a ↦ inl (a.0, a.1, Contains-append_left lines (line ∷ []) (Arrival caller item a.0 a.1) a.2)
  | inr r ↦ inr (Contains-append_left lines (line ∷ []) (Repeat caller item) r)
]

pub taken_still : (lines : List Line) (line : Line) (caller : Text) (item : Instance) → IsPlain line → WasTaken lines caller item → WasTaken (lines ++ line ∷ []) caller item
taken_still lines line caller item plain h =
    let P : List Line → Type 0 = λ ls. IsAcknowledged ls caller item in
    subst P (sym (since_push lines line ∙ plain (since_adoption lines))) (acknowledged_with (since_adoption lines) line caller item h)

pub taken_now : (lines : List Line) (line : Line) (caller : Text) (item : Instance) → IsPlain line → Acknowledges line caller item → WasTaken (lines ++ line ∷ []) caller item
taken_now lines line caller item plain h =
    let P : List Line → Type 0 = λ ls. IsAcknowledged ls caller item in
    let since = since_adoption lines in
    let last : Contains (since ++ line ∷ []) line = Contains-append_right since (line ∷ []) line (Contains-here line []) in
    subst P (sym (since_push lines line ∙ plain since)) (elim h [
      | inl a ↦ inl (a.0, a.1, (let Q : Line → Type 0 = λ l. Contains (since ++ line ∷ []) l in subst Q a.2 last))
      | inr r ↦ inr (let Q : Line → Type 0 = λ l. Contains (since ++ line ∷ []) l in subst Q r last)
    ])

-- what is acknowledged was before, or is by the last line
pub taken_from : (lines : List Line) (line : Line) (caller : Text) (item : Instance) → IsPlain line → WasTaken (lines ++ line ∷ []) caller item → WasTaken lines caller item ⊎ Acknowledges line caller item
taken_from lines line caller item plain h =
    let P : List Line → Type 0 = λ ls. IsAcknowledged ls caller item in
    let since = since_adoption lines in
    let now : IsAcknowledged (since ++ line ∷ []) caller item = subst P (since_push lines line ∙ plain since) h in
    elim now [
      | inl a ↦ elim (Contains-push_cases since line (Arrival caller item a.0 a.1) a.2) [
        | inl was ↦ inl (inl (a.0, a.1, was))
        | inr is ↦ inr (inl (a.0, a.1, is))
      ]
      | inr r ↦ elim (Contains-push_cases since line (Repeat caller item) r) [
        | inl was ↦ inl (inr was)
        | inr is ↦ inr (inr is)
      ]
    ]

-- a line since the last adoption is among them still after one more, which is among them too
pub among_since : (lines : List Line) (last line : Line) → IsPlain last → Contains (since_adoption lines) line → Contains (since_adoption (lines ++ last ∷ [])) line
among_since lines last line plain h =
    let P : List Line → Type 0 = λ ls. Contains ls line in
    subst P (sym (since_push lines last ∙ plain (since_adoption lines))) (Contains-append_left (since_adoption lines) (last ∷ []) line h)

pub last_since : (lines : List Line) (last : Line) → IsPlain last → Contains (since_adoption (lines ++ last ∷ [])) last
last_since lines last plain =
    let P : List Line → Type 0 = λ ls. Contains ls last in
    subst P (sym (since_push lines last ∙ plain (since_adoption lines))) (Contains-append_right (since_adoption lines) (last ∷ []) last (Contains-here last []))

-- nothing was acknowledged since an adoption that is the last line
pub none_taken : (lines : List Line) (caller : Text) (item : Instance) → WasTaken (lines ++ Adoption ∷ []) caller item → ⊥
none_taken lines caller item h =
    let P : List Line → Type 0 = λ ls. IsAcknowledged ls caller item in
    let none : IsAcknowledged [] caller item = subst P (since_push lines Adoption) h in
    elim none [
      | inl a ↦ nothing_in_nil (Arrival caller item a.0 a.1) a.2
      | inr r ↦ nothing_in_nil (Repeat caller item) r
    ]

pub nothing_taken : (caller : Text) (item : Instance) → WasTaken [] caller item → ⊥
nothing_taken caller item h = elim h [
  | inl a ↦ nothing_in_nil (Arrival caller item a.0 a.1) a.2
  | inr r ↦ nothing_in_nil (Repeat caller item) r
]

pub nothing_was_taken_yet : NothingWasTakenYet
nothing_was_taken_yet b caller item h = none_taken b.lines caller item h

-- ---- journals
since_history : (routing : Routing) (lines since : List Line) (b : Book) → IsHistory routing lines b → since_from since lines ≡ since ++ lines
since_history routing [] since b h = sym (append-nil since)
since_history routing (Arrival caller item to keep ∷ lines) since b h =
    since_history routing lines (since ++ Arrival caller item to keep ∷ []) (after (Arrival caller item to keep) b) h.1 ∙ append_assoc since (Arrival caller item to keep ∷ []) lines
since_history routing (Repeat caller item ∷ lines) since b h =
    since_history routing lines (since ++ Repeat caller item ∷ []) (after (Repeat caller item) b) h.1 ∙ append_assoc since (Repeat caller item ∷ []) lines
since_history routing (Settling uid dest outcome now ∷ lines) since b h =
    since_history routing lines (since ++ Settling uid dest outcome now ∷ []) (after (Settling uid dest outcome now) b) h.1 ∙ append_assoc since (Settling uid dest outcome now ∷ []) lines
since_history routing (Requeuing uid dest ∷ lines) since b h =
    since_history routing lines (since ++ Requeuing uid dest ∷ []) (after (Requeuing uid dest) b) h.1 ∙ append_assoc since (Requeuing uid dest ∷ []) lines
since_history routing (Dropping uid dest now ∷ lines) since b h =
    since_history routing lines (since ++ Dropping uid dest now ∷ []) (after (Dropping uid dest now) b) h.1 ∙ append_assoc since (Dropping uid dest now ∷ []) lines
since_history routing (Forgetting uid ∷ lines) since b h =
    since_history routing lines (since ++ Forgetting uid ∷ []) (after (Forgetting uid) b) h.1 ∙ append_assoc since (Forgetting uid ∷ []) lines
since_history routing (Adoption ∷ lines) since b h = absurd h.0

since_append : (past lines since : List Line) → since_from since (past ++ lines) ≡ since_from (since_from since past) lines
since_append [] lines since = refl
since_append (line ∷ past) lines since = since_append past lines (with_line since line)

none_before : (past : List Line) → IsBeforeAdoption past → since_adoption past ≡ []
none_before past before = elim before [
  | inl none ↦ ap since_adoption none
  | inr ended ↦ ap since_adoption ended.1 ∙ since_push ended.0 Adoption
]

-- what a journal has since its last adoption is its history under the plan in force
pub since_is : (routing : Routing) → SinceIsTheHistory routing
since_is routing past b j =
    ap since_adoption j.lines ∙ (since_append past j.since [] ∙ (ap (λ (s : List Line). since_from s j.since) (none_before past j.before) ∙ since_history routing j.since [] _ j.history))
