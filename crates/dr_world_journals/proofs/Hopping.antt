-- Lists of hops say what journals say.
use Rattle.std.specs.Prelude.{◌≡◌, ◌≢◌, ◌⊎◌, ℕ, Bool, true, false, cond, List, [], ◌∷◌, ◌++◌, Contains, Option, None, Some}
use Rattle.std.specs.Prelude.{map as mapped}
use Rattle.std.proofs.Common.{refl, sym, ap, subst, ◌∙◌}
use Rattle.std.proofs.lemmas.List.{append_assoc, append-nil}
use Rattle.std.proofs.lemmas.List.Elements.{Contains-append_left, Contains-append_right, Contains-append_cases}
use mathlib.Core.Logic.{inl, inr}
use Rattle.std.specs.FinMap as map
use Rattle.dr_base.specs.Texts.{Text}
use Rattle.dr_plan_model.specs.Networks.{Network}
use Rattle.dr_plan_model.specs.Walks.{Sends}
use Rattle.dr_plan_model.proofs.Gathered.{nothing_in_nil, only_one, Contains-cons_cases, Contains-here, Contains-there}
use Rattle.dr_ledger.specs.declared.item.Instance.{Instance}
use Rattle.dr_ledger.specs.declared.item.Outcome.{Outcome}
use Rattle.dr_ledger.specs.declared.item.Outcome.TheVariants.{Status, Broken, NoContext, Unreadable}
use Rattle.dr_ledger.specs.declared.item.Progress.{Progress}
use Rattle.dr_ledger.specs.declared.item.Progress.TheVariants.{Waiting, Held}
use Rattle.dr_ledger.specs.Books.{Book, Line, Arrival, Repeat, Settling, Requeuing, Dropping, Forgetting, Adoption, Fold, after, empty_book, folded, is_success, since_adoption}
use Rattle.dr_ledger.specs.Histories.{IsBeforeAdoption, IsCall, IsHistory, IsPast, IsSince, IsSolid, IsSomeCall}
use Rattle.dr_ledger.specs.OneNode.{HasSucceededSince, IsAcknowledged, WasTaken}
use Rattle.dr_ledger.specs.Pairs.{Pair, pair_cmp}
use Rattle.dr_ledger.specs.PlanRoutes.{plan_routing}
use Rattle.dr_ledger.specs.Routings.{Routing}
use Rattle.dr_ledger.proofs.Folding.{folded_push, some_call}
use Rattle.dr_ledger.proofs.Forgotten.{row_left}
use Rattle.dr_ledger.proofs.Growing.{dropped_is, requeued_is, rows_from, settled_is}
use Rattle.dr_ledger.proofs.Maps.{text_pairs, got}
use Rattle.dr_ledger.proofs.PlanRouting.{targets_are_sent_to}
use Rattle.dr_ledger.proofs.Since.{since_is}
use Rattle.dr_ledger.proofs.Solid.{called_solid, pasts_make_solid_books}
use Rattle.dr_ledger.proofs.Succeeded.{NotesSuccess, none_since, none_yet, succeeded_from}
use Rattle.dr_world_model.specs.Claims.{IsToSend}
use Rattle.dr_world_model.proofs.AdoptionsKept.{no_row, was_queued}
use Rattle.dr_world_model.proofs.AmongSafe.{taken_push}
use Rattle.dr_world_journals.specs.Hops.{Hop, HopsDecide, came, came_by, done, done_at, done_by, goals, goals_by, hop_of, if_row, if_success, sent_from, standing, stands_at, to_each, went, went_by}
use Rattle.dr_world_journals.specs.Journals.{stood, until_adoption}

-- ---- lists
mapped_has : {X Y : Type 0} (f : X → Y) (xs : List X) (x : X) → Contains xs x → Contains (mapped f xs) (f x)
mapped_has f [] x h = absurd (nothing_in_nil x h)
mapped_has f (first ∷ xs) x h = elim (Contains-cons_cases first xs x h) [
  | inl same ↦ (let P : _ → Type 0 = λ y. Contains (f first ∷ mapped f xs) (f y) in subst P same (Contains-here (f first) (mapped f xs)))
  | inr later ↦ Contains-there (f first) (mapped f xs) (f x) (mapped_has f xs x later)
]

mapped_from : {X Y : Type 0} (f : X → Y) (xs : List X) (y : Y) → Contains (mapped f xs) y → (x : X) × Contains xs x × (y ≡ f x)
mapped_from f [] y h = absurd (nothing_in_nil y h)
mapped_from f (first ∷ xs) y h = elim (Contains-cons_cases (f first) (mapped f xs) y h) [
  | inl same ↦ (first, Contains-here first xs, sym same)
  | inr later ↦ (let m = mapped_from f xs y later in (m.0, Contains-there first xs m.0 m.1, m.2))
]

-- ---- what came
-- a line acknowledges the item to the caller
abbrev Says : Line → Text → Instance → Type 0
Says line caller item = ((to : List Text) × (keep : Bool) × (line ≡ Arrival caller item to keep)) ⊎ (line ≡ Repeat caller item)

said_by : (line : Line) (lines : List Line) (caller : Text) (item : Instance) → IsAcknowledged (line ∷ lines) caller item → Says line caller item ⊎ IsAcknowledged lines caller item
said_by line lines caller item (inl a) = elim (Contains-cons_cases line lines (Arrival caller item a.0 a.1) a.2) [
  | inl same ↦ inl (inl (a.0, a.1, same))
  | inr later ↦ inr (inl (a.0, a.1, later))
]
said_by line lines caller item (inr r) = elim (Contains-cons_cases line lines (Repeat caller item) r) [
  | inl same ↦ inl (inr same)
  | inr later ↦ inr (inr later)
]

said_here : (line : Line) (lines : List Line) (caller : Text) (item : Instance) → Says line caller item → IsAcknowledged (line ∷ lines) caller item
said_here line lines caller item (inl a) = inl (a.0, a.1, (let P : Line → Type 0 = λ l. Contains (line ∷ lines) l in subst P a.2 (Contains-here line lines)))
said_here line lines caller item (inr r) = inr (let P : Line → Type 0 = λ l. Contains (line ∷ lines) l in subst P r (Contains-here line lines))

said_there : (line : Line) (lines : List Line) (caller : Text) (item : Instance) → IsAcknowledged lines caller item → IsAcknowledged (line ∷ lines) caller item
said_there line lines caller item (inl a) = inl (a.0, a.1, Contains-there line lines (Arrival caller item a.0 a.1) a.2)
said_there line lines caller item (inr r) = inr (Contains-there line lines (Repeat caller item) r)

nothing_said : (caller : Text) (item : Instance) → IsAcknowledged [] caller item → ⊥
nothing_said caller item (inl a) = nothing_in_nil (Arrival caller item a.0 a.1) a.2
nothing_said caller item (inr r) = nothing_in_nil (Repeat caller item) r

module _ (name : Text) where
  came_line : (line : Line) (caller : Text) (item : Instance) → Says line caller item → Contains (came_by name line) (caller, name, item)
  came_line line caller item says =
      let P : Line → Type 0 = λ l. Contains (came_by name l) (caller, name, item) in
      elim says [ inl a ↦ subst P (sym a.2) (Contains-here (caller, name, item) []) | inr r ↦ subst P (sym r) (Contains-here (caller, name, item) []) ]

  pub came_in : (lines : List Line) (caller : Text) (item : Instance) → IsAcknowledged lines caller item → Contains (came name lines) (caller, name, item)
  came_in [] caller item a = absurd (nothing_said caller item a)
  came_in (line ∷ lines) caller item a = elim (said_by line lines caller item a) [
    | inl here ↦ Contains-append_left (came_by name line) (came name lines) (caller, name, item) (came_line line caller item here)
    | inr later ↦ Contains-append_right (came_by name line) (came name lines) (caller, name, item) (came_in lines caller item later)
  ]

  line_came : (line : Line) (h : Hop) → Contains (came_by name line) h → Says line h.0 h.2
  line_came (Arrival caller item to keep) h c = (
      let same : (caller, name, item) ≡ h = only_one (caller, name, item) h c in
      let P : Hop → Type 0 = λ x. Says (Arrival caller item to keep) x.0 x.2 in
      subst P same (inl (to, keep, refl))
      )
  line_came (Repeat caller item) h c = (
      let same : (caller, name, item) ≡ h = only_one (caller, name, item) h c in
      let P : Hop → Type 0 = λ x. Says (Repeat caller item) x.0 x.2 in
      subst P same (inr refl)
      )
  line_came (Settling uid dest outcome now) h c = absurd (nothing_in_nil h c)
  line_came (Requeuing uid dest) h c = absurd (nothing_in_nil h c)
  line_came (Dropping uid dest now) h c = absurd (nothing_in_nil h c)
  line_came (Forgetting uid) h c = absurd (nothing_in_nil h c)
  line_came Adoption h c = absurd (nothing_in_nil h c)

  pub came_out : (lines : List Line) (h : Hop) → Contains (came name lines) h → IsAcknowledged lines h.0 h.2
  came_out [] h c = absurd (nothing_in_nil h c)
  came_out (line ∷ lines) h c = elim (Contains-append_cases (came_by name line) (came name lines) h c) [
    | inl here ↦ said_here line lines h.0 h.2 (line_came line h here)
    | inr later ↦ said_there line lines h.0 h.2 (came_out lines h later)
  ]

-- ---- what is to go on
module _ (routing : Routing) (name : Text) where
  -- each arrival goes on to the targets
  abbrev Planned : List Line → Type 0
  Planned lines = (caller : Text) (item : Instance) (to : List Text) (keep : Bool) → Contains lines (Arrival caller item to keep) → to ≡ routing.targets caller item.key

  planned : (lines : List Line) (b : Book) → IsHistory routing lines b → Planned lines
  planned [] b h caller item to keep c = absurd (nothing_in_nil (Arrival caller item to keep) c)
  planned (line ∷ lines) b h caller item to keep c = elim (Contains-cons_cases line lines (Arrival caller item to keep) c) [
    | inl same ↦ (let P : Line → Type 0 = λ l. IsCall routing l b in (subst P same h.0).2)
    | inr later ↦ planned lines (after line b) h.1 caller item to keep later
  ]

  each_in : (item : Instance) (all : List Text) (to : Text) → Contains all to → Contains (to_each name item all) (name, to, item)
  each_in item all to h = mapped_has (λ (next : Text). (name, next, item)) all to h

  each_out : (item : Instance) (all : List Text) (h : Hop) → Contains (to_each name item all) h → Contains all h.1 × (item ≡ h.2)
  each_out item all h c =
      let m = mapped_from (λ (next : Text). (name, next, item)) all h c in
      (subst (Contains all) (sym (ap (λ (x : Hop). x.1) m.2)) m.1, sym (ap (λ (x : Hop). x.2) m.2))

  pub went_in : (lines : List Line) → Planned lines → (caller to : Text) (item : Instance) → IsAcknowledged lines caller item → Contains (routing.targets caller item.key) to → Contains (went routing name lines) (name, to, item)
  went_in [] plan caller to item a goes = absurd (nothing_said caller item a)
  went_in (line ∷ lines) plan caller to item a goes = elim (said_by line lines caller item a) [
    | inl here ↦ Contains-append_left (went_by routing name line) (went routing name lines) (name, to, item) (
        let P : Line → Type 0 = λ l. Contains (went_by routing name l) (name, to, item) in
        elim here [
          | inl b ↦ (
              let Q : Line → Type 0 = λ l. Contains (line ∷ lines) l in
              let all = plan caller item b.0 b.1 (subst Q b.2 (Contains-here line lines)) in
              subst P (sym b.2) (each_in item b.0 to (subst (λ ts. Contains ts to) (sym all) goes))
              )
          | inr r ↦ subst P (sym r) (each_in item (routing.targets caller item.key) to goes)
        ]
        )
    | inr later ↦ Contains-append_right (went_by routing name line) (went routing name lines) (name, to, item)
        (went_in lines (λ c i ts k h. plan c i ts k (Contains-there line lines (Arrival c i ts k) h)) caller to item later goes)
  ]

  -- an acknowledgement whose key goes on there
  abbrev Goes : List Line → Hop → Type 0
  Goes lines h = (caller : Text) × IsAcknowledged lines caller h.2 × Contains (routing.targets caller h.2.key) h.1

  line_went : (line : Line) (lines : List Line) → Planned (line ∷ lines) → (h : Hop) → Contains (went_by routing name line) h → Goes (line ∷ lines) h
  line_went (Arrival caller item to keep) lines plan h c = (
      let e = each_out item to h c in
      let P : Instance → Type 0 = λ x. IsAcknowledged (Arrival caller item to keep ∷ lines) caller x × Contains (routing.targets caller x.key) h.1 in
      let all = plan caller item to keep (Contains-here (Arrival caller item to keep) lines) in
      let both = subst P e.1 (inl (to, keep, Contains-here (Arrival caller item to keep) lines), subst (λ ts. Contains ts h.1) all e.0) in
      (caller, both.0, both.1)
      )
  line_went (Repeat caller item) lines plan h c = (
      let e = each_out item (routing.targets caller item.key) h c in
      let P : Instance → Type 0 = λ x. IsAcknowledged (Repeat caller item ∷ lines) caller x × Contains (routing.targets caller x.key) h.1 in
      let both = subst P e.1 (inr (Contains-here (Repeat caller item) lines), e.0) in
      (caller, both.0, both.1)
      )
  line_went (Settling uid dest outcome now) lines plan h c = absurd (nothing_in_nil h c)
  line_went (Requeuing uid dest) lines plan h c = absurd (nothing_in_nil h c)
  line_went (Dropping uid dest now) lines plan h c = absurd (nothing_in_nil h c)
  line_went (Forgetting uid) lines plan h c = absurd (nothing_in_nil h c)
  line_went Adoption lines plan h c = absurd (nothing_in_nil h c)

  pub went_out : (lines : List Line) → Planned lines → (h : Hop) → Contains (went routing name lines) h → Goes lines h
  went_out [] plan h c = absurd (nothing_in_nil h c)
  went_out (line ∷ lines) plan h c = elim (Contains-append_cases (went_by routing name line) (went routing name lines) h c) [
    | inl here ↦ line_went line lines plan h here
    | inr later ↦ (
        let g = went_out lines (λ q i ts k m. plan q i ts k (Contains-there line lines (Arrival q i ts k) m)) h later in
        (g.0, said_there line lines g.0 h.2 g.1, g.2)
        )
  ]

-- ---- what was answered with success
call_plain : (routing : Routing) (line : Line) (b : Book) → IsCall routing line b → line ≢ Adoption
call_plain routing (Arrival caller item to keep) b call e = (let f : ⊥ = cc in f)
call_plain routing (Repeat caller item) b call e = (let f : ⊥ = cc in f)
call_plain routing (Settling uid dest outcome now) b call e = (let f : ⊥ = cc in f)
call_plain routing (Requeuing uid dest) b call e = (let f : ⊥ = cc in f)
call_plain routing (Dropping uid dest now) b call e = (let f : ⊥ = cc in f)
call_plain routing (Forgetting uid) b call e = (let f : ⊥ = cc in f)
call_plain routing Adoption b call e = call

hop_in : (from to : Text) (o : Option Instance) (item : Instance) → o ≡ Some item → Contains (hop_of from to o) (from, to, item)
hop_in from to o item is = (let P : Option Instance → Type 0 = λ x. Contains (hop_of from to x) (from, to, item) in subst P (sym is) (Contains-here (from, to, item) []))

hop_out : (from to : Text) (o : Option Instance) (h : Hop) → Contains (hop_of from to o) h → (item : Instance) × (o ≡ Some item) × ((from, to, item) ≡ h)
hop_out from to None h c = absurd (nothing_in_nil h c)
hop_out from to (Some item) h c = (item, refl, only_one (from, to, item) h c)

cond_in : {X : Type 0} (b : Bool) (xs : List X) (x : X) → b ≡ true → Contains xs x → Contains (cond b xs []) x
cond_in true xs x t c = c
cond_in false xs x t c = absurd (let f : ⊥ = cc in f)

cond_out : {X : Type 0} (b : Bool) (xs : List X) (x : X) → Contains (cond b xs []) x → (b ≡ true) × Contains xs x
cond_out true xs x c = (refl, c)
cond_out false xs x c = absurd (nothing_in_nil x c)

-- the lines note the success of the hop
abbrev Noted : List Line → Hop → Type 0
Noted lines h = HasSucceededSince lines h.2 h.1

settled_out : (name : Text) (past : List Line) (uid dest : Text) (outcome : Outcome) (now : ℕ) (h : Hop) → ((u : Text) (i : Instance) → map.get (Fold past).items u ≡ Some i → i.uid ≡ u) →
    Contains (if_success outcome (hop_of name dest (map.get (Fold past).items uid))) h → Noted (past ++ Settling uid dest outcome now ∷ []) h
settled_out name past uid dest (Status status) now h named c =
    let s = cond_out (is_success status) (hop_of name dest (map.get (Fold past).items uid)) h c in
    let o = hop_out name dest (map.get (Fold past).items uid) h s.1 in
    let same : o.0.uid ≡ uid = named uid o.0 o.1 in
    let P : Hop → Type 0 = λ x. Noted (past ++ Settling uid dest (Status status) now ∷ []) x in
    subst P o.2 (record {
      success = record {
        before = past;
        status = status;
        now = now;
        later = [];
        at = (λ j. past ++ Settling (sym same j) dest (Status status) now ∷ []);
        success = s.0;
        had = ap (map.get (Fold past).items) same ∙ o.1;
      };
      since = λ a. nothing_in_nil Adoption a;
    })
settled_out name past uid dest Broken now h named c = absurd (nothing_in_nil h c)
settled_out name past uid dest NoContext now h named c = absurd (nothing_in_nil h c)
settled_out name past uid dest Unreadable now h named c = absurd (nothing_in_nil h c)

line_done : (name : Text) (past : List Line) (line : Line) (h : Hop) → ((u : Text) (i : Instance) → map.get (Fold past).items u ≡ Some i → i.uid ≡ u) → Contains (done_by name (Fold past) line) h → Noted (past ++ line ∷ []) h
line_done name past (Arrival caller item to keep) h named c = absurd (nothing_in_nil h c)
line_done name past (Repeat caller item) h named c = absurd (nothing_in_nil h c)
line_done name past (Settling uid dest outcome now) h named c = settled_out name past uid dest outcome now h named c
line_done name past (Requeuing uid dest) h named c = absurd (nothing_in_nil h c)
line_done name past (Dropping uid dest now) h named c = absurd (nothing_in_nil h c)
line_done name past (Forgetting uid) h named c = absurd (nothing_in_nil h c)
line_done name past Adoption h named c = absurd (nothing_in_nil h c)

done_line : (name : Text) (past : List Line) (line : Line) (item : Instance) (to : Text) → NotesSuccess past line item to → Contains (done_by name (Fold past) line) (name, to, item)
done_line name past line item to n =
    let P : Line → Type 0 = λ l. Contains (done_by name (Fold past) l) (name, to, item) in
    subst P (sym n.is) (cond_in (is_success n.status) (hop_of name to (map.get (Fold past).items item.uid)) (name, to, item) n.success (hop_in name to (map.get (Fold past).items item.uid) item n.had))

module _ (routing : Routing) (name : Text) where
  next_history : (past : List Line) (line : Line) (lines : List Line) → IsHistory routing lines (after line (Fold past)) → IsHistory routing lines (Fold (past ++ line ∷ []))
  next_history past line lines h = subst (IsHistory routing lines) (sym (folded_push past line empty_book)) h

  next_solid : (past : List Line) (line : Line) → IsCall routing line (Fold past) → IsSolid (Fold past) → IsSolid (Fold (past ++ line ∷ []))
  next_solid past line call solid = subst IsSolid (sym (folded_push past line empty_book)) (called_solid line (Fold past) solid (some_call routing line (Fold past) call))

  stays_noted : (since past : List Line) (h : Hop) → IsHistory routing since (Fold past) → Noted past h → Noted (past ++ since) h
  stays_noted [] past h history n = subst (λ ls. Noted ls h) (sym (append-nil past)) n
  stays_noted (line ∷ since) past h history n =
      subst (λ ls. Noted ls h) (append_assoc past (line ∷ []) since)
      (stays_noted since (past ++ line ∷ []) h (next_history past line since history.1) (taken_push past line h.2 h.1 (call_plain routing line (Fold past) history.0) n))

  pub done_out : (since past : List Line) (h : Hop) → IsHistory routing since (Fold past) → IsSolid (Fold past) → Contains (done name (Fold past) since) h → Noted (past ++ since) h
  done_out [] past h history solid c = absurd (nothing_in_nil h c)
  done_out (line ∷ since) past h history solid c =
      let next = next_history past line since history.1 in
      let P : Book → Type 0 = λ b. Contains (done name b since) h in
      subst (λ ls. Noted ls h) (append_assoc past (line ∷ []) since) (elim (Contains-append_cases (done_by name (Fold past) line) (done name (after line (Fold past)) since) h c) [
        | inl here ↦ stays_noted since (past ++ line ∷ []) h next (line_done name past line h solid.named here)
        | inr later ↦ done_out since (past ++ line ∷ []) h next (next_solid past line history.0 solid) (subst P (sym (folded_push past line empty_book)) later)
      ])

  pub done_in : (since past : List Line) (item : Instance) (to : Text) → HasSucceededSince (past ++ since) item to → HasSucceededSince past item to ⊎ Contains (done name (Fold past) since) (name, to, item)
  done_in [] past item to n = inl (subst (λ ls. HasSucceededSince ls item to) (append-nil past) n)
  done_in (line ∷ since) past item to n =
      let P : Book → Type 0 = λ b. Contains (done name b since) (name, to, item) in
      elim (done_in since (past ++ line ∷ []) item to (subst (λ ls. HasSucceededSince ls item to) (sym (append_assoc past (line ∷ []) since)) n)) [
        | inl so_far ↦ elim (succeeded_from past line item to so_far) [
          | inl was ↦ inl was
          | inr now ↦ inr (Contains-append_left (done_by name (Fold past) line) (done name (after line (Fold past)) since) (name, to, item) (done_line name past line item to now))
        ]
        | inr later ↦ inr (Contains-append_right (done_by name (Fold past) line) (done name (after line (Fold past)) since) (name, to, item) (subst P (folded_push past line empty_book) later))
      ]

-- ---- what stood
-- a row of the book is there
abbrev HasRowAt : Book → Pair → Type 0
HasRowAt b at = (row : Progress) × (map.get b.rows at ≡ Some row)

line_row : (line : Line) (b : Book) (at : Pair) → IsSomeCall line b → HasRowAt (after line b) at → HasRowAt b at ⊎ Contains (goals_by line) at
line_row (Arrival caller item to keep) b at call h = elim (rows_from to b.rows item.uid at h.0 h.1) [
  | inl was ↦ inl (h.0, was.0)
  | inr made ↦ inr (
      let P : Text → Type 0 = λ u. Contains (goals_by (Arrival caller item to keep)) (u, at.1) in
      subst P (sym made.0) (mapped_has (λ (next : Text). (item.uid, next)) to at.1 made.1)
      )
]
line_row (Repeat caller item) b at call h = inl h
line_row (Settling uid dest outcome now) b at call h = (
    let waits = call.0 in
    let P : Book → Type 0 = λ x. HasRowAt x at in
    let r = subst P (settled_is uid dest outcome now waits.0 waits.1 b waits.2) h in
    elim (got text_pairs b.rows (uid, dest) _ at r.0 r.1) [
      | inl e ↦ inl (Waiting waits.0 waits.1, ap (map.get b.rows) e.0 ∙ waits.2)
      | inr n ↦ inl (r.0, n.1)
    ]
    )
line_row (Requeuing uid dest) b at call h = (
    let P : Book → Type 0 = λ x. HasRowAt x at in
    let r = subst P (requeued_is uid dest call.0 b call.1) h in
    elim (got text_pairs b.rows (uid, dest) _ at r.0 r.1) [
      | inl e ↦ inl (Held call.0, ap (map.get b.rows) e.0 ∙ call.1)
      | inr n ↦ inl (r.0, n.1)
    ]
    )
line_row (Dropping uid dest now) b at call h = (
    let held = call.0 in
    let P : Book → Type 0 = λ x. HasRowAt x at in
    let r = subst P (dropped_is uid dest now held.0 b held.1) h in
    elim (got text_pairs b.rows (uid, dest) _ at r.0 r.1) [
      | inl e ↦ inl (Held held.0, ap (map.get b.rows) e.0 ∙ held.1)
      | inr n ↦ inl (r.0, n.1)
    ]
    )
line_row (Forgetting uid) b at call h = inl (h.0, (row_left b uid at h.0 h.1).1)
line_row Adoption b at call h = inl (h.0, (was_queued b.rows at h.0 h.1).0)

-- each row that lines make has a goal among theirs
pub row_goals : (lines : List Line) (b : Book) (at : Pair) → IsPast lines b → HasRowAt (folded b lines) at → HasRowAt b at ⊎ Contains (goals lines) at
row_goals [] b at past h = inl h
row_goals (line ∷ lines) b at past h = elim (row_goals lines (after line b) at past.1 h) [
  | inl row ↦ elim (line_row line b at past.0 row) [
    | inl was ↦ inl was
    | inr here ↦ inr (Contains-append_left (goals_by line) (goals lines) at here)
  ]
  | inr later ↦ inr (Contains-append_right (goals_by line) (goals lines) at later)
]

module _ (name : Text) (b : Book) where
  pub standing_in : (all : List Pair) (item : Instance) (to : Text) → Contains all (item.uid, to) → IsToSend b item to → Contains (standing name b all) (name, to, item)
  standing_in [] item to c s = absurd (nothing_in_nil (item.uid, to) c)
  standing_in (first ∷ all) item to c s = elim (Contains-cons_cases first all (item.uid, to) c) [
    | inl same ↦ Contains-append_left (stands_at name b first) (standing name b all) (name, to, item) (
        let P : Pair → Type 0 = λ at. Contains (stands_at name b at) (name, to, item) in
        let there : if_row (map.get b.rows (item.uid, to)) (map.get b.items item.uid) ≡ Some item = ap (λ (o : Option Progress). if_row o (map.get b.items item.uid)) s.at ∙ s.has in
        subst P (sym same) (hop_in name to (if_row (map.get b.rows (item.uid, to)) (map.get b.items item.uid)) item there)
        )
    | inr later ↦ Contains-append_right (stands_at name b first) (standing name b all) (name, to, item) (standing_in all item to later s)
  ]

  row_there : (o : Option Progress) (i : Option Instance) (item : Instance) → if_row o i ≡ Some item → ((row : Progress) × (o ≡ Some row)) × (i ≡ Some item)
  row_there None i item e = absurd (let f : ⊥ = cc in f)
  row_there (Some row) i item e = ((row, refl), e)

  pub standing_out : ((u : Text) (i : Instance) → map.get b.items u ≡ Some i → i.uid ≡ u) → (all : List Pair) (h : Hop) → Contains (standing name b all) h → IsToSend b h.2 h.1
  standing_out named [] h c = absurd (nothing_in_nil h c)
  standing_out named (first ∷ all) h c = elim (Contains-append_cases (stands_at name b first) (standing name b all) h c) [
    | inl here ↦ (
        let o = hop_out name first.1 (if_row (map.get b.rows first) (map.get b.items first.0)) h here in
        let r = row_there (map.get b.rows first) (map.get b.items first.0) o.0 o.1 in
        let same : o.0.uid ≡ first.0 = named first.0 o.0 r.1 in
        let P : Hop → Type 0 = λ x. IsToSend b x.2 x.1 in
        subst P o.2 (record { row = r.0.0; at = ap (λ u. map.get b.rows (u, first.1)) same ∙ r.0.1; has = ap (map.get b.items) same ∙ r.1 })
        )
    | inr later ↦ standing_out named all h later
  ]

-- ---- a journal
module _ (plan : Network) (name : Text) (b : Book) (j : IsSince (plan_routing plan name) (until_adoption b.lines) b) where
  abbrev past : List Line
  past = until_adoption b.lines

  abbrev since : List Line
  since = since_adoption b.lines

  since_same : since ≡ j.since
  since_same = since_is (plan_routing plan name) past b j

  all_lines : b.lines ≡ past ++ since
  all_lines = j.lines ∙ ap (λ (ls : List Line). past ++ ls) (sym since_same)

  history : IsHistory (plan_routing plan name) since (Fold past)
  history = (let P : List Line → Type 0 = λ ls. IsHistory (plan_routing plan name) ls (Fold past) in subst P (sym since_same) j.history)

  solid : IsSolid (Fold past)
  solid = pasts_make_solid_books past j.accepted

  none_before : (before : List Line) → IsBeforeAdoption before → (item : Instance) (to : Text) → HasSucceededSince before item to → ⊥
  none_before before (inl none) item to h = none_yet item to (subst (λ ls. HasSucceededSince ls item to) none h)
  none_before before (inr ended) item to h = none_since ended.0 item to (subst (λ ls. HasSucceededSince ls item to) ended.1 h)

  pub noted_done : (item : Instance) (to : Text) → HasSucceededSince b.lines item to → Contains (done_at name b.lines) (name, to, item)
  noted_done item to h = elim (done_in (plan_routing plan name) name since past item to (subst (λ ls. HasSucceededSince ls item to) all_lines h)) [
    | inl before ↦ absurd (none_before past j.before item to before)
    | inr here ↦ here
  ]

  pub done_noted : (item : Instance) (to : Text) → Contains (done_at name b.lines) (name, to, item) → HasSucceededSince b.lines item to
  done_noted item to c = subst (λ ls. HasSucceededSince ls item to) (sym all_lines) (done_out (plan_routing plan name) name since past (name, to, item) history solid c)

  pub reason_sent : (item : Instance) (to : Text) → ((caller : Text) × WasTaken b.lines caller item × Sends plan name caller item.key to) ⊎ IsToSend (stood b) item to →
      Contains (sent_from (plan_routing plan name) name b.lines) (name, to, item)
  reason_sent item to (inl a) = Contains-append_right (standing name (Fold past) (goals past)) (went (plan_routing plan name) name since) (name, to, item)
      (went_in (plan_routing plan name) name since (planned (plan_routing plan name) name since (Fold past) history) a.0 to item a.1 ((targets_are_sent_to plan name a.0 item.key to).1 a.2))
  reason_sent item to (inr s) = Contains-append_left (standing name (Fold past) (goals past)) (went (plan_routing plan name) name since) (name, to, item)
      (standing_in name (Fold past) (goals past) item to (elim (row_goals past empty_book (item.uid, to) j.accepted (s.row, s.at)) [
        | inl none ↦ absurd (no_row none.0 (sym (map.get-empty pair_cmp (item.uid, to)) ∙ none.1))
        | inr goal ↦ goal
      ]) s)

  pub sent_reason : (item : Instance) (to : Text) → Contains (sent_from (plan_routing plan name) name b.lines) (name, to, item) →
      ((caller : Text) × WasTaken b.lines caller item × Sends plan name caller item.key to) ⊎ IsToSend (stood b) item to
  sent_reason item to c = elim (Contains-append_cases (standing name (Fold past) (goals past)) (went (plan_routing plan name) name since) (name, to, item) c) [
    | inl s ↦ inr (standing_out name (Fold past) solid.named (goals past) (name, to, item) s)
    | inr w ↦ inl (
        let g = went_out (plan_routing plan name) name since (planned (plan_routing plan name) name since (Fold past) history) (name, to, item) w in
        (g.0, g.1, (targets_are_sent_to plan name g.0 item.key to).0 g.2)
        )
  ]

pub hops_decide : HopsDecide
hops_decide ours plan books h = record {
  successes = (
    λ all name to item own near c. came_in to (since_adoption (books to).lines) name item (all name to item own near (done_noted plan name (books name) (h.own name own) item to c)),
    λ all name to item own near s. came_out to (since_adoption (books to).lines) (name, to, item) (all name to item own near (noted_done plan name (books name) (h.own name own) item to s)),
  );
  arrivals = (
    λ all name caller item own near far c.
        reason_sent plan caller (books caller) (h.own caller near) item name (all name caller item own near far (came_out name (since_adoption (books name).lines) (caller, name, item) c)),
    λ all name caller item own near far taken.
        sent_reason plan caller (books caller) (h.own caller near) item name (all name caller item own near far (came_in name (since_adoption (books name).lines) caller item taken)),
  );
}
