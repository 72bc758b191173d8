-- The fault that a search names is that of the first walk from its entry that shows one.
use Rattle.std.proofs.Common.{◌≡◌, ◌≢◌, ◌<◌, ◌⊎◌, inl, inr, sym, ◌∙◌, ap, subst, List, [], ◌∷◌, ◌++◌, length, Contains, None, get_or}
use Rattle.std.specs.declared.cmp.Ordering.TheVariants.{Less}
use Rattle.std.proofs.Math.Logic.{⊎_elim}
use Rattle.std.proofs.lemmas.List.{get_or_default}
use Rattle.dr_base.specs.Texts.{Text, text_cmp}
use Rattle.dr_base.specs.declared.syntax.Syntax.{Syntax}
use Rattle.dr_route.specs.Routes.{local}
use Rattle.dr_route.specs.Laws.{key_of}
use Rattle.dr_route.specs.declared.key.Key.{Key}
use Rattle.dr_route.specs.declared.cell.OwnedCell.{OwnedCell}
use Rattle.dr_plan_model.specs.Networks.{Network}
use Rattle.dr_plan_model.specs.Plans.{IsWellFormed, LiesIn}
use Rattle.dr_plan_model.specs.Laws.{IsCellOf}
use Rattle.dr_plan_model.specs.Walks.{Sends, Keeps, Accepts, IsWalk, IsEntry, places, last_place}
use Rattle.dr_plan_model.proofs.WalksAlike.{send_alike, keep_alike, walk_alike, cell_has_a_key}
use Rattle.dr_plan_sound.specs.Ranked.{line_at}
use Rattle.dr_plan_sound.proofs.Hopping.{last_hop, reached_not_local}
use Rattle.dr_check.specs.declared.search.Search.{Search}
use Rattle.dr_check.specs.declared.search.Frame.{Frame}
use Rattle.dr_check.specs.declared.search.WalkEnd.{WalkEnd}
use Rattle.dr_check.specs.declared.search.WalkEnd.TheVariants as end
use Rattle.dr_check.specs.declared.fault.Fault.TheVariants as fault
use Rattle.dr_check.specs.Shown.{ComesBack, IsShown}
use Rattle.dr_check.specs.Firsts.{IsHarmless, IsFirstWalk}
use Rattle.dr_check.specs.Searching.{IsTrail, IsTaken, IsEnd, IsFirstEnd, IsFirstYet, EndsWell, IsAllOpen, WasTested, mark_at, stop_at, pairs_from}
use Rattle.dr_check.specs.Stacks.{IsTop}
use Rattle.dr_check.proofs.Firsts.{front, before_pushed, nothing_before, not_below_itself, lesser_stands_first, places_front, comes_back, walk_parts, harmless_beyond}
use Rattle.dr_check.proofs.Marking.{open_is_not_finished, none_is_not_some, finished_same}
use Rattle.dr_check.proofs.Trails.{same_front, places_are_pairs, trail_pairs}

-- ---- lists that begin alike
abbrev first_of : Text → List Text → Text
first_of d [] = d
first_of d (node ∷ nodes) = node

abbrev rest_of : List Text → List Text
rest_of [] = []
rest_of (node ∷ nodes) = nodes

-- ---- what is known at the end of a trail
module _ (plan : Network) (formed : IsWellFormed plan) (cell : OwnedCell) (nodes : List Text) (caller node : Text) (trail : IsTrail plan (key_of cell) nodes caller node)
    (site : Text) (over : List Text) (walked : nodes ≡ site ∷ over) where
  same_site : trail.site ≡ site
  same_site = ap (first_of site) (sym trail.walked ∙ walked)

  same_over : trail.over ≡ over
  same_over = ap rest_of (sym trail.walked ∙ walked)

  pub ends_at : last_place local site over ≡ (caller, node)
  ends_at =
      let P : Text → Type 0 = λ s. last_place local s over ≡ (caller, node) in
      let Q : List Text → Type 0 = λ ns. last_place local trail.site ns ≡ (caller, node) in
      subst P same_site (subst Q same_over trail.last)

  entered : IsEntry plan site (key_of cell)
  entered = let P : Text → Type 0 = λ s. IsEntry plan s (key_of cell) in subst P same_site trail.entry

  walks : IsWalk plan (key_of cell) local site over
  walks =
      let P : Text → Type 0 = λ s. IsWalk plan (key_of cell) local s over in
      let Q : List Text → Type 0 = λ ns. IsWalk plan (key_of cell) local trail.site ns in
      subst P same_site (subst Q same_over trail.walk)

  -- nobody is called '-', so behind a hop the caller's associations are asked for
  pub accepted_if_taken : IsTaken plan cell caller node → over ≢ [] → Accepts plan (last_place local site over).1 (last_place local site over).0 cell.class cell.syntax
  accepted_if_taken taken other =
      let P : Text × Text → Type 0 = λ p. Accepts plan p.1 p.0 cell.class cell.syntax in
      ⊎_elim
      (λ here. absurd (elim (last_hop plan (key_of cell) local site over caller node walks ends_at) [
        | inl none ↦ other none.0
        | inr more ↦ reached_not_local plan formed (key_of cell) more.1 caller (site, more.0, entered, more.2, more.3) here
      ]))
      (λ accepted. subst P (sym ends_at) accepted) taken

-- the walk over a search's open stops to one that isn't marked hasn't been there before
pub not_back : (plan : Network) (cell : OwnedCell) (s : Search) (caller node : Text) → IsTrail plan (key_of cell) (s.path.items ++ node ∷ []) caller node → IsAllOpen cell s →
    mark_at s.marks (stop_at caller node cell) ≡ None → (site : Text) (over : List Text) → s.path.items ++ node ∷ [] ≡ site ∷ over → last_place local site over ≡ (caller, node) →
    ComesBack site over → ⊥
not_back plan cell s caller node trail opened fresh site over walked ends back =
    let all : front local site over ++ last_place local site over ∷ [] ≡ pairs_from local s.path.items ++ (caller, node) ∷ [] =
    sym (places_front local site over) ∙ (places_are_pairs local site over ∙ (ap (λ (ns : List Text). pairs_from local ns) (sym walked)
    ∙ trail_pairs plan (key_of cell) s.path.items caller node trail)) in
    let same = same_front (front local site over) (pairs_from local s.path.items) (last_place local site over) (caller, node) all in
    let P : Text × Text → Type 0 = λ p. Contains (front local site over) p in
    let Q : List (Text × Text) → Type 0 = λ ps. Contains ps (caller, node) in
    none_is_not_some fresh (opened caller node (subst Q same.0 (subst P ends (comes_back site over back))))

-- ---- the walk that the search is on shows no fault
pub stop_ends_well : (plan : Network) → IsWellFormed plan → (cell : OwnedCell) (s : Search) (caller node : Text) → IsTrail plan (key_of cell) (s.path.items ++ node ∷ []) caller node →
    IsAllOpen cell s → IsTaken plan cell caller node → mark_at s.marks (stop_at caller node cell) ≡ None →
    Keeps plan node caller (key_of cell) ⊎ ((to : Text) × Sends plan node caller (key_of cell) to) → EndsWell plan cell (s.path.items ++ node ∷ [])
stop_ends_well plan formed cell s caller node trail opened taken fresh goes_on = λ site over walked.
    let ends = ends_at plan formed cell (s.path.items ++ node ∷ []) caller node trail site over walked in
    let G : Text × Text → Type 0 = λ p. Keeps plan p.1 p.0 (key_of cell) ⊎ ((to : Text) × Sends plan p.1 p.0 (key_of cell) to) in
    record {
      accepted = accepted_if_taken plan formed cell (s.path.items ++ node ∷ []) caller node trail site over walked taken;
      no_circle = not_back plan cell s caller node trail opened fresh site over walked ends;
      goes_on = subst G (sym ends) goes_on;
    }

-- ---- nothing that comes before shows a fault
pub first_alone : (plan : Network) (cell : OwnedCell) (here : Text) → IsFirstYet plan cell (here ∷ [])
first_alone plan cell here = λ site over walked other walk before.
    let same : here ≡ site = ap (first_of site) walked in
    absurd (elim before [
      | inl less ↦ (let P : Text → Type 0 = λ t. text_cmp site t ≡ Less in not_below_itself site (subst P same less))
      | inr again ↦ nothing_before other again.1
    ])

pub first_behind : (plan : Network) (cell : OwnedCell) (f : Frame) (s : Search) (node : Text) → IsTop plan cell f s → f.searched < length f.targets →
    get_or f.targets f.searched [] ≡ node → IsFirstYet plan cell (s.path.items ++ node ∷ [])
first_behind plan cell f s node top below at = λ site over walked other walk before.
    let trail = top.trail in
    let begins : trail.site ≡ site = ap (first_of site) (sym (ap (λ (ns : List Text). ns ++ node ∷ []) trail.walked) ∙ walked) in
    let path : s.path.items ≡ site ∷ trail.over = trail.walked ∙ ap (λ (n : Text). n ∷ trail.over) begins in
    let ends : last_place local site trail.over ≡ (f.caller, f.node) =
    let P : Text → Type 0 = λ n. last_place local n trail.over ≡ (f.caller, f.node) in subst P begins trail.last in
    elim (before_pushed (site ∷ other) s.path.items node before) [
      | inl earlier ↦ top.first site trail.over path other walk earlier
      | inr rest ↦ elim rest [
        | inl this ↦ top.well site other (sym this)
        | inr beyond ↦
            let to : Text = beyond.0 in
            let onward : List Text = beyond.1 in
            let is : other ≡ trail.over ++ to ∷ onward = ap rest_of (beyond.2 ∙ ap (λ (ns : List Text). ns ++ to ∷ onward) path) in
            let W : List Text → Type 0 = λ ns. IsWalk plan (key_of cell) local site ns in
            let long : IsWalk plan (key_of cell) local site (trail.over ++ to ∷ onward) = subst W is walk in
            let S : Text × Text → Type 0 = λ p. Sends plan p.1 p.0 (key_of cell) to in
            let among = (top.named to).1 (subst S ends (walk_parts plan (key_of cell) local site trail.over to onward long).0) in
            let here : get_or f.targets among.0 [] ≡ to = get_or_default f.targets among.0 [] to among.1 ∙ among.2 in
            let L : Text → Type 0 = λ t. text_cmp t (get_or f.targets f.searched []) ≡ Less in
            let R : Text → Type 0 = λ t. text_cmp to t ≡ Less in
            let less : text_cmp (get_or f.targets among.0 []) (get_or f.targets f.searched []) ≡ Less = subst L (sym here) (subst R (sym at) beyond.3) in
            let searched : among.0 < f.searched = lesser_stands_first f.targets among.0 f.searched top.ordered among.1 below less in
            let line = top.ranked.lower among.0 searched in
            let A : Text → Type 0 = λ t. Accepts plan t f.node cell.class cell.syntax in
            let C : Text → Type 0 = λ t. Contains s.lines.items (line_at f.node t cell line.1.0) in
            let H : List Text → Type 0 = λ ns. IsHarmless plan (key_of cell) site ns in
            subst H (sym is) (harmless_beyond plan cell s.lines.items top.searching.ranked
            (λ stop p q a b. finished_same (top.searching.listed stop p a) (top.searching.listed stop q b))
            site trail.over to onward f.node line.1.0 (ap (λ (p : Text × Text). p.1) ends) (subst C here line.1.1) (subst A here line.0) long
            (λ caller name q among_places has.
            let P : List (Text × Text) → Type 0 = λ ps. Contains ps (caller, name) in
            let pairs : places local site trail.over ≡ pairs_from local s.path.items = places_are_pairs local site trail.over ∙ ap (λ (ns : List Text). pairs_from local ns) (sym path) in
            open_is_not_finished (top.opened caller name (subst P pairs among_places)) (top.searching.listed (stop_at caller name cell) q has)))
      ]
    ]

-- ---- the same for all keys of the cell
pub harmless_alike : (plan : Network) → IsWellFormed plan → (cell : OwnedCell) → IsCellOf plan cell → (key : Key) → LiesIn plan cell key → (site : Text) (over : List Text) →
    IsHarmless plan (key_of cell) site over → IsHarmless plan key site over
harmless_alike plan formed cell is key lies site over h =
    let back = cell_has_a_key plan formed cell is in
    let last : Text × Text = last_place local site over in
    let Q : Text → Type 0 = λ class. Accepts plan last.1 last.0 class cell.syntax in
    let R : Syntax → Type 0 = λ syntax. Accepts plan last.1 last.0 key.class syntax in
    record {
      accepted = λ other. subst R lies.syntax (subst Q lies.class (h.accepted other));
      no_circle = h.no_circle;
      goes_on = ⊎_elim
          (λ kept. inl (keep_alike plan cell (key_of cell) key back lies last.1 last.0 kept))
          (λ sent. inr (sent.0, send_alike plan cell (key_of cell) key back lies last.1 last.0 sent.0 sent.1)) h.goes_on;
    }

first_walk : (plan : Network) → IsWellFormed plan → (cell : OwnedCell) → IsCellOf plan cell → (nodes : List Text) → IsFirstYet plan cell nodes → IsFirstWalk plan nodes cell
first_walk plan formed cell is nodes first = λ key lies site over walked other walk before.
    harmless_alike plan formed cell is key lies site other
    (first site over walked other (walk_alike plan cell key (key_of cell) lies (cell_has_a_key plan formed cell is) local site other walk) before)

-- ---- the end of a search
pub first_end : (plan : Network) → IsWellFormed plan → (cell : OwnedCell) → IsCellOf plan cell → (s : Search) (caller node : Text) →
    IsTrail plan (key_of cell) (s.path.items ++ node ∷ []) caller node → IsAllOpen cell s → IsFirstYet plan cell (s.path.items ++ node ∷ []) → (e : WalkEnd) →
    IsEnd plan cell (s.path.items ++ node ∷ []) e → WasTested plan cell caller node s e → IsFirstEnd plan cell (s.path.items ++ node ∷ []) e
first_end plan formed cell is s caller node trail opened first e = by_end e
  where
    nodes : List Text
    nodes = s.path.items ++ node ∷ []

    is_first : IsFirstWalk plan nodes cell
    is_first = first_walk plan formed cell is nodes first

    has_context : IsTaken plan cell caller node → IsShown plan (fault.NoContext nodes cell) → ⊥
    has_context taken shown =
        let wrong = (shown.each (key_of cell) (cell_has_a_key plan formed cell is)).2 in
        wrong.1 (accepted_if_taken plan formed cell nodes caller node trail shown.site shown.over shown.nodes taken wrong.0)

    no_circle : mark_at s.marks (stop_at caller node cell) ≡ None → IsShown plan (fault.Cycle nodes cell) → ⊥
    no_circle fresh shown =
        let wrong = (shown.each (key_of cell) (cell_has_a_key plan formed cell is)).2 in
        not_back plan cell s caller node trail opened fresh shown.site shown.over shown.nodes
        (ends_at plan formed cell nodes caller node trail shown.site shown.over shown.nodes) wrong

    by_end : (e : WalkEnd) → IsEnd plan cell nodes e → WasTested plan cell caller node s e → IsFirstEnd plan cell nodes e
    by_end end.NoContext ended tested = (ended, is_first)
    by_end end.Cycle ended tested = (ended, (is_first, has_context tested))
    by_end end.DeadEnd ended tested = (ended, (is_first, has_context tested.0, no_circle tested.1))
    by_end end.TooLarge ended tested = ended
