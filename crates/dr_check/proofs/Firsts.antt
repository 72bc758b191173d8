-- A search goes by byte order: no walk that comes before the one that it is on shows a fault.
use Rattle.std.proofs.Common.{◌≡◌, ◌≢◌, ℕ, ◌<◌, ◌≤◌, ◌⊎◌, inl, inr, refl, sym, ◌∙◌, ap, subst, List, [], ◌∷◌, ◌++◌, length, Contains, get_or, arith}
use Rattle.std.specs.declared.cmp.Ordering.{Ordering}
use Rattle.std.specs.declared.cmp.Ordering.TheVariants.{Less, Equal, Greater}
use Rattle.std.specs.Ordering.{ordering_reverse}
use Rattle.std.proofs.lemmas.Bool.{cases_lt}
use Rattle.std.proofs.lemmas.Cmp.{nat_list_cmp_total}
use Rattle.std.proofs.lemmas.List.Elements.{Contains-append_cases}
use Rattle.std.proofs.lemmas.Map.Keys.{Less-from_sorted}
use Rattle.std.proofs.lemmas.Map.Lookups.{exact_bytes}
use Rattle.dr_base.specs.Texts.{Text, text_cmp, IsInByteOrder}
use Rattle.dr_route.specs.Routes.{local}
use Rattle.dr_route.specs.Laws.{key_of}
use Rattle.dr_route.specs.declared.key.Key.{Key}
use Rattle.dr_route.specs.declared.cell.OwnedCell.{OwnedCell}
use Rattle.dr_plan_model.specs.Networks.{Network}
use Rattle.dr_plan_model.specs.Walks.{Sends, Keeps, Accepts, IsWalk, places, last_place}
use Rattle.dr_plan_model.proofs.Gathered.{nothing_in_nil, Contains-cons_cases}
use Rattle.dr_plan_sound.specs.declared.certificate.Stop.{Stop}
use Rattle.dr_plan_sound.specs.declared.certificate.Line.{Line}
use Rattle.dr_plan_sound.specs.Ranked.{line_at, IsRanked}
use Rattle.dr_check.specs.Shown.{ComesBack}
use Rattle.dr_check.specs.Firsts.{IsBefore, IsHarmless}
use Rattle.dr_check.proofs.Trails.{same_front}

-- ---- byte order
pub not_below_itself : (text : Text) → text_cmp text text ≡ Less → ⊥
not_below_itself text less =
    let turned : text_cmp text text ≡ ordering_reverse (text_cmp text text) = nat_list_cmp_total.antisymm text text in
    let O : _ → Type 0 = λ o. text_cmp text text ≡ ordering_reverse o in
    let more : text_cmp text text ≡ Greater = subst O less turned in
    cc (less, more)

-- of two texts one is below the other, or they are the same
pub text_cases : (x y : Text) → (text_cmp x y ≡ Less) ⊎ ((x ≡ y) ⊎ (text_cmp y x ≡ Less))
text_cases x y = by_order (text_cmp x y) refl
  where
    by_order : (o : Ordering) → text_cmp x y ≡ o → (text_cmp x y ≡ Less) ⊎ ((x ≡ y) ⊎ (text_cmp y x ≡ Less))
    by_order Less e = inl e
    by_order Equal e = inr (inl (exact_bytes x y e))
    by_order Greater e = inr (inr (nat_list_cmp_total.antisymm y x ∙ ap (λ (o : Ordering). ordering_reverse o) e))

-- of two texts in byte order the lesser one stands first
pub lesser_stands_first : (texts : List Text) (i k : ℕ) → IsInByteOrder texts → i < length texts → k < length texts → text_cmp (get_or texts i []) (get_or texts k []) ≡ Less → i < k
lesser_stands_first texts i k ordered low high less = elim (cases_lt i k) [
  | inl before ↦ before
  | inr behind ↦ elim (cases_lt k i) [
    | inl after ↦
        let other : text_cmp (get_or texts k []) (get_or texts i []) ≡ Less = Less-from_sorted text_cmp texts k i [] ordered after low in
        absurd (not_below_itself (get_or texts i []) (nat_list_cmp_total.trans (get_or texts i []) (get_or texts k []) (get_or texts i []) less other))
    | inr not_after ↦
        let same : i ≡ k = omega (arith, behind, not_after) in
        let P : ℕ → Type 0 = λ n. text_cmp (get_or texts n []) (get_or texts k []) ≡ Less in
        absurd (not_below_itself (get_or texts k []) (subst P same less))
  ]
]

-- ---- walks in two parts
-- the pairs of a walk before its last one
abbrev pub front : Text → Text → List Text → List (Text × Text)
front caller name [] = []
front caller name (next ∷ rest) = (caller, name) ∷ front name next rest

pub places_front : (caller name : Text) (over : List Text) → places caller name over ≡ front caller name over ++ last_place caller name over ∷ []
places_front caller name [] = refl
places_front caller name (next ∷ rest) = ap (λ (ps : List (Text × Text)). let first : Text × Text = (caller, name) in first ∷ ps) (places_front name next rest)

pub comes_back : (site : Text) (over : List Text) → ComesBack site over → Contains (front local site over) (last_place local site over)
comes_back site over found =
    let same = same_front found.0 (front local site over) (last_place local site over) (last_place local site over) (sym found.1 ∙ places_front local site over) in
    let P : List (Text × Text) → Type 0 = λ ps. Contains ps (last_place local site over) in
    subst P same.0 found.2

pub walk_parts : (plan : Network) (key : Key) (caller name : Text) (over : List Text) (to : Text) (rest : List Text) → IsWalk plan key caller name (over ++ to ∷ rest) →
    Sends plan (last_place caller name over).1 (last_place caller name over).0 key to × IsWalk plan key (last_place caller name over).1 to rest
walk_parts plan key caller name [] to rest walk = walk
walk_parts plan key caller name (next ∷ over) to rest walk = walk_parts plan key name next over to rest walk.1

last_parts : (caller name : Text) (over : List Text) (to : Text) (rest : List Text) →
    last_place caller name (over ++ to ∷ rest) ≡ last_place (last_place caller name over).1 to rest
last_parts caller name [] to rest = refl
last_parts caller name (next ∷ over) to rest = last_parts name next over to rest

front_parts : (caller name : Text) (over : List Text) (to : Text) (rest : List Text) →
    front caller name (over ++ to ∷ rest) ≡ places caller name over ++ front (last_place caller name over).1 to rest
front_parts caller name [] to rest = refl
front_parts caller name (next ∷ over) to rest = ap (λ (ps : List (Text × Text)). let first : Text × Text = (caller, name) in first ∷ ps) (front_parts name next over to rest)

-- no walk comes before that of no node
pub nothing_before : (walk : List Text) → IsBefore walk [] → ⊥
nothing_before [] h = h
nothing_before (node ∷ nodes) h = h

-- a walk that comes before another one with a node more: it comes before that one, or is that one, or goes on from it to a lesser node
pub before_pushed : (walk nodes : List Text) (node : Text) → IsBefore walk (nodes ++ node ∷ []) →
    IsBefore walk nodes ⊎ ((walk ≡ nodes) ⊎ ((to : Text) × (rest : List Text) × (walk ≡ nodes ++ to ∷ rest) × (text_cmp to node ≡ Less)))
before_pushed [] [] node before = inr (inl refl)
before_pushed [] (b ∷ nodes) node before = inl tt
before_pushed (a ∷ walk) [] node before = elim before [
  | inl less ↦ inr (inr (a, walk, refl, less))
  | inr same ↦ absurd (nothing_before walk same.1)
]
before_pushed (a ∷ walk) (b ∷ nodes) node before = elim before [
  | inl less ↦ inl (inl less)
  | inr same ↦ elim (before_pushed walk nodes node same.1) [
    | inl earlier ↦ inl (inr (same.0, earlier))
    | inr rest ↦ elim rest [
      | inl this ↦ inr (inl (cc (same.0, this)))
      | inr beyond ↦ inr (inr (beyond.0, beyond.1, cc (same.0, beyond.2), beyond.3))
    ]
  ]
]

-- ---- walks over stops that have lines
module _ (plan : Network) (cell : OwnedCell) (lines : List Line)
    (ranked : (stop : Stop) (r : ℕ) → Contains lines (record { stop = stop; rank = r }) → IsRanked plan lines stop r)
    (one : (stop : Stop) (r s : ℕ) → Contains lines (record { stop = stop; rank = r }) → Contains lines (record { stop = stop; rank = s }) → r ≡ s) where
  abbrev pub HasRank : Text → Text → ℕ → Type 0
  HasRank caller node r = Contains lines (line_at caller node cell r)

  -- the walk's last stop has a line, of no higher rank
  ends_lower : (over : List Text) (caller node : Text) (r : ℕ) → HasRank caller node r → IsWalk plan (key_of cell) caller node over →
      (low : ℕ) × HasRank (last_place caller node over).0 (last_place caller node over).1 low × (low ≤ r)
  ends_lower [] caller node r has walk = (r, has, omega arith)
  ends_lower (next ∷ rest) caller node r has walk =
      let right = (ranked (record { caller = caller; node = node; cell = cell }) r has).lower next walk.0 in
      let later = ends_lower rest node next right.1.0 right.1.1 walk.1 in
      let less : right.1.0 < r = right.1.2 in
      let low : later.0 ≤ right.1.0 = later.2 in
      (later.0, later.1, omega (arith, less, low))

  ends_accepted : (rest : List Text) (caller node : Text) (r : ℕ) → HasRank caller node r → IsWalk plan (key_of cell) caller node rest →
      Accepts plan node caller cell.class cell.syntax → Accepts plan (last_place caller node rest).1 (last_place caller node rest).0 cell.class cell.syntax
  ends_accepted [] caller node r has walk accepted = accepted
  ends_accepted (next ∷ rest) caller node r has walk accepted =
      let right = (ranked (record { caller = caller; node = node; cell = cell }) r has).lower next walk.0 in
      ends_accepted rest node next right.1.0 right.1.1 walk.1 right.0

  -- it has been at none of its places before
  no_return : (over : List Text) (caller node : Text) (r : ℕ) → HasRank caller node r → IsWalk plan (key_of cell) caller node over →
      Contains (front caller node over) (last_place caller node over) → ⊥
  no_return [] caller node r has walk among = nothing_in_nil (caller, node) among
  no_return (next ∷ rest) caller node r has walk among =
      let right = (ranked (record { caller = caller; node = node; cell = cell }) r has).lower next walk.0 in
      let less : right.1.0 < r = right.1.2 in
      elim (Contains-cons_cases (caller, node) (front node next rest) (last_place node next rest) among) [
        | inl same ↦
            let later = ends_lower rest node next right.1.0 right.1.1 walk.1 in
            let low : later.0 ≤ right.1.0 = later.2 in
            let P : Text × Text → Type 0 = λ p. HasRank p.0 p.1 later.0 in
            let again : later.0 ≡ r = one (record { caller = caller; node = node; cell = cell }) later.0 r (subst P (sym same) later.1) has in
            absurd (omega (arith, less, low, again))
        | inr later ↦ no_return rest node next right.1.0 right.1.1 walk.1 later
      ]

  -- no walk from such a stop shows a fault
  pub harmless_from : (site : Text) (over : List Text) (r : ℕ) → HasRank local site r → IsWalk plan (key_of cell) local site over → IsHarmless plan (key_of cell) site over
  harmless_from site over r has walk =
      let ended = ends_lower over local site r has walk in
      let last : Text × Text = last_place local site over in
      record {
        accepted = λ other. accepted_behind over walk other;
        no_circle = λ back. no_return over local site r has walk (comes_back site over back);
        goes_on = (ranked (record { caller = last.0; node = last.1; cell = cell }) ended.0 ended.1).goes_on;
      }
    where
      accepted_behind : (ns : List Text) → IsWalk plan (key_of cell) local site ns → ns ≢ [] → Accepts plan (last_place local site ns).1 (last_place local site ns).0 cell.class cell.syntax
      accepted_behind [] w other = absurd (other refl)
      accepted_behind (next ∷ rest) w other =
          let right = (ranked (record { caller = local; node = site; cell = cell }) r has).lower next w.0 in
          ends_accepted rest site next right.1.0 right.1.1 w.1 right.0

  -- a walk that goes on over such a stop from one whose places have no lines shows no fault
  pub harmless_beyond : (site : Text) (over : List Text) (to : Text) (rest : List Text) (node : Text) (r : ℕ) → (last_place local site over).1 ≡ node →
      HasRank node to r → Accepts plan to node cell.class cell.syntax → IsWalk plan (key_of cell) local site (over ++ to ∷ rest) →
      ((caller name : Text) (q : ℕ) → Contains (places local site over) (caller, name) → HasRank caller name q → ⊥) → IsHarmless plan (key_of cell) site (over ++ to ∷ rest)
  harmless_beyond site over to rest node r end has accepted walk none =
      let W : Text → Type 0 = λ n. IsWalk plan (key_of cell) n to rest in
      let onward : IsWalk plan (key_of cell) node to rest = subst W end (walk_parts plan (key_of cell) local site over to rest walk).1 in
      let last : last_place local site (over ++ to ∷ rest) ≡ last_place node to rest =
      last_parts local site over to rest ∙ ap (λ (n : Text). last_place n to rest) end in
      let ended = ends_lower rest node to r has onward in
      let A : Text × Text → Type 0 = λ p. Accepts plan p.1 p.0 cell.class cell.syntax in
      let G : Text × Text → Type 0 = λ p. Keeps plan p.1 p.0 (key_of cell) ⊎ ((next : Text) × Sends plan p.1 p.0 (key_of cell) next) in
      let right = ranked (record { caller = (last_place node to rest).0; node = (last_place node to rest).1; cell = cell }) ended.0 ended.1 in
      record {
        accepted = λ _. subst A (sym last) (ends_accepted rest node to r has onward accepted);
        no_circle = λ back.
            let F : List (Text × Text) → Type 0 = λ ps. Contains ps (last_place local site (over ++ to ∷ rest)) in
            let L : Text × Text → Type 0 = λ p. Contains (places local site over ++ front (last_place local site over).1 to rest) p in
            let among = subst L last (subst F (front_parts local site over to rest) (comes_back site (over ++ to ∷ rest) back)) in
            elim (Contains-append_cases (places local site over) (front (last_place local site over).1 to rest) (last_place node to rest) among) [
              | inl earlier ↦ none (last_place node to rest).0 (last_place node to rest).1 ended.0 earlier ended.1
              | inr later ↦
                  let B : Text → Type 0 = λ n. Contains (front n to rest) (last_place node to rest) in
                  no_return rest node to r has onward (subst B end later)
            ];
        goes_on = subst G (sym last) right.goes_on;
      }
