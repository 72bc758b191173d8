-- Trails: walks from an entry, one node after another, and what they show at their end.
use Rattle.std.proofs.Common.{◌≡◌, ◌≢◌, refl, sym, ◌∙◌, ap, subst, List, [], ◌∷◌, ◌++◌, length, Contains}
use Rattle.std.specs.Prelude.{◌==◌, false}
use Rattle.dr_plan_model.proofs.Gathered.{Contains-here}
use Rattle.dr_base.specs.Texts.{Text}
use Rattle.dr_base.specs.declared.syntax.Syntax.{Syntax}
use Rattle.dr_route.specs.Routes.{local}
use Rattle.dr_route.specs.Laws.{key_of}
use Rattle.dr_route.specs.declared.key.Key.{Key}
use Rattle.dr_route.specs.declared.cell.OwnedCell.{OwnedCell}
use Rattle.dr_plan_model.specs.Networks.{Network}
use Rattle.dr_plan_model.specs.Plans.{IsWellFormed, LiesIn}
use Rattle.dr_plan_model.specs.Laws.{IsCellOf}
use Rattle.dr_plan_model.specs.Walks.{Sends, Keeps, Accepts, places, last_place, IsEntry, IsReached}
use Rattle.dr_plan_model.proofs.WalksAlike.{send_alike, keep_alike, enter_alike, walk_alike, cell_has_a_key}
use Rattle.dr_plan_sound.proofs.Hopping.{walk_push, last_push}
use Rattle.dr_check.specs.Shown.{ShownBy, ComesBack, IsShown}
use Rattle.dr_check.specs.declared.fault.Fault.TheVariants as fault
use Rattle.dr_check.specs.Searching.{IsTrail, pairs_from}

-- ---- lists that end alike
abbrev uncons : {X : Type 0} → X → List X → X
uncons d [] = d
uncons d (x ∷ xs) = x

abbrev rest_of : {X : Type 0} → List X → List X
rest_of [] = []
rest_of (x ∷ xs) = xs

pub same_front : {X : Type 0} (xs ys : List X) (x y : X) → xs ++ x ∷ [] ≡ ys ++ y ∷ [] → (xs ≡ ys) × (x ≡ y)
same_front [] [] x y e = (refl, ap (uncons x) e)
same_front {X} [] (b ∷ ys) x y e = absurd (not_nil ys y (ap rest_of e))
  where
    not_nil : (ys : List X) (y : X) → [] ≡ ys ++ y ∷ [] → ⊥
    not_nil [] y e = cc e
    not_nil (b ∷ ys) y e = cc e
same_front {X} (a ∷ xs) [] x y e = absurd (not_nil xs x (sym (ap rest_of e)))
  where
    not_nil : (ys : List X) (y : X) → [] ≡ ys ++ y ∷ [] → ⊥
    not_nil [] y e = cc e
    not_nil (b ∷ ys) y e = cc e
same_front (a ∷ xs) (b ∷ ys) x y e =
    let later = same_front xs ys x y (ap rest_of e) in
    let first : a ≡ b = ap (uncons a) e in
    (cc (first, later.0), later.1)

-- the last pair of a walk ends its pairs
places_split : (caller name : Text) (over : List Text) → (before : List (Text × Text)) × (places caller name over ≡ before ++ last_place caller name over ∷ [])
places_split caller name [] = ([], refl)
places_split caller name (next ∷ rest) =
    let later = places_split name next rest in
    let first : Text × Text = (caller, name) in
    (first ∷ later.0, ap (λ (ps : List (Text × Text)). first ∷ ps) later.1)

pub places_are_pairs : (caller name : Text) (over : List Text) → places caller name over ≡ pairs_from caller (name ∷ over)
places_are_pairs caller name [] = refl
places_are_pairs caller name (next ∷ rest) = ap (λ (ps : List (Text × Text)). let first : Text × Text = (caller, name) in first ∷ ps) (places_are_pairs name next rest)

pairs_push : (caller : Text) (nodes : List Text) (node : Text) → (end : Text) × (pairs_from caller (nodes ++ node ∷ []) ≡ pairs_from caller nodes ++ (end, node) ∷ [])
pairs_push caller [] node = (caller, refl)
pairs_push caller (n ∷ nodes) node =
    let later = pairs_push n nodes node in
    (later.0, ap (λ (ps : List (Text × Text)). let first : Text × Text = (caller, n) in first ∷ ps) later.1)

-- the pairs of a trail are those before its last node, and then its last pair
pub trail_pairs : (plan : Network) (key : Key) (nodes : List Text) (caller node : Text) → IsTrail plan key (nodes ++ node ∷ []) caller node →
    pairs_from local (nodes ++ node ∷ []) ≡ pairs_from local nodes ++ (caller, node) ∷ []
trail_pairs plan key nodes caller node trail =
    let split = places_split local trail.site trail.over in
    let all : pairs_from local (nodes ++ node ∷ []) ≡ split.0 ++ last_place local trail.site trail.over ∷ [] =
    ap (λ (ns : List Text). pairs_from local ns) trail.walked ∙ (sym (places_are_pairs local trail.site trail.over) ∙ split.1) in
    let pushed = pairs_push local nodes node in
    let same = same_front split.0 (pairs_from local nodes) (last_place local trail.site trail.over) (pushed.0, node) (sym all ∙ pushed.1) in
    let pair : (let p : Text × Text = (pushed.0, node) in p) ≡ (caller, node) = sym same.1 ∙ trail.last in
    pushed.1 ∙ ap (λ (p : Text × Text). pairs_from local nodes ++ p ∷ []) pair

-- ---- trails that begin and go on
pub trail_begins : (plan : Network) (key : Key) (site : Text) → IsEntry plan site key → IsTrail plan key (site ∷ []) local site
trail_begins plan key site entry = record { site = site; over = []; walked = refl; entry = entry; walk = tt; last = refl }

pub trail_goes_on : (plan : Network) (key : Key) (nodes : List Text) (caller node to : Text) → IsTrail plan key nodes caller node → Sends plan node caller key to →
    IsTrail plan key (nodes ++ to ∷ []) node to
trail_goes_on plan key nodes caller node to trail sent =
    let P : Text × Text → Type 0 = λ p. Sends plan p.1 p.0 key to in
    record {
      site = trail.site;
      over = trail.over ++ to ∷ [];
      walked = ap (λ (ns : List Text). ns ++ to ∷ []) trail.walked;
      entry = trail.entry;
      walk = walk_push plan key local trail.site trail.over to trail.walk (subst P (sym trail.last) sent);
      last = last_push local trail.site trail.over to ∙ ap (λ (p : Text × Text). let q : Text × Text = (p.1, to) in q) trail.last;
    }

pub trail_reaches : (plan : Network) (key : Key) (nodes : List Text) (caller node : Text) → IsTrail plan key nodes caller node → IsReached plan key caller node
trail_reaches plan key nodes caller node trail = (trail.site, trail.over, trail.entry, trail.walk, trail.last)

-- ---- what a trail shows
module _ (plan : Network) (formed : IsWellFormed plan) (cell : OwnedCell) (is : IsCellOf plan cell) (nodes : List Text) (caller node : Text) (trail : IsTrail plan (key_of cell) nodes caller node) where
  shows : (P : Text → List Text → Key → Type 0) → ((key : Key) → LiesIn plan cell key → P trail.site trail.over key) → ShownBy plan nodes cell P
  shows P each = record {
    site = trail.site;
    over = trail.over;
    nodes = trail.walked;
    some = (key_of cell, cell_has_a_key plan formed cell is);
    each = λ key lies. (
      enter_alike plan cell (key_of cell) key (cell_has_a_key plan formed cell is) lies trail.site trail.entry,
      walk_alike plan cell (key_of cell) key (cell_has_a_key plan formed cell is) lies local trail.site trail.over trail.walk,
      each key lies,
    );
  }

  pub shows_no_context : caller ≢ local → (Accepts plan node caller cell.class cell.syntax → ⊥) → IsShown plan (fault.NoContext nodes cell)
  shows_no_context other refused = shows (λ site over key.
      (over ≢ []) × (Accepts plan (last_place local site over).1 (last_place local site over).0 key.class key.syntax → ⊥))
      (λ key lies. (
        (λ none.
            let P : List Text → Type 0 = λ over. last_place local trail.site over ≡ (caller, node) in
            other (sym (ap (λ (p : Text × Text). p.0) (subst P none trail.last)))),
        (λ accepted.
            let P : Text × Text → Type 0 = λ p. Accepts plan p.1 p.0 key.class key.syntax in
            let Q : Text → Type 0 = λ class. Accepts plan node caller class key.syntax in
            let R : Syntax → Type 0 = λ syntax. Accepts plan node caller cell.class syntax in
            refused (subst R (sym lies.syntax) (subst Q (sym lies.class) (subst P trail.last accepted)))),
      ))

  pub shows_dead_end : (Keeps plan node caller (key_of cell) → ⊥) → ((to : Text) → Sends plan node caller (key_of cell) to → ⊥) → IsShown plan (fault.DeadEnd nodes cell)
  shows_dead_end not_kept not_sent = shows (λ site over key.
      (Keeps plan (last_place local site over).1 (last_place local site over).0 key → ⊥)
      × ((to : Text) → Sends plan (last_place local site over).1 (last_place local site over).0 key to → ⊥))
      (λ key lies.
      let back = cell_has_a_key plan formed cell is in (
        (λ kept.
            let P : Text × Text → Type 0 = λ p. Keeps plan p.1 p.0 key in
            not_kept (keep_alike plan cell key (key_of cell) lies back node caller (subst P trail.last kept))),
        (λ to sent.
            let P : Text × Text → Type 0 = λ p. Sends plan p.1 p.0 key to in
            not_sent to (send_alike plan cell key (key_of cell) lies back node caller to (subst P trail.last sent))),
      ))

  pub shows_cycle : (before : List Text) → nodes ≡ before ++ node ∷ [] → Contains (pairs_from local before) (caller, node) → IsShown plan (fault.Cycle nodes cell)
  shows_cycle before pushed among = shows (λ site over key. ComesBack site over)
      (λ key lies.
      let T : List Text → Type 0 = λ ns. IsTrail plan (key_of cell) ns caller node in
      let here = trail_pairs plan (key_of cell) before caller node (subst T pushed trail) in
      let all : places local trail.site trail.over ≡ pairs_from local before ++ (caller, node) ∷ [] =
      places_are_pairs local trail.site trail.over ∙ (ap (λ (ns : List Text). pairs_from local ns) (sym trail.walked ∙ pushed) ∙ here) in
      let P : Text × Text → Type 0 = λ p. (places local trail.site trail.over ≡ pairs_from local before ++ p ∷ []) × Contains (pairs_from local before) p in
      let found = subst P (sym trail.last) (all, among) in
      (pairs_from local before, found.0, found.1))

-- a row that isn't empty has a name
pub some_name : (names : List Text) → (length names == 0) ≡ false → (name : Text) × Contains names name
some_name [] e = cc e
some_name (name ∷ names) e = (name, Contains-here name names)
