-- Of the faults of a plan one is named: of those of one entry the one of its first walk, and of the entries the first.
use Rattle.std.proofs.Common.{◌≡◌, ◌⊎◌, inl, inr, refl, sym, ◌∙◌, ap, subst, List, [], ◌∷◌}
use Rattle.std.proofs.Math.Logic.{⊎_elim}
use Rattle.std.specs.declared.cmp.Ordering.{Ordering}
use Rattle.std.specs.declared.cmp.Ordering.TheVariants.{Less, Equal, Greater}
use Rattle.std.specs.Ordering.{ordering_reverse, ordering_then}
use Rattle.std.proofs.lemmas.Cmp.{nat_list_cmp_total}
use Rattle.dr_base.specs.Texts.{Text, text_cmp}
use Rattle.dr_route.specs.Routes.{local}
use Rattle.dr_route.specs.declared.key.Key.{Key}
use Rattle.dr_route.specs.declared.cell.OwnedCell.{OwnedCell}
use Rattle.dr_plan_model.specs.Networks.{Network}
use Rattle.dr_plan_model.specs.Plans.{LiesIn}
use Rattle.dr_plan_sound.specs.HopPairs.{hop_cmp}
use Rattle.dr_plan_entries.specs.Visiting.{IsEntryCell}
use Rattle.dr_plan_entries.proofs.Orders.{one_is_before}
use Rattle.dr_plan_model.specs.Walks.{IsWalk}
use Rattle.dr_check.specs.declared.fault.Fault.{Fault}
use Rattle.dr_check.specs.declared.fault.Fault.TheVariants.{NoContext, Cycle, DeadEnd, TooManyContexts}
use Rattle.dr_check.specs.Shown.{ShownBy, IsShown, IsFirstOverfull}
use Rattle.dr_check.specs.Firsts.{IsBefore, IsHarmless, IsFirstWalk, IsNamedFirst, IsOnWalk, IsHarmlessEntry, IsFirstEntry, IsOfFirstEntry, IsFirstOfPlan}
use Rattle.dr_check.specs.Laws.{OneIsNamedAtAnEntry, OneIsNamedFirst}
use Rattle.dr_check.proofs.Firsts.{not_below_itself, text_cases}

abbrev first_of : Text → List Text → Text
first_of d [] = d
first_of d (node ∷ nodes) = node

abbrev rest_of : List Text → List Text
rest_of [] = []
rest_of (node ∷ nodes) = nodes

-- of two walks one comes before the other, or they are the same
one_before : (a b : List Text) → IsBefore a b ⊎ ((a ≡ b) ⊎ IsBefore b a)
one_before [] [] = inr (inl refl)
one_before [] (y ∷ ys) = inl tt
one_before (x ∷ xs) [] = inr (inr tt)
one_before (x ∷ xs) (y ∷ ys) = elim (text_cases x y) [
  | inl less ↦ inl (inl less)
  | inr rest ↦ elim rest [
    | inl same ↦ elim (one_before xs ys) [
      | inl before ↦ inl (inr (same, before))
      | inr later ↦ elim later [
        | inl equal ↦ inr (inl (cc (same, equal)))
        | inr behind ↦ inr (inr (inr (sym same, behind)))
      ]
    ]
    | inr more ↦ inr (inr (inl more))
  ]
]

-- the walk is one of a key of the cell from the site, and shows a fault at its end
record IsWrong (plan : Network) (site : Text) (cell : OwnedCell) (over : List Text) : Type 0 where
  key : Key
  lies : LiesIn plan cell key
  walk : IsWalk plan key local site over
  wrong : IsHarmless plan key site over → ⊥

-- of two wrong walks from one entry that are both first, one is the other
same_walk : (plan : Network) (site : Text) (cell : OwnedCell) (v w : List Text) → IsWrong plan site cell v → IsWrong plan site cell w →
    IsFirstWalk plan (site ∷ v) cell → IsFirstWalk plan (site ∷ w) cell → v ≡ w
same_walk plan site cell v w is_v is_w first_v first_w = elim (one_before v w) [
  | inl before ↦ absurd (is_v.wrong (first_w is_v.key is_v.lies site w refl v is_v.walk (inr (refl, before))))
  | inr rest ↦ elim rest [
    | inl same ↦ same
    | inr before ↦ absurd (is_w.wrong (first_v is_w.key is_w.lies site v refl w is_w.walk (inr (refl, before))))
  ]
]

-- what a fault shows of its walk, told of the walk's nodes
shown_over : (plan : Network) (cell : OwnedCell) (site : Text) (over : List Text) (P : Text → List Text → Key → Type 0) → ShownBy plan (site ∷ over) cell P →
    ((key : Key) → P site over key → IsHarmless plan key site over → ⊥) → IsWrong plan site cell over
shown_over plan cell site over P shown contradicts =
    let head : shown.site ≡ site = ap (λ (ns : List Text). first_of site ns) (sym shown.nodes) in
    let tail : shown.over ≡ over = ap (λ (ns : List Text). rest_of ns) (sym shown.nodes) in
    let each = shown.each shown.some.0 shown.some.1 in
    let W : Text → Type 0 = λ s. IsWalk plan shown.some.0 local s over in
    let V : List Text → Type 0 = λ ns. IsWalk plan shown.some.0 local shown.site ns in
    let A : Text → Type 0 = λ s. P s over shown.some.0 in
    let B : List Text → Type 0 = λ ns. P shown.site ns shown.some.0 in
    record {
      key = shown.some.0;
      lies = shown.some.1;
      walk = subst W head (subst V tail each.1);
      wrong = contradicts shown.some.0 (subst A head (subst B tail each.2));
    }

-- ---- the faults
module _ (plan : Network) (site : Text) (cell : OwnedCell) where
  no_context : (over : List Text) → IsShown plan (NoContext (site ∷ over) cell) → IsWrong plan site cell over
  no_context over shown = shown_over plan cell site over _ shown (λ key is harmless. is.1 (harmless.accepted is.0))

  cycle : (over : List Text) → IsShown plan (Cycle (site ∷ over) cell) → IsWrong plan site cell over
  cycle over shown = shown_over plan cell site over _ shown (λ key is harmless. harmless.no_circle is)

  dead_end : (over : List Text) → IsShown plan (DeadEnd (site ∷ over) cell) → IsWrong plan site cell over
  dead_end over shown = shown_over plan cell site over _ shown (λ key is harmless. ⊎_elim (λ kept. is.0 kept) (λ sent. is.1 sent.0 sent.1) harmless.goes_on)

  -- the kinds of faults on a walk from the site
  abbrev context : List Text → Fault
  context over = NoContext (site ∷ over) cell

  abbrev cycles : List Text → Fault
  cycles over = Cycle (site ∷ over) cell

  abbrev ends : List Text → Fault
  ends over = DeadEnd (site ∷ over) cell

  abbrev IsKind : Fault → List Text → Type 0
  IsKind fault over = (fault ≡ context over) ⊎ ((fault ≡ cycles over) ⊎ (fault ≡ ends over))

  abbrev Shown : Fault → Type 0
  Shown h = IsShown plan h

  abbrev First : Fault → Type 0
  First h = IsNamedFirst plan h

  -- such a fault's walk shows one, and is the first one that does
  wrong_and_first : (fault : Fault) (over : List Text) → IsKind fault over → IsShown plan fault → IsNamedFirst plan fault → IsWrong plan site cell over × IsFirstWalk plan (site ∷ over) cell
  wrong_and_first fault over kind shown first = elim kind [
    | inl e ↦ (no_context over (subst Shown e shown), subst First e first)
    | inr rest ↦ elim rest [
      | inl e ↦ (cycle over (subst Shown e shown), (subst First e first).0)
      | inr e ↦ (dead_end over (subst Shown e shown), (subst First e first).0)
    ]
  ]

  -- a fault that shows itself, of a kind that the other one excludes on the same walk
  apart : (make : List Text → Fault) (v w : List Text) {X : Type 0} → v ≡ w → IsShown plan (make v) → (IsShown plan (make w) → ⊥) → X
  apart make v w same shown other = let P : List Text → Type 0 = λ ns. IsShown plan (make ns) in absurd (other (subst P same shown))

  same_kind : (v w : List Text) → v ≡ w → (f g : Fault) → IsKind f v → IsKind g w →
      IsShown plan f → IsNamedFirst plan f → IsShown plan g → IsNamedFirst plan g → f ≡ g
  same_kind v w same f g on_f on_g shown_f first_f shown_g first_g = elim on_f [
    | inl e ↦ elim on_g [
      | inl d ↦ e ∙ (ap context same ∙ sym d)
      | inr rest ↦ elim rest [
        | inl d ↦ apart context v w same (subst Shown e shown_f) (subst First d first_g).1
        | inr d ↦ apart context v w same (subst Shown e shown_f) (subst First d first_g).1
      ]
    ]
    | inr others ↦ elim others [
      | inl e ↦ elim on_g [
        | inl d ↦ apart context w v (sym same) (subst Shown d shown_g) (subst First e first_f).1
        | inr rest ↦ elim rest [
          | inl d ↦ e ∙ (ap cycles same ∙ sym d)
          | inr d ↦ apart cycles v w same (subst Shown e shown_f) (subst First d first_g).2
        ]
      ]
      | inr e ↦ elim on_g [
        | inl d ↦ apart context w v (sym same) (subst Shown d shown_g) (subst First e first_f).1
        | inr rest ↦ elim rest [
          | inl d ↦ apart cycles w v (sym same) (subst Shown d shown_g) (subst First e first_f).2
          | inr d ↦ e ∙ (ap ends same ∙ sym d)
        ]
      ]
    ]
  ]

pub one_is_named_there : OneIsNamedAtAnEntry
one_is_named_there plan site cell f g on_f on_g shown_f first_f shown_g first_g =
    let at_f = wrong_and_first plan site cell f on_f.0 on_f.1 shown_f first_f in
    let at_g = wrong_and_first plan site cell g on_g.0 on_g.1 shown_g first_g in
    same_kind plan site cell on_f.0 on_g.0 (same_walk plan site cell on_f.0 on_g.0 at_f.0 at_g.0 at_f.1 at_g.1) f g on_f.1 on_g.1 shown_f first_f shown_g first_g

-- ---- the first entry
-- the walk that is named begins at the entry: so that is the first one
pub at_first_entry : (plan : Network) (site : Text) (cell : OwnedCell) (fault : Fault) → IsOnWalk site cell fault → IsFirstEntry plan site cell → IsFirstOfPlan plan fault
at_first_entry plan site cell fault on first =
    let P : Fault → Type 0 = λ f. IsFirstOfPlan plan f in
    let begins : IsOfFirstEntry plan (site ∷ on.0) cell = λ s over walked. (let Q : Text → Type 0 = λ t. IsFirstEntry plan t cell in subst Q (ap (λ (ns : List Text). first_of site ns) walked) first) in
    elim on.1 [
      | inl e ↦ subst P (sym e) begins
      | inr rest ↦ elim rest [ inl e ↦ subst P (sym e) begins | inr e ↦ subst P (sym e) begins ]
    ]

-- a fault on a walk of an entry of the plan, which is the first that shows one
record IsFirstFault (plan : Network) (fault : Fault) : Type 0 where
  site : Text
  cell : OwnedCell
  on : IsOnWalk site cell fault
  entry : IsEntryCell plan site cell
  wrong : IsWrong plan site cell on.0
  first : IsFirstEntry plan site cell

-- a hop with too many pairs, in a plan of which no entry shows a fault
record IsOverfullHop (plan : Network) (fault : Fault) : Type 0 where
  sender : Text
  receiver : Text
  is : fault ≡ TooManyContexts sender receiver
  first : IsFirstOverfull plan sender receiver
  harmless : (site : Text) (cell : OwnedCell) → IsEntryCell plan site cell → IsHarmlessEntry plan site cell

first_fault : (plan : Network) (fault : Fault) → IsShown plan fault → IsFirstOfPlan plan fault → IsFirstFault plan fault ⊎ IsOverfullHop plan fault
first_fault plan (NoContext walk cell) shown first =
    let S : List Text → Type 0 = λ ns. IsShown plan (NoContext ns cell) in
    inl (record {
      site = shown.site;
      cell = cell;
      on = (shown.over, inl (ap (λ (ns : List Text). NoContext ns cell) shown.nodes));
      entry = (shown.some.0, shown.some.1, (shown.each shown.some.0 shown.some.1).0);
      wrong = no_context plan shown.site cell shown.over (subst S shown.nodes shown);
      first = first shown.site shown.over shown.nodes;
    })
first_fault plan (Cycle walk cell) shown first =
    let S : List Text → Type 0 = λ ns. IsShown plan (Cycle ns cell) in
    inl (record {
      site = shown.site;
      cell = cell;
      on = (shown.over, inr (inl (ap (λ (ns : List Text). Cycle ns cell) shown.nodes)));
      entry = (shown.some.0, shown.some.1, (shown.each shown.some.0 shown.some.1).0);
      wrong = cycle plan shown.site cell shown.over (subst S shown.nodes shown);
      first = first shown.site shown.over shown.nodes;
    })
first_fault plan (DeadEnd walk cell) shown first =
    let S : List Text → Type 0 = λ ns. IsShown plan (DeadEnd ns cell) in
    inl (record {
      site = shown.site;
      cell = cell;
      on = (shown.over, inr (inr (ap (λ (ns : List Text). DeadEnd ns cell) shown.nodes)));
      entry = (shown.some.0, shown.some.1, (shown.each shown.some.0 shown.some.1).0);
      wrong = dead_end plan shown.site cell shown.over (subst S shown.nodes shown);
      first = first shown.site shown.over shown.nodes;
    })
first_fault plan (TooManyContexts sender receiver) shown first = inr (record { sender = sender; receiver = receiver; is = refl; first = shown; harmless = first })

shows_one : (plan : Network) (fault : Fault) (a : IsFirstFault plan fault) → IsHarmlessEntry plan a.site a.cell → ⊥
shows_one plan fault a harmless = a.wrong.wrong (harmless a.wrong.key a.wrong.lies a.on.0 a.wrong.walk)

ties_itself : (text : Text) → text_cmp text text ≡ Equal
ties_itself text = by_order (text_cmp text text) refl
  where
    by_order : (o : Ordering) → text_cmp text text ≡ o → text_cmp text text ≡ Equal
    by_order Less e = absurd (not_below_itself text e)
    by_order Equal e = e
    by_order Greater e = absurd (not_below_itself text (nat_list_cmp_total.antisymm text text ∙ ap (λ (o : Ordering). ordering_reverse o) e))

-- of two hops one comes before the other, or they are the same
hop_cases : (a b c d : Text) → (hop_cmp (a, b) (c, d) ≡ Less) ⊎ (((a ≡ c) × (b ≡ d)) ⊎ (hop_cmp (c, d) (a, b) ≡ Less))
hop_cases a b c d = elim (text_cases a c) [
  | inl less ↦ inl (ap (λ (o : Ordering). ordering_then o (text_cmp b d)) less)
  | inr rest ↦ elim rest [
    | inl same ↦
        let T : Text → Type 0 = λ t. text_cmp a t ≡ Equal in
        let U : Text → Type 0 = λ t. text_cmp t a ≡ Equal in
        elim (text_cases b d) [
          | inl less ↦ inl (ap (λ (o : Ordering). ordering_then o (text_cmp b d)) (subst T same (ties_itself a)) ∙ less)
          | inr other ↦ elim other [
            | inl alike ↦ inr (inl (same, alike))
            | inr more ↦ inr (inr (ap (λ (o : Ordering). ordering_then o (text_cmp d b)) (subst U same (ties_itself a)) ∙ more))
          ]
        ]
    | inr more ↦ inr (inr (ap (λ (o : Ordering). ordering_then o (text_cmp d b)) more))
  ]
]

same_hop : (plan : Network) (a b c d : Text) → IsFirstOverfull plan a b → IsFirstOverfull plan c d → (a ≡ c) × (b ≡ d)
same_hop plan a b c d one other = elim (hop_cases a b c d) [
  | inl less ↦ absurd (other.1 a b one.0 less)
  | inr rest ↦ elim rest [ inl same ↦ same | inr more ↦ absurd (one.1 c d other.0 more) ]
]

pub one_is_named : OneIsNamedFirst
one_is_named plan formed f g named_f named_g = by_kinds (first_fault plan f named_f.0 named_f.2) (first_fault plan g named_g.0 named_g.2)
  where
    by_kinds : IsFirstFault plan f ⊎ IsOverfullHop plan f → IsFirstFault plan g ⊎ IsOverfullHop plan g → f ≡ g
    by_kinds (inl a) (inl b) = elim (one_is_before plan formed a.site b.site a.cell b.cell a.entry b.entry) [
      | inl before ↦ absurd (shows_one plan f a (b.first a.site a.cell a.entry before))
      | inr rest ↦ elim rest [
        | inl same ↦
            let P : Text → Type 0 = λ s. IsOnWalk s a.cell f in
            let Q : OwnedCell → Type 0 = λ c. IsOnWalk b.site c f in
            one_is_named_there plan b.site b.cell f g (subst Q same.1 (subst P same.0 a.on)) b.on named_f.0 named_f.1 named_g.0 named_g.1
        | inr behind ↦ absurd (shows_one plan g b (a.first b.site b.cell b.entry behind))
      ]
    ]
    by_kinds (inl a) (inr b) = absurd (shows_one plan f a (b.harmless a.site a.cell a.entry))
    by_kinds (inr a) (inl b) = absurd (shows_one plan g b (a.harmless b.site b.cell b.entry))
    by_kinds (inr a) (inr b) =
        let same = same_hop plan a.sender a.receiver b.sender b.receiver a.first b.first in
        let make : Text → Text → Fault = λ s r. TooManyContexts s r in
        a.is ∙ (ap (λ (s : Text). make s a.receiver) same.0 ∙ (ap (λ (r : Text). make b.sender r) same.1 ∙ sym b.is))
