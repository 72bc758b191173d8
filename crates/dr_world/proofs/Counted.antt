-- The links that a node has accepted and not left, in both worlds.
use Rattle.std.proofs.Common.{◌≡◌, ◌≢◌, ◌==◌, ◌&&◌, not, T, ℕ, Bool, true, false, cond, List, [], ◌∷◌, filter, map as mapped, Option, None, Some, refl, sym, ap, subst, ◌∙◌, inl, inr}
use Rattle.std.specs.Prelude.{Contains}
use Rattle.std.specs.declared.cmp.Ordering.{Ordering}
use Rattle.std.specs.declared.cmp.Ordering.TheVariants.{Less, Equal, Greater}
use Rattle.std.specs.Ordering.{nat_cmp, eq_by_cmp, is_lt}
use Rattle.std.specs.Cmp.{unsigned_Decides}
use Rattle.std.specs.FinMap as map
use Rattle.std.specs.FinMap.{find, is_sorted}
use Rattle.std.specs.FinMap.Entries.{below_all}
use Rattle.std.proofs.lemmas.List.{length-map}
use Rattle.dr_base.specs.Texts.{Text}
use Rattle.dr_plan_model.proofs.Gathered.{Contains-cons_cases, Contains-here, Contains-there, nothing_in_nil}
use Rattle.dr_ulstate.specs.declared.table.State.{State}
use Rattle.dr_ulstate.specs.declared.table.State.TheVariants.{Sta1, Sta2, Sta3, Sta4, Sta5, Sta6, Sta7, Sta8, Sta9, Sta10, Sta11, Sta12, Sta13}
use Rattle.dr_ulstate.specs.Phases.{state_of}
use Rattle.dr_ledger.proofs.Maps.{same_or_not, ties_itself}
use Rattle.dr_node.specs.declared.links.LinkSide.{LinkSide}
use Rattle.dr_node.specs.Sides.{is_other, is_standing, is_taken}
use Rattle.dr_world_model.proofs.Lookups.{numbers}
use Rattle.dr_world_model.proofs.Picking.{sorted, first_of_two, both, both_true}
use Rattle.dr_world_tie.specs.Channels.{Channel}
use Rattle.dr_world_tie.specs.ByteWorlds.{ByteWorld, is_open, receiver_of}
use Rattle.dr_world.specs.declared.wires.Wires.{Wires}
use Rattle.dr_world.specs.Shows.{Contents, Seat, Seats, ShowsBytes, HasSide, IsLinked, LinkedAt, IsOfLink, side_of}
use Rattle.dr_world.specs.Laws.{OtherLinksAreCounted}

-- ---- states

standing_open : (s : State) → is_standing s ≡ is_open s
standing_open Sta1 = refl
standing_open Sta2 = refl
standing_open Sta3 = refl
standing_open Sta4 = refl
standing_open Sta5 = refl
standing_open Sta6 = refl
standing_open Sta7 = refl
standing_open Sta8 = refl
standing_open Sta9 = refl
standing_open Sta10 = refl
standing_open Sta11 = refl
standing_open Sta12 = refl
standing_open Sta13 = refl

-- ---- entries that pass a test

abbrev Entries : Type 0
Entries = List (ℕ × LinkSide)

abbrev numbers_of : Entries → List ℕ
numbers_of es = mapped (λ (e : ℕ × LinkSide). e.0) es

two : (a b : Bool) → T a → T b → T (a && b)
two true b h k = k
two false b h k = absurd h

one : (a b : Bool) → T (a && b) → T a
one true b h = tt
one false b h = absurd h

other : (a b : Bool) → T (a && b) → T b
other true b h = h
other false b h = absurd h

module _ (p : ℕ × LinkSide → Bool) where
  below_filter : (x : ℕ) (es : Entries) → T (below_all nat_cmp x es) → T (below_all nat_cmp x (filter p es))
  below_filter x [] h = h
  below_filter x (e ∷ es) h = by_test (p e) (below_filter x es (other _ _ h))
    where
      by_test : (b : Bool) → T (below_all nat_cmp x (filter p es)) → T (below_all nat_cmp x (cond b (e ∷ filter p es) (filter p es)))
      by_test true later = two _ _ (one _ _ h) later
      by_test false later = later

  sorted_filter : (es : Entries) → T (is_sorted nat_cmp es) → T (is_sorted nat_cmp (filter p es))
  sorted_filter [] h = h
  sorted_filter (e ∷ es) h = by_test (p e) (sorted_filter es (other _ _ h))
    where
      by_test : (b : Bool) → T (is_sorted nat_cmp (filter p es)) → T (is_sorted nat_cmp (cond b (e ∷ filter p es) (filter p es)))
      by_test true later = two _ _ (below_filter e.0 es (one _ _ h)) later
      by_test false later = later

  -- what comes first has another number than what comes later
  not_below : (x : ℕ) (es : Entries) → T (below_all nat_cmp x es) → find nat_cmp x es ≡ None
  not_below x [] h = refl
  not_below x (e ∷ es) h = ap (λ (b : Bool). cond b (Some e.1) (find nat_cmp x es)) (apart (nat_cmp x e.0) (one _ _ h)) ∙ not_below x es (other _ _ h)
    where
      apart : (r : Ordering) → T (is_lt r) → Rattle.std.specs.Ordering.is_eq r ≡ false
      apart Less t = refl
      apart Equal t = absurd t
      apart Greater t = absurd t

  Found : ℕ → Entries → Type 0
  Found q es = (side : LinkSide) × (find nat_cmp q es ≡ Some side) × (p (q, side) ≡ true)

  later : (q : ℕ) (e : ℕ × LinkSide) (es : Entries) → T (below_all nat_cmp e.0 es) → (side : LinkSide) × (find nat_cmp q es ≡ Some side) × (p (q, side) ≡ true)
      → (side : LinkSide) × (find nat_cmp q (e ∷ es) ≡ Some side) × (p (q, side) ≡ true)
  later q e es below h = elim (same_or_not numbers q e.0) [
    | inl same ↦ absurd (let n : find nat_cmp q es ≡ None = subst (λ (k : ℕ). find nat_cmp k es ≡ None) (sym same) (not_below e.0 es below) in let x : None ≡ Some h.0 = sym n ∙ h.1 in let y : ⊥ = cc in y)
    | inr apart ↦ (h.0, ap (λ (b : Bool). cond b (Some e.1) (find nat_cmp q es)) apart ∙ h.1, h.2)
  ]

  found : (q : ℕ) (es : Entries) → T (is_sorted nat_cmp es) → Contains (numbers_of (filter p es)) q → (side : LinkSide) × (find nat_cmp q es ≡ Some side) × (p (q, side) ≡ true)
  found q [] s h = absurd (nothing_in_nil q h)
  found q (e ∷ es) s h = by_test (p e) refl (found q es (other _ _ s)) h
    where
      by_test : (b : Bool) → p e ≡ b → (Contains (numbers_of (filter p es)) q → (side : LinkSide) × (find nat_cmp q es ≡ Some side) × (p (q, side) ≡ true)) → Contains (numbers_of (cond b (e ∷ filter p es) (filter p es))) q
          → (side : LinkSide) × (find nat_cmp q (e ∷ es) ≡ Some side) × (p (q, side) ≡ true)
      by_test false is go c = later q e es (one _ _ s) (go c)
      by_test true is go c = elim (Contains-cons_cases e.0 (numbers_of (filter p es)) q c) [
        | inl same ↦ (e.1, ap (λ (b : Bool). cond b (Some e.1) (find nat_cmp q es)) (ap (eq_by_cmp nat_cmp q) same ∙ ties_itself numbers q), subst (λ (n : ℕ). p (n, e.1) ≡ true) same is)
        | inr more ↦ later q e es (one _ _ s) (go more)
      ]

  listed : (q : ℕ) (es : Entries) (side : LinkSide) → find nat_cmp q es ≡ Some side → p (q, side) ≡ true → Contains (numbers_of (filter p es)) q
  listed q [] side f t = absurd (let x : ⊥ = cc in x)
  listed q (e ∷ es) side f t = elim (same_or_not numbers q e.0) [
    | inl same ↦
        let g : Some e.1 ≡ Some side = sym (ap (λ (b : Bool). cond b (Some e.1) (find nat_cmp q es)) (ap (eq_by_cmp nat_cmp q) (sym same) ∙ ties_itself numbers q)) ∙ f in
        let one_side : e.1 ≡ side = cc in
        let passes : p e ≡ true = ap (λ (n : ℕ). p (n, e.1)) (sym same) ∙ (ap (λ (x : LinkSide). p (q, x)) one_side ∙ t) in
        subst (λ (b : Bool). Contains (numbers_of (cond b (e ∷ filter p es) (filter p es))) q) (sym passes)
        (subst (λ (n : ℕ). Contains (numbers_of (e ∷ filter p es)) n) (sym same) (Contains-here e.0 (numbers_of (filter p es))))
    | inr apart ↦
        let g : find nat_cmp q es ≡ Some side = sym (ap (λ (b : Bool). cond b (Some e.1) (find nat_cmp q es)) apart) ∙ f in
        by_test (p e) (listed q es side g t)
  ]
    where
      by_test : (b : Bool) → Contains (numbers_of (filter p es)) q → Contains (numbers_of (cond b (e ∷ filter p es) (filter p es))) q
      by_test true h = Contains-there e.0 (numbers_of (filter p es)) q h
      by_test false h = h

-- ---- both worlds

not_false : (a : Bool) → not a ≡ true → a ≡ false
not_false true h = sym h
not_false false h = refl

clash : (a : Bool) → a ≡ true → a ≡ false → ⊥
clash a h k = let e : true ≡ false = sym h ∙ k in let x : ⊥ = cc in x

-- what the world of bytes says of a number
abbrev IsOpenThere : ByteWorld → ℕ → Text → ℕ → Type 0
IsOpenThere b link name number = (number ≢ link) × ((k : Channel) × (map.get b.links number ≡ Some k) × (receiver_of k ≡ name) × (is_open (state_of k.receiver.core.phase) ≡ true))

-- the link of some wires
pub linked_there : (c : Contents) (b : ByteWorld) → ShowsBytes c b → (number : ℕ) (w : Wires) → c.wires number ≡ Some w → (k : Channel) × (map.get b.links number ≡ Some k) × IsLinked c.seats number w k
linked_there c b s number w is = by_get (map.get b.links number) refl (subst (λ (o : Option Wires). LinkedAt c.seats number o (map.get b.links number)) is (s.links number))
  where
    by_get : (o : Option Channel) → map.get b.links number ≡ o → LinkedAt c.seats number (Some w) (map.get b.links number) → (k : Channel) × (map.get b.links number ≡ Some k) × IsLinked c.seats number w k
    by_get (Some k) e h = (k, e, subst (λ (o : Option Channel). LinkedAt c.seats number (Some w) o) e h)
    by_get None e h = absurd (subst (λ (o : Option Channel). LinkedAt c.seats number (Some w) o) e h)

-- the wires of a link
pub wired_there : (c : Contents) (b : ByteWorld) → ShowsBytes c b → (number : ℕ) (k : Channel) → map.get b.links number ≡ Some k → (w : Wires) × (c.wires number ≡ Some w) × IsLinked c.seats number w k
wired_there c b s number k is = by_get (c.wires number) refl (subst (λ (o : Option Channel). LinkedAt c.seats number (c.wires number) o) is (s.links number))
  where
    by_get : (o : Option Wires) → c.wires number ≡ o → LinkedAt c.seats number (c.wires number) (Some k) → (w : Wires) × (c.wires number ≡ Some w) × IsLinked c.seats number w k
    by_get (Some w) e h = (w, e, subst (λ (o : Option Wires). LinkedAt c.seats number o (Some k)) e h)
    by_get None e h = absurd (subst (λ (o : Option Wires). LinkedAt c.seats number o (Some k)) e h)

-- a node has one side of a number at most
pub one_side : (seats : Seats) (name : Text) (number : ℕ) (x y : LinkSide) → HasSide seats name number x → HasSide seats name number y → x ≡ y
one_side seats name number x y (s, e, f) (t, g, h) =
    let same : Some s ≡ Some t = sym e ∙ g in
    let seat : s ≡ t = cc in
    let z : Some x ≡ Some y = sym f ∙ (ap (λ (r : Seat). map.get r.sides number) seat ∙ h) in
    cc

module _ (c : Contents) (b : ByteWorld) (s : ShowsBytes c b) (link : ℕ) (name : Text) (seat : Seat) (is : c.seats name ≡ Some seat) where
  goes : (number : ℕ) (side : LinkSide) → map.get seat.sides number ≡ Some side → is_other link (number, side) ≡ true → (number ≢ link) × ((k : Channel) × (map.get b.links number ≡ Some k) × (receiver_of k ≡ name) × (is_open (state_of k.receiver.core.phase) ≡ true))
  goes number side has t =
      let taken : is_taken side ≡ true = both (not (number == link)) (is_taken side) t in
      let apart : not (number == link) ≡ true = first_of_two (not (number == link)) (is_taken side) t in (
        λ same. clash (number == link) ((unsigned_Decides number link).1 same) (not_false (number == link) apart),
        (
            elim (s.sides name number side (seat, is, has)) [
              | inr free ↦ absurd (clash (is_taken side) taken free)
              | inl of_link ↦ by_wires of_link taken
            ]
            ),
      )
    where
      by_wires : IsOfLink c.wires name number → is_taken side ≡ true → (k : Channel) × (map.get b.links number ≡ Some k) × (receiver_of k ≡ name) × (is_open (state_of k.receiver.core.phase) ≡ true)
      by_wires (w, wired, which) taken =
          let l = linked_there c b s number w wired in
          elim which [
            | inl at_caller ↦ absurd (
                let same : side ≡ side_of false l.0.caller = one_side c.seats name number side (side_of false l.0.caller) (seat, is, has) (subst (λ (n : Text). HasSide c.seats n number (side_of false l.0.caller)) (sym at_caller) l.2.at_caller) in
                clash (is_taken side) taken (ap is_taken same))
            | inr at_receiver ↦
                let same : side ≡ side_of true l.0.receiver = one_side c.seats name number side (side_of true l.0.receiver) (seat, is, has) (subst (λ (n : Text). HasSide c.seats n number (side_of true l.0.receiver)) (sym at_receiver) l.2.at_receiver) in
                (l.0, l.1, l.2.receiver ∙ sym at_receiver, sym (standing_open (state_of l.0.receiver.core.phase)) ∙ (sym (ap is_taken same) ∙ taken))
          ]

  comes : (number : ℕ) → (number ≢ link) × ((k : Channel) × (map.get b.links number ≡ Some k) × (receiver_of k ≡ name) × (is_open (state_of k.receiver.core.phase) ≡ true))
      → (side : LinkSide) × (map.get seat.sides number ≡ Some side) × (is_other link (number, side) ≡ true)
  comes number (apart, (k, has, at_name, open_there)) =
      let w = wired_there c b s number k has in
      let there : HasSide c.seats name number (side_of true k.receiver) = subst (λ (n : Text). HasSide c.seats n number (side_of true k.receiver)) (sym w.2.receiver ∙ at_name) w.2.at_receiver in
      let seat_is : Some there.0 ≡ Some seat = sym there.1 ∙ is in
      let same : there.0 ≡ seat = cc in (
        side_of true k.receiver,
        subst (λ (x : Seat). map.get x.sides number ≡ Some (side_of true k.receiver)) same there.2,
        both_true (not (number == link)) (is_taken (side_of true k.receiver)) (not_so (number == link) (λ t. apart ((unsigned_Decides number link).0 t))) (standing_open (state_of k.receiver.core.phase) ∙ open_there),
      )
    where
      not_so : (x : Bool) → (x ≡ true → ⊥) → not x ≡ true
      not_so true h = absurd (h refl)
      not_so false h = refl

pub others_are_counted : OtherLinksAreCounted
others_are_counted c b s link name seat is =
    let es = map.entries seat.sides in
    let rising = map.entries_sorted seat.sides in (
      numbers_of (filter (is_other link) es),
      (
        sorted (filter (is_other link) es) (sorted_filter (is_other link) es rising),
        λ number. (
          λ h.
              let f = found (is_other link) number es rising h in
              goes c b s link name seat is number f.0 (map.get-entries seat.sides number ∙ f.1) f.2,
          λ h.
              let f = comes c b s link name seat is number h in
              listed (is_other link) number es f.0 (sym (map.get-entries seat.sides number) ∙ f.1) f.2,
        ),
      ),
      sym (length-map (filter (is_other link) es) (λ (e : ℕ × LinkSide). e.0)),
    )
