-- A node's other associations, counted in both worlds: those with others, and those with ours.
use Rattle.std.proofs.Common.{◌≡◌, ◌≢◌, ℕ, ◌≤◌, Bool, true, false, List, [], ◌∷◌, Option, None, Some}
use Rattle.std.proofs.Common.{Contains, get_or, length, refl, sym, ap, subst, ◌∙◌, inl, inr, arith}
use Rattle.std.specs.Prelude.{AllPairs}
use Rattle.std.specs.Ordering.{nat_cmp}
use Rattle.std.specs.declared.cmp.Ordering.TheVariants.{Equal, Less}
use Rattle.std.specs.List.{AllByRecursion}
use Rattle.std.specs.Option.{option_map_or}
use Rattle.std.proofs.lemmas.Bool.{false≢true}
use Rattle.std.proofs.lemmas.Cmp.{tied_itself}
use Rattle.std.proofs.lemmas.List.Kept.{AllPairs-cons}
use Rattle.std.proofs.lemmas.List.Elements.{All-from_recursion}
use Rattle.std.proofs.lemmas.Option.{same_Some}
use Rattle.dr_base.specs.Texts.{Text}
use Rattle.dr_plan_model.specs.Networks.{Network}
use Rattle.dr_plan_model.proofs.Gathered.{Contains-cons_cases, Contains-here, Contains-there, nothing_in_nil}
use Rattle.dr_plan_sound.specs.declared.certificate.Certificate.{Certificate}
use Rattle.dr_plan_sound.proofs.Pigeons.{no_more_than}
use Rattle.dr_nego.proofs.Concluded.{head_pairs, tail_pairs}
use Rattle.dr_ulstate.specs.declared.table.State.{State}
use Rattle.dr_ulstate.specs.declared.table.State.TheVariants.{Sta1, Sta2, Sta6, Sta13}
use Rattle.dr_ulstate.specs.Standing.{Standing}
use Rattle.dr_ulstate.specs.Phases.{state_of}
use Rattle.dr_session.specs.declared.ends.Core.{Core}
use Rattle.dr_world_model.specs.Worlds.{World, Link, Stage, Asking, Answering, Rejecting, Open, Storing, Replying, Gone}
use Rattle.dr_world_model.specs.Steps.{IsLink, others, others_of}
use Rattle.dr_world_model.specs.Among.{Ours}
use Rattle.dr_world_model.specs.Pinning.{IsAccepted, answering, opened, replying}
use Rattle.dr_world_model.proofs.Counted.{others_are_counted}
use Rattle.dr_world_model.proofs.Lookups.{numbers}
use Rattle.dr_world_tie.specs.Channels.{IsOff, IsReceiver, LiveTerminal}
use Rattle.dr_world_tie.specs.ByteWorlds.{Side, is_open}
use Rattle.dr_world_tie.specs.Foreign.{ShowsForeign, StandsAt}
use Rattle.dr_world_tie.specs.ForeignWorlds.{ShowsBy}
use Rattle.dr_world_tie.specs.MixedWorlds.{CountsOthers, IsOpenAt, MixedWorld, ShowsMixed}
use Rattle.dr_world_tie.proofs.MixedUpdates.{PlaceOf, place_of}
use Rattle.dr_world_tie.proofs.Others.{accepted_there, as_pairs, open_there, state_is}

-- ---- lists that are matched one to one

each_of : (P : ℕ → Type 0) (xs : List ℕ) → ((z : ℕ) → Contains xs z → P z) → AllByRecursion P xs
each_of P [] f = tt
each_of P (x ∷ xs) f =
    (f x (Contains-here x xs), each_of P xs (λ z h. f z (Contains-there x xs z h)))

record Images (R : ℕ → ℕ → Type 0) (xs ys : List ℕ) : Type 0 where
  list : List ℕ
  long : length list ≡ length xs
  distinct : AllPairs (λ a b. a ≢ b) list
  inside : AllByRecursion (Contains ys) list
  back : (z : ℕ) → Contains list z → (x : ℕ) × Contains xs x × R x z

images : (R : ℕ → ℕ → Type 0) → ((x y z : ℕ) → R x z → R y z → x ≡ y)
    → (xs ys : List ℕ)
    → AllPairs (λ a b. a ≢ b) xs
    → ((x : ℕ) → Contains xs x → (y : ℕ) × Contains ys y × R x y)
    → Images R xs ys
images R one [] ys apart each = record {
  list = [];
  long = refl;
  distinct = λ i j d before inside. absurd (omega (arith, inside));
  inside = tt;
  back = λ z h. absurd (nothing_in_nil z h);
}
images R one (x ∷ xs) ys apart each =
    let head = each x (Contains-here x xs) in
    let rest = images R one xs ys (tail_pairs (λ a b. a ≢ b) x xs apart)
    (λ y h. each y (Contains-there x xs y h)) in
    record {
      list = head.0 ∷ rest.list;
      long = (let e : length rest.list ≡ length xs = rest.long in omega (arith, e));
      distinct = AllPairs-cons (λ a b. a ≢ b) head.0 rest.list
          (All-from_recursion (λ (z : ℕ). head.0 ≢ z) rest.list
          (each_of (λ z. head.0 ≢ z) rest.list (λ z h same.
          (let b = rest.back z h in
          head_pairs (λ a c. a ≢ c) x xs apart b.0 b.1
          (one x b.0 z (subst (λ (m : ℕ). R x m) same head.2) b.2)))))
          rest.distinct;
      inside = (head.1, rest.inside);
      back = λ z h. elim (Contains-cons_cases head.0 rest.list z h) [
        | inl same ↦ (x, Contains-here x xs, subst (λ (m : ℕ). R x m) same head.2)
        | inr behind ↦
            (let b = rest.back z behind in (b.0, Contains-there x xs b.0 b.1, b.2))
      ];
    }

-- as many at most, where each is matched by another one
no_more : (R : ℕ → ℕ → Type 0) → ((x y z : ℕ) → R x z → R y z → x ≡ y)
    → (xs ys : List ℕ)
    → AllPairs (λ a b. a ≢ b) xs
    → ((x : ℕ) → Contains xs x → (y : ℕ) × Contains ys y × R x y)
    → length xs ≤ length ys
no_more R one xs ys apart each =
    let m = images R one xs ys apart each in
    let long : length m.list ≡ length xs = m.long in
    let few : length m.list ≤ length ys = no_more_than ys m.list m.distinct
    (All-from_recursion (Contains ys) m.list m.inside) in
    omega (arith, long, few)

not_below : (n : ℕ) → nat_cmp n n ≡ Less → ⊥
not_below n h = (let e : Less ≡ Equal = sym h ∙ tied_itself numbers.total n in cc e)

different : (xs : List ℕ) → AllPairs (λ p q. nat_cmp p q ≡ Less) xs → AllPairs (λ a b. a ≢ b) xs
different xs rising i j d before inside same = not_below (get_or xs j d)
    (subst (λ (m : ℕ). nat_cmp m (get_or xs j d) ≡ Less) same (rising i j d before inside))

-- ---- an acceptor alone

not_open : (c : Core) (state : State) → state_of c.phase ≡ state → is_open state ≡ false
    → is_open (state_of c.phase) ≡ true
    → ⊥
not_open c state e f h = false≢true (sym f ∙ (sym (ap is_open e) ∙ h))

off_not_open : (c : Core) → IsOff c false → is_open (state_of c.phase) ≡ true → ⊥
off_not_open c (free, inl none) h = not_open c Sta1
    (ap (λ (o : Option Standing). option_map_or (λ (b : Standing). b.state) o Sta1) none) refl h
off_not_open c (free, inr (inl (side, at, awaits, none))) h = false≢true side
off_not_open c (free, inr (inr at)) h = not_open c Sta13 (state_is c false Sta13 at) refl h

-- an open one is of an accepted association
accepted_alone : (plan : Network) (name caller : Text) (on : Bool) (stage : Stage) (c : Core)
    → StandsAt plan name on stage caller c
    → is_open (state_of c.phase) ≡ true
    → (on ≡ true) × IsAccepted stage
accepted_alone plan name caller false stage c h is = absurd (off_not_open c h is)
accepted_alone plan name caller true (Answering accepted) c h is = (refl, answering accepted)
accepted_alone plan name caller true (Open accepted) c h is = (refl, opened accepted)
accepted_alone plan name caller true (Replying accepted item status) c h is =
    (refl, replying accepted item status)
accepted_alone plan name caller true Asking c h is = absurd h
accepted_alone plan name caller true (Storing accepted item) c h is = absurd h
accepted_alone plan name caller true Rejecting c h is = absurd h
accepted_alone plan name caller true Gone c h is = absurd h

open_alone : (plan : Network) (name caller : Text) (stage : Stage) (c : Core)
    → StandsAt plan name true stage caller c
    → is_open (state_of c.phase) ≡ true
open_alone plan name caller (Answering accepted) c h = ap is_open (state_is c false Sta6 h.1.0.0)
open_alone plan name caller (Open accepted) c h = ap is_open (state_is c false Sta6 h.1.0.0)
open_alone plan name caller (Replying accepted item status) c h =
    ap is_open (state_is c false Sta6 h.1.0.0)
open_alone plan name caller Asking c h = absurd h
open_alone plan name caller (Storing accepted item) c h = absurd h
open_alone plan name caller Rejecting c h = absurd h
open_alone plan name caller Gone c h = absurd h

-- ---- both counts

module _ (ours : Ours) (plan : Network) (certificate : Certificate) (b : MixedWorld) (w : World)
    (shows : ShowsMixed ours plan certificate b w) (name : Text) (its : ours name ≡ true)
    (i n : ℕ) (at : shows.numbers i ≡ Some n) where
  -- the place of that number is the link
  abbrev Matches : ℕ → ℕ → Type 0
  Matches j m = shows.numbers j ≡ Some m

  abbrev IsCounted : ℕ → Type 0
  IsCounted m =
      (m ≢ n)
      × ((link : Link)
      × IsLink w m link
      × (link.receiver ≡ name)
      × (link.receiver_connected ≡ true)
      × IsAccepted link.stage)

  other_link : (j m : ℕ) → j ≢ i → Matches j m → m ≢ n
  other_link j m away there same = away (shows.apart j i n
      (there ∙ ap (λ (q : ℕ). Some q) same) at)

  counts_alone : (j : ℕ) (node : Text) (k : LiveTerminal) (o : Option ℕ) → shows.numbers j ≡ o
      → j ≢ i
      → node ≡ name
      → is_open (state_of k.core.phase) ≡ true
      → ShowsForeign ours plan certificate node w o k
      → (m : ℕ) × IsCounted m × Matches j m
  counts_alone j node k None e away named is (side, inl waits) = absurd
      (not_open k.core Sta2 (state_is k.core false Sta2 waits.0) refl is)
  counts_alone j node k None e away named is (side, inr off) =
      absurd (off_not_open k.core off is)
  counts_alone j node k (Some m) e away named is (side, (link, here, call)) =
      let a = accepted_alone plan node link.caller link.receiver_connected link.stage k.core
      call.stands is in (
        m,
        (other_link j m away e, (link, here, call.receiver ∙ named, a.0, a.1)),
        e,
      )

  counts : (j : ℕ) → j ≢ i → IsOpenAt b name j → (m : ℕ) × IsCounted m × Matches j m
  counts j away (inl (e, there, side, named, is)) = counts_alone j e.node e.terminal
      (shows.numbers j) refl away named is
      (subst
      (λ (z : Side). ShowsBy ours plan certificate w (shows.numbers j) z e.node e.terminal) side
      (shows.ends j e there))
  counts j away (inr (k, there, named, is)) =
      let p = shows.pairs j k there in
      let a = accepted_there p.link.receiver_connected p.link.stage p.link.caller k.receiver.core
      p.shows.receiver is in (
        p.number,
        (
          other_link j p.number away p.at_is,
          (p.link, p.here, sym p.shows.to.1 ∙ named, a.0, a.1),
        ),
        p.at_is,
      )

  counted_of : (j : ℕ) (link : Link)
      → link.receiver ≡ name
      → link.receiver_connected ≡ true
      → IsAccepted link.stage
      → PlaceOf ours plan certificate b j link
      → IsOpenAt b name j
  counted_of j link named on accepted (inl (e, there, inl (side, call))) = inl (
    e,
    there,
    side,
    sym call.receiver ∙ named,
    open_alone plan e.node link.caller link.stage e.terminal.core
        (subst
        (λ (c : Bool). StandsAt plan e.node c link.stage link.caller e.terminal.core) on
        call.stands),
  )
  counted_of j link named on accepted (inl (e, there, inr (side, call))) =
      absurd (false≢true (sym call.receiver ∙ (ap ours named ∙ its)))
  counted_of j link named on accepted (inr (k, there, pair)) = inr (
    k,
    there,
    pair.2.to.1 ∙ named,
    open_there link.stage link.caller k.receiver.core
        (subst (λ (c : Bool). IsReceiver c link.stage link.caller k.receiver.core) on
        pair.2.receiver)
        accepted,
  )

  counted : (m : ℕ) → IsCounted m → (j : ℕ) × ((j ≢ i) × IsOpenAt b name j) × Matches j m
  counted m (away, (link, here, named, on, accepted)) =
      let a = shows.covered m link here (inr (ap ours named ∙ its)) in (
        a.0,
        (
          λ same. away (same_Some m n
              (sym (subst (λ (q : ℕ). Matches q m) same a.1) ∙ at)),
          counted_of a.0 link named on accepted
              (place_of ours plan certificate b w shows a.0 m link a.1 here),
        ),
        a.1,
      )

  pub counts_agree : (count : ℕ) → CountsOthers b i name count → count ≡ others w n name
  counts_agree count (xs, sorted, members, is) =
      let model = others_are_counted w n name in
      let ys : List ℕ = others_of w n name in
      let few : length xs ≤ length ys = no_more Matches
      (λ j l m f g. shows.apart j l m f g) xs ys (different xs (as_pairs xs sorted))
      (λ j h.
      (let among = (members j).0 h in
      let c = counts j among.0 among.1 in
      (c.0, (model.1 c.0).1 c.1, c.2))) in
      let many : length ys ≤ length xs = no_more (λ m j. Matches j m)
      (λ m l j f g. same_Some m l (sym f ∙ g)) ys xs (different ys (as_pairs ys model.0))
      (λ m h.
      (let c = counted m ((model.1 m).0 h) in
      (c.0, (members c.0).1 c.1, c.2))) in
      let same : length xs ≡ length ys = omega (arith, few, many) in
      is ∙ same
