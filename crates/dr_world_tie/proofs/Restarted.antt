-- A restart of a node of a world of bytes.
use Rattle.std.proofs.Common.{◌≡◌, ◌≢◌, ℕ, Bool, true, false, List, [], ◌∷◌, Option, Some, None, Contains, refl, sym, ap, subst, ◌∙◌, inl, inr}
use Rattle.std.specs.Prelude.{AllPairs, filter, cond, not, ◌&&◌, ◌||◌}
use Rattle.std.specs.declared.cmp.Ordering.TheVariants.{Less, Equal}
use Rattle.std.specs.Ordering.{nat_cmp, eq_by_cmp}
use Rattle.std.specs.FinMap as map_of
use Rattle.std.proofs.lemmas.Bool.{false≢true, and_parts, and_from}
use Rattle.std.proofs.lemmas.List.Kept.{AllPairs-filter}
use Rattle.std.proofs.lemmas.Cmp.{tied_itself}
use Rattle.std.proofs.lemmas.Map.Views.{tells_apart}
use Rattle.dr_base.specs.Texts.{Text}
use Rattle.dr_plan_model.specs.Networks.{Network}
use Rattle.dr_plan_model.proofs.Gathered.{Contains-here, Contains-there}
use Rattle.dr_plan_sound.specs.declared.certificate.Certificate.{Certificate}
use Rattle.dr_cert_hops.proofs.Rows.{same_sorted, filter_has}
use Rattle.dr_nego.proofs.Concluded.{tail_pairs, head_pairs}
use Rattle.dr_ledger.proofs.Maps.{get_new, same_or_not, ties_itself, texts}
use Rattle.dr_world_model.proofs.Lookups.{numbers}
use Rattle.dr_world_model.proofs.Pinned.{restarts_in_order}
use Rattle.dr_world_model.proofs.Restarting.{callers_are_those_who_call}
use Rattle.dr_world_model.specs.Worlds.{World, Link, same_text, with_links, without_caller}
use Rattle.dr_world_model.specs.Calls.{Answer}
use Rattle.dr_world_model.specs.Steps.{IsLink, Leaves, LeaveAll, callers_of, calls, is_of, links_without}
use Rattle.dr_world_model.specs.Steps as model
use Rattle.dr_world_tie.specs.Desks.{Desk, LedgerStep}
use Rattle.dr_world_tie.specs.Channels.{Channel, ShowsLink}
use Rattle.dr_world_tie.specs.Ties.{IsDeskOf, OnlyHere, with_desk}
use Rattle.dr_world_tie.specs.Closing.{IsEnded}
use Rattle.dr_world_tie.specs.ByteWorlds.{ByteWorld, FarEnds, FarEndsOf, AllFarEnd, AreLinksOf, Restarts, is_there, caller_of, receiver_of}
use Rattle.dr_world_tie.specs.Shown.{ShowsWorld, ShowsAt}
use Rattle.dr_world_tie.proofs.Others.{shown_link, shown_channel, as_pairs}
use Rattle.dr_world_tie.proofs.Restarting.{desks_after}
use Rattle.dr_world_tie.proofs.Closing.{caller_ends, receiver_ends, same_world_link}

abbrev AreDesks : World → (Text → Desk) → Type 0
AreDesks w desks = (name : Text) → IsDeskOf w name (desks name)

unchanged : (w : World) (number : ℕ) (name : Text) → OnlyHere w w number name
unchanged w number name = record { books = λ other apart. refl; links = λ other apart. refl; armed = λ other apart. refl; rest = (refl, refl, refl) }

not_below_itself : (n : ℕ) → nat_cmp n n ≡ Less → ⊥
not_below_itself n h = (let e : Less ≡ Equal = sym h ∙ tied_itself numbers.total n in cc e)

module _ (plan : Network) (certificate : Certificate) (b : ByteWorld) (node : Text) (start : World) (s : ShowsWorld plan certificate b start) where
  -- the links over which the node is called, their callers on
  abbrev is_called : ℕ → Bool
  is_called number = calls node (map_of.get start.links number)

  record Went (w : World) (all : List ℕ) (desks : Text → Desk) : Type 0 where
    mid : World
    answers : List (Option Answer)
    leave : LeaveAll w (filter is_called all) answers mid
    are : AreDesks mid desks
    others : (other : ℕ) → (Contains all other → ⊥) → map_of.get mid.links other ≡ map_of.get w.links other
    of : (other : ℕ) → is_of node (map_of.get mid.links other) ≡ is_of node (map_of.get w.links other)
    rest : (mid.time ≡ w.time) × (mid.stood ≡ w.stood) × (mid.opened ≡ w.opened)

  abbrev IsKept : World → List ℕ → Type 0
  IsKept w all = (number : ℕ) → Contains all number → map_of.get w.links number ≡ map_of.get start.links number

  module _ (number : ℕ) (more : List ℕ) (rising : AllPairs (λ p q. nat_cmp p q ≡ Less) (number ∷ more)) (w : World) (desks new : Text → Desk) (k : Channel) (has : map_of.get b.links number ≡ Some k)
      (all : AreDesks w desks) (time : w.time ≡ b.time) (kept : IsKept w (number ∷ more)) where
    abbrev l : (link : Link) × IsLink start number link × ShowsLink plan certificate k link
    l = shown_link plan certificate b start number k s has

    abbrev link : Link
    link = l.0

    here : IsLink w number link
    here = kept number (Contains-here number more) ∙ l.1

    abbrev shows : ShowsLink plan certificate k link
    shows = l.2

    later_apart : (other : ℕ) → Contains more other → other ≢ number
    later_apart other among e = not_below_itself number (subst (λ (n : ℕ). nat_cmp number n ≡ Less) e (head_pairs (λ p q. nat_cmp p q ≡ Less) number more rising other among))

    called_is : (called : Bool) → same_text (receiver_of k) node ≡ called → (on : Bool) → link.caller_connected ≡ on → is_called number ≡ (called && on)
    called_is called e on f =
        ap (λ (o : Option Link). calls node o) l.1
        ∙ (ap (λ (t : Text). same_text t node && link.caller_connected) (sym shows.to.1) ∙ (ap (λ (z : Bool). z && link.caller_connected) e ∙ ap (λ (z : Bool). called && z) f))

    abbrev Rec : (Text → Desk) → Type 0
    Rec mid = (v : World) → AreDesks v mid → v.time ≡ b.time → IsKept v more → Went v more new

    -- the caller of the node leaves
    caller_far : same_text (receiver_of k) node ≡ true → (mid : Text → Desk) → FarEnds plan b.time true k desks mid → Rec mid → Went w (number ∷ more) new
    caller_far called mid (at, x, t, now, ended, is) rec =
        let from : caller_of k ≡ link.caller = shows.from.1 in
        let ended1 : IsEnded (LedgerStep plan link.caller) k.caller.core at (desks link.caller) x t = subst (λ (n : Text). IsEnded (LedgerStep plan n) k.caller.core at (desks n) x t) from ended in
        let e = caller_ends plan certificate w number link k (desks link.caller) (desks link.receiver) here (all link.caller) (all link.receiver) shows at (now ∙ sym time) x t ended1 in
        let next_desks : AreDesks e.mid (with_desk desks link.caller t) = desks_after w e.mid number link.caller desks t all e.desk_is e.only in
        let named : AreDesks e.mid (with_desk desks (caller_of k) t) = subst (λ (n : Text). AreDesks e.mid (with_desk desks n t)) (sym from) next_desks in
        let r = rec e.mid (subst (λ (d : Text → Desk). AreDesks e.mid d) (sym is) named) (e.only.rest.0 ∙ time) (λ other among. e.only.links other (later_apart other among) ∙ kept other (Contains-there number more other among)) in
        let others : (other : ℕ) → (Contains (number ∷ more) other → ⊥) → map_of.get r.mid.links other ≡ map_of.get w.links other = λ other no.
        r.others other (λ c. no (Contains-there number more other c)) ∙ e.only.links other (λ same. no (subst (λ (n : ℕ). Contains (number ∷ more) n) (sym same) (Contains-here number more))) in
        by_left e.mid e.answer e.left r others (λ other apart. ap (λ (o : Option Link). is_of node o) (e.only.links other apart)) (r.rest.0 ∙ e.only.rest.0, r.rest.1 ∙ e.only.rest.1, r.rest.2 ∙ e.only.rest.2)
      where
        of_all : (v : World) (answer : Option Answer) → model.LeavesIfOn w number link answer v → ((other : ℕ) → other ≢ number → is_of node (map_of.get v.links other) ≡ is_of node (map_of.get w.links other))
            → (other : ℕ) → is_of node (map_of.get v.links other) ≡ is_of node (map_of.get w.links other)
        of_all v answer (inr (off, none, same)) f other = ap (λ (u : World). is_of node (map_of.get u.links other)) same
        of_all v answer (inl leaves) f other = elim (same_or_not numbers other number) [
          | inl same ↦ (
              let there : map_of.get v.links number ≡ Some (without_caller leaves.link) = ap (λ (u : World). map_of.get u.links number) leaves.is ∙ get_new numbers leaves.mid.links number (without_caller leaves.link) in
              let P : ℕ → Type 0 = λ n. is_of node (map_of.get v.links n) ≡ is_of node (map_of.get w.links n) in
              subst P (sym same) (ap (λ (o : Option Link). is_of node o) there ∙ sym (ap (λ (o : Option Link). is_of node o) leaves.at)))
          | inr apart ↦ f other (λ e. false≢true (sym apart ∙ (ap (λ (n : ℕ). eq_by_cmp nat_cmp n number) e ∙ ties_itself numbers number)))
        ]

        by_left : (v : World) (answer : Option Answer) → model.LeavesIfOn w number link answer v → (r : Went v more new) → ((other : ℕ) → (Contains (number ∷ more) other → ⊥) → map_of.get r.mid.links other ≡ map_of.get w.links other)
            → ((other : ℕ) → other ≢ number → is_of node (map_of.get v.links other) ≡ is_of node (map_of.get w.links other))
            → (r.mid.time ≡ w.time) × (r.mid.stood ≡ w.stood) × (r.mid.opened ≡ w.opened) → Went w (number ∷ more) new
        by_left v answer (inl leaves) r others f rest =
            let on : link.caller_connected ≡ true = ap (λ (z : Link). z.caller_connected) (sym (same_world_link w number leaves.link link leaves.at here)) ∙ leaves.on in
            let P : Bool → Type 0 = λ z. LeaveAll w (cond z (number ∷ filter is_called more) (filter is_called more)) (answer ∷ r.answers) r.mid in
            record {
              mid = r.mid;
              answers = answer ∷ r.answers;
              leave = subst P (sym (called_is true called true on)) (v, leaves, r.leave);
              are = r.are;
              others = others;
              of = λ other. r.of other ∙ of_all v answer (inl leaves) f other;
              rest = rest;
            }
        by_left v answer (inr (off, none, same)) r others f rest =
            let P : Bool → Type 0 = λ z. LeaveAll w (cond z (number ∷ filter is_called more) (filter is_called more)) r.answers r.mid in
            record {
              mid = r.mid;
              answers = r.answers;
              leave = subst P (sym (called_is true called false off)) (subst (λ (u : World). LeaveAll u (filter is_called more) r.answers r.mid) same r.leave);
              are = r.are;
              others = others;
              of = λ other. r.of other ∙ of_all v answer (inr (off, none, same)) f other;
              rest = rest;
            }

    -- a receiver that the node called is told of the end, and does nothing at its desk
    receiver_far : same_text (receiver_of k) node ≡ false → (mid : Text → Desk) → FarEnds plan b.time false k desks mid → Rec mid → Went w (number ∷ more) new
    receiver_far called mid (at, y, u, now, ended, is) rec =
        let to : receiver_of k ≡ link.receiver = shows.to.1 in
        let ended1 : IsEnded (LedgerStep plan link.receiver) k.receiver.core at (desks link.receiver) y u = subst (λ (n : Text). IsEnded (LedgerStep plan n) k.receiver.core at (desks n) y u) to ended in
        let e = receiver_ends plan certificate w number link k (desks link.caller) (desks link.receiver) here (all link.caller) (all link.receiver) shows at (now ∙ sym time) y u ended1 in
        let same : u ≡ desks (receiver_of k) = e.same ∙ ap desks (sym to) in
        let still : AreDesks w (with_desk desks (receiver_of k) u) = desks_after w w number (receiver_of k) desks u all (subst (λ (d : Desk). IsDeskOf w (receiver_of k) d) (sym same) (all (receiver_of k))) (unchanged w number (receiver_of k)) in
        let r = rec w (subst (λ (d : Text → Desk). AreDesks w d) (sym is) still) time (λ other among. kept other (Contains-there number more other among)) in
        let P : Bool → Type 0 = λ z. LeaveAll w (cond z (number ∷ filter is_called more) (filter is_called more)) r.answers r.mid in
        record {
          mid = r.mid;
          answers = r.answers;
          leave = subst P (sym (called_is false called link.caller_connected refl)) r.leave;
          are = r.are;
          others = λ other no. r.others other (λ c. no (Contains-there number more other c));
          of = r.of;
          rest = r.rest;
        }

    by_side : (called : Bool) → same_text (receiver_of k) node ≡ called → (mid : Text → Desk) → FarEnds plan b.time called k desks mid → Rec mid → Went w (number ∷ more) new
    by_side true e mid f rec = caller_far e mid f rec
    by_side false e mid f rec = receiver_far e mid f rec

  by_channel : (number : ℕ) (more : List ℕ) → AllPairs (λ p q. nat_cmp p q ≡ Less) (number ∷ more) → (w : World) (desks mid new : Text → Desk) → AreDesks w desks → w.time ≡ b.time → IsKept w (number ∷ more)
      → is_there node (map_of.get b.links number) ≡ true → (o : Option Channel) → map_of.get b.links number ≡ o → FarEndsOf plan b node o desks mid
      → ((v : World) → AreDesks v mid → v.time ≡ b.time → IsKept v more → Went v more new) → Went w (number ∷ more) new
  by_channel number more rising w desks mid new all time kept there None e f rec = absurd (false≢true (subst (λ (o : Option Channel). is_there node o ≡ true) e there))
  by_channel number more rising w desks mid new all time kept there (Some k) e f rec = by_side number more rising w desks new k e all time kept (same_text (receiver_of k) node) refl mid f rec

  far : (all : List ℕ) → AllPairs (λ p q. nat_cmp p q ≡ Less) all → ((number : ℕ) → Contains all number → is_there node (map_of.get b.links number) ≡ true) → (w : World) (desks new : Text → Desk)
      → AreDesks w desks → w.time ≡ b.time → IsKept w all → AllFarEnd plan b node all desks new → Went w all new
  far [] rising there w desks new are time kept e = record {
    mid = w;
    answers = [];
    leave = refl;
    are = subst (λ (d : Text → Desk). AreDesks w d) (sym e) are;
    others = λ other no. refl;
    of = λ other. refl;
    rest = (refl, refl, refl);
  }
  far (number ∷ more) rising there w desks new are time kept (mid, one, later) =
      by_channel number more rising w desks mid new are time kept (there number (Contains-here number more)) (map_of.get b.links number) refl one
      (λ v a t q. far more (tail_pairs (λ p q. nat_cmp p q ≡ Less) number more rising) (λ n c. there n (Contains-there number more n c)) v mid new a t q later)

  -- ---- who is called

  or_true : (x y : Bool) → y ≡ true → (x || y) ≡ true
  or_true true y h = refl
  or_true false y h = h

  or_is : (x y : Bool) → (x || y) ≡ cond x true y
  or_is true y = refl
  or_is false y = refl

  called_link : (number : ℕ) (o : Option Link) → map_of.get start.links number ≡ o → calls node o ≡ true → (link : Link) × IsLink start number link × (link.receiver ≡ node) × (link.caller_connected ≡ true)
  called_link number None e h = absurd (false≢true h)
  called_link number (Some link) e h = (let both = and_parts (same_text link.receiver node) link.caller_connected h in (link, e, tells_apart texts.exact link.receiver node both.0, both.1))

  are_called : (all : List ℕ) → AreLinksOf b node all → filter is_called all ≡ callers_of start node
  are_called all are = same_sorted nat_cmp numbers.total (filter is_called all) (callers_of start node) (AllPairs-filter (λ p q. nat_cmp p q ≡ Less) is_called all (as_pairs all are.0))
      (as_pairs (callers_of start node) (restarts_in_order start node)) (λ number. (
        λ among. (let h = (filter_has is_called all number).0 among in (callers_are_those_who_call start node number).1 (called_link number (map_of.get start.links number) refl h.1)),
        λ among. (
            let c = (callers_are_those_who_call start node number).0 among in
            let k = shown_channel plan certificate b start number c.0 s c.1 in
            let named : same_text (receiver_of k.0) node ≡ true = ap (λ (t : Text). same_text t node) (k.2.to.1 ∙ c.2) ∙ ties_itself texts node in
            let there : is_there node (map_of.get b.links number) ≡ true = ap (λ (o : Option Channel). is_there node o) k.1 ∙ or_true (same_text (caller_of k.0) node) (same_text (receiver_of k.0) node) named in
            let called : is_called number ≡ true = ap (λ (o : Option Link). calls node o) c.1
            ∙ and_from (same_text c.0.receiver node) c.0.caller_connected (ap (λ (t : Text). same_text t node) c.2 ∙ ties_itself texts node) c.3 in
            (filter_has is_called all number).1 ((are.1 number).1 there, called)),
      ))

  -- ---- the links that are left

  same_there : (o : Option Channel) (q : Option Link) → ShowsAt plan certificate o q → is_there node o ≡ is_of node q
  same_there None None h = refl
  same_there (Some k) (Some q) h = or_is (same_text (caller_of k) node) (same_text (receiver_of k) node)
      ∙ (ap (λ (t : Text). cond (same_text t node) true (same_text (receiver_of k) node)) h.from.1 ∙ ap (λ (t : Text). cond (same_text q.caller node) true (same_text t node)) h.to.1)
  same_there None (Some q) h = absurd h
  same_there (Some k) None h = absurd h

  shown_or_gone : (z : Bool) (o : Option Channel) (q : Option Link) → (z ≡ false → ShowsAt plan certificate o q) → ShowsAt plan certificate (cond (not z) o None) (cond (not z) q None)
  shown_or_gone true o q f = tt
  shown_or_gone false o q f = f refl

  left_shown : (all : List ℕ) → AreLinksOf b node all → (mid : World) → ((other : ℕ) → (Contains all other → ⊥) → map_of.get mid.links other ≡ map_of.get start.links other)
      → ((other : ℕ) → is_of node (map_of.get mid.links other) ≡ is_of node (map_of.get start.links other)) → (number : ℕ)
      → ShowsAt plan certificate (map_of.get (map_of.retain_keys b.links (λ n. not (is_there node (map_of.get b.links n)))) number) (map_of.get (links_without mid.links node) number)
  unfolding links_without
  left_shown all are mid others of number =
      let pb : ℕ → Bool = λ n. not (is_there node (map_of.get b.links n)) in
      let pw : ℕ → Bool = λ n. not (is_of node (map_of.get mid.links n)) in
      let there : Bool = is_there node (map_of.get b.links number) in
      let left : map_of.get (map_of.retain_keys b.links pb) number ≡ cond (not there) (map_of.get b.links number) None = map_of.get-retain_keys b.links pb number (λ x e. ap pb (sym (numbers.exact number x e))) in
      let right : map_of.get (map_of.retain_keys mid.links pw) number ≡ cond (not (is_of node (map_of.get mid.links number))) (map_of.get mid.links number) None =
      map_of.get-retain_keys mid.links pw number (λ x e. ap pw (sym (numbers.exact number x e))) in
      let same : is_of node (map_of.get mid.links number) ≡ there = of number ∙ sym (same_there (map_of.get b.links number) (map_of.get start.links number) (s.links number)) in
      let right1 : map_of.get (map_of.retain_keys mid.links pw) number ≡ cond (not there) (map_of.get mid.links number) None = right ∙ ap (λ (z : Bool). cond (not z) (map_of.get mid.links number) None) same in
      subst (λ (o : Option Channel). ShowsAt plan certificate o (map_of.get (map_of.retain_keys mid.links pw) number)) (sym left)
      (subst (λ (q : Option Link). ShowsAt plan certificate (cond (not there) (map_of.get b.links number) None) q) (sym right1)
      (shown_or_gone there (map_of.get b.links number) (map_of.get mid.links number) (λ none.
      subst (λ (q : Option Link). ShowsAt plan certificate (map_of.get b.links number) q) (sym (others number (λ c. false≢true (sym none ∙ (are.1 number).0 c)))) (s.links number))))

  pub restarted : (new : ByteWorld) → Restarts plan b node new → (v : World) × (answers : List (Option Answer)) × model.Restarts start node answers v × ShowsWorld plan certificate new v
  restarted new (all, desks, are, ends, is) =
      let r = far all (as_pairs all are.0) (λ number c. (are.1 number).0 c) start b.desks desks s.desks s.time (λ number c. refl) ends in
      let v : World = with_links r.mid (links_without r.mid.links node) in (
        v,
        r.answers,
        (r.mid, subst (λ (ns : List ℕ). LeaveAll start ns r.answers r.mid) (are_called all are) r.leave, refl),
        subst (λ (z : ByteWorld). ShowsWorld plan certificate z v) (sym is) (record {
          time = r.rest.0 ∙ s.time;
          opened = r.rest.2 ∙ s.opened;
          desks = r.are;
          links = left_shown all are r.mid r.others r.of;
        }),
      )
