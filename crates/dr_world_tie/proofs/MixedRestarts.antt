-- A node of ours starts anew where there are links between two of ours, whose callers have had
-- their connections ended before.
use Rattle.std.proofs.Common.{◌≡◌, ◌≤◌, ℕ, Bool, true, false, List, [], ◌∷◌, Option, None, Some}
use Rattle.std.proofs.Common.{Contains, refl, sym, ap, subst, ◌∙◌, inl, inr}
use Rattle.std.specs.Prelude.{◌||◌, if◌then◌else◌}
use Rattle.std.specs.FinSet as set
use Rattle.std.proofs.lemmas.Bool.{cases_Bool, false≢true}
use Rattle.std.proofs.lemmas.Option.{same_Some}
use Rattle.dr_base.specs.Texts.{Text}
use Rattle.dr_plan_model.specs.Networks.{Network}
use Rattle.dr_plan_sound.specs.declared.certificate.Certificate.{Certificate}
use Rattle.dr_world_model.specs.Worlds.{Link, World, same_text}
use Rattle.dr_world_model.specs.Events.{Restart}
use Rattle.dr_world_model.specs.Steps.{IsLink, callers_of}
use Rattle.dr_world_model.specs.Among.{Act, Ours, Own, RunsAmong}
use Rattle.dr_world_model.proofs.Restarting.{callers_are_those_who_call}
use Rattle.dr_world_tie.specs.ByteWorlds.{caller_of, is_there, receiver_of}
use Rattle.dr_world_tie.specs.Channels.{Channel}
use Rattle.dr_world_tie.specs.Foreign.{OthersHaveNone}
use Rattle.dr_world_tie.specs.ForeignWorlds.{OwnEnd, ShowsBy, without_node}
use Rattle.dr_world_tie.specs.MixedWorlds.{CallersAreOver, MixedWorld, ShowsMixed, ShowsPair}
use Rattle.dr_world_tie.specs.MixedWorlds.{without_pair}
use Rattle.dr_world_tie.proofs.Changes.{caller_off}
use Rattle.dr_world_tie.proofs.MixedUpdates.{PlaceOf, pair_alone, place_of}
use Rattle.dr_world_tie.proofs.OwnRestarts.{AllLeft, IsCaller, all_gone, end_still, kept_link}
use Rattle.dr_world_tie.proofs.OwnRestarts.{left_free, left_number, left_still, left_was, link_was}
use Rattle.dr_world_tie.proofs.OwnRestarts.{receiver_was, started_anew, without_is}

both_off : (c d : Bool) → (c || d) ≡ false → (c ≡ false) × (d ≡ false)
both_off true d h = absurd (false≢true (sym h))
both_off false d h = (refl, h)

is_off : (c d : Bool) → c ≡ false → d ≡ false → (c || d) ≡ false
is_off true d h k = absurd (false≢true (sym h))
is_off false d h k = k

-- ---- the links between two of ours that are left

module _ (node : Text) where
  pub pair_was : (q : Option Channel) (k : Channel) → without_pair node q ≡ Some k
      → (q ≡ Some k) × (is_there node (Some k) ≡ false)
  pair_was None k h = (let f : None ≡ Some k = h in absurd (cc f))
  pair_was (Some l) k h = by_name (is_there node (Some l)) refl h
    where
      by_name : (c : Bool) → is_there node (Some l) ≡ c → (if c then None else Some l) ≡ Some k
          → (Some l ≡ Some k) × (is_there node (Some k) ≡ false)
      by_name true named f = (let g : None ≡ Some k = f in absurd (cc g))
      by_name false named f =
          (f, ap (λ (z : Channel). is_there node (Some z)) (sym (same_Some l k f)) ∙ named)

  -- the number of one that is left
  abbrev pub pair_number : Option Channel → Option ℕ → Option ℕ
  pair_number None number = number
  pair_number (Some k) number = if is_there node (Some k) then None else number

  pair_had : (q : Option Channel) (number : Option ℕ) (n : ℕ) → pair_number q number ≡ Some n
      → number ≡ Some n
  pair_had None number n h = h
  pair_had (Some k) number n h = by_name (is_there node (Some k)) h
    where
      by_name : (c : Bool) → (if c then None else number) ≡ Some n → number ≡ Some n
      by_name true f = (let g : None ≡ Some n = f in absurd (cc g))
      by_name false f = f

  pair_still_has : (q : Option Channel) (k : Channel) (number : Option ℕ) → q ≡ Some k
      → is_there node (Some k) ≡ false
      → pair_number q number ≡ number
  pair_still_has q k number is apart =
      ap (λ (z : Option Channel). pair_number z number) is
      ∙ ap (λ (c : Bool). if c then None else number) apart

  pair_free : (q : Option Channel) (number : Option ℕ) → (q ≡ None → number ≡ None)
      → without_pair node q ≡ None
      → pair_number q number ≡ None
  pair_free None number free none = free refl
  pair_free (Some k) number free none = by_name (is_there node (Some k)) none
    where
      by_name : (c : Bool) → (if c then None else Some k) ≡ None
          → (if c then None else number) ≡ None
      by_name true f = refl
      by_name false f = (let g : Some k ≡ None = f in absurd (cc g))

-- ---- the node

module _ (ours : Ours) (plan : Network) (certificate : Certificate) (b : MixedWorld) (w : World)
    (shows : ShowsMixed ours plan certificate b w) (others : OthersHaveNone ours w) (node : Text)
    (own : ours node ≡ true) (over : CallersAreOver b.pairs node) where
  abbrev pub left_world : MixedWorld
  left_world = record {
    own = record {
      time = b.own.time;
      desks = b.own.desks;
      ends = λ number. without_node node (b.own.ends number);
    };
    pairs = λ number. without_pair node (b.pairs number);
  }

  -- whoever calls the node and is on isn't ours
  caller_away : (i : ℕ) (link : Link)
      → link.receiver ≡ node
      → link.caller_connected ≡ true
      → PlaceOf ours plan certificate b i link
      → ours link.caller ≡ true
      → ⊥
  caller_away i link called on (inl (e, there, inl (side, call))) mine =
      false≢true (sym call.caller ∙ mine)
  caller_away i link called on (inl (e, there, inr (side, call))) mine =
      false≢true (sym call.receiver ∙ (ap ours called ∙ own))
  caller_away i link called on (inr (k, there, pair)) mine =
      let off = caller_off link.caller_connected link.stage link.receiver k.caller.core
      pair.2.caller (over i k there (pair.2.to.1 ∙ called)) in
      false≢true (sym off ∙ on)

  mixed_callers : (n : ℕ) → Contains (callers_of w node) n → IsCaller node w n
  mixed_callers n among =
      let c = (callers_are_those_who_call w node n).0 among in (
        c.0,
        c.1,
        c.2,
        c.3,
        others c.0.caller (elim (cases_Bool (ours c.0.caller)) [
          | inl mine ↦
              (let a = shows.covered n c.0 c.1 (inl mine) in
              absurd (caller_away a.0 c.0 c.2 c.3
              (place_of ours plan certificate b w shows a.0 n c.0 a.1 c.1) mine))
          | inr away ↦ away
        ]),
      )

  abbrev gone : AllLeft node w (callers_of w node)
  gone = all_gone w node mixed_callers

  abbrev anew : World
  anew = started_anew w node mixed_callers

  abbrev left_numbers : ℕ → Option ℕ
  left_numbers i =
      left_number node (b.own.ends i) (pair_number node (b.pairs i) (shows.numbers i))

  had : (i n : ℕ) → left_numbers i ≡ Some n → shows.numbers i ≡ Some n
  had i n h = pair_had node (b.pairs i) (shows.numbers i) n
      (left_was node (b.own.ends i) (pair_number node (b.pairs i) (shows.numbers i)) n h)

  -- an end alone, and a link between two of ours, have the number still
  end_has : (i : ℕ) (e : OwnEnd) → b.own.ends i ≡ Some e → same_text e.node node ≡ false
      → left_numbers i ≡ shows.numbers i
  end_has i e there apart =
      left_still node (b.own.ends i) e (pair_number node (b.pairs i) (shows.numbers i)) there apart
      ∙ ap (λ (q : Option Channel). pair_number node q (shows.numbers i)) (shows.lone i e there)

  pair_has : (i : ℕ) (k : Channel) → b.pairs i ≡ Some k → is_there node (Some k) ≡ false
      → left_numbers i ≡ shows.numbers i
  pair_has i k there apart =
      ap (λ (q : Option OwnEnd).
      left_number node q (pair_number node (b.pairs i) (shows.numbers i))) (pair_alone ours plan certificate b w shows i k there)
      ∙ pair_still_has node (b.pairs i) k (shows.numbers i) there apart

  pair_kept : (i : ℕ) (k : Channel) → is_there node (Some k) ≡ false
      → ShowsPair ours plan certificate w (shows.numbers i) k
      → ShowsPair ours plan certificate anew (shows.numbers i) k
  pair_kept i k apart h =
      let away = both_off (same_text (caller_of k) node) (same_text (receiver_of k) node) apart in
      record {
        number = h.number;
        at_is = h.at_is;
        link = h.link;
        here = kept_link w node mixed_callers h.number h.link h.here
            (ap (λ (z : Text). same_text z node) (sym h.shows.from.1) ∙ away.0)
            (ap (λ (z : Text). same_text z node) (sym h.shows.to.1) ∙ away.1);
        caller = h.caller;
        receiver = h.receiver;
        shows = h.shows;
      }

  -- a link of ours that is left has its place still
  still_there : (i : ℕ) (link : Link)
      → same_text link.caller node ≡ false
      → same_text link.receiver node ≡ false
      → PlaceOf ours plan certificate b i link
      → left_numbers i ≡ shows.numbers i
  still_there i link caller receiver (inl (e, there, inl (side, call))) = end_has i e there
      (ap (λ (z : Text). same_text z node) (sym call.receiver) ∙ receiver)
  still_there i link caller receiver (inl (e, there, inr (side, call))) = end_has i e there
      (ap (λ (z : Text). same_text z node) (sym call.caller) ∙ caller)
  still_there i link caller receiver (inr (k, there, pair)) = pair_has i k there
      (is_off (same_text (caller_of k) node) (same_text (receiver_of k) node)
      (ap (λ (z : Text). same_text z node) pair.2.from.1 ∙ caller)
      (ap (λ (z : Text). same_text z node) pair.2.to.1 ∙ receiver))

  -- books stay, and so do links of other nodes alone
  pub mixed_restarts : (acts : List Act) × (v : World)
      × RunsAmong ours plan w acts plan v
      × ShowsMixed ours plan certificate left_world v
      × ((name : Text) → v.books name ≡ w.books name)
      × ((n : ℕ) (link : Link)
      → IsLink v n link
      → IsLink w n link
      × (same_text link.caller node ≡ false)
      × (same_text link.receiver node ≡ false))
  mixed_restarts = (
    Own (Restart node gone.answers) ∷ [],
    anew,
    (tt, (anew, (gone.mid, gone.leave, refl), (refl, refl))),
    record {
      time = gone.rest.0 ∙ shows.time;
      desks = λ name its. (
        (shows.desks name its).0 ∙ sym (gone.books name),
        (shows.desks name its).1 ∙ sym (ap (λ (a : _). set.contains a name) gone.armed),
      );
      numbers = left_numbers;
      own = λ i e there. shows.own i e (without_is node (b.own.ends i) e there).0;
      ends = λ i e there.
          (let was = without_is node (b.own.ends i) e there in
          subst (λ (o : Option ℕ). ShowsBy ours plan certificate anew o e.side e.node e.terminal)
          (sym (end_has i e was.0 was.1))
          (end_still ours plan certificate w node own mixed_callers (shows.numbers i) e.side e.node
          e.terminal was.1 (shows.ends i e was.0)));
      pairs = λ i k there.
          (let was = pair_was node (b.pairs i) k there in
          subst (λ (o : Option ℕ). ShowsPair ours plan certificate anew o k)
          (sym (pair_has i k was.0 was.1)) (pair_kept i k was.1 (shows.pairs i k was.0)));
      lone = λ i e there.
          ap (λ (q : Option Channel). without_pair node q)
          (shows.lone i e (without_is node (b.own.ends i) e there).0);
      apart = λ i j n at also. shows.apart i j n (had i n at) (had j n also);
      known = λ i n at. (
          let few : n ≤ w.opened = shows.known i n (had i n at) in
          subst (λ (m : ℕ). n ≤ m) (sym gone.rest.2) few);
      free = λ i none no_pair. left_free node (b.own.ends i)
          (pair_number node (b.pairs i) (shows.numbers i))
          (λ e. pair_free node (b.pairs i) (shows.numbers i) (λ f. shows.free i e f) no_pair) none;
      covered = λ n link there its.
          (let was = link_was w node mixed_callers n link there in
          let away = receiver_was w node mixed_callers n link there in
          let a = shows.covered n link was.0 its in (
            a.0,
            still_there a.0 link was.1 away
                (place_of ours plan certificate b w shows a.0 n link a.1 was.0) ∙ a.1,
          ));
    },
    λ name. gone.books name,
    λ n link here.
        (let was = link_was w node mixed_callers n link here in
        (was.0, was.1, receiver_was w node mixed_callers n link here)),
  )
