-- A run of a world of bytes in which other products write is one of the ends of ours alone.
use Rattle.std.proofs.Common.{◌≡◌, ◌≢◌, ◌⊎◌, ℕ, ◌+◌, ◌<◌, ◌≤◌, ◌^◌, Bool, true, false, List, [], ◌∷◌, ◌++◌, Option, None, Some, Result, Ok, Err, append_assoc, length, take, drop, inl, inr, refl, sym, ap, subst, ◌∙◌, arith}
use Rattle.std.proofs.Math.Logic.{∥∥₁_elim, ∥∥₁_map, ∥∥₁_prop}
use Rattle.std.specs.Prelude.{◌==◌, ◌&&◌, ◌||◌, AllPairs, Contains, cond, not, min, nat_le, if◌then◌else◌, map as mapped}
use Rattle.std.specs.declared.cmp.Ordering.TheVariants.{Equal, Less}
use Rattle.std.specs.FinMap as map
use Rattle.std.specs.FinMap.{FinMap}
use Rattle.std.specs.BTreeMap as tree
use Rattle.std.specs.Ordering.{nat_cmp, eq_by_cmp}
use Rattle.std.specs.Option.{option_map, option_map_or}
use Rattle.std.proofs.lemmas.Bool.{cases_Bool, eq-eqb, eqb-true, false≢true, or_parts}
use Rattle.std.proofs.lemmas.Cmp.{tied_itself}
use Rattle.std.proofs.lemmas.Map.Views.{tells_apart}
use Rattle.std.proofs.lemmas.List.{append-nil, take-append-drop, take_all}
use Rattle.std.proofs.lemmas.Option.{same_Some}
use Rattle.std.specs.List.{AllByRecursion}
use Rattle.dr_base.specs.Texts.{Text, text_cmp}
use Rattle.dr_plan_model.specs.Networks.{Network}
use Rattle.dr_plan_model.proofs.Gathered.{Contains-cons_cases, Contains-here, Contains-there, nothing_in_nil}
use Rattle.dr_plan_sound.specs.declared.certificate.Certificate.{Certificate}
use Rattle.dr_plan_sound.specs.declared.certificate.Hop.{Hop}
use Rattle.dr_site.specs.Parts.{Part, IsPartOf}
use Rattle.dr_site.specs.Sites.{IsCertified}
use Rattle.dr_site.proofs.ContextsAsPlanned.{hop_to, pairs_as_planned}
use Rattle.dr_ulstate.specs.Standing.{Standing}
use Rattle.dr_ulstate.specs.Phases.{standing_of, state_of}
use Rattle.dr_ulstate.specs.declared.table.State.{State}
use Rattle.dr_ulstate.specs.declared.table.State.TheVariants.{Sta1, Sta2, Sta3, Sta4, Sta5, Sta6, Sta7, Sta8, Sta9, Sta10, Sta11, Sta12, Sta13}
use Rattle.dr_pdu.specs.declared.pdu.Pdu.{Pdu}
use Rattle.dr_pdu.specs.declared.pdu.Pdu.TheVariants as pdu
use Rattle.dr_pdu.specs.Feeding.{Feeding, fresh}
use Rattle.dr_pdu.specs.Written.{written}
use Rattle.dr_pdu.proofs.WrittenLemmas.{written_spells}
use Rattle.dr_nego.specs.Agreeing.{AssociateRq}
use Rattle.dr_nego.specs.Proposing.{IsHopTo, IsProposal}
use Rattle.dr_ledger.specs.declared.fault.LedgerFault.{LedgerFault}
use Rattle.dr_ledger.specs.declared.item.Outcome.TheVariants.{Broken}
use Rattle.dr_ledger.specs.Adopting.{IsFit}
use Rattle.dr_ledger.specs.Books.{Adoption, after}
use Rattle.dr_ledger.specs.Replies.{Reply}
use Rattle.dr_ledger.specs.declared.ledger.Ledger.{Ghosts}
use Rattle.dr_route.specs.Routes.{local}
use Rattle.dr_ledger.proofs.Maps.{get_new, get_other, same_or_not, texts, ties_itself}
use Rattle.dr_session.specs.declared.ends.Core.{Core}
use Rattle.dr_session.specs.declared.ends.Effect.{Effect}
use Rattle.dr_session.specs.declared.ends.Heard.TheVariants as heard
use Rattle.dr_session.specs.declared.ends.Input.{Input}
use Rattle.dr_session.specs.declared.ends.Input.TheVariants as input
use Rattle.dr_session.specs.declared.ends.LinkAction.{LinkAction}
use Rattle.dr_session.specs.declared.ends.Moment.{Moment}
use Rattle.dr_session.specs.Desks.{Arrival, Arrive, Settle, Settling}
use Rattle.dr_session.specs.Ends.{HearsPiece, MeetsBy, accepting, is_gone, requesting}
use Rattle.dr_session.specs.Ledgers.{desk}
use Rattle.dr_session.specs.Pendings.{pending_of}
use Rattle.dr_session.specs.Plays.{Hears, HearsBy, HearsOn, PlaysBytes, Reacts, at_moment}
use Rattle.dr_session.specs.Reactions.{is_free, is_idle}
use Rattle.dr_node.specs.declared.node.Node.{Node}
use Rattle.dr_ulstate.specs.declared.table.Event.TheVariants.{AbortRequest, ReleaseRequest}
use Rattle.dr_nego.proofs.Concluded.{head_pairs, tail_pairs}
use Rattle.dr_world_model.specs.Worlds as model
use Rattle.dr_world_model.specs.Worlds.{start, Stage, Asking, Answering, Rejecting, Open as OpenStage, Storing, Replying, Gone, same_text}
use Rattle.dr_world_model.specs.Calls.{Answer}
use Rattle.dr_world_model.specs.Events.{HasNode}
use Rattle.dr_world_model.specs.Steps.{IsHop}
use Rattle.dr_world_model.specs.Among.{Act, HeadlineAmong, Ours, RunsAmong}
use Rattle.dr_world_model.proofs.Lookups.{numbers}
use Rattle.dr_world_tie.specs.Desks.{Desk, LedgerStep}
use Rattle.dr_world_tie.specs.Nodes.{ForgetsAt, GivesUpAt, RequeuesAt}
use Rattle.dr_world_tie.specs.Channels.{Channel, IsAt, LiveTerminal, site_in}
use Rattle.dr_world_tie.specs.Closing.{IsEnded, closed}
use Rattle.dr_world_tie.specs.Ties.{caller_as, receiver_as, with_desk}
use Rattle.dr_world_tie.specs.ByteWorlds as bytes
use Rattle.dr_world_tie.specs.ByteWorlds.{Acceptor, ByteWorld, Requestor, Side, Skipped, StepNote, Steps, WorldStep, caller_of, is_open, is_over, opened_between, receiver_of, with_call, with_done}
use Rattle.dr_world_tie.specs.Foreign.{CallsAsNoneOfOurs, NoneCallsAsOurs}
use Rattle.dr_world_tie.specs.ForeignCalls.{CallsAt, ShowsCall}
use Rattle.dr_world_tie.specs.ForeignLinks.{end_of}
use Rattle.dr_world_tie.specs.ForeignWorlds as own
use Rattle.dr_world_tie.specs.ForeignWorlds.{NoneAwaits, OwnEnd, OwnStep, OwnSteps, OwnWorld, ShowsBy, own_beginning}
use Rattle.dr_world_tie.proofs.Fronts.{hears_none, hears_one, nothing_yet}
use Rattle.dr_world_tie.proofs.Others.{as_pairs}
use Rattle.dr_world_tie.specs.Changes.{TakesPlan}
use Rattle.dr_world_tie.specs.OwnChanges.{OursTake}
use Rattle.dr_world_tie.specs.MixedChanges.{MixedDeed, MixedDoes, MixedRunsThrough, MixedTake, MixedTakes}
use Rattle.dr_world_tie.specs.MixedWorlds.{Alone, Asks, CallersAreOver, CountsOthers, Empties, IsOpenAt, Joins, MayAsk, MayBeside, MixedRuns, MixedStep, MixedSteps, MixedWorld, Moves, NonePends, done_between, mixed_beginning, pairs_after, with_pair, without_pair}
use Rattle.dr_world_tie.proofs.MixedChanges.{mixed_changes_keep_the_claims}
use Rattle.dr_world_tie.proofs.OwnRestarts.{without_is}
use Rattle.dr_world_tie.specs.Moves.{IsLeft}
use Rattle.dr_world.specs.declared.changing.Change.{Change}
use Rattle.dr_world.specs.declared.changing.Change.TheVariants as of_plan
use Rattle.dr_world.specs.declared.deed.Deed.{Deed}
use Rattle.dr_world.specs.declared.deed.Deed.TheVariants as deed
use Rattle.dr_world.specs.declared.world.World.{World}
use Rattle.dr_world.specs.Among.{FitsFrom, HasOurs, HoldsAmong, NamesAreLookedAt, NoneNamesOurs, StepFits, WritesFit, own_in, own_of, pair_in, pair_of}
use Rattle.dr_world.specs.Ends.{named}
use Rattle.dr_world.specs.Nodes.{seat_of}
use Rattle.dr_world.specs.Others.{Writes, WritesIn, with_written}
use Rattle.dr_world.specs.Played.{FitScriptsAreOwnRuns, FitScriptsKeepTheClaims, PlaysThrough, in_force, taken_in}
use Rattle.dr_world.specs.Runs.{step_of}
use Rattle.dr_world.specs.Shows.{Contents, ShowsBytes, desk_at}
use Rattle.dr_world.specs.Whole.{contents}
use Rattle.dr_world.proofs.Ending.{ended_over}
use Rattle.dr_world_tie.proofs.Sited.{bytes_keep, reacts_keep}

-- a number is the other, or not
place : (n number : ℕ) → ((n ≡ number) × ((n == number) ≡ true)) ⊎ ((eq_by_cmp nat_cmp n number ≡ false) × ((n == number) ≡ false))
place n number = elim (same_or_not numbers n number) [
  | inl same ↦ inl (same, eq-eqb n number same)
  | inr apart ↦ elim (cases_Bool (n == number)) [
    | inl it ↦ absurd (false≢true (sym apart ∙ (ap (λ (m : ℕ). eq_by_cmp nat_cmp m number) (eqb-true n number it) ∙ ties_itself numbers number)))
    | inr not_it ↦ inr (apart, not_it)
  ]
]

none_some : (k : Channel) → None ≡ Some k → ⊥
none_some k e = cc e

no_end : (e : OwnEnd) → None ≡ Some e → ⊥
no_end e h = cc h

abbrev end_at : Side → Text → LiveTerminal → OwnEnd
end_at side node terminal = record { side = side; node = node; terminal = terminal }

-- what is over isn't open
gone_not_open : (z : State) → is_gone z ≡ true → is_open z ≡ true → ⊥
gone_not_open Sta1 h g = false≢true g
gone_not_open Sta2 h g = false≢true h
gone_not_open Sta3 h g = false≢true h
gone_not_open Sta4 h g = false≢true h
gone_not_open Sta5 h g = false≢true h
gone_not_open Sta6 h g = false≢true h
gone_not_open Sta7 h g = false≢true h
gone_not_open Sta8 h g = false≢true h
gone_not_open Sta9 h g = false≢true h
gone_not_open Sta10 h g = false≢true h
gone_not_open Sta11 h g = false≢true h
gone_not_open Sta12 h g = false≢true h
gone_not_open Sta13 h g = false≢true h

-- which ends are ours goes by the names
own_alike : (c r : Bool) (k l : Channel) → k.caller ≡ l.caller → k.receiver ≡ l.receiver → own_in c r k ≡ own_in c r l
own_alike true true k l caller receiver = refl
own_alike true false k l caller receiver = ap (λ (t : LiveTerminal). Some (end_at Requestor (site_in t.core.site).name t)) caller
own_alike false true k l caller receiver = ap (λ (t : LiveTerminal). Some (end_at Acceptor (site_in t.core.site).name t)) receiver
own_alike false false k l caller receiver = refl

-- a link that isn't between two of ours
lone_alike : (c r : Bool) (k l : Channel) → (c ≡ true → r ≡ false) → pair_in c r k ≡ pair_in c r l
lone_alike true true k l lone = absurd (false≢true (sym (lone refl)))
lone_alike true false k l lone = refl
lone_alike false true k l lone = refl
lone_alike false false k l lone = refl

pair_is : (c r : Bool) (k l : Channel) → pair_in c r k ≡ Some l → (k ≡ l) × (c ≡ true) × (r ≡ true)
pair_is true true k l e = (same_Some k l e, refl, refl)
pair_is true false k l e = absurd (none_some l e)
pair_is false true k l e = absurd (none_some l e)
pair_is false false k l e = absurd (none_some l e)

not_below_itself : (n : ℕ) → nat_cmp n n ≡ Less → ⊥
not_below_itself n h = (let e : Less ≡ Equal = sym h ∙ tied_itself numbers.total n in cc e)

module _ (ours : Ours) (plan : Network) (certificate : Certificate) where
  -- a desk of ours isn't that of another
  other_desk : (desks : Text → Desk) (node : Text) (t : Desk) (name : Text) → ours name ≡ true → ours node ≡ false → with_desk desks node t name ≡ desks name
  other_desk desks node t name its away = elim (same_or_not texts name node) [
    | inl same ↦ absurd (false≢true (sym away ∙ (ap ours (sym same) ∙ its)))
    | inr apart ↦ ap (λ (c : Bool). if c then t else desks name) apart
  ]

  -- what holds beside a world of bytes that fit deeds have led to
  record Stands (b : ByteWorld) (m : MixedWorld) : Type 0 where
    has : HasOurs ours b m
    fresh : (number : ℕ) → b.opened < number → (map.get b.links number ≡ None) × (m.own.ends number ≡ None) × (m.pairs number ≡ None)

  -- steps of ours lead on to a world that stands beside it
  abbrev Goes : MixedWorld → ByteWorld → Type 0
  Goes m new = (steps : List MixedStep) × (next : MixedWorld) × MixedRuns ours plan certificate m steps next × Stands new next

  as_new : (m : MixedWorld) (new made : ByteWorld) → new ≡ made → Goes m made → Goes m new
  as_new m new made e h = subst (λ (z : ByteWorld). Goes m z) (sym e) h

  one : (m next : MixedWorld) (step : MixedStep) (new : ByteWorld) → MixedSteps ours plan certificate m step next → Stands new next → Goes m new
  one m next step new h k = (step ∷ [], next, (next, h, refl), k)

  runs_then : (steps more : List MixedStep) (a m next : MixedWorld) → MixedRuns ours plan certificate a steps m → MixedRuns ours plan certificate m more next → MixedRuns ours plan certificate a (steps ++ more) next
  runs_then [] more a m next h k = subst (λ (z : MixedWorld). MixedRuns ours plan certificate z more next) h k
  runs_then (step ∷ steps) more a m next h k = (h.0, h.1, runs_then steps more h.0 m next h.2 k)

  abbrev with_own : MixedWorld → OwnWorld → MixedWorld
  with_own m o = record { own = o; pairs = m.pairs }

  -- an end alone has its connection ended
  ended_step : (m : MixedWorld) (number : ℕ) (e : OwnEnd) → m.own.ends number ≡ Some e → (moment : Moment) → moment.now ≡ m.own.time → (x : Effect) (t : Desk) → IsEnded (LedgerStep plan e.node) e.terminal.core moment (m.own.desks e.node) x t
      → (step : MixedStep) × MixedSteps ours plan certificate m step (with_own m (own.with_done m.own number (record { side = e.side; node = e.node; terminal = record { core = x.core; ear = e.terminal.ear } }) t))
  ended_step m number e is moment now x t (inl reacts) = (
    Alone (own.Meets number input.Ended),
    (
      tt,
      (
        own.with_done m.own number (record { side = e.side; node = e.node; terminal = record { core = x.core; ear = e.terminal.ear } }) t,
        record {
          end = e;
          there = is;
          may = tt;
          moment = moment;
          now = now;
          effect = x;
          after = t;
          reacts = reacts;
          is = refl;
        },
        refl,
      ),
    ),
  )
  ended_step m number e is moment now x t (inr (gone, same, still)) = (
    Alone (own.Hears number heard.End),
    (
      tt,
      (
        own.with_done m.own number (record { side = e.side; node = e.node; terminal = record { core = x.core; ear = e.terminal.ear } }) t,
        record {
          end = e;
          there = is;
          moment = moment;
          now = now;
          acts = [];
          left = end_of e.terminal;
          core = x.core;
          after = t;
          none = λ accepts. tt;
          hears = subst (λ (over : Bool). MeetsBy (LedgerStep plan e.node) over moment input.Ended e.terminal.core (end_of e.terminal) (m.own.desks e.node) (Ok []) (end_of e.terminal) t) (sym (ap is_gone gone))
              (refl, refl, still);
          lives = ap (λ (y : Effect). Some y.core) (sym same);
          is = refl;
        },
        refl,
      ),
    ),
  )

  -- an end that has its connection ended is of its site still
  ended_keeps : (node : Text) (core : Core) (moment : Moment) (d : Desk) (z : Effect) (v : Desk) → IsEnded (LedgerStep plan node) core moment d z v → z.core.site ≡ core.site
  ended_keeps node core moment d z v (inl reacts) = reacts_keep (LedgerStep plan node) core (at_moment moment input.Ended) d z v reacts
  ended_keeps node core moment d z v (inr (gone, same, still)) = ap (λ (q : Effect). q.core.site) same

  -- ---- an end of a link between two of ours has its connection ended

  -- the link's ends are these then, and the desks
  record PairEnded (m : MixedWorld) (number : ℕ) (caller receiver : LiveTerminal) (desks : Text → Desk) : Type 0 where
    steps : List MixedStep
    last : MixedWorld
    runs : MixedRuns ours plan certificate m steps last
    time : last.own.time ≡ m.own.time
    same : (name : Text) → last.own.desks name ≡ desks name
    ends : (n : ℕ) → last.own.ends n ≡ m.own.ends n
    pair : Channel
    there : last.pairs number ≡ Some pair
    caller_is : pair.caller ≡ caller
    receiver_is : pair.receiver ≡ receiver
    others : (n : ℕ) → (n == number) ≡ false → last.pairs n ≡ m.pairs n

  pair_here : (m : MixedWorld) (number : ℕ) (l : Channel) → with_pair m.pairs number l number ≡ Some l
  pair_here m number l = ap (λ (c : Bool). if c then Some l else m.pairs number) (eq-eqb number number refl)

  -- a desk that is put where it was
  desk_kept : (desks : Text → Desk) (name : Text) (t : Desk) → t ≡ desks name → (other : Text) → desks other ≡ with_desk desks name t other
  desk_kept desks name t is other = elim (same_or_not texts other name) [
    | inl same ↦ ap desks same ∙ (sym is ∙ sym (ap (λ (c : Bool). if c then t else desks other) (ap (λ (n : Text). same_text n name) same ∙ ties_itself texts name)))
    | inr apart ↦ sym (ap (λ (c : Bool). if c then t else desks other) apart)
  ]

  caller_ends_in : (m : MixedWorld) (number : ℕ) (k : Channel) → m.pairs number ≡ Some k → (moment : Moment) → moment.now ≡ m.own.time → (x : Effect) (t : Desk)
      → IsEnded (LedgerStep plan (caller_of k)) k.caller.core moment (m.own.desks (caller_of k)) x t
      → PairEnded m number (record { core = x.core; ear = k.caller.ear }) k.receiver (with_desk m.own.desks (caller_of k) t)
  caller_ends_in m number k at moment now x t (inl reacts) =
      let l : Channel = caller_as k k.to_caller k.caller.ear x in
      let last : MixedWorld = done_between m number l (caller_of k) t in
      record {
        steps = Asks number Requestor input.Ended ∷ [];
        last = last;
        runs = (
          last,
          record { pair = k; there = at; may = tt; moment = moment; now = now; effect = x; after = t; reacts = reacts; is = refl },
          refl,
        );
        time = refl;
        same = λ name. refl;
        ends = λ n. refl;
        pair = l;
        there = pair_here m number l;
        caller_is = refl;
        receiver_is = refl;
        others = λ n apart. ap (λ (c : Bool). if c then Some l else m.pairs n) apart;
      }
  caller_ends_in m number k at moment now x t (inr (gone, same, still)) = record {
    steps = [];
    last = m;
    runs = refl;
    time = refl;
    same = desk_kept m.own.desks (caller_of k) t still;
    ends = λ n. refl;
    pair = k;
    there = at;
    caller_is = ap (λ (y : Effect). let z : LiveTerminal = record { core = y.core; ear = k.caller.ear } in z) (sym same);
    receiver_is = refl;
    others = λ n apart. refl;
  }

  receiver_ends_in : (m : MixedWorld) (number : ℕ) (k : Channel) → m.pairs number ≡ Some k → (moment : Moment) → moment.now ≡ m.own.time → (y : Effect) (u : Desk)
      → IsEnded (LedgerStep plan (receiver_of k)) k.receiver.core moment (m.own.desks (receiver_of k)) y u
      → PairEnded m number k.caller (record { core = y.core; ear = k.receiver.ear }) (with_desk m.own.desks (receiver_of k) u)
  receiver_ends_in m number k at moment now y u (inl reacts) =
      let l : Channel = receiver_as k k.to_receiver k.receiver.ear y in
      let last : MixedWorld = done_between m number l (receiver_of k) u in
      record {
        steps = Asks number Acceptor input.Ended ∷ [];
        last = last;
        runs = (
          last,
          record { pair = k; there = at; may = tt; moment = moment; now = now; effect = y; after = u; reacts = reacts; is = refl },
          refl,
        );
        time = refl;
        same = λ name. refl;
        ends = λ n. refl;
        pair = l;
        there = pair_here m number l;
        caller_is = refl;
        receiver_is = refl;
        others = λ n apart. ap (λ (c : Bool). if c then Some l else m.pairs n) apart;
      }
  receiver_ends_in m number k at moment now y u (inr (gone, same, still)) = record {
    steps = [];
    last = m;
    runs = refl;
    time = refl;
    same = desk_kept m.own.desks (receiver_of k) u still;
    ends = λ n. refl;
    pair = k;
    there = at;
    caller_is = refl;
    receiver_is = ap (λ (z : Effect). let v : LiveTerminal = record { core = z.core; ear = k.receiver.ear } in v) (sym same);
    others = λ n apart. refl;
  }

  -- ---- a link is another now, or is new

  -- what of a link is ours, by whether its ends are
  own_flags : (z : Channel) (c r : Bool) → ours (caller_of z) ≡ c → ours (receiver_of z) ≡ r → own_of ours z ≡ own_in c r z
  own_flags z c r e f = ap (λ (q : Bool). own_in q (ours (receiver_of z)) z) e ∙ ap (λ (q : Bool). own_in c q z) f

  pair_flags : (z : Channel) (c r : Bool) → ours (caller_of z) ≡ c → ours (receiver_of z) ≡ r → pair_of ours z ≡ pair_in c r z
  pair_flags z c r e f = ap (λ (q : Bool). pair_in q (ours (receiver_of z)) z) e ∙ ap (λ (q : Bool). pair_in c q z) f

  module _ (b : ByteWorld) (m : MixedWorld) (s : Stands b m) (number : ℕ) (l : Channel) (opened : ℕ) (more : b.opened ≤ opened) (known : (n : ℕ) → opened < n → n ≢ number) where
    here : map.get (map.insert b.links number l) number ≡ Some l
    here = get_new numbers b.links number l

    there : (n : ℕ) → eq_by_cmp nat_cmp n number ≡ false → map.get (map.insert b.links number l) n ≡ map.get b.links n
    there n apart = get_other numbers b.links number l n apart

    it_is : (n : ℕ) (k : Channel) → n ≡ number → map.get (map.insert b.links number l) n ≡ Some k → l ≡ k
    it_is n k same h = same_Some l k (sym here ∙ subst (λ (q : ℕ). map.get (map.insert b.links number l) q ≡ Some k) same h)

    none_here : (n : ℕ) → n ≡ number → map.get (map.insert b.links number l) n ≡ None → ⊥
    none_here n same none = none_some l (sym (subst (λ (q : ℕ). map.get (map.insert b.links number l) q ≡ None) same none) ∙ here)

    changed : (desks : Text → Desk) (next : MixedWorld) → next.own.time ≡ b.time → ((name : Text) → ours name ≡ true → next.own.desks name ≡ desks name)
        → next.own.ends number ≡ own_of ours l → next.pairs number ≡ pair_of ours l
        → ((n : ℕ) → (n == number) ≡ false → next.own.ends n ≡ m.own.ends n) → ((n : ℕ) → (n == number) ≡ false → next.pairs n ≡ m.pairs n)
        → Stands (record { time = b.time; desks = desks; links = map.insert b.links number l; opened = opened }) next
    changed desks next time same its_end its_pair others other_pairs = record {
      has = record {
        time = time;
        desks = same;
        ends = λ n k h. elim (place n number) [
          | inl it ↦ ap (λ (q : ℕ). next.own.ends q) it.0 ∙ (its_end ∙ ap (λ (z : Channel). own_of ours z) (it_is n k it.0 h))
          | inr not_it ↦ others n not_it.1 ∙ s.has.ends n k (sym (there n not_it.0) ∙ h)
        ];
        pairs = λ n k h. elim (place n number) [
          | inl it ↦ ap (λ (q : ℕ). next.pairs q) it.0 ∙ (its_pair ∙ ap (λ (z : Channel). pair_of ours z) (it_is n k it.0 h))
          | inr not_it ↦ other_pairs n not_it.1 ∙ s.has.pairs n k (sym (there n not_it.0) ∙ h)
        ];
        gone = λ n none e at. elim (place n number) [
          | inl it ↦ absurd (none_here n it.0 none)
          | inr not_it ↦ s.has.gone n (sym (there n not_it.0) ∙ none) e (sym (others n not_it.1) ∙ at)
        ];
        unpaired = λ n none. elim (place n number) [
          | inl it ↦ absurd (none_here n it.0 none)
          | inr not_it ↦ other_pairs n not_it.1 ∙ s.has.unpaired n (sym (there n not_it.0) ∙ none)
        ];
      };
      fresh = λ n less. elim (place n number) [
        | inl it ↦ absurd (known n less it.0)
        | inr not_it ↦
            let a : opened < n = less in
            let c : b.opened ≤ opened = more in
            let f = s.fresh n (omega (arith, a, c)) in
            (there n not_it.0 ∙ f.0, others n not_it.1 ∙ f.1, other_pairs n not_it.1 ∙ f.2)
      ];
    }

  -- ---- one step

  module _ (certified : IsCertified plan certificate) (b : ByteWorld) (m : MixedWorld) (s : Stands b m) (origin : Network) (seal : Certificate) (sound : IsCertified origin seal) (before : List MixedDeed) (ran : MixedRunsThrough ours origin seal mixed_beginning before plan certificate m) where
    stays : (new : ByteWorld) → new ≡ b → Goes m new
    stays new e = as_new m new b e ([], m, refl, s)

    -- a node alone
    abbrev called : Text → Desk → OwnWorld
    called node t = record { time = m.own.time; desks = with_desk m.own.desks node t; ends = m.own.ends }

    at_node : (node : Text) (t : Desk) (step : OwnStep) (new : ByteWorld) → (ours node ≡ true → MixedSteps ours plan certificate m (Alone step) (with_own m (called node t))) → new ≡ with_call b node t → Goes m new
    at_node node t step new f is = as_new m new (with_call b node t) is (elim (cases_Bool (ours node)) [
      | inl its ↦ one m (with_own m (called node t)) (Alone step) (with_call b node t) (f its) (record {
        has = record {
          time = s.has.time;
          desks = λ name mine. ap (λ (d : Desk). if same_text name node then t else d) (s.has.desks name mine);
          ends = s.has.ends;
          pairs = s.has.pairs;
          gone = s.has.gone;
          unpaired = s.has.unpaired;
        };
        fresh = s.fresh;
      })
      | inr away ↦ (
        [],
        m,
        refl,
        record {
          has = record {
            time = s.has.time;
            desks = λ name mine. s.has.desks name mine ∙ sym (other_desk b.desks node t name mine away);
            ends = s.has.ends;
            pairs = s.has.pairs;
            gone = s.has.gone;
            unpaired = s.has.unpaired;
          };
          fresh = s.fresh;
        },
      )
    ])

    does : (node : Text) (Does : Desk → Desk → Type 0) (t : Desk) → HasNode plan node → Does (b.desks node) t → ours node ≡ true → own.DoesAlone ours plan certificate m.own node Does (called node t)
    does node Does t is_node h its = record {
      is_node = is_node;
      own = its;
      after = t;
      does = subst (λ (d : Desk). Does d t) (sym (s.has.desks node its)) h;
      is = refl;
    }

    -- ---- at a link

    module _ (number : ℕ) (k : Channel) (at : map.get b.links number ≡ Some k) where
      known : (n : ℕ) → b.opened < n → n ≢ number
      known n less same = none_some k (sym (s.fresh number (subst (λ (q : ℕ). b.opened < q) same less)).0 ∙ at)

      end_there : (c r : Bool) → ours (caller_of k) ≡ c → ours (receiver_of k) ≡ r → m.own.ends number ≡ own_in c r k
      end_there c r e f = s.has.ends number k at ∙ own_flags k c r e f

      pair_there : (c r : Bool) → ours (caller_of k) ≡ c → ours (receiver_of k) ≡ r → m.pairs number ≡ pair_in c r k
      pair_there c r e f = s.has.pairs number k at ∙ pair_flags k c r e f

      -- at an end of ours whose peer is another product
      lone_done : (l : Channel) (e : OwnEnd) (t : Desk) (step : MixedStep) → own_of ours l ≡ Some e → pair_of ours l ≡ None → m.pairs number ≡ None
          → MixedSteps ours plan certificate m step (with_own m (own.with_done m.own number e t)) → Goes m (with_done b e.node t number l)
      lone_done l e t step is no_pair none h = one m (with_own m (own.with_done m.own number e t)) step (with_done b e.node t number l) h
          (changed b m s number l b.opened (omega arith) known (with_desk b.desks e.node t) (with_own m (own.with_done m.own number e t)) s.has.time
          (λ name its. ap (λ (d : Desk). if same_text name e.node then t else d) (s.has.desks name its))
          (ap (λ (c : Bool). if c then Some e else m.own.ends number) (eq-eqb number number refl) ∙ sym is)
          (none ∙ sym no_pair)
          (λ n away. ap (λ (c : Bool). if c then Some e else m.own.ends n) away)
          (λ n away. refl))

      -- at a link between two of ours
      pair_done : (l : Channel) (name : Text) (t : Desk) (step : MixedStep) → own_of ours l ≡ None → pair_of ours l ≡ Some l → m.own.ends number ≡ None
          → MixedSteps ours plan certificate m step (done_between m number l name t) → Goes m (with_done b name t number l)
      pair_done l name t step no_own is none h = one m (done_between m number l name t) step (with_done b name t number l) h
          (changed b m s number l b.opened (omega arith) known (with_desk b.desks name t) (done_between m number l name t) s.has.time
          (λ other its. ap (λ (d : Desk). if same_text other name then t else d) (s.has.desks other its))
          (none ∙ sym no_own)
          (pair_here m number l ∙ sym is)
          (λ n away. refl)
          (λ n away. ap (λ (c : Bool). if c then Some l else m.pairs n) away))

      -- at an end that isn't ours
      elsewhere : (l : Channel) (node : Text) (t : Desk) → own_of ours l ≡ own_of ours k → pair_of ours l ≡ pair_of ours k → ours node ≡ false → Goes m (with_done b node t number l)
      elsewhere l node t is also away = (
        [],
        m,
        refl,
        changed b m s number l b.opened (omega arith) known (with_desk b.desks node t) m s.has.time
            (λ name its. s.has.desks name its ∙ sym (other_desk b.desks node t name its away)) (s.has.ends number k at ∙ sym is) (s.has.pairs number k at ∙ sym also) (λ n apart. refl) (λ n apart. refl),
      )

      module _ (wire : List ℕ) (ear : Feeding) (x : Effect) (t : Desk) where
        abbrev caller_now : OwnEnd
        caller_now = record { side = Requestor; node = caller_of k; terminal = record { core = x.core; ear = ear } }

        abbrev receiver_now : OwnEnd
        receiver_now = record { side = Acceptor; node = receiver_of k; terminal = record { core = x.core; ear = ear } }

        -- a step at the caller, alone or not
        caller_done : x.core.site ≡ k.caller.core.site
            → (ours (caller_of k) ≡ true → ours (receiver_of k) ≡ false → (step : MixedStep) × MixedSteps ours plan certificate m step (with_own m (own.with_done m.own number caller_now t)))
            → (ours (caller_of k) ≡ true → ours (receiver_of k) ≡ true → (step : MixedStep) × MixedSteps ours plan certificate m step (done_between m number (caller_as k wire ear x) (caller_of k) t))
            → Goes m (with_done b (caller_of k) t number (caller_as k wire ear x))
        caller_done site alone between =
            let l : Channel = caller_as k wire ear x in
            let same : caller_of l ≡ caller_of k = ap (λ (p : Option Part). (site_in p).name) site in
            elim (cases_Bool (ours (caller_of k))) [
              | inl its ↦ elim (cases_Bool (ours (receiver_of k))) [
                | inl also ↦
                    let step = between its also in
                    pair_done l (caller_of k) t step.0 (own_flags l true true (ap ours same ∙ its) also) (pair_flags l true true (ap ours same ∙ its) also) (end_there true true its also) step.1
                | inr away ↦
                    let step = alone its away in
                    lone_done l caller_now t step.0 (own_flags l true false (ap ours same ∙ its) away ∙ ap (λ (n : Text). Some (end_at Requestor n l.caller)) same)
                    (pair_flags l true false (ap ours same ∙ its) away) (pair_there true false its away) step.1
              ]
              | inr away ↦ elsewhere l (caller_of k) t
                  (own_flags l false (ours (receiver_of k)) (ap ours same ∙ away) refl ∙ (by_receiver (ours (receiver_of k)) ∙ sym (own_flags k false (ours (receiver_of k)) away refl)))
                  (pair_flags l false (ours (receiver_of k)) (ap ours same ∙ away) refl ∙ (no_pair_here (ours (receiver_of k)) ∙ sym (pair_flags k false (ours (receiver_of k)) away refl))) away
            ]
          where
            by_receiver : (r : Bool) → own_in false r (caller_as k wire ear x) ≡ own_in false r k
            by_receiver true = refl
            by_receiver false = refl

            no_pair_here : (r : Bool) → pair_in false r (caller_as k wire ear x) ≡ pair_in false r k
            no_pair_here true = refl
            no_pair_here false = refl

        -- and at the receiver
        receiver_done : x.core.site ≡ k.receiver.core.site
            → (ours (caller_of k) ≡ false → ours (receiver_of k) ≡ true → (step : MixedStep) × MixedSteps ours plan certificate m step (with_own m (own.with_done m.own number receiver_now t)))
            → (ours (caller_of k) ≡ true → ours (receiver_of k) ≡ true → (step : MixedStep) × MixedSteps ours plan certificate m step (done_between m number (receiver_as k wire ear x) (receiver_of k) t))
            → Goes m (with_done b (receiver_of k) t number (receiver_as k wire ear x))
        receiver_done site alone between =
            let l : Channel = receiver_as k wire ear x in
            let same : receiver_of l ≡ receiver_of k = ap (λ (p : Option Part). (site_in p).name) site in
            elim (cases_Bool (ours (receiver_of k))) [
              | inl its ↦ elim (cases_Bool (ours (caller_of k))) [
                | inl also ↦
                    let step = between also its in
                    pair_done l (receiver_of k) t step.0 (own_flags l true true also (ap ours same ∙ its)) (pair_flags l true true also (ap ours same ∙ its)) (end_there true true also its) step.1
                | inr away ↦
                    let step = alone away its in
                    lone_done l receiver_now t step.0 (own_flags l false true away (ap ours same ∙ its) ∙ ap (λ (n : Text). Some (end_at Acceptor n l.receiver)) same)
                    (pair_flags l false true away (ap ours same ∙ its)) (pair_there false true away its) step.1
              ]
              | inr away ↦ elsewhere l (receiver_of k) t
                  (own_flags l (ours (caller_of k)) false refl (ap ours same ∙ away) ∙ (by_caller (ours (caller_of k)) ∙ sym (own_flags k (ours (caller_of k)) false refl away)))
                  (pair_flags l (ours (caller_of k)) false refl (ap ours same ∙ away) ∙ (no_pair_there (ours (caller_of k)) ∙ sym (pair_flags k (ours (caller_of k)) false refl away))) away
            ]
          where
            by_caller : (c : Bool) → own_in c false (receiver_as k wire ear x) ≡ own_in c false k
            by_caller true = refl
            by_caller false = refl

            no_pair_there : (c : Bool) → pair_in c false (receiver_as k wire ear x) ≡ pair_in c false k
            no_pair_there true = refl
            no_pair_there false = refl

      -- ---- what is asked of an end, or happens to it

      met_at : (side : Side) (node : Text) (end : LiveTerminal) (i : Input) (moment : Moment) (x : Effect) (t : Desk) → own.MayMeet i side
          → m.own.ends number ≡ Some (end_at side node end) → moment.now ≡ b.time
          → Reacts (LedgerStep plan node) end.core (at_moment moment i) (b.desks node) x t → ours node ≡ true
          → (step : MixedStep) × MixedSteps ours plan certificate m step (with_own m (own.with_done m.own number (record { side = side; node = node; terminal = record { core = x.core; ear = end.ear } }) t))
      met_at side node end i moment x t may is now reacts its = (
        Alone (own.Meets number i),
        (
          tt,
          (
            own.with_done m.own number (record { side = side; node = node; terminal = record { core = x.core; ear = end.ear } }) t,
            record {
              end = record { side = side; node = node; terminal = end };
              there = is;
              may = may;
              moment = moment;
              now = now ∙ sym s.has.time;
              effect = x;
              after = t;
              reacts = subst (λ (d : Desk). Reacts (LedgerStep plan node) end.core (at_moment moment i) d x t) (sym (s.has.desks node its)) reacts;
              is = refl;
            },
            refl,
          ),
        ),
      )

      caller_meets : (i : Input) → own.MayMeet i Requestor → MayAsk Requestor k.caller.core i → (new : ByteWorld) → bytes.CallerMeets plan b number k i new → Goes m new
      caller_meets i may asked new (moment, x, t, is_moment, reacts, is) = as_new m new (with_done b (caller_of k) t number (caller_as k k.to_caller k.caller.ear x)) is
          (caller_done k.to_caller k.caller.ear x t (reacts_keep (LedgerStep plan (caller_of k)) k.caller.core (at_moment moment i) (b.desks (caller_of k)) x t reacts)
          (λ its away. met_at Requestor (caller_of k) k.caller i moment x t may (end_there true false its away) is_moment.0 reacts its)
          (λ its also. (
            Asks number Requestor i,
            record {
              pair = k;
              there = pair_there true true its also;
              may = asked;
              moment = moment;
              now = is_moment.0 ∙ sym s.has.time;
              effect = x;
              after = t;
              reacts = subst (λ (d : Desk). Reacts (LedgerStep plan (caller_of k)) k.caller.core (at_moment moment i) d x t) (sym (s.has.desks (caller_of k) its)) reacts;
              is = refl;
            },
          )))

      receiver_meets : (i : Input) → own.MayMeet i Acceptor → MayAsk Acceptor k.receiver.core i → (new : ByteWorld) → bytes.ReceiverMeets plan b number k i new → Goes m new
      receiver_meets i may asked new (moment, x, t, is_moment, reacts, is) = as_new m new (with_done b (receiver_of k) t number (receiver_as k k.to_receiver k.receiver.ear x)) is
          (receiver_done k.to_receiver k.receiver.ear x t (reacts_keep (LedgerStep plan (receiver_of k)) k.receiver.core (at_moment moment i) (b.desks (receiver_of k)) x t reacts)
          (λ away its. met_at Acceptor (receiver_of k) k.receiver i moment x t may (end_there false true away its) is_moment.0 reacts its)
          (λ also its. (
            Asks number Acceptor i,
            record {
              pair = k;
              there = pair_there true true also its;
              may = asked;
              moment = moment;
              now = is_moment.0 ∙ sym s.has.time;
              effect = x;
              after = t;
              reacts = subst (λ (d : Desk). Reacts (LedgerStep plan (receiver_of k)) k.receiver.core (at_moment moment i) d x t) (sym (s.has.desks (receiver_of k) its)) reacts;
              is = refl;
            },
          )))

      pushes : (go : Bool) → is_free k.caller.core ≡ go → (note : StepNote) (new : ByteWorld) → bytes.PushesIf go plan b number k note new → Goes m new
      pushes true ready note new (moment, x, t, is_moment, noted, reacts, is) = caller_meets input.PushAsked refl ready new (moment, x, t, is_moment, reacts, is)
      pushes false ready note new h = stays new h.1

      does_if : (go : Bool) (note : StepNote) (new : ByteWorld) (What : Type 0) → (go ≡ true → What → Goes m new) → bytes.DoesIf go b note new What → Goes m new
      does_if true note new What f h = f refl h.1
      does_if false note new What f h = stays new h.1

      meets : (side : Side) (i : Input) → own.MayMeet i Requestor → own.MayMeet i Acceptor → MayAsk side (bytes.core_at k side) i → (new : ByteWorld) → bytes.Meets plan b number k side i new → Goes m new
      meets Requestor i may also asked new h = caller_meets i may asked new h
      meets Acceptor i may also asked new h = receiver_meets i also asked new h

      -- ---- bytes

      heard_at : (side : Side) (node : Text) (end : LiveTerminal) (piece : List ℕ) (moment : Moment) (ear : Feeding) (x : Effect) (t : Desk) → is_over end.core ≡ false
          → (side ≡ Acceptor → NoneCallsAsOurs ours end.ear piece ear)
          → m.own.ends number ≡ Some (end_at side node end) → moment.now ≡ b.time
          → PlaysBytes (LedgerStep plan node) moment end.ear end.core piece (b.desks node) ear x t → ours node ≡ true
          → (step : MixedStep) × MixedSteps ours plan certificate m step (with_own m (own.with_done m.own number (record { side = side; node = node; terminal = record { core = x.core; ear = ear } }) t))
      heard_at side node end piece moment ear x t on none is now plays its = (
        Alone (own.Hears number (heard.Bytes piece)),
        (
          tt,
          (
            own.with_done m.own number (record { side = side; node = node; terminal = record { core = x.core; ear = ear } }) t,
            record {
              end = record { side = side; node = node; terminal = end };
              there = is;
              moment = moment;
              now = now ∙ sym s.has.time;
              acts = x.acts;
              left = record { ear = ear; core = Some x.core };
              core = x.core;
              after = t;
              none = none;
              hears = subst (λ (gone : Bool). HearsPiece (LedgerStep plan node) gone moment piece end.core (end_of end) (m.own.desks node) (Ok x.acts) (record { ear = ear; core = Some x.core }) t) (sym on)
                  (x, subst (λ (d : Desk). PlaysBytes (LedgerStep plan node) moment end.ear end.core piece d ear x t) (sym (s.has.desks node its)) plays, refl, refl);
              lives = refl;
              is = refl;
            },
            refl,
          ),
        ),
      )

      -- whom a node of ours counts is the same in both
      open_in : (name : Text) → ours name ≡ true → (other : ℕ) (l : Channel) → map.get b.links other ≡ Some l → receiver_of l ≡ name → is_open (state_of l.receiver.core.phase) ≡ true → IsOpenAt m name other
      open_in name its other l found named is = elim (cases_Bool (ours (caller_of l))) [
        | inl also ↦ inr (l, s.has.pairs other l found ∙ pair_flags l true true also (ap ours named ∙ its), named, is)
        | inr away ↦ inl (end_at Acceptor (receiver_of l) l.receiver, s.has.ends other l found ∙ own_flags l false true away (ap ours named ∙ its), refl, named, is)
      ]

      over_not_open : (c : Core) → is_over c ≡ true → is_open (state_of c.phase) ≡ true → ⊥
      over_not_open c over is = by (state_of c.phase) over is
        where
          by : (z : State) → is_gone z ≡ true → is_open z ≡ true → ⊥
          by z h g = absurd (gone_not_open z h g)

      is_acceptor : (l : Channel) (e : OwnEnd) (c r : Bool) → own_in c r l ≡ Some e → e.side ≡ Acceptor → end_at Acceptor (receiver_of l) l.receiver ≡ e
      is_acceptor l e true true f side = absurd (no_end e f)
      is_acceptor l e true false f side =
          let same : end_at Requestor (caller_of l) l.caller ≡ e = same_Some (end_at Requestor (caller_of l) l.caller) e f in
          let g : Requestor ≡ Acceptor = ap (λ (z : OwnEnd). z.side) same ∙ side in
          absurd (cc g)
      is_acceptor l e false true f side = same_Some (end_at Acceptor (receiver_of l) l.receiver) e f
      is_acceptor l e false false f side = absurd (no_end e f)

      open_out : (name : Text) (other : ℕ) → IsOpenAt m name other → (l : Channel) × (map.get b.links other ≡ Some l) × (receiver_of l ≡ name) × (is_open (state_of l.receiver.core.phase) ≡ true)
      open_out name other (inl (e, there, side, named, is)) = by_link (map.get b.links other) refl
        where
          by_link : (q : Option Channel) → map.get b.links other ≡ q → (l : Channel) × (map.get b.links other ≡ Some l) × (receiver_of l ≡ name) × (is_open (state_of l.receiver.core.phase) ≡ true)
          by_link None found = absurd (over_not_open e.terminal.core (s.has.gone other found e there) is)
          by_link (Some l) found =
              let same = is_acceptor l e (ours (caller_of l)) (ours (receiver_of l)) (sym (s.has.ends other l found) ∙ there) side in
              (l, found, ap (λ (z : OwnEnd). z.node) same ∙ named, ap (λ (z : OwnEnd). is_open (state_of z.terminal.core.phase)) same ∙ is)
      open_out name other (inr (l, there, named, is)) = by_link (map.get b.links other) refl
        where
          by_link : (q : Option Channel) → map.get b.links other ≡ q → (z : Channel) × (map.get b.links other ≡ Some z) × (receiver_of z ≡ name) × (is_open (state_of z.receiver.core.phase) ≡ true)
          by_link None found = absurd (none_some l (sym (s.has.unpaired other found) ∙ there))
          by_link (Some z) found =
              let same = (pair_is (ours (caller_of z)) (ours (receiver_of z)) z l (sym (s.has.pairs other z found) ∙ there)).0 in
              (z, found, ap (λ (y : Channel). receiver_of y) same ∙ named, ap (λ (y : Channel). is_open (state_of y.receiver.core.phase)) same ∙ is)

      counts : (name : Text) → ours name ≡ true → (count : ℕ) (all : List ℕ) → bytes.AreOthers b number name all → count ≡ length all → CountsOthers m number name count
      counts name its count all others is = (
        all,
        others.0,
        λ other. (
          λ among. (let o = (others.1 other).0 among in (o.0, open_in name its other o.1.0 o.1.1 o.1.2 o.1.3)),
          λ o. (others.1 other).1 (o.0, open_out name other o.1),
        ),
        is,
      )

      caller_hears : (n : ℕ) → is_over k.caller.core ≡ false → k.to_caller ≢ [] → (new : ByteWorld) → bytes.CallerHears plan b number k n new → Goes m new
      caller_hears n on some new (q, moment, ear, x, t, moved, is_moment, plays, is) = as_new m new (with_done b (caller_of k) t number (caller_as k (drop q k.to_caller) ear x)) is
          (caller_done (drop q k.to_caller) ear x t
          (bytes_keep (LedgerStep plan (caller_of k)) moment k.caller.ear k.caller.core (take q k.to_caller) (b.desks (caller_of k)) ear x t plays)
          (λ its away. heard_at Requestor (caller_of k) k.caller (take q k.to_caller) moment ear x t on (λ e. absurd (cc e)) (end_there true false its away) is_moment.0 plays its)
          (λ its also. (
            Moves number Requestor q,
            record {
              pair = k;
              there = pair_there true true its also;
              some = some;
              within = λ front left isleft. (moved.1 front left isleft).0;
              moment = moment;
              now = is_moment.0 ∙ sym s.has.time;
              ear = ear;
              effect = x;
              after = t;
              plays = subst (λ (d : Desk). PlaysBytes (LedgerStep plan (caller_of k)) moment k.caller.ear k.caller.core (take q k.to_caller) d ear x t) (sym (s.has.desks (caller_of k) its)) plays;
              is = refl;
            },
          )))

      receiver_hears : (n : ℕ) → is_over k.receiver.core ≡ false → k.to_receiver ≢ [] → (ours (receiver_of k) ≡ true → ours (caller_of k) ≡ false → NoneNamesOurs ours k) → (new : ByteWorld)
          → bytes.ReceiverHears plan b number k n new → Goes m new
      receiver_hears n on some none new (q, moment, ear, x, t, moved, is_moment, plays, is) = as_new m new (with_done b (receiver_of k) t number (receiver_as k (drop q k.to_receiver) ear x)) is
          (receiver_done (drop q k.to_receiver) ear x t
          (bytes_keep (LedgerStep plan (receiver_of k)) moment k.receiver.ear k.receiver.core (take q k.to_receiver) (b.desks (receiver_of k)) ear x t plays)
          (λ away its. heard_at Acceptor (receiver_of k) k.receiver (take q k.to_receiver) moment ear x t on (λ e. none its away q ear) (end_there false true away its) is_moment.0 plays its)
          (λ also its. (
            Moves number Acceptor q,
            record {
              pair = k;
              there = pair_there true true also its;
              some = some;
              within = λ front left isleft. (moved.1 front left isleft).0;
              moment = moment;
              now = is_moment.0 ∙ sym s.has.time;
              counted = counts (receiver_of k) its moment.others is_moment.1.0 is_moment.1.1 is_moment.1.2;
              ear = ear;
              effect = x;
              after = t;
              plays = subst (λ (d : Desk). PlaysBytes (LedgerStep plan (receiver_of k)) moment k.receiver.ear k.receiver.core (take q k.to_receiver) d ear x t) (sym (s.has.desks (receiver_of k) its)) plays;
              is = refl;
            },
          )))

      some_there : (y : ℕ) (ys wire : List ℕ) → wire ≡ y ∷ ys → wire ≢ []
      some_there y ys wire e f = (let g : y ∷ ys ≡ [] = sym e ∙ f in cc g)

      caller_reads : (wire : List ℕ) → k.to_caller ≡ wire → (n : ℕ) → is_over k.caller.core ≡ false → (note : StepNote) (new : ByteWorld) → bytes.CallerReads wire plan b number k n note new → Goes m new
      caller_reads [] e n on note new h = does_if (nat_le 1 n && is_over k.receiver.core) note new (bytes.CallerMeets plan b number k input.Ended new) (λ go. caller_meets input.Ended tt tt new) h
      caller_reads (y ∷ ys) e n on note new h = does_if (nat_le 1 n) note new (bytes.CallerHears plan b number k n new) (λ go. caller_hears n on (some_there y ys k.to_caller e) new) h

      receiver_reads : (wire : List ℕ) → k.to_receiver ≡ wire → (n : ℕ) → is_over k.receiver.core ≡ false → (ours (receiver_of k) ≡ true → ours (caller_of k) ≡ false → NoneNamesOurs ours k) → (note : StepNote) (new : ByteWorld)
          → bytes.ReceiverReads wire plan b number k n note new → Goes m new
      receiver_reads [] e n on none note new h = does_if (nat_le 1 n && is_over k.caller.core) note new (bytes.ReceiverMeets plan b number k input.Ended new) (λ go. receiver_meets input.Ended tt tt new) h
      receiver_reads (y ∷ ys) e n on none note new h = does_if (nat_le 1 n) note new (bytes.ReceiverHears plan b number k n new) (λ go. receiver_hears n on (some_there y ys k.to_receiver e) none new) h

      reads_if : (over : Bool) (core : Core) → is_over core ≡ over → (note : StepNote) (new : ByteWorld) (What : Type 0) → (is_over core ≡ false → What → Goes m new) → bytes.ReadsIf over b note new What → Goes m new
      reads_if true core e note new What f h = stays new h.1
      reads_if false core e note new What f h = f e h

      -- ---- both ends have their connections ended

      module _ (early late : Moment) (x y : Effect) (t u : Desk) (early_is : early.now ≡ b.time) (late_is : late.now ≡ b.time) (r : IsEnded (LedgerStep plan (receiver_of k)) k.receiver.core early (b.desks (receiver_of k)) y u)
          (c : IsEnded (LedgerStep plan (caller_of k)) k.caller.core late (with_desk b.desks (receiver_of k) u (caller_of k)) x t) where
        abbrev l : Channel
        l = closed k x y

        abbrev desks : Text → Desk
        desks = with_desk (with_desk b.desks (receiver_of k) u) (caller_of k) t

        caller_same : caller_of l ≡ caller_of k
        caller_same = ap (λ (p : Option Part). (site_in p).name) (ended_keeps (caller_of k) k.caller.core late (with_desk b.desks (receiver_of k) u (caller_of k)) x t c)

        receiver_same : receiver_of l ≡ receiver_of k
        receiver_same = ap (λ (p : Option Part). (site_in p).name) (ended_keeps (receiver_of k) k.receiver.core early (b.desks (receiver_of k)) y u r)

        both_away : ours (caller_of k) ≡ false → ours (receiver_of k) ≡ false → (name : Text) → ours name ≡ true → m.own.desks name ≡ desks name
        both_away away too name mine = s.has.desks name mine ∙ (sym (other_desk b.desks (receiver_of k) u name mine too) ∙ sym (other_desk (with_desk b.desks (receiver_of k) u) (caller_of k) t name mine away))

        abbrev closed_world : ByteWorld
        closed_world = with_done (with_call b (receiver_of k) u) (caller_of k) t number l

        ours_calls : ours (caller_of k) ≡ true → ours (receiver_of k) ≡ false → Goes m closed_world
        ours_calls its away =
            let e : OwnEnd = record { side = Requestor; node = caller_of k; terminal = k.caller } in
            let desk_is : with_desk b.desks (receiver_of k) u (caller_of k) ≡ m.own.desks (caller_of k) = other_desk b.desks (receiver_of k) u (caller_of k) its away ∙ sym (s.has.desks (caller_of k) its) in
            let h = ended_step m number e (end_there true false its away) late (late_is ∙ sym s.has.time) x t (subst (λ (d : Desk). IsEnded (LedgerStep plan (caller_of k)) k.caller.core late d x t) desk_is c) in
            let next_end : OwnEnd = record { side = Requestor; node = caller_of k; terminal = record { core = x.core; ear = k.caller.ear } } in
            let next : MixedWorld = with_own m (own.with_done m.own number next_end t) in
            one m next h.0 closed_world h.1 (changed b m s number l b.opened (omega arith) known desks next s.has.time
            (λ name mine. ap (λ (d : Desk). if same_text name (caller_of k) then t else d) (s.has.desks name mine ∙ sym (other_desk b.desks (receiver_of k) u name mine away)))
            (ap (λ (q : Bool). if q then Some next_end else m.own.ends number) (eq-eqb number number refl)
            ∙ sym (own_flags l true false (ap ours caller_same ∙ its) (ap ours receiver_same ∙ away) ∙ ap (λ (n : Text). Some (end_at Requestor n l.caller)) caller_same))
            (pair_there true false its away ∙ sym (pair_flags l true false (ap ours caller_same ∙ its) (ap ours receiver_same ∙ away)))
            (λ n apart. ap (λ (q : Bool). if q then Some next_end else m.own.ends n) apart) (λ n apart. refl))

        ours_receives : ours (caller_of k) ≡ false → ours (receiver_of k) ≡ true → Goes m closed_world
        ours_receives away its =
            let e : OwnEnd = record { side = Acceptor; node = receiver_of k; terminal = k.receiver } in
            let h = ended_step m number e (end_there false true away its) early (early_is ∙ sym s.has.time) y u (subst (λ (d : Desk). IsEnded (LedgerStep plan (receiver_of k)) k.receiver.core early d y u) (sym (s.has.desks (receiver_of k) its)) r) in
            let next_end : OwnEnd = record { side = Acceptor; node = receiver_of k; terminal = record { core = y.core; ear = k.receiver.ear } } in
            let next : MixedWorld = with_own m (own.with_done m.own number next_end u) in
            one m next h.0 closed_world h.1 (changed b m s number l b.opened (omega arith) known desks next s.has.time
            (λ name mine. ap (λ (d : Desk). if same_text name (receiver_of k) then u else d) (s.has.desks name mine) ∙ sym (other_desk (with_desk b.desks (receiver_of k) u) (caller_of k) t name mine away))
            (ap (λ (q : Bool). if q then Some next_end else m.own.ends number) (eq-eqb number number refl)
            ∙ sym (own_flags l false true (ap ours caller_same ∙ away) (ap ours receiver_same ∙ its) ∙ ap (λ (n : Text). Some (end_at Acceptor n l.receiver)) receiver_same))
            (pair_there false true away its ∙ sym (pair_flags l false true (ap ours caller_same ∙ away) (ap ours receiver_same ∙ its)))
            (λ n apart. ap (λ (q : Bool). if q then Some next_end else m.own.ends n) apart) (λ n apart. refl))

        abbrev emptied_of : LiveTerminal → LiveTerminal → Channel
        emptied_of v w = record { caller = v; receiver = w; to_caller = []; to_receiver = [] }

        -- between two of ours: the acceptor's end, then the requestor's, and then the wires
        both_ours : ours (caller_of k) ≡ true → ours (receiver_of k) ≡ true → Goes m closed_world
        both_ours its also =
            let first = receiver_ends_in m number k (pair_there true true its also) early (early_is ∙ sym s.has.time) y u (subst (λ (d : Desk). IsEnded (LedgerStep plan (receiver_of k)) k.receiver.core early d y u) (sym (s.has.desks (receiver_of k) also)) r) in
            let p : Channel = first.pair in
            let name_is : caller_of p ≡ caller_of k = ap (λ (z : LiveTerminal). (site_in z.core.site).name) first.caller_is in
            let desk_is : with_desk b.desks (receiver_of k) u (caller_of k) ≡ first.last.own.desks (caller_of k) =
            sym (first.same (caller_of k) ∙ ap (λ (d : Desk). if same_text (caller_of k) (receiver_of k) then u else d) (s.has.desks (caller_of k) its)) in
            let ended : IsEnded (LedgerStep plan (caller_of k)) p.caller.core late (first.last.own.desks (caller_of k)) x t =
            subst (λ (z : LiveTerminal). IsEnded (LedgerStep plan (caller_of k)) z.core late (first.last.own.desks (caller_of k)) x t) (sym first.caller_is)
            (subst (λ (d : Desk). IsEnded (LedgerStep plan (caller_of k)) k.caller.core late d x t) desk_is c) in
            let second = caller_ends_in first.last number p first.there late (late_is ∙ sym (first.time ∙ s.has.time)) x t
            (subst (λ (n : Text). IsEnded (LedgerStep plan n) p.caller.core late (first.last.own.desks n) x t) (sym name_is) ended) in
            let q : Channel = second.pair in
            let z : Channel = record { caller = q.caller; receiver = q.receiver; to_caller = []; to_receiver = [] } in
            let next : MixedWorld = record { own = second.last.own; pairs = with_pair second.last.pairs number z } in
            let caller_is : q.caller ≡ record { core = x.core; ear = k.caller.ear } = second.caller_is ∙ ap (λ (v : LiveTerminal). let w : LiveTerminal = record { core = x.core; ear = v.ear } in w) first.caller_is in
            let receiver_is : q.receiver ≡ record { core = y.core; ear = k.receiver.ear } = second.receiver_is ∙ first.receiver_is in
            let x_end : LiveTerminal = record { core = x.core; ear = k.caller.ear } in
            let z_is : z ≡ l = ap (λ (v : LiveTerminal). emptied_of v q.receiver) caller_is ∙ ap (λ (v : LiveTerminal). emptied_of x_end v) receiver_is in
            let over_x : is_over x.core ≡ true = ap is_gone (ended_over (LedgerStep plan (caller_of k)) late k.caller.core t x (with_desk b.desks (receiver_of k) u (caller_of k)) c) in
            let over_y : is_over y.core ≡ true = ap is_gone (ended_over (LedgerStep plan (receiver_of k)) early k.receiver.core u y (b.desks (receiver_of k)) r) in
            let emptied : MixedRuns ours plan certificate second.last (Empties number ∷ []) next = (
              next,
              record {
                pair = q;
                there = second.there;
                over = (ap (λ (v : LiveTerminal). is_over v.core) caller_is ∙ over_x, ap (λ (v : LiveTerminal). is_over v.core) receiver_is ∙ over_y);
                is = refl;
              },
              refl,
            ) in (
              first.steps ++ (second.steps ++ Empties number ∷ []),
              next,
              runs_then first.steps (second.steps ++ Empties number ∷ []) m first.last next first.runs (runs_then second.steps (Empties number ∷ []) first.last second.last next second.runs emptied),
              changed b m s number l b.opened (omega arith) known desks next (second.time ∙ (first.time ∙ s.has.time))
                  (λ name mine. second.same name
                  ∙ (ap (λ (n : Text). with_desk first.last.own.desks n t name) name_is
                  ∙ ap (λ (d : Desk). if same_text name (caller_of k) then t else d) (first.same name ∙ ap (λ (d : Desk). if same_text name (receiver_of k) then u else d) (s.has.desks name mine))))
                  (second.ends number ∙ (first.ends number ∙ (end_there true true its also ∙ sym (own_flags l true true (ap ours caller_same ∙ its) (ap ours receiver_same ∙ also)))))
                  (ap (λ (e : Bool). if e then Some z else second.last.pairs number) (eq-eqb number number refl)
                  ∙ (ap (λ (v : Channel). Some v) z_is ∙ sym (pair_flags l true true (ap ours caller_same ∙ its) (ap ours receiver_same ∙ also))))
                  (λ n apart. second.ends n ∙ first.ends n)
                  (λ n apart. ap (λ (e : Bool). if e then Some z else second.last.pairs n) apart ∙ (second.others n apart ∙ first.others n apart)),
            )

        both_closed : Goes m closed_world
        both_closed = elim (cases_Bool (ours (caller_of k))) [
          | inl its ↦ elim (cases_Bool (ours (receiver_of k))) [
            | inl also ↦ both_ours its also
            | inr away ↦ ours_calls its away
          ]
          | inr away ↦ elim (cases_Bool (ours (receiver_of k))) [
            | inl also ↦ ours_receives away also
            | inr too ↦ (
              [],
              m,
              refl,
              changed b m s number l b.opened (omega arith) known desks m s.has.time (both_away away too)
                  (end_there false false away too ∙ sym (own_flags l false false (ap ours caller_same ∙ away) (ap ours receiver_same ∙ too)))
                  (pair_there false false away too ∙ sym (pair_flags l false false (ap ours caller_same ∙ away) (ap ours receiver_same ∙ too))) (λ n apart. refl) (λ n apart. refl),
            )
          ]
        ]

      closes : (new : ByteWorld) → bytes.Closes plan b number k new → Goes m new
      closes new (early, late, x, y, t, u, early_is, late_is, r, c, is) = as_new m new (with_done (with_call b (receiver_of k) u) (caller_of k) t number (closed k x y)) is (both_closed early late x y t u early_is late_is r c)

      -- ---- what another product writes

      overwritten : WritesFit ours b number → (side : Side) (piece : List ℕ) (new : ByteWorld) → WritesIn (Some k) b number side piece new → Goes m new
      overwritten fits side piece new is =
          let l : Channel = with_written side piece k in
          let caller : k.caller ≡ l.caller = caller_still side in
          let receiver : k.receiver ≡ l.receiver = receiver_still side in
          let caller_is : ours (caller_of l) ≡ ours (caller_of k) = ap (λ (t : LiveTerminal). ours (site_in t.core.site).name) (sym caller) in
          let receiver_is : ours (receiver_of l) ≡ ours (receiver_of k) = ap (λ (t : LiveTerminal). ours (site_in t.core.site).name) (sym receiver) in
          let same : own_of ours k ≡ own_of ours l = own_alike (ours (caller_of k)) (ours (receiver_of k)) k l caller receiver
          ∙ sym (own_flags l (ours (caller_of k)) (ours (receiver_of k)) caller_is receiver_is) in
          let also : pair_of ours k ≡ pair_of ours l = lone_alike (ours (caller_of k)) (ours (receiver_of k)) k l (λ its. fits k at its)
          ∙ sym (pair_flags l (ours (caller_of k)) (ours (receiver_of k)) caller_is receiver_is) in
          as_new m new (record { time = b.time; desks = b.desks; links = map.insert b.links number l; opened = b.opened }) is (
            [],
            m,
            refl,
            changed b m s number l b.opened (omega arith) known b.desks m s.has.time s.has.desks (s.has.ends number k at ∙ same) (s.has.pairs number k at ∙ also) (λ n apart. refl) (λ n apart. refl),
          )
        where
          caller_still : (z : Side) → k.caller ≡ (with_written z piece k).caller
          caller_still Requestor = refl
          caller_still Acceptor = refl

          receiver_still : (z : Side) → k.receiver ≡ (with_written z piece k).receiver
          receiver_still Requestor = refl
          receiver_still Acceptor = refl

    at_link : (number : ℕ) (note : StepNote) (new : ByteWorld) (What : Channel → Type 0) → ((k : Channel) → map.get b.links number ≡ Some k → What k → Goes m new)
        → (q : Option Channel) → map.get b.links number ≡ q → bytes.LinkStep q b note new What → Goes m new
    at_link number note new What f None e h = stays new h.1
    at_link number note new What f (Some k) e h = f k e h

    moves : (number : ℕ) (side : Side) (n : ℕ) (note : StepNote) (new : ByteWorld) → StepFits ours b (bytes.Move number side n) → (k : Channel) → map.get b.links number ≡ Some k
        → bytes.Moves plan b number k side n note new → Goes m new
    moves number Requestor n note new fits k e h = reads_if number k e (is_over k.caller.core) k.caller.core refl note new (bytes.CallerReads k.to_caller plan b number k n note new)
        (λ on d. caller_reads number k e k.to_caller refl n on note new d) h
    moves number Acceptor n note new fits k e h = reads_if number k e (is_over k.receiver.core) k.receiver.core refl note new (bytes.ReceiverReads k.to_receiver plan b number k n note new)
        (λ on d. receiver_reads number k e k.to_receiver refl n on (λ its away. fits k e its away) note new d) h

    -- ---- opening

    module _ (from to : Text) (caller receiver : Part) (rq : AssociateRq) (hop : Hop) (is_from : IsPartOf plan certificate caller) (named_from : caller.name ≡ from)
        (is_to : IsPartOf plan certificate receiver) (named_to : receiver.name ≡ to) (hop_is : IsHopTo caller to hop) (proposal : IsProposal caller to rq) where
      abbrev next_number : ℕ
      next_number = b.opened + 1

      abbrev fresh_link : Channel
      fresh_link = opened_between caller receiver rq b.time

      abbrev linked_world : ByteWorld
      linked_world = record { time = b.time; desks = b.desks; links = map.insert b.links next_number fresh_link; opened = next_number }

      free : m.own.ends next_number ≡ None
      free = (s.fresh next_number (omega arith)).1

      free_pair : m.pairs next_number ≡ None
      free_pair = (s.fresh next_number (omega arith)).2

      none_above : (n : ℕ) → next_number < n → n ≢ next_number
      none_above n less same = (let a : next_number < n = less in let c : n ≡ next_number = same in omega (arith, a, c))

      linked : (next : MixedWorld) → next.own.time ≡ m.own.time → ((name : Text) → ours name ≡ true → next.own.desks name ≡ b.desks name) → next.own.ends next_number ≡ own_of ours fresh_link → next.pairs next_number ≡ pair_of ours fresh_link
          → ((n : ℕ) → (n == next_number) ≡ false → next.own.ends n ≡ m.own.ends n) → ((n : ℕ) → (n == next_number) ≡ false → next.pairs n ≡ m.pairs n) → Stands linked_world next
      linked next time same its its_pair others other_pairs = changed b m s next_number fresh_link next_number (omega arith) none_above b.desks next (time ∙ s.has.time) same its its_pair others other_pairs

      kept_desk : (node name : Text) → ours name ≡ true → with_desk m.own.desks node (m.own.desks node) name ≡ b.desks name
      kept_desk node name mine = elim (same_or_not texts name node) [
        | inl same ↦ ap (λ (q : Bool). if q then m.own.desks node else m.own.desks name) (ap (λ (z : Text). same_text z node) same ∙ ties_itself texts node) ∙ (ap m.own.desks (sym same) ∙ s.has.desks name mine)
        | inr apart ↦ ap (λ (q : Bool). if q then m.own.desks node else m.own.desks name) apart ∙ s.has.desks name mine
      ]

      calls : ours caller.name ≡ true → ours receiver.name ≡ false → Goes m linked_world
      calls its away =
          let over = (pairs_as_planned plan certificate caller certified is_from to hop.class hop.syntax).0 (hop, (hop_to caller to hop).1 hop_is, refl, refl) in
          let goes : IsHop plan caller.name to = (over.0, over.2) in
          let core : Core = requesting (Some caller) to rq m.own.time in
          let e : OwnEnd = record { side = Requestor; node = caller.name; terminal = record { core = core; ear = fresh caller.max_pdu } } in
          let next : MixedWorld = with_own m (own.with_done m.own next_number e (m.own.desks caller.name)) in
          let e_of : ℕ → Text → Option OwnEnd = λ time dest. Some (record { side = Requestor; node = caller.name; terminal = record { core = requesting (Some caller) dest rq time; ear = fresh caller.max_pdu } }) in
          one m next (Alone (own.Opens next_number caller.name to)) linked_world (
            free_pair,
            (
              next.own,
              record {
                free = free;
                own = its;
                away = sym (ap ours named_to) ∙ away;
                hop = goes;
                site = caller;
                part = is_from;
                named = refl;
                rq = rq;
                proposal = proposal;
                is = refl;
              },
              refl,
            ),
          ) (linked next refl (kept_desk caller.name)
          (ap (λ (q : Bool). if q then Some e else m.own.ends next_number) (eq-eqb next_number next_number refl)
          ∙ (ap (λ (z : ℕ). e_of z to) s.has.time ∙ (ap (e_of b.time) (sym named_to) ∙ sym (own_flags fresh_link true false its away))))
          (free_pair ∙ sym (pair_flags fresh_link true false its away))
          (λ n apart. ap (λ (q : Bool). if q then Some e else m.own.ends n) apart) (λ n apart. refl))

      listens : ours caller.name ≡ false → ours receiver.name ≡ true → Goes m linked_world
      listens away its =
          let e_of : ℕ → OwnEnd = λ time. record { side = Acceptor; node = receiver.name; terminal = record { core = accepting receiver time; ear = fresh receiver.max_pdu } } in
          let e : OwnEnd = e_of m.own.time in
          let next : MixedWorld = with_own m (own.with_done m.own next_number e (m.own.desks receiver.name)) in
          one m next (Alone (own.Listens next_number receiver.name)) linked_world
          (free_pair, (next.own, record { free = free; own = its; site = receiver; part = is_to; named = refl; is = refl }, refl))
          (linked next refl (kept_desk receiver.name)
          (ap (λ (q : Bool). if q then Some e else m.own.ends next_number) (eq-eqb next_number next_number refl)
          ∙ (ap (λ (z : ℕ). Some (e_of z)) s.has.time ∙ sym (own_flags fresh_link false true away its)))
          (free_pair ∙ sym (pair_flags fresh_link false true away its))
          (λ n apart. ap (λ (q : Bool). if q then Some e else m.own.ends n) apart) (λ n apart. refl))

      -- between two of ours
      joins : ours caller.name ≡ true → ours receiver.name ≡ true → Goes m linked_world
      joins its also =
          let k_of : ℕ → Channel = λ time. opened_between caller receiver rq time in
          let k : Channel = k_of m.own.time in
          let next : MixedWorld = record { own = m.own; pairs = with_pair m.pairs next_number k } in
          one m next (Joins next_number from to) linked_world (record {
            free = (free, free_pair);
            own = (sym (ap ours named_from) ∙ its, sym (ap ours named_to) ∙ also);
            caller = caller;
            receiver = receiver;
            rq = rq;
            hop = hop;
            from_is = (is_from, named_from);
            to_is = (is_to, named_to);
            over = hop_is;
            proposal = proposal;
            is = refl;
          }) (linked next refl (λ name mine. s.has.desks name mine)
          (free ∙ sym (own_flags fresh_link true true its also))
          (ap (λ (q : Bool). if q then Some k else m.pairs next_number) (eq-eqb next_number next_number refl)
          ∙ (ap (λ (z : ℕ). Some (k_of z)) s.has.time ∙ sym (pair_flags fresh_link true true its also)))
          (λ n apart. refl) (λ n apart. ap (λ (q : Bool). if q then Some k else m.pairs n) apart))

      linked_so : Goes m linked_world
      linked_so = elim (cases_Bool (ours caller.name)) [
        | inl its ↦ elim (cases_Bool (ours receiver.name)) [
          | inl also ↦ joins its also
          | inr away ↦ calls its away
        ]
        | inr away ↦ elim (cases_Bool (ours receiver.name)) [
          | inl also ↦ listens away also
          | inr too ↦ (
            [],
            m,
            refl,
            linked m refl (λ name mine. s.has.desks name mine) (free ∙ sym (own_flags fresh_link false false away too)) (free_pair ∙ sym (pair_flags fresh_link false false away too)) (λ n apart. refl) (λ n apart. refl),
          )
        ]
      ]

    opens : (from to : Text) (new : ByteWorld) → bytes.Opens plan certificate b from to new → Goes m new
    opens from to new (caller, receiver, rq, hop, is_from, named_from, is_to, named_to, hop_is, proposal, is) =
        as_new m new (record { time = b.time; desks = b.desks; links = map.insert b.links (b.opened + 1) (opened_between caller receiver rq b.time); opened = b.opened + 1 }) is
        (linked_so from to caller receiver rq hop is_from named_from is_to named_to hop_is proposal)

    -- ---- forgetting

    -- a requestor that is over has nothing pending
    idle_at : (on : Bool) (stage : Stage) (receiver : Text) (c : Core) → CallsAt on stage receiver c → is_over c ≡ true → c.pending ≡ None
    idle_at false stage receiver c h over = h.0
    idle_at true Asking receiver c h over = h.1
    idle_at true (OpenStage accepted) receiver c h over = h.1
    idle_at true (Storing accepted item) receiver c h over = absurd (not_open h.0.0)
      where
        not_open : IsAt c true Sta6 → ⊥
        not_open (a, stands, requestor, state) =
            let here : state_of c.phase ≡ Sta6 = ap (λ (z : Option Standing). option_map_or (λ (y : Standing). y.state) z Sta1) stands ∙ state in
            false≢true (sym (ap is_gone here) ∙ over)
    idle_at true (Answering accepted) receiver c h over = absurd h
    idle_at true Rejecting receiver c h over = absurd h
    idle_at true (Replying accepted item status) receiver c h over = absurd h
    idle_at true Gone receiver c h over = absurd h

    -- a requestor that is over awaits nothing
    gone_pends_none : (i : ℕ) (e : OwnEnd) (uid : Text) → m.own.ends i ≡ Some e → e.side ≡ Requestor → is_over e.terminal.core ≡ true → pending_of e.terminal.core.pending ≡ Some uid → ⊥
    gone_pends_none i e uid is calls over pends =
        ∥∥₁_elim (mixed_changes_keep_the_claims ours origin seal sound before plan certificate m ran) (λ p q. absurd p) (λ all. (
        let shown : ShowsBy ours plan certificate all.1 (all.3.numbers i) Requestor e.node e.terminal = subst
        (λ (z : Side). ShowsBy ours plan certificate all.1 (all.3.numbers i) z e.node e.terminal) calls (all.3.ends i e is) in
        let call = shown.2.1.2 in
        let none = idle_at shown.2.1.0.caller_connected shown.2.1.0.stage shown.2.1.0.receiver e.terminal.core call.stands over in
        none_uid (pending_of e.terminal.core.pending) (ap pending_of none) pends))
      where
        none_uid : (z : Option Text) → z ≡ None → z ≡ Some uid → ⊥
        none_uid z h f = (let g : None ≡ Some uid = sym h ∙ f in cc g)

    none_awaits : (node uid : Text) → (bytes.IsUnderWay b node uid → ⊥) → NoneAwaits m.own node uid
    none_awaits node uid none i e is named calls pends = by_link (map.get b.links i) refl
      where
        by_own : (k : Channel) → map.get b.links i ≡ Some k → (c r : Bool) → own_in c r k ≡ Some e → ⊥
        by_own k at true true f = no_end e f
        by_own k at true false f =
            let same : end_at Requestor (caller_of k) k.caller ≡ e = same_Some (end_at Requestor (caller_of k) k.caller) e f in
            none (i, (k, at, ap (λ (z : OwnEnd). z.node) same ∙ named, ap (λ (z : OwnEnd). pending_of z.terminal.core.pending) same ∙ pends))
        by_own k at false true f =
            let same : end_at Acceptor (receiver_of k) k.receiver ≡ e = same_Some (end_at Acceptor (receiver_of k) k.receiver) e f in
            let g : Acceptor ≡ Requestor = ap (λ (z : OwnEnd). z.side) same ∙ calls in
            cc g
        by_own k at false false f = no_end e f

        by_link : (q : Option Channel) → map.get b.links i ≡ q → ⊥
        by_link None at = gone_pends_none i e uid is calls (s.has.gone i at e is) pends
        by_link (Some k) at = by_own k at (ours (caller_of k)) (ours (receiver_of k)) (sym (s.has.ends i k at) ∙ is)

    -- a link between two of ours is one of the world of bytes
    link_of_pair : (i : ℕ) (k : Channel) → m.pairs i ≡ Some k → (map.get b.links i ≡ Some k) × (ours (caller_of k) ≡ true) × (ours (receiver_of k) ≡ true)
    link_of_pair i k there = by_link (map.get b.links i) refl
      where
        by_link : (q : Option Channel) → map.get b.links i ≡ q → (map.get b.links i ≡ Some k) × (ours (caller_of k) ≡ true) × (ours (receiver_of k) ≡ true)
        by_link None found = absurd (none_some k (sym (s.has.unpaired i found) ∙ there))
        by_link (Some z) found =
            let same = pair_is (ours (caller_of z)) (ours (receiver_of z)) z k (sym (s.has.pairs i z found) ∙ there) in
            (found ∙ ap (λ (y : Channel). Some y) same.0, ap (λ (y : Channel). ours (caller_of y)) (sym same.0) ∙ same.1, ap (λ (y : Channel). ours (receiver_of y)) (sym same.0) ∙ same.2)

    none_pends : (node uid : Text) → (bytes.IsUnderWay b node uid → ⊥) → NonePends m.pairs node uid
    none_pends node uid none i k there named pends = none (i, (k, (link_of_pair i k there).0, named, pends))

    -- ---- a node starts anew

    module _ (node : Text) where
      abbrev links_left : FinMap nat_cmp Channel
      links_left = map.retain_keys b.links (λ n. not (bytes.is_there node (map.get b.links n)))

      left_is : (n : ℕ) → map.get links_left n ≡ cond (not (bytes.is_there node (map.get b.links n))) (map.get b.links n) None
      left_is n =
          let p : ℕ → Bool = λ m. not (bytes.is_there node (map.get b.links m)) in
          map.get-retain_keys b.links p n (λ y e. ap p (sym (numbers.exact n y e)))

      -- a link that is left was there, and isn't the node's
      link_was : (n : ℕ) (k : Channel) → map.get links_left n ≡ Some k → (map.get b.links n ≡ Some k) × (bytes.is_there node (map.get b.links n) ≡ false)
      link_was n k h = by_there (map.get b.links n) (bytes.is_there node (map.get b.links n)) refl (sym (left_is n) ∙ h)
        where
          by_there : (q : Option Channel) (c : Bool) → bytes.is_there node (map.get b.links n) ≡ c → cond (not c) q None ≡ Some k → (q ≡ Some k) × (bytes.is_there node (map.get b.links n) ≡ false)
          by_there q true e f = absurd (none_some k f)
          by_there q false e f = (f, e)

      -- where there is none, there was none, or it was the node's
      none_left : (n : ℕ) → map.get links_left n ≡ None → (map.get b.links n ≡ None) ⊎ ((k : Channel) × (map.get b.links n ≡ Some k) × (bytes.is_there node (Some k) ≡ true))
      none_left n h = by_link (map.get b.links n) refl (sym (left_is n) ∙ h)
        where
          by_there : (k : Channel) (c : Bool) → bytes.is_there node (Some k) ≡ c → cond (not c) (Some k) None ≡ None → bytes.is_there node (Some k) ≡ true
          by_there k true e f = e
          by_there k false e f = absurd (none_some k (sym f))

          by_link : (q : Option Channel) → map.get b.links n ≡ q → cond (not (bytes.is_there node q)) q None ≡ None
              → (map.get b.links n ≡ None) ⊎ ((k : Channel) × (map.get b.links n ≡ Some k) × (bytes.is_there node (Some k) ≡ true))
          by_link None e f = inl e
          by_link (Some k) e f = inr (k, e, by_there k (bytes.is_there node (Some k)) refl f)

      still_none : (n : ℕ) → map.get b.links n ≡ None → map.get links_left n ≡ None
      still_none n none = left_is n ∙ ap (λ (q : Option Channel). cond (not (bytes.is_there node q)) q None) none

      -- who calls, where the receiver isn't the node
      calls_there : (k : Channel) → bytes.is_there node (Some k) ≡ true → same_text (receiver_of k) node ≡ false → caller_of k ≡ node
      calls_there k there apart = elim (same_or_not texts (caller_of k) node) [
        | inl same ↦ same
        | inr other ↦ absurd (false≢true (sym (or_is (same_text (caller_of k) node) (same_text (receiver_of k) node) other apart) ∙ there))
      ]
        where
          or_is : (x y : Bool) → x ≡ false → y ≡ false → (x || y) ≡ false
          or_is false false e f = refl
          or_is true y e f = absurd (false≢true (sym e))
          or_is false true e f = absurd (false≢true (sym f))

      named_is : (name : Text) → same_text name node ≡ true → name ≡ node
      named_is name h = tells_apart texts.exact name node h

      -- ---- the far ends have their connections ended

      there_alike : (z k : Channel) → caller_of z ≡ caller_of k → receiver_of z ≡ receiver_of k → bytes.is_there node (Some z) ≡ bytes.is_there node (Some k)
      there_alike z k e f = ap (λ (n : Text). same_text n node || same_text (receiver_of z) node) e
          ∙ ap (λ (n : Text). same_text (caller_of k) node || same_text n node) f

      -- what is left of an end alone: it is the node's own, or over
      abbrev LoneLeft : OwnEnd → Type 0
      LoneLeft e = ((ours node ≡ true) × (e.node ≡ node)) ⊎ (is_over e.terminal.core ≡ true)

      -- and of a link between two of ours: who called the node is over
      abbrev PairLeft : Channel → Type 0
      PairLeft k = (ours (caller_of k) ≡ true) × (ours (receiver_of k) ≡ true) × (bytes.is_there node (Some k) ≡ true) × (receiver_of k ≡ node → is_over k.caller.core ≡ true)

      record Ended (all : List ℕ) (first : MixedWorld) (desks : Text → Desk) : Type 0 where
        steps : List MixedStep
        last : MixedWorld
        runs : MixedRuns ours plan certificate first steps last
        time : last.own.time ≡ first.own.time
        same : (name : Text) → ours name ≡ true → last.own.desks name ≡ desks name
        others : (n : ℕ) → (Contains all n → ⊥) → last.own.ends n ≡ first.own.ends n
        other_pairs : (n : ℕ) → (Contains all n → ⊥) → last.pairs n ≡ first.pairs n
        over : (n : ℕ) → Contains all n → (e : OwnEnd) → last.own.ends n ≡ Some e → LoneLeft e
        pairs : (n : ℕ) → Contains all n → (k : Channel) → last.pairs n ≡ Some k → PairLeft k

      -- what becomes of one far end
      record EndedOne (number : ℕ) (first : MixedWorld) (desks : Text → Desk) : Type 0 where
        steps : List MixedStep
        last : MixedWorld
        runs : MixedRuns ours plan certificate first steps last
        time : last.own.time ≡ first.own.time
        same : (name : Text) → ours name ≡ true → last.own.desks name ≡ desks name
        others : (n : ℕ) → (n == number) ≡ false → last.own.ends n ≡ first.own.ends n
        other_pairs : (n : ℕ) → (n == number) ≡ false → last.pairs n ≡ first.pairs n
        over : (e : OwnEnd) → last.own.ends number ≡ Some e → LoneLeft e
        pairs : (k : Channel) → last.pairs number ≡ Some k → PairLeft k

      -- it is one of ours, alone
      ends_ours : (number : ℕ) (first : MixedWorld) (desks mid : Text → Desk) → first.own.time ≡ b.time → ((name : Text) → ours name ≡ true → first.own.desks name ≡ desks name) → first.pairs number ≡ None → (e : OwnEnd) → first.own.ends number ≡ Some e → ours e.node ≡ true
          → (moment : Moment) → moment.now ≡ b.time → (x : Effect) (t : Desk) → IsEnded (LedgerStep plan e.node) e.terminal.core moment (desks e.node) x t → mid ≡ with_desk desks e.node t
          → EndedOne number first mid
      ends_ours number first desks mid time same unpaired e at mine moment now x t ended is =
          let ended_so : IsEnded (LedgerStep plan e.node) e.terminal.core moment (first.own.desks e.node) x t = subst (λ (d : Desk). IsEnded (LedgerStep plan e.node) e.terminal.core moment d x t) (sym (same e.node mine)) ended in
          let h = ended_step first number e at moment (now ∙ sym time) x t ended_so in
          let end_now : OwnEnd = record { side = e.side; node = e.node; terminal = record { core = x.core; ear = e.terminal.ear } } in
          let last : MixedWorld = with_own first (own.with_done first.own number end_now t) in
          record {
            steps = h.0 ∷ [];
            last = last;
            runs = (last, h.1, refl);
            time = refl;
            same = λ name its. ap (λ (d : Desk). if same_text name e.node then t else d) (same name its) ∙ sym (ap (λ (d : Text → Desk). d name) is);
            others = λ n apart. ap (λ (c : Bool). if c then Some end_now else first.own.ends n) apart;
            other_pairs = λ n apart. refl;
            over = λ d there.
                let here : last.own.ends number ≡ Some end_now = ap (λ (c : Bool). if c then Some end_now else first.own.ends number) (eq-eqb number number refl) in
                let one : end_now ≡ d = same_Some end_now d (sym here ∙ there) in
                let gone : is_over x.core ≡ true = ap is_gone (ended_over (LedgerStep plan e.node) moment e.terminal.core t x (desks e.node) ended) in
                inr (subst (λ (z : OwnEnd). is_over z.terminal.core ≡ true) one gone);
            pairs = λ k there. absurd (none_some k (sym unpaired ∙ there));
          }

      -- it isn't
      ends_theirs : (number : ℕ) (first : MixedWorld) (desks mid : Text → Desk) → ((name : Text) → ours name ≡ true → first.own.desks name ≡ desks name) → ((e : OwnEnd) → first.own.ends number ≡ Some e → LoneLeft e) → first.pairs number ≡ None
          → (name : Text) → ours name ≡ false → (t : Desk) → mid ≡ with_desk desks name t → EndedOne number first mid
      ends_theirs number first desks mid same left unpaired name away t is = record {
        steps = [];
        last = first;
        runs = refl;
        time = refl;
        same = λ other its. same other its ∙ (sym (other_desk desks name t other its away) ∙ sym (ap (λ (d : Text → Desk). d other) is));
        others = λ n apart. refl;
        other_pairs = λ n apart. refl;
        over = left;
        pairs = λ k there. absurd (none_some k (sym unpaired ∙ there));
      }

      -- it is the caller of a link between two of ours
      ends_caller : (number : ℕ) (first : MixedWorld) (desks mid : Text → Desk) → first.own.time ≡ b.time → ((name : Text) → ours name ≡ true → first.own.desks name ≡ desks name) → (k : Channel) → first.pairs number ≡ Some k → first.own.ends number ≡ None
          → ours (caller_of k) ≡ true → ours (receiver_of k) ≡ true → bytes.is_there node (Some k) ≡ true
          → (moment : Moment) → moment.now ≡ b.time → (x : Effect) (t : Desk) → IsEnded (LedgerStep plan (caller_of k)) k.caller.core moment (desks (caller_of k)) x t → mid ≡ with_desk desks (caller_of k) t
          → EndedOne number first mid
      ends_caller number first desks mid time same k at unended mine also there moment now x t ended is =
          let led = caller_ends_in first number k at moment (now ∙ sym time) x t (subst (λ (d : Desk). IsEnded (LedgerStep plan (caller_of k)) k.caller.core moment d x t) (sym (same (caller_of k) mine)) ended) in
          let caller_is : caller_of led.pair ≡ caller_of k = ap (λ (z : LiveTerminal). (site_in z.core.site).name) led.caller_is
          ∙ ap (λ (p : Option Part). (site_in p).name) (ended_keeps (caller_of k) k.caller.core moment (desks (caller_of k)) x t ended) in
          let receiver_is : receiver_of led.pair ≡ receiver_of k = ap (λ (z : LiveTerminal). (site_in z.core.site).name) led.receiver_is in
          let gone : is_over x.core ≡ true = ap is_gone (ended_over (LedgerStep plan (caller_of k)) moment k.caller.core t x (desks (caller_of k)) ended) in
          record {
            steps = led.steps;
            last = led.last;
            runs = led.runs;
            time = led.time;
            same = λ name its. led.same name ∙ (ap (λ (d : Desk). if same_text name (caller_of k) then t else d) (same name its) ∙ sym (ap (λ (d : Text → Desk). d name) is));
            others = λ n apart. led.ends n;
            other_pairs = led.others;
            over = λ e found. absurd (no_end e (sym (led.ends number ∙ unended) ∙ found));
            pairs = λ l found. subst PairLeft (same_Some led.pair l (sym led.there ∙ found)) (
              ap ours caller_is ∙ mine,
              ap ours receiver_is ∙ also,
              there_alike led.pair k caller_is receiver_is ∙ there,
              λ called. ap (λ (z : LiveTerminal). is_over z.core) led.caller_is ∙ gone,
            );
          }

      -- or its receiver, where the node isn't
      ends_receiver : (number : ℕ) (first : MixedWorld) (desks mid : Text → Desk) → first.own.time ≡ b.time → ((name : Text) → ours name ≡ true → first.own.desks name ≡ desks name) → (k : Channel) → first.pairs number ≡ Some k → first.own.ends number ≡ None
          → ours (caller_of k) ≡ true → ours (receiver_of k) ≡ true → bytes.is_there node (Some k) ≡ true → same_text (receiver_of k) node ≡ false
          → (moment : Moment) → moment.now ≡ b.time → (y : Effect) (u : Desk) → IsEnded (LedgerStep plan (receiver_of k)) k.receiver.core moment (desks (receiver_of k)) y u → mid ≡ with_desk desks (receiver_of k) u
          → EndedOne number first mid
      ends_receiver number first desks mid time same k at unended mine also there apart moment now y u ended is =
          let led = receiver_ends_in first number k at moment (now ∙ sym time) y u (subst (λ (d : Desk). IsEnded (LedgerStep plan (receiver_of k)) k.receiver.core moment d y u) (sym (same (receiver_of k) also)) ended) in
          let caller_is : caller_of led.pair ≡ caller_of k = ap (λ (z : LiveTerminal). (site_in z.core.site).name) led.caller_is in
          let receiver_is : receiver_of led.pair ≡ receiver_of k = ap (λ (z : LiveTerminal). (site_in z.core.site).name) led.receiver_is
          ∙ ap (λ (p : Option Part). (site_in p).name) (ended_keeps (receiver_of k) k.receiver.core moment (desks (receiver_of k)) y u ended) in
          record {
            steps = led.steps;
            last = led.last;
            runs = led.runs;
            time = led.time;
            same = λ name its. led.same name ∙ (ap (λ (d : Desk). if same_text name (receiver_of k) then u else d) (same name its) ∙ sym (ap (λ (d : Text → Desk). d name) is));
            others = λ n away. led.ends n;
            other_pairs = led.others;
            over = λ e found. absurd (no_end e (sym (led.ends number ∙ unended) ∙ found));
            pairs = λ l found. subst PairLeft (same_Some led.pair l (sym led.there ∙ found)) (
              ap ours caller_is ∙ mine,
              ap ours receiver_is ∙ also,
              there_alike led.pair k caller_is receiver_is ∙ there,
              λ called. absurd (false≢true (sym apart ∙ (ap (λ (z : Text). same_text z node) (sym receiver_is ∙ called) ∙ ties_itself texts node))),
            );
          }

      -- an end alone at the node itself
      own_left : (number : ℕ) (k : Channel) (first : MixedWorld) → map.get b.links number ≡ Some k → first.own.ends number ≡ m.own.ends number → (c r : Bool) → ours (caller_of k) ≡ c → ours (receiver_of k) ≡ r
          → (c ≡ true → r ≡ false → caller_of k ≡ node) → (c ≡ false → r ≡ true → receiver_of k ≡ node) → (e : OwnEnd) → first.own.ends number ≡ Some e → LoneLeft e
      own_left number k first at kept true true p q caller receiver e found = absurd (no_end e (sym (kept ∙ end_there number k at true true p q) ∙ found))
      own_left number k first at kept false false p q caller receiver e found = absurd (no_end e (sym (kept ∙ end_there number k at false false p q) ∙ found))
      own_left number k first at kept true false p q caller receiver e found =
          let same : end_at Requestor (caller_of k) k.caller ≡ e = same_Some (end_at Requestor (caller_of k) k.caller) e (sym (kept ∙ end_there number k at true false p q) ∙ found) in
          let named : caller_of k ≡ node = caller refl refl in
          inl (ap ours (sym named) ∙ p, ap (λ (z : OwnEnd). z.node) (sym same) ∙ named)
      own_left number k first at kept false true p q caller receiver e found =
          let same : end_at Acceptor (receiver_of k) k.receiver ≡ e = same_Some (end_at Acceptor (receiver_of k) k.receiver) e (sym (kept ∙ end_there number k at false true p q) ∙ found) in
          let named : receiver_of k ≡ node = receiver refl refl in
          inl (ap ours (sym named) ∙ q, ap (λ (z : OwnEnd). z.node) (sym same) ∙ named)

      far_end : (number : ℕ) (k : Channel) → map.get b.links number ≡ Some k → bytes.is_there node (Some k) ≡ true → (first : MixedWorld) (desks mid : Text → Desk) → first.own.time ≡ b.time
          → ((name : Text) → ours name ≡ true → first.own.desks name ≡ desks name) → first.own.ends number ≡ m.own.ends number → first.pairs number ≡ m.pairs number → (called : Bool) → same_text (receiver_of k) node ≡ called → bytes.FarEnds plan b.time called k desks mid
          → EndedOne number first mid
      far_end number k at there first desks mid time same kept kept_pair true e (moment, x, t, now, ended, is) = elim (cases_Bool (ours (caller_of k))) [
        | inl mine ↦ elim (cases_Bool (ours (receiver_of k))) [
          | inl also ↦ ends_caller number first desks mid time same k (kept_pair ∙ pair_there number k at true true mine also) (kept ∙ end_there number k at true true mine also) mine also there moment now x t ended is
          | inr away ↦ ends_ours number first desks mid time same (kept_pair ∙ pair_there number k at true false mine away) (record { side = Requestor; node = caller_of k; terminal = k.caller })
              (kept ∙ end_there number k at true false mine away) mine moment now x t ended is
        ]
        | inr theirs ↦ elim (cases_Bool (ours (receiver_of k))) [
          | inl also ↦ ends_theirs number first desks mid same
              (own_left number k first at kept false true theirs also (λ p q. absurd (false≢true p)) (λ p q. named_is (receiver_of k) e)) (kept_pair ∙ pair_there number k at false true theirs also) (caller_of k) theirs t is
          | inr away ↦ ends_theirs number first desks mid same
              (own_left number k first at kept false false theirs away (λ p q. absurd (false≢true p)) (λ p q. absurd (false≢true q))) (kept_pair ∙ pair_there number k at false false theirs away) (caller_of k) theirs t is
        ]
      ]
      far_end number k at there first desks mid time same kept kept_pair false e (moment, y, u, now, ended, is) = elim (cases_Bool (ours (receiver_of k))) [
        | inl mine ↦ elim (cases_Bool (ours (caller_of k))) [
          | inl also ↦ ends_receiver number first desks mid time same k (kept_pair ∙ pair_there number k at true true also mine) (kept ∙ end_there number k at true true also mine) also mine there e moment now y u ended is
          | inr away ↦ ends_ours number first desks mid time same (kept_pair ∙ pair_there number k at false true away mine) (record { side = Acceptor; node = receiver_of k; terminal = k.receiver })
              (kept ∙ end_there number k at false true away mine) mine moment now y u ended is
        ]
        | inr theirs ↦ elim (cases_Bool (ours (caller_of k))) [
          | inl also ↦ ends_theirs number first desks mid same
              (own_left number k first at kept true false also theirs (λ p q. calls_there k there e) (λ p q. absurd (false≢true (sym p)))) (kept_pair ∙ pair_there number k at true false also theirs) (receiver_of k) theirs u is
          | inr away ↦ ends_theirs number first desks mid same
              (own_left number k first at kept false false away theirs (λ p q. absurd (false≢true p)) (λ p q. absurd (false≢true q))) (kept_pair ∙ pair_there number k at false false away theirs) (receiver_of k) theirs u is
        ]
      ]

      far_one : (number : ℕ) (q : Option Channel) → map.get b.links number ≡ q → bytes.is_there node q ≡ true → (first : MixedWorld) (desks mid : Text → Desk) → first.own.time ≡ b.time
          → ((name : Text) → ours name ≡ true → first.own.desks name ≡ desks name) → first.own.ends number ≡ m.own.ends number → first.pairs number ≡ m.pairs number → bytes.FarEndsOf plan b node q desks mid → EndedOne number first mid
      far_one number None at there first desks mid time same kept kept_pair h = absurd (false≢true there)
      far_one number (Some k) at there first desks mid time same kept kept_pair h = far_end number k at there first desks mid time same kept kept_pair (same_text (receiver_of k) node) refl h

      apart_later : (number : ℕ) (more : List ℕ) → AllPairs (λ p q. nat_cmp p q ≡ Less) (number ∷ more) → (n : ℕ) → Contains more n → (n == number) ≡ false
      apart_later number more rising n among = elim (place n number) [
        | inl it ↦ absurd (not_below_itself number (subst (λ (q : ℕ). nat_cmp number q ≡ Less) it.0 (head_pairs (λ p q. nat_cmp p q ≡ Less) number more rising n among)))
        | inr not_it ↦ not_it.1
      ]

      joined : (number : ℕ) (more : List ℕ) → AllPairs (λ p q. nat_cmp p q ≡ Less) (number ∷ more) → (first : MixedWorld) (mid last : Text → Desk) → (a : EndedOne number first mid) → Ended more a.last last → Ended (number ∷ more) first last
      joined number more rising first mid last a r = record {
        steps = a.steps ++ r.steps;
        last = r.last;
        runs = runs_then a.steps r.steps first a.last r.last a.runs r.runs;
        time = r.time ∙ a.time;
        same = r.same;
        others = λ n no. elim (place n number) [
          | inl it ↦ absurd (no (subst (λ (q : ℕ). Contains (number ∷ more) q) (sym it.0) (Contains-here number more)))
          | inr not_it ↦ r.others n (λ among. no (Contains-there number more n among)) ∙ a.others n not_it.1
        ];
        other_pairs = λ n no. elim (place n number) [
          | inl it ↦ absurd (no (subst (λ (q : ℕ). Contains (number ∷ more) q) (sym it.0) (Contains-here number more)))
          | inr not_it ↦ r.other_pairs n (λ among. no (Contains-there number more n among)) ∙ a.other_pairs n not_it.1
        ];
        over = λ n among e at. elim (Contains-cons_cases number more n among) [
          | inl it ↦ a.over e (sym (r.others number not_later) ∙ subst (λ (q : ℕ). r.last.own.ends q ≡ Some e) (sym it) at)
          | inr later ↦ r.over n later e at
        ];
        pairs = λ n among k at. elim (Contains-cons_cases number more n among) [
          | inl it ↦ a.pairs k (sym (r.other_pairs number not_later) ∙ subst (λ (q : ℕ). r.last.pairs q ≡ Some k) (sym it) at)
          | inr later ↦ r.pairs n later k at
        ];
      }
        where
          not_later : Contains more number → ⊥
          not_later c = not_below_itself number (head_pairs (λ p q. nat_cmp p q ≡ Less) number more rising number c)

      far_ends : (all : List ℕ) → AllPairs (λ p q. nat_cmp p q ≡ Less) all → ((n : ℕ) → Contains all n → bytes.is_there node (map.get b.links n) ≡ true) → (first : MixedWorld) (desks last : Text → Desk)
          → first.own.time ≡ b.time → ((name : Text) → ours name ≡ true → first.own.desks name ≡ desks name) → ((n : ℕ) → Contains all n → (first.own.ends n ≡ m.own.ends n) × (first.pairs n ≡ m.pairs n)) → bytes.AllFarEnd plan b node all desks last → Ended all first last
      far_ends [] rising there first desks last time same kept h = record {
        steps = [];
        last = first;
        runs = refl;
        time = refl;
        same = λ name its. same name its ∙ sym (ap (λ (d : Text → Desk). d name) h);
        others = λ n no. refl;
        other_pairs = λ n no. refl;
        over = λ n among. absurd (nothing_in_nil n among);
        pairs = λ n among. absurd (nothing_in_nil n among);
      }
      far_ends (number ∷ more) rising there first desks last time same kept (mid, far, rest) =
          let a = far_one number (map.get b.links number) refl (there number (Contains-here number more)) first desks mid time same (kept number (Contains-here number more)).0 (kept number (Contains-here number more)).1 far in
          let r = far_ends more (tail_pairs (λ p q. nat_cmp p q ≡ Less) number more rising) (λ n among. there n (Contains-there number more n among)) a.last mid last (a.time ∙ time) a.same
          (λ n among.
          (let before_it = kept n (Contains-there number more n among) in
          (a.others n (apart_later number more rising n among) ∙ before_it.0, a.other_pairs n (apart_later number more rising n among) ∙ before_it.1))) rest in
          joined number more rising first mid last a r

      -- ---- the node's own are gone

      -- an end of a link that isn't the node's stays, and so does the link
      apart_end : (k : Channel) → bytes.is_there node (Some k) ≡ false → own.without_node node (own_of ours k) ≡ own_of ours k
      apart_end k apart = by (or_parts (same_text (caller_of k) node) (same_text (receiver_of k) node) apart) (ours (caller_of k)) (ours (receiver_of k))
        where
          by : (same_text (caller_of k) node ≡ false) × (same_text (receiver_of k) node ≡ false) → (c r : Bool) → own.without_node node (own_in c r k) ≡ own_in c r k
          by both true true = refl
          by both true false = ap (λ (c : Bool). if c then None else own_in true false k) both.0
          by both false true = ap (λ (c : Bool). if c then None else own_in false true k) both.1
          by both false false = refl

      apart_pair : (k : Channel) → bytes.is_there node (Some k) ≡ false → without_pair node (pair_of ours k) ≡ pair_of ours k
      apart_pair k apart = by (ours (caller_of k)) (ours (receiver_of k))
        where
          by : (c r : Bool) → without_pair node (pair_in c r k) ≡ pair_in c r k
          by true true = ap (λ (c : Bool). if c then None else Some k) apart
          by true false = refl
          by false true = refl
          by false false = refl

      gone_pair : (q : Option Channel) → ((k : Channel) → q ≡ Some k → bytes.is_there node (Some k) ≡ true) → without_pair node q ≡ None
      gone_pair None h = refl
      gone_pair (Some k) h = ap (λ (c : Bool). if c then None else Some k) (h k refl)

      -- which of ours a link of it can't be
      not_of_theirs : ours node ≡ false → (k : Channel) → PairLeft k → ⊥
      not_of_theirs away k left = elim (same_or_not texts (receiver_of k) node) [
        | inl named ↦ false≢true (sym away ∙ (ap ours (sym named) ∙ left.1))
        | inr apart ↦ false≢true (sym away ∙ (ap ours (sym (calls_there k left.2 apart)) ∙ left.0))
      ]

      or_right : (x y : Bool) → y ≡ true → (x || y) ≡ true
      or_right true y e = refl
      or_right false y e = e

      module _ (all : List ℕ) (are : bytes.AreLinksOf b node all) (desks : Text → Desk) (r : Ended all m desks) where
        abbrev anew : ByteWorld
        anew = record { time = b.time; desks = desks; links = links_left; opened = b.opened }

        not_among : (n : ℕ) → bytes.is_there node (map.get b.links n) ≡ false → Contains all n → ⊥
        not_among n e among = false≢true (sym e ∙ (are.1 n).0 among)

        among_is : (n : ℕ) (k : Channel) → map.get b.links n ≡ Some k → bytes.is_there node (Some k) ≡ true → Contains all n
        among_is n k was there = (are.1 n).1 (ap (bytes.is_there node) was ∙ there)

        free_apart : (n : ℕ) → map.get b.links n ≡ None → Contains all n → ⊥
        free_apart n none = not_among n (ap (bytes.is_there node) none)

        theirs_anew : ours node ≡ false → Goes m anew
        theirs_anew away = (
          r.steps,
          r.last,
          r.runs,
          record {
            has = record {
              time = r.time ∙ s.has.time;
              desks = r.same;
              ends = λ n k at. (let was = link_was n k at in r.others n (not_among n was.1) ∙ s.has.ends n k was.0);
              pairs = λ n k at. (let was = link_was n k at in r.other_pairs n (not_among n was.1) ∙ s.has.pairs n k was.0);
              gone = λ n none e at. elim (none_left n none) [
                | inl free ↦ s.has.gone n free e (sym (r.others n (free_apart n free)) ∙ at)
                | inr (k, was, there) ↦ elim (r.over n (among_is n k was there) e at) [
                  | inl mine ↦ absurd (false≢true (sym away ∙ mine.0))
                  | inr over ↦ over
                ]
              ];
              unpaired = λ n none. elim (none_left n none) [
                | inl free ↦ r.other_pairs n (free_apart n free) ∙ s.has.unpaired n free
                | inr (k, was, there) ↦ unpaired_now n (among_is n k was there) (r.last.pairs n) refl
              ];
            };
            fresh = λ n less.
                let f = s.fresh n less in
                (still_none n f.0, r.others n (free_apart n f.0) ∙ f.1, r.other_pairs n (free_apart n f.0) ∙ f.2);
          },
        )
          where
            unpaired_now : (n : ℕ) → Contains all n → (q : Option Channel) → r.last.pairs n ≡ q → r.last.pairs n ≡ None
            unpaired_now n among None e = e
            unpaired_now n among (Some k) e = absurd (not_of_theirs away k (r.pairs n among k e))

        callers_over : CallersAreOver r.last.pairs node
        callers_over i k there named = by_there (bytes.is_there node (map.get b.links i)) refl
          where
            by_there : (c : Bool) → bytes.is_there node (map.get b.links i) ≡ c → is_over k.caller.core ≡ true
            by_there true e = (r.pairs i ((are.1 i).1 e) k there).3 named
            by_there false e =
                let was = link_of_pair i k (sym (r.other_pairs i (not_among i e)) ∙ there) in
                let mine : bytes.is_there node (Some k) ≡ true = or_right (same_text (caller_of k) node) (same_text (receiver_of k) node) (ap (λ (z : Text). same_text z node) named ∙ ties_itself texts node) in
                absurd (false≢true (sym e ∙ (ap (bytes.is_there node) was.0 ∙ mine)))

        mine_anew : ours node ≡ true → Goes m anew
        mine_anew its =
            let last_own : OwnWorld = record { time = r.last.own.time; desks = r.last.own.desks; ends = λ n. own.without_node node (r.last.own.ends n) } in
            let next : MixedWorld = record { own = last_own; pairs = λ n. without_pair node (r.last.pairs n) } in
            let step : MixedRuns ours plan certificate r.last (Alone (own.Restarts node) ∷ []) next = (
              next,
              (callers_over, (last_own, record { own = its; is = refl }, refl)),
              refl,
            ) in (
              r.steps ++ Alone (own.Restarts node) ∷ [],
              next,
              runs_then r.steps (Alone (own.Restarts node) ∷ []) m r.last next r.runs step,
              record {
                has = record {
                  time = r.time ∙ s.has.time;
                  desks = r.same;
                  ends = λ n k at.
                      let was = link_was n k at in
                      ap (own.without_node node) (r.others n (not_among n was.1) ∙ s.has.ends n k was.0) ∙ apart_end k (ap (bytes.is_there node) (sym was.0) ∙ was.1);
                  pairs = λ n k at.
                      let was = link_was n k at in
                      ap (without_pair node) (r.other_pairs n (not_among n was.1) ∙ s.has.pairs n k was.0) ∙ apart_pair k (ap (bytes.is_there node) (sym was.0) ∙ was.1);
                  gone = λ n none e at.
                      let was = without_is node (r.last.own.ends n) e at in
                      elim (none_left n none) [
                        | inl free ↦ s.has.gone n free e (sym (r.others n (free_apart n free)) ∙ was.0)
                        | inr (k, before_it, there) ↦ elim (r.over n (among_is n k before_it there) e was.0) [
                          | inl mine ↦ absurd (false≢true (sym was.1 ∙ (ap (λ (z : Text). same_text z node) mine.1 ∙ ties_itself texts node)))
                          | inr over ↦ over
                        ]
                      ];
                  unpaired = λ n none. elim (none_left n none) [
                    | inl free ↦ ap (without_pair node) (r.other_pairs n (free_apart n free) ∙ s.has.unpaired n free)
                    | inr (k, before_it, there) ↦ gone_pair (r.last.pairs n) (λ l e. (r.pairs n (among_is n k before_it there) l e).2)
                  ];
                };
                fresh = λ n less.
                    let f = s.fresh n less in
                    (still_none n f.0, ap (own.without_node node) (r.others n (free_apart n f.0) ∙ f.1), ap (without_pair node) (r.other_pairs n (free_apart n f.0) ∙ f.2));
              },
            )

      restarts : (new : ByteWorld) → bytes.Restarts plan b node new → Goes m new
      restarts new (all, desks, are, h, is) =
          let r = far_ends all (as_pairs all are.0) (λ n among. (are.1 n).0 among) m b.desks desks s.has.time s.has.desks (λ n among. (refl, refl)) h in
          as_new m new (record { time = b.time; desks = desks; links = links_left; opened = b.opened }) is (elim (cases_Bool (ours node)) [
            | inl its ↦ mine_anew all are desks r its
            | inr away ↦ theirs_anew all are desks r away
          ])

    -- ---- each step

    may_abort : (side : Side) (k : Channel) → bytes.has_cell AbortRequest (bytes.core_at k side) ≡ true → MayAsk side (bytes.core_at k side) input.AbortAsked
    may_abort Requestor k h = tt
    may_abort Acceptor k h = h

    may_be_late : (side : Side) (k : Channel) → MayAsk side (bytes.core_at k side) input.Late
    may_be_late Requestor k = tt
    may_be_late Acceptor k = tt

    alone_at : (node : Text) (t : Desk) (step : OwnStep) → MayBeside m.pairs step → OwnSteps ours plan certificate m.own step (called node t) → pairs_after step m.pairs ≡ m.pairs → MixedSteps ours plan certificate m (Alone step) (with_own m (called node t))
    alone_at node t step may h same = (may, (called node t, h, ap (λ (q : ℕ → Option Channel). let z : MixedWorld = record { own = called node t; pairs = q } in z) (sym same)))

    stayed : (from to : Text) → HasNode plan from → (due : Result (Option Text) LedgerFault) (note : StepNote) (new : ByteWorld) → bytes.SettlesDue plan b from to due note new → Goes m new
    stayed from to is_node (Ok None) note new h = stays new h.1
    stayed from to is_node (Err why) note new h = stays new h.1
    stayed from to is_node (Ok (Some uid)) note new (answer, t, call, noted, is) = at_node from t (own.StaysAway from uid to) new
        (λ its. alone_at from t (own.StaysAway from uid to) tt (does from (λ d v. (a : Answer) × LedgerStep plan from d (Settle uid to Broken m.own.time) (Settling a) v) t is_node
        (answer, subst (λ (z : ℕ). LedgerStep plan from (b.desks from) (Settle uid to Broken z) (Settling answer) t) (sym s.has.time) call) its) refl) is

    each : (step : WorldStep) (note : StepNote) (new : ByteWorld) → StepFits ours b step → Steps plan certificate b step note new → Goes m new
    each (bytes.Push link) note new fits h = at_link link note new _ (λ k e d. pushes link k e (is_free k.caller.core) refl note new d) (map.get b.links link) refl h
    each (bytes.Move link side n) note new fits h = at_link link note new _ (λ k e d. moves link side n note new fits k e d) (map.get b.links link) refl h
    each (bytes.Abort link side) note new fits h = at_link link note new _ (λ k e d. does_if link k e (bytes.has_cell AbortRequest (bytes.core_at k side)) note new (bytes.Meets plan b link k side input.AbortAsked new)
        (λ has. meets link k e side input.AbortAsked tt tt (may_abort side k has) new) d) (map.get b.links link) refl h
    each (bytes.Release link) note new fits h = at_link link note new _ (λ k e d. does_if link k e (is_idle k.caller.core && bytes.has_cell ReleaseRequest k.caller.core) note new (bytes.CallerMeets plan b link k input.ReleaseAsked new)
        (λ idle. caller_meets link k e input.ReleaseAsked refl idle new) d) (map.get b.links link) refl h
    each (bytes.Close link) note new fits h = at_link link note new _ (λ k e d. does_if link k e (not (is_over k.caller.core && is_over k.receiver.core)) note new (bytes.Closes plan b link k new)
        (λ go. closes link k e new) d) (map.get b.links link) refl h
    each (bytes.Late link side) note new fits h = at_link link note new _ (λ k e d. does_if link k e (bytes.acts_late (bytes.core_at k side) b.time) note new (bytes.Meets plan b link k side input.Late new)
        (λ go. meets link k e side input.Late tt tt (may_be_late side k) new) d) (map.get b.links link) refl h
    each (bytes.Open from to) note new fits (inl h) = opens from to new h.1
    each (bytes.Open from to) note new fits (inr h) = stays new h.1.1
    each (bytes.Submit node item) note new fits (inr h) = stays new h.1.1
    each (bytes.Submit node item) note new fits (inl (is_node, (reply, t, call, noted, is))) = at_node node t (own.Submits node item) new
        (λ its. alone_at node t (own.Submits node item) tt (does node (λ d v. (r : Reply) × LedgerStep plan node d (Arrive local item) (Arrival r) v) t is_node (reply, call) its) refl) is
    each (bytes.Away from to) note new fits (inr h) = stays new h.1.1
    each (bytes.Away from to) note new fits (inl (is_node, (due, told, done))) = stayed from to is_node due note new done
    each (bytes.Requeue node uid dest) note new fits (inr h) = stays new h.1.1
    each (bytes.Requeue node uid dest) note new fits (inl (is_node, (answer, t, call, noted, is))) = at_node node t (own.PutsBack node uid dest) new
        (λ its. alone_at node t (own.PutsBack node uid dest) tt (does node (λ d v. (a : Answer) × RequeuesAt d uid dest a v) t is_node (answer, call) its) refl) is
    each (bytes.Drop node uid dest) note new fits (inr h) = stays new h.1.1
    each (bytes.Drop node uid dest) note new fits (inl (is_node, (answer, t, call, noted, is))) = at_node node t (own.GivesUp node uid dest) new
        (λ its. alone_at node t (own.GivesUp node uid dest) tt (does node (λ d v. (a : Answer) × GivesUpAt d uid dest m.own.time a v) t is_node (answer, subst (λ (z : ℕ). GivesUpAt (b.desks node) uid dest z answer t) (sym s.has.time) call) its) refl) is
    each (bytes.Forget node uid) note new fits (inr h) = stays new h.1.1
    each (bytes.Forget node uid) note new fits (inl (is_node, inl (under_way, noted, is))) = stays new is
    each (bytes.Forget node uid) note new fits (inl (is_node, inr (none, (answer, t, call, noted, is)))) = at_node node t (own.Forgets node uid) new
        (λ its. alone_at node t (own.Forgets node uid) (none_pends node uid none) (none_awaits node uid none, does node (λ d v. (a : Answer) × ForgetsAt d uid a v) t is_node (answer, call) its) refl) is
    each (bytes.Refuse node) note new fits (inr h) = stays new h.1.1
    each (bytes.Refuse node) note new fits (inl (is_node, (noted, is))) = at_node node (desk (b.desks node).book true) (own.Refuses node) new
        (λ its. alone_at node (desk (b.desks node).book true) (own.Refuses node) tt (does node (λ d v. v ≡ desk d.book true) (desk (b.desks node).book true) is_node refl its) refl) is
    each (bytes.Tick ms) note new fits (noted, is) =
        let later : OwnWorld = record { time = min (m.own.time + ms) (2 ^ 62); desks = m.own.desks; ends = m.own.ends } in
        as_new m new (record { time = min (b.time + ms) (2 ^ 62); desks = b.desks; links = b.links; opened = b.opened }) is
        (one m (with_own m later) (Alone (own.Passes ms)) (record { time = min (b.time + ms) (2 ^ 62); desks = b.desks; links = b.links; opened = b.opened }) (tt, (later, refl, refl)) (record {
          has = record {
            time = ap (λ (n : ℕ). min (n + ms) (2 ^ 62)) s.has.time;
            desks = s.has.desks;
            ends = s.has.ends;
            pairs = s.has.pairs;
            gone = s.has.gone;
            unpaired = s.has.unpaired;
          };
          fresh = s.fresh;
        }))
    each (bytes.Restart node) note new fits (inr h) = stays new h.1.1
    each (bytes.Restart node) note new fits (inl (is_node, (noted, h))) = restarts node new h

    writes : (link : ℕ) → WritesFit ours b link → (side : Side) (piece : List ℕ) (new : ByteWorld) → Writes b link side piece new → Goes m new
    writes link fits side piece new h = by_link (map.get b.links link) refl h
      where
        by_link : (q : Option Channel) → map.get b.links link ≡ q → WritesIn q b link side piece new → Goes m new
        by_link None e d = stays new d
        by_link (Some k) e d = overwritten link k e fits side piece new d

  no_link : (number : ℕ) (k : Channel) → map.get bytes.beginning.links number ≡ Some k → ⊥
  no_link number k at = none_some k (sym (map.get-empty nat_cmp number) ∙ at)

  at_first : Stands bytes.beginning mixed_beginning
  at_first = record {
    has = record {
      time = refl;
      desks = λ name mine. refl;
      ends = λ number k at. absurd (no_link number k at);
      pairs = λ number k at. absurd (no_link number k at);
      gone = λ number none e at. absurd (no_end e at);
      unpaired = λ number none. refl;
    };
    fresh = λ number less. (map.get-empty nat_cmp number, refl, refl);
  }

-- ---- a plan is taken

module _ (ours : Ours) (plan next : Network) (certificate seal : Certificate) (b mid : ByteWorld) (m : MixedWorld) (s : Stands ours plan certificate b m) (h : TakesPlan plan b next mid) where
  abbrev taken : MixedWorld
  taken = record { own = record { time = m.own.time; desks = mid.desks; ends = λ number. None }; pairs = λ number. None }

  ours_take : OursTake ours plan m.own next taken.own
  ours_take = record {
    may = record {
      unarmed = λ name is its. ap (λ (d : Desk). d.armed) (s.has.desks name its) ∙ h.may.unarmed name is;
      stay = λ name is its. h.may.stay name is;
      fit = λ name is its. subst (λ (d : Desk). IsFit next name d.book) (sym (s.has.desks name its)) (h.may.fit name is);
      strangers = λ name none its. s.has.desks name its ∙ h.may.strangers name none;
    };
    time = refl;
    ends = λ number. refl;
    desks = λ name is its. h.desks name is ∙ ap (λ (d : Desk). desk (after Adoption d.book) false) (sym (s.has.desks name its));
    joined = λ name none its. h.joined name none;
  }

  link_there : (i : ℕ) (k : Channel) → m.pairs i ≡ Some k → map.get b.links i ≡ Some k
  link_there i k there = by_link (map.get b.links i) refl
    where
      by_link : (q : Option Channel) → map.get b.links i ≡ q → map.get b.links i ≡ Some k
      by_link None found = absurd (none_some k (sym (s.has.unpaired i found) ∙ there))
      by_link (Some z) found = found ∙ ap (λ (y : Channel). Some y) (pair_is (ours (caller_of z)) (ours (receiver_of z)) z k (sym (s.has.pairs i z found) ∙ there)).0

  mixed_take : MixedTake ours plan m next taken
  mixed_take = record {
    may = record {
      over = λ i k there. h.may.over i k (link_there i k there);
      own = ours_take.may;
    };
    own = ours_take;
    pairs = λ number. refl;
  }

  no_link_left : (number : ℕ) → map.get mid.links number ≡ None
  no_link_left number = ap (λ (l : FinMap nat_cmp Channel). map.get l number) h.links ∙ map.get-empty nat_cmp number

  none_left_at : (number : ℕ) (k : Channel) → map.get mid.links number ≡ Some k → ⊥
  none_left_at number k at = none_some k (sym (no_link_left number) ∙ at)

  taken_stands : Stands ours next seal mid taken
  taken_stands = record {
    has = record {
      time = s.has.time ∙ sym h.time;
      desks = λ name its. refl;
      ends = λ number k at. absurd (none_left_at number k at);
      pairs = λ number k at. absurd (none_left_at number k at);
      gone = λ number none e at. absurd (no_end e at);
      unpaired = λ number none. refl;
    };
    fresh = λ number less. (no_link_left number, refl, refl);
  }

module _ (ours : Ours) (first : Network) (begun : Certificate) (sound : IsCertified first begun) where
  -- ---- one deed after the other

  -- steps behind deeds
  steps_behind : (steps : List MixedStep) (plan : Network) (certificate : Certificate) (m next : MixedWorld) → MixedRuns ours plan certificate m steps next → MixedRunsThrough ours plan certificate m (mapped MixedDoes steps) plan certificate next
  steps_behind [] plan certificate m next h = (refl, refl, h)
  steps_behind (step ∷ steps) plan certificate m next h = (h.0, h.1, steps_behind steps plan certificate h.0 next h.2)

  through_then : (deeds more : List MixedDeed) (plan mid last : Network) (certificate seal its : Certificate) (a m next : MixedWorld)
      → MixedRunsThrough ours plan certificate a deeds mid seal m → MixedRunsThrough ours mid seal m more last its next → MixedRunsThrough ours plan certificate a (deeds ++ more) last its next
  through_then [] more plan mid last certificate seal its a m next h k =
      let P : Network × (Certificate × MixedWorld) → Type 0 = λ p. MixedRunsThrough ours p.0 p.1.0 p.1.1 more last its next in
      subst P (λ j. (h.0 j, (h.1 j, h.2 j))) k
  through_then (MixedDoes step ∷ deeds) more plan mid last certificate seal its a m next h k =
      (h.0, h.1, through_then deeds more plan mid last certificate seal its h.0 m next h.2 k)
  through_then (MixedTakes to sealed ∷ deeds) more plan mid last certificate seal its a m next h k =
      (h.0, h.1, h.2, through_then deeds more to mid last sealed seal its h.0 m next h.3 k)

  -- what was done of ours so far, from the beginning
  abbrev Ran : Network → Certificate → MixedWorld → Type 0
  Ran plan certificate m = (before : List MixedDeed) × MixedRunsThrough ours first begun mixed_beginning before plan certificate m

  goes_on : (plan : Network) (certificate : Certificate) (m : MixedWorld) (new : ByteWorld) → Ran plan certificate m → (g : Goes ours plan certificate m new) → Ran plan certificate g.1
  goes_on plan certificate m new ran g =
      (ran.0 ++ mapped MixedDoes g.0, through_then ran.0 (mapped MixedDoes g.0) first plan plan begun certificate certificate mixed_beginning m g.1 ran.1 (steps_behind g.0 plan certificate m g.1 g.2))

  plays : (deeds : List Deed) (changes : List Change) (plan last : Network) (certificate its : Certificate) (b new : ByteWorld) (m : MixedWorld)
      → IsCertified plan certificate → Ran plan certificate m → Stands ours plan certificate b m → FitsFrom ours plan certificate b deeds → PlaysThrough plan certificate b deeds changes last its new
      → (did : List MixedDeed) × (next : MixedWorld) × MixedRunsThrough ours first begun mixed_beginning did last its next × HasOurs ours new next
  plays [] changes plan last certificate its b new m certified ran s fits h = (
    ran.0,
    m,
    subst (λ (p : Network × Certificate). MixedRunsThrough ours first begun mixed_beginning ran.0 p.0 p.1 m) (λ j. (sym h.1 j, sym h.2 j)) ran.1,
    subst (λ (z : ByteWorld). HasOurs ours z m) (sym h.3) s.has,
  )
  plays (deed.Step step ∷ deeds) changes plan last certificate its b new m certified ran s fits (note, mid, h, rest) =
      let g = each ours plan certificate certified b m s first begun sound ran.0 ran.1 (step_of step) note mid fits.0 h.0 in
      plays deeds changes plan last certificate its mid new g.1 certified (goes_on plan certificate m mid ran g) g.3 (fits.1 note mid h.0) rest
  plays (deed.Bytes link side piece ∷ deeds) changes plan last certificate its b new m certified ran s fits (mid, h, rest) =
      let g = writes ours plan certificate certified b m s first begun sound ran.0 ran.1 link fits.0 (named side) piece mid h in
      plays deeds changes plan last certificate its mid new g.1 certified (goes_on plan certificate m mid ran g) g.3 (fits.1 mid h) rest
  plays (deed.Adopt next ∷ deeds) [] plan last certificate its b new m certified ran s fits h = absurd h
  plays (deed.Adopt next ∷ deeds) (of_plan.Adopted ∷ changes) plan last certificate its b new m certified ran s fits (mid, (proper, h), rest) =
      let there : MixedWorld = taken ours plan next.plan certificate next.certificate b mid m s h in
      let one : MixedRunsThrough ours plan certificate m (MixedTakes next.plan next.certificate ∷ []) next.plan next.certificate there = (there, proper, mixed_take ours plan next.plan certificate next.certificate b mid m s h, (refl, refl, refl)) in
      let done : Ran next.plan next.certificate there = (
        ran.0 ++ MixedTakes next.plan next.certificate ∷ [],
        through_then ran.0 (MixedTakes next.plan next.certificate ∷ []) first plan next.plan begun certificate next.certificate mixed_beginning m there ran.1 one,
      ) in
      plays deeds changes next.plan last next.certificate its mid new there proper done (taken_stands ours plan next.plan certificate next.certificate b mid m s h) (fits of_plan.Adopted mid (proper, h)) rest
  plays (deed.Adopt next ∷ deeds) (of_plan.Skipped ∷ changes) plan last certificate its b new m certified ran s fits (mid, h, rest) =
      plays deeds changes plan last certificate its mid new m certified ran (subst (λ (z : ByteWorld). Stands ours plan certificate z m) (sym h.0) s) (fits of_plan.Skipped mid h) rest
  plays (deed.Adopt next ∷ deeds) (of_plan.Unfit node uid dest ∷ changes) plan last certificate its b new m certified ran s fits (mid, h, rest) =
      plays deeds changes plan last certificate its mid new m certified ran (subst (λ (z : ByteWorld). Stands ours plan certificate z m) (sym h.0) s) (fits (of_plan.Unfit node uid dest) mid h) rest

pub fit_scripts_are_own_runs : FitScriptsAreOwnRuns
fit_scripts_are_own_runs ours plan last certificate its deeds changes b certified fits h =
    plays ours plan certificate certified deeds changes plan last certificate its bytes.beginning b mixed_beginning certified ([], (refl, refl, refl)) (at_first ours plan certificate) fits h

-- the last plan is the one that was taken last
pub last_in_force : (deeds : List Deed) (changes : List Change) (plan last : Network) (certificate its : Certificate) (b new : ByteWorld)
    → PlaysThrough plan certificate b deeds changes last its new → last ≡ in_force plan (taken_in deeds changes)
last_in_force [] changes plan last certificate its b new h = h.1
last_in_force (deed.Step step ∷ deeds) changes plan last certificate its b new h = last_in_force deeds changes plan last certificate its h.1 new h.3
last_in_force (deed.Bytes link side bytes ∷ deeds) changes plan last certificate its b new h = last_in_force deeds changes plan last certificate its h.0 new h.2
last_in_force (deed.Adopt next ∷ deeds) [] plan last certificate its b new h = absurd h
last_in_force (deed.Adopt next ∷ deeds) (of_plan.Adopted ∷ changes) plan last certificate its b new h = last_in_force deeds changes next.plan last next.certificate its h.0 new h.2
last_in_force (deed.Adopt next ∷ deeds) (of_plan.Skipped ∷ changes) plan last certificate its b new h = last_in_force deeds changes plan last certificate its h.0 new h.2
last_in_force (deed.Adopt next ∷ deeds) (of_plan.Unfit node uid dest ∷ changes) plan last certificate its b new h = last_in_force deeds changes plan last certificate its h.0 new h.2

module _ {L : Type 0} {l : Ghosts L} where
  pub fit_scripts_keep_the_claims : (w : World L l) → FitScriptsKeepTheClaims w
  fit_scripts_keep_the_claims w ours plan certificate certified deeds changes played fits = ∥∥₁_elim played ∥∥₁_prop (λ r.
      let a = fit_scripts_are_own_runs ours plan r.0 certificate r.1 deeds changes r.3.0 certified fits r.3.1 in
      let last = last_in_force deeds changes plan r.0 certificate r.1 bytes.beginning r.3.0 r.3.1 in
      ∥∥₁_map (mixed_changes_keep_the_claims ours plan certificate certified a.0 r.0 r.1 a.1 a.2) (λ c. (
        c.1,
        (λ name n is mine. sym ((c.3.desks name mine).0) ∙ (ap (λ (d : Desk). d.book) (a.3.desks name mine)
            ∙ ap (λ (d : Desk). d.book) (r.3.2.desks name ∙ ap (λ (q : Option (Node L l)). desk_at (option_map seat_of q)) is))),
        (c.0, subst (λ (p : Network). RunsAmong ours plan start c.0 p c.1) last c.2),
        subst (λ (p : Network). HeadlineAmong ours p c.1) last c.4,
      )))

-- ---- names are looked at

-- some first bytes are all, or there are more
split : (m : ℕ) (wire : List ℕ) → (take m wire ≡ wire) ⊎ ((back : List ℕ) × (wire ≡ take m wire ++ back) × (back ≢ []))
split m wire = by (drop m wire) (sym (take-append-drop m wire))
  where
    by : (back : List ℕ) → wire ≡ take m wire ++ back → (take m wire ≡ wire) ⊎ ((back : List ℕ) × (wire ≡ take m wire ++ back) × (back ≢ []))
    by [] e = inl (sym (append-nil (take m wire)) ∙ sym e)
    by (y ∷ ys) e = inr (y ∷ ys, e, λ f. cc f)

pub names_are_looked_at : NamesAreLookedAt
names_are_looked_at = record {
  others = λ ours k p comes none m ear inputs h.
      let P : List Input → Type 0 = λ is. AllByRecursion (CallsAsNoneOfOurs ours) is in
      elim (split m k.to_receiver) [
        | inl whole ↦
            subst P (sym (hears_one k.receiver.ear ear (take m k.to_receiver) inputs p comes.works comes.fits comes.meets (ap (λ (w : List ℕ). k.receiver.ear.kept ++ w) whole ∙ comes.is) h).0) none
        | inr (back, joined, some) ↦
            let parts : written p ≡ (k.receiver.ear.kept ++ take m k.to_receiver) ++ back = sym comes.is
            ∙ (ap (λ (w : List ℕ). k.receiver.ear.kept ++ w) joined ∙ sym (append_assoc k.receiver.ear.kept (take m k.to_receiver) back)) in
            subst P (sym (hears_none k.receiver.ear ear (take m k.to_receiver) back inputs p comes.works comes.fits comes.meets parts some h).0) tt
      ];
  own = λ ours k rq comes mine none.
      let p : Pdu = pdu.AssociateRq rq in
      let limit : ℕ = k.receiver.ear.limit in
      let ear : Feeding = record { limit = limit; failed = false; kept = [] } in
      let piece : List ℕ = take (length k.to_receiver) k.to_receiver in
      let all : piece ≡ k.to_receiver = take_all (length k.to_receiver) k.to_receiver (omega arith) in
      let text : k.receiver.ear.kept ++ piece ≡ written p ++ [] = ap (λ (w : List ℕ). k.receiver.ear.kept ++ w) all ∙ (comes.is ∙ sym (append-nil (written p))) in
      let on : HearsOn limit k.receiver.ear.kept piece (input.Request rq ∷ []) ear = record {
        pdus = p ∷ [];
        rest = [];
        last = [];
        run = ([], (written p, text, written_spells limit p comes.fits comes.meets), refl);
        stops = (nothing_yet limit, refl, refl);
        same = refl;
        are = refl;
      } in
      let h : Hears k.receiver.ear piece (input.Request rq ∷ []) ear = subst (λ (f : Bool). HearsBy f k.receiver.ear piece (input.Request rq ∷ []) ear) (sym comes.works) on in
      false≢true (sym (none (length k.to_receiver) ear (input.Request rq ∷ []) h).0 ∙ mine);
}
