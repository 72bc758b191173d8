-- What an acceptor of ours does with what another product writes, in the message world.
use Rattle.std.proofs.Common.{arith, ◌≡◌, ◌≢◌, ℕ, Bool, true, false, List, [], ◌∷◌, ◌++◌, map}
use Rattle.std.proofs.Common.{Contains, Option, Some, None, Ok, Err, refl, sym, ap, subst, ◌∙◌, inl}
use Rattle.std.proofs.Common.{inr}
use Rattle.std.proofs.Common.{◌⊎◌, ◌≤◌, ◌<◌}
use Rattle.std.specs.Prelude.{◌+◌, ◌&&◌, ◌||◌}
use Rattle.std.specs.List.{AllByRecursion, list_any}
use Rattle.std.specs.FinMap as map_of
use Rattle.std.specs.FinSet as set
use Rattle.std.specs.Str.{bytes_eq}
use Rattle.std.specs.Ordering.{eq_by_cmp, nat_cmp}
use Rattle.std.proofs.lemmas.Bool.{cases_Bool, false≢true}
use Rattle.std.proofs.lemmas.Option.{same_Some}
use Rattle.std.proofs.lemmas.Slice.Eq.{bytes_eq-Decides}
use Rattle.dr_base.specs.Texts.{Text}
use Rattle.dr_base.specs.Syntaxes.{syntax_uid}
use Rattle.dr_base.specs.declared.syntax.Syntax.{Syntax}
use Rattle.dr_base.specs.declared.syntax.Syntax.TheVariants.{Implicit, Explicit}
use Rattle.dr_route.specs.Routes.{local, AcceptsBy, IsCaller, Takes as TakesRow}
use Rattle.dr_route.specs.declared.accept.AcceptRow.{AcceptRow}
use Rattle.dr_route.specs.declared.accept.Callers.{Callers}
use Rattle.dr_route.specs.declared.accept.Callers.TheVariants as callers
use Rattle.dr_plan_model.specs.Networks.{Network}
use Rattle.dr_plan_model.specs.Walks.{Accepts}
use Rattle.dr_plan_model.proofs.Gathered.{Contains-there}
use Rattle.dr_plan_model.proofs.Gathered.{Contains-here}
use Rattle.dr_plan_sound.specs.declared.certificate.Certificate.{Certificate}
use Rattle.dr_plan_sound.proofs.Hopping.{goes_to}
use Rattle.dr_site.specs.Parts.{Part, IsPartOf}
use Rattle.dr_site.specs.Sites.{IsCertified}
use Rattle.dr_site.proofs.ContextsAsPlanned.{accepts_as_planned}
use Rattle.dr_ulstate.specs.declared.table.State.TheVariants.{Sta2, Sta3, Sta6}
use Rattle.dr_ulstate.specs.Standing.{moved, standing}
use Rattle.dr_pdu.specs.declared.pdu.Pdv.{Pdv}
use Rattle.dr_pdu.specs.Feeding.{Feeding}
use Rattle.dr_dimse.specs.declared.command.Command.TheVariants.{StoreRq, StoreRsp}
use Rattle.dr_dimse.specs.declared.message.Body.TheVariants as body
use Rattle.dr_dimse.specs.Taking.{MessageStage as Taken, TakesValue}
use Rattle.dr_ledger.specs.declared.content.Job.{Job}
use Rattle.dr_ledger.specs.declared.fault.LedgerFault.TheVariants as fault
use Rattle.dr_ledger.specs.declared.item.Arrived.TheVariants.{New, Again}
use Rattle.dr_ledger.specs.declared.item.Instance.{Instance}
use Rattle.dr_ledger.specs.declared.item.Progress.TheVariants.{Waiting}
use Rattle.dr_ledger.specs.Books.{Book, empty_book}
use Rattle.dr_ledger.specs.Items.{IsItem, instance_of}
use Rattle.dr_ledger.specs.Pairs.{pair_cmp}
use Rattle.dr_ledger.specs.PlanRoutes.{plan_routing, same_syntax}
use Rattle.dr_ledger.specs.Replies.{Arrives, IsAdmitted, IsWaiting, store_status, Reply}
use Rattle.dr_ledger.proofs.Maps.{get_new, get_other, same_or_not, texts}
use Rattle.dr_nego.specs.declared.agreed.Agreed.{Agreed}
use Rattle.dr_nego.specs.declared.agreed.Pair.{Pair}
use Rattle.dr_nego.specs.Agreeing.{AssociateRq, pair_at, is_id}
use Rattle.dr_nego.specs.declared.answering.Answer.TheVariants.{Accept}
use Rattle.dr_nego.specs.Answering.{answer, acceptance_of, agreed_by, is_row_for, is_caller}
use Rattle.dr_nego.proofs.OneContext.{any_passes, among_texts, found_is, row_is_for}
use Rattle.dr_nego.proofs.OneContext.{same_texts}
use Rattle.dr_session.specs.declared.ends.Core.{Core}
use Rattle.dr_session.specs.declared.ends.Effect.{Effect}
use Rattle.dr_session.specs.declared.ends.Input.{Input}
use Rattle.dr_session.specs.declared.ends.Input.TheVariants.{Request, Value}
use Rattle.dr_session.specs.declared.ends.LinkAction.{LinkAction}
use Rattle.dr_session.specs.declared.ends.Moment.{Moment}
use Rattle.dr_session.specs.Desks.{Arrive, Arrival}
use Rattle.dr_session.specs.Plays.{Reacts, Plays, HearsBy, at_moment, with_stage}
use Rattle.dr_ulstate.specs.Phases.{in_its_phase}
use Rattle.dr_session.specs.Reactions.{effect, stored}
use Rattle.dr_world_model.specs.Worlds.{World, Link, Contexts, Stage, Asking, Answering, Rejecting}
use Rattle.dr_world_model.specs.Worlds.{Open, Storing, Replying, Gone as LinkGone, same_text}
use Rattle.dr_world_model.specs.Worlds.{with_link, with_book, with_armed, at_stage}
use Rattle.dr_world_model.specs.Worlds.{without_receiver, books_with, start}
use Rattle.dr_world_model.specs.Calls.{Arriving, Settlement, store_outcome_of}
use Rattle.dr_world_model.specs.Steps.{IsLink, new_link, asked, after_settling}
use Rattle.dr_world_model.specs.Events.{Receive, BreakReceiver}
use Rattle.dr_world_model.specs.Among.{Ours, Act, Own, Other, Turn, Calls, Takes, Stores, RunsAmong}
use Rattle.dr_world_model.specs.Among.{answered_link, HeadlineAmong}
use Rattle.dr_world_model.proofs.AmongActs.{headline_holds_among}
use Rattle.dr_world_model.proofs.Lookups.{numbers}
use Rattle.dr_world_model.proofs.OneReply.{contexts_exact}
use Rattle.dr_world_model.proofs.Safety.{book_here, book_there}
use Rattle.dr_world_tie.specs.Desks.{Desk, ArmedBy, LedgerStep}
use Rattle.dr_world_tie.specs.Channels.{LiveTerminal, IsAt, IsOff, IsListening, IsReceiver, IsSideOf}
use Rattle.dr_world_tie.specs.Channels.{message, site_of, site_in, contexts_of}
use Rattle.dr_world_tie.specs.Ties.{IsDeskOf, OnlyHere, StaysOff}
use Rattle.dr_world_tie.specs.Foreign.{AreTaken, Serves, StandsAt, IsCalledBy, ShowsForeign, Came}
use Rattle.dr_world_tie.specs.Foreign.{Nothing, Asked, Brought, Left, reading, reading_at, AreActs}
use Rattle.dr_world_tie.specs.Foreign.{Writes, WritesControls, OnlyOf, Comes, ComeAll}
use Rattle.dr_world_tie.specs.Foreign.{OthersHaveNone, CallsAsNoneOfOurs, StandsIn}
use Rattle.dr_world_tie.specs.Foreign.{OneInputComes, AnyBytesCome, ClaimsHoldAfterBytes}
use Rattle.dr_world_tie.specs.Foreign.{StoresAreBrought, RequestsAreAnswered, AcceptorsBegin}
use Rattle.dr_world_tie.specs.Foreign.{NothingUnheardIsStored, OursAreNotForeign}
use Rattle.dr_world_tie.proofs.Agreeing.{accepted_core}
use Rattle.dr_world_tie.proofs.CallerLeaving.{armed_after}
use Rattle.dr_world_tie.proofs.ContextSets.{has_context}
use Rattle.dr_world_tie.proofs.Leaving.{only_link}
use Rattle.dr_world_tie.proofs.Off.{off_stays_off}
use Rattle.dr_world_tie.proofs.Values.{store_by}
use Rattle.dr_world_tie.proofs.Acceptors.{Gone, Stays, Kept, Brings, IsAgreedOn, Took}
use Rattle.dr_world_tie.proofs.Acceptors.{Refused, awaited, served, accepts, both_hold}

-- ---- acts, one after another

pub runs_on : (ours : Ours) (a b : List Act) (plan mid last : Network) (w v u : World)
    → RunsAmong ours plan w a mid v
    → RunsAmong ours mid v b last u
    → RunsAmong ours plan w (a ++ b) last u
runs_on ours [] b plan mid last w v u h k = subst
    (λ (p : Network). RunsAmong ours p w b last u) h.0
    (subst (λ (z : World). RunsAmong ours mid z b last u) h.1 k)
runs_on ours (Own event ∷ a) b plan mid last w v u h k =
    (h.0, (h.1.0, h.1.1, runs_on ours a b plan mid last h.1.0 v u h.1.2 k))
runs_on ours (Other doing ∷ a) b plan mid last w v u h k =
    (h.0, h.1, runs_on ours a b plan mid last h.0 v u h.2 k)
runs_on ours (Turn next ∷ a) b plan mid last w v u h k =
    (h.0, (h.1.0, h.1.1, runs_on ours a b next mid last h.1.0 v u h.1.2 k))

-- ---- what stays as it was

pub only_none : (w : World) (number : Option ℕ) (name : Text) → OnlyOf w w number name
only_none w number name = record {
  books = λ other apart. refl;
  links = λ other apart. refl;
  armed = λ other apart. refl;
  rest = (refl, refl);
  opened = omega arith;
}

pub only_of : (w v : World) (number : ℕ) (name : Text)
    → OnlyHere w v number name
    → OnlyOf w v (Some number) name
only_of w v number name h = record {
  books = h.books;
  links = λ other apart. h.links other (λ e. apart (ap (λ (n : ℕ). Some n) (sym e)));
  armed = h.armed;
  rest = (h.rest.0, h.rest.1);
  opened = (let e : v.opened ≡ w.opened = h.rest.2 in omega (arith, e));
}

-- a number stays once there is one
abbrev Keeps : Option ℕ → Option ℕ → Type 0
Keeps number next = (n : ℕ) → number ≡ Some n → next ≡ Some n

pub only_then : (w v u : World) (number next : Option ℕ) (name : Text)
    → OnlyOf w v number name → OnlyOf v u next name → Keeps number next → OnlyOf w u next name
only_then w v u number next name first later keeps = record {
  books = λ other apart. later.books other apart ∙ first.books other apart;
  links = λ other apart. later.links other apart ∙ first.links other (λ e. apart (keeps other e));
  armed = λ other apart. later.armed other apart ∙ first.armed other apart;
  rest = (later.rest.0 ∙ first.rest.0, later.rest.1 ∙ first.rest.1);
  opened = (
      let a : w.opened ≤ v.opened = first.opened in
      let b : v.opened ≤ u.opened = later.opened in
      omega (arith, a, b));
}

pub are_kept :
    (w : World) (name : Text) (number : Option ℕ) (came : Came) (acts : List Act) (next : Option ℕ)
    → AreActs w name number came acts next
    → Keeps number next
are_kept w name number Nothing acts next h n e = h.1 ∙ e
are_kept w name None (Asked caller answer) acts next h n e = absurd (cc e)
are_kept w name (Some m) (Brought item reply) acts next h n e = h.1 ∙ e
are_kept w name (Some m) Left acts next h n e = h.1 ∙ e
are_kept w name None (Brought item reply) acts next h n e = absurd h
are_kept w name None Left acts next h n e = absurd h
are_kept w name (Some m) (Asked caller answer) acts next h n e = absurd h

apart_from_ours : (ours : Ours) (name other : Text)
    → ours name ≡ true → ours other ≡ false
    → same_text other name ≡ false
apart_from_ours ours name other own away = elim (same_or_not texts other name) [
  | inl same ↦ absurd (false≢true (sym away ∙ (ap ours same ∙ own)))
  | inr apart ↦ apart
]

others_still : (ours : Ours) (w v : World) (next : Option ℕ) (name : Text)
    → ours name ≡ true → OthersHaveNone ours w → OnlyOf w v next name → OthersHaveNone ours v
others_still ours w v next name own none only other away =
    only.books other (apart_from_ours ours name other own away) ∙ none other away

-- ---- the other read what it was answered

abbrev open_link : Link → Stage → Link
open_link link stage = record {
  caller = link.caller;
  receiver = link.receiver;
  caller_connected = true;
  receiver_connected = true;
  stage = stage;
}

abbrev link_as : Link → Bool → Bool → Stage → Link
link_as link b c stage = record {
  caller = link.caller;
  receiver = link.receiver;
  caller_connected = b;
  receiver_connected = c;
  stage = stage;
}

both_on : (link : Link) (stage : Stage)
    → link.caller_connected ≡ true
    → link.receiver_connected ≡ true
    → link_as link link.caller_connected link.receiver_connected stage ≡ open_link link stage
both_on link stage on there =
    ap (λ (b : Bool). link_as link b link.receiver_connected stage) on
    ∙ ap (λ (b : Bool). link_as link true b stage) there

pub record Ready (ours : Ours) (plan : Network) (w : World) (number : ℕ) (link : Link)
    (accepted : Contexts) : Type 0 where
  pub world : World
  pub runs : RunsAmong ours plan w (reading number link.stage) plan world
  pub here : IsLink world number (open_link link (Open accepted))
  pub books : (other : Text) → world.books other ≡ w.books other
  pub armed : world.armed ≡ w.armed
  pub links : (other : ℕ) → other ≢ number → map_of.get world.links other ≡ map_of.get w.links other
  pub rest : (world.time ≡ w.time) × (world.stood ≡ w.stood)
  pub opened : world.opened ≡ w.opened

pub none_waits : (uid dest : Text) → IsWaiting empty_book uid dest → ⊥
none_waits uid dest (tries, due, e) =
    (let f : None ≡ Some (Waiting tries due) = sym (map_of.get-empty pair_cmp (uid, dest)) ∙ e in
    absurd (cc f))

pub same_books : (books : Text → Book) (name other : Text)
    → books_with books name (books name) other ≡ books other
same_books books name other = elim (same_or_not texts other name) [
  | inl same ↦ subst
      (λ (n : Text). books_with books name (books name) n ≡ books n) (sym same)
      (book_here books name (books name))
  | inr apart ↦ book_there books name (books name) other apart
]

module _ (ours : Ours) (plan : Network) (w : World) (number : ℕ) (link : Link)
    (here : IsLink w number link) (none : w.books link.caller ≡ empty_book)
    (on : link.caller_connected ≡ true) (there : link.receiver_connected ≡ true)
    (accepted : Contexts) where
  ready_open : link.stage ≡ Open accepted → Ready ours plan w number link accepted
  ready_open e = record {
    world = w;
    runs = subst
        (λ (st : Stage). RunsAmong ours plan w (reading number st) plan w) (sym e) (refl, refl);
    here =
        here
        ∙ ap
        (λ (l : Link). Some l)
        (ap (λ (st : Stage). link_as link link.caller_connected link.receiver_connected st) e
        ∙ both_on link (Open accepted) on there);
    books = λ other. refl;
    armed = refl;
    links = λ other apart. refl;
    rest = (refl, refl);
    opened = refl;
  }

  ready_answering : link.stage ≡ Answering accepted → Ready ours plan w number link accepted
  ready_answering e =
      let after : World = with_link w number (at_stage link (Open accepted)) in
      record {
        world = after;
        runs = subst
            (λ (st : Stage). RunsAmong ours plan w (reading number st) plan after) (sym e) (
              tt,
              (
                after,
                record { link = link; at = here; on = on; then = inl (accepted, e, refl) },
                (refl, refl),
              ),
            );
        here =
            get_new numbers w.links number (at_stage link (Open accepted))
            ∙ ap (λ (l : Link). Some l) (both_on link (Open accepted) on there);
        books = λ other. refl;
        armed = refl;
        links = (only_link w number (at_stage link (Open accepted)) link.receiver).links;
        rest = (refl, refl);
        opened = refl;
      }

  ready_replying : (item : Instance) (status : ℕ)
      → link.stage ≡ Replying accepted item status
      → Ready ours plan w number link accepted
  ready_replying item status e =
      let mid : World = with_armed (with_book w link.caller (w.books link.caller)) w.armed in
      let then_link : Link = after_settling link (Err fault.NotWaiting) accepted in
      let after : World = with_link mid number then_link in
      let waits : IsWaiting (w.books link.caller) item.uid link.receiver → ⊥ = subst
      (λ (b : Book). IsWaiting b item.uid link.receiver → ⊥) (sym none)
      (none_waits item.uid link.receiver) in
      record {
        world = after;
        runs =
            subst (λ (st : Stage). RunsAmong ours plan w (reading number st) plan after) (sym e) (
              tt,
              (
                after,
                record {
                  link = link;
                  accepted = accepted;
                  item = item;
                  status = status;
                  at = here;
                  on = on;
                  stage = e;
                  mid = mid;
                  call = record {
                    book = w.books link.caller;
                    call = (waits, refl);
                    called = record { armed = w.armed; store = refl; is = refl };
                  };
                  is = refl;
                },
                (refl, refl),
              ),
            );
        here =
            get_new numbers w.links number then_link
            ∙ ap
            (λ (l : Link). Some l) (ap (λ (b : Bool). link_as link true b (Open accepted)) there);
        books = same_books w.books link.caller;
        armed = refl;
        links = (only_link mid number then_link link.receiver).links;
        rest = (refl, refl);
        opened = refl;
      }

-- ---- an instance comes to the node

pub record Arrived (plan : Network) (w : World) (name caller : Text) (item : Instance)
    (reply : Reply) (t : Desk) : Type 0 where
  pub mid : World
  pub call : Arriving plan w name caller item reply mid
  pub desk : IsDeskOf mid name t
  pub books : (other : Text) → same_text other name ≡ false → mid.books other ≡ w.books other
  pub armed : (other : Text)
      → same_text other name ≡ false
      → set.contains mid.armed other ≡ set.contains w.armed other
  pub links : mid.links ≡ w.links
  pub rest : (mid.time ≡ w.time) × (mid.stood ≡ w.stood)
  pub opened : mid.opened ≡ w.opened

arrives_at :
    (plan : Network) (w : World) (name caller : Text) (item : Job) (reply : Reply) (s t : Desk)
    → IsDeskOf w name s
    → LedgerStep plan name s (Arrive caller item) (Arrival reply) t
    → Arrived plan w name caller (instance_of item) reply t
arrives_at plan w name caller item reply s t desk h =
    let W : Book → Type 0 = λ b. IsAdmitted (plan_routing plan name) caller (instance_of item) b in
    let would : ArmedBy (W (w.books name)) s.armed (store_outcome_of reply) t.armed =
    subst (λ (b : Book). ArmedBy (W b) s.armed (store_outcome_of reply) t.armed) desk.0 h.1 in
    let a = armed_after (W (w.books name)) w.armed name (store_outcome_of reply) s.armed t.armed
    desk.1 would in
    record {
      mid = with_armed (with_book w name t.book) a.0;
      call = record {
        book = t.book;
        call = subst
            (λ (b : Book).
            Arrives (plan_routing plan name) caller (instance_of item) b reply t.book) desk.0 h.0;
        called = record { armed = a.0; store = a.1; is = refl };
      };
      desk = (sym (book_here w.books name t.book), a.2);
      books = λ other apart. book_there w.books name t.book other apart;
      armed = a.3;
      links = refl;
      rest = (refl, refl);
      opened = refl;
    }

-- where the plan has no line for it, nothing happens
no_line : (plan : Network) (name caller : Text) (item : Job) (s t : Desk)
    → ((plan_routing plan name).HasLine caller (instance_of item).key → ⊥)
    → (reply : Reply)
    → LedgerStep plan name s (Arrive caller item) (Arrival reply) t
    → (store_status reply ≡ 0xC0F0) × (t.book ≡ s.book) × (t.armed ≡ s.armed)
no_line plan name caller item s t none (Ok New) h = absurd (none h.0.0.line)
no_line plan name caller item s t none (Ok Again) h = absurd (none h.0.0.line)
no_line plan name caller item s t none (Err fault.NoLine) h = (refl, h.0.1, h.1)
no_line plan name caller item s t none (Err fault.Conflict) h = absurd (none h.0.0)
no_line plan name caller item s t none (Err fault.Store) h = absurd (none h.0.0)
no_line plan name caller item s t none (Err fault.Memory) h = absurd (none h.0.0)
no_line plan name caller item s t none (Err fault.NotWaiting) h = absurd h.0
no_line plan name caller item s t none (Err fault.NotHeld) h = absurd h.0
no_line plan name caller item s t none (Err fault.NotOver) h = absurd h.0

-- ---- what accept rows take

same_syntaxes : (a b : Syntax) → same_syntax a b ≡ true → a ≡ b
same_syntaxes Implicit Implicit h = refl
same_syntaxes Explicit Explicit h = refl
same_syntaxes Implicit Explicit h = absurd (false≢true h)
same_syntaxes Explicit Implicit h = absurd (false≢true h)

same_itself : (a : Syntax) → same_syntax a a ≡ true
same_itself Implicit = refl
same_itself Explicit = refl

either_is : (a b : Bool) → (a || b) ≡ true → (a ≡ true) ⊎ (b ≡ true)
either_is true b h = inl refl
either_is false b h = inr h

any_is : (s : Syntax) (ss : List Syntax) → list_any (same_syntax s) ss ≡ true → Contains ss s
any_is s [] h = absurd (false≢true h)
any_is s (r ∷ rs) h = elim (either_is (same_syntax s r) (list_any (same_syntax s) rs) h) [
  | inl same ↦ subst
      (λ (q : Syntax). Contains (r ∷ rs) q) (sym (same_syntaxes s r same)) (Contains-here r rs)
  | inr later ↦ Contains-there r rs s (any_is s rs later)
]

caller_is : (from : Callers) (caller : Text) → is_caller from caller ≡ true → IsCaller from caller
caller_is callers.Any caller h = tt
caller_is (callers.Listed names) caller h = among_texts caller names h

abbrev takes_pair : Text → Text × Syntax → AcceptRow → Bool
takes_pair caller pair row =
    is_row_for caller pair.0 row && list_any (same_syntax pair.1) row.syntaxes

abbrev is_taken : List AcceptRow → Text → Text × Syntax → Bool
is_taken rows caller pair = list_any (takes_pair caller pair) rows

row_takes : (row : AcceptRow) (caller : Text) (pair : Text × Syntax)
    → takes_pair caller pair row ≡ true
    → TakesRow row caller pair.0 pair.1
row_takes row caller pair h =
    let b =
    both_hold (is_row_for caller pair.0 row) (list_any (same_syntax pair.1) row.syntaxes) h in
    let d = both_hold (is_caller row.from caller) (bytes_eq row.class pair.0) b.0 in (
      caller_is row.from caller d.0,
      (bytes_eq-Decides row.class pair.0).0 d.1,
      any_is pair.1 row.syntaxes b.1,
    )

taken_by : (rows : List AcceptRow) (caller : Text) (pair : Text × Syntax)
    → is_taken rows caller pair ≡ true
    → AcceptsBy rows caller pair.0 pair.1
taken_by [] caller pair h = absurd (false≢true h)
taken_by (row ∷ rows) caller pair h =
    elim (either_is (takes_pair caller pair row) (is_taken rows caller pair) h) [
      | inl here ↦ inl (row_takes row caller pair here)
      | inr later ↦ inr (taken_by rows caller pair later)
    ]

both_so : (a b : Bool) → a ≡ true → b ≡ true → (a && b) ≡ true
both_so true b h e = e
both_so false b h e = absurd (false≢true h)

or_so : (a b : Bool) → a ≡ true → (a || b) ≡ true
or_so true b h = refl
or_so false b h = absurd (false≢true h)

or_later : (a b : Bool) → b ≡ true → (a || b) ≡ true
or_later true b h = refl
or_later false b h = h

takes_is : (rows : List AcceptRow) (caller : Text) (pair : Text × Syntax)
    → AcceptsBy rows caller pair.0 pair.1
    → is_taken rows caller pair ≡ true
takes_is [] caller pair h = absurd h
takes_is (row ∷ rows) caller pair (inl takes) = or_so (takes_pair caller pair row)
    (is_taken rows caller pair)
    (both_so (is_row_for caller pair.0 row) (list_any (same_syntax pair.1) row.syntaxes)
    (row_is_for row caller pair.0 pair.1 takes)
    (any_passes (same_syntax pair.1) row.syntaxes pair.1 takes.2 (same_itself pair.1)))
takes_is (row ∷ rows) caller pair (inr later) = or_later (takes_pair caller pair row)
    (is_taken rows caller pair) (takes_is rows caller pair later)

abbrev taken_of : List AcceptRow → Text → Contexts → Contexts
taken_of rows caller agreed = set.retain agreed (is_taken rows caller)

are_taken : (plan : Network) (certificate : Certificate) (site : Part)
    → IsPartOf plan certificate site
    → (caller : Text) (agreed : Contexts)
    → AreTaken plan site.name caller agreed (taken_of site.accepts caller agreed)
are_taken plan certificate site is caller agreed pair =
    let kept : set.contains (taken_of site.accepts caller agreed) pair
    ≡ (set.contains agreed pair && is_taken site.accepts caller pair) = set.contains-retain agreed
    (is_taken site.accepts caller) pair (λ x tie.
    ap (is_taken site.accepts caller) (sym (contexts_exact pair x tie))) in
    let planned = accepts_as_planned plan certificate site is caller pair.0 pair.1 in (
      λ h. let b =
          both_hold (set.contains agreed pair) (is_taken site.accepts caller pair) (sym kept ∙ h) in
          (b.0, planned.0 (taken_by site.accepts caller pair b.1)),
      λ h. kept
          ∙ both_so (set.contains agreed pair) (is_taken site.accepts caller pair) h.0
          (takes_is site.accepts caller pair (planned.1 h.1)),
    )

-- ---- ends

pub side_still :
    (plan : Network) (certificate : Certificate) (name : Text) (c d : Core) (ear new : Feeding)
    → d.site ≡ c.site → new.limit ≡ ear.limit
    → IsSideOf plan certificate name c ear
    → IsSideOf plan certificate name d new
side_still plan certificate name c d ear new same limit h = subst
    (λ (p : Option Part). IsPartOf plan certificate (site_in p)
    × ((site_in p).name ≡ name)
    × (new.limit ≡ (site_in p).max_pdu)
    × (p ≡ Some (site_in p))) (sym same) (h.0, h.1, limit ∙ h.2, h.3)

pub desk_still : (w : World) (name : Text) (s t : Desk)
    → t ≡ s → IsDeskOf w name s → IsDeskOf w name t
desk_still w name s t same desk = subst (λ (d : Desk). IsDeskOf w name d) (sym same) desk

controls_of : (c : Core) (x : Effect) → StaysOff c false x → WritesControls x.acts
controls_of c x off = (off.4.0, off.4.1, off.4.2)

listens_still : (c d : Core) (caller : Text) (agreed : Contexts)
    → Stays c d
    → IsListening c caller agreed
    → IsListening d caller agreed
listens_still c d caller agreed still l =
    ((still.0, (l.0.1.0, still.1 ∙ l.0.1.1, l.0.1.2)), still.2 ∙ l.1, still.3 ∙ l.2, still.4 ∙ l.3)

serves_still : (plan : Network) (name caller : Text) (accepted : Contexts) (c d : Core)
    → Stays c d
    → Serves plan name caller accepted c
    → Serves plan name caller accepted d
serves_still plan name caller accepted c d still h =
    (h.0, listens_still c d caller h.0 still h.1, h.2, h.3)

-- ---- before there is a link

module _ (ours : Ours) (plan : Network) (certificate : Certificate) (name : Text) (w : World)
    (k : LiveTerminal) (s : Desk) (own : ours name ≡ true) (others : OthersHaveNone ours w)
    (desk : IsDeskOf w name s) (side : IsSideOf plan certificate name k.core k.ear)
    (moment : Moment) (x : Effect) (t : Desk) where
  abbrev after_ear : LiveTerminal
  after_ear = record { core = x.core; ear = k.ear }

  abbrev Unlinked : Type 0
  Unlinked =
      (came : Came) × (acts : List Act) × (v : World) × (next : Option ℕ)
      × Comes ours plan name w None came acts v next
      × Writes came x.acts
      × StandsIn ours plan certificate name v next after_ear t

  abbrev fresh : ℕ
  fresh = w.opened + 1

  abbrev Unlinked_as : Came → Type 0
  Unlinked_as came =
      (acts : List Act) × (v : World)
      × Comes ours plan name w None came acts v (Some fresh)
      × Writes came x.acts
      × StandsIn ours plan certificate name v (Some fresh) after_ear t

  unlinked_by : (came : Came) → Unlinked_as came → Unlinked
  unlinked_by came h = (came, h.0, h.1, Some fresh, h.2, h.3, h.4)

  stays_unlinked : x.core.site ≡ k.core.site
      → t ≡ s
      → IsReceiver true Asking name x.core ⊎ IsOff x.core false
      → Writes Nothing x.acts → Unlinked
  stays_unlinked site same stands writes = (
    Nothing,
    [],
    w,
    None,
    record {
      are = (refl, refl);
      runs = (refl, refl);
      only = only_none w None name;
      counted = λ n e. inl e;
    },
    writes,
    record {
      own = own;
      others = others;
      desk = desk_still w name s t same desk;
      shows =
          (side_still plan certificate name k.core x.core k.ear k.ear site refl side, stands);
    },
  )

  off_unlinked : Gone k.core s t x → Unlinked
  off_unlinked h = stays_unlinked h.1.1 h.0 (inr h.1.0) (inl (controls_of k.core x h.1))

  same_unlinked : IsReceiver true Asking name k.core → (x ≡ effect [] k.core) × (t ≡ s) → Unlinked
  same_unlinked asking h = stays_unlinked (ap (λ (y : Effect). y.core.site) h.0) h.1
      (inl (subst (λ (y : Effect). IsReceiver true Asking name y.core) (sym h.0) asking))
      (inl ([], ap (λ (y : Effect). Rattle.dr_world_tie.specs.Channels.bytes_of y.acts) h.0, tt))

  module _ (caller : Text) (other : ours caller ≡ false) where
    abbrev called : World
    called = asked w caller name

    only_new : (link : Link) → OnlyOf w (with_link called fresh link) (Some fresh) name
    only_new link = record {
      books = λ o apart. refl;
      links = λ o apart. new_there o (λ e. apart (ap (λ (n : ℕ). Some n) (sym e)));
      armed = λ o apart. refl;
      rest = (refl, refl);
      opened = omega arith;
    }
      where
        new_there : (o : ℕ) → o ≢ fresh
            → map_of.get
            (map_of.insert (map_of.insert w.links fresh (new_link caller name)) fresh link) o
            ≡ map_of.get w.links o
        new_there o apart = elim (same_or_not numbers o fresh) [
          | inl same ↦ absurd (apart same)
          | inr is_not ↦ get_other numbers (map_of.insert w.links fresh (new_link caller name))
              fresh link o is_not ∙ get_other numbers w.links fresh (new_link caller name) o is_not
        ]

    abbrev after_answer : Option Contexts → World
    after_answer answer = with_link called fresh (answered_link (new_link caller name) answer)

    answered_as : (answer : Option Contexts)
        → Rattle.dr_world_model.specs.Among.EachAccepted answer (λ pair.
        Accepts plan name caller pair.0 pair.1)
        → t ≡ s
        → x.core.site ≡ k.core.site
        → ours (answered_link (new_link caller name) answer).caller ≡ false
        → (answered_link (new_link caller name) answer).receiver ≡ name
        → (answered_link (new_link caller name) answer).caller_connected ≡ true
        → StandsAt plan name (answered_link (new_link caller name) answer).receiver_connected
        (answered_link (new_link caller name) answer).stage
        (answered_link (new_link caller name) answer).caller x.core
        → Writes (Asked caller answer) x.acts
        → Unlinked_as (Asked caller answer)
    answered_as answer taken same site away to on stands writes = (
      Other (Calls caller name) ∷ Other (Takes fresh answer) ∷ [],
      after_answer answer,
      record {
        are = (refl, refl);
        runs = (
          called,
          (other, own, refl),
          (
            after_answer answer,
            record {
              link = new_link caller name;
              at = get_new numbers w.links fresh (new_link caller name);
              on = refl;
              stage = refl;
              other = other;
              taken = taken;
              is = refl;
            },
            (refl, refl),
          ),
        );
        only = only_new (answered_link (new_link caller name) answer);
        counted = λ n e. (let q : fresh ≡ n = same_Some fresh n e in
            inr (omega (arith, q), omega (arith, q)));
      },
      writes,
      record {
        own = own;
        others = λ o away_from. others o away_from;
        desk = desk_still w name s t same desk;
        shows = (
          side_still plan certificate name k.core x.core k.ear k.ear site refl side,
          (
            answered_link (new_link caller name) answer,
            get_new numbers called.links fresh (answered_link (new_link caller name) answer),
            record { caller = away; receiver = to; on = on; stands = stands },
          ),
        );
      },
    )

  module _ (asking : IsReceiver true Asking name k.core) where
    abbrev site : Part
    site = site_of k.core

    took : (rq : AssociateRq)
        → ours rq.front.calling ≡ false
        → Took (LedgerStep plan name) moment k.core s t x asking.0 asking.1 site side.3 rq
        → (accepted : Contexts)
        × AreTaken plan name rq.front.calling (contexts_of (agreed_by rq site).pairs) accepted
        × Unlinked_as (Asked rq.front.calling (Some accepted))
    took rq other (not_local, e, same) =
        let caller = rq.front.calling in
        let agreed : Contexts = contexts_of (agreed_by rq site).pairs in
        let accepted : Contexts = taken_of site.accepts caller agreed in
        let taken : AreTaken plan name caller agreed accepted = subst
        (λ (n : Text). AreTaken plan n caller agreed accepted) side.1
        (are_taken plan certificate site side.0 caller agreed) in
        let core : Core = accepted_core moment rq (agreed_by rq site) asking.0.0 k.core in
        let listens : IsListening core caller agreed = (
          (
            (moved (moved asking.0.0 Sta3 moment.now) Sta6 moment.now, refl, asking.0.2, refl),
            (agreed_by rq site, refl, refl),
          ),
          refl,
          asking.1,
          asking.3,
        ) in
        let serves : Serves plan name caller accepted core =
        (agreed, listens, taken, λ e. false≢true (sym not_local ∙ same_texts caller local e)) in (
          accepted,
          taken,
          answered_as caller other (Some accepted)
              (λ pair h. ((taken pair).0 h).1) same (ap (λ (y : Effect). y.core.site) e) other refl
              refl (subst (λ (y : Effect). Serves plan name caller accepted y.core) (sym e) serves)
              (acceptance_of rq site, ap (λ (y : Effect). y.acts) e),
        )

    refused : (caller : Text) → ours caller ≡ false
        → Refused (LedgerStep plan name) moment k.core s t x asking.0 asking.1 site side.3
        → Unlinked_as (Asked caller None)
    refused caller other (rj, d, e, off, same_site, same) = answered_as caller other None tt same
        (ap (λ (y : Effect). y.core.site) e ∙ same_site) other refl refl
        (subst (λ (y : Effect). IsOff y.core false) (sym e) off) (rj, ap (λ (y : Effect). y.acts) e)

    pub at_request : (i : Input) → CallsAsNoneOfOurs ours i
        → Reacts (LedgerStep plan name) k.core (at_moment moment i) s x t
        → Unlinked
    at_request i none r = elim
        (awaited (LedgerStep plan name) moment k.core s t x asking.0 asking.1 site side.3 i r) [
          | inl gone ↦ off_unlinked gone
          | inr (inl same) ↦ same_unlinked asking same
          | inr (inr a) ↦
              (let other : ours a.0.front.calling ≡ false =
              subst (λ (j : Input). CallsAsNoneOfOurs ours j) a.1 none in
              elim a.2 [
                | inl h ↦
                    (let y = took a.0 other h in
                    unlinked_by (Asked a.0.front.calling (Some y.0)) y.2)
                | inr h ↦
                    unlinked_by (Asked a.0.front.calling None) (refused a.0.front.calling other h)
              ])
        ]

    pub accepted_request : (rq : AssociateRq)
        → ours rq.front.calling ≡ false
        → answer rq site moment.others ≡ Accept (acceptance_of rq site) (agreed_by rq site)
        → Reacts (LedgerStep plan name) k.core (at_moment moment (Request rq)) s x t
        → (accepted : Contexts)
        × AreTaken plan name rq.front.calling (contexts_of (agreed_by rq site).pairs) accepted
        × Unlinked_as (Asked rq.front.calling (Some accepted))
    accepted_request rq other e r = took rq other
        (accepts (LedgerStep plan name) moment k.core s t x asking.0 asking.1 site side.3 rq e r)

  pub off_before : IsOff k.core false → (i : Input)
      → Reacts (LedgerStep plan name) k.core (at_moment moment i) s x t
      → Unlinked
  off_before off i r = off_unlinked
      (off_stays_off (LedgerStep plan name) k.core false off (at_moment moment i) s t x r)

-- ---- on a link

module _ (ours : Ours) (plan : Network) (certificate : Certificate)
    (certified : IsCertified plan certificate) (w : World) (number : ℕ) (link : Link) (k : LiveTerminal)
    (s : Desk) (here : IsLink w number link) (away : ours link.caller ≡ false)
    (on : link.caller_connected ≡ true) (own : ours link.receiver ≡ true)
    (others : OthersHaveNone ours w) (desk : IsDeskOf w link.receiver s)
    (side : IsSideOf plan certificate link.receiver k.core k.ear) (moment : Moment) (x : Effect)
    (t : Desk) where
  abbrev node : Text
  node = link.receiver

  abbrev ends_as : LiveTerminal
  ends_as = record { core = x.core; ear = k.ear }

  abbrev Linked : Type 0
  Linked =
      (came : Came) × (acts : List Act) × (v : World) × (next : Option ℕ)
      × Comes ours plan node w (Some number) came acts v next
      × Writes came x.acts
      × StandsIn ours plan certificate node v next ends_as t

  -- nothing happens
  stays_linked : x.core.site ≡ k.core.site
      → IsDeskOf w node t
      → StandsAt plan node link.receiver_connected link.stage link.caller x.core
      → Writes Nothing x.acts → Linked
  stays_linked site same stands writes = (
    Nothing,
    [],
    w,
    Some number,
    record {
      are = (refl, refl);
      runs = (refl, refl);
      only = only_none w (Some number) node;
      counted = λ n e. inl e;
    },
    writes,
    record {
      own = own;
      others = others;
      desk = same;
      shows = (
        side_still plan certificate node k.core x.core k.ear k.ear site refl side,
        (link, here, record { caller = away; receiver = refl; on = on; stands = stands }),
      );
    },
  )

  pub off_linked : link.receiver_connected ≡ false
      → IsOff k.core false → (i : Input)
      → Reacts (LedgerStep plan node) k.core (at_moment moment i) s x t
      → Linked
  off_linked is_off off i r =
      let h = off_stays_off (LedgerStep plan node) k.core false off (at_moment moment i) s t x r in
      stays_linked h.1.1 (desk_still w node s t h.0 desk)
      (subst (λ (b : Bool). StandsAt plan node b link.stage link.caller x.core) (sym is_off) h.1.0)
      (inl (controls_of k.core x h.1))

  -- it leaves
  leaves_linked : link.receiver_connected ≡ true → Gone k.core s t x → Linked
  leaves_linked there h = (
    Left,
    Own (BreakReceiver number) ∷ [],
    with_link w number (without_receiver link),
    Some number,
    record {
      are = (refl, refl);
      runs = (
        tt,
        (
          with_link w number (without_receiver link),
          record { link = link; at = here; on = there; is = refl },
          (refl, refl),
        ),
      );
      only = only_of w (with_link w number (without_receiver link)) number node
          (only_link w number (without_receiver link) node);
      counted = λ n e. inl e;
    },
    controls_of k.core x h.1,
    record {
      own = own;
      others = λ o other. others o other;
      desk = desk_still w node s t h.0 desk;
      shows = (
        side_still plan certificate node k.core x.core k.ear k.ear h.1.1 refl side,
        (
          without_receiver link,
          get_new numbers w.links number (without_receiver link),
          record { caller = away; receiver = refl; on = on; stands = h.1.0 },
        ),
      );
    },
  )

  module _ (there : link.receiver_connected ≡ true) (accepted : Contexts)
      (serves : Serves plan node link.caller accepted k.core)
      (ready : Ready ours plan w number link accepted)
      (stands_as : (d : Core)
      → Serves plan node link.caller accepted d
      → StandsAt plan node link.receiver_connected link.stage link.caller d) where
    listens : IsListening k.core link.caller serves.0
    listens = serves.1

    keeps_linked : Kept k.core s t x → Linked
    keeps_linked (d, acts, e, same, still, writes) =
        let D : Effect → Type 0 =
        λ y. StandsAt plan node link.receiver_connected link.stage link.caller y.core in
        stays_linked (ap (λ (y : Effect). y.core.site) e ∙ still.5)
        (desk_still w node s t same desk)
        (subst D (sym e)
        (stands_as d (serves_still plan node link.caller accepted k.core d still serves)))
        (subst (λ (y : Effect). Writes Nothing y.acts) (sym e) writes)

    abbrev Linked_as : Came → Type 0
    Linked_as came =
        (acts : List Act) × (v : World)
        × Comes ours plan node w (Some number) came acts v (Some number)
        × Writes came x.acts
        × StandsIn ours plan certificate node v (Some number) ends_as t

    -- the instance is stored, and received
    pub brought : (d : Core) (item : Job) (reply : Reply) (context id : ℕ)
        → LedgerStep plan node s (Arrive link.caller item) (Arrival reply) t
        → x ≡ stored d context id item.key.class item.uid (store_status reply)
        → Stays k.core d
        → set.contains accepted (item.key.class, item.key.syntax) ≡ true
        → Linked_as (Brought (instance_of item) reply)
    brought d item reply context id call e still pair =
        let i : Instance = instance_of item in
        let waiting : Link = open_link link (Storing accepted i) in
        let storing : World = with_link ready.world number waiting in
        let storing_desk : IsDeskOf storing node s = (
          desk.0 ∙ sym (ready.books node),
          desk.1 ∙ ap (λ (a : _). set.contains a node) (sym ready.armed),
        ) in
        let came : Arrived plan storing node link.caller i reply t =
        arrives_at plan storing node link.caller item reply s t storing_desk call in
        let answered : Link = open_link link (Replying accepted i (store_status reply)) in
        let v : World = with_link came.mid number answered in
        let only : OnlyOf w v (Some number) node = record {
          books = λ o apart. came.books o apart ∙ ready.books o;
          links = λ o apart. let other : o ≢ number = λ q. apart (ap (λ (n : ℕ). Some n) (sym q)) in
              (only_link came.mid number answered node).links o other
              ∙ (ap (λ (l : _). map_of.get l o) came.links
              ∙ ((only_link ready.world number waiting node).links o other ∙ ready.links o other));
          armed = λ o apart. came.armed o apart ∙ ap (λ (a : _). set.contains a o) ready.armed;
          rest = (came.rest.0 ∙ ready.rest.0, came.rest.1 ∙ ready.rest.1);
          opened = (
              let e : v.opened ≡ w.opened = came.opened ∙ ready.opened in
              omega (arith, e));
        } in
        let behind : List Act = Other (Stores number i) ∷ Own (Receive number reply) ∷ [] in (
          reading number link.stage ++ behind,
          v,
          record {
            are = (
              ap
                  (λ (l : List Act). l ++ behind)
                  (sym (ap (λ (o : Option Link). reading_at number o) here)),
              refl,
            );
            runs = runs_on ours (reading number link.stage) behind plan plan plan w ready.world v
                ready.runs (
                  storing,
                  record {
                    link = open_link link (Open accepted);
                    accepted = accepted;
                    at = ready.here;
                    on = refl;
                    stage = refl;
                    other = away;
                    pair = pair;
                    is = refl;
                  },
                  (
                    λ l at. ap
                        (λ (m : Link). ours m.receiver)
                        (sym
                        (same_Some waiting l
                        (sym (get_new numbers ready.world.links number waiting) ∙ at))) ∙ own,
                    (
                      v,
                      record {
                        link = waiting;
                        accepted = accepted;
                        item = i;
                        at = get_new numbers ready.world.links number waiting;
                        on = refl;
                        stage = refl;
                        mid = came.mid;
                        call = came.call;
                        is = refl;
                      },
                      (refl, refl),
                    ),
                  ),
                );
            only = only;
            counted = λ n e. inl e;
          },
          (
            Rattle.std.specs.Option.option_map_or (λ (a : Agreed). a.limit) d.agreed 0,
            context,
            id,
            ap (λ (y : Effect). y.acts) e,
          ),
          record {
            own = own;
            others = others_still ours w v (Some number) node own others only;
            desk = came.desk;
            shows = (
              side_still plan certificate node k.core x.core k.ear k.ear
                  (ap (λ (y : Effect). y.core.site) e ∙ still.5) refl side,
              (
                answered,
                get_new numbers came.mid.links number answered,
                record {
                  caller = away;
                  receiver = refl;
                  on = refl;
                  stands = subst
                      (λ (y : Effect). Serves plan node link.caller accepted y.core) (sym e)
                      (serves_still plan node link.caller accepted k.core d still serves);
                },
              ),
            );
          },
        )

    -- an agreed context's pair is one of the agreed pairs
    agreed_pair : (item : Job)
        → IsAgreedOn k.core.agreed item
        → set.contains serves.0 (item.key.class, item.key.syntax) ≡ true
    agreed_pair item agreed =
        let same : listens.0.1.0 ≡ agreed.agreed =
        same_Some listens.0.1.0 agreed.agreed (sym listens.0.1.1 ∙ agreed.is) in
        ap
        (λ (c : Contexts). set.contains c (item.key.class, item.key.syntax))
        (listens.0.1.2 ∙ ap (λ (a : Agreed). contexts_of a.pairs) same)
        ∙ has_context agreed.agreed.pairs agreed.context item.key.class item.key.syntax agreed.among
        agreed.class agreed.syntax

    accepted_pair : (item : Job)
        → IsAgreedOn k.core.agreed item
        → Accepts plan node link.caller item.key.class item.key.syntax
        → set.contains accepted (item.key.class, item.key.syntax) ≡ true
    accepted_pair item agreed accepts =
        (serves.2 (item.key.class, item.key.syntax)).1 (agreed_pair item agreed, accepts)

    -- no accept row takes it, so that the plan has no line for it
    unlined : (item : Job)
        → IsAgreedOn k.core.agreed item
        → set.contains accepted (item.key.class, item.key.syntax) ≡ false
        → (plan_routing plan node).HasLine link.caller (instance_of item).key
        → ⊥
    unlined item agreed not_accepted reached = false≢true
        (sym not_accepted
        ∙ accepted_pair item agreed
        (certified.sound.accepted item.key link.caller node
        (goes_to plan item.key link.caller node serves.3 reached)))

    brings_linked : Brings (LedgerStep plan node) k.core s t x → Linked
    brings_linked (d, item, reply, context, id, call, e, still, agreed) =
        let from_caller : LedgerStep plan node s (Arrive link.caller item) (Arrival reply) t =
        subst
        (λ (p : Text). LedgerStep plan node s (Arrive p item) (Arrival reply) t) listens.1 call in
        elim (cases_Bool (set.contains accepted (item.key.class, item.key.syntax))) [
          | inl pair ↦
              (let b = brought d item reply context id from_caller e still pair in
              (Brought (instance_of item) reply, b.0, b.1, Some number, b.2, b.3, b.4))
          | inr not_pair ↦
              (let n = no_line plan node link.caller item s t (unlined item agreed not_pair) reply
              from_caller in
              let e1 : x ≡ stored d context id item.key.class item.uid 0xC0F0 =
              e ∙ ap (λ (m : ℕ). stored d context id item.key.class item.uid m) n.0 in
              let D : Effect → Type 0 =
              λ y. StandsAt plan node link.receiver_connected link.stage link.caller y.core in
              stays_linked (ap (λ (y : Effect). y.core.site) e ∙ still.5)
              (n.1 ∙ desk.0, n.2 ∙ desk.1)
              (subst D (sym e)
              (stands_as d (serves_still plan node link.caller accepted k.core d still serves)))
              (inr (
                Rattle.std.specs.Option.option_map_or (λ (a : Agreed). a.limit) d.agreed 0,
                context,
                StoreRsp id 0xC0F0 item.key.class item.uid false,
                λ q. omega (Rattle.std.proofs.Common.arith, q),
                ap (λ (y : Effect). y.acts) e1,
              )))
        ]

    serves_linked : (i : Input)
        → Reacts (LedgerStep plan node) k.core (at_moment moment i) s x t
        → Linked
    serves_linked i r =
        elim (served (LedgerStep plan node) moment k.core s t x listens.0.0 listens.2 i r) [
          | inl gone ↦ leaves_linked there gone
          | inr (inl kept) ↦ keeps_linked kept
          | inr (inr brings) ↦ brings_linked brings
        ]

    -- the last value of a store
    store_linked : (agreed : Agreed)
        → k.core.agreed ≡ Some agreed
        → (value : Pdv) (context : Pair)
        → pair_at agreed value.id ≡ Some context
        → (item : Job) → IsItem item
        → context.class ≡ item.key.class
        → context.syntax ≡ syntax_uid item.key.syntax
        → Accepts plan node link.caller item.key.class item.key.syntax
        → (n id : ℕ) (stage : Taken)
        → TakesValue k.core.assembly.awaited k.core.assembly.stage value
        (Ok (Some (message n (StoreRq id item.key.class item.uid) (Some (body.Whole item.body)))))
        stage
        → Reacts (LedgerStep plan node) k.core (at_moment moment (Value value)) s x t
        → (reply : Reply) × Linked_as (Brought (instance_of item) reply)
    store_linked agreed has value context found item is_item class syntax accepts n id stage takes
        r =
        let a = store_by plan node moment k.core value agreed context listens.0.0 has found s t x r
        id item is_item (class, syntax) stage n takes in
        let from_caller : LedgerStep plan node s (Arrive link.caller item) (Arrival a.0) t = subst
        (λ (p : Text). LedgerStep plan node s (Arrive p item) (Arrival a.0) t) listens.1 a.1 in
        let on_it : IsAgreedOn k.core.agreed item = record {
          agreed = agreed;
          is = has;
          context = context;
          among = (found_is (is_id value.id) agreed.pairs context found).1;
          class = class;
          syntax = syntax;
        } in
        let core : Core = record (with_stage stage k.core) {
          phase = in_its_phase (moved listens.0.0.0 Sta6 moment.now);
        } in
        let still : Stays k.core core = (
          (moved listens.0.0.0 Sta6 moment.now, refl, listens.0.0.2, refl),
          refl,
          refl,
          refl,
          refl,
          refl,
        ) in
        (a.0, brought core item a.0 n id from_caller a.2 still (accepted_pair item on_it accepts))

  -- what it serves, and how its link gets ready for a store
  abbrev Serving : Type 0
  Serving =
      (accepted : Contexts)
      × Serves plan node link.caller accepted k.core
      × Ready ours plan w number link accepted
      × ((d : Core)
      → Serves plan node link.caller accepted d
      → StandsAt plan node link.receiver_connected link.stage link.caller d)

  stands_by : (stage : Stage)
      → link.receiver_connected ≡ true
      → link.stage ≡ stage → (d : Core)
      → StandsAt plan node true stage link.caller d
      → StandsAt plan node link.receiver_connected link.stage link.caller d
  stands_by stage there e d h = subst
      (λ (b : Bool). StandsAt plan node b link.stage link.caller d) (sym there)
      (subst (λ (st : Stage). StandsAt plan node true st link.caller d) (sym e) h)

  empty : w.books link.caller ≡ empty_book
  empty = others link.caller away

  by_stage : link.receiver_connected ≡ true
      → (stage : Stage) → link.stage ≡ stage
      → StandsAt plan node true stage link.caller k.core
      → Serving
  by_stage there (Open accepted) e h = (
    accepted,
    h,
    ready_open ours plan w number link here empty on there accepted e,
    stands_by (Open accepted) there e,
  )
  by_stage there (Answering accepted) e h = (
    accepted,
    h,
    ready_answering ours plan w number link here empty on there accepted e,
    stands_by (Answering accepted) there e,
  )
  by_stage there (Replying accepted item status) e h = (
    accepted,
    h,
    ready_replying ours plan w number link here empty on there accepted item status e,
    stands_by (Replying accepted item status) there e,
  )
  by_stage there Asking e h = absurd h
  by_stage there Rejecting e h = absurd h
  by_stage there (Storing accepted item) e h = absurd h
  by_stage there LinkGone e h = absurd h

  serving : link.receiver_connected ≡ true
      → StandsAt plan node link.receiver_connected link.stage link.caller k.core
      → Serving
  serving there stands = by_stage there link.stage refl
      (subst (λ (b : Bool). StandsAt plan node b link.stage link.caller k.core) there stands)

  pub linked : StandsAt plan node link.receiver_connected link.stage link.caller k.core
      → (i : Input)
      → Reacts (LedgerStep plan node) k.core (at_moment moment i) s x t
      → Linked
  linked stands i r = elim (cases_Bool link.receiver_connected) [
    | inl there ↦ (let v = serving there stands in serves_linked there v.0 v.1 v.2 v.3 i r)
    | inr is_off ↦ off_linked is_off
        (subst (λ (b : Bool). StandsAt plan node b link.stage link.caller k.core) is_off stands) i r
  ]

  pub store_brought : link.receiver_connected ≡ true
      → StandsAt plan node link.receiver_connected link.stage link.caller k.core
      → (agreed : Agreed)
      → k.core.agreed ≡ Some agreed
      → (value : Pdv) (context : Pair)
      → pair_at agreed value.id ≡ Some context
      → (item : Job) → IsItem item
      → context.class ≡ item.key.class
      → context.syntax ≡ syntax_uid item.key.syntax
      → Accepts plan node link.caller item.key.class item.key.syntax
      → (n id : ℕ) (stage : Taken)
      → TakesValue k.core.assembly.awaited k.core.assembly.stage value
      (Ok (Some (message n (StoreRq id item.key.class item.uid) (Some (body.Whole item.body)))))
      stage
      → Reacts (LedgerStep plan node) k.core (at_moment moment (Value value)) s x t
      → (reply : Reply) × (acts : List Act) × (v : World)
      × Comes ours plan node w (Some number) (Brought (instance_of item) reply) acts v (Some number)
      × Writes (Brought (instance_of item) reply) x.acts
      × StandsIn ours plan certificate node v (Some number) ends_as t
  store_brought there stands agreed has value context found item is_item class syntax accepts n id
      stage takes r =
      let v = serving there stands in
      let b = store_linked there v.0 v.1 v.2 v.3 agreed has value context found item is_item class
      syntax accepts n id stage takes r in
      (b.0, b.1.0, b.1.1, b.1.2, b.1.3, b.1.4)

-- ---- one input

pub one_input_comes : OneInputComes
one_input_comes ours plan certificate certified name w None k s stands moment i none x t r =
    elim stands.shows.1 [
      | inl asking ↦ at_request ours plan certificate name w k s stands.own stands.others
          stands.desk stands.shows.0 moment x t asking i none r
      | inr off ↦ off_before ours plan certificate name w k s stands.own stands.others stands.desk
          stands.shows.0 moment x t off i r
    ]
one_input_comes ours plan certificate certified name w (Some number) k s stands moment i none x t
    r =
    let link : Link = stands.shows.1.0 in
    let called : IsCalledBy ours plan name link k.core = stands.shows.1.2 in
    let P : Text → Type 0 = λ n. ours n ≡ true → IsDeskOf w n s
    → IsSideOf plan certificate n k.core k.ear
    → StandsAt plan n link.receiver_connected link.stage link.caller k.core
    → Reacts (LedgerStep plan n) k.core (at_moment moment i) s x t
    → (came : Came) × (acts : List Act) × (v : World) × (next : Option ℕ)
    × Comes ours plan n w (Some number) came acts v next
    × Writes came x.acts
    × StandsIn ours plan certificate n v next (record { core = x.core; ear = k.ear }) t in
    subst P called.receiver
    (λ own desk side there turns. linked ours plan certificate certified w number link k s
    stands.shows.1.1 called.caller called.on own stands.others desk side moment x t there i turns)
    stands.own stands.desk stands.shows.0 called.stands r

-- ---- any bytes

abbrev Came_all : Ours → Network → Certificate → Text → World → Option ℕ → Feeding → List LinkAction
    → Core → Desk → Type 0
Came_all ours plan certificate name w number ear written d t =
    (cames : List Came) × (acts : List Act) × (v : World) × (next : Option ℕ)
    × ComeAll ours plan name w number cames acts written v next
    × StandsIn ours plan certificate name v next (record { core = d; ear = ear }) t

play_all : (ours : Ours) (plan : Network) (certificate : Certificate)
    → IsCertified plan certificate
    → (name : Text) (moment : Moment) (ear : Feeding) (inputs : List Input)
    → AllByRecursion (CallsAsNoneOfOurs ours) inputs
    → (w : World) (number : Option ℕ) (c : Core) (s : Desk)
    → StandsIn ours plan certificate name w number (record { core = c; ear = ear }) s
    → (written : List LinkAction) (d : Core) (t : Desk)
    → Plays (LedgerStep plan name) c (map (at_moment moment) inputs) s written d t
    → Came_all ours plan certificate name w number ear written d t
play_all ours plan certificate certified name moment ear [] none w number c s stands written d t
    (acts, core, port) = (
      [],
      [],
      w,
      number,
      (refl, acts, refl, refl),
      subst
          (λ (z : Core).
          StandsIn ours plan certificate name w number (record { core = z; ear = ear }) t)
          (sym core)
          (subst
          (λ (z : Desk).
          StandsIn ours plan certificate name w number (record { core = c; ear = ear }) z)
          (sym port) stands),
    )
play_all ours plan certificate certified name moment ear (i ∷ is) none w number c s stands written d
    t (x, m, later, r, rest, e) =
    let one = one_input_comes ours plan certificate certified name w number
    (record { core = c; ear = ear }) s stands moment i none.0 x m r in
    let more = play_all ours plan certificate certified name moment ear is none.1 one.2 one.3 x.core
    m one.6 later d t rest in (
      one.0 ∷ more.0,
      one.1 ++ more.1,
      more.2,
      more.3,
      (one.1, more.1, x.acts, later, one.2, one.3, one.4, one.5, more.4, refl, e),
      more.5,
    )

pub all_kept : (ours : Ours) (plan : Network) (name : Text) (cames : List Came) (w v : World)
    (number next : Option ℕ) (acts : List Act) (written : List LinkAction)
    → ComeAll ours plan name w number cames acts written v next
    → Keeps number next
all_kept ours plan name [] w v number next acts written h n e = h.3 ∙ e
all_kept ours plan name (came ∷ cames) w v number next acts written h n e = all_kept ours plan name
    cames h.4 v h.5 next h.1 h.3 h.8 n (are_kept w name number came h.0 h.5 h.6.are n e)

pub all_run : (ours : Ours) (plan : Network) (name : Text) (cames : List Came) (w v : World)
    (number next : Option ℕ) (acts : List Act) (written : List LinkAction)
    → ComeAll ours plan name w number cames acts written v next
    → RunsAmong ours plan w acts plan v
all_run ours plan name [] w v number next acts written h =
    subst (λ (l : List Act). RunsAmong ours plan w l plan v) (sym h.0) (refl, h.2)
all_run ours plan name (came ∷ cames) w v number next acts written h = subst
    (λ (l : List Act). RunsAmong ours plan w l plan v) (sym h.9)
    (runs_on ours h.0 h.1 plan plan plan w h.4 v h.6.runs
    (all_run ours plan name cames h.4 v h.5 next h.1 h.3 h.8))

pub all_only : (ours : Ours) (plan : Network) (name : Text) (cames : List Came) (w v : World)
    (number next : Option ℕ) (acts : List Act) (written : List LinkAction)
    → ComeAll ours plan name w number cames acts written v next
    → OnlyOf w v next name
all_only ours plan name [] w v number next acts written h =
    subst (λ (z : World). OnlyOf w z next name) (sym h.2) (only_none w next name)
all_only ours plan name (came ∷ cames) w v number next acts written h = only_then w h.4 v h.5 next
    name h.6.only (all_only ours plan name cames h.4 v h.5 next h.1 h.3 h.8)
    (all_kept ours plan name cames h.4 v h.5 next h.1 h.3 h.8)

pub limit_still : (failed : Bool) (ear new : Feeding) (piece : List ℕ) (inputs : List Input)
    → HearsBy failed ear piece inputs new
    → new.limit ≡ ear.limit
limit_still true ear new piece inputs h = ap (λ (f : Feeding). f.limit) h.1
limit_still false ear new piece inputs h = h.same

-- the same end, with another ear of the same limit
hears_on : (ours : Ours) (plan : Network) (certificate : Certificate) (name : Text) (w : World)
    (number : Option ℕ) (c : Core) (ear new : Feeding)
    → new.limit ≡ ear.limit
    → ShowsForeign ours plan certificate name w number (record { core = c; ear = ear })
    → ShowsForeign ours plan certificate name w number (record { core = c; ear = new })
hears_on ours plan certificate name w None c ear new limit h =
    (side_still plan certificate name c c ear new refl limit h.0, h.1)
hears_on ours plan certificate name w (Some number) c ear new limit h =
    (side_still plan certificate name c c ear new refl limit h.0, h.1)

pub any_bytes_come : AnyBytesCome
any_bytes_come ours plan certificate certified name w number k s stands moment piece new x t none
    (inputs, heard, plays) =
    let all = play_all ours plan certificate certified name moment k.ear inputs (none inputs heard)
    w number k.core s stands x.acts x.core t plays in (
      all.0,
      all.1,
      all.2,
      all.3,
      all.4,
      all_run ours plan name all.0 w all.2 number all.3 all.1 x.acts all.4,
      all_only ours plan name all.0 w all.2 number all.3 all.1 x.acts all.4,
      record {
        own = all.5.own;
        others = all.5.others;
        desk = all.5.desk;
        shows = hears_on ours plan certificate name all.2 all.3 x.core k.ear new
            (limit_still k.ear.failed k.ear new piece inputs heard) all.5.shows;
      },
    )

pub claims_hold_after_bytes : ClaimsHoldAfterBytes
claims_hold_after_bytes ours first plan certificate sound certified before w runs name number k s
    own desk shows moment piece new x t none plays =
    let claims : HeadlineAmong ours plan w =
    headline_holds_among ours first sound before plan w runs in
    let all = any_bytes_come ours plan certificate certified name w number k s
    (record { own = own; others = claims.others; desk = desk; shows = shows }) moment piece new x t
    none plays in
    let on = runs_on ours before all.1 first plan plan start w all.2 runs all.5 in (
      all.1,
      all.2,
      all.3,
      on,
      headline_holds_among ours first sound (before ++ all.1) plan all.2 on,
      all.7.desk,
      all.7.shows,
    )

-- ---- laws

pub one_link : (w : World) (number : ℕ) (a b : Link) → IsLink w number a → IsLink w number b → a ≡ b
one_link w number a b one other = same_Some a b (sym one ∙ other)

pub stores_are_brought : StoresAreBrought
stores_are_brought ours plan certificate certified name w number k s stands link here there agreed
    has moment value context found item is_item class syntax accepts n id stage takes x t r =
    let called : IsCalledBy ours plan name link k.core = subst
    (λ (l : Link). IsCalledBy ours plan name l k.core)
    (one_link w number stands.shows.1.0 link stands.shows.1.1 here) stands.shows.1.2 in
    let P : Text → Type 0 = λ m. ours m ≡ true → IsDeskOf w m s
    → IsSideOf plan certificate m k.core k.ear
    → StandsAt plan m link.receiver_connected link.stage link.caller k.core
    → Accepts plan m link.caller item.key.class item.key.syntax
    → Reacts (LedgerStep plan m) k.core (at_moment moment (Value value)) s x t
    → (reply : Reply) × (acts : List Act) × (v : World)
    × Comes ours plan m w (Some number) (Brought (instance_of item) reply) acts v (Some number)
    × Writes (Brought (instance_of item) reply) x.acts
    × StandsIn ours plan certificate m v (Some number) (record { core = x.core; ear = k.ear }) t in
    subst P called.receiver
    (λ own desk side at takes_it turns. store_brought ours plan certificate certified w number link
    k s here called.caller called.on own stands.others desk side moment x t there at agreed has
    value context found item is_item class syntax takes_it n id stage takes turns) stands.own
    stands.desk stands.shows.0 called.stands accepts r

pub nothing_unheard_is_stored : NothingUnheardIsStored
nothing_unheard_is_stored ours plan certificate name w number k link accepted item here there
    storing h =
    let called : IsCalledBy ours plan name link k.core = subst
    (λ (l : Link). IsCalledBy ours plan name l k.core) (one_link w number h.1.0 link h.1.1 here)
    h.1.2 in
    subst
    (λ (st : Stage). StandsAt plan name true st link.caller k.core) storing
    (subst (λ (b : Bool). StandsAt plan name b link.stage link.caller k.core) there called.stands)

pub ours_are_not_foreign : OursAreNotForeign
ours_are_not_foreign ours plan certificate name w number k link here own h =
    let called : IsCalledBy ours plan name link k.core = subst
    (λ (l : Link). IsCalledBy ours plan name l k.core) (one_link w number h.1.0 link h.1.1 here)
    h.1.2 in
    false≢true (sym called.caller ∙ own)

pub requests_are_answered : RequestsAreAnswered
requests_are_answered ours plan certificate name w k s stands asking moment rq other e x t r =
    accepted_request ours plan certificate name w k s stands.own stands.others stands.desk
    stands.shows.0 moment x t asking rq other e r

pub acceptors_begin : AcceptorsBegin
acceptors_begin ours plan certificate part w now is = (
  (is, refl, refl, refl),
  inl ((standing Sta2 false now, refl, refl, refl), refl, refl, refl, refl),
)
