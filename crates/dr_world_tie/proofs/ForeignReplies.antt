-- What a requestor of ours does with what another product answers, in the message world.
use Rattle.std.proofs.Common.{◌≡◌, ◌≢◌, ℕ, ◌<◌, Bool, true, false, List, [], ◌∷◌, ◌++◌, map}
use Rattle.std.proofs.Common.{Contains, Option, Some, None, Ok, Err, refl, sym, ap, subst, ◌∙◌, inl}
use Rattle.std.proofs.Common.{inr, arith}
use Rattle.std.specs.Prelude.{◌==◌, AllPairs, if◌then◌else◌}
use Rattle.std.specs.List.{AllByRecursion, flat_map}
use Rattle.std.specs.FinMap as map_of
use Rattle.std.specs.FinSet as set
use Rattle.std.proofs.lemmas.Bool.{cases_Bool, eqb-true, false≢true}
use Rattle.std.proofs.lemmas.List.{append-nil}
use Rattle.std.proofs.lemmas.List.Elements.{Contains-append_cases}
use Rattle.dr_base.specs.Texts.{Text}
use Rattle.dr_base.specs.Syntaxes.{syntax_uid}
use Rattle.dr_base.specs.declared.syntax.Syntax.{Syntax}
use Rattle.dr_plan_model.specs.Networks.{Network}
use Rattle.dr_plan_model.specs.Walks.{GoesOver}
use Rattle.dr_plan_model.proofs.Gathered.{nothing_in_nil, Contains-cons_cases, Contains-there}
use Rattle.dr_plan_model.proofs.Gathered.{Contains-here}
use Rattle.dr_plan_sound.specs.declared.certificate.Certificate.{Certificate}
use Rattle.dr_plan_sound.specs.declared.certificate.Hop.{Hop}
use Rattle.dr_site.specs.Parts.{Part, IsPartOf}
use Rattle.dr_site.specs.Sites.{IsCertified}
use Rattle.dr_site.proofs.ContextsAsPlanned.{hop_to, pairs_as_planned}
use Rattle.dr_ulstate.specs.declared.table.State.TheVariants.{Sta6, Sta13}
use Rattle.dr_ulstate.specs.Phases.{in_its_phase, may_send}
use Rattle.dr_ulstate.specs.Standing.{moved}
use Rattle.dr_pdu.specs.declared.pdu.ContextAnswer.{ContextAnswer}
use Rattle.dr_pdu.specs.declared.pdu.ContextProposal.{ContextProposal}
use Rattle.dr_pdu.specs.declared.pdu.Pdu.{Pdu}
use Rattle.dr_pdu.specs.declared.pdu.Pdu.TheVariants as pdu
use Rattle.dr_pdu.specs.declared.pdu.Pdv.{Pdv}
use Rattle.dr_pdu.specs.declared.fault.PduFault.{PduFault}
use Rattle.dr_pdu.specs.declared.fault.PduFault.TheVariants as pdufault
use Rattle.dr_pdu.specs.Feeding.{Feeding}
use Rattle.dr_dimse.specs.declared.message.Awaited.{Awaited}
use Rattle.dr_dimse.specs.declared.message.Awaited.TheVariants.{Nothing as NothingAwaited}
use Rattle.dr_dimse.specs.Taking.{MessageStage as Taken, Idle}
use Rattle.dr_ledger.specs.declared.fault.LedgerFault.TheVariants as fault
use Rattle.dr_ledger.specs.declared.item.Instance.{Instance}
use Rattle.dr_ledger.specs.declared.item.Outcome.TheVariants.{Status, Broken}
use Rattle.dr_ledger.specs.Books.{Book}
use Rattle.dr_ledger.specs.Replies.{IsNext}
use Rattle.dr_ledger.proofs.Maps.{get_new}
use Rattle.dr_nego.specs.Fragments.{spellings}
use Rattle.dr_nego.specs.declared.agreed.Agreed.{Agreed}
use Rattle.dr_nego.specs.declared.agreed.Pair.{Pair}
use Rattle.dr_nego.specs.Agreeing.{AssociateRq, AssociateAc, HasStrangeSyntax, agreed_on, answer_to}
use Rattle.dr_nego.specs.Agreeing.{pair_if}
use Rattle.dr_nego.specs.Answering.{member}
use Rattle.dr_nego.specs.Proposing.{IsProposal}
use Rattle.dr_nego.proofs.Concluded.{head_pairs, tail_pairs}
use Rattle.dr_nego.proofs.OneContext.{among_texts, found_is, is_among, one_syntax}
use Rattle.dr_session.specs.declared.ends.Core.{Core}
use Rattle.dr_session.specs.declared.ends.Effect.{Effect}
use Rattle.dr_session.specs.declared.ends.Input.{Input}
use Rattle.dr_session.specs.declared.ends.Input.TheVariants as input
use Rattle.dr_session.specs.declared.ends.LinkAction.{LinkAction}
use Rattle.dr_session.specs.declared.ends.Moment.{Moment}
use Rattle.dr_session.specs.Desks.{Settle, Settling}
use Rattle.dr_session.specs.Plays.{Reacts, Plays, HearsBy, HearsLast, at_moment, inputs_of}
use Rattle.dr_session.specs.Plays.{input_of, with_stage}
use Rattle.dr_session.specs.Reactions.{effect, left, settled_with, storing, stepped_by}
use Rattle.dr_world_model.specs.Worlds.{World, Link, Contexts, Stage, Asking, Answering, Rejecting}
use Rattle.dr_world_model.specs.Worlds.{Open, Storing, Replying, Gone, same_text, with_link}
use Rattle.dr_world_model.specs.Worlds.{at_stage, without_caller, without_receiver, start}
use Rattle.dr_world_model.specs.Calls.{Answer}
use Rattle.dr_world_model.specs.Steps.{IsLink, SettlesPending, after_settling, stays_connected}
use Rattle.dr_world_model.specs.Steps.{pending as pending_of}
use Rattle.dr_world_model.specs.Among.{Ours}
use Rattle.dr_world_model.proofs.AmongActs.{headline_holds_among}
use Rattle.dr_world_model.proofs.Lookups.{numbers}
use Rattle.dr_world_tie.specs.Desks.{Desk, LedgerStep}
use Rattle.dr_world_tie.specs.Channels.{LiveTerminal, IsAt, IsOff, IsAsking, IsEstablished, HasPending}
use Rattle.dr_world_tie.specs.Channels.{IsSideOf, bytes_of, contexts_of, site_of}
use Rattle.dr_world_tie.specs.Ties.{IsDeskOf}
use Rattle.dr_world_tie.specs.Foreign.{WritesControls}
use Rattle.dr_world_tie.specs.ForeignCalls.{GoesOnAwaited, CallsAt, IsCallOf, Heard, Nothing}
use Rattle.dr_world_tie.specs.ForeignCalls.{Answers, Replied, Left, acts_of, acts_of_all, CallsIn}
use Rattle.dr_world_tie.specs.ForeignCalls.{LeadsTo, OneAnswerComes, AnyAnswersCome}
use Rattle.dr_world_tie.specs.ForeignCalls.{ClaimsHoldAfterAnswers, ResponsesAreReplies}
use Rattle.dr_world_tie.specs.ForeignCalls.{NothingUnheardIsAnswered, CallsToOursAreNotForeign}
use Rattle.dr_world_tie.proofs.CallerLeaving.{Does, HasPendingOf}
use Rattle.dr_world_tie.proofs.Closing.{bytes_append}
use Rattle.dr_world_tie.proofs.ContextSets.{from_context}
use Rattle.dr_world_tie.proofs.Leaving.{all_append, only_link, spellings_append}
use Rattle.dr_world_tie.proofs.Off.{off_stays_off}
use Rattle.dr_world_tie.proofs.Responses.{GoesOn, Settled as SettledAt, settled}
use Rattle.dr_world_tie.proofs.Foreigners.{runs_on, only_none, only_of, only_then, side_still}
use Rattle.dr_world_tie.proofs.Foreigners.{desk_still, limit_still, one_link}
use Rattle.dr_world_tie.proofs.Requestors.{LeftWith, Opened, Turned, answer_heard, StaysOn}
use Rattle.dr_world_tie.proofs.Requestors.{reply_heard, response_settles, AwaitsNoRequest}

-- ---- what an acceptance agrees on goes over the hop

same_id : (cs : List ContextProposal)
    → AllPairs (λ (a b : ContextProposal). a.id < b.id) cs
    → (c d : ContextProposal) → Contains cs c → Contains cs d → c.id ≡ d.id → c ≡ d
same_id [] rising c d has also same = absurd (nothing_in_nil c has)
same_id (e ∷ es) rising c d has also same = elim (Contains-cons_cases e es c has) [
  | inl first ↦ elim (Contains-cons_cases e es d also) [
    | inl again ↦ sym first ∙ again
    | inr later ↦
        (let less : e.id < d.id =
        head_pairs (λ (a b : ContextProposal). a.id < b.id) e es rising d later in
        let ids : e.id ≡ d.id = ap (λ (p : ContextProposal). p.id) first ∙ same in
        absurd (omega (arith, less, ids)))
  ]
  | inr later ↦ elim (Contains-cons_cases e es d also) [
    | inl again ↦
        (let less : e.id < c.id =
        head_pairs (λ (a b : ContextProposal). a.id < b.id) e es rising c later in
        let ids : c.id ≡ e.id = same ∙ ap (λ (p : ContextProposal). p.id) (sym again) in
        absurd (omega (arith, less, ids)))
    | inr also_later ↦ same_id es (tail_pairs (λ (a b : ContextProposal). a.id < b.id) e es rising)
        c d later also_later same
  ]
]

-- a pair that is agreed on is one of a context that was proposed, and answered so
pub record IsFrom (rq : AssociateRq) (ac : AssociateAc) (x : Pair) : Type 0 where
  pub proposal : ContextProposal
  pub answer : ContextAnswer
  pub proposed : Contains rq.contexts proposal
  pub answered : Contains ac.contexts answer
  pub id : answer.id ≡ proposal.id
  pub accepted : answer.result ≡ 0
  pub class : x.class ≡ proposal.class
  pub syntax : x.syntax ≡ answer.syntax

module _ (rq : AssociateRq) (ac : AssociateAc) where
  of_one : (c : ContextProposal) → Contains rq.contexts c
      → (o : Option ContextAnswer)
      → answer_to ac.contexts c ≡ o
      → (x : Pair) → Contains (pair_if c o) x → IsFrom rq ac x
  of_one c has None e x h = absurd (nothing_in_nil x h)
  of_one c has (Some a) e x h = by_result (a.result == 0) refl h
    where
      by_result : (b : Bool) → (a.result == 0) ≡ b
          → Contains
          (if b then record { id = c.id; class = c.class; syntax = a.syntax } ∷ [] else []) x
          → IsFrom rq ac x
      by_result false z h = absurd (nothing_in_nil x h)
      by_result true z h =
          let f = found_is (λ (y : ContextAnswer). y.id == c.id) ac.contexts a e in
          elim
          (Contains-cons_cases (record { id = c.id; class = c.class; syntax = a.syntax }) [] x h) [
            | inl same ↦ record {
              proposal = c;
              answer = a;
              proposed = has;
              answered = f.1;
              id = eqb-true a.id c.id f.0;
              accepted = eqb-true a.result 0 z;
              class = ap (λ (p : Pair). p.class) (sym same);
              syntax = ap (λ (p : Pair). p.syntax) (sym same);
            }
            | inr later ↦ absurd (nothing_in_nil x later)
          ]

  of_all : (cs : List ContextProposal)
      → ((c : ContextProposal) → Contains cs c → Contains rq.contexts c)
      → (x : Pair)
      → Contains (flat_map (λ (c : ContextProposal). pair_if c (answer_to ac.contexts c)) cs) x
      → IsFrom rq ac x
  of_all [] inside x h = absurd (nothing_in_nil x h)
  of_all (c ∷ cs) inside x h = elim
      (Contains-append_cases (pair_if c (answer_to ac.contexts c))
      (flat_map (λ (d : ContextProposal). pair_if d (answer_to ac.contexts d)) cs) x h) [
        | inl here ↦ of_one c (inside c (Contains-here c cs)) (answer_to ac.contexts c) refl x here
        | inr later ↦ of_all cs (λ d m. inside d (Contains-there c cs d m)) x later
      ]

  -- what was answered was proposed
  was_proposed : AllPairs (λ (a b : ContextProposal). a.id < b.id) rq.contexts
      → (HasStrangeSyntax rq ac → ⊥)
      → (x : Pair) → (f : IsFrom rq ac x)
      → Contains f.proposal.syntaxes f.answer.syntax
  was_proposed rising none x f = elim (cases_Bool (member f.answer.syntax f.proposal.syntaxes)) [
    | inl is ↦ among_texts f.answer.syntax f.proposal.syntaxes is
    | inr is_not ↦ absurd
        (none (
          f.answer,
          f.answered,
          f.accepted,
          λ c has same inside. let one : c ≡ f.proposal =
              same_id rq.contexts rising c f.proposal has f.proposed (same ∙ f.id) in
              false≢true
              (sym is_not
              ∙ is_among f.answer.syntax f.proposal.syntaxes
              (subst (λ (d : ContextProposal). Contains d.syntaxes f.answer.syntax) one inside)),
        ))
  ]

  goes_over : (plan : Network) (certificate : Certificate)
      → IsCertified plan certificate
      → (site : Part)
      → IsPartOf plan certificate site
      → (dest : Text) → IsProposal site dest rq
      → (HasStrangeSyntax rq ac → ⊥)
      → (x : Pair) → IsFrom rq ac x
      → (class : Text) (s : Syntax)
      → x.class ≡ class → x.syntax ≡ syntax_uid s
      → GoesOver plan site.name dest (class, s)
  goes_over plan certificate sealed site is dest proposal none x f class s class_is syntax_is =
      let p = (proposal.each f.proposal).0 f.proposed in
      let hop : Hop = p.0 in
      let inside : Contains (syntax_uid hop.syntax ∷ []) f.answer.syntax = subst
      (λ (l : List Text). Contains l f.answer.syntax) (ap (λ (c : ContextProposal). c.syntaxes) p.2)
      (was_proposed proposal.rising none x f) in
      let uid : syntax_uid hop.syntax ≡ f.answer.syntax = elim
      (Contains-cons_cases (syntax_uid hop.syntax) [] f.answer.syntax inside) [
        | inl same ↦ same
        | inr later ↦ absurd (nothing_in_nil f.answer.syntax later)
      ] in
      let syntaxes : hop.syntax ≡ s = one_syntax hop.syntax s (uid ∙ (sym f.syntax ∙ syntax_is)) in
      let classes : hop.class ≡ class =
      ap (λ (c : ContextProposal). c.class) (sym p.2) ∙ (sym f.class ∙ class_is) in
      (pairs_as_planned plan certificate site sealed is dest class s).0
      (hop, (hop_to site dest hop).1 p.1, classes, syntaxes)

-- ---- what a leaving end settles

pub record Middle (w : World) (link : Link) (o : Option Instance) (answer : Option Answer)
    (t : Desk) : Type 0 where
  pub world : World
  pub settles : SettlesPending w link o answer world
  pub desk : IsDeskOf world link.caller t
  pub books : (other : Text)
      → same_text other link.caller ≡ false
      → world.books other ≡ w.books other
  pub armed : (other : Text)
      → same_text other link.caller ≡ false
      → set.contains world.armed other ≡ set.contains w.armed other
  pub links : world.links ≡ w.links
  pub rest : (world.time ≡ w.time) × (world.stood ≡ w.stood)
  pub opened : world.opened ≡ w.opened

middle : (plan : Network) (w : World) (link : Link) (c : Core) (now : ℕ) (s t : Desk)
    → IsDeskOf w link.caller s → c.peer ≡ link.receiver → now ≡ w.time
    → (o : Option Instance) (answer : Option Answer)
    → Does plan link.caller c now o answer s t
    → Middle w link o answer t
middle plan w link c now s t desk peer time None None h = record {
  world = w;
  settles = refl;
  desk = desk_still w link.caller s t h desk;
  books = λ other apart. refl;
  armed = λ other apart. refl;
  links = refl;
  rest = (refl, refl);
  opened = refl;
}
middle plan w link c now s t desk peer time (Some item) (Some answer) h =
    let st : SettledAt w link item.uid Broken answer t =
    settled plan w link c.peer item.uid Broken now answer s t desk peer time h in
    record {
      world = st.mid;
      settles = st.settles;
      desk = st.desk_is;
      books = st.books;
      armed = st.armed;
      links = st.links;
      rest = (st.rest.0, st.rest.1);
      opened = st.rest.2;
    }
middle plan w link c now s t desk peer time None (Some answer) h = absurd h
middle plan w link c now s t desk peer time (Some item) None h = absurd h

-- ---- a caller of ours

module _ (ours : Ours) (plan : Network) (certificate : Certificate)
    (certified : IsCertified plan certificate) (w : World) (number : ℕ) (link : Link) (k : LiveTerminal)
    (s : Desk) (here : IsLink w number link) (away : ours link.receiver ≡ false)
    (peer : k.core.peer ≡ link.receiver) (own : ours link.caller ≡ true)
    (desk : IsDeskOf w link.caller s) (side : IsSideOf plan certificate link.caller k.core k.ear)
    (moment : Moment) (time : moment.now ≡ w.time) (x : Effect) (t : Desk)
    (there : link.caller_connected ≡ true → link.receiver_connected ≡ true) where
  abbrev node : Text
  node = link.caller

  abbrev cstep : Desk
      → Rattle.dr_session.specs.Desks.DeskCall
      → Rattle.dr_session.specs.Desks.DeskAnswer
      → Desk → Type 0
  cstep = LedgerStep plan node

  abbrev ends_as : LiveTerminal
  ends_as = record { core = x.core; ear = k.ear }

  abbrev HeardAs : Heard → Type 0
  HeardAs heard =
      (v : World)
      × LeadsTo ours plan node w number (acts_of number heard) v
      × WritesControls x.acts
      × CallsIn ours plan certificate node v number ends_as t

  abbrev HeardSome : Type 0
  HeardSome =
      (heard : Heard) × (v : World)
      × LeadsTo ours plan node w number (acts_of number heard) v
      × WritesControls x.acts
      × CallsIn ours plan certificate node v number ends_as t

  some : (heard : Heard) → HeardAs heard → HeardSome
  some heard h = (heard, h.0, h.1, h.2, h.3)

  -- the end, on this link
  calls_in : (v : World) (after : Link)
      → IsLink v number after → IsDeskOf v node t → after.caller ≡ node
      → after.receiver ≡ link.receiver
      → (after.caller_connected ≡ true → after.receiver_connected ≡ true)
      → x.core.site ≡ k.core.site
      → x.core.peer ≡ k.core.peer
      → CallsAt after.caller_connected after.stage after.receiver x.core
      → CallsIn ours plan certificate node v number ends_as t
  calls_in v after at_number at_desk caller receiver on site peers stands = record {
    own = own;
    desk = at_desk;
    shows = (
      side_still plan certificate node k.core x.core k.ear k.ear site refl side,
      (
        after,
        at_number,
        record {
          receiver = ap ours receiver ∙ away;
          caller = caller;
          peer = peers ∙ (peer ∙ sym receiver);
          on = on;
          stands = stands;
        },
      ),
    );
  }

  stays_on : x.core.site ≡ k.core.site
      → x.core.peer ≡ k.core.peer
      → t ≡ s
      → CallsAt link.caller_connected link.stage link.receiver x.core
      → WritesControls x.acts → HeardSome
  stays_on site peers same stands writes = some Nothing (
    w,
    record { runs = (refl, refl); only = only_none w (Some number) node },
    writes,
    calls_in w link here (desk_still w node s t same desk) refl refl there site peers stands,
  )

  pub off_caller : link.caller_connected ≡ false
      → IsOff k.core true → (i : Input)
      → Reacts cstep k.core (at_moment moment i) s x t
      → HeardSome
  off_caller is_off off i r =
      let h = off_stays_off cstep k.core true off (at_moment moment i) s t x r in
      stays_on h.1.1 h.1.2 h.0
      (subst (λ (b : Bool). CallsAt b link.stage link.receiver x.core) (sym is_off) h.1.0)
      (h.1.4.0, h.1.4.1, h.1.4.2)

  module _ (on : link.caller_connected ≡ true) where
    -- it leaves
    leaves_off : LeftWith plan node (pending_of link.stage) moment.now k.core s t x → HeardSome
    leaves_off (answer, does, off) =
        let m : Middle w link (pending_of link.stage) answer t = middle plan w link k.core
        moment.now s t desk peer time (pending_of link.stage) answer does in
        let v : World = with_link m.world number (without_caller link) in some (Left answer) (
          v,
          record {
            runs = (
              tt,
              (
                v,
                record {
                  link = link;
                  at = here;
                  on = on;
                  mid = m.world;
                  broken = m.settles;
                  is = refl;
                },
                (refl, refl),
              ),
            );
            only = record {
              books = m.books;
              links = λ other apart. (only_link m.world number (without_caller link) node).links
                  other (λ e. apart (ap (λ (n : ℕ). Some n) (sym e)))
                  ∙ ap (λ (l : _). map_of.get l other) m.links;
              armed = m.armed;
              rest = m.rest;
              opened = (let e : v.opened ≡ w.opened = m.opened in omega (arith, e));
            };
          },
          (off.4.0, off.4.1, off.4.2),
          calls_in v (without_caller link)
              (get_new numbers m.world.links number (without_caller link)) m.desk refl refl
              (λ e. absurd (false≢true e)) off.1 off.2 off.0,
        )

    -- ---- an answer to its request

    module _ (asking : link.stage ≡ Asking) (asks : IsAsking k.core link.receiver) where
      abbrev rq : AssociateRq
      rq = asks.5.0

      opens_link : Opened plan node moment k.core s t x asks.0 asks.1 rq asks.5.1 → HeardSome
      opens_link (agreed, ac, good, e, same) =
          let accepted : Contexts = contexts_of agreed.pairs in
          let offered : (pair : Text × Syntax)
          → set.contains accepted pair ≡ true
          → GoesOver plan node link.receiver pair = λ pair h. (
          let f = from_context agreed.pairs pair.0 pair.1 h in
          let inside : Contains (agreed_on rq ac).pairs f.0 =
          subst (λ (a : Agreed). Contains a.pairs f.0) good.3 f.1 in
          let is_from : IsFrom rq ac f.0 = of_all rq ac rq.contexts (λ c m. m) f.0 inside in
          subst
          (λ (n : Text). GoesOver plan n link.receiver pair) side.1
          (goes_over rq ac plan certificate certified (site_of k.core) side.0 link.receiver
          asks.5.2 good.1 f.0 is_from pair.0 pair.1 f.2 f.3)) in
          let answering : Link = at_stage link (Answering accepted) in
          let w1 : World = with_link w number answering in
          let after : Link = at_stage link (Open accepted) in
          let v : World = with_link w1 number after in
          let core : Core = record k.core {
            phase = in_its_phase (moved asks.0.0 Sta6 moment.now);
            agreed = Some agreed;
            awaits = None;
          } in
          let stands : CallsAt link.caller_connected (Open accepted) link.receiver core =
          subst (λ (b : Bool). CallsAt b (Open accepted) link.receiver core) (sym on) (
            ((moved asks.0.0 Sta6 moment.now, refl, asks.0.2, refl), (agreed, refl, refl)),
            asks.1,
            asks.4,
            subst (λ (z : Taken). GoesOnAwaited k.core.assembly.awaited z) (sym asks.3) tt,
            refl,
          )
          in
          some (Answers (Some accepted) None) (
            v,
            record {
              runs = (
                w1,
                record {
                  link = link;
                  at = here;
                  on = there on;
                  stage = asking;
                  other = away;
                  offered = offered;
                  is = refl;
                },
                (
                  tt,
                  (
                    v,
                    record {
                      link = answering;
                      at = get_new numbers w.links number answering;
                      on = on;
                      then = inl (accepted, refl, refl);
                    },
                    (refl, refl),
                  ),
                ),
              );
              only = only_then w w1 v (Some number) (Some number) node
                  (only_of w w1 number node (only_link w number answering node))
                  (only_of w1 v number node (only_link w1 number after node)) (λ n q. q);
            },
            ([], ap (λ (y : Effect). bytes_of y.acts) e, tt),
            calls_in v after (get_new numbers w1.links number after)
                (desk_still w node s t same desk) refl refl there
                (ap (λ (y : Effect). y.core.site) e) (ap (λ (y : Effect). y.core.peer) e)
                (subst
                (λ (y : Effect). CallsAt link.caller_connected (Open accepted) link.receiver y.core)
                (sym e) stands),
          )

      abbrev rejecting : Link
      rejecting = at_stage (without_receiver link) Rejecting

      abbrev w_rejecting : World
      w_rejecting = with_link w number rejecting

      next_is : (i : Instance)
          → IsNext s.book k.core.peer moment.now i
          → IsNext (w.books node) link.receiver w.time i
      next_is i q = subst
          (λ (p : Text). IsNext (w.books node) p w.time i) peer
          (subst
          (λ (m : ℕ). IsNext (w.books node) k.core.peer m i) time
          (subst (λ (b : Book). IsNext b k.core.peer moment.now i) desk.0 q))

      next_was : (i : Instance)
          → IsNext (w.books node) link.receiver w.time i
          → IsNext s.book k.core.peer moment.now i
      next_was i q = subst
          (λ (b : Book). IsNext b k.core.peer moment.now i) (sym desk.0)
          (subst
          (λ (m : ℕ). IsNext (w.books node) k.core.peer m i) (sym time)
          (subst (λ (p : Text). IsNext (w.books node) p w.time i) (sym peer) q))

      turned_away : Turned plan node moment k.core s t x asks.0 asks.1 rq asks.5.1 → HeardSome
      turned_away (off, inl (same, none)) =
          let v : World = with_link w_rejecting number (without_caller rejecting) in
          some (Answers None None) (
            v,
            record {
              runs = (
                w_rejecting,
                record {
                  link = link;
                  at = here;
                  on = there on;
                  stage = asking;
                  other = away;
                  offered = tt;
                  is = refl;
                },
                (
                  tt,
                  (
                    v,
                    record {
                      link = rejecting;
                      at = get_new numbers w.links number rejecting;
                      on = on;
                      then = inr (
                        refl,
                        (
                          w_rejecting,
                          (
                            (λ item next.
                                (let q = next_was item next in none item.uid q.due q.row)),
                            refl,
                          ),
                          refl,
                        ),
                      );
                    },
                    (refl, refl),
                  ),
                ),
              );
              only = only_then w w_rejecting v (Some number) (Some number) node
                  (only_of w w_rejecting number node (only_link w number rejecting node))
                  (only_of w_rejecting v number node
                  (only_link w_rejecting number (without_caller rejecting) node)) (λ n q. q);
            },
            (off.4.0, off.4.1, off.4.2),
            calls_in v (without_caller rejecting)
                (get_new numbers w_rejecting.links number (without_caller rejecting))
                (desk_still w node s t same desk) refl refl
                (λ e. absurd (false≢true e)) off.1 off.2 off.0,
          )
      turned_away (off, inr (item, answer, next, h)) =
          let st : SettledAt w_rejecting rejecting item.uid Broken answer t = settled plan
          w_rejecting rejecting k.core.peer item.uid Broken moment.now answer s t desk peer time
          h in
          let v : World = with_link st.mid number (without_caller rejecting) in
          some (Answers None (Some answer)) (
            v,
            record {
              runs = (
                w_rejecting,
                record {
                  link = link;
                  at = here;
                  on = there on;
                  stage = asking;
                  other = away;
                  offered = tt;
                  is = refl;
                },
                (
                  tt,
                  (
                    v,
                    record {
                      link = rejecting;
                      at = get_new numbers w.links number rejecting;
                      on = on;
                      then =
                          inr (refl, (st.mid, (item, next_is item next, st.settles), refl));
                    },
                    (refl, refl),
                  ),
                ),
              );
              only = record {
                books = st.books;
                links = λ other apart. let apart_from : other ≢ number =
                    λ q. apart (ap (λ (n : ℕ). Some n) (sym q)) in
                    (only_link st.mid number (without_caller rejecting) node).links other apart_from
                    ∙ (ap (λ (l : _). map_of.get l other) st.links
                    ∙ (only_link w number rejecting node).links other apart_from);
                armed = st.armed;
                rest = (st.rest.0, st.rest.1);
                opened = (let e : v.opened ≡ w.opened = st.rest.2 in omega (arith, e));
              };
            },
            (off.4.0, off.4.1, off.4.2),
            calls_in v (without_caller rejecting)
                (get_new numbers st.mid.links number (without_caller rejecting)) st.desk_is refl
                refl
                (λ e. absurd (false≢true e)) off.1 off.2 off.0,
          )

      pub asking_hears : (i : Input) → i ≢ input.PushAsked
          → Reacts cstep k.core (at_moment moment i) s x t
          → HeardSome
      asking_hears i other r =
          elim (answer_heard plan node moment k.core s t x asks.0 asks.1 rq asks.5.1 i other r) [
            | inl gone ↦ leaves_off
                (subst
                (λ (st : Stage). LeftWith plan node (pending_of st) moment.now k.core s t x)
                (sym asking) gone)
            | inr (inl same) ↦ stays_on (ap (λ (y : Effect). y.core.site) same.0)
                (ap (λ (y : Effect). y.core.peer) same.0) same.1
                (subst
                (λ (y : Effect). CallsAt link.caller_connected link.stage link.receiver y.core)
                (sym same.0)
                (subst
                (λ (b : Bool). CallsAt b link.stage link.receiver k.core) (sym on)
                (subst
                (λ (st : Stage). CallsAt true st link.receiver k.core) (sym asking) asks)))
                ([], ap (λ (y : Effect). bytes_of y.acts) same.0, tt)
            | inr (inr (inl opened)) ↦ opens_link opened
            | inr (inr (inr turned)) ↦ turned_away turned
          ]

    -- ---- an answer to its store

    stands_by : (stage : Stage) → link.stage ≡ stage → (d : Core)
        → CallsAt true stage link.receiver d
        → CallsAt link.caller_connected link.stage link.receiver d
    stands_by stage e d h = subst
        (λ (b : Bool). CallsAt b link.stage link.receiver d) (sym on)
        (subst (λ (st : Stage). CallsAt true st link.receiver d) (sym e) h)

    keeps_on : (d : Core) → x ≡ effect [] d → t ≡ s → StaysOn k.core d
        → CallsAt link.caller_connected link.stage link.receiver d
        → HeardSome
    keeps_on d e same still stands = stays_on (ap (λ (y : Effect). y.core.site) e ∙ still.5)
        (ap (λ (y : Effect). y.core.peer) e ∙ still.2) same
        (subst
        (λ (y : Effect). CallsAt link.caller_connected link.stage link.receiver y.core) (sym e)
        stands) ([], ap (λ (y : Effect). bytes_of y.acts) e, tt)

    established_still : (accepted : Contexts) (d : Core)
        → StaysOn k.core d
        → IsEstablished k.core true accepted
        → IsEstablished d true accepted
    established_still accepted d still h = (still.0, (h.1.0, still.1 ∙ h.1.1, h.1.2))

    pub open_hears : (accepted : Contexts)
        → link.stage ≡ Open accepted
        → CallsAt true (Open accepted) link.receiver k.core
        → (i : Input) → i ≢ input.PushAsked
        → Reacts cstep k.core (at_moment moment i) s x t
        → HeardSome
    open_hears accepted is_open h i other r =
        let none : AwaitsNoRequest k.core.assembly.awaited =
        subst (λ (a : Awaited). AwaitsNoRequest a) (sym h.2) tt in
        elim
        (reply_heard plan node None moment k.core s t x h.0.0 h.1 none h.3 h.4
        (λ o is e. h.2) i other r) [
          | inl gone ↦ leaves_off
              (subst
              (λ (st : Stage). LeftWith plan node (pending_of st) moment.now k.core s t x)
              (sym is_open) gone)
          | inr (inl (d, e, same, still)) ↦ keeps_on d e same still
              (stands_by (Open accepted) is_open d (
                established_still accepted d still h.0,
                still.3 ∙ h.1,
                still.4 ∙ h.2,
                still.7,
                still.8,
              ))
          | inr (inr settles) ↦ absurd settles
        ]

    module _ (accepted : Contexts) (item : Instance)
        (is_storing : link.stage ≡ Storing accepted item)
        (h : CallsAt true (Storing accepted item) link.receiver k.core) where
      -- the reply, and what is done with the row by its status
      replied_by : (status : ℕ) (answer : Answer) (d : Core)
          → cstep s (Settle item.uid k.core.peer (Status status) moment.now) (Settling answer) t
          → GoesOn answer d moment x → IsAt d true Sta6 → d.agreed ≡ k.core.agreed
          → d.peer ≡ k.core.peer → d.site ≡ k.core.site → d.assembly.stage ≡ Idle
          → may_send d.phase ≡ true
          → IsOff
          (Rattle.dr_session.specs.Reactions.desk_failed
          (Rattle.dr_session.specs.Reactions.aborted
          (left
          (stepped_by Rattle.dr_ulstate.specs.declared.table.Event.TheVariants.AbortRequest
          moment.now d)))) true
          → HeardAs (Replied status answer)
      replied_by status answer d call goes at agreed peers site idle sends off =
          let replying : Link = at_stage link (Replying accepted item status) in
          let w1 : World = with_link w number replying in
          let st : SettledAt w1 replying item.uid (Status status) answer t = settled plan w1
          replying k.core.peer item.uid (Status status) moment.now answer s t desk peer time call in
          let after : Link = after_settling replying answer accepted in
          let v : World = with_link st.mid number after in let b = by_answer answer goes in (
            v,
            record {
              runs = (
                w1,
                record {
                  link = link;
                  accepted = accepted;
                  item = item;
                  at = here;
                  on = there on;
                  stage = is_storing;
                  other = away;
                  is = refl;
                },
                (
                  tt,
                  (
                    v,
                    record {
                      link = replying;
                      accepted = accepted;
                      item = item;
                      status = status;
                      at = get_new numbers w.links number replying;
                      on = on;
                      stage = refl;
                      mid = st.mid;
                      call = st.settles;
                      is = refl;
                    },
                    (refl, refl),
                  ),
                ),
              );
              only = record {
                books = st.books;
                links = λ other apart. let apart_from : other ≢ number =
                    λ q. apart (ap (λ (n : ℕ). Some n) (sym q)) in
                    (only_link st.mid number after node).links other apart_from
                    ∙ (ap (λ (l : _). map_of.get l other) st.links
                    ∙ (only_link w number replying node).links other apart_from);
                armed = st.armed;
                rest = (st.rest.0, st.rest.1);
                opened = (let e : v.opened ≡ w.opened = st.rest.2 in omega (arith, e));
              };
            },
            b.1,
            calls_in v after (get_new numbers st.mid.links number after) st.desk_is refl refl
                (λ e. there on) (b.2 ∙ site) (b.3 ∙ peers) b.0,
          )
        where
          goes_on : x ≡ effect [] (settled_with d)
              → CallsAt true (Open accepted) link.receiver x.core
              × WritesControls x.acts × (x.core.site ≡ d.site) × (x.core.peer ≡ d.peer)
          goes_on e =
              let open_now : CallsAt true (Open accepted) link.receiver (settled_with d) = (
                (at, (h.0.1.0, agreed ∙ h.0.1.1, h.0.1.2)),
                refl,
                refl,
                subst (λ (z : Taken). GoesOnAwaited NothingAwaited z) (sym idle) tt,
                sends,
              ) in (
                subst
                    (λ (y : Effect). CallsAt true (Open accepted) link.receiver y.core) (sym e)
                    open_now,
                ([], ap (λ (y : Effect). bytes_of y.acts) e, tt),
                ap (λ (y : Effect). y.core.site) e,
                ap (λ (y : Effect). y.core.peer) e,
              )

          by_answer : (a : Answer) → GoesOn a d moment x
              → CallsAt (stays_connected a) (Open accepted) link.receiver x.core
              × WritesControls x.acts × (x.core.site ≡ d.site) × (x.core.peer ≡ d.peer)
          by_answer (Ok r) e = goes_on e
          by_answer (Err fault.NotWaiting) e = goes_on e
          by_answer (Err fault.Store) e = (
            subst (λ (y : Effect). IsOff y.core true) (sym e) off,
            (
              Rattle.dr_session.specs.Reactions.abort_pdu 0 0 ∷ [],
              ap (λ (y : Effect). bytes_of y.acts) e
                  ∙ append-nil (spellings (Rattle.dr_session.specs.Reactions.abort_pdu 0 0 ∷ [])),
              (tt, tt),
            ),
            ap (λ (y : Effect). y.core.site) e,
            ap (λ (y : Effect). y.core.peer) e,
          )
          by_answer (Err fault.Memory) e = absurd e
          by_answer (Err fault.NoLine) e = absurd e
          by_answer (Err fault.Conflict) e = absurd e
          by_answer (Err fault.NotHeld) e = absurd e
          by_answer (Err fault.NotOver) e = absurd e

      pending_is : HasPendingOf (Some item) k.core
      pending_is = (h.1.0, h.1.1, h.1.2)

      none_asked : AwaitsNoRequest k.core.assembly.awaited
      none_asked = subst (λ (a : Awaited). AwaitsNoRequest a) (sym h.1.3) tt

      sends_now : may_send k.core.phase ≡ true
      sends_now = h.3

      pub storing_hears : (i : Input) → i ≢ input.PushAsked
          → Reacts cstep k.core (at_moment moment i) s x t
          → HeardSome
      storing_hears i other r = elim
          (reply_heard plan node (Some item) moment k.core s t x h.0.0 pending_is none_asked h.2
          sends_now
          (λ o is e. (let f : Some item ≡ None = is ∙ e in absurd (cc f))) i other r) [
            | inl gone ↦ leaves_off
                (subst
                (λ (st : Stage). LeftWith plan node (pending_of st) moment.now k.core s t x)
                (sym is_storing) gone)
            | inr (inl (d, e, same, still)) ↦ keeps_on d e same still
                (stands_by (Storing accepted item) is_storing d (
                  established_still accepted d still h.0,
                  (h.1.0, h.1.1, still.3 ∙ h.1.2, still.4 ∙ h.1.3),
                  still.7,
                  still.8,
                ))
            | inr (inr a) ↦ some (Replied a.0 a.1)
                (replied_by a.0 a.1 a.2 a.3 a.4 a.5 a.6 a.7 a.8 a.9 a.10 a.11)
          ]

    by_stage : (stage : Stage) → link.stage ≡ stage
        → CallsAt true stage link.receiver k.core
        → (i : Input) → i ≢ input.PushAsked
        → Reacts cstep k.core (at_moment moment i) s x t
        → HeardSome
    by_stage Asking e h i other r = asking_hears e h i other r
    by_stage (Open accepted) e h i other r = open_hears accepted e h i other r
    by_stage (Storing accepted item) e h i other r = storing_hears accepted item e h i other r
    by_stage (Answering accepted) e h i other r = absurd h
    by_stage Rejecting e h i other r = absurd h
    by_stage (Replying accepted item status) e h i other r = absurd h
    by_stage Gone e h i other r = absurd h

  pub caller_hears : CallsAt link.caller_connected link.stage link.receiver k.core
      → (i : Input) → i ≢ input.PushAsked
      → Reacts cstep k.core (at_moment moment i) s x t
      → HeardSome
  caller_hears stands i other r = elim (cases_Bool link.caller_connected) [
    | inl on ↦ by_stage on link.stage refl
        (subst (λ (b : Bool). CallsAt b link.stage link.receiver k.core) on stands) i other r
    | inr is_off ↦ off_caller is_off
        (subst (λ (b : Bool). CallsAt b link.stage link.receiver k.core) is_off stands) i r
  ]

-- ---- one input

pub one_answer_comes : OneAnswerComes
one_answer_comes ours plan certificate certified name w number k s calls moment time i other x t r =
    let link : Link = calls.shows.1.0 in
    let call : IsCallOf ours name link k.core = calls.shows.1.2 in
    let P : Text → Type 0 = λ n. ours n ≡ true → IsDeskOf w n s
    → IsSideOf plan certificate n k.core k.ear
    → Reacts (LedgerStep plan n) k.core (at_moment moment i) s x t
    → (heard : Heard) × (v : World)
    × LeadsTo ours plan n w number (acts_of number heard) v
    × WritesControls x.acts
    × CallsIn ours plan certificate n v number (record { core = x.core; ear = k.ear }) t in
    subst P call.caller
    (λ own desk side turns. caller_hears ours plan certificate certified w number link k s
    calls.shows.1.1 call.receiver call.peer own desk side moment time x t call.on call.stands i
    other turns)
    calls.own calls.desk calls.shows.0 r

-- ---- any bytes

-- nobody is asked to send by bytes
abbrev NotPushed : List Input → Type 0
NotPushed inputs = AllByRecursion (λ i. i ≢ input.PushAsked) inputs

values_not_pushed : (ps : List Pdv) → NotPushed (map input.Value ps)
values_not_pushed [] = tt
values_not_pushed (p ∷ ps) = ((λ e. cc e), values_not_pushed ps)

pdu_not_pushed : (p : Pdu) → NotPushed (inputs_of p)
pdu_not_pushed (pdu.AssociateRq rq) = ((λ e. cc e), tt)
pdu_not_pushed (pdu.AssociateAc ac) = ((λ e. cc e), tt)
pdu_not_pushed (pdu.AssociateRj rj) = ((λ e. cc e), tt)
pdu_not_pushed (pdu.Transfer []) = ((λ e. cc e), tt)
pdu_not_pushed (pdu.Transfer (p ∷ ps)) = values_not_pushed (p ∷ ps)
pdu_not_pushed pdu.ReleaseRq = ((λ e. cc e), tt)
pdu_not_pushed pdu.ReleaseRp = ((λ e. cc e), tt)
pdu_not_pushed (pdu.Abort a) = ((λ e. cc e), tt)

pdus_not_pushed : (ps : List Pdu) → NotPushed (flat_map inputs_of ps)
pdus_not_pushed [] = tt
pdus_not_pushed (p ∷ ps) = all_append
    (λ i. i ≢ input.PushAsked) (inputs_of p) (flat_map inputs_of ps) (pdu_not_pushed p)
    (pdus_not_pushed ps)

fault_not_pushed : (fault : PduFault) → input_of fault ≢ input.PushAsked
fault_not_pushed pdufault.UnknownType e = cc e
fault_not_pushed pdufault.More e = cc e
fault_not_pushed pdufault.TooLong e = cc e
fault_not_pushed pdufault.BadItem e = cc e
fault_not_pushed pdufault.BadContextId e = cc e
fault_not_pushed pdufault.Memory e = cc e
fault_not_pushed pdufault.Failed e = cc e

last_not_pushed : (failed : Bool) (limit : ℕ) (rest kept : List ℕ) (last : List Input)
    → HearsLast failed limit rest last kept
    → NotPushed last
last_not_pushed false limit rest kept last h = subst NotPushed (sym h.1) tt
last_not_pushed true limit rest kept last h = subst NotPushed (sym h.3) (fault_not_pushed h.0, tt)

heard_not_pushed : (failed : Bool) (ear new : Feeding) (piece : List ℕ) (inputs : List Input)
    → HearsBy failed ear piece inputs new
    → NotPushed inputs
heard_not_pushed true ear new piece inputs h = subst NotPushed (sym h.0) tt
heard_not_pushed false ear new piece inputs h = subst NotPushed (sym h.are)
    (all_append
    (λ i. i ≢ input.PushAsked) (flat_map inputs_of h.pdus) h.last (pdus_not_pushed h.pdus)
    (last_not_pushed new.failed ear.limit h.rest new.kept h.last h.stops))

write_both : (a b : List LinkAction) → WritesControls a → WritesControls b → WritesControls (a ++ b)
write_both a b (ps, is, control) (qs, are, controls) = (
  ps ++ qs,
  bytes_append a b
      ∙ (ap (λ (l : List ℕ). l ++ bytes_of b) is
      ∙ (ap (λ (l : List ℕ). spellings ps ++ l) are ∙ sym (spellings_append ps qs))),
  all_append Rattle.dr_world_tie.specs.Channels.IsControl ps qs control controls,
)

play_calls : (ours : Ours) (plan : Network) (certificate : Certificate)
    → IsCertified plan certificate
    → (name : Text) (number : ℕ) (moment : Moment) (ear : Feeding) (inputs : List Input)
    → NotPushed inputs
    → (w : World) (c : Core) (s : Desk)
    → CallsIn ours plan certificate name w number (record { core = c; ear = ear }) s
    → moment.now ≡ w.time
    → (written : List LinkAction) (d : Core) (t : Desk)
    → Plays (LedgerStep plan name) c (map (at_moment moment) inputs) s written d t
    → (heard : List Heard) × (v : World)
    × LeadsTo ours plan name w number (acts_of_all number heard) v
    × WritesControls written
    × CallsIn ours plan certificate name v number (record { core = d; ear = ear }) t
play_calls ours plan certificate certified name number moment ear [] none w c s calls time written d
    t (acts, core, port) = (
      [],
      w,
      record { runs = (refl, refl); only = only_none w (Some number) name },
      ([], ap bytes_of acts, tt),
      subst
          (λ (z : Core).
          CallsIn ours plan certificate name w number (record { core = z; ear = ear }) t) (sym core)
          (subst
          (λ (z : Desk).
          CallsIn ours plan certificate name w number (record { core = c; ear = ear }) z) (sym port)
          calls),
    )
play_calls ours plan certificate certified name number moment ear (i ∷ is) none w c s calls time
    written d t (x, m, later, r, rest, e) =
    let one = one_answer_comes ours plan certificate certified name w number
    (record { core = c; ear = ear }) s calls moment time i none.0 x m r in
    let more = play_calls ours plan certificate certified name number moment ear is none.1 one.1
    x.core m one.4 (time ∙ sym one.2.only.rest.0) later d t rest in (
      one.0 ∷ more.0,
      more.1,
      record {
        runs = runs_on ours (acts_of number one.0) (acts_of_all number more.0) plan plan plan w
            one.1 more.1 one.2.runs more.2.runs;
        only = only_then w one.1 more.1 (Some number) (Some number) name one.2.only more.2.only
            (λ n q. q);
      },
      subst
          (λ (l : List LinkAction). WritesControls l) (sym e)
          (write_both x.acts later one.3 more.3),
      more.4,
    )

pub any_answers_come : AnyAnswersCome
any_answers_come ours plan certificate certified name w number k s calls moment time piece new x t
    (inputs, heard, plays) =
    let all = play_calls ours plan certificate certified name number moment k.ear inputs
    (heard_not_pushed k.ear.failed k.ear new piece inputs heard) w k.core s calls time x.acts x.core
    t plays in (
      all.0,
      all.1,
      all.2,
      all.3,
      record {
        own = all.4.own;
        desk = all.4.desk;
        shows = (
          side_still plan certificate name x.core x.core k.ear new refl
              (limit_still k.ear.failed k.ear new piece inputs heard) all.4.shows.0,
          all.4.shows.1,
        );
      },
    )

pub claims_hold_after_answers : ClaimsHoldAfterAnswers
claims_hold_after_answers ours first plan certificate sound certified before w runs name number k s
    calls moment time piece new x t plays =
    let all = any_answers_come ours plan certificate certified name w number k s calls moment time
    piece new x t plays in
    let acts = acts_of_all number all.0 in
    let on = runs_on ours before acts first plan plan start w all.1 runs all.2.runs in (
      acts,
      all.1,
      on,
      headline_holds_among ours first sound (before ++ acts) plan all.1 on,
      all.4,
    )

-- ---- laws

module _ (ours : Ours) (name : Text) (w : World) (number : ℕ) (c : Core) (link : Link)
    (here : IsLink w number link) (shown : (l : Link) × IsLink w number l × IsCallOf ours name l c)
  where
    the_call : IsCallOf ours name link c
    the_call = subst
        (λ (l : Link). IsCallOf ours name l c) (one_link w number shown.0 link shown.1 here) shown.2

    stands_as : (on : link.caller_connected ≡ true) (stage : Stage)
        → link.stage ≡ stage
        → CallsAt true stage link.receiver c
    stands_as on stage e = subst
        (λ (st : Stage). CallsAt true st link.receiver c) e
        (subst (λ (b : Bool). CallsAt b link.stage link.receiver c) on the_call.stands)

pub responses_are_replies : ResponsesAreReplies
responses_are_replies ours plan certificate certified name w number k s calls link here on accepted
    item is_storing agreed has id context pending moment time value pair found status class instance
    has_data b stage takes x t r =
    let call : IsCallOf ours name link k.core =
    the_call ours name w number k.core link here calls.shows.1 in
    let h : CallsAt true (Storing accepted item) link.receiver k.core = stands_as ours name w number
    k.core link here calls.shows.1 on (Storing accepted item) is_storing in
    let at : IsAt k.core true Sta6 = h.0.0 in
    let core : Core =
    record (with_stage stage k.core) { phase = in_its_phase (moved at.0 Sta6 moment.now) } in
    let P : Text → Type 0 = λ n. ours n ≡ true → IsDeskOf w n s
    → IsSideOf plan certificate n k.core k.ear
    → Reacts (LedgerStep plan n) k.core (at_moment moment (input.Value value)) s x t
    → (answer : Answer) × (v : World)
    × LeadsTo ours plan n w number (acts_of number (Replied status answer)) v
    × CallsIn ours plan certificate n v number (record { core = x.core; ear = k.ear }) t in
    subst P call.caller
    (λ own desk side turns.
    (let a = response_settles plan link.caller item moment k.core s t x at h.2 h.3 agreed has id
    context pending value pair found status class instance has_data b stage takes turns in
    let v = replied_by ours plan certificate certified w number link k s here call.receiver
    call.peer own desk side moment time x t call.on on accepted item is_storing h status a.0
    core a.1 a.2 (moved at.0 Sta6 moment.now, refl, at.2, refl) refl refl refl a.3 refl
    (refl, inr (inr (moved (moved at.0 Sta6 moment.now) Sta13 moment.now, refl, at.2, refl))) in
    (a.0, v.0, v.1, v.3)))
    calls.own calls.desk calls.shows.0 r

pub nothing_unheard_is_answered : NothingUnheardIsAnswered
nothing_unheard_is_answered ours plan certificate name w number k link accepted item status here on
    replying h =
    stands_as ours name w number k.core link here h.1 on (Replying accepted item status) replying

pub calls_to_ours_are_not_foreign : CallsToOursAreNotForeign
calls_to_ours_are_not_foreign ours plan certificate name w number k link here own h =
    let call : IsCallOf ours name link k.core = the_call ours name w number k.core link here h.1 in
    false≢true (sym call.receiver ∙ own)
