-- What was read and compared decides.
use Rattle.std.specs.Prelude.{◌≡◌, ◌↔◌, ◌⊎◌, ◌==◌, ◌||◌, ℕ, Bool, true, false, cond, List, [], ◌∷◌, Contains, Option, None, Some}
use Rattle.std.proofs.Common.{refl, sym, ap, subst, ◌∙◌}
use Rattle.std.proofs.lemmas.Bool.Decides.{Decides-eqb}
use Rattle.std.proofs.lemmas.List.Elements.{Contains-append_left, Contains-append_right, Contains-append_cases}
use mathlib.Core.Logic.{inl, inr}
use Rattle.std.specs.Ordering.{eq_by_cmp}
use Rattle.std.specs.FinMap as map
use Rattle.dr_base.specs.Texts.{Text}
use Rattle.dr_plan_model.specs.Networks.{Network}
use Rattle.dr_plan_model.specs.Walks.{Goes}
use Rattle.dr_plan_model.proofs.Gathered.{nothing_in_nil, only_one, Contains-cons_cases, Contains-here, Contains-there}
use Rattle.dr_plan_sound.specs.Soundness.{IsSound}
use Rattle.dr_ledger.specs.declared.item.Instance.{Instance}
use Rattle.dr_ledger.specs.declared.item.Outcome.{Outcome}
use Rattle.dr_ledger.specs.declared.item.Outcome.TheVariants.{Status, Broken, NoContext, Unreadable}
use Rattle.dr_ledger.specs.Books.{Book, Line, Arrival, Repeat, Settling, Requeuing, Dropping, Forgetting, Adoption, Fold, after, since_adoption}
use Rattle.dr_ledger.specs.Histories.{IsSince}
use Rattle.dr_ledger.specs.Pairs.{Pair}
use Rattle.dr_ledger.specs.PlanRoutes.{plan_routing}
use Rattle.dr_ledger.specs.Routings.{Routing}
use Rattle.dr_ledger.proofs.Folding.{folds_have_their_lines}
use Rattle.dr_ledger.proofs.Maps.{IsExact, same_or_not, ties_itself}
use Rattle.dr_world_model.specs.Claims.{IsFairOutcome, IsToSend}
use Rattle.dr_world_audit.specs.declared.audit.Mismatch.{Mismatch}
use Rattle.dr_world_audit.specs.declared.audit.Mismatch.TheVariants as mismatch
use Rattle.dr_world_audit.specs.declared.audit.NodeJournal.{NodeJournal}
use Rattle.dr_world_audit.specs.declared.hop.AuditHop.{AuditHop as Held}
use Rattle.dr_world_audit.specs.Comparing.{IsUnanswered, IsUnsent}
use Rattle.dr_world_audit.specs.Hops.{held, hop_of}
use Rattle.dr_world_audit.specs.Sites.{AreApart, DoesHold, DoesNotHold, IsForNoReason, IsNotThere, IsUnfair, ShowsNode, Tells, TellsNode, all_came, all_done, all_of, all_sent, books_of, is_fair, lines_at, names, ours_of}
use Rattle.dr_world_audit.specs.Stops.{Compares}
use Rattle.dr_world_audit.specs.contracts.hop.AuditHopOrd.TheImpl.Laws as hop_laws
use Rattle.dr_world_audit.proofs.Named.{book_is, named_in, others_are_empty, ours_found, ours_in}
use Rattle.dr_world_audit.specs.Orders.{hop_cmp}
use Rattle.dr_world_audit.proofs.Sets.{hop_exact}
use Rattle.dr_world_audit.proofs.Stopping.{is_fair_of, mapped_from, mapped_has}
use Rattle.dr_world_journals.specs.Hops.{Hop, came, came_by, came_to, done, done_at, done_by, goals, hop_of as hops_of, if_row, if_success, sent_from, standing, stands_at, to_each, went, went_by}
use Rattle.dr_world_journals.specs.Journals.{AnswersAreFair, AreHistories, Match, until_adoption}
use Rattle.dr_world_journals.proofs.Hopping.{came_in, came_out, done_noted, hops_decide, reason_sent}
use Rattle.dr_world_journals.proofs.Shown.{matching_journals_show_the_headline}

-- ---- hops
hops : IsExact hop_cmp
hops = record { total = hop_laws.total-law; exact = hop_exact }

-- the hop is among these, or not
among_or_not : (all : List Held) (one : Held) → Contains all one ⊎ (Contains all one → ⊥)
among_or_not [] one = inr (λ h. nothing_in_nil one h)
among_or_not (first ∷ more) one = elim (same_or_not hops first one) [
  | inl same ↦ inl (subst (Contains (first ∷ more)) same (Contains-here first more))
  | inr other ↦ elim (among_or_not more one) [
    | inl later ↦ inl (Contains-there first more one later)
    | inr none ↦ inr (λ h. elim (Contains-cons_cases first more one h) [
      | inl same ↦ differs same other
      | inr later ↦ none later
    ])
  ]
]
  where
    differs : first ≡ one → eq_by_cmp hop_cmp first one ≡ false → ⊥
    differs same f = (let t : true ≡ false = sym (ties_itself hops one) ∙ (ap (λ x. eq_by_cmp hop_cmp x one) (sym same) ∙ f) in cc t)

same_hop : (a b : Hop) → hop_of a ≡ hop_of b → a ≡ b
same_hop a b e = (λ j. (
  ap (λ (h : Held). h.from) e j,
  ap (λ (h : Held). h.to) e j,
  record { uid = ap (λ (h : Held). h.uid) e j; key = ap (λ (h : Held). h.key) e j; size = ap (λ (h : Held). h.size) e j; digest = ap (λ (h : Held). h.digest) e j },
))

held_in : (all : List Hop) (h : Hop) → Contains all h → Contains (held all) (hop_of h)
held_in all h c = mapped_has hop_of all h c

held_out : (all : List Hop) (h : Hop) → Contains (held all) (hop_of h) → Contains all h
held_out all h c = (let m = mapped_from hop_of all (hop_of h) c in subst (Contains all) (sym (same_hop h m.0 m.2)) m.1)

-- ---- the nodes of hops
came_name : (name : Text) (lines : List Line) (h : Hop) → Contains (came name lines) h → h.1 ≡ name
came_name name [] h c = absurd (nothing_in_nil h c)
came_name name (line ∷ lines) h c = elim (Contains-append_cases (came_by name line) (came name lines) h c) [ inl here ↦ by line here | inr later ↦ came_name name lines h later ]
  where
    by : (l : Line) → Contains (came_by name l) h → h.1 ≡ name
    by (Arrival caller item to keep) k = sym (ap (λ (x : Hop). x.1) (only_one (caller, name, item) h k))
    by (Repeat caller item) k = sym (ap (λ (x : Hop). x.1) (only_one (caller, name, item) h k))
    by (Settling uid dest outcome now) k = absurd (nothing_in_nil h k)
    by (Requeuing uid dest) k = absurd (nothing_in_nil h k)
    by (Dropping uid dest now) k = absurd (nothing_in_nil h k)
    by (Forgetting uid) k = absurd (nothing_in_nil h k)
    by Adoption k = absurd (nothing_in_nil h k)

each_name : (name : Text) (item : Instance) (to : List Text) (h : Hop) → Contains (to_each name item to) h → h.0 ≡ name
each_name name item to h c = ap (λ (x : Hop). x.0) (mapped_from (λ (next : Text). (name, next, item)) to h c).2

went_name : (routing : Routing) (name : Text) (lines : List Line) (h : Hop) → Contains (went routing name lines) h → h.0 ≡ name
went_name routing name [] h c = absurd (nothing_in_nil h c)
went_name routing name (line ∷ lines) h c = elim (Contains-append_cases (went_by routing name line) (went routing name lines) h c) [ inl here ↦ by line here | inr later ↦ went_name routing name lines h later ]
  where
    by : (l : Line) → Contains (went_by routing name l) h → h.0 ≡ name
    by (Arrival caller item to keep) k = each_name name item to h k
    by (Repeat caller item) k = each_name name item (routing.targets caller item.key) h k
    by (Settling uid dest outcome now) k = absurd (nothing_in_nil h k)
    by (Requeuing uid dest) k = absurd (nothing_in_nil h k)
    by (Dropping uid dest now) k = absurd (nothing_in_nil h k)
    by (Forgetting uid) k = absurd (nothing_in_nil h k)
    by Adoption k = absurd (nothing_in_nil h k)

one_name : (from to : Text) (o : Option Instance) (h : Hop) → Contains (hops_of from to o) h → h.0 ≡ from
one_name from to None h c = absurd (nothing_in_nil h c)
one_name from to (Some item) h c = sym (ap (λ (x : Hop). x.0) (only_one (from, to, item) h c))

standing_name : (name : Text) (b : Book) (all : List Pair) (h : Hop) → Contains (standing name b all) h → h.0 ≡ name
standing_name name b [] h c = absurd (nothing_in_nil h c)
standing_name name b (at ∷ all) h c = elim (Contains-append_cases (stands_at name b at) (standing name b all) h c) [
  | inl here ↦ one_name name at.1 (if_row (map.get b.rows at) (map.get b.items at.0)) h here
  | inr later ↦ standing_name name b all h later
]

sent_name : (routing : Routing) (name : Text) (lines : List Line) (h : Hop) → Contains (sent_from routing name lines) h → h.0 ≡ name
sent_name routing name lines h c =
    let b = Fold (until_adoption lines) in
    let all = goals (until_adoption lines) in
    let since = since_adoption lines in
    elim (Contains-append_cases (standing name b all) (went routing name since) h c) [ inl s ↦ standing_name name b all h s | inr w ↦ went_name routing name since h w ]

cond_from : {X : Type 0} (b : Bool) (xs : List X) (x : X) → Contains (cond b xs []) x → Contains xs x
cond_from true xs x c = c
cond_from false xs x c = absurd (nothing_in_nil x c)

success_name : (name dest : Text) (outcome : Outcome) (o : Option Instance) (h : Hop) → Contains (if_success outcome (hops_of name dest o)) h → h.0 ≡ name
success_name name dest (Status status) o h c = one_name name dest o h (cond_from _ (hops_of name dest o) h c)
success_name name dest Broken o h c = absurd (nothing_in_nil h c)
success_name name dest NoContext o h c = absurd (nothing_in_nil h c)
success_name name dest Unreadable o h c = absurd (nothing_in_nil h c)

done_name : (name : Text) (b : Book) (lines : List Line) (h : Hop) → Contains (done name b lines) h → h.0 ≡ name
done_name name b [] h c = absurd (nothing_in_nil h c)
done_name name b (line ∷ lines) h c = elim (Contains-append_cases (done_by name b line) (done name (after line b) lines) h c) [ inl here ↦ by line here | inr later ↦ done_name name (after line b) lines h later ]
  where
    by : (l : Line) → Contains (done_by name b l) h → h.0 ≡ name
    by (Arrival caller item to keep) k = absurd (nothing_in_nil h k)
    by (Repeat caller item) k = absurd (nothing_in_nil h k)
    by (Settling uid dest outcome now) k = success_name name dest outcome (map.get b.items uid) h k
    by (Requeuing uid dest) k = absurd (nothing_in_nil h k)
    by (Dropping uid dest now) k = absurd (nothing_in_nil h k)
    by (Forgetting uid) k = absurd (nothing_in_nil h k)
    by Adoption k = absurd (nothing_in_nil h k)

-- ---- the hops of all nodes
all_in : (each : NodeJournal → List Hop) (nodes : List NodeJournal) (node : NodeJournal) (h : Hop) → Contains nodes node → Contains (each node) h → Contains (all_of each nodes) h
all_in each [] node h among c = absurd (nothing_in_nil node among)
all_in each (first ∷ nodes) node h among c = elim (Contains-cons_cases first nodes node among) [
  | inl same ↦ Contains-append_left (each first) (all_of each nodes) h (let P : NodeJournal → Type 0 = λ n. Contains (each n) h in subst P (sym same) c)
  | inr later ↦ Contains-append_right (each first) (all_of each nodes) h (all_in each nodes node h later c)
]

all_out : (each : NodeJournal → List Hop) (nodes : List NodeJournal) (h : Hop) → Contains (all_of each nodes) h → (node : NodeJournal) × Contains nodes node × Contains (each node) h
all_out each [] h c = absurd (nothing_in_nil h c)
all_out each (first ∷ nodes) h c = elim (Contains-append_cases (each first) (all_of each nodes) h c) [
  | inl here ↦ (first, Contains-here first nodes, here)
  | inr later ↦ (let f = all_out each nodes h later in (f.0, Contains-there first nodes f.0 f.1, f.2))
]

-- ---- what is fair
either_true : (a b : Bool) → (a || b) ≡ true → (a ≡ true) ⊎ (b ≡ true)
either_true true b h = inl refl
either_true false b h = inr h

fair_is : (outcome : Outcome) → is_fair outcome ≡ true → IsFairOutcome outcome
fair_is (Status status) h = elim (either_true (status == 0) ((status == 0xA700) || (status == 0xC0F1)) h) [
  | inl z ↦ inl (nat_is status 0 z)
  | inr more ↦ elim (either_true (status == 0xA700) (status == 0xC0F1) more) [ inl a ↦ inr (inl (nat_is status 0xA700 a)) | inr c ↦ inr (inr (nat_is status 0xC0F1 c)) ]
]
  where
    nat_is : (a b : ℕ) → (a == b) ≡ true → a ≡ b
    nat_is a b h = (Decides-eqb a b).0 h
fair_is Broken h = tt
fair_is NoContext h = absurd (let e : ⊥ = cc in e)
fair_is Unreadable h = tt

cases : (b : Bool) → (b ≡ true) ⊎ (b ≡ false)
cases true = inl refl
cases false = inr refl

both_ways : {b : Bool} → b ≡ true → b ≡ false → ⊥
both_ways t f = (let e : true ≡ false = sym t ∙ f in cc e)

-- ---- the site
module _ (plan : Network) (nodes : List NodeJournal) (apart : AreApart nodes) (keys : List Text) (same : (n : Text) → Contains keys n ↔ Contains (names nodes) n) where
  key_in : (name : Text) → ours_of nodes name ≡ true → Contains keys name
  key_in name own = (let f = ours_found nodes name own in (same name).1 (subst (Contains (names nodes)) f.2 (named_in nodes f.0 f.1)))

  is_key : (name : Text) → Contains keys name → ours_of nodes name ≡ true
  is_key name h = ours_in nodes name ((same name).0 h)

  node_own : (node : NodeJournal) → Contains nodes node → ours_of nodes node.name ≡ true
  node_own node among = ours_in nodes node.name (named_in nodes node among)

  lines_of_book : (node : NodeJournal) → Contains nodes node → (books_of nodes node.name).lines ≡ lines_at node
  lines_of_book node among = ap (λ (b : Book). b.lines) (book_is nodes apart node among) ∙ folds_have_their_lines (lines_at node)

  -- by name, as the journals show it
  at_name : (P : Text → List Line → Book → Type 0) → ((node : NodeJournal) → Contains nodes node → P node.name (lines_at node) (Fold (lines_at node))) → (name : Text) → ours_of nodes name ≡ true → P name (books_of nodes name).lines (books_of nodes name)
  at_name P each name own =
      let f = ours_found nodes name own in
      let Q : Text → Type 0 = λ n. P n (books_of nodes n).lines (books_of nodes n) in
      let R : List Line × Book → Type 0 = λ p. P f.0.name p.0 p.1 in
      subst Q f.2 (subst R (λ j. (sym (lines_of_book f.0 f.1) j, sym (book_is nodes apart f.0 f.1) j)) (each f.0 f.1))

  at_node : (P : Text → List Line → Book → Type 0) → (node : NodeJournal) → Contains nodes node → P node.name (books_of nodes node.name).lines (books_of nodes node.name) → P node.name (lines_at node) (Fold (lines_at node))
  at_node P node among h = (let R : List Line × Book → Type 0 = λ p. P node.name p.0 p.1 in subst R (λ j. (lines_of_book node among j, book_is nodes apart node among j)) h)

  -- ---- what all show
  histories_of : ((node : NodeJournal) → Contains nodes node → ShowsNode plan keys node) → AreHistories (ours_of nodes) plan (books_of nodes)
  histories_of shows = record {
    own = λ name own. (let P : Text → List Line → Book → Type 0 = λ n ls b. IsSince (plan_routing plan n) (until_adoption ls) b in at_name P (λ node among. (shows node among).own) name own);
    fit = λ name to item own s. (
        let P : Text → List Line → Book → Type 0 = λ n ls b. IsToSend (Fold (until_adoption ls)) item to → Goes plan item.key n to in
        at_name P (λ node among. (shows node among).fit to item) name own s
        );
    others = λ name other. others_are_empty nodes name other;
  }

  fair_of : ((node : NodeJournal) → Contains nodes node → ShowsNode plan keys node) → AnswersAreFair (ours_of nodes) (books_of nodes)
  fair_of shows name uid to outcome now own near h =
      let P : Text → List Line → Book → Type 0 = λ n ls b. Contains ls (Settling uid to outcome now) → IsFairOutcome outcome in
      at_name P (λ node among c. elim (cases (is_fair outcome)) [
        | inl fair ↦ fair_is outcome fair
        | inr unfair ↦ absurd ((shows node among).fair (Settling uid to outcome now) c (unfair, key_in to near))
      ]) name own h

  pub shows_of : AreHistories (ours_of nodes) plan (books_of nodes) → Match (ours_of nodes) plan (books_of nodes) → (node : NodeJournal) → Contains nodes node → ShowsNode plan keys node
  shows_of h m node among = record {
    own = (let P : Text → List Line → Book → Type 0 = λ n ls b. IsSince (plan_routing plan n) (until_adoption ls) b in at_node P node among (h.own node.name (node_own node among)));
    fit = λ to item s. (
        let P : Text → List Line → Book → Type 0 = λ n ls b. IsToSend (Fold (until_adoption ls)) item to → Goes plan item.key n to in
        at_node P node among (h.fit node.name to item (node_own node among)) s
        );
    fair = λ line c unfair. fair_there line c unfair;
  }
    where
      fair_there : (line : Line) → Contains (lines_at node) line → IsUnfair keys line → ⊥
      fair_there (Settling uid dest outcome now) c unfair = (
          let P : Text → List Line → Book → Type 0 = λ n ls b. Contains ls (Settling uid dest outcome now) → IsFairOutcome outcome in
          let fair = at_node P node among (λ k. m.fair node.name uid dest outcome now (node_own node among) (is_key dest unfair.1) k) c in
          both_ways (is_fair_of outcome fair) unfair.0
          )
      fair_there (Arrival caller item to keep) c unfair = unfair
      fair_there (Repeat caller item) c unfair = unfair
      fair_there (Requeuing uid dest) c unfair = unfair
      fair_there (Dropping uid dest now) c unfair = unfair
      fair_there (Forgetting uid) c unfair = unfair
      fair_there Adoption c unfair = unfair

  -- ---- hops by name
  abbrev Came : Text → Hop → Type 0
  Came name h = Contains (came_to name (books_of nodes name).lines) h

  abbrev Sent : Text → Hop → Type 0
  Sent name h = Contains (sent_from (plan_routing plan name) name (books_of nodes name).lines) h

  abbrev Done : Text → Hop → Type 0
  Done name h = Contains (done_at name (books_of nodes name).lines) h

  came_here : (h : Hop) → Contains (all_came nodes) h → Came h.1 h
  came_here h c =
      let f = all_out (λ node. came_to node.name (lines_at node)) nodes h c in
      let P : Text → Type 0 = λ n. Came n h in
      let R : List Line → Type 0 = λ ls. Contains (came_to f.0.name ls) h in
      subst P (sym (came_name f.0.name (since_adoption (lines_at f.0)) h f.2)) (subst R (sym (lines_of_book f.0 f.1)) f.2)

  came_all : (name : Text) → ours_of nodes name ≡ true → (h : Hop) → Came name h → Contains (all_came nodes) h
  came_all name own h c =
      let P : Text → List Line → Book → Type 0 = λ n ls b. Contains (came_to n ls) h → Contains (all_came nodes) h in
      at_name P (λ node among k. all_in (λ n. came_to n.name (lines_at n)) nodes node h among k) name own c

  sent_here : (h : Hop) → Contains (all_sent plan nodes) h → Sent h.0 h
  sent_here h c =
      let f = all_out (λ node. sent_from (plan_routing plan node.name) node.name (lines_at node)) nodes h c in
      let P : Text → Type 0 = λ n. Sent n h in
      let R : List Line → Type 0 = λ ls. Contains (sent_from (plan_routing plan f.0.name) f.0.name ls) h in
      subst P (sym (sent_name (plan_routing plan f.0.name) f.0.name (lines_at f.0) h f.2)) (subst R (sym (lines_of_book f.0 f.1)) f.2)

  sent_all : (name : Text) → ours_of nodes name ≡ true → (h : Hop) → Sent name h → Contains (all_sent plan nodes) h
  sent_all name own h c =
      let P : Text → List Line → Book → Type 0 = λ n ls b. Contains (sent_from (plan_routing plan n) n ls) h → Contains (all_sent plan nodes) h in
      at_name P (λ node among k. all_in (λ n. sent_from (plan_routing plan n.name) n.name (lines_at n)) nodes node h among k) name own c

  done_here : (h : Hop) → Contains (all_done nodes) h → (ours_of nodes h.0 ≡ true) × Done h.0 h
  done_here h c =
      let f = all_out (λ node. done_at node.name (lines_at node)) nodes h c in
      let P : Text → Type 0 = λ n. (ours_of nodes n ≡ true) × Done n h in
      let R : List Line → Type 0 = λ ls. Contains (done_at f.0.name ls) h in
      subst P (sym (done_name f.0.name (Fold (until_adoption (lines_at f.0))) (since_adoption (lines_at f.0)) h f.2)) (node_own f.0 f.1, subst R (sym (lines_of_book f.0 f.1)) f.2)

  done_all : (name : Text) → ours_of nodes name ≡ true → (h : Hop) → Done name h → Contains (all_done nodes) h
  done_all name own h c =
      let P : Text → List Line → Book → Type 0 = λ n ls b. Contains (done_at n ls) h → Contains (all_done nodes) h in
      at_name P (λ node among k. all_in (λ n. done_at n.name (lines_at n)) nodes node h among k) name own c

  came_own : (h : Hop) → Contains (all_came nodes) h → ours_of nodes h.1 ≡ true
  came_own h c =
      let f = all_out (λ node. came_to node.name (lines_at node)) nodes h c in
      let P : Text → Type 0 = λ n. ours_of nodes n ≡ true in
      subst P (sym (came_name f.0.name (since_adoption (lines_at f.0)) h f.2)) (node_own f.0 f.1)

  -- ---- the verdict
  pub holds : IsSound plan → ((node : NodeJournal) → Contains nodes node → ShowsNode plan keys node) → Compares keys (held (all_came nodes)) (held (all_sent plan nodes)) (held (all_done nodes)) None → DoesHold plan nodes
  holds sound shows compared =
      let ours = ours_of nodes in
      let books = books_of nodes in
      let histories = histories_of shows in
      let decide = hops_decide ours plan books histories in
      let m : Match ours plan books = record {
        successes = decide.successes.1 (λ name to item own near c. (
            let h : Hop = (name, to, item) in
            elim (among_or_not (held (all_came nodes)) (hop_of h)) [
              | inl there ↦ came_here h (held_out (all_came nodes) h there)
              | inr none ↦ absurd (compared.1 (hop_of h) (held_in (all_done nodes) h (done_all name own h c)) (key_in to near, none))
            ]
            ));
        arrivals = decide.arrivals.1 (λ name caller item own near far c. (
            let h : Hop = (caller, name, item) in
            elim (among_or_not (held (all_sent plan nodes)) (hop_of h)) [
              | inl there ↦ sent_here h (held_out (all_sent plan nodes) h there)
              | inr none ↦ absurd (compared.0 (hop_of h) (held_in (all_came nodes) h (came_all name own h c)) (key_in caller near, far, none))
            ]
            ));
        fair = fair_of shows;
      } in
      record { histories = histories; match = m; headline = matching_journals_show_the_headline ours plan sound books histories m }

  -- what one node's journal is told of, it doesn't show
  pub node_fails : (node : NodeJournal) (told : Mismatch) → TellsNode plan keys node told → ShowsNode plan keys node → ⊥
  node_fails node (mismatch.NoHistory name) t shows = t.1 shows.own
  node_fails node (mismatch.NoHop name uid to) t shows = t.1.nowhere (shows.fit to t.1.item t.1.stood)
  node_fails node (mismatch.NotFair name uid to) t shows = elim (cases (is_fair t.2.outcome)) [
    | inl fair ↦ t.2.unfair (fair_is t.2.outcome fair)
    | inr unfair ↦ shows.fair (Settling uid to t.2.outcome t.2.now) t.2.line (unfair, t.1)
  ]
  node_fails node (mismatch.NoArrival name uid to) t shows = t
  node_fails node (mismatch.NoReason name uid from) t shows = t

  tells : (node : NodeJournal) (told : Mismatch) → Contains nodes node → TellsNode plan keys node told → Tells plan nodes told
  tells node (mismatch.NoHistory name) among t = (node, among, t)
  tells node (mismatch.NoHop name uid to) among t = (node, among, t)
  tells node (mismatch.NotFair name uid to) among t = (node, among, (t.0, (same to).0 t.1, t.2))
  tells node (mismatch.NoArrival name uid to) among t = absurd t
  tells node (mismatch.NoReason name uid from) among t = absurd t

  pub one_fails : (node : NodeJournal) (told : Mismatch) → Contains nodes node → TellsNode plan keys node told → DoesNotHold plan nodes told
  one_fails node told among t = record { tells = tells node told among t; fails = λ histories m. node_fails node told t (shows_of histories m node among) }

  pub mismatches : ((node : NodeJournal) → Contains nodes node → ShowsNode plan keys node) → (told : Mismatch) → Compares keys (held (all_came nodes)) (held (all_sent plan nodes)) (held (all_done nodes)) (Some told) → DoesNotHold plan nodes told
  mismatches shows told (inl u) =
      let books = books_of nodes in
      let own = histories_of shows in
      let f = mapped_from hop_of (all_came nodes) u.0 u.1 in
      let h = f.0 in
      let P : Held → Type 0 = λ x. IsUnsent keys (held (all_sent plan nodes)) x × (told ≡ mismatch.NoReason x.to x.uid x.from) in
      let unsent = subst P f.2 (u.2, u.3) in
      let near = is_key h.0 unsent.0.0 in
      let here = came_here h f.1 in
      let lacks : IsForNoReason plan (ours_of nodes) books h.1 h.2.uid h.0 = record {
        item = h.2;
        named = refl;
        own = came_own h f.1;
        near = near;
        arrived = came_out h.1 (since_adoption (books h.1).lines) h here;
        missing = λ reason. unsent.0.2 (held_in (all_sent plan nodes) h (sent_all h.0 near h (reason_sent plan h.0 (books h.0) (own.own h.0 near) h.2 h.1 reason)));
      } in
      record {
        tells = subst (Tells plan nodes) (sym unsent.1) lacks;
        fails = λ histories m. lacks.missing (m.arrivals h.1 h.0 h.2 lacks.own near unsent.0.1 lacks.arrived);
      }
  mismatches shows told (inr u) =
      let books = books_of nodes in
      let own = histories_of shows in
      let f = mapped_from hop_of (all_done nodes) u.0 u.1 in
      let h = f.0 in
      let P : Held → Type 0 = λ x. IsUnanswered keys (held (all_came nodes)) x × (told ≡ mismatch.NoArrival x.from x.uid x.to) in
      let unanswered = subst P f.2 (u.2, u.3) in
      let d = done_here h f.1 in
      let near = is_key h.1 unanswered.0.0 in
      let lacks : IsNotThere (ours_of nodes) books h.0 h.2.uid h.1 = record {
        item = h.2;
        named = refl;
        own = d.0;
        near = near;
        noted = done_noted plan h.0 (books h.0) (own.own h.0 d.0) h.2 h.1 d.1;
        missing = λ taken. unanswered.0.1 (held_in (all_came nodes) h (came_all h.1 near h (came_in h.1 (since_adoption (books h.1).lines) h.0 h.2 taken)));
      } in
      record {
        tells = subst (Tells plan nodes) (sym unanswered.1) lacks;
        fails = λ histories m. lacks.missing (m.successes h.0 h.1 h.2 d.0 near lacks.noted);
      }
