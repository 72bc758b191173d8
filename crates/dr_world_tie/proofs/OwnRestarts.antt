-- A node of ours starts anew among other makers' products.
use Rattle.std.proofs.Common.{◌≡◌, ◌≢◌, ◌≤◌, ℕ, Bool, true, false, List, [], ◌∷◌, Option, None, Some, Err}
use Rattle.std.proofs.Common.{Contains, refl, sym, ap, subst, ◌∙◌, inl, inr}
use Rattle.std.specs.Prelude.{AllPairs, cond, not, if◌then◌else◌}
use Rattle.std.specs.declared.cmp.Ordering.TheVariants.{Equal, Less}
use Rattle.std.specs.Ordering.{nat_cmp}
use Rattle.std.specs.FinMap as map_of
use Rattle.std.specs.FinSet as set
use Rattle.std.proofs.lemmas.Bool.{cases_Bool, false≢true}
use Rattle.std.proofs.lemmas.Cmp.{tied_itself}
use Rattle.std.proofs.lemmas.Option.{same_Some}
use Rattle.dr_base.specs.Texts.{Text}
use Rattle.dr_plan_model.specs.Networks.{Network}
use Rattle.dr_plan_model.proofs.Gathered.{Contains-cons_cases, Contains-here, Contains-there, nothing_in_nil}
use Rattle.dr_plan_sound.specs.declared.certificate.Certificate.{Certificate}
use Rattle.dr_ledger.specs.declared.fault.LedgerFault.TheVariants as fault
use Rattle.dr_ledger.specs.declared.item.Instance.{Instance}
use Rattle.dr_ledger.specs.Books.{Book, empty_book}
use Rattle.dr_ledger.specs.Replies.{IsWaiting}
use Rattle.dr_ledger.proofs.Maps.{get_new, get_other, same_or_not, texts, ties_itself}
use Rattle.dr_nego.proofs.Concluded.{head_pairs, tail_pairs}
use Rattle.dr_world_model.specs.Worlds.{Link, World, same_text, with_armed, with_book, with_link}
use Rattle.dr_world_model.specs.Worlds.{with_links, without_caller}
use Rattle.dr_world_model.specs.Calls.{Answer}
use Rattle.dr_world_model.specs.Events.{Restart}
use Rattle.dr_world_model.specs.Steps.{IsLink, LeaveAll, Leaves, SettlesPending, callers_of, is_of}
use Rattle.dr_world_model.specs.Steps.{links_without, pending}
use Rattle.dr_world_model.specs.Among.{Act, Ours, Own, RunsAmong}
use Rattle.dr_world_model.proofs.Lookups.{numbers}
use Rattle.dr_world_model.proofs.Pinned.{restarts_in_order}
use Rattle.dr_world_model.proofs.Restarting.{callers_are_those_who_call}
use Rattle.dr_world_tie.specs.ByteWorlds.{Acceptor, Requestor, Side}
use Rattle.dr_world_tie.specs.Channels.{LiveTerminal}
use Rattle.dr_world_tie.specs.Foreign.{OthersHaveNone}
use Rattle.dr_world_tie.specs.ForeignCalls.{IsCallOf}
use Rattle.dr_world_tie.specs.ForeignWorlds.{OwnEnd, OwnWorld, ShowsBy, ShowsOwn, without_node}
use Rattle.dr_world_tie.proofs.Foreigners.{none_waits, one_link, same_books}
use Rattle.dr_world_tie.proofs.Others.{as_pairs}

-- ---- another product's callers leave

-- it settles nothing: it has no book
record LeavesBy (w : World) (number : ℕ) (link : Link) : Type 0 where
  answer : Option Answer
  after : World
  leaves : Leaves w number answer after
  links : after.links ≡ map_of.insert w.links number (without_caller link)
  books : (name : Text) → after.books name ≡ w.books name
  armed : after.armed ≡ w.armed
  rest : (after.time ≡ w.time) × (after.stood ≡ w.stood) × (after.opened ≡ w.opened)

leaves_by : (w : World) (number : ℕ) (link : Link) → IsLink w number link
    → link.caller_connected ≡ true → w.books link.caller ≡ empty_book
    → LeavesBy w number link
leaves_by w number link here on none = by_pending (pending link.stage) refl
  where
    by_pending : (p : Option Instance) → pending link.stage ≡ p → LeavesBy w number link
    by_pending None e = record {
      answer = None;
      after = with_link w number (without_caller link);
      leaves = record {
        link = link;
        at = here;
        on = on;
        mid = w;
        broken = subst (λ (p : Option Instance). SettlesPending w link p None w) (sym e) refl;
        is = refl;
      };
      links = refl;
      books = λ name. refl;
      armed = refl;
      rest = (refl, refl, refl);
    }
    by_pending (Some item) e =
        let answer : Option Answer = Some (Err fault.NotWaiting) in
        let mid : World = with_armed (with_book w link.caller (w.books link.caller)) w.armed in
        let waits : IsWaiting (w.books link.caller) item.uid link.receiver → ⊥ =
        subst (λ (b : Book). IsWaiting b item.uid link.receiver → ⊥) (sym none)
        (none_waits item.uid link.receiver) in
        record {
          answer = answer;
          after = with_link mid number (without_caller link);
          leaves = record {
            link = link;
            at = here;
            on = on;
            mid = mid;
            broken = subst (λ (p : Option Instance). SettlesPending w link p answer mid) (sym e)
                (record {
                  book = w.books link.caller;
                  call = (waits, refl);
                  called = record { armed = w.armed; store = refl; is = refl };
                });
            is = refl;
          };
          links = refl;
          books = same_books w.books link.caller;
          armed = refl;
          rest = (refl, refl, refl);
        }

not_below_itself : (n : ℕ) → nat_cmp n n ≡ Less → ⊥
not_below_itself n h = (let e : Less ≡ Equal = sym h ∙ tied_itself numbers.total n in cc e)

module _ (node : Text) where
  -- another product called the node, and is on
  abbrev pub IsCaller : World → ℕ → Type 0
  IsCaller w number =
      (link : Link) × IsLink w number link × (link.receiver ≡ node)
      × (link.caller_connected ≡ true)
      × (w.books link.caller ≡ empty_book)

  -- all of these have left
  pub record AllLeft (w : World) (all : List ℕ) : Type 0 where
    pub mid : World
    pub answers : List (Option Answer)
    pub leave : LeaveAll w all answers mid
    pub books : (name : Text) → mid.books name ≡ w.books name
    pub armed : mid.armed ≡ w.armed
    pub rest : (mid.time ≡ w.time) × (mid.stood ≡ w.stood) × (mid.opened ≡ w.opened)
    pub others : (n : ℕ) → (Contains all n → ⊥) → map_of.get mid.links n ≡ map_of.get w.links n
    pub called : (n : ℕ) → Contains all n → (link : Link) × IsLink mid n link × (link.receiver ≡ node)

  all_left : (all : List ℕ) → AllPairs (λ p q. nat_cmp p q ≡ Less) all → (w : World)
      → ((n : ℕ) → Contains all n → IsCaller w n)
      → AllLeft w all
  all_left [] rising w each = record {
    mid = w;
    answers = [];
    leave = refl;
    books = λ name. refl;
    armed = refl;
    rest = (refl, refl, refl);
    others = λ n no. refl;
    called = λ n among. absurd (nothing_in_nil n among);
  }
  all_left (number ∷ more) rising w each =
      let c = each number (Contains-here number more) in
      let one = leaves_by w number c.0 c.1 c.3 c.4 in
      let v : World = one.after in
      let here : map_of.get v.links number ≡ Some (without_caller c.0) =
      ap (λ (l : _). map_of.get l number) one.links
      ∙ get_new numbers w.links number (without_caller c.0) in
      let there : (n : ℕ) → n ≢ number → map_of.get v.links n ≡ map_of.get w.links n =
      λ n apart. still v c.0 one.links n apart in
      let later : (n : ℕ) → Contains more n → n ≢ number =
      λ n among same. not_below_itself number
      (subst (λ (m : ℕ). nat_cmp number m ≡ Less) same
      (head_pairs (λ p q. nat_cmp p q ≡ Less) number more rising n among)) in
      let r = all_left more (tail_pairs (λ p q. nat_cmp p q ≡ Less) number more rising) v
      (λ n among.
      (let q = each n (Contains-there number more n among) in
      (q.0, there n (later n among) ∙ q.1, q.2, q.3, one.books q.0.caller ∙ q.4))) in
      record {
        mid = r.mid;
        answers = one.answer ∷ r.answers;
        leave = (v, one.leaves, r.leave);
        books = λ name. r.books name ∙ one.books name;
        armed = r.armed ∙ one.armed;
        rest = (
          r.rest.0 ∙ one.rest.0,
          r.rest.1 ∙ one.rest.1,
          r.rest.2 ∙ one.rest.2,
        );
        others = λ n no.
            r.others n (λ among. no (Contains-there number more n among))
            ∙ there n (λ same.
            no (subst (λ (m : ℕ). Contains (number ∷ more) m) (sym same) (Contains-here number more)));
        called = λ n among. elim (Contains-cons_cases number more n among) [
          | inl same ↦
              let P : ℕ → Type 0 = λ m. (link : Link) × IsLink r.mid m link × (link.receiver ≡ node) in
              subst P same (
                without_caller c.0,
                r.others number (λ among. later number among refl) ∙ here,
                c.2,
              )
          | inr behind ↦ r.called n behind
        ];
      }
    where
      still : (v : World) (link : Link) → v.links ≡ map_of.insert w.links number (without_caller link)
          → (n : ℕ) → n ≢ number → map_of.get v.links n ≡ map_of.get w.links n
      still v link is n apart = elim (same_or_not numbers n number) [
        | inl same ↦ absurd (apart same)
        | inr other ↦
            ap (λ (l : _). map_of.get l n) is
            ∙ get_other numbers w.links number (without_caller link) n other
      ]

  -- ---- the ends that are left

  pub without_is : (q : Option OwnEnd) (e : OwnEnd) → without_node node q ≡ Some e
      → (q ≡ Some e) × (same_text e.node node ≡ false)
  without_is None e h = (let f : None ≡ Some e = h in absurd (cc f))
  without_is (Some d) e h = by_name (same_text d.node node) refl h
    where
      by_name : (c : Bool) → same_text d.node node ≡ c → (if c then None else Some d) ≡ Some e
          → (Some d ≡ Some e) × (same_text e.node node ≡ false)
      by_name true named f = (let g : None ≡ Some e = f in absurd (cc g))
      by_name false named f = (
        f,
        ap (λ (z : OwnEnd). same_text z.node node) (sym (same_Some d e f)) ∙ named,
      )

  without_still : (q : Option OwnEnd) (e : OwnEnd) → q ≡ Some e → same_text e.node node ≡ false
      → without_node node q ≡ Some e
  without_still q e is apart =
      ap (λ (z : Option OwnEnd). without_node node z) is
      ∙ ap (λ (c : Bool). if c then None else Some e) apart

  -- the number of an end that is left
  abbrev pub left_number : Option OwnEnd → Option ℕ → Option ℕ
  left_number None number = number
  left_number (Some e) number = if same_text e.node node then None else number

  pub left_was : (q : Option OwnEnd) (number : Option ℕ) (n : ℕ) → left_number q number ≡ Some n
      → number ≡ Some n
  left_was None number n h = h
  left_was (Some e) number n h = by_name (same_text e.node node) h
    where
      by_name : (c : Bool) → (if c then None else number) ≡ Some n → number ≡ Some n
      by_name true f = (let g : None ≡ Some n = f in absurd (cc g))
      by_name false f = f

  pub left_still : (q : Option OwnEnd) (e : OwnEnd) (number : Option ℕ) → q ≡ Some e
      → same_text e.node node ≡ false
      → left_number q number ≡ number
  left_still q e number is apart =
      ap (λ (z : Option OwnEnd). left_number z number) is
      ∙ ap (λ (c : Bool). if c then None else number) apart

  pub left_free : (q : Option OwnEnd) (number : Option ℕ) → (q ≡ None → number ≡ None)
      → without_node node q ≡ None
      → left_number q number ≡ None
  left_free None number free none = free refl
  left_free (Some e) number free none = by_name (same_text e.node node) none
    where
      by_name : (c : Bool) → (if c then None else Some e) ≡ None
          → (if c then None else number) ≡ None
      by_name true f = refl
      by_name false f = (let g : Some e ≡ None = f in absurd (cc g))

-- ---- a node that only others call, connected

module _ (w : World) (node : Text)
    (callers : (n : ℕ) → Contains (callers_of w node) n → IsCaller node w n) where
  pub all_gone : AllLeft node w (callers_of w node)
  all_gone = all_left node (callers_of w node) (as_pairs (callers_of w node) (restarts_in_order w node)) w
      callers

  abbrev pub started_anew : World
  started_anew = with_links all_gone.mid (links_without all_gone.mid.links node)

  got : (n : ℕ) → map_of.get started_anew.links n
      ≡ cond (not (is_of node (map_of.get all_gone.mid.links n))) (map_of.get all_gone.mid.links n) None
  unfolding links_without
  got n =
      let p : ℕ → Bool = λ m. not (is_of node (map_of.get all_gone.mid.links m)) in
      map_of.get-retain_keys all_gone.mid.links p n (λ x e. ap p (sym (numbers.exact n x e)))

  pub named_node : (name : Text) → name ≡ node → same_text name node ≡ true
  named_node name same = ap (λ (z : Text). same_text z node) same ∙ ties_itself texts node

  -- a link of other nodes stays as it was
  pub kept_link : (n : ℕ) (link : Link) → IsLink w n link → same_text link.caller node ≡ false
      → same_text link.receiver node ≡ false
      → IsLink started_anew n link
  kept_link n link here caller receiver =
      let mid_is : map_of.get all_gone.mid.links n ≡ Some link = all_gone.others n (λ among.
      (let c = (callers_are_those_who_call w node n).0 among in
      let same : c.0 ≡ link = one_link w n c.0 link c.1 here in
      false≢true (sym receiver
      ∙ named_node link.receiver (ap (λ (l : Link). l.receiver) (sym same) ∙ c.2)))) ∙ here in
      let none_of : is_of node (map_of.get all_gone.mid.links n) ≡ false =
      ap (λ (o : Option Link). is_of node o) mid_is
      ∙ (ap (λ (c : Bool). cond c true (same_text link.receiver node)) caller ∙ receiver) in
      got n
      ∙ (ap (λ (c : Bool). cond (not c) (map_of.get all_gone.mid.links n) None) none_of ∙ mid_is)

  -- and what is there was there
  pub link_was : (n : ℕ) (link : Link) → IsLink started_anew n link
      → IsLink w n link × (same_text link.caller node ≡ false)
  link_was n link here = by_link (map_of.get all_gone.mid.links n) refl (sym (got n) ∙ here)
    where
      by_of : (l : Link) → map_of.get all_gone.mid.links n ≡ Some l
          → (c : Bool) → is_of node (Some l) ≡ c
          → cond (not c) (Some l) None ≡ Some link
          → IsLink w n link × (same_text link.caller node ≡ false)
      by_of l at true e f = (let g : None ≡ Some link = f in absurd (cc g))
      by_of l at false e f =
          let same : l ≡ link = same_Some l link f in
          let none_of : is_of node (Some link) ≡ false =
          subst (λ (z : Link). is_of node (Some z) ≡ false) same e in (
            sym (all_gone.others n (λ among.
                (let c = all_gone.called n among in
                let one : c.0 ≡ l = same_Some c.0 l (sym c.1 ∙ at) in
                false≢true (sym e ∙ either (same_text l.caller node)
                (named_node l.receiver (ap (λ (z : Link). z.receiver) (sym one) ∙ c.2))))))
                ∙ (at ∙ f),
            first_false (same_text link.caller node) none_of,
          )
        where
          either : (c : Bool) → same_text l.receiver node ≡ true
              → cond c true (same_text l.receiver node) ≡ true
          either true h = refl
          either false h = h

          first_false : (c : Bool) → cond c true (same_text link.receiver node) ≡ false → c ≡ false
          first_false true h = absurd (false≢true (sym h))
          first_false false h = refl

      by_link : (o : Option Link) → map_of.get all_gone.mid.links n ≡ o
          → cond (not (is_of node o)) o None ≡ Some link
          → IsLink w n link × (same_text link.caller node ≡ false)
      by_link None at f = (let g : None ≡ Some link = f in absurd (cc g))
      by_link (Some l) at f = by_of l at (is_of node (Some l)) refl f

  -- and its receiver is another node
  pub receiver_was : (n : ℕ) (link : Link) → IsLink started_anew n link
      → same_text link.receiver node ≡ false
  receiver_was n link here = by_link (map_of.get all_gone.mid.links n) (sym (got n) ∙ here)
    where
      second_false : (c d : Bool) → cond c true d ≡ false → d ≡ false
      second_false true d h = absurd (false≢true (sym h))
      second_false false d h = h

      by_of : (l : Link) (c : Bool) → is_of node (Some l) ≡ c
          → cond (not c) (Some l) None ≡ Some link
          → same_text link.receiver node ≡ false
      by_of l true e f = (let g : None ≡ Some link = f in absurd (cc g))
      by_of l false e f =
          let none_of : is_of node (Some link) ≡ false =
          subst (λ (z : Link). is_of node (Some z) ≡ false) (same_Some l link f) e in
          second_false (same_text link.caller node) (same_text link.receiver node) none_of

      by_link : (o : Option Link) → cond (not (is_of node o)) o None ≡ Some link
          → same_text link.receiver node ≡ false
      by_link None f = (let g : None ≡ Some link = f in absurd (cc g))
      by_link (Some l) f = by_of l (is_of node (Some l)) refl f

-- what stands at other nodes stays shown
module _ (ours : Ours) (plan : Network) (certificate : Certificate) (w : World) (node : Text)
    (own : ours node ≡ true)
    (callers : (n : ℕ) → Contains (callers_of w node) n → IsCaller node w n) where
  apart_from : (name : Text) → ours name ≡ false → same_text name node ≡ false
  apart_from name away = elim (same_or_not texts name node) [
    | inl same ↦ absurd (false≢true (sym away ∙ (ap ours same ∙ own)))
    | inr apart ↦ apart
  ]

  -- an end of another node is shown as before
  pub end_still : (at : Option ℕ) (side : Side) (name : Text) (k : LiveTerminal)
      → same_text name node ≡ false
      → ShowsBy ours plan certificate w at side name k
      → ShowsBy ours plan certificate (started_anew w node callers) at side name k
  end_still None Acceptor name k apart h = h
  end_still (Some m) Acceptor name k apart h = (
    h.0,
    (
      h.1.0,
      kept_link w node callers m h.1.0 h.1.1 (apart_from h.1.0.caller h.1.2.caller)
          (ap (λ (z : Text). same_text z node) h.1.2.receiver ∙ apart),
      h.1.2,
    ),
  )
  end_still at Requestor name k apart h = (
    h.0,
    h.1,
    (
      h.2.0,
      (
        h.2.1.0,
        kept_link w node callers h.0 h.2.1.0 h.2.1.1
            (ap (λ (z : Text). same_text z node) h.2.1.2.caller ∙ apart)
            (apart_from h.2.1.0.receiver h.2.1.2.receiver),
        h.2.1.2,
      ),
    ),
  )

-- ---- the node

module _ (ours : Ours) (plan : Network) (certificate : Certificate) (b : OwnWorld) (w : World)
    (shows : ShowsOwn ours plan certificate b w) (others : OthersHaveNone ours w) (node : Text)
    (own : ours node ≡ true) where
  abbrev left : OwnWorld
  left = record {
    time = b.time;
    desks = b.desks;
    ends = λ number. without_node node (b.ends number);
  }

  -- a link that one of ours called is to another product
  receiver_away : (n : ℕ) (link : Link) → IsLink w n link → ours link.caller ≡ true
      → ours link.receiver ≡ false
  receiver_away n link here mine =
      let a = shows.called n link here mine in
      let s : ShowsBy ours plan certificate w (shows.numbers a.0) Requestor a.1.node a.1.terminal =
      subst
      (λ (z : Side). ShowsBy ours plan certificate w (shows.numbers a.0) z a.1.node a.1.terminal) a.4
      (shows.ends a.0 a.1 a.2) in
      let number_is : s.0 ≡ n = same_Some s.0 n (sym s.1 ∙ a.3) in
      let at : IsLink w n s.2.1.0 = subst (λ (m : ℕ). IsLink w m s.2.1.0) number_is s.2.1.1 in
      let call : IsCallOf ours a.1.node link a.1.terminal.core = subst
      (λ (l : Link). IsCallOf ours a.1.node l a.1.terminal.core)
      (one_link w n s.2.1.0 link at here) s.2.1.2 in
      call.receiver

  own_callers : (n : ℕ) → Contains (callers_of w node) n → IsCaller node w n
  own_callers n among =
      let c = (callers_are_those_who_call w node n).0 among in (
        c.0,
        c.1,
        c.2,
        c.3,
        others c.0.caller (elim (cases_Bool (ours c.0.caller)) [
          | inl mine ↦
              absurd (false≢true (sym (receiver_away n c.0 c.1 mine) ∙ (ap ours c.2 ∙ own)))
          | inr away ↦ away
        ]),
      )

  abbrev gone : AllLeft node w (callers_of w node)
  gone = all_gone w node own_callers

  abbrev anew : World
  anew = started_anew w node own_callers

  -- the requestor of a link that is left
  still_called : (n : ℕ) (link : Link) → IsLink anew n link → ours link.caller ≡ true
      → (i : ℕ) × (e : OwnEnd) × (without_node node (b.ends i) ≡ Some e)
      × (left_number node (b.ends i) (shows.numbers i) ≡ Some n)
      × (e.side ≡ Requestor)
  still_called n link here mine =
      let was = link_was w node own_callers n link here in
      let a = shows.called n link was.0 mine in
      let s : ShowsBy ours plan certificate w (shows.numbers a.0) Requestor a.1.node a.1.terminal =
      subst
      (λ (z : Side). ShowsBy ours plan certificate w (shows.numbers a.0) z a.1.node a.1.terminal) a.4
      (shows.ends a.0 a.1 a.2) in
      let number_is : s.0 ≡ n = same_Some s.0 n (sym s.1 ∙ a.3) in
      let at : IsLink w n s.2.1.0 = subst (λ (m : ℕ). IsLink w m s.2.1.0) number_is s.2.1.1 in
      let same : s.2.1.0 ≡ link = one_link w n s.2.1.0 link at was.0 in
      let apart : same_text a.1.node node ≡ false =
      ap (λ (z : Text). same_text z node)
      (sym s.2.1.2.caller ∙ ap (λ (l : Link). l.caller) same) ∙ was.1 in (
        a.0,
        a.1,
        without_still node (b.ends a.0) a.1 a.2 apart,
        left_still node (b.ends a.0) a.1 (shows.numbers a.0) a.2 apart ∙ a.3,
        a.4,
      )

  -- books stay, and so do links of other nodes alone
  pub restarts_alone : (acts : List Act) × (v : World)
      × RunsAmong ours plan w acts plan v
      × ShowsOwn ours plan certificate left v
      × ((name : Text) → v.books name ≡ w.books name)
      × ((n : ℕ) (link : Link)
      → IsLink v n link
      → IsLink w n link
      × (same_text link.caller node ≡ false)
      × (same_text link.receiver node ≡ false))
  restarts_alone = (
    Own (Restart node gone.answers) ∷ [],
    anew,
    (tt, (anew, (gone.mid, gone.leave, refl), (refl, refl))),
    record {
      time = gone.rest.0 ∙ shows.time;
      desks = λ name its. (
        (shows.desks name its).0 ∙ sym (gone.books name),
        (shows.desks name its).1 ∙ sym (ap (λ (a : _). set.contains a name) gone.armed),
      );
      numbers = λ i. left_number node (b.ends i) (shows.numbers i);
      own = λ i e there. shows.own i e (without_is node (b.ends i) e there).0;
      ends = λ i e there.
          (let was = without_is node (b.ends i) e there in
          subst (λ (o : Option ℕ). ShowsBy ours plan certificate anew o e.side e.node e.terminal)
          (sym (left_still node (b.ends i) e (shows.numbers i) was.0 was.1))
          (end_still ours plan certificate w node own own_callers (shows.numbers i) e.side e.node e.terminal was.1 (shows.ends i e was.0)));
      apart = λ i j n at also. shows.apart i j n (left_was node (b.ends i) (shows.numbers i) n at)
          (left_was node (b.ends j) (shows.numbers j) n also);
      known = λ i n at. (
          let few : n ≤ w.opened =
          shows.known i n (left_was node (b.ends i) (shows.numbers i) n at) in
          subst (λ (m : ℕ). n ≤ m) (sym gone.rest.2) few);
      free = λ i none. left_free node (b.ends i) (shows.numbers i) (λ e. shows.free i e) none;
      called = λ n link there its. still_called n link there its;
    },
    λ name. gone.books name,
    λ n link here.
        (let was = link_was w node own_callers n link here in (was.0, was.1, receiver_was w node own_callers n link here)),
  )

  pub restart_is_shown : (acts : List Act) × (v : World)
      × RunsAmong ours plan w acts plan v
      × ShowsOwn ours plan certificate left v
  restart_is_shown = (restarts_alone.0, restarts_alone.1, restarts_alone.2, restarts_alone.3)
