-- Journals that match have the headline.
use Rattle.std.specs.Prelude.{◌≡◌, ℕ, zero, suc, ◌+◌, ◌≤◌, true, false, List, [], ◌∷◌, ◌++◌, length, Contains, Some}
use Rattle.std.proofs.Common.{refl, sym, ap, subst, ◌∙◌, arith}
use mathlib.Core.Logic.{inl, inr}
use Rattle.std.specs.Ordering.{nat_cmp, eq_by_cmp}
use Rattle.std.specs.FinMap as map
use Rattle.dr_base.specs.Texts.{Text, text_cmp}
use Rattle.dr_route.specs.Routes.{local}
use Rattle.dr_plan_model.specs.Networks.{Network}
use Rattle.dr_plan_model.specs.Walks.{IsReached, IsWalk, Sends}
use Rattle.dr_plan_model.proofs.Gathered.{nothing_in_nil}
use Rattle.dr_plan_sound.specs.Soundness.{IsSound}
use Rattle.dr_ledger.specs.declared.item.Instance.{Instance}
use Rattle.dr_ledger.specs.declared.item.Progress.TheVariants.{Done}
use Rattle.dr_ledger.specs.Books.{Book, Line, Fold}
use Rattle.dr_ledger.specs.OneNode.{HasSucceededSince}
use Rattle.dr_ledger.specs.Pairs.{pair_cmp}
use Rattle.dr_ledger.proofs.Maps.{texts, cases_of, same_or_not, ties_itself}
use Rattle.dr_ledger.proofs.Since.{nothing_taken}
use Rattle.dr_ledger.proofs.Succeeded.{none_yet}
use Rattle.dr_world_model.specs.Among.{AreOurs, HasEntry, Ours, all_ours}
use Rattle.dr_world_model.specs.Claims.{IsToSend}
use Rattle.dr_world_model.proofs.AdoptionsKept.{empty_right, no_row}
use Rattle.dr_world_model.proofs.AmongActs.{safe_among}
use Rattle.dr_world_model.proofs.AmongAll.{all_ours_is_the_headline}
use Rattle.dr_world_model.proofs.AmongSafe.{IsFairAmong, IsSafeAmong, PassedBy, ReachedBy}
use Rattle.dr_world_model.proofs.Keeping.{IsRight, Took}
use Rattle.dr_world_model.proofs.Walking.{last_on, walk_on}
use Rattle.dr_world_journals.specs.Journals.{AreHistories, NodeBooks, Match, stood, until_adoption, world_of}
use Rattle.dr_world_journals.specs.Theorem.{AllJournalsShowTheHeadline, MatchingJournalsShowTheHeadline}
use Rattle.dr_world_journals.proofs.Back.{walks_end}
use Rattle.dr_world_journals.proofs.OneHistory.{OnBy, Stands, stands_since}

pub differ : (a b : Text) → eq_by_cmp text_cmp a b ≡ false → a ≡ b → ⊥
differ a b f e = (let t : true ≡ false = sym (ties_itself texts b) ∙ (ap (λ x. eq_by_cmp text_cmp x b) (sym e) ∙ f) in cc t)

own_push : (ours : Ours) (over : List Text) (to : Text) → AreOurs ours over → ours to ≡ true → AreOurs ours (over ++ to ∷ [])
own_push ours [] to own is = (is, tt)
own_push ours (next ∷ over) to own is = (own.0, own_push ours over to own.1 is)

module _ (ours : Ours) (plan : Network) (sound : IsSound plan) (books : NodeBooks) (h : AreHistories ours plan books) (m : Match ours plan books) where
  stands : (name : Text) → ours name ≡ true → Stands plan name (stood (books name)) (books name)
  stands name own = stands_since plan name (until_adoption (books name).lines) (books name) (h.own name own) (λ to item s. h.fit name to item own s)

  -- what has a line is ours
  is_ours : (name caller : Text) (item : Instance) → Took (books name) caller item → ours name ≡ true
  is_ours name caller item t = elim (cases_of (ours name)) [
    | inl own ↦ own
    | inr other ↦ absurd (nothing_taken caller item (subst (λ b. Took b caller item) (h.others name other) t))
  ]

  stood_ours : (name to : Text) (item : Instance) → IsToSend (stood (books name)) item to → ours name ≡ true
  stood_ours name to item s = elim (cases_of (ours name)) [
    | inl own ↦ own
    | inr other ↦ (
        let P : Book → Type 0 = λ b. IsToSend (stood b) item to in
        let none = subst P (h.others name other) s in
        absurd (no_row none.row (sym (map.get-empty pair_cmp (item.uid, to)) ∙ none.at))
        )
  ]

  -- ---- where it began
  -- an arrival entered ours here, or stood, or is one hop behind another
  began : (name caller : Text) (item : Instance) → Took (books name) caller item →
      ((before : Text) → Took (books caller) before item → Sends plan caller before item.key name → HasEntry ours plan (world_of books) caller name item) → HasEntry ours plan (world_of books) caller name item
  began name caller item taken further = elim (same_or_not texts caller local) [
    | inl same ↦ (
        let P : Text → Type 0 = λ c. Took (books name) c item in
        record { first = caller; site = name; origin = inl (same, subst P same taken); over = []; walk = tt; last_is = refl; own = tt }
        )
    | inr other ↦ elim (cases_of (ours caller)) [
      | inr theirs ↦ record { first = caller; site = name; origin = inr (inl (theirs, taken)); over = []; walk = tt; last_is = refl; own = tt }
      | inl near ↦ elim (m.arrivals name caller item (is_ours name caller item taken) near (differ caller local other) taken) [
        | inr stood ↦ record { first = caller; site = name; origin = inr (inr stood); over = []; walk = tt; last_is = refl; own = tt }
        | inl a ↦ further a.0 a.1 a.2
      ]
    ]
  ]

  -- where a walk goes on from here that is as long as any, there is nowhere to go back to
  back : (fuel most : ℕ) (name caller : Text) (item : Instance) (over : List Text) →
      ((c n : Text) (walk : List Text) → IsReached plan item.key c n → IsWalk plan item.key c n walk → length walk ≤ most) →
      Took (books name) caller item → IsWalk plan item.key caller name over → most ≤ length over + fuel → HasEntry ours plan (world_of books) caller name item
  back zero most name caller item over ends taken walk far = began name caller item taken (λ before t sends. (
      let reached = (stands caller (is_ours caller before item t)).right.reached before item t in
      let longer : length (name ∷ over) ≤ most = ends before caller (name ∷ over) reached (sends, walk) in
      absurd (too_long over most longer far)
      ))
    where
      too_long : (xs : List Text) (n : ℕ) → suc (length xs) ≤ n → n ≤ length xs + zero → ⊥
      too_long xs n a b = omega arith
  back (suc fuel) most name caller item over ends taken walk far = began name caller item taken (λ before t sends. (
      let e = back fuel most caller before item (name ∷ over) ends t (sends, walk) (one_more over most fuel far) in
      record {
        first = e.first;
        site = e.site;
        origin = e.origin;
        over = e.over ++ name ∷ [];
        walk = walk_on plan item.key e.over e.first e.site (before, caller) name e.walk e.last_is sends;
        last_is = last_on plan item.key e.over e.first e.site (before, caller) name e.last_is;
        own = own_push ours e.over name e.own (is_ours name caller item taken);
      }
      ))
    where
      one_more : (xs : List Text) (n f : ℕ) → n ≤ length xs + suc f → n ≤ suc (length xs) + f
      one_more xs n f a = omega arith

  -- ---- what was sent on
  reached : (name to : Text) (item : Instance) → ours name ≡ true → HasSucceededSince (books name).lines item to → ReachedBy ours (world_of books) name (books name) item to
  reached name to item own s = elim (cases_of (ours to)) [ inl near ↦ inl (near, m.successes name to item own near s) | inr far ↦ inr (far, s) ]

  passed : (name to : Text) (item : Instance) → ours name ≡ true → OnBy plan name (books name) item to → PassedBy ours plan (world_of books) name (books name) item to
  passed name to item own (inl goes) = inl goes
  passed name to item own (inr (inl given)) = inr (inl given)
  passed name to item own (inr (inr s)) = inr (inr (reached name to item own s))

  fair_line : (name : Text) (line : Line) → Contains (books name).lines line → IsFairAmong ours line
  fair_line name line at uid dest outcome now near is = elim (cases_of (ours name)) [
    | inl own ↦ m.fair name uid dest outcome now own near (subst (Contains (books name).lines) is at)
    | inr other ↦ (
        let P : Book → Type 0 = λ b. Contains b.lines line in
        absurd (nothing_in_nil line (subst P (h.others name other) at))
        )
  ]

  pub match_safe : IsSafeAmong ours plan (world_of books)
  match_safe = record {
    books = λ name. elim (cases_of (ours name)) [
      | inl own ↦ (stands name own).right
      | inr other ↦ subst (IsRight plan name (stood (books name))) (sym (h.others name other)) (empty_right plan name (stood (books name)))
    ];
    folds = λ name. elim (cases_of (ours name)) [
      | inl own ↦ (stands name own).fold
      | inr other ↦ (let P : Book → Type 0 = λ b. b ≡ Fold b.lines in subst P (sym (h.others name other)) refl)
    ];
    others = λ name other. (h.others name other);
    lines = fair_line;
    sources = λ name caller item taken. (
        let end = walks_end plan item.key sound in
        back end.0 end.0 name caller item [] end.1 taken tt (no_less end.0)
        );
    sent = λ name caller to item taken sends. (
        let own = is_ours name caller item taken in
        passed name to item own ((stands name own).sent caller to item taken sends)
        );
    carried = λ name to item stood. (
        let own = stood_ours name to item stood in
        (h.fit name to item own stood, passed name to item own ((stands name own).carried to item stood))
        );
    done = λ name to item row has. elim (cases_of (ours name)) [
      | inl own ↦ reached name to item own ((stands name own).done to item row has)
      | inr other ↦ (
          let P : Book → Type 0 = λ b. map.get b.rows (item.uid, to) ≡ Some Done in
          absurd (no_row Done (sym (map.get-empty pair_cmp (item.uid, to)) ∙ subst P (h.others name other) row))
          )
    ];
    answered = λ name to item near s. elim (cases_of (ours name)) [
      | inl own ↦ m.successes name to item own near s
      | inr other ↦ (
          let P : Book → Type 0 = λ b. HasSucceededSince b.lines item to in
          absurd (none_yet item to (subst P (h.others name other) s))
          )
    ];
    links = λ number link at. absurd (no_row link (sym (map.get-empty nat_cmp number) ∙ at));
  }
    where
      no_less : (n : ℕ) → n ≤ 0 + n
      no_less n = omega arith

pub matching_journals_show_the_headline : MatchingJournalsShowTheHeadline
matching_journals_show_the_headline ours plan sound books h m = safe_among ours plan (world_of books) sound (match_safe ours plan sound books h m)

pub all_journals_show_the_headline : AllJournalsShowTheHeadline
all_journals_show_the_headline plan sound books h m =
    all_ours_is_the_headline.claims plan (world_of books) (matching_journals_show_the_headline all_ours plan sound books h m)
