-- What a person gave up, and one line more.
use Rattle.std.specs.Prelude.{◌≡◌, ◌≢◌, ◌⊎◌, ℕ, Bool, true, false, List, [], ◌∷◌, ◌++◌, Contains, Some}
use Rattle.std.proofs.Common.{refl, sym, ap, subst, ◌∙◌}
use Rattle.std.proofs.lemmas.List.{append_assoc}
use Rattle.std.proofs.lemmas.List.Elements.{Contains-append_left, Contains-append_right, Contains-push_cases}
use mathlib.Core.Logic.{inl, inr}
use Rattle.std.specs.FinMap as map
use Rattle.std.specs.Ordering.{eq_by_cmp}
use Rattle.dr_base.specs.Texts.{Text, text_cmp}
use Rattle.dr_plan_model.specs.Networks.{Network}
use Rattle.dr_plan_model.specs.Walks.{Sends}
use Rattle.dr_plan_model.proofs.Gathered.{nothing_in_nil, Contains-cons_cases, Contains-here, Contains-there}
use Rattle.dr_ledger.specs.declared.item.Instance.{Instance}
use Rattle.dr_ledger.specs.Books.{Book, Line, Arrival, Repeat, Settling, Requeuing, Dropping, Forgetting, Adoption, Fold, since_adoption, since_from, with_line}
use Rattle.dr_ledger.specs.OneNode.{IsAcknowledged}
use Rattle.dr_ledger.specs.PlanRoutes.{targets}
use Rattle.dr_ledger.proofs.Maps.{texts, same_or_not, ties_itself}
use Rattle.dr_ledger.proofs.Ones.{items_or_not}
use Rattle.dr_ledger.proofs.PlanRouting.{targets_are_sent_to}
use Rattle.dr_ledger.proofs.Since.{Acknowledges, IsPlain}
use Rattle.dr_world_model.specs.Claims.{WasGivenUp}

-- the text is in the list, or not
pub among_or_not : (all : List Text) (one : Text) → Contains all one ⊎ (Contains all one → ⊥)
among_or_not [] one = inr (λ h. nothing_in_nil one h)
among_or_not (first ∷ more) one = elim (same_or_not texts first one) [
  | inl same ↦ inl (subst (Contains (first ∷ more)) same (Contains-here first more))
  | inr other ↦ elim (among_or_not more one) [
    | inl later ↦ inl (Contains-there first more one later)
    | inr none ↦ inr (λ h. elim (Contains-cons_cases first more one h) [
      | inl same ↦ differs first one other same
      | inr later ↦ none later
    ])
  ]
]
  where
    differs : (a b : Text) → eq_by_cmp text_cmp a b ≡ false → a ≡ b → ⊥
    differs a b f e = (let t : true ≡ false = sym (ties_itself texts b) ∙ (ap (λ x. eq_by_cmp text_cmp x b) (sym e) ∙ f) in cc t)

-- a further line acknowledges what was acknowledged before, or does so itself
acknowledged_from : (lines : List Line) (line : Line) (caller : Text) (item : Instance) → IsAcknowledged (lines ++ line ∷ []) caller item → IsAcknowledged lines caller item ⊎ Acknowledges line caller item
acknowledged_from lines line caller item (inl a) = elim (Contains-push_cases lines line (Arrival caller item a.0 a.1) a.2) [
  | inl was ↦ inl (inl (a.0, a.1, was))
  | inr is ↦ inr (inl (a.0, a.1, is))
]
acknowledged_from lines line caller item (inr r) = elim (Contains-push_cases lines line (Repeat caller item) r) [
  | inl was ↦ inl (inr was)
  | inr is ↦ inr (inr is)
]

nothing_acknowledged : (caller : Text) (item : Instance) → IsAcknowledged [] caller item → ⊥
nothing_acknowledged caller item (inl a) = nothing_in_nil (Arrival caller item a.0 a.1) a.2
nothing_acknowledged caller item (inr r) = nothing_in_nil (Repeat caller item) r

-- an arrival acknowledges one item to one caller
pub arrival_to : (c caller : Text) (i item : Instance) (to : List Text) (keep : Bool) → Acknowledges (Arrival caller item to keep) c i → (c ≡ caller) × (i ≡ item)
arrival_to c caller i item to keep (inl a) = inside a.2
  where
    inside : {all : List Text} {k : Bool} → Arrival caller item to keep ≡ Arrival c i all k → (c ≡ caller) × (i ≡ item)
    inside e = (cc, cc)
arrival_to c caller i item to keep (inr r) = absurd (let e : Arrival caller item to keep ≡ Repeat c i = r in cc e)

-- so does a repeat
pub repeat_to : (c caller : Text) (i item : Instance) → Acknowledges (Repeat caller item) c i → (c ≡ caller) × (i ≡ item)
repeat_to c caller i item (inl a) = absurd (let e : Repeat caller item ≡ Arrival c i a.0 a.1 = a.2 in cc e)
repeat_to c caller i item (inr r) = (let e : Repeat caller item ≡ Repeat c i = r in (cc, cc))

targets_of : {c caller : Text} {i item : Instance} {to all : List Text} {keep k : Bool} → Arrival caller item to keep ≡ Arrival c i all k → all ≡ to
targets_of e = cc

module _ (plan : Network) (name : Text) where
  -- one line more leaves it so, where it acknowledges the item to nobody from whom it goes there
  still : (lines : List Line) (line : Line) (item : Instance) (to : Text) → line ≢ Adoption →
      ((caller : Text) (all : List Text) (keep : Bool) → line ≡ Arrival caller item all keep → Contains all to → ⊥) →
      ((caller : Text) → Sends plan name caller item.key to → Acknowledges line caller item → ⊥) →
      WasGivenUp plan name lines item to → WasGivenUp plan name (lines ++ line ∷ []) item to
  still lines line item to plain apart quiet g =
      let d = g.dropped.dropped in
      record {
        dropped = record {
          dropped = record {
            before = d.before;
            now = d.now;
            later = d.later ++ line ∷ [];
            at = ap (λ (ls : List Line). ls ++ line ∷ []) d.at ∙ append_assoc d.before (Dropping item.uid to d.now ∷ d.later) (line ∷ []);
            had = d.had;
            last = λ caller all keep among goes. elim (Contains-push_cases d.later line (Arrival caller item all keep) among) [
              | inl was ↦ d.last caller all keep was goes
              | inr is ↦ apart caller all keep is goes
            ];
          };
          since = λ h. elim (Contains-push_cases d.later line Adoption h) [ inl was ↦ g.dropped.since was | inr is ↦ plain is ];
        };
        last = λ caller sends a. elim (acknowledged_from d.later line caller item a) [
          | inl was ↦ g.last caller sends was
          | inr now ↦ quiet caller sends now
        ];
      }

  -- one line more that acknowledges nothing
  pub given_up_on : (lines : List Line) (line : Line) (item : Instance) (to : Text) → line ≢ Adoption → ((c : Text) (i : Instance) → Acknowledges line c i → ⊥) →
      WasGivenUp plan name lines item to → WasGivenUp plan name (lines ++ line ∷ []) item to
  given_up_on lines line item to plain silent g =
      still lines line item to plain (λ caller all keep is goes. silent caller item (inl (all, keep, is))) (λ caller sends a. silent caller item a) g

  -- the line by which it is given up
  pub given_up_now : (lines : List Line) (b : Book) → b ≡ Fold lines → (uid dest : Text) (now : ℕ) (item : Instance) (to : Text) → item.uid ≡ uid → to ≡ dest → map.get b.items item.uid ≡ Some item →
      WasGivenUp plan name (lines ++ Dropping uid dest now ∷ []) item to
  given_up_now lines b fold uid dest now item to u d has = record {
    dropped = record {
      dropped = record {
        before = lines;
        now = now;
        later = [];
        at = (λ j. lines ++ Dropping (sym u j) (sym d j) now ∷ []);
        had = (let P : Book → Type 0 = λ x. map.get x.items item.uid ≡ Some item in subst P fold has);
        last = λ caller all keep among goes. nothing_in_nil (Arrival caller item all keep) among;
      };
      since = λ h. nothing_in_nil Adoption h;
    };
    last = λ caller sends a. nothing_acknowledged caller item a;
  }

  -- the line of an arrival leaves it so, or is of the item, which goes there
  pub given_up_arrived : (caller : Text) (one : Instance) (keep : Bool) (lines : List Line) (item : Instance) (to : Text) → WasGivenUp plan name lines item to →
      ((item ≡ one) × Sends plan name caller item.key to) ⊎ WasGivenUp plan name (lines ++ Arrival caller one (targets plan name caller one.key) keep ∷ []) item to
  given_up_arrived caller one keep lines item to g =
      let all = targets plan name caller one.key in
      let line = Arrival caller one all keep in
      let plain : line ≢ Adoption = λ e. cc in
      elim (items_or_not item one) [
        | inr other ↦ inr (still lines line item to plain
            (λ c more k is goes. other (arrival_to c caller item one all keep (inl (more, k, is))).1)
            (λ c sends a. other (arrival_to c caller item one all keep a).1)
            g)
        | inl same ↦ elim (among_or_not all to) [
          | inl goes ↦ inl (same, (let P : Instance → Type 0 = λ i. Sends plan name caller i.key to in subst P (sym same) ((targets_are_sent_to plan name caller one.key to).0 goes)))
          | inr away ↦ inr (still lines line item to plain
              (λ c more k is goes. away (subst (λ ls. Contains ls to) (targets_of is) goes))
              (λ c sends a.
              let P : Text × Instance → Type 0 = λ p. Sends plan name p.0 p.1.key to in
              let e = arrival_to c caller item one all keep a in
              away ((targets_are_sent_to plan name caller one.key to).1 (subst P (λ j. (e.0 j, same j)) sends)))
              g)
        ]
      ]

  -- so does that of a repeat
  pub given_up_repeated : (caller : Text) (one : Instance) (lines : List Line) (item : Instance) (to : Text) → WasGivenUp plan name lines item to →
      ((item ≡ one) × Sends plan name caller item.key to) ⊎ WasGivenUp plan name (lines ++ Repeat caller one ∷ []) item to
  given_up_repeated caller one lines item to g =
      let line = Repeat caller one in
      let plain : line ≢ Adoption = λ e. cc in
      let apart : (c : Text) (all : List Text) (k : Bool) → line ≡ Arrival c item all k → Contains all to → ⊥ = λ c all k is goes. (let e : Repeat caller one ≡ Arrival c item all k = is in cc e) in
      elim (items_or_not item one) [
        | inr other ↦ inr (still lines line item to plain apart (λ c sends a. other (repeat_to c caller item one a).1) g)
        | inl same ↦ elim (among_or_not (targets plan name caller item.key) to) [
          | inl goes ↦ inl (same, (targets_are_sent_to plan name caller item.key to).0 goes)
          | inr away ↦ inr (still lines line item to plain apart
              (λ c sends a. away ((targets_are_sent_to plan name caller item.key to).1 (subst (λ x. Sends plan name x item.key to) (repeat_to c caller item one a).0 sends)))
              g)
        ]
      ]

-- ---- the lines since the last adoption
plain_or_not : (line : Line) → (line ≡ Adoption) ⊎ IsPlain line
plain_or_not (Arrival caller item to keep) = inr (λ since. refl)
plain_or_not (Repeat caller item) = inr (λ since. refl)
plain_or_not (Settling uid dest outcome now) = inr (λ since. refl)
plain_or_not (Requeuing uid dest) = inr (λ since. refl)
plain_or_not (Dropping uid dest now) = inr (λ since. refl)
plain_or_not (Forgetting uid) = inr (λ since. refl)
plain_or_not Adoption = inl refl

since_append : (past lines since : List Line) → since_from since (past ++ lines) ≡ since_from (since_from since past) lines
since_append [] lines since = refl
since_append (line ∷ past) lines since = since_append past lines (with_line since line)

-- what stands there stands there still, where no adoption follows
stands_still : (later since : List Line) (one : Line) → (Contains later Adoption → ⊥) → Contains since one → Contains (since_from since later) one
stands_still [] since one none among = among
stands_still (line ∷ later) since one none among = elim (plain_or_not line) [
  | inl is ↦ absurd (none (subst (Contains (line ∷ later)) is (Contains-here line later)))
  | inr plain ↦ stands_still later (with_line since line) one (λ h. none (Contains-there line later Adoption h))
      (subst (λ ls. Contains ls one) (sym (plain since)) (Contains-append_left since (line ∷ []) one among))
]

-- what was given up has its line since the last adoption
pub dropped_since : (plan : Network) (name : Text) (lines : List Line) (item : Instance) (to : Text) → WasGivenUp plan name lines item to → (now : ℕ) × Contains (since_adoption lines) (Dropping item.uid to now)
dropped_since plan name lines item to g =
    let d = g.dropped.dropped in
    let line = Dropping item.uid to d.now in
    let since = since_adoption d.before in
    let all : since_adoption lines ≡ since_from (since ++ line ∷ []) d.later = ap since_adoption d.at ∙ since_append d.before (line ∷ d.later) [] in
    (d.now, subst (λ ls. Contains ls line) (sym all) (stands_still d.later (since ++ line ∷ []) line g.dropped.since (Contains-append_right since (line ∷ []) line (Contains-here line []))))
