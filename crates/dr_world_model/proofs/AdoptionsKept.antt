-- What an adoption keeps: over the next plan the world is safe, and nothing that is kept is lost.
use Rattle.std.specs.Prelude.{◌≡◌, ◌⊎◌, Bool, true, false, cond, not, List, [], ◌∷◌, Contains, Option, None, Some}
use Rattle.std.proofs.Common.{refl, sym, ap, subst, ◌∙◌}
use mathlib.Core.Logic.{inl, inr}
use Rattle.std.specs.Ordering.{nat_cmp, eq_by_cmp}
use Rattle.std.specs.FinMap as map
use Rattle.std.specs.FinMap.{FinMap}
use Rattle.std.specs.FinSet as set
use Rattle.dr_base.specs.Texts.{Text, text_cmp}
use Rattle.dr_plan_model.specs.declared.plan.Node.{Node}
use Rattle.dr_plan_model.specs.Networks.{Network}
use Rattle.dr_plan_model.specs.Walks.{Goes}
use Rattle.dr_plan_model.proofs.Gathered.{nothing_in_nil, Contains-cons_cases, Contains-here, Contains-there}
use Rattle.dr_ledger.specs.declared.item.Instance.{Instance}
use Rattle.dr_ledger.specs.declared.item.Progress.{Progress}
use Rattle.dr_ledger.specs.declared.item.Progress.TheVariants.{Waiting, Held, Done, Dropped}
use Rattle.dr_ledger.specs.Pairs.{pair_cmp}
use Rattle.dr_ledger.specs.Books.{Book, Line, Adoption, after, empty_book, is_queued, is_over_row, not_over, Fold}
use Rattle.dr_ledger.specs.OneNode.{HasSucceededSince}
use Rattle.dr_ledger.proofs.Folding.{fold_after}
use Rattle.dr_ledger.proofs.Succeeded.{none_since, none_yet}
use Rattle.dr_ledger.proofs.Growing.{inside as some_inside, not_over_is}
use Rattle.dr_world_model.specs.Worlds.{World, Link}
use Rattle.dr_world_model.specs.Events.{HasNode}
use Rattle.dr_world_model.specs.Runs.{Adopts}
use Rattle.dr_ledger.proofs.Maps.{texts, same_or_not, ties_itself}
use Rattle.dr_ledger.proofs.Since.{none_taken, nothing_taken}
use Rattle.dr_world_model.specs.Claims.{IsFairLine, IsToSend}
use Rattle.dr_world_model.proofs.Keeping.{IsRight, Took, fair_push}
use Rattle.dr_world_model.proofs.Safety.{IsPassedOn, IsSafe}

-- ---- rows that stand
found : (o : Option Progress) (x : Progress) → cond (not (is_over_row o)) o None ≡ Some x → (o ≡ Some x) × (is_queued x ≡ true)
found None x h = absurd (let e : ⊥ = cc in e)
found (Some Done) x h = absurd (let e : ⊥ = cc in e)
found (Some Dropped) x h = absurd (let e : ⊥ = cc in e)
found (Some (Waiting tries due)) x h = (h, sym (ap is_queued (some_inside (Waiting tries due) x h)))
found (Some (Held cause)) x h = (h, sym (ap is_queued (some_inside (Held cause) x h)))

pub was_queued : (rows : FinMap pair_cmp Progress) (at : Text × Text) (row : Progress) → map.get (not_over rows) at ≡ Some row → (map.get rows at ≡ Some row) × (is_queued row ≡ true)
was_queued rows at row h = found (map.get rows at) row (sym (not_over_is rows at) ∙ h)

-- ---- books
not_there : (at : Text × Text) → set.contains (set.empty {R = pair_cmp}) at ≡ true → ⊥
not_there at h = let e = set.contains-empty pair_cmp at in cc

pub no_row : {X : Type 0} (x : X) → None ≡ Some x → ⊥
no_row x e = cc

pub adopted_right : (next : Network) (name : Text) (plan : Network) (stood : Book) (b : Book) → IsRight plan name stood b →
    ((uid to : Text) (row : Progress) (item : Instance) → map.get b.rows (uid, to) ≡ Some row → is_queued row ≡ true → map.get b.items uid ≡ Some item → Goes next item.key name to) →
    IsRight next name (after Adoption b) (after Adoption b)
adopted_right next name plan stood b right fit = record {
  named = right.named;
  known = λ caller uid h. absurd (not_there (caller, uid) h);
  noted = λ caller item h. absurd (not_there (caller, item.uid) h.arrival);
  reached = λ caller item h. absurd (none_taken b.lines caller item h);
  kept = λ caller item h k. absurd (none_taken b.lines caller item h);
  from = λ uid to row h.
      let q = was_queued b.rows (uid, to) row h in
      let f = right.from uid to row q.0 in
      record {
        item = f.item;
        named = f.named;
        has = f.has;
        goes = fit uid to row f.item q.0 q.1 (ap (map.get b.items) (sym f.named) ∙ f.has);
        why = inr (record { row = row; at = ap (λ u. map.get (not_over b.rows) (u, to)) f.named ∙ h; has = f.has });
      };
  undropped = λ caller to item h sends. absurd (not_there (caller, item.uid) h.arrival);
}

pub empty_right : (plan : Network) (name : Text) (stood : Book) → IsRight plan name stood empty_book
empty_right plan name stood = record {
  named = λ uid item h. absurd (no_row item (sym (map.get-empty text_cmp uid) ∙ h));
  known = λ caller uid h. absurd (not_there (caller, uid) h);
  noted = λ caller item h. absurd (not_there (caller, item.uid) h.arrival);
  reached = λ caller item h. absurd (nothing_taken caller item h);
  kept = λ caller item h k. absurd (nothing_taken caller item h);
  from = λ uid to row h. absurd (no_row row (sym (map.get-empty pair_cmp (uid, to)) ∙ h));
  undropped = λ caller to item h sends. absurd (not_there (caller, item.uid) h.arrival);
}

pub queued_not_done : (row : Progress) → is_queued row ≡ true → row ≡ Done → ⊥
queued_not_done row q e = (let f : false ≡ true = ap is_queued (sym e) ∙ q in cc f)

-- ---- nodes
no_way : (b : Bool) → b ≡ true → b ≡ false → ⊥
no_way b t f = cc

differ : (a b : Text) → eq_by_cmp text_cmp a b ≡ false → a ≡ b → ⊥
differ a b f e = no_way _ (subst (λ x. eq_by_cmp text_cmp a x ≡ true) e (ties_itself texts a)) f

node_in : (nodes : List Node) (name : Text) → ((node : Node) × Contains nodes node × (node.name ≡ name)) ⊎ ((node : Node) → Contains nodes node → node.name ≡ name → ⊥)
node_in [] name = inr (λ node among is. nothing_in_nil node among)
node_in (first ∷ nodes) name = elim (same_or_not texts first.name name) [
  | inl here ↦ inl (first, Contains-here first nodes, here)
  | inr other ↦ elim (node_in nodes name) [
    | inl later ↦ inl (later.0, Contains-there first nodes later.0 later.1, later.2)
    | inr none ↦ inr (λ node among is. elim (Contains-cons_cases first nodes node among) [
      | inl same ↦ differ first.name name other (ap (λ (n : Node). n.name) same ∙ is)
      | inr later ↦ none node later is
    ])
  ]
]

-- a name is that of a node, or not
pub node_or_not : (plan : Network) (name : Text) → HasNode plan name ⊎ (HasNode plan name → ⊥)
node_or_not plan name = elim (node_in plan.nodes name) [ inl here ↦ inl (here.0, (here.1, here.2)) | inr none ↦ inr (λ h. none h.0 h.1.0 h.1.1) ]

-- ---- worlds
-- a book in which nothing was acknowledged and each row is queued
record IsFresh (next : Network) (name : Text) (b : Book) : Type 0 where
  right : IsRight next name b b
  none : (caller : Text) (item : Instance) → Took b caller item → ⊥
  queued : (at : Text × Text) (row : Progress) → map.get b.rows at ≡ Some row → is_queued row ≡ true
  lines : (line : Line) → Contains b.lines line → IsFairLine line
  fold : b ≡ Fold b.lines
  unanswered : (item : Instance) (to : Text) → HasSucceededSince b.lines item to → ⊥

module _ (plan next : Network) (w new : World) (safe : IsSafe plan w) (a : Adopts plan w next new) where
  fresh_node : (name : Text) → HasNode plan name → IsFresh next name (new.books name)
  fresh_node name is = subst (IsFresh next name) (sym (a.books name is)) (record {
    right = adopted_right next name plan (w.stood name) (w.books name) (safe.books name) (a.may.fit name);
    none = λ caller item h. none_taken (w.books name).lines caller item h;
    queued = λ at row h. (was_queued (w.books name).rows at row h).1;
    lines = λ line h. elim (fair_push (w.books name).lines Adoption tt line h) [ inl was ↦ safe.lines name line was | inr is ↦ is ];
    fold = fold_after Adoption (w.books name) (after Adoption (w.books name)) (safe.folds name) refl;
    unanswered = λ item to h. none_since (w.books name).lines item to h;
  })

  fresh_other : (name : Text) → (HasNode plan name → ⊥) → IsFresh next name (new.books name)
  fresh_other name stranger = subst (IsFresh next name) (sym (a.joined name stranger)) (record {
    right = empty_right next name empty_book;
    none = λ caller item h. nothing_taken caller item h;
    queued = λ at row h. absurd (no_row row (sym (map.get-empty pair_cmp at) ∙ h));
    lines = λ line h. absurd (nothing_in_nil line h);
    fold = refl;
    unanswered = λ item to h. none_yet item to h;
  })

  fresh : (name : Text) → IsFresh next name (new.books name)
  fresh name = elim (node_or_not plan name) [ inl is ↦ fresh_node name is | inr stranger ↦ fresh_other name stranger ]

  -- a row that stands is queued
  stands : (name to : Text) (item : Instance) → IsToSend (new.books name) item to → Goes next item.key name to × IsPassedOn next new name item to
  stands name to item s =
      let f = (fresh name).right.from item.uid to s.row s.at in
      let same : f.item ≡ item = some_inside f.item item (sym f.has ∙ (ap (map.get (new.books name).items) f.named ∙ s.has)) in (
        subst (λ (i : Instance). Goes next i.key name to) same f.goes,
        inl (record { row = s.row; queued = (fresh name).queued (item.uid, to) s.row s.at; at = s.at; has = s.has }),
      )

  pub adoption_kept : IsSafe next new
  adoption_kept =
      let P : (Text → Book) → Type 0 = λ stood. (name : Text) → IsRight next name (stood name) (new.books name) in
      let Q : (Text → Book) → Type 0 = λ stood. (name to : Text) (item : Instance) → IsToSend (stood name) item to → Goes next item.key name to × IsPassedOn next new name item to in
      record {
        books = subst P (sym a.stood) (λ name. (fresh name).right);
        lines = λ name. (fresh name).lines;
        folds = λ name. (fresh name).fold;
        answered = λ name to item h. absurd ((fresh name).unanswered item to h);
        sources = λ name caller item h. absurd ((fresh name).none caller item h);
        sent = λ name caller to item h s. absurd ((fresh name).none caller item h);
        carried = subst Q (sym a.stood) stands;
        done = λ name to item h i. absurd (queued_not_done Done ((fresh name).queued (item.uid, to) Done h) refl);
        links = λ number link h. absurd (no_row link (sym (map.get-empty nat_cmp number) ∙ subst (λ (ls : FinMap nat_cmp Link). map.get ls number ≡ Some link) a.links h));
      }
