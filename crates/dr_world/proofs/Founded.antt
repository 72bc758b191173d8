-- Nodes founded one by one, and the world that begins so.
use Rattle.std.proofs.Common.{◌≡◌, ℕ, ◌+◌, ◌<◌, Bool, false, cond, List, [], ◌∷◌, ◌++◌, length, get_or, map, Option, None, Some, refl, sym, ap, subst, ◌∙◌, inl, inr}
use Rattle.std.specs.Prelude.{Contains}
use Rattle.std.specs.Cmp.{eq_by_cmp_equiv}
use Rattle.std.specs.BTreeMap as tree
use Rattle.std.specs.BTreeMap.{BTreeMap}
use Rattle.std.proofs.lemmas.List.{append_assoc, length_push}
use Rattle.std.proofs.lemmas.List.Elements.{Contains-push, Contains-push_cases, Contains-append_left}
use Rattle.std.proofs.lemmas.List.Sorted.{Contains-permutation}
use Rattle.std.proofs.Math.Logic.{∥∥₁_map, ∥∥₁_map₂}
use Rattle.std.specs.Option.{option_map}
use Rattle.std.specs.Ordering.{nat_cmp}
use Rattle.dr_base.specs.Texts.{Text, text_cmp}
use Rattle.dr_plan_model.specs.Networks.{Network}
use Rattle.dr_plan_sound.specs.declared.certificate.Certificate.{Certificate}
use Rattle.dr_ledger.specs.declared.ledger.Ledger.{Ghosts}
use Rattle.dr_ledger.proofs.Maps.{texts, same_or_not, ties_itself}
use Rattle.dr_world_model.specs.Worlds.{same_text}
use Rattle.dr_node.specs.declared.node.Node.{Node}
use Rattle.dr_plan_model.specs.Plans.{AreNames}
use Rattle.dr_world.specs.Founding.{AreFounded, Founds, IsFounded, IsUnfitAt, SomeIsUnfit}
use Rattle.dr_world.specs.declared.fault.WorldFault.{WorldFault}
use Rattle.dr_site.specs.Parts.{Part}
use Rattle.std.specs.Prelude.{IfErr, IsErrAnd, Result, Ok, Err}
use Rattle.dr_world.specs.declared.wires.Wires.{Wires}
use Rattle.dr_world.specs.declared.world.World.{World}
use Rattle.dr_world.specs.Laws.{IsNewWorld}
use Rattle.dr_world.specs.Nodes.{AllStandIn, seat_of, seats_of}
use Rattle.dr_world.specs.Runs.{IsReached}
use Rattle.dr_world.specs.Shows.{IsSeated, Seat}
use Rattle.dr_world.specs.Whole.{contents}
use Rattle.dr_world.proofs.Beginning.{begins}
use Rattle.dr_world_tie.specs.ByteWorlds.{beginning}
use Rattle.dr_site.specs.Parts.{IsPartOf}
use Rattle.dr_session.specs.Ledgers.{desk}
use Rattle.dr_ledger.specs.Books.{Fold, empty_book}
use Rattle.dr_plan_model.specs.declared.plan.Node.{Node as PlannedNode}
use Rattle.dr_plan_model.proofs.Gathered.{Contains-cons_cases, Contains-here, Contains-there, nothing_in_nil}

map_among : {X Y : Type 0} (g : X → Y) (xs : List X) (x : X) → Contains xs x → Contains (map g xs) (g x)
map_among g [] x among = absurd (nothing_in_nil x among)
map_among g (y ∷ xs) x among = elim (Contains-cons_cases y xs x among) [
  | inl same ↦ subst (λ z. Contains (g y ∷ map g xs) (g z)) same (Contains-here (g y) (map g xs))
  | inr later ↦ Contains-there (g y) (map g xs) (g x) (map_among g xs x later)
]

pub name_among : (nodes : List PlannedNode) (node : PlannedNode) (name : Text) → Contains nodes node → node.name ≡ name → Contains (map (λ n. n.name) nodes) name
name_among nodes node name among named = subst (λ (x : Text). Contains (map (λ (n : PlannedNode). n.name) nodes) x) named (map_among (λ (n : PlannedNode). n.name) nodes node among)

no_wires : (m : BTreeMap ℕ Wires) (number : ℕ) → m.entries ≡ [] → tree.get nat_cmp m number ≡ None
no_wires m number none = rw none refl

module _ {L : Type 0} {l : Ghosts L} (plan : Network) (certificate : Certificate) (old new : BTreeMap Text (Node L l)) (name : Text) (f : Founds plan certificate name old new) where
  now_at : (q : Text) → tree.get text_cmp new q ≡ cond (same_text q name) (Some f.0) (tree.get text_cmp old q)
  now_at q = f.2.0 q ∙ ap (λ (b : Bool). cond b (Some f.0) (tree.get text_cmp old q)) ((eq_by_cmp_equiv texts.total).symm name q)

  here : (q : Text) → q ≡ name → tree.get text_cmp new q ≡ Some f.0
  here q same = ap (tree.get text_cmp new) same ∙ now_at name ∙ ap (λ (b : Bool). cond b (Some f.0) (tree.get text_cmp old name)) (ties_itself texts name)

  there : (q : Text) → same_text q name ≡ false → tree.get text_cmp new q ≡ tree.get text_cmp old q
  there q apart = now_at q ∙ ap (λ (b : Bool). cond b (Some f.0) (tree.get text_cmp old q)) apart

  the_node : (q : Text) (n : Node L l) → q ≡ name → tree.get text_cmp new q ≡ Some n → f.0 ≡ n
  the_node q n same is = let e : Some f.0 ≡ Some n = sym (here q same) ∙ is in cc

  -- one node more
  pub founded_more : (names : List Text) → AreFounded plan certificate names old → AreFounded plan certificate (names ++ name ∷ []) new
  founded_more names all = record {
    each = λ q n is. elim (same_or_not texts q name) [
      | inl same ↦ subst (λ (x : Text). IsFounded plan certificate x n) (sym same) (subst (λ (m : Node L l). IsFounded plan certificate name m) (the_node q n same is) f.1)
      | inr apart ↦ all.each q n (sym (there q apart) ∙ is)
    ];
    all = λ q among. elim (same_or_not texts q name) [
      | inl same ↦ (f.0, here q same)
      | inr apart ↦ elim (Contains-push_cases names name q among) [
        | inl before ↦ (let h = all.all q before in (h.0, there q apart ∙ h.1))
        | inr last ↦ (f.0, here q (sym last))
      ]
    ];
    only = λ q n is. elim (same_or_not texts q name) [
      | inl same ↦ subst (λ (x : Text). Contains (names ++ name ∷ []) x) (sym same) (Contains-push names name)
      | inr apart ↦ Contains-append_left names (name ∷ []) q (all.only q n (sym (there q apart) ∙ is))
    ];
  }

-- what is there in truth of each element is there in truth of all of them
pub choose : {X : Type 0} (P : X → Type 0) (xs : List X) → ((x : X) → Contains xs x → ∥ P x ∥₁) → ∥ ((x : X) → Contains xs x → P x) ∥₁
choose P [] each = ∣ (λ x among. absurd (nothing_in_nil x among)) ∣₁
choose P (y ∷ xs) each = ∥∥₁_map₂ (each y (Contains-here y xs)) (choose P xs (λ x among. each x (Contains-there y xs x among)))
    (λ first others x among. elim (Contains-cons_cases y xs x among) [
      | inl same ↦ subst P same first
      | inr later ↦ others x later
    ])

-- a node as it begins has nothing in its book
pub book_is_empty : {L : Type 0} (l : Ghosts L) (ledger : L) → l.stands ledger → (l.book ledger).lines ≡ [] → ∥ l.book ledger ≡ empty_book ∥₁
book_is_empty l ledger stands none = ∥∥₁_map (l.journalled ledger stands) (λ j. j.1.fold ∙ ap Fold none)

module _ {L : Type 0} {l : Ghosts L} (plan : Network) (certificate : Certificate) (names : List Text) (nodes : BTreeMap Text (Node L l)) (f : AreFounded plan certificate names nodes) where
  IsBare : Text → Type 0
  IsBare name = (n : Node L l) → tree.get text_cmp nodes name ≡ Some n → l.book n.desk.ledger ≡ empty_book

  pub all_bare : AllStandIn nodes → ∥ ((name : Text) → Contains names name → (n : Node L l) → tree.get text_cmp nodes name ≡ Some n → l.book n.desk.ledger ≡ empty_book) ∥₁
  all_bare all = choose (λ name. (n : Node L l) → tree.get text_cmp nodes name ≡ Some n → l.book n.desk.ledger ≡ empty_book) names (λ name among.
      (let h = f.all name among in
      ∥∥₁_map (book_is_empty l h.0.desk.ledger (all name h.0 h.1) ((f.each name h.0 h.1).empty (all name h.0 h.1)))
      (λ bare n is. (let e : Some h.0 ≡ Some n = sym h.1 ∙ is in let same : h.0 ≡ n = cc in subst (λ (m : Node L l). l.book m.desk.ledger ≡ empty_book) same bare))))

  seat_in : (name : Text) (seat : Seat) → seats_of nodes name ≡ Some seat → (n : Node L l) × (tree.get text_cmp nodes name ≡ Some n) × (seat_of n ≡ seat)
  seat_in name seat e = by (tree.get text_cmp nodes name) refl e
    where
      by : (o : Option (Node L l)) → tree.get text_cmp nodes name ≡ o → option_map seat_of o ≡ Some seat → (n : Node L l) × (tree.get text_cmp nodes name ≡ Some n) × (seat_of n ≡ seat)
      by None h d = absurd (cc)
      by (Some n) h d = (n, h, cc)

  pub seated : AreNames plan names → IsSeated plan certificate (seats_of nodes)
  seated are = record {
    each = λ name seat e. (let h = seat_in name seat e in let at = f.each name h.0 h.1 in
        (ap (λ (s : Seat). s.site.name) (sym h.2) ∙ at.named, subst (λ (s : Seat). IsPartOf plan certificate s.site) h.2 at.part));
    all = λ name has. (let among = Contains-permutation (map (λ node. node.name) plan.nodes) names name are.all (name_among plan.nodes has.0 name has.1.0 has.1.1) in
        let h = f.all name among in (seat_of h.0, ap (option_map seat_of) h.1));
  }

  module _ (w : World L l) (of : w.nodes ≡ nodes) (time : w.time.passed ≡ 0) (opened : w.opened ≡ 0) (wires : w.wires.entries ≡ []) (are : AreNames plan names) where
    is_new : ((name : Text) → Contains names name → (n : Node L l) → tree.get text_cmp nodes name ≡ Some n → l.book n.desk.ledger ≡ empty_book) → IsNewWorld (contents w)
    is_new bare = record {
      now = time;
      opened = opened;
      wires = λ number. no_wires w.wires number wires;
      seats = λ name seat e.
          (let h = seat_in name seat (ap (λ (ns : BTreeMap Text (Node L l)). seats_of ns name) (sym of) ∙ e) in
          let at = f.each name h.0 h.1 in
          let book = bare name (f.only name h.0 h.1) h.0 h.1 in
          (ap (λ (s : Seat). s.desk) (sym h.2) ∙ (λ i. desk (book i) (at.armed i)), ap (λ (s : Seat). s.sides) (sym h.2) ∙ at.links));
    }

    pub reached : IsReached plan certificate [] w
    reached all =
        let stands : AllStandIn nodes = subst (λ (ns : BTreeMap Text (Node L l)). AllStandIn ns) of all in
        ∥∥₁_map (all_bare stands) (λ bare. (subst (λ (ns : BTreeMap Text (Node L l)). IsSeated plan certificate (seats_of ns)) (sym of) (seated are), (beginning, refl, begins (contents w) (is_new bare))))

-- one ledger more has its node
pub next_seated : {L : Type 0} (all : List L) {left : List L} {place : ℕ} → (seated : List L) × (all ≡ seated ++ left) × (length seated ≡ place) → (ledger : L) (after : List L) → left ≡ ledger ∷ after →
    (seated : List L) × (all ≡ seated ++ after) × (length seated ≡ place + 1)
next_seated all before ledger after is =
    (before.0 ++ ledger ∷ [], before.1 ∙ ap (λ xs. before.0 ++ xs) is ∙ sym (append_assoc before.0 (ledger ∷ []) after), length_push before.0 ledger ∙ ap (λ n. n + 1) before.2)

-- a fault that is passed on
pub passed_on : {T E : Type 0} (r : Result T E) (fault : E) (P : E → Type 0) → IsErrAnd r (λ e. e ≡ fault) → P fault → IfErr r P
passed_on (Ok x) fault P is p = tt
passed_on (Err e) fault P is p = subst P (sym is) p

-- a ledger that can't be its node's
pub some_is_unfit : {L : Type 0} (unfit : Part → L → WorldFault → Type 0) (plan : Network) (certificate : Certificate) (names : List Text) (all : List L) {left : List L} {place : ℕ} →
    (seated : List L) × (all ≡ seated ++ left) × (length seated ≡ place) → (ledger : L) (after : List L) → left ≡ ledger ∷ after → (name : Text) → get_or names place name ≡ name → place < length names →
    (fault : WorldFault) → IsUnfitAt unfit plan certificate name ledger fault → SomeIsUnfit unfit plan certificate names all fault
some_is_unfit unfit plan certificate names all before ledger after is name at within fault why =
    (before.0, ledger, after, name, before.1 ∙ ap (λ xs. before.0 ++ xs) is, ap (λ n. get_or names n name) before.2 ∙ at, subst (λ (n : ℕ). n < length names) (sym before.2) within, why)
