-- Where all nodes' ledgers went over, the world of messages that has their books adopts the plan.
use Rattle.std.proofs.Common.{◌≡◌, ◌∙◌, ◌⊎◌, Bool, List, [], ◌∷◌, map, Some, refl, sym, ap, subst, inl, inr, true}
use Rattle.std.proofs.lemmas.Bool.{cases_Bool}
use Rattle.std.specs.Prelude.{All, Contains, ◌≢◌, not}
use Rattle.std.proofs.lemmas.Slice.Eq.{bytes_eq-Decides}
use Rattle.std.specs.List.{AllZip}
use Rattle.std.specs.FinMap as map_of
use Rattle.std.proofs.lemmas.List.Elements.{All-cons, All-head, All-nil, All-tail}
use Rattle.std.proofs.lemmas.List.Sorted.{Contains-permutation, IsPermutation-sym}
use Rattle.dr_base.specs.Texts.{Text}
use Rattle.dr_route.specs.Routes.{local}
use Rattle.dr_cert.specs.Sealing.{Certified}
use Rattle.dr_ledger.specs.Adopting.{IsFit}
use Rattle.dr_ledger.specs.Books.{Book, Adoption, after, empty_book, is_queued}
use Rattle.dr_ledger.specs.Pairs.{pair_cmp}
use Rattle.dr_ledger.specs.declared.item.Instance.{Instance}
use Rattle.dr_ledger.specs.declared.item.Progress.{Progress}
use Rattle.dr_plan_model.specs.Networks.{Network}
use Rattle.dr_plan_model.specs.Plans.{AreNames, IsWellFormed}
use Rattle.dr_plan_model.specs.Walks.{Goes}
use Rattle.dr_plan_model.specs.declared.plan.Node.{Node}
use Rattle.dr_plan_model.proofs.Gathered.{Contains-cons_cases, Contains-here, Contains-there, nothing_in_nil}
use Rattle.dr_plan_model.proofs.WalksAlike.{not_known_local}
use Rattle.dr_plan_sound.proofs.Hopping.{goes_to}
use Rattle.dr_ledger.proofs.PlanRouting.{any_from}
use Rattle.dr_site.proofs.AsPlanned.{keeps_by, kept_by}
use Rattle.dr_site.specs.Parts.{Part}
use Rattle.dr_world_model.specs.Events.{HasNode}
use Rattle.dr_world_model.specs.Runs.{Adopts}
use Rattle.dr_world_model.specs.Worlds.{World}
use Rattle.dr_world_model.proofs.AdoptionsKept.{no_row, node_or_not}
use Rattle.dr_word_adopt.specs.Adoptions.{HasBookOf, HasFirstBook, IsAtRest, IsFirstOf, MadeIsAdopted, OursAreAdopted, ledger_in}
use Rattle.dr_word_adopt.specs.Beginnings.{OpensThere}
use Rattle.dr_word_adopt.specs.Changes.{IsOver, name_by}
use Rattle.dr_word_adopt.specs.Names.{AreOurs, is_among, is_besides, is_name}
use Rattle.dr_word_adopt.specs.declared.standing.Standing.{Standing}
use Rattle.dr_word_adopt.specs.declared.standing.Standing.TheVariants.{Ready, Over}
use Rattle.dr_word_adopt.proofs.Standings.{unmapped}

abbrev name_of : Node → Text
name_of node = node.name

-- ---- names

mapped_among : {X Y : Type 0} (f : X → Y) (xs : List X) (x : X) → Contains xs x → Contains (map f xs) (f x)
mapped_among f [] x among = absurd (nothing_in_nil x among)
mapped_among f (y ∷ ys) x among = elim (Contains-cons_cases y ys x among) [
  | inl same ↦ subst (λ z. Contains (f y ∷ map f ys) (f z)) same (Contains-here (f y) (map f ys))
  | inr later ↦ Contains-there (f y) (map f ys) (f x) (mapped_among f ys x later)
]

-- the names of a plan's nodes are those of its nodes
has_name : (plan : Network) (names : List Text) (name : Text) → AreNames plan names → HasNode plan name → Contains names name
has_name plan names name are node =
    let among : Contains (map name_of plan.nodes) (name_of node.0) = mapped_among name_of plan.nodes node.0 node.1.0 in
    Contains-permutation (map name_of plan.nodes) names name are.all (subst (λ (x : Text). Contains (map name_of plan.nodes) x) node.1.1 among)

names_node : (plan : Network) (names : List Text) (name : Text) → AreNames plan names → Contains names name → HasNode plan name
names_node plan names name are among =
    let found = unmapped name_of plan.nodes name (Contains-permutation names (map name_of plan.nodes) name (IsPermutation-sym (map name_of plan.nodes) names are.all) among) in
    (found.0, (found.1, found.2))

-- a name that is among some is one of them
among_those : (names : List Text) (name : Text) → is_among names name ≡ true → Contains names name
among_those names name among =
    let found = any_from (is_name name) names among in
    subst (λ (x : Text). Contains names x) ((bytes_eq-Decides found.0 name).0 found.2) found.1

-- a node of the plan in force is one of the others, or ours
others_or_ours : (old next : Network) (others ours : List Text) (name : Text) → AreOurs old next others ours → HasNode old name → Contains others name ⊎ Contains ours name
others_or_ours old next others ours name are node =
    let known = has_name old are.names name are.are node in
    elim (cases_Bool (is_among others name)) [
      | inl among ↦ inl (among_those others name among)
      | inr apart ↦ inr (subst (λ (ns : List Text). Contains ns name) (sym are.besides) (keeps_by (is_besides others) are.names name known (ap not apart)))
    ]

-- ours are nodes of the plan in force
ours_named : (old next : Network) (others ours : List Text) (name : Text) → AreOurs old next others ours → Contains ours name → HasNode old name
ours_named old next others ours name are among =
    names_node old are.names name are.are (kept_by (is_besides others) are.names name (subst (λ (ns : List Text). Contains ns name) are.besides among)).0

-- each node of the plan in force is one of the next
stays_node : (old next : Network) (others ours : List Text) (name : Text) → AreOurs old next others ours → HasNode old name → HasNode next name
stays_node old next others ours name are node = elim (node_or_not next name) [
  | inl has ↦ has
  | inr none ↦ absurd (are.stay name (has_name old are.names name are.are node) (λ n is. none (n, is)))
]

-- ---- books after the adoption

abbrev book_by : {A B : Type 0} → A ⊎ B → Book → Book
book_by (inl node) b = after Adoption b
book_by (inr none) b = empty_book

by_node : (plan : Network) (name : Text) (b : Book) → HasNode plan name → book_by (node_or_not plan name) b ≡ after Adoption b
by_node plan name b has = by (node_or_not plan name)
  where
    by : (o : HasNode plan name ⊎ (HasNode plan name → ⊥)) → book_by o b ≡ after Adoption b
    by (inl node) = refl
    by (inr none) = absurd (none has)

by_none : (plan : Network) (name : Text) (b : Book) → (HasNode plan name → ⊥) → book_by (node_or_not plan name) b ≡ empty_book
by_none plan name b without = by (node_or_not plan name)
  where
    by : (o : HasNode plan name ⊎ (HasNode plan name → ⊥)) → book_by o b ≡ empty_book
    by (inl node) = absurd (without node)
    by (inr none) = refl

abbrev adopted : Network → World → World
adopted plan w = record {
  time = w.time;
  books = λ name. book_by (node_or_not plan name) (w.books name);
  stood = λ name. book_by (node_or_not plan name) (w.books name);
  armed = w.armed;
  links = map_of.empty;
  opened = w.opened;
}

-- all nodes take the plan, of which each of them is a node, and for which their rows are fit
adopts : (plan next : Network) (w : World) → IsWellFormed next → IsAtRest plan w → ((name : Text) → HasNode plan name → HasNode next name × IsFit next name (w.books name)) → Adopts plan w next (adopted plan w)
adopts plan next w formed rest each = record {
  may = record { off = rest.off; unarmed = rest.unarmed; stay = λ name node. (each name node).0; fit = fit; strangers = rest.strangers };
  books = λ name node. by_node plan name (w.books name) node;
  joined = λ name none. by_none plan name (w.books name) none;
  stood = refl;
  links = refl;
  time = refl;
  armed = refl;
  opened = refl;
}
  where
    fit : (name uid to : Text) (row : Progress) (item : Instance) → map_of.get (w.books name).rows (uid, to) ≡ Some row → is_queued row ≡ true → map_of.get (w.books name).items uid ≡ Some item → Goes next item.key name to
    fit name uid to row item at queued has = elim (node_or_not plan name) [
      | inl node ↦
          let h = each name node in
          let apart : name ≢ local = λ e. not_known_local next formed (h.0.0, h.0.1.0, h.0.1.1 ∙ e) in
          goes_to next item.key name to apart (h.1 (uid, to) row item at queued has)
      | inr none ↦ absurd (no_row row (sym (map_of.get-empty pair_cmp (uid, to)) ∙ (sym (ap (λ (b : Book). map_of.get b.rows (uid, to)) (rest.strangers name none)) ∙ at)))
    ]

-- ---- ledgers

module _ {L : Type 0} (opens : Text → L → Type 0) (shows : Text → Bool → Type 0) (site_of : L → Part) (book : L → Book) (stands : L → Type 0) (folder : Text) (old next : Certified) where
  abbrev Done : Standing L → Type 0
  Done s = IsOver (OpensThere opens shows) site_of book stands folder old next s

  abbrev Stands : Standing L → Type 0
  Stands s = stands (ledger_in s)

  abbrev First : Standing L → L → Type 0
  First s first = IsFirstOf opens shows site_of book stands folder old next s first

  abbrev Began : World → Standing L → L → Type 0
  Began w s first = HasFirstBook opens shows site_of book stands folder old next w s first

  abbrev first_of : (s : Standing L) → Done s → L
  first_of (Ready last own) h = h.0
  first_of (Over ledger) h = ledger

  is_first : (s : Standing L) (h : Done s) → First s (first_of s h)
  is_first (Ready last own) h = h.1
  is_first (Over ledger) h = refl

  abbrev firsts_of : (all : List (Standing L)) → All Done all → List L
  firsts_of [] done = []
  firsts_of (s ∷ more) done = first_of s (All-head Done s more done) ∷ firsts_of more (All-tail Done s more done)

  are_first : (all : List (Standing L)) (done : All Done all) → AllZip First all (firsts_of all done)
  are_first [] done = tt
  are_first (s ∷ more) done = (is_first s (All-head Done s more done), are_first more (All-tail Done s more done))

  module _ (w : World) where
    -- what is to be known of a node's name: the next plan has it, and its rows are fit for that
    abbrev Stays : Text → Type 0
    Stays name = HasNode next.plan name × IsFit next.plan name (w.books name)

    stays : (s : Standing L) (h : Done s) → Stands s → Began w s (first_of s h) → Stays (name_by site_of s)
    stays (Ready last own) h st is = ((h.2.node.0, h.2.node.1.0), subst (λ (b : Book). IsFit next.plan own.name b) (sym is) (h.4 st).1)
    stays (Over ledger) h st is = ((h.at.part.node.0, h.at.part.node.1.0), is.0)

    all_stay : (all : List (Standing L)) (done : All Done all) → All Stands all → AllZip (Began w) all (firsts_of all done) → (name : Text) → Contains (map (name_by site_of) all) name → Stays name
    all_stay [] done st began name among = absurd (nothing_in_nil name among)
    all_stay (s ∷ more) done st began name among = elim (Contains-cons_cases (name_by site_of s) (map (name_by site_of) more) name among) [
      | inl same ↦ subst Stays same (stays s (All-head Done s more done) (All-head Stands s more st) began.0)
      | inr later ↦ all_stay more (All-tail Done s more done) (All-tail Stands s more st) began.1 name later
    ]

    -- the book that a ledger is closed with
    went_over : (s : Standing L) (h : Done s) → Stands s → Began w s (first_of s h) → book (ledger_in s) ≡ after Adoption (w.books (name_by site_of s))
    went_over (Ready last own) h st is = (h.4 st).2 ∙ ap (λ (b : Book). after Adoption b) (sym is)
    went_over (Over ledger) h st is = is.1

    abbrev Closed : Standing L → Type 0
    Closed s = HasBookOf site_of book (adopted old.plan w) s

    all_closed : (all : List (Standing L)) (done : All Done all) → All Stands all → AllZip (Began w) all (firsts_of all done) → ((name : Text) → Contains (map (name_by site_of) all) name → HasNode old.plan name) → All Closed all
    all_closed [] done st began node = All-nil Closed
    all_closed (s ∷ more) done st began node =
        let name = name_by site_of s in
        All-cons Closed s more
        (by_node old.plan name (w.books name) (node name (Contains-here name (map (name_by site_of) more))) ∙ sym (went_over s (All-head Done s more done) (All-head Stands s more st) began.0))
        (all_closed more (All-tail Done s more done) (All-tail Stands s more st) began.1 (λ n among. node n (Contains-there name (map (name_by site_of) more) n among)))

  -- the next plan goes on with the rows of each node: of ours, since their ledgers went over; and of
  -- the others, as it is asked
  pub ours_are_adopted : (others : List Text) → OursAreAdopted opens shows site_of book stands folder old next others
  ours_are_adopted others formed all change st =
      let are : AreOurs old.plan next.plan others change.0 = change.1.0.are in
      let named : map (name_by site_of) all ≡ change.0 = change.1.1.0 in
      let done : All Done all = change.1.1.1 in (
        firsts_of all done,
        are_first all done,
        λ w rest fit began. (
          adopted old.plan w,
          adopts old.plan next.plan w formed rest (λ name node. elim (others_or_ours old.plan next.plan others change.0 name are node) [
            | inl other ↦ (stays_node old.plan next.plan others change.0 name are node, fit name other)
            | inr among ↦ all_stay w all done st began name (subst (λ (ns : List Text). Contains ns name) (sym named) among)
          ]),
          all_closed w all done st began (λ name among. ours_named old.plan next.plan others change.0 name are (subst (λ (ns : List Text). Contains ns name) named among)),
        ),
      )

  -- where none is named there are no others
  pub made_is_adopted : MadeIsAdopted opens shows site_of book stands folder old next
  made_is_adopted formed all change st =
      let ours = ours_are_adopted [] formed all change st in (
        ours.0,
        ours.1,
        λ w rest any began. ours.2 w rest (λ name among. absurd (nothing_in_nil name among)) began,
      )
