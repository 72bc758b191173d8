-- What is read of nodes, and their reports.
use Rattle.std.proofs.Common.{◌≡◌, ℕ, ◌+◌, ◌<◌, ◌≤◌, Bool, true, false, cond, List, [], ◌∷◌, ◌++◌, length, take, get_or, append_assoc, map as mapped, Option, None, Some, Result, refl, sym, ap, subst, ◌∙◌, inl, inr}
use Rattle.std.specs.Option.{option_map, IsSome}
use Rattle.std.specs.Prelude.{Contains, IsTrue, ◌↔◌}
use Rattle.std.specs.Ordering.{eq_by_cmp}
use Rattle.std.specs.Cmp.{eq_by_cmp_equiv}
use Rattle.std.specs.FinMap as map
use Rattle.std.specs.BTreeMap as tree
use Rattle.std.specs.BTreeMap.{BTreeMap, is_at}
use Rattle.std.proofs.lemmas.List.{append-nil, take_more, take_all, length-map}
use Rattle.std.proofs.lemmas.Map.Views.{tells_apart, Contains-keys_from_lookup, IsSome-lookup_from_Contains}
use Rattle.dr_base.specs.Texts.{Text, text_cmp}
use Rattle.dr_ledger.specs.declared.fault.LedgerFault.{LedgerFault}
use Rattle.dr_ledger.specs.declared.ledger.Ledger.{Ghosts}
use Rattle.dr_ledger.specs.Bodies.{IsNeeded}
use Rattle.dr_ledger.specs.Books.{Book}
use Rattle.dr_ledger.specs.Pairs.{pair_cmp}
use Rattle.dr_ledger.specs.Replies.{AreKept, Lists, entry_of}
use Rattle.dr_ledger.proofs.Maps.{texts, same_or_not, ties_itself}
use Rattle.dr_session.specs.Ledgers.{desk}
use Rattle.dr_node.specs.declared.node.Node.{Node}
use Rattle.dr_node.specs.Calls.{KeepsRest, OnlyReads}
use Rattle.dr_world_model.specs.Worlds.{same_text}
use Rattle.dr_ledger_report.specs.Reports.{name_line, report_of}
use Rattle.dr_world.specs.declared.listing.Listing.{Listing}
use Rattle.dr_world.specs.declared.world.World.{World}
use Rattle.dr_world.specs.Nodes.{AllStandIn, seat_of, seats_of}
use Rattle.dr_world.specs.Shows.{Seat}
use Rattle.dr_world.specs.Reports.{AreNamesOf, AreReports, AreSameNodes, AreWritten, HasReport, IsListingOf, IsReported, IsSameNode, IsToldOf, ListsBook, IsNeededIn, books_of, foreign_line}
use Rattle.dr_world.specs.Whole.{AllStand, IsSameWorld, contents}

-- ---- one node

module _ {L : Type 0} {l : Ghosts L} where
  -- a call that only reads leaves a node as it was
  pub same_node : {A : Type 0} {result : Result A LedgerFault} (n m : Node L l) → OnlyReads result n m → KeepsRest n m → IsSameNode n m
  same_node n m reads rest = record {
    stood = reads.premise.stood;
    book = λ s. (reads.same s).0;
    armed = reads.armed;
    of = rest.of;
    links = rest.links;
  }

  pub same_then : (a b c : Node L l) → IsSameNode a b → IsSameNode b c → IsSameNode a c
  same_then a b c f g = record {
    stood = λ s. f.stood (g.stood s);
    book = λ s. g.book s ∙ f.book (g.stood s);
    armed = g.armed ∙ f.armed;
    of = g.of ∙ f.of;
    links = g.links ∙ f.links;
  }

  pub listed : (x : Listing) (n0 n1 n2 n3 n4 : Node L l) → IsSameNode n0 n1 → IsSameNode n1 n2 → IsSameNode n2 n3 → IsSameNode n3 n4 → (l.stands n1.desk.ledger → Lists pair_cmp (l.book n0.desk.ledger).arrivals x.arrivals)
      → (l.stands n2.desk.ledger → AreKept (l.book n1.desk.ledger) x.kept) → (l.stands n3.desk.ledger → x.rows ≡ map.entries (l.book n2.desk.ledger).rows) → (l.stands n4.desk.ledger → x.lines ≡ mapped entry_of (l.book n3.desk.ledger).lines)
      → l.stands n4.desk.ledger → IsListingOf (l.book n0.desk.ledger) x
  listed x n0 n1 n2 n3 n4 a b c d arrivals kept rows lines s4 =
      let s3 = d.stood s4 in
      let s2 = c.stood s3 in
      let s1 = b.stood s2 in
      let K : Book → Type 0 = λ z. AreKept z x.kept in
      record {
        arrivals = arrivals s1;
        kept = subst K (a.book s1) (kept s2);
        rows = rows s3 ∙ ap (λ (z : Book). map.entries z.rows) (b.book s2 ∙ a.book s1);
        lines = lines s4 ∙ ap (λ (z : Book). mapped entry_of z.lines) (c.book s3 ∙ (b.book s2 ∙ a.book s1));
      }

  -- ---- one of several

  pub nodes_same : (old new : BTreeMap Text (Node L l)) → new ≡ old → AreSameNodes old new
  nodes_same old new same = (
    (λ all. (let P : BTreeMap Text (Node L l) → Type 0 = λ m. AllStandIn m in subst P same all)),
    λ all name. ap (λ (m : BTreeMap Text (Node L l)). seats_of m name) same,
  )

  pub nodes_then : (a b c : BTreeMap Text (Node L l)) → AreSameNodes a b → AreSameNodes b c → AreSameNodes a c
  nodes_then a b c f g = (λ all. f.0 (g.0 all), λ all name. g.1 all name ∙ f.1 (g.0 all) name)

  pub unlisted : (old : BTreeMap Text (Node L l)) (name : Text) → None ≡ tree.get text_cmp old name → ListsBook (books_of old name) None
  unlisted old name none = (let P : Option (Node L l) → Type 0 = λ o. ListsBook (option_map (λ n. l.book n.desk.ledger) o) None in subst P none tt)

  pub no_bodies : (old : BTreeMap Text (Node L l)) (name uid : Text) → None ≡ tree.get text_cmp old name → IsNeededIn (books_of old name) uid None
  no_bodies old name uid none = (let P : Option (Node L l) → Type 0 = λ o. IsNeededIn (option_map (λ n. l.book n.desk.ledger) o) uid None in subst P none tt)

  module _ (old new : BTreeMap Text (Node L l)) (name : Text) (n after : Node L l) (has : Some n ≡ tree.get text_cmp old name)
      (updates : (q : Text) → tree.get text_cmp new q ≡ cond (is_at (text_cmp name) q) (Some after) (tree.get text_cmp old q)) where
    now_at : (q : Text) → tree.get text_cmp new q ≡ cond (same_text q name) (Some after) (tree.get text_cmp old q)
    now_at q = updates q ∙ ap (λ (b : Bool). cond b (Some after) (tree.get text_cmp old q)) ((eq_by_cmp_equiv texts.total).symm name q)

    now_here : tree.get text_cmp new name ≡ Some after
    now_here = now_at name ∙ ap (λ (b : Bool). cond b (Some after) (tree.get text_cmp old name)) (ties_itself texts name)

    stood : IsSameNode n after → AllStandIn new → AllStandIn old
    stood same all q m is = elim (same_or_not texts q name) [
      | inl at ↦
          let e : Some n ≡ Some m = has ∙ (ap (tree.get text_cmp old) (sym at) ∙ is) in
          let one : n ≡ m = cc in
          let N : Node L l → Type 0 = λ z. l.stands z.desk.ledger in
          subst N one (same.stood (all name after now_here))
      | inr apart ↦ all q m (now_at q ∙ (ap (λ (b : Bool). cond b (Some after) (tree.get text_cmp old q)) apart ∙ is))
    ]

    seats_same : IsSameNode n after → AllStandIn new → (q : Text) (x : Bool) → same_text q name ≡ x → option_map seat_of (cond x (Some after) (tree.get text_cmp old q)) ≡ seats_of old q
    seats_same same all q true e =
        let at : q ≡ name = tells_apart texts.exact q name e in
        let book = same.book (all name after now_here) in
        let one : seat_of after ≡ seat_of n = λ i. record { site = same.of i; sides = same.links i; desk = desk (book i) (same.armed i) } in
        ap Some one ∙ (ap (option_map seat_of) has ∙ ap (seats_of old) (sym at))
    seats_same same all q false e = refl

    pub are_same : IsSameNode n after → AreSameNodes old new
    are_same same = (stood same, λ all q. ap (option_map seat_of) (now_at q) ∙ seats_same same all q (same_text q name) refl)

    pub lists_there : (x : Listing) → (l.stands after.desk.ledger → IsListingOf (l.book n.desk.ledger) x) → AllStandIn new → ListsBook (books_of old name) (Some x)
    lists_there x h all =
        let P : Option (Node L l) → Type 0 = λ o. ListsBook (option_map (λ n. l.book n.desk.ledger) o) (Some x) in
        subst P has (h (all name after now_here))

    pub has_there : (uid : Text) (b : Bool) → (l.stands after.desk.ledger → IsTrue b ↔ IsNeeded (l.book n.desk.ledger) uid) → AllStandIn new → IsNeededIn (books_of old name) uid (Some b)
    has_there uid b h all =
        let P : Option (Node L l) → Type 0 = λ o. IsNeededIn (option_map (λ n. l.book n.desk.ledger) o) uid (Some b) in
        subst P has (h (all name after now_here))

  -- ---- names

  some_book : (o : Option (Node L l)) → IsSome o → (book : Book) × (option_map (λ n. l.book n.desk.ledger) o ≡ Some book)
  some_book None h = (let f : ⊥ = cc in absurd f)
  some_book (Some n) h = (l.book n.desk.ledger, refl)

  book_some : (o : Option (Node L l)) (book : Book) → option_map (λ n. l.book n.desk.ledger) o ≡ Some book → IsSome o
  book_some None book h = (let e : None ≡ Some book = h in let f : ⊥ = cc in absurd f)
  book_some (Some n) book h = refl

  pub names_are : (nodes : BTreeMap Text (Node L l)) → tree.IsOrdered text_cmp nodes → AreNamesOf (books_of nodes) (tree.keys nodes)
  names_are nodes ordered = (
    ordered,
    λ name. (
      λ among. some_book (tree.get text_cmp nodes name) (IsSome-lookup_from_Contains {eq = eq_by_cmp text_cmp} (eq_by_cmp_equiv texts.total) name nodes.entries among),
      λ h. Contains-keys_from_lookup {eq = eq_by_cmp text_cmp} (λ x y e. tells_apart texts.exact x y e) name nodes.entries (book_some (tree.get text_cmp nodes name) h.0 h.1),
    ),
  )

  pub names_found : (nodes : BTreeMap Text (Node L l)) (found rest : List Text) → tree.IsOrdered text_cmp nodes → rest ≡ [] → found ++ rest ≡ tree.keys nodes → AreNamesOf (books_of nodes) found
  names_found nodes found rest ordered none all =
      let same : found ≡ tree.keys nodes = sym (append-nil found) ∙ (ap (λ (r : List Text). found ++ r) (sym none) ∙ all) in
      let P : List Text → Type 0 = λ ns. AreNamesOf (books_of nodes) ns in
      subst P (sym same) (names_are nodes ordered)

  -- ---- reports

  pub book_kept : (old new : BTreeMap Text (Node L l)) → AreSameNodes old new → AllStandIn new → (name : Text) → books_of new name ≡ books_of old name
  book_kept old new same all name = sym (of_seat new name (tree.get text_cmp new name) refl) ∙ (ap (option_map (λ (s : Seat). s.desk.book)) (same.1 all name) ∙ of_seat old name (tree.get text_cmp old name) refl)
    where
      of_seat : (m : BTreeMap Text (Node L l)) (q : Text) (o : Option (Node L l)) → tree.get text_cmp m q ≡ o → option_map (λ (s : Seat). s.desk.book) (option_map seat_of o) ≡ option_map (λ n. l.book n.desk.ledger) o
      of_seat m q None e = refl
      of_seat m q (Some n) e = refl

-- a listing is written as the report
pub reported : (others : List Text) (o : Option Book) (x : Listing) (name : Text) (old new : List ℕ) → (Contains others name → ⊥) → ListsBook o (Some x) → new ≡ old ++ (name_line name ++ report_of x.arrivals x.kept x.rows (length x.lines)) → HasReport others o name old new
reported others None x name old new own h e = absurd h
reported others (Some book) x name old new own h e = (
  book,
  name_line name ++ report_of x.arrivals x.kept x.rows (length x.lines),
  refl,
  inl (own, (x.arrivals, x.kept, h.arrivals, h.kept, λ i. name_line name ++ report_of x.arrivals x.kept (h.rows i) ((ap length h.lines ∙ length-map book.lines entry_of) i))),
  e,
)

pub reported_as : (others : List Text) (o : Option Book) (r : Option Listing) (x : Listing) (name : Text) (old new : List ℕ) → (Contains others name → ⊥) → r ≡ Some x → ListsBook o r → new ≡ old ++ (name_line name ++ report_of x.arrivals x.kept x.rows (length x.lines)) → HasReport others o name old new
reported_as others o r x name old new own is h e = (let P : Option Listing → Type 0 = λ z. ListsBook o z in reported others o x name old new own (subst P is h) e)

-- of another maker's product its name is
named_alone : (others : List Text) (o : Option Book) (x : Listing) (name : Text) (old new : List ℕ) → Contains others name → ListsBook o (Some x) → new ≡ old ++ (name_line name ++ foreign_line) → HasReport others o name old new
named_alone others None x name old new among h e = absurd h
named_alone others (Some book) x name old new among h e = (book, name_line name ++ foreign_line, refl, inr (among, refl), e)

pub named_as : (others : List Text) (o : Option Book) (r : Option Listing) (x : Listing) (name : Text) (old new : List ℕ) → Contains others name → r ≡ Some x → ListsBook o r → new ≡ old ++ (name_line name ++ foreign_line) → HasReport others o name old new
named_as others o r x name old new among is h e = (let P : Option Listing → Type 0 = λ z. ListsBook o z in named_alone others o x name old new among (subst P is h) e)

-- one more behind others
pub reports_more : (others : List Text) (books : Text → Option Book) (names : List Text) (name : Text) (book : Book) (text more : List ℕ) → AreReports others books names text → books name ≡ Some book → IsToldOf others name book more → AreReports others books (names ++ name ∷ []) (text ++ more)
reports_more others books [] name book text more h is r = (book, more, [], is, r, refl, ap (λ (t : List ℕ). t ++ more) h ∙ sym (append-nil more))
reports_more others books (n ∷ ns) name book text more (b, first, rest, has, one, later, e) is r =
    (b, first, rest ++ more, has, one, reports_more others books ns name book rest more later is r, ap (λ (t : List ℕ). t ++ more) e ∙ append_assoc first rest more)

module _ {L : Type 0} {l : Ghosts L} (first old new : BTreeMap Text (Node L l)) (others names : List Text) (i : ℕ) (name : Text) (out was now : List ℕ) where
  pub written_more : i < length names → (AllStandIn old → AreWritten others (books_of first) (take i names) out was) → AreSameNodes first old → (AllStandIn new → HasReport others (books_of old name) name was now) → AreSameNodes old new → name ≡ get_or names i name
      → AllStandIn new → AreWritten others (books_of first) (take (i + 1) names) out now
  written_more less h same report kept is all =
      let stood = kept.0 all in
      let w = h stood in
      let r = report all in
      let has : books_of first name ≡ Some r.0 = sym (book_kept first old same stood name) ∙ r.2 in
      let more = reports_more others (books_of first) (take i names) name r.0 w.0 r.1 w.1 has r.3 in
      let listed : take i names ++ name ∷ [] ≡ take (i + 1) names = ap (λ (x : Text). take i names ++ x ∷ []) is ∙ sym (take_more names i name less) in
      let P : List Text → Type 0 = λ ns. AreReports others (books_of first) ns (w.0 ++ r.1) in
      (w.0 ++ r.1, subst P listed more, r.4 ∙ (ap (λ (t : List ℕ). t ++ r.1) w.2 ∙ append_assoc out w.0 r.1))

pub none_written : (others : List Text) (books : Text → Option Book) (out : List ℕ) → AreWritten others books [] out out
none_written others books out = ([], refl, sym (append-nil out))

pub all_written : (others : List Text) (books : Text → Option Book) (names : List Text) (i : ℕ) (out now : List ℕ) → length names ≤ i → AreWritten others books (take i names) out now → AreWritten others books names out now
all_written others books names i out now all h = (let P : List Text → Type 0 = λ ns. AreWritten others books ns out now in subst P (take_all i names all) h)

-- ---- the world

module _ {L : Type 0} {l : Ghosts L} (w : World L l) (nodes : BTreeMap Text (Node L l)) where
  abbrev pub over : World L l
  over = record { alloc = w.alloc; time = w.time; opened = w.opened; nodes = nodes; wires = w.wires; lost = w.lost }

  pub world_same : AreSameNodes w.nodes nodes → IsSameWorld w over
  world_same same = (same.0, (λ all. (let seats : (q : Text) → seats_of nodes q ≡ seats_of w.nodes q = same.1 all in λ i. record { now = w.time.passed; opened = w.opened; seats = λ q. seats q i; wires = (contents w).wires })), refl)

  pub all_reported : (others names : List Text) (out now : List ℕ) → AreNamesOf (books_of w.nodes) names → (AllStandIn nodes → AreWritten others (books_of w.nodes) names out now) → AllStand over → IsReported others (books_of w.nodes) out now
  all_reported others names out now are h all = (let r = h all in (r.0, r.2, (names, are, r.1)))
