-- What is read of a world's nodes, and their reports.
use Rattle.std.specs.Prelude.{◌≡◌, ◌⊎◌, ◌↔◌, ℕ, Bool, List, [], ◌∷◌, ◌++◌, map as mapped}
use Rattle.std.specs.Prelude.{Contains, IsTrue, Option, Some, None, codes}
use Rattle.std.specs.Option.{option_map}
use Rattle.std.specs.FinMap as map
use Rattle.std.specs.BTreeMap as tree
use Rattle.std.specs.BTreeMap.{BTreeMap}
use Rattle.std.specs.List.Sorted.{IsStrictlySortedBy}
use Rattle.dr_base.specs.Texts.{Text, text_cmp}
use Rattle.dr_ledger.specs.declared.ledger.Ledger.{Ghosts}
use Rattle.dr_ledger.specs.Bodies.{IsNeeded}
use Rattle.dr_ledger.specs.Books.{Book}
use Rattle.dr_ledger.specs.Pairs.{pair_cmp}
use Rattle.dr_ledger.specs.Replies.{AreKept, Lists, entry_of}
use Rattle.dr_node.specs.declared.node.Node.{Node}
use Rattle.dr_ledger_report.specs.Reports.{IsReportOf, name_line}
use Rattle.dr_world.specs.declared.fault.WorldFault.{WorldFault}
use Rattle.dr_world.specs.declared.fault.WorldFault.TheVariants.{Memory, Store}
use Rattle.dr_world.specs.declared.listing.Listing.{Listing}
use Rattle.dr_world.specs.Nodes.{AllStandIn, seats_of}

-- the nodes' books by name; another name has none
abbrev pub books_of : {L : Type 0} {l : Ghosts L} → BTreeMap Text (Node L l) → Text → Option Book
books_of {L} {l} nodes name = option_map (λ n. l.book n.desk.ledger) (tree.get text_cmp nodes name)

-- what a book has, in lists
pub record IsListingOf (b : Book) (x : Listing) : Type 0 where
  pub arrivals : Lists pair_cmp b.arrivals x.arrivals
  pub kept : AreKept b x.kept
  pub rows : x.rows ≡ map.entries b.rows
  pub lines : x.lines ≡ mapped entry_of b.lines

-- of a node that is there, and of a name that no node has
abbrev pub ListsBook : Option Book → Option Listing → Type 0
ListsBook (Some b) (Some x) = IsListingOf b x
ListsBook None None = Unit {0}
ListsBook other x = ⊥

-- whether a node that is there needs the data set of that uid
abbrev pub IsNeededIn : Option Book → Text → Option Bool → Type 0
IsNeededIn (Some b) uid (Some needed) = IsTrue needed ↔ IsNeeded b uid
IsNeededIn None uid None = Unit {0}
IsNeededIn other uid needed = ⊥

-- A node as it was; where its ledger's premise stands after it, it stood before, and the ledger has
-- what it had.
pub record IsSameNode {L : Type 0} {l : Ghosts L} (old new : Node L l) : Type 0 where
  pub stood : l.stands new.desk.ledger → l.stands old.desk.ledger
  pub book : l.stands new.desk.ledger → l.book new.desk.ledger ≡ l.book old.desk.ledger
  pub armed : l.armed new.desk.ledger ≡ l.armed old.desk.ledger
  pub of : l.site new.desk.ledger ≡ l.site old.desk.ledger
  pub links : new.links ≡ old.links

-- Nothing has changed that a world shows; where the premise of each ledger stands after it, it
-- stood before.
abbrev pub AreSameNodes : {L : Type 0} {l : Ghosts L}
    → BTreeMap Text (Node L l) → BTreeMap Text (Node L l) → Type 0
AreSameNodes old new =
    (AllStandIn new → AllStandIn old)
    × (AllStandIn new → (name : Text) → seats_of new name ≡ seats_of old name)

-- why nothing is read: there was no memory, or the ledger's store failed
abbrev pub IsUnread : WorldFault → Type 0
IsUnread why = (why ≡ Memory) ⊎ (why ≡ Store)

-- ---- reports

-- what stands in the report of another maker's product behind its name
abbrev pub foreign_line : Text
foreign_line = codes "foreign\n"

-- what is told of a node: its book; of one of the others that it is one
abbrev pub IsToldOf : List Text → Text → Book → Text → Type 0
IsToldOf others name book text =
    ((Contains others name → ⊥) × IsReportOf name book text)
    ⊎ (Contains others name × (text ≡ name_line name ++ foreign_line))

-- the reports of these nodes, one behind the other
abbrev pub AreReports : List Text → (Text → Option Book) → List Text → Text → Type 0
AreReports others books [] text = text ≡ []
AreReports others books (name ∷ names) text =
    (book : Book) × (first rest : Text) × (books name ≡ Some book)
    × IsToldOf others name book first
    × AreReports others books names rest
    × (text ≡ first ++ rest)

-- these are the names that have a book, each once and in byte order
abbrev pub AreNamesOf : (Text → Option Book) → List Text → Type 0
AreNamesOf books names =
    IsStrictlySortedBy text_cmp names
    × ((name : Text) → Contains names name ↔ ((book : Book) × (books name ≡ Some book)))

-- The text is the report of all nodes that have these books, in byte order of their names; some are
-- other makers' products.
abbrev pub IsReportOfAll : List Text → (Text → Option Book) → Text → Type 0
IsReportOfAll others books text =
    (names : List Text) × AreNamesOf books names × AreReports others books names text

-- the report of that node was written behind what was there
abbrev pub HasReport : List Text → Option Book → Text → List ℕ → List ℕ → Type 0
HasReport others o name old new =
    (book : Book) × (text : Text) × (o ≡ Some book)
    × IsToldOf others name book text
    × (new ≡ old ++ text)

-- those of these nodes were
abbrev pub AreWritten : List Text → (Text → Option Book) → List Text → List ℕ → List ℕ → Type 0
AreWritten others books names old new =
    (text : Text) × AreReports others books names text × (new ≡ old ++ text)

-- the report of all was
abbrev pub IsReported : List Text → (Text → Option Book) → List ℕ → List ℕ → Type 0
IsReported others books old new =
    (text : Text) × (new ≡ old ++ text) × IsReportOfAll others books text
