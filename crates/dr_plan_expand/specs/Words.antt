-- What the words of a plan of format 3 stand for.
use Rattle.std.specs.Prelude.{◌≡◌, ◌≢◌, ◌⊎◌, List, [], ◌∷◌, map}
use Rattle.std.specs.Borrow.{Bor}
use Rattle.dr_base.specs.Texts.{Text}
use Rattle.dr_plan_model.specs.Formed.{IsClass}
use Rattle.dr_plan_expand.specs.Lists.{IsFirst, Yields}
use Rattle.dr_plan_expand.specs.declared.short.Definition.{Definition}

-- a class or a transfer syntax of the standard: its keyword, its name and its UID
abbrev pub Known : Type 0
Known = Text × Text × Text

-- an entry of a table, without where its texts lie in memory
abbrev pub entry : Bor Text × Bor Text × Bor Text → Known
entry e = (e.0.now, e.1.now, e.2.now)

-- the name of a set, and the UID of a class that is in it
abbrev pub OfSet : Type 0
OfSet = Text × Text

-- a class of a set, without where its texts lie in memory
abbrev pub of_set : Bor Text × Bor Text → OfSet
of_set e = (e.0.now, e.1.now)

-- a table of entries, and one of classes of sets
abbrev pub entries : Bor (List (Bor Text × Bor Text × Bor Text)) → List Known
entries table = map entry table.now

abbrev pub of_sets : Bor (List (Bor Text × Bor Text)) → List OfSet
of_sets table = map of_set table.now

-- the word is the keyword or the name of this entry
abbrev pub IsCalled : Known → Text → Type 0
IsCalled known word = (known.0 ≡ word) ⊎ (known.1 ≡ word)

-- in the table the first entry that the word names has this UID
abbrev pub HasUid : List Known → Text → Text → Type 0
HasUid table word uid =
    (known : Known) × IsFirst (λ k. IsCalled k word) table known × (uid ≡ known.2)

-- the table has an entry that the word names
abbrev pub HasSome : Text → List Known → Type 0
HasSome word table = (uid : Text) × HasUid table word uid

-- the word names this UID: in the first table that has an entry which it names
abbrev pub Names : List (List Known) → Text → Text → Type 0
Names tables word uid =
    (table : List Known) × IsFirst (HasSome word) tables table × HasUid table word uid

-- in the table the first entry of this UID has this name
abbrev pub HasName : List Known → Text → Text → Type 0
HasName table uid name = (known : Known) × IsFirst (λ k. k.2 ≡ uid) table known × (name ≡ known.1)

-- the table has an entry of this UID
abbrev pub IsKnownIn : Text → List Known → Type 0
IsKnownIn uid table = (name : Text) × HasName table uid name

-- the tables call this UID so: the first of them that has an entry of it
abbrev pub Calls : List (List Known) → Text → Text → Type 0
Calls tables uid name =
    (table : List Known) × IsFirst (IsKnownIn uid) tables table × HasName table uid name

-- the first definition of this name has these words
abbrev pub Defines : List Definition → Text → List Text → Type 0
Defines definitions name words =
    (found : Definition) × IsFirst (λ d. d.name ≡ name) definitions found × (words ≡ found.words)

-- no word begins with `@`, but one that stands for a set or a group
abbrev pub IsPlainWord : Text → Type 0
IsPlainWord word = (rest : Text) → word ≡ 64 ∷ rest → ⊥

-- the class of a word: a UID stands for itself, and another word for the class that it names
abbrev pub IsClassOf : List (List Known) → Text → Text → Type 0
IsClassOf tables word uid =
    (IsClass word × (uid ≡ word)) ⊎ ((IsClass word → ⊥) × Names tables word uid)

-- the same, as a list of that one class
abbrev pub YieldsClass : List (List Known) → Text → List Text → Type 0
YieldsClass tables word uids = (uid : Text) × IsClassOf tables word uid × (uids ≡ uid ∷ [])

-- a class of the set of this name yields its UID, and one of another set nothing
abbrev pub YieldsOfSet : Text → OfSet → List Text → Type 0
YieldsOfSet set class uids =
    ((class.0 ≡ set) × (uids ≡ class.1 ∷ [])) ⊎ ((class.0 ≢ set) × (uids ≡ []))

-- the classes of a set: what the plan defines; else those of the set of that name which comes with
-- the product, where there are any
abbrev pub IsSet :
    List (List Known) → List (List OfSet) → List Definition → Text → List Text → Type 0
IsSet tables usual sets name uids =
    ((words : List Text) × Defines sets name words × Yields (YieldsClass tables) words uids)
    ⊎ (((words : List Text) → Defines sets name words → ⊥)
    × Yields (Yields (YieldsOfSet name)) usual uids
    × (uids ≢ []))

-- the classes of a word in a list of classes: those of a set where it begins with `@`, else its own
abbrev pub YieldsClasses :
    List (List Known) → List (List OfSet) → List Definition → Text → List Text → Type 0
YieldsClasses tables usual sets word uids =
    ((name : Text) × (word ≡ 64 ∷ name) × IsSet tables usual sets name uids)
    ⊎ (IsPlainWord word × YieldsClass tables word uids)

-- the nodes of a word: those of a group where it begins with `@`, else the one of that name
abbrev pub YieldsNodes : List Definition → Text → List Text → Type 0
YieldsNodes groups word names =
    ((name : Text) × (word ≡ 64 ∷ name) × Defines groups name names)
    ⊎ (IsPlainWord word × (names ≡ word ∷ []))

-- the transfer syntax of a word: the one that it names; a word that names none stands for itself
abbrev pub YieldsSyntax : List (List Known) → Text → List Text → Type 0
YieldsSyntax tables word uids =
    ((uid : Text) × Names tables word uid × (uids ≡ uid ∷ []))
    ⊎ (((uid : Text) → Names tables word uid → ⊥) × (uids ≡ word ∷ []))
