-- Names, and the names of nodes.
use Rattle.std.proofs.Common.{◌≡◌, ◌≢◌, ℕ, ◌+◌, ◌<◌, ◌≤◌, ◌↔◌, ◌⊎◌, inl, inr, sym, ◌∙◌, ap, subst, false, true, List, [], ◌∷◌, map, length, get_or, take, ◌==◌, IsTrue, codes, Contains, Bool, not, nat_cmp}
use Rattle.std.specs.Prelude.{All}
use Rattle.std.specs.Prelude.{AllPairs}
use Rattle.std.specs.BTreeSet.{BTreeSet, contains, Updates}
use Rattle.std.specs.Cmp.Lexicographic.{slice_cmp}
use Rattle.std.proofs.lemmas.List.{get_or-map, length-map, take_all}
use Rattle.dr_route.specs.Names.{HasName}
use Rattle.dr_plan_text.proofs.Repeats.{Seen, seen_one_more, seen_again}
use Rattle.std.proofs.lemmas.Bool.{false≢true}
use Rattle.dr_base.specs.Texts.{Text}
use Rattle.dr_plan_model.specs.Formed.{IsName, IsTrimmed}
use Rattle.dr_plan_text.specs.declared.words.NodeText.{NodeText}

pub some_text : (text : Text) → false ≡ (length text == 0) → text ≡ [] → ⊥
some_text [] e h = cc
some_text (x ∷ text) e h = cc

pub name_of : (text : Text) → false ≡ (length text == 0) → length text ≤ 16 → (((text ≡ codes "*") ⊎ (text ≡ codes "-")) → IsTrue false) →
    All (λ byte. (32 ≤ byte) × (byte < 127) × (byte ≢ 92)) text → IsTrimmed text → IsName text
name_of text some short apart printable trimmed = record {
  some = some_text text some;
  short = short;
  printable = printable;
  trimmed = trimmed;
  not_any = λ e. false≢true (apart (inl e));
  not_local = λ e. false≢true (apart (inr e));
}

abbrev pub names : List NodeText → List Text
names nodes = map (λ (node : NodeText). node.name) nodes

-- the name of the node at an index
name_at : (nodes : List NodeText) (i : ℕ) (node : NodeText) → i < length nodes → node ≡ get_or nodes i node → node.name ≡ get_or (names nodes) i node.name
name_at nodes i node h at = ap (λ (n : NodeText). n.name) at ∙ sym (get_or-map (λ (n : NodeText). n.name) nodes i node node.name h)

pub name_seen : (seen new : BTreeSet Text) (nodes : List NodeText) (i : ℕ) (node : NodeText) (copy : Text) (added : Bool) → i < length nodes → node ≡ get_or nodes i node → copy ≡ node.name →
    Seen seen (take i (names nodes)) → Updates (slice_cmp nat_cmp) seen new copy true → added ≡ not (contains (slice_cmp nat_cmp) seen copy) → added ≡ true → Seen new (take (i + 1) (names nodes))
name_seen seen new nodes i node copy added h at is so_far updates told fresh =
    seen_one_more seen new (names nodes) i node.name copy added (rw (length-map nodes (λ (n : NodeText). n.name)) h) (name_at nodes i node h at) is so_far updates told fresh

pub name_again : (seen : BTreeSet Text) (nodes : List NodeText) (i : ℕ) (node : NodeText) (copy : Text) (added : Bool) → i < length nodes → node ≡ get_or nodes i node → copy ≡ node.name →
    Seen seen (take i (names nodes)) → added ≡ not (contains (slice_cmp nat_cmp) seen copy) → added ≡ false → AllPairs (λ s t. s ≢ t) (names nodes) → ⊥
name_again seen nodes i node copy added h at is so_far told old apart =
    seen_again seen (names nodes) i node.name copy added (rw (length-map nodes (λ (n : NodeText). n.name)) h) (name_at nodes i node h at) is so_far told old apart

-- all names have been seen
pub names_seen : (seen : BTreeSet Text) (nodes : List NodeText) (i : ℕ) → length nodes ≤ i → Seen seen (take i (names nodes)) →
    AllPairs (λ s t. s ≢ t) (names nodes) × ((t : Text) → HasName seen t ↔ Contains (names nodes) t)
names_seen seen nodes i h so_far =
    let all : take i (names nodes) ≡ names nodes = take_all i (names nodes) (rw (length-map nodes (λ (n : NodeText). n.name)) h) in
    (let P : List Text → Type 0 = λ xs. AllPairs (λ s t. s ≢ t) xs in subst P all so_far.apart, λ t. rw all at (so_far.same t))
