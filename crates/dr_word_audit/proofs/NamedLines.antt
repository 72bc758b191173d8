-- The lines of the node of a name, looked for one node after another.
use Rattle.std.proofs.Common.{◌≡◌, ◌∙◌, ◌+◌, ◌<◌, ◌≤◌, ◌∷◌, [], ℕ, Bool, true, false, List, cond, drop, get_or, length, suc, refl, sym, ap, arith}
use Rattle.std.specs.Str.{bytes_eq}
use Rattle.std.proofs.lemmas.List.{drop_all}
use Rattle.std.proofs.Math.Seq.{drop-cons}
use Rattle.dr_base.specs.Texts.{Text}
use Rattle.dr_ledger.specs.Books.{Line}
use Rattle.dr_world_audit.specs.Sites.{lines_at}
use Rattle.dr_world_audit.specs.declared.audit.NodeJournal.{NodeJournal}
use Rattle.dr_word_audit.specs.Places.{lines_named}

next : (i : ℕ) → suc i ≡ i + 1
next i = omega arith

module _ (name : Text) (nodes : List NodeJournal) (i : ℕ) (node : NodeJournal) (lt : i < length nodes) (at : node ≡ get_or nodes i node)
    (so_far : lines_named name nodes ≡ lines_named name (drop i nodes)) where
  first : lines_named name nodes ≡ cond (bytes_eq node.name name) (lines_at node) (lines_named name (drop (suc i) nodes))
  first = so_far ∙ ap (lines_named name) (drop-cons nodes i node lt ∙ ap (λ (n : NodeJournal). n ∷ drop (suc i) nodes) (sym at))

  -- this one has the name
  pub it_is : bytes_eq node.name name ≡ true → lines_at node ≡ lines_named name nodes
  it_is same = sym (first ∙ ap (λ b. cond b (lines_at node) (lines_named name (drop (suc i) nodes))) same)

  -- it has another one
  pub goes_on : bytes_eq node.name name ≡ false → lines_named name nodes ≡ lines_named name (drop (i + 1) nodes)
  goes_on other = first ∙ ap (λ b. cond b (lines_at node) (lines_named name (drop (suc i) nodes))) other ∙ ap (λ n. lines_named name (drop n nodes)) (next i)

-- there is none
pub is_none : (name : Text) (nodes : List NodeJournal) (i : ℕ) → length nodes ≤ i → lines_named name nodes ≡ lines_named name (drop i nodes) → [] ≡ lines_named name nodes
is_none name nodes i past so_far = sym (so_far ∙ ap (lines_named name) (drop_all i nodes past))
