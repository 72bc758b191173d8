-- The uid that is due is that of the first row that is due.
use Rattle.std.proofs.Common.{◌≡◌, ◌≢◌, ℕ, true, Option, None, Some, sym, ap, subst, ◌∙◌}
use mathlib.Core.Logic.{∥∥₁_elim}
use Rattle.std.specs.declared.cmp.Ordering.TheVariants.{Greater}
use Rattle.std.specs.declared.ops.Bound.TheVariants.{Included, Unbounded}
use Rattle.std.specs.BTreeMap as tree
use Rattle.std.specs.BTreeSet as sorted
use Rattle.std.specs.FinMap as map
use Rattle.std.specs.Option.{option_map}
use Rattle.std.specs.Str.{bytes_eq}
use Rattle.std.proofs.lemmas.Slice.Eq.{bytes_eq-Decides}
use Rattle.std.proofs.lemmas.Bool.{leb-true}
use Rattle.dr_base.specs.Texts.{Text, text_cmp}
use Rattle.dr_site.specs.Parts.{Part}
use Rattle.dr_ledger.specs.declared.item.Progress.TheVariants.{Waiting}
use Rattle.dr_ledger.specs.Replies.{Dues}
use Rattle.dr_ledger_memory.specs.declared.parts.Parts.{Parts}
use Rattle.dr_ledger_memory.specs.Changes.{at}
use Rattle.dr_ledger_memory.specs.Contents.{content}
use Rattle.dr_ledger_memory.specs.Dues.{Due, due_cmp, is_waiting}
use Rattle.dr_ledger_memory.specs.Entries.{row_in}
use Rattle.dr_ledger_memory.specs.Sound.{PartsAreSound}
use Rattle.dr_ledger_memory.proofs.Jobs.{first_for, found, key_of, later_too, no_key, none_next, waits_from}
use Rattle.dr_ledger_memory.proofs.Lookups.{row_at}
use Rattle.dr_ledger_memory.proofs.NextDue.{IsFirst, found_is, left, passes, right, start}

module _ (part : Part) (p : Parts) (sp : tree.IsOrdered text_cmp p.held) (sound : ∥ PartsAreSound part p ∥₁)
    (ordered : sorted.IsOrdered due_cmp p.waiting) (dest : Text) (now : ℕ) where
  abbrev its_found : Option Due
  its_found = found part p sp sound ordered dest now

  of_key : (key : Due) → its_found ≡ Some key → Dues (content p) dest now (Some key.1.1)
  of_key key is =
      let facts : (passes p.held dest now key ≡ true) × (is_waiting p.held key ≡ true) =
      found_is p.held dest now (sorted.keys_between due_cmp (Included (start dest)) Unbounded p.waiting) key is in
      let goes : key.0 ≡ dest = (bytes_eq-Decides key.0 dest).0 (left (bytes_eq key.0 dest) _ facts.0) in
      let w = waits_from (row_in (at p.held key.1.1) key.0) key.1.0 facts.1 in
      let row : map.get (content p).rows (key.1.1, dest) ≡ Some (Waiting w.0 key.1.0) =
      row_at p sp key.1.1 dest ∙ (ap (row_in (at p.held key.1.1)) (sym goes) ∙ w.1) in
      let soon = leb-true key.1.0 now (right (bytes_eq key.0 dest) _ facts.0) in (
        key.1.0,
        ((w.0, row), soon),
        λ other moment h greater. ∥∥₁_elim sound (λ x y. absurd x) (λ s.
            let P : Option Due → Type 0 = λ o. IsFirst o (dest, (moment, other)) in
            let first : due_cmp key (dest, (moment, other)) ≢ Greater =
            subst P is (first_for part p sp sound ordered dest now s other moment h) in
            first (later_too key dest moment other goes greater)),
      )

  pub due_is : (uid : Option Text) → uid ≡ option_map (λ (key : Due). key.1.1) its_found → Dues (content p) dest now uid
  due_is None h = none_next part p sp sound ordered dest now (no_key its_found h)
  due_is (Some uid) h =
      let k = key_of its_found uid h in
      subst (λ (u : Text). Dues (content p) dest now (Some u)) k.2 (of_key k.0 k.1)
