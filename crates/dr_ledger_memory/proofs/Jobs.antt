-- The next job is that of the first row that is due.
use Rattle.std.proofs.Common.{◌≡◌, ◌≢◌, ℕ, true, length, Option, None, Some, refl, sym, ap, subst, ◌∙◌, inl, inr}
use mathlib.Core.Logic.{∥∥₁_elim}
use Rattle.std.specs.declared.cmp.Ordering.TheVariants.{Equal, Greater}
use Rattle.std.specs.Ordering.{nat_cmp, ordering_then}
use Rattle.std.specs.Cmp.{unsigned_Decides}
use Rattle.std.specs.declared.ops.Bound.TheVariants.{Included, Unbounded}
use Rattle.std.specs.BTreeMap as tree
use Rattle.std.specs.BTreeSet as sorted
use Rattle.std.specs.FinMap as map
use Rattle.std.specs.Str.{bytes_eq}
use Rattle.std.proofs.lemmas.Slice.Eq.{bytes_eq-Decides}
use Rattle.std.proofs.lemmas.Bool.{leb-true}
use Rattle.dr_base.specs.Texts.{Text, text_cmp}
use Rattle.dr_site.specs.Parts.{Part}
use Rattle.dr_ledger.specs.declared.content.Job.{Job}
use Rattle.dr_ledger.specs.declared.item.Instance.{Instance}
use Rattle.dr_ledger.specs.declared.item.Progress.{Progress}
use Rattle.dr_ledger.specs.declared.item.Progress.TheVariants.{Waiting, Held, Done, Dropped}
use Rattle.dr_ledger.specs.declared.content.NextRow.TheVariants.{Whole}
use Rattle.dr_ledger.specs.Bodies.{NextsWith}
use Rattle.dr_ledger.specs.Items.{instance_of}
use Rattle.dr_ledger.specs.Replies.{IsDue}
use Rattle.dr_ledger.specs.SiteRoutes.{site_routing}
use Rattle.std.specs.Option.{option_map}
use Rattle.dr_ledger.proofs.Growing.{inside}
use Rattle.dr_ledger.proofs.Ones.{items_or_not}
use Rattle.dr_ledger.proofs.Solid.{journals_are_solid}
use Rattle.dr_ledger_memory.specs.declared.parts.Parts.{Parts}
use Rattle.dr_ledger_memory.specs.Changes.{at}
use Rattle.dr_ledger_memory.specs.Contents.{content, data_sets}
use Rattle.dr_ledger_memory.specs.Dues.{Due, due_cmp, first_waiting, is_waiting, waits_since}
use Rattle.dr_ledger_memory.specs.Entries.{body_in, instance_in, row_in}
use Rattle.dr_ledger_memory.specs.Jobs.{IsJobOf}
use Rattle.dr_ledger_memory.specs.Sound.{PartsAreSound}
use Rattle.dr_ledger_memory.proofs.Lookups.{body_at, item_at, row_at}
use Rattle.dr_ledger_memory.proofs.NextDue.{IsFirst, first_of_all, found_is, left, passes, right, start, ties, waits_so}

pub waits_from : (o : Option Progress) (moment : ℕ) → waits_since o moment ≡ true → (tries : ℕ) × (o ≡ Some (Waiting tries moment))
waits_from None moment h = absurd (let e : ⊥ = cc in e)
waits_from (Some Done) moment h = absurd (let e : ⊥ = cc in e)
waits_from (Some Dropped) moment h = absurd (let e : ⊥ = cc in e)
waits_from (Some (Held why)) moment h = absurd (let e : ⊥ = cc in e)
waits_from (Some (Waiting tries due)) moment h = (tries, ap (λ d. Some (Waiting tries d)) ((unsigned_Decides due moment).0 h))

abbrev pub IsAfter : ℕ × Text → ℕ × Text → Type 0
IsAfter a b = ordering_then (nat_cmp a.0 b.0) (text_cmp a.1 b.1) ≡ Greater

-- among keys of one destination the moment and the uid decide
pub later_too : (key : Due) (dest : Text) (other : ℕ) (uid : Text) → key.0 ≡ dest → IsAfter (key.1.0, key.1.1) (other, uid) → due_cmp key (dest, (other, uid)) ≡ Greater
later_too key dest other uid goes h =
    let P : Text → Type 0 = λ d. text_cmp d dest ≡ Equal in
    ap (λ r. ordering_then r (ordering_then (nat_cmp key.1.0 other) (text_cmp key.1.1 uid))) (subst P (sym goes) (ties dest)) ∙ h

module _ (part : Part) (p : Parts) (sp : tree.IsOrdered text_cmp p.held) (sound : ∥ PartsAreSound part p ∥₁) (ordered : sorted.IsOrdered due_cmp p.waiting) (dest : Text) (now : ℕ) where
  abbrev pub found : Option Due
  found = first_waiting p.held dest now (sorted.keys_between due_cmp (Included (start dest)) Unbounded p.waiting)

  -- a row that is due has its key, and what is found comes first
  pub first_for : PartsAreSound part p → (uid : Text) (due : ℕ) → IsDue (content p) dest now uid due → IsFirst found (dest, (due, uid))
  first_for s uid due h =
      let row : row_in (at p.held uid) dest ≡ Some (Waiting h.0.0 due) = sym (row_at p sp uid dest) ∙ h.0.1 in
      first_of_all p.held dest now (dest, (due, uid)) refl h.1 (waits_so p.held uid dest h.0.0 due row) p.waiting ordered (s.covered uid dest h.0.0 due row)

  pub none_next : found ≡ None → NextsWith (content p) (data_sets p) dest now None
  none_next none uid due h = ∥∥₁_elim sound (λ x y. absurd x) (λ s. let P : Option Due → Type 0 = λ o. IsFirst o (dest, (due, uid)) in subst P none (first_for s uid due h))

  module _ (key : Due) (is : found ≡ Some key) (job : Job) (j : IsJobOf (at p.held key.1.1) key.1.1 job) where
    facts : (passes p.held dest now key ≡ true) × (is_waiting p.held key ≡ true)
    facts = found_is p.held dest now (sorted.keys_between due_cmp (Included (start dest)) Unbounded p.waiting) key is

    goes : key.0 ≡ dest
    goes = (bytes_eq-Decides key.0 dest).0 (left (bytes_eq key.0 dest) _ facts.0)

    known : map.get (content p).items key.1.1 ≡ Some j.entry.instance
    known = item_at p sp key.1.1 ∙ ap instance_in j.there

    is_it : PartsAreSound part p → j.entry.instance ≡ instance_of job
    is_it s =
        let own = (s.whole key.1.1 j.entry j.there).own job.body j.body in
        let named : j.entry.instance.uid ≡ key.1.1 = (journals_are_solid (site_routing part) s.journalled.0 (content p) s.journalled.1).named key.1.1 j.entry.instance known in
        λ i. record {
          uid = (named ∙ sym j.uid_is) i;
          key = sym j.key i;
          size = (ap (λ (x : Instance). x.size) own.3 ∙ ap length own.2) i;
          digest = (ap (λ (x : Instance). x.digest) own.3 ∙ ap (λ b. (instance_of (record { uid = job.uid; key = job.key; body = b })).digest) own.2) i;
        }

    its_instance : j.entry.instance ≡ instance_of job
    its_instance = elim (items_or_not j.entry.instance (instance_of job)) [
      | inl same ↦ same
      | inr differ ↦ absurd (∥∥₁_elim sound (λ x y. absurd x) (λ s. differ (is_it s)))
    ]

    row : (tries : ℕ) × (map.get (content p).rows (job.uid, dest) ≡ Some (Waiting tries key.1.0))
    row =
        let w = waits_from (row_in (at p.held key.1.1) key.0) key.1.0 facts.1 in
        (w.0, ap (λ u. map.get (content p).rows (u, dest)) j.uid_is ∙ (row_at p sp key.1.1 dest ∙ (ap (row_in (at p.held key.1.1)) (sym goes) ∙ w.1)))

    pub next_is : NextsWith (content p) (data_sets p) dest now (Some (Whole job))
    next_is = (
      record {
        due = key.1.0;
        row = (row, leb-true key.1.0 now (right (bytes_eq key.0 dest) _ facts.0));
        has = ap (map.get (content p).items) j.uid_is ∙ (known ∙ ap Some its_instance);
        least = λ uid other h greater. ∥∥₁_elim sound (λ x y. absurd x) (λ s.
            let P : Option Due → Type 0 = λ o. IsFirst o (dest, (other, uid)) in
            let first : due_cmp key (dest, (other, uid)) ≢ Greater = subst P is (first_for s uid other h) in
            first (later_too key dest other uid goes (subst (λ u. IsAfter (key.1.0, u) (other, uid)) j.uid_is greater)));
      },
      ap (map.get (data_sets p)) j.uid_is ∙ (body_at p sp key.1.1 ∙ (ap body_in j.there ∙ j.body)),
    )

-- what is found, by what is shown of it
pub no_key : (o : Option Due) → None ≡ option_map (λ (key : Due). key.1.1) o → o ≡ None
no_key None h = refl
no_key (Some key) h = absurd (let e : ⊥ = cc in e)

pub key_of : (o : Option Due) (uid : Text) → Some uid ≡ option_map (λ (key : Due). key.1.1) o → (key : Due) × (o ≡ Some key) × (key.1.1 ≡ uid)
key_of None uid h = absurd (let e : ⊥ = cc in e)
key_of (Some key) uid h = (key, refl, sym (inside uid key.1.1 h))
