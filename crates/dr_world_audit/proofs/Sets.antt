-- Hops as keys: equal keys are the same.
use Rattle.std.proofs.Common.{◌≡◌, ◌⊎◌, inl, inr, refl, sym, ◌∙◌, ap, subst, Bool, true, false, ℕ, ◌<◌, List, [], ◌∷◌, ◌++◌, length, get_or, Contains, arith}
use Rattle.std.specs.Prelude.{◌↔◌, IsTrue}
use Rattle.std.specs.declared.cmp.Ordering.{Ordering}
use Rattle.std.specs.declared.cmp.Ordering.TheVariants.{Less, Equal, Greater}
use Rattle.std.specs.Ordering.{nat_cmp, ordering_index, ordering_then}
use Rattle.std.specs.List.Sorted.{IsNonDecreasingBy, IsPartitionPoint, IsSorted}
use Rattle.std.specs.BTreeSet.{BTreeSet, contains, Updates}
use Rattle.std.specs.BTreeMap.{is_at}
use Rattle.std.specs.Cmp.{Equal-is}
use Rattle.std.proofs.lemmas.Bool.{cases_lt}
use Rattle.std.proofs.lemmas.Cmp.{tied_itself}
use Rattle.std.proofs.lemmas.List.Sorted.{searchable_from_sorted}
use Rattle.std.proofs.lemmas.List.Elements.{Contains-append_left, Contains-append_right, Contains-push_cases}
use Rattle.std.proofs.lemmas.Bool.{cases_Bool}
use Rattle.std.proofs.lemmas.Map.Lookups.{exact_bytes, CmpEqualImpliesEq}
use Rattle.std.proofs.lemmas.Map.Views.{btree_set_contains_iff}
use Rattle.dr_base.specs.Texts.{Text, text_cmp}
use Rattle.dr_base.specs.declared.syntax.Syntax.{Syntax}
use Rattle.dr_base.specs.declared.syntax.Syntax.TheVariants.{Implicit, Explicit}
use Rattle.dr_base.specs.contracts.syntax.SyntaxOrd.TheImpl as syntaxes
use Rattle.dr_plan_model.proofs.Gathered.{Contains-here}
use Rattle.dr_route.specs.declared.key.Key.{Key}
use Rattle.dr_route.specs.contracts.key.KeyOrd.TheImpl as keys
use Rattle.dr_ledger.proofs.Maps.{texts}
use Rattle.dr_world_model.proofs.Lookups.{numbers}
use Rattle.dr_world_audit.specs.declared.hop.AuditHop.{AuditHop}
use Rattle.dr_world_audit.specs.contracts.hop.AuditHopOrd.TheImpl.Laws as hop_laws
use Rattle.dr_world_audit.specs.Orders.{hop_cmp}

then_equal : (o p : Ordering) → ordering_then o p ≡ Equal → (o ≡ Equal) × (p ≡ Equal)
then_equal Less p e = absurd (cc e)
then_equal Equal p e = (refl, e)
then_equal Greater p e = absurd (cc e)

syntax_exact : (a b : Syntax) → syntaxes.cmp-value.it a b ≡ Equal → a ≡ b
syntax_exact Implicit Implicit e = refl
syntax_exact Implicit Explicit e = absurd (cc e)
syntax_exact Explicit Implicit e = absurd (cc e)
syntax_exact Explicit Explicit e = refl

key_exact : (a b : Key) → keys.cmp-value.it a b ≡ Equal → a ≡ b
key_exact a b e =
    let c = then_equal (text_cmp a.class b.class) _ e in
    let s = then_equal (syntaxes.cmp-value.it a.syntax b.syntax) _ c.1 in
    let m = then_equal (text_cmp a.modality b.modality) (text_cmp a.station b.station) s.1 in
    let class = exact_bytes a.class b.class c.0 in
    let syntax = syntax_exact a.syntax b.syntax s.0 in
    let modality = exact_bytes a.modality b.modality m.0 in
    let station = exact_bytes a.station b.station m.1 in
    (λ j. record { class = class j; syntax = syntax j; modality = modality j; station = station j })

pub hop_exact : CmpEqualImpliesEq hop_cmp
hop_exact a b e =
    let u = then_equal (text_cmp a.uid b.uid) _ e in
    let f = then_equal (text_cmp a.from b.from) _ u.1 in
    let t = then_equal (text_cmp a.to b.to) _ f.1 in
    let k = then_equal (keys.cmp-value.it a.key b.key) _ t.1 in
    let s = then_equal (nat_cmp a.size b.size) (text_cmp a.digest b.digest) k.1 in
    let from_is = exact_bytes a.from b.from f.0 in
    let to_is = exact_bytes a.to b.to t.0 in
    let uid_is = exact_bytes a.uid b.uid u.0 in
    let key_is = key_exact a.key b.key k.0 in
    let size_is = numbers.exact a.size b.size s.0 in
    let digest_is = exact_bytes a.digest b.digest s.1 in
    (λ j. record { uid = uid_is j; from = from_is j; to = to_is j; key = key_is j; size = size_is j; digest = digest_is j })

-- ---- hops in their order
hops_rise : (hops : List AuditHop) (hop : AuditHop) → IsSorted hop_cmp hops → IsNonDecreasingBy (λ (h : AuditHop). ordering_index (hop_cmp h hop)) hops
hops_rise hops hop sorted = searchable_from_sorted hop_laws.total-law (λ (h : AuditHop). h) hops hop sorted

pub hop_found : (hops : List AuditHop) (hop : AuditHop) (k : ℕ) → k < length hops → ((d : AuditHop) → hop_cmp (get_or hops k d) hop ≡ Equal) → Contains hops hop
hop_found hops hop k lt equal = (k, lt, hop_exact (get_or hops k hop) hop (equal hop))

pub hop_not_found : (hops : List AuditHop) (hop : AuditHop) (i : ℕ) → IsSorted hop_cmp hops →
    (IsNonDecreasingBy (λ (h : AuditHop). ordering_index (hop_cmp h hop)) hops → IsPartitionPoint (λ (h : AuditHop). hop_cmp h hop ≡ Less) (λ (h : AuditHop). hop_cmp h hop ≡ Greater) hops i) →
    Contains hops hop → ⊥
hop_not_found hops hop i sorted parted has =
    let p = parted (hops_rise hops hop sorted) in
    let k : ℕ = has.0 in
    let in_range : k < length hops = has.1 in
    let at : get_or hops k hop ≡ hop = has.2 in
    let equal : hop_cmp (get_or hops k hop) hop ≡ Equal = ap (λ (h : AuditHop). hop_cmp h hop) at ∙ tied_itself hop_laws.total-law hop in
    elim (cases_lt k i) [
      | inl before ↦ (let less : hop_cmp (get_or hops k hop) hop ≡ Less = p.0 k hop (omega arith) before in let e : Less ≡ Equal = sym less ∙ equal in absurd (cc e))
      | inr after ↦ (let more : hop_cmp (get_or hops k hop) hop ≡ Greater = p.1 k hop (omega arith) in_range in let e : Greater ≡ Equal = sym more ∙ equal in absurd (cc e))
    ]

-- ---- names
pub name_in : (s : BTreeSet Text) (k : Text) → IsTrue (contains text_cmp s k) ↔ Contains s.keys k
name_in s k = btree_set_contains_iff texts.total texts.exact s k

pub name_added : (s n : BTreeSet Text) (k : Text) → Updates text_cmp s n k true → (m : Text) → Contains n.keys m ↔ (Contains s.keys m ⊎ (k ≡ m))
name_added s n k h m =
    let in_n = name_in n m in
    let in_s = name_in s m in (
      λ had. elim (cases_Bool (is_at (text_cmp k) m)) [
        | inl here ↦ inr (texts.exact k m ((Equal-is (text_cmp k m)).0 here))
        | inr apart ↦ inl (in_s.0 (sym (h.2 m apart) ∙ in_n.1 had))
      ],
      λ had. elim had [
        | inl before ↦ in_n.0 (h.0 m ∙ elim (cases_Bool (is_at (text_cmp k) m)) [
          | inl here ↦ rw here refl
          | inr apart ↦ rw apart (in_s.1 before)
        ])
        | inr same ↦
            let P : Text → Type 0 = λ x. Contains n.keys x in
            subst P same ((name_in n k).0 h.1)
      ],
    )

pub one_more_name : (old new done : List Text) (k : Text) → ((h : Text) → Contains old h ↔ Contains done h) → ((h : Text) → Contains new h ↔ (Contains old h ⊎ (k ≡ h))) → (h : Text) → Contains new h ↔ Contains (done ++ k ∷ []) h
one_more_name old new done k so_far added h = (
  λ had. elim ((added h).0 had) [
    | inl was ↦ Contains-append_left done (k ∷ []) h ((so_far h).0 was)
    | inr same ↦ Contains-append_right done (k ∷ []) h (subst (Contains (k ∷ [])) same (Contains-here k []))
  ],
  λ among. (added h).1 (elim (Contains-push_cases done k h among) [ inl was ↦ inl ((so_far h).1 was) | inr same ↦ inr same ]),
)

pub false_is : {b : Bool} → b ≡ false → b ≡ true → ⊥
false_is f t = (let e : false ≡ true = sym f ∙ t in cc e)
