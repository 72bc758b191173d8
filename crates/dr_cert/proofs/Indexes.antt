-- The ranks of stops, gathered line by line, and the index that they become.
use Rattle.std.proofs.Common.{◌≡◌, ℕ, inl, inr, refl, sym, ◌∙◌, ap, subst, List, [], ◌∷◌, ◌++◌, map, get_or, Contains, Some, None, false, arith}
use Rattle.std.specs.declared.cmp.Ordering.TheVariants.{Less}
use Rattle.std.specs.BTreeMap.{BTreeMap, get, Updates, is_at, keys}
use Rattle.std.specs.Cmp.{Equal-is}
use Rattle.std.specs.List.Sorted.{IsStrictlySortedBy}
use Rattle.std.proofs.lemmas.Bool.{cases_Bool}
use Rattle.std.proofs.lemmas.List.{get_or-map, length-map}
use Rattle.std.proofs.lemmas.List.Elements.{Contains-push, Contains-push_cases, Contains-append_left}
use Rattle.std.proofs.lemmas.Option.{same_Some}
use Rattle.std.proofs.lemmas.Map.Keys.{Less-from_sorted}
use Rattle.std.proofs.lemmas.Map.Views.{btree_map_get_iff}
use Rattle.dr_cert_hops.proofs.Rows.{map_has, map_of, map_pairs}
use Rattle.dr_plan_model.proofs.Gathered.{nothing_in_nil}
use Rattle.dr_plan_sound.specs.declared.certificate.Stop.{Stop}
use Rattle.dr_plan_sound.specs.declared.certificate.Line.{Line}
use Rattle.dr_plan_sound.specs.contracts.certificate.StopOrd.TheImpl.Laws as laws
use Rattle.dr_plan_sound.specs.Stops.{stop_cmp}
use Rattle.dr_cert.specs.Indexing.{line_of, AreRanksOf, IsIndexOf}
use Rattle.dr_plan_sound.proofs.SameStops.{stop_exact, same_stop_or_not}

not_at : (a b : Stop) → (b ≡ a → ⊥) → is_at (stop_cmp a) b ≡ false
not_at a b apart = elim (cases_Bool (is_at (stop_cmp a) b)) [
  | inl same ↦ absurd (apart (sym (stop_exact a b ((Equal-is (stop_cmp a b)).0 same))))
  | inr other ↦ other
]

pub ranks_none : (m : BTreeMap Stop ℕ) → m.entries ≡ [] → AreRanksOf [] m
ranks_none m empty = record {
  sound = λ stop rank e. (let none : get stop_cmp m stop ≡ None = rw empty refl in absurd (cc (none, e)));
  whole = λ stop has. absurd (nothing_in_nil _ has.1);
}

pub ranks_more : (lines : List Line) (line : Line) (m n : BTreeMap Stop ℕ) → AreRanksOf lines m → Updates stop_cmp m n line.stop (Some line.rank) → AreRanksOf (lines ++ line ∷ []) n
ranks_more lines line m n so_far updates = record {
  sound = λ stop rank e. elim (same_stop_or_not stop line.stop) [
    | inl same ↦
        let here : Some line.rank ≡ Some rank = sym updates.1 ∙ (ap (λ (s : Stop). get stop_cmp n s) (sym same) ∙ e) in
        let one : line.rank ≡ rank = same_Some line.rank rank here in
        let P : ℕ → Type 0 = λ r. Contains (lines ++ line ∷ []) (record { stop = stop; rank = r }) in
        let Q : Stop → Type 0 = λ s. Contains (lines ++ line ∷ []) (record { stop = s; rank = line.rank }) in
        subst P one (subst Q (sym same) (Contains-push lines line))
    | inr other ↦ Contains-append_left lines (line ∷ []) (record { stop = stop; rank = rank }) (so_far.sound stop rank (sym (updates.2 stop (not_at line.stop stop other)) ∙ e))
  ];
  whole = λ stop has. elim (same_stop_or_not stop line.stop) [
    | inl same ↦ (line.rank, ap (λ (s : Stop). get stop_cmp n s) same ∙ updates.1)
    | inr other ↦ elim (Contains-push_cases lines line (record { stop = stop; rank = has.0 }) has.1) [
      | inl before ↦ (let found = so_far.whole stop (has.0, before) in (found.0, updates.2 stop (not_at line.stop stop other) ∙ found.1))
      | inr same ↦ absurd (other (sym (ap (λ (l : Line). l.stop) same)))
    ]
  ];
}

pair_of : Line → Stop × ℕ
pair_of line = (line.stop, line.rank)

pub index_from : (lines index : List Line) (m : BTreeMap Stop ℕ) → AreRanksOf lines m → IsStrictlySortedBy stop_cmp (keys m) → index ≡ map line_of m.entries → IsIndexOf lines index
index_from lines index m ranks ordered same =
    let get_iff = btree_map_get_iff laws.total-law stop_exact m ordered in
    let P : List Line → Type 0 = λ ls. IsIndexOf lines ls in
    subst P (sym same) (record {
      sound = λ line among.
          let entry = map_has line_of m.entries line among in
          let Q : Line → Type 0 = λ l. Contains lines l in
          subst Q entry.2 (ranks.sound entry.0.0 entry.0.1 ((get_iff entry.0.0 entry.0.1).1 entry.1));
      whole = λ stop has.
          let rank = ranks.whole stop has in
          (rank.0, map_of line_of m.entries (stop, rank.0) ((get_iff stop rank.0).0 rank.1));
      sorted = map_pairs line_of (λ p q. stop_cmp p.0 q.0 ≡ Less) (λ a b. stop_cmp a.stop b.stop ≡ Less) m.entries (λ p q in_p in_q less. less)
          (λ i j d before h.
          let n = length-map m.entries (λ e. e.0) in
          let less = Less-from_sorted stop_cmp (keys m) i j d.0 ordered before (omega (arith, n, h)) in
          let at_i = get_or-map (λ e. e.0) m.entries i d d.0 (omega arith) in
          let at_j = get_or-map (λ e. e.0) m.entries j d d.0 h in
          let A : Stop → Type 0 = λ s. stop_cmp s (get_or m.entries j d).0 ≡ Less in
          let B : Stop → Type 0 = λ s. stop_cmp (get_or (keys m) i d.0) s ≡ Less in
          subst A at_i (subst B at_j less));
    })
