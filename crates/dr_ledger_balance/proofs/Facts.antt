-- Facts of balances: what is written is read, and lines have one balance.
use Rattle.std.proofs.Common.{◌≡◌, ◌∙◌, ◌+◌, ◌≤◌, ℕ, List, [], ◌∷◌, All, Result, Ok, Err, inl, inr, refl, sym, ap, subst, arith, get_or, map as mapped}
use Rattle.std.specs.FinMap as map
use Rattle.std.specs.FinSet as set
use Rattle.std.specs.List.{AllByRecursion}
use Rattle.std.specs.List.Sorted.{IsStrictlySortedBy}
use Rattle.std.specs.Map.{keys_of}
use Rattle.std.specs.declared.cmp.Ordering.{Ordering}
use Rattle.std.specs.declared.cmp.Ordering.TheVariants.{Less, Equal, Greater}
use Rattle.std.proofs.lemmas.List.{get_or_default}
use Rattle.std.proofs.lemmas.List.Elements.{All-head, All-tail}
use Rattle.std.proofs.lemmas.Map.Keys.{Less-from_sorted}
use Rattle.hex.specs.Hex.{encode_lower}
use Rattle.sha2.specs.Sha256.{sha256}
use Rattle.dr_base.specs.Texts.{Text, text_cmp}
use Rattle.dr_ledger.specs.Pairs.{Pair, pair_cmp}
use Rattle.dr_ledger.specs.declared.item.Instance.{Instance}
use Rattle.dr_ledger.specs.declared.item.Progress.{Progress}
use Rattle.dr_ledger.proofs.Maps.{text_pairs, texts}
use Rattle.dr_ledger_history.specs.Contents.{Content}
use Rattle.dr_ledger_history.proofs.Ordered.{one_map, one_set}
use Rattle.dr_ledger_balance.specs.Adding.{values_of}
use Rattle.dr_ledger_balance.specs.Balances.{FitsBalance, IsInOrder, balance_text, body_of}
use Rattle.dr_ledger_balance.specs.Contents.{by_uid, content_in}
use Rattle.dr_ledger_balance.specs.Laws.{Gave, LinesHaveOneBalance, TreesAreSaid}
use Rattle.dr_ledger_balance.specs.Orders.{HasNeighbors, item_cmp, row_cmp}
use Rattle.dr_ledger_balance.specs.Reading.{HasSomewhere, IsMisplaced, Reads}
use Rattle.dr_ledger_balance.specs.declared.balance.Balance.{Balance}
use Rattle.dr_ledger_balance.specs.declared.fault.BalanceFault.{BalanceFault}
use Rattle.dr_ledger_balance.specs.declared.fault.BalanceFault.TheVariants as fault
use Rattle.dr_ledger_balance.proofs.Bodies.{made, one_balance}
use Rattle.dr_ledger_balance.proofs.Ending.{digits_long, one_body, same_ends}

-- ---- order

-- in a list in order one comes before the next
orderly : {X : Type 0} (cmp : X → X → Ordering) (said : Ordering) (xs : List X) → IsStrictlySortedBy cmp xs → HasNeighbors cmp said xs → said ≡ Less
orderly cmp said xs rises n =
    let less = Less-from_sorted cmp xs n.place (n.place + 1) n.one rises (omega arith) n.within in
    let next : get_or xs (n.place + 1) n.one ≡ n.next = get_or_default xs (n.place + 1) n.one n.next n.within ∙ sym n.is_next in
    sym n.so ∙ ap (λ t. cmp t n.next) n.is_one ∙ ap (λ t. cmp (get_or xs n.place n.one) t) (sym next) ∙ less

all_orderly : (b : Balance) (said : Ordering) → IsInOrder b → HasSomewhere said b → said ≡ Less
all_orderly b said is (inl n) = orderly item_cmp said b.items is.items n
all_orderly b said is (inr (inl n)) = orderly pair_cmp said b.arrivals is.arrivals n
all_orderly b said is (inr (inr (inl n))) = orderly text_cmp said b.kept is.kept n
all_orderly b said is (inr (inr (inr n))) = orderly row_cmp said b.rows is.rows n

module _ (b : Balance) (most : ℕ) (fits : FitsBalance b) (is : IsInOrder b) (few : b.count ≤ most) where
  well_placed : (said : Ordering) → (said ≡ Less → ⊥) → IsMisplaced said (balance_text b) most → ⊥
  well_placed said not_less (c, text, low, somewhere) =
      let same : c ≡ b = one_balance c b text.0 fits (sym text.1) in
      not_less (all_orderly b said is (subst (HasSomewhere said) same somewhere))

  pub gave : (answer : Result Balance BalanceFault) → Reads (balance_text b) most answer → Gave b answer
  gave (Ok c) h = one_balance c b h.0.0 fits (sym h.0.1)
  gave (Err fault.Cut) h = h (body_of b) (encode_lower (sha256 (body_of b))) (digits_long (body_of b), refl)
  gave (Err fault.Changed) (body, digits, ends, differs) =
      let same = same_ends body (body_of b) digits (encode_lower (sha256 (body_of b))) ends.0 (digits_long (body_of b)) (sym ends.1) in
      differs (same.1 ∙ ap (λ (t : Text). encode_lower (sha256 t)) (sym same.0))
  gave (Err fault.NoBalance) (body, e, none) = none b fits (sym (one_body (body_of b) body e))
  gave (Err fault.MoreThanSaid) (c, text, more) =
      let same : c.count ≡ b.count = ap (λ (x : Balance). x.count) (one_balance c b text.0 fits (sym text.1)) in
      omega (arith, same, more, few)
  gave (Err fault.OutOfOrder) h = well_placed Greater (λ e. cc e) h
  gave (Err fault.Twice) h = well_placed Equal (λ e. cc e) h
  gave (Err fault.Memory) h = tt

-- ---- one balance of lines

items_below : (uid : Text) (items : List Instance) (i : Instance) → i.uid ≡ uid → AllByRecursion (λ j. item_cmp i j ≡ Less) items → AllByRecursion (λ k. text_cmp uid k ≡ Less) (keys_of (mapped by_uid items))
items_below uid [] i e h = tt
items_below uid (j ∷ js) i e h = (ap (λ (t : Text). text_cmp t j.uid) (sym e) ∙ h.0, items_below uid js i e h.1)

items_rise : (items : List Instance) → IsStrictlySortedBy item_cmp items → IsStrictlySortedBy text_cmp (keys_of (mapped by_uid items))
unfolding IsStrictlySortedBy
items_rise [] h = tt
items_rise (i ∷ is) h = (items_below i.uid is i refl h.0, items_rise is h.1)

rows_below : (r : Pair × Progress) (rows : List (Pair × Progress)) → AllByRecursion (λ s. row_cmp r s ≡ Less) rows → AllByRecursion (λ k. pair_cmp r.0 k ≡ Less) (keys_of rows)
rows_below r [] h = tt
rows_below r (s ∷ ss) h = (h.0, rows_below r ss h.1)

rows_rise : (rows : List (Pair × Progress)) → IsStrictlySortedBy row_cmp rows → IsStrictlySortedBy pair_cmp (keys_of rows)
unfolding IsStrictlySortedBy
rows_rise [] h = tt
rows_rise (r ∷ rs) h = (rows_below r rs h.0, rows_rise rs h.1)

values_are : (items : List Instance) → values_of (mapped by_uid items) ≡ items
values_are [] = refl
values_are (i ∷ is) = ap (λ (l : List Instance). i ∷ l) (values_are is)

pub one_of_lines : LinesHaveOneBalance
one_of_lines lines b c p q is it =
    let content : content_in b ≡ content_in c = is.told.fold ∙ sym it.told.fold in
    let n : b.count ≡ c.count = sym is.counted ∙ it.counted in
    let i : mapped by_uid b.items ≡ mapped by_uid c.items =
    one_map texts (mapped by_uid b.items) (mapped by_uid c.items) (items_rise b.items p.items) (items_rise c.items q.items) (ap (λ (x : Content). x.items) content) in
    let j : b.items ≡ c.items = sym (values_are b.items) ∙ ap values_of i ∙ values_are c.items in
    let a = one_set text_pairs b.arrivals c.arrivals p.arrivals q.arrivals (ap (λ (x : Content). x.arrivals) content) in
    let k = one_set texts b.kept c.kept p.kept q.kept (ap (λ (x : Content). x.kept) content) in
    let r = one_map text_pairs b.rows c.rows (rows_rise b.rows p.rows) (rows_rise c.rows q.rows) (ap (λ (x : Content). x.rows) content) in
    ap (λ (x : ℕ). made x b.items b.arrivals b.kept b.rows) n ∙ ap (λ (x : List Instance). made c.count x b.arrivals b.kept b.rows) j
    ∙ ap (λ (x : List Pair). made c.count c.items x b.kept b.rows) a ∙ ap (λ (x : List Text). made c.count c.items c.arrivals x b.rows) k
    ∙ ap (λ (x : List (Pair × Progress)). made c.count c.items c.arrivals c.kept x) r

-- ---- trees

same_entries : (es : List (Text × Instance)) → All (λ e. e.0 ≡ e.1.uid) es → mapped by_uid (values_of es) ≡ es
same_entries [] h = refl
same_entries (e ∷ es) h =
    ap (λ (u : Text). (u, e.1) ∷ mapped by_uid (values_of es)) (sym (All-head (λ e. e.0 ≡ e.1.uid) e es h))
    ∙ ap (λ (l : List (Text × Instance)). e ∷ l) (same_entries es (All-tail (λ e. e.0 ≡ e.1.uid) e es h))

items_under : (items : List Instance) → IsStrictlySortedBy text_cmp (keys_of (mapped by_uid items)) → IsStrictlySortedBy item_cmp items
unfolding IsStrictlySortedBy
items_under [] h = tt
items_under (i ∷ is) h = (each is h.0, items_under is h.1)
  where
    each : (js : List Instance) → AllByRecursion (λ k. text_cmp i.uid k ≡ Less) (keys_of (mapped by_uid js)) → AllByRecursion (λ j. item_cmp i j ≡ Less) js
    each [] h = tt
    each (j ∷ js) h = (h.0, each js h.1)

rows_under : (rows : List (Pair × Progress)) → IsStrictlySortedBy pair_cmp (keys_of rows) → IsStrictlySortedBy row_cmp rows
unfolding IsStrictlySortedBy
rows_under [] h = tt
rows_under (r ∷ rs) h = (each rs h.0, rows_under rs h.1)
  where
    each : (ss : List (Pair × Progress)) → AllByRecursion (λ k. pair_cmp r.0 k ≡ Less) (keys_of ss) → AllByRecursion (λ s. row_cmp r s ≡ Less) ss
    each [] h = tt
    each (s ∷ ss) h = (h.0, each ss h.1)

pub trees_said : TreesAreSaid
trees_said count items arrivals kept rows is under =
    let same = same_entries items.entries under in (
      record {
        items = items_under (values_of items.entries) (subst (λ (l : List (Text × Instance)). IsStrictlySortedBy text_cmp (keys_of l)) (sym same) is.items_rise);
        arrivals = is.arrivals_rise;
        kept = is.kept_rise;
        rows = rows_under rows.entries is.rows_rise;
      },
      λ j. record {
        items = map.from_entries (same j);
        arrivals = set.from_list arrivals.keys;
        kept = set.from_list kept.keys;
        rows = map.from_entries rows.entries;
      },
    )
