-- Each text of bytes is read, or can't be.
use Rattle.std.proofs.Common.{◌≡◌, ◌⊎◌, ℕ, zero, suc, ◌+◌, ◌-◌, ◌*◌, ◌/◌, ◌%◌, ◌^◌, ◌<◌, ◌≤◌, List, [], ◌∷◌, ◌++◌, length, get_or, take, drop, map, Bool, true, false, cond, eqb, Option, Some, None, refl, sym, ap, subst, ◌∙◌, arith, inl, inr}
use Rattle.std.specs.Option.{option_map}
use Rattle.std.specs.Int.{w32, to_be_bytes}
use Rattle.std.specs.List.{AllByRecursion}
use Rattle.std.proofs.lemmas.List.{get_or-drop, get_or-take, get_or_past, length-take, length-drop, length-append, take-append-drop, length-take-le}
use Rattle.std.proofs.lemmas.Bool.{cases_lt}
use Rattle.dr_base.specs.Runs.{Run, AreParts}
use Rattle.dr_pdu.specs.declared.pdu.Pdv.{Pdv}
use Rattle.dr_pdu.specs.declared.pdu.ContextProposal.{ContextProposal}
use Rattle.dr_pdu.specs.declared.pdu.ContextAnswer.{ContextAnswer}
use Rattle.dr_base.specs.Padding.{unpadded}
use Rattle.dr_pdu.specs.Items.{Item, StartsPduItem, AreItems, StartsPdv, bodies, first_body}
use Rattle.dr_pdu.specs.Grammar.{IsProposal, IsAnswer}
use Rattle.dr_pdu.proofs.Bytes.{IsBytes, four_bytes}
use Rattle.dr_pdu.proofs.ItemLemmas.{starts, item_parts}
use Rattle.dr_pdu.proofs.PdvLemmas.{pdv_parts}
use Rattle.dr_pdu.proofs.DecodeLemmas.{front6}
use Rattle.dr_pdu.proofs.ContextLemmas.{behind4, proposal_says, is_proposal, answer_says, is_answer}

-- a value that meets R, or there is none
abbrev pub Found : {Y : Type 0} → (Y → Type 0) → Type 0
Found {Y} R = ((y : Y) × R y) ⊎ ((y : Y) → R y → ⊥)

pub bytes_drop : (n : ℕ) (t : List ℕ) → IsBytes t → IsBytes (drop n t)
bytes_drop n t b = λ i. subst (λ (x : ℕ). x < 256) (sym (get_or-drop n t i 0)) (b (n + i))

pub bytes_take : (n : ℕ) (t : List ℕ) → IsBytes t → IsBytes (take n t)
bytes_take n t b = λ i. at i (cases_lt i n)
  where
    at : (i : ℕ) → (i < n) ⊎ (n ≤ i) → get_or (take n t) i 0 < 256
    at i (inl h) = subst (λ (x : ℕ). x < 256) (sym (get_or-take n t i 0 h)) (b i)
    at i (inr h) = subst (λ (x : ℕ). x < 256) (sym (get_or_past (take n t) i 0 (omega (arith, h, length-take n t)))) (omega arith)

-- ---- parts in front of a text

record Started {X : Type 0} (Starts : List ℕ → X → List ℕ → Type 0) (Good : X → Type 0) (text : List ℕ) : Type 0 where
  part : X
  rest : List ℕ
  starts_here : Starts text part rest
  good : Good part
  bytes : IsBytes rest
  shorter : length rest < length text

abbrev MayStart : {X : Type 0} → (List ℕ → X → List ℕ → Type 0) → (X → Type 0) → List ℕ → Type 0
MayStart {X} Starts Good text = Started Starts Good text ⊎ ((x : X) (rest : List ℕ) → Starts text x rest → ⊥)

module _ {X : Type 0} (Starts : List ℕ → X → List ℕ → Type 0) (Good : X → Type 0) (parts : AreParts Starts) (one : (text : List ℕ) → IsBytes text → MayStart Starts Good text) where
  abbrev Parts : List ℕ → List X → Type 0
  Parts text xs = Run Starts xs text [] × AllByRecursion Good xs

  parts_found : (fuel : ℕ) (text : List ℕ) → length text ≤ fuel → IsBytes text → ((xs : List X) × Parts text xs) ⊎ ((xs : List X) → Run Starts xs text [] → ⊥)
  parts_found fuel [] h b = inl ([], (refl, tt))
  parts_found zero (t ∷ ts) h b = absurd (omega arith)
  parts_found (suc fuel) (t ∷ ts) h b = by_start (one (t ∷ ts) b) (λ rest shorter more. parts_found fuel rest (omega (arith, h, shorter)) more)
    where
      nothing : ((x : X) (rest : List ℕ) → Starts (t ∷ ts) x rest → ⊥) → (xs : List X) → Run Starts xs (t ∷ ts) [] → ⊥
      nothing none [] r = absurd (cc)
      nothing none (x ∷ xs) r = none x r.0 r.1

      no_rest : (s : Started Starts Good (t ∷ ts)) → ((xs : List X) → Run Starts xs s.rest [] → ⊥) → (xs : List X) → Run Starts xs (t ∷ ts) [] → ⊥
      no_rest s none [] r = absurd (cc)
      no_rest s none (x ∷ xs) r =
          let same = parts.one (t ∷ ts) x s.part r.0 s.rest r.1 s.starts_here in
          none xs (subst (λ (u : List ℕ). Run Starts xs u []) (ap (λ (z : X × List ℕ). z.1) same) r.2)

      by_rest : (s : Started Starts Good (t ∷ ts)) → ((xs : List X) × Parts s.rest xs) ⊎ ((xs : List X) → Run Starts xs s.rest [] → ⊥) → ((xs : List X) × Parts (t ∷ ts) xs) ⊎ ((xs : List X) → Run Starts xs (t ∷ ts) [] → ⊥)
      by_rest s (inl (xs, r)) = inl (s.part ∷ xs, ((s.rest, s.starts_here, r.0), (s.good, r.1)))
      by_rest s (inr none) = inr (no_rest s none)

      by_start : MayStart Starts Good (t ∷ ts) → ((rest : List ℕ) → length rest < length (t ∷ ts) → IsBytes rest → ((xs : List X) × Parts rest xs) ⊎ ((xs : List X) → Run Starts xs rest [] → ⊥)) → ((xs : List X) × Parts (t ∷ ts) xs) ⊎ ((xs : List X) → Run Starts xs (t ∷ ts) [] → ⊥)
      by_start (inl s) later = by_rest s (later s.rest s.shorter s.bytes)
      by_start (inr none) later = inr (nothing none)

-- items
item_number : (text : List ℕ) (i : Item) (rest : List ℕ) → StartsPduItem text i rest → (length i.body ≡ get_or text 2 0 * 256 + get_or text 3 0) × (length text ≡ (4 + length i.body) + length rest)
item_number text i rest s =
    let n = length i.body in
    let number : n / 256 ^ 1 % 256 * 256 + n % 256 ≡ n = omega (arith, s.1) in
    let whole = ap (λ (t : List ℕ). length t) s.2 in
    (sym number ∙ sym (ap (λ (t : List ℕ). get_or t 2 0 * 256 + get_or t 3 0) s.2), omega (arith, whole, length-append i.body rest))

item_start : (text : List ℕ) → IsBytes text → MayStart StartsPduItem (λ (i : Item). IsBytes i.body) text
item_start text b = by_length (cases_lt (length text) 4)
  where
    by_number : (m : ℕ) → m ≡ get_or text 2 0 * 256 + get_or text 3 0 → 4 ≤ length text → (length (drop 4 text) < m) ⊎ (m ≤ length (drop 4 text)) → MayStart StartsPduItem (λ (i : Item). IsBytes i.body) text
    by_number m e long (inl short) = inr (λ i rest s. let h = item_number text i rest s in omega (arith, h.0, h.1, e, short, length-drop 4 text))
    by_number m e long (inr fits) = inl (record {
      part = record { kind = get_or text 0 0; body = take m (drop 4 text) };
      rest = drop m (drop 4 text);
      starts_here = starts text m long b e fits;
      good = bytes_take m (drop 4 text) (bytes_drop 4 text b);
      bytes = bytes_drop m (drop 4 text) (bytes_drop 4 text b);
      shorter = omega (arith, long, length-drop m (drop 4 text), length-drop 4 text);
    })

    by_length : (length text < 4) ⊎ (4 ≤ length text) → MayStart StartsPduItem (λ (i : Item). IsBytes i.body) text
    by_length (inl short) = inr (λ i rest s. let h = item_number text i rest s in omega (arith, h.1, short))
    by_length (inr long) = by_number (get_or text 2 0 * 256 + get_or text 3 0) refl long (cases_lt (length (drop 4 text)) (get_or text 2 0 * 256 + get_or text 3 0))

pub items_found : (text : List ℕ) → IsBytes text → ((is : List Item) × AreItems is text × AllByRecursion (λ (i : Item). IsBytes i.body) is) ⊎ ((is : List Item) → AreItems is text → ⊥)
items_found text b = by_parts (parts_found StartsPduItem (λ (i : Item). IsBytes i.body) item_parts item_start (length text) text (omega arith) b)
  where
    by_parts : ((is : List Item) × (AreItems is text × AllByRecursion (λ (i : Item). IsBytes i.body) is)) ⊎ ((is : List Item) → AreItems is text → ⊥) → ((is : List Item) × AreItems is text × AllByRecursion (λ (i : Item). IsBytes i.body) is) ⊎ ((is : List Item) → AreItems is text → ⊥)
    by_parts (inl (is, h)) = inl (is, h.0, h.1)
    by_parts (inr none) = inr none

-- presentation data values
pdv_number : (text : List ℕ) (p : Pdv) (rest : List ℕ) → StartsPdv text p rest → (2 + length p.fragment ≡ ((get_or text 0 0 * 256 + get_or text 1 0) * 256 + get_or text 2 0) * 256 + get_or text 3 0) × (length text ≡ (6 + length p.fragment) + length rest)
pdv_number text p rest s =
    let n = 2 + length p.fragment in
    let number : ((n / 256 ^ 3 % 256 * 256 + n / 256 ^ 2 % 256) * 256 + n / 256 ^ 1 % 256) * 256 + n % 256 ≡ n = omega (arith, s.0) in
    let whole = ap (λ (t : List ℕ). length t) s.1 in
    (sym number ∙ sym (ap (λ (t : List ℕ). ((get_or t 0 0 * 256 + get_or t 1 0) * 256 + get_or t 2 0) * 256 + get_or t 3 0) s.1), omega (arith, whole, length-append p.fragment rest))

abbrev Any : Pdv → Type 0
Any p = Unit {0}

pdv_start : (text : List ℕ) → IsBytes text → MayStart StartsPdv Any text
pdv_start text b = by_number (((get_or text 0 0 * 256 + get_or text 1 0) * 256 + get_or text 2 0) * 256 + get_or text 3 0) refl
  where
    good : (m : ℕ) → m ≡ ((get_or text 0 0 * 256 + get_or text 1 0) * 256 + get_or text 2 0) * 256 + get_or text 3 0 → 6 ≤ length text → 2 ≤ m → m - 2 ≤ length (drop 6 text) → MayStart StartsPdv Any text
    good m e long two fits =
        let f = take (m - 2) (drop 6 text) in
        let rest = drop (m - 2) (drop 6 text) in
        let len : length f ≡ m - 2 = length-take-le (m - 2) (drop 6 text) fits in
        let same : 2 + length f ≡ m = omega (arith, len, two) in
        let k = get_or text 4 0 in
        let l = get_or text 5 0 in
        let number : to_be_bytes w32 m ≡ get_or text 0 0 ∷ get_or text 1 0 ∷ get_or text 2 0 ∷ get_or text 3 0 ∷ [] = four_bytes _ _ _ _ m (b 0) (b 1) (b 2) (b 3) e in
        let whole : text ≡ to_be_bytes w32 (2 + length f) ++ k ∷ l ∷ (f ++ rest) =
        front6 text long ∙ ap (λ (bs : List ℕ). bs ++ k ∷ l ∷ drop 6 text) (sym number) ∙ ap (λ (x : ℕ). to_be_bytes w32 x ++ k ∷ l ∷ drop 6 text) (sym same)
        ∙ ap (λ (t : List ℕ). to_be_bytes w32 (2 + length f) ++ k ∷ l ∷ t) (sym (take-append-drop (m - 2) (drop 6 text))) in
        inl (record {
          part = record { id = k; header = l; fragment = f };
          rest = rest;
          starts_here = (omega (arith, same, e, b 0, b 1, b 2, b 3), whole);
          good = tt;
          bytes = bytes_drop (m - 2) (drop 6 text) (bytes_drop 6 text b);
          shorter = omega (arith, long, length-drop (m - 2) (drop 6 text), length-drop 6 text);
        })

    by_rest : (m : ℕ) → m ≡ ((get_or text 0 0 * 256 + get_or text 1 0) * 256 + get_or text 2 0) * 256 + get_or text 3 0 → 6 ≤ length text → 2 ≤ m → (length (drop 6 text) < m - 2) ⊎ (m - 2 ≤ length (drop 6 text)) → MayStart StartsPdv Any text
    by_rest m e long two (inl short) = inr (λ p rest s. let h = pdv_number text p rest s in omega (arith, h.0, h.1, e, short, long, length-drop 6 text))
    by_rest m e long two (inr fits) = good m e long two fits

    by_two : (m : ℕ) → m ≡ ((get_or text 0 0 * 256 + get_or text 1 0) * 256 + get_or text 2 0) * 256 + get_or text 3 0 → 6 ≤ length text → (m < 2) ⊎ (2 ≤ m) → MayStart StartsPdv Any text
    by_two m e long (inl small) = inr (λ p rest s. let h = pdv_number text p rest s in omega (arith, h.0, e, small))
    by_two m e long (inr two) = by_rest m e long two (cases_lt (length (drop 6 text)) (m - 2))

    by_long : (m : ℕ) → m ≡ ((get_or text 0 0 * 256 + get_or text 1 0) * 256 + get_or text 2 0) * 256 + get_or text 3 0 → (length text < 6) ⊎ (6 ≤ length text) → MayStart StartsPdv Any text
    by_long m e (inl short) = inr (λ p rest s. let h = pdv_number text p rest s in omega (arith, h.1, short))
    by_long m e (inr long) = by_two m e long (cases_lt m 2)

    by_number : (m : ℕ) → m ≡ ((get_or text 0 0 * 256 + get_or text 1 0) * 256 + get_or text 2 0) * 256 + get_or text 3 0 → MayStart StartsPdv Any text
    by_number m e = by_long m e (cases_lt (length text) 6)

pub pdvs_found : (text : List ℕ) → IsBytes text → Found (λ (ps : List Pdv). Run StartsPdv ps text [])
pdvs_found text b = by_parts (parts_found StartsPdv Any pdv_parts pdv_start (length text) text (omega arith) b)
  where
    by_parts : ((ps : List Pdv) × (Run StartsPdv ps text [] × AllByRecursion Any ps)) ⊎ ((ps : List Pdv) → Run StartsPdv ps text [] → ⊥) → Found (λ (ps : List Pdv). Run StartsPdv ps text [])
    by_parts (inl (ps, h)) = inl (ps, h.0)
    by_parts (inr none) = inr none

-- ---- contexts

behind_bytes : (body : List ℕ) → IsBytes body → IsBytes (take (length body - 4) (drop 4 body))
behind_bytes body b = bytes_take (length body - 4) (drop 4 body) (bytes_drop 4 body b)

pub proposal_found : (body : List ℕ) → IsBytes body → Found (IsProposal body)
proposal_found body b = by_length (cases_lt (length body) 4)
  where
    by_syntaxes : (is : List Item) → 4 ≤ length body → AreItems is (take (length body - 4) (drop 4 body)) → (k : List ℕ) → first_body 0x30 is ≡ Some k → (ss : List (List ℕ)) → map unpadded (bodies 0x40 is) ≡ ss → Found (IsProposal body)
    by_syntaxes is long are k e [] e' = inr (λ c h. let says = proposal_says body is c are h in says.some (sym says.syntaxes ∙ e'))
    by_syntaxes is long are k e (s ∷ ss) e' =
        let c : ContextProposal = record { id = get_or body 0 0; class = unpadded k; syntaxes = s ∷ ss } in
        inl (c, is_proposal body is c long refl are (record { class = ap (option_map unpadded) e; syntaxes = e'; some = λ x. cc }))

    by_class : (is : List Item) → 4 ≤ length body → AreItems is (take (length body - 4) (drop 4 body)) → (o : Option (List ℕ)) → first_body 0x30 is ≡ o → Found (IsProposal body)
    by_class is long are None e = inr (λ c h. let says = proposal_says body is c are h in let x : None ≡ Some c.class = sym (ap (option_map unpadded) e) ∙ says.class in absurd (cc))
    by_class is long are (Some k) e = by_syntaxes is long are k e (map unpadded (bodies 0x40 is)) refl

    by_items : 4 ≤ length body → ((is : List Item) × AreItems is (take (length body - 4) (drop 4 body)) × AllByRecursion (λ (i : Item). IsBytes i.body) is) ⊎ ((is : List Item) → AreItems is (take (length body - 4) (drop 4 body)) → ⊥) → Found (IsProposal body)
    by_items long (inl (is, are, good)) = by_class is long are (first_body 0x30 is) refl
    by_items long (inr none) = inr (λ c h. none h.3 (subst (λ (x : List ℕ). AreItems h.3 x) (behind4 body h.4 c.id h.0 h.1 h.2 h.5) h.6))

    by_length : (length body < 4) ⊎ (4 ≤ length body) → Found (IsProposal body)
    by_length (inl short) = inr (λ c h. let whole = ap (λ (t : List ℕ). length t) h.5 in omega (arith, whole, short))
    by_length (inr long) = by_items long (items_found (take (length body - 4) (drop 4 body)) (behind_bytes body b))

pub answer_found : (body : List ℕ) → IsBytes body → Found (IsAnswer body)
answer_found body b = by_length (cases_lt (length body) 4)
  where
    by_syntax : (is : List Item) → 4 ≤ length body → AreItems is (take (length body - 4) (drop 4 body)) → eqb (get_or body 2 0) 0 ≡ true → (o : Option (List ℕ)) → first_body 0x40 is ≡ o → Found (IsAnswer body)
    by_syntax is long are t None e = inr (λ c h.
        let says = answer_says body is c are h in
        let number : get_or body 2 0 ≡ c.result = ap (λ (x : List ℕ). get_or x 2 0) h.4 in
        let t' : eqb c.result 0 ≡ true = ap (λ (n : ℕ). eqb n 0) (sym number) ∙ t in
        let x : None ≡ Some c.syntax = sym (ap (option_map unpadded) e) ∙ sym (ap (λ (u : Bool). cond u (option_map unpadded (first_body 0x40 is)) (Some [])) t') ∙ says.syntax in
        absurd (cc))
    by_syntax is long are t (Some k) e =
        let c : ContextAnswer = record { id = get_or body 0 0; result = get_or body 2 0; syntax = unpadded k } in
        inl (c, is_answer body is c long refl refl are (record { syntax = ap (λ (u : Bool). cond u (option_map unpadded (first_body 0x40 is)) (Some [])) t ∙ ap (option_map unpadded) e }))

    by_result : (is : List Item) → 4 ≤ length body → AreItems is (take (length body - 4) (drop 4 body)) → (t : Bool) → eqb (get_or body 2 0) 0 ≡ t → Found (IsAnswer body)
    by_result is long are true t = by_syntax is long are t (first_body 0x40 is) refl
    by_result is long are false t =
        let c : ContextAnswer = record { id = get_or body 0 0; result = get_or body 2 0; syntax = [] } in
        inl (c, is_answer body is c long refl refl are (record { syntax = ap (λ (u : Bool). cond u (option_map unpadded (first_body 0x40 is)) (Some [])) t }))

    by_items : 4 ≤ length body → ((is : List Item) × AreItems is (take (length body - 4) (drop 4 body)) × AllByRecursion (λ (i : Item). IsBytes i.body) is) ⊎ ((is : List Item) → AreItems is (take (length body - 4) (drop 4 body)) → ⊥) → Found (IsAnswer body)
    by_items long (inl (is, are, good)) = by_result is long are (eqb (get_or body 2 0) 0) refl
    by_items long (inr none) = inr (λ c h. none h.2 (subst (λ (x : List ℕ). AreItems h.2 x) (behind4 body h.3 c.id h.0 c.result h.1 h.4) h.5))

    by_length : (length body < 4) ⊎ (4 ≤ length body) → Found (IsAnswer body)
    by_length (inl short) = inr (λ c h. let whole = ap (λ (t : List ℕ). length t) h.4 in omega (arith, whole, short))
    by_length (inr long) = by_items long (items_found (take (length body - 4) (drop 4 body)) (behind_bytes body b))
