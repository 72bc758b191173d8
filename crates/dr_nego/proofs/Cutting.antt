-- A text in pieces, and the PDUs that they go in.
use Rattle.std.proofs.Common.{◌≡◌, ◌≢◌, ℕ, zero, suc, ◌+◌, ◌<◌, ◌≤◌, Bool, true, false, List, [], ◌∷◌, ◌++◌, length, take, drop, refl, sym, ap, subst, ◌∙◌, append_assoc, inl, inr, ◌⊎◌, arith}
use Rattle.std.specs.Prelude.{nat_le, nat_lt, if◌then◌else◌, ◌==◌, All}
use Rattle.std.specs.List.{flat_map}
use Rattle.std.proofs.lemmas.Bool.{cases_Bool, leb-true, leb-false, le-leb, ltb-true, ltb-false, eqb-true, eqb-false}
use Rattle.std.proofs.lemmas.List.{append-nil, length-append, take-append-drop, length-drop, length-take-le}
use Rattle.std.proofs.lemmas.List.Elements.{All-cons}
use Rattle.std.specs.Int.{w32, to_be_bytes}
use Rattle.dr_pdu.specs.declared.pdu.Pdu.{Pdu}
use Rattle.dr_pdu.specs.declared.pdu.Pdu.TheVariants.{Transfer}
use Rattle.dr_pdu.specs.declared.pdu.Pdv.{Pdv}
use Rattle.dr_pdu.specs.Items.{pdv_text}
use Rattle.dr_pdu.specs.Written.{Fits, MeetsLimit, written}
use Rattle.dr_pdu.proofs.WrittenLemmas.{values_fit}
use Rattle.dr_nego.specs.Agreeing.{IsTooSmall}
use Rattle.dr_nego.specs.Fragments.{piece_size, cut, pieces, ArePieces, header_of, value_pdu, value_pdus, is_command, spellings}
use Rattle.dr_nego.specs.Laws.{PiecesAreWhole, OneCut, LastIsMarked, FragmentsFit}

-- ---- the size of pieces

pub size_is_some : (limit : ℕ) → (IsTooSmall limit → ⊥) → (2 ≤ piece_size limit) × (piece_size limit ≤ 1048570) × ((limit ≡ 0) ⊎ (piece_size limit + 6 ≤ limit))
size_is_some limit large = elim (cases_Bool (limit == 0)) [
  | inl none ↦ rw none (omega arith, omega arith, inl (eqb-true limit 0 none))
  | inr some ↦ elim (cases_Bool (nat_lt 1048576 limit)) [
    | inl big ↦ rw (some, big) (omega arith, omega arith, (let e : 1048576 < limit = ltb-true 1048576 limit big in inr (omega arith)))
    | inr small ↦
        let other = eqb-false limit 0 some in
        let at_most : limit ≤ 1048576 = ltb-false 1048576 limit small in
        let at_least : 8 ≤ limit = at_least_8 limit other large in
        rw (some, small) (omega arith, omega arith, inr (omega arith))
  ]
]
  where
    at_least_8 : (n : ℕ) → (n ≡ 0 → ⊥) → (IsTooSmall n → ⊥) → 8 ≤ n
    at_least_8 n some large = elim (cases_Bool (nat_le 8 n)) [
      | inl is ↦ leb-true 8 n is
      | inr less ↦ (let l : n < 8 = leb-false 8 n less in absurd (elim (cases_Bool (n == 0)) [ inl none ↦ some (eqb-true n 0 none) | inr one ↦ (let o = eqb-false n 0 one in large (positive n o, omega arith)) ]))
    ]
      where
        positive : (n : ℕ) → (n ≡ 0 → ⊥) → 1 ≤ n
        positive zero o = absurd (o refl)
        positive (suc n) o = omega arith

-- ---- cutting

module _ (size : ℕ) (some : 1 ≤ size) where
  enough : (m n : ℕ) (text : List ℕ) → length text ≤ m → length text ≤ n → cut m size text ≡ cut n size text
  enough zero zero text h k = refl
  enough zero (suc n) text h k = (let s = le-leb (length text) size (omega arith) in rw s refl)
  enough (suc m) zero text h k = (let s = le-leb (length text) size (omega arith) in rw s refl)
  enough (suc m) (suc n) text h k = elim (cases_Bool (nat_le (length text) size)) [
    | inl short ↦ rw short refl
    | inr long ↦
        let d = length-drop size text in
        rw long (ap (λ (l : List (List ℕ)). take size text ∷ l) (enough m n (drop size text) (omega (arith, d, h)) (omega (arith, d, k))))
  ]

  pub pieces_more : (text : List ℕ) → size < length text → pieces size text ≡ take size text ∷ pieces size (drop size text)
  pieces_more text long =
      let d = length-drop size text in
      let e : nat_le (length text) size ≡ false = not_le (length text) size long in
      enough (length text) (suc (length text)) text (omega arith) (omega arith)
      ∙ (rw e (ap (λ (l : List (List ℕ)). take size text ∷ l) (enough (length text) (length (drop size text)) (drop size text) (omega (arith, d)) (omega arith))))
    where
      not_le : (a b : ℕ) → b < a → nat_le a b ≡ false
      not_le a b less = elim (cases_Bool (nat_le a b)) [ inl is ↦ (let l : a ≤ b = leb-true a b is in absurd (omega arith)) | inr above ↦ above ]

  pub pieces_last : (text : List ℕ) → length text ≤ size → pieces size text ≡ text ∷ []
  pieces_last text short =
      let e : nat_le (length text) size ≡ true = le-leb (length text) size short in
      enough (length text) (suc (length text)) text (omega arith) (omega arith) ∙ rw e refl

  one_piece : (text : List ℕ) → length text ≤ size → ArePieces size text (text ∷ [])
  one_piece text short = record {
    front = [];
    final = text;
    are = refl;
    full = λ k d h. absurd (omega (arith, h));
    short = short;
    joined = sym (append-nil text);
    some = λ e. refl;
  }

  more_pieces : (text : List ℕ) (parts : List (List ℕ)) → size < length text → ArePieces size (drop size text) parts → ArePieces size text (take size text ∷ parts)
  more_pieces text parts long r = record {
    front = take size text ∷ r.front;
    final = r.final;
    are = ap (λ (l : List (List ℕ)). take size text ∷ l) r.are;
    full = All-cons (λ (x : List ℕ). length x ≡ size) (take size text) r.front (length-take-le size text (omega arith)) r.full;
    short = r.short;
    joined = sym (take-append-drop size text) ∙ ap (λ (l : List ℕ). take size text ++ l) r.joined;
    some = λ none.
        let P : List (List ℕ) → Type 0 = λ f. parts ≡ f ++ r.final ∷ [] in
        let Q : List ℕ → Type 0 = λ f. parts ≡ f ∷ [] in
        let only : parts ≡ [] ∷ [] = subst Q none (subst P (r.some none) r.are) in
        let empty : drop size text ≡ [] = r.joined ∙ ap (λ (l : List (List ℕ)). flat_map (λ (x : List ℕ). x) l) only in
        let n : length (drop size text) ≡ 0 = ap (λ (l : List ℕ). length l) empty in
        let d = length-drop size text in
        absurd (omega (arith, n, d, long));
  }

  whole : (fuel : ℕ) (text : List ℕ) → length text ≤ fuel → ArePieces size text (cut fuel size text)
  whole zero text h = one_piece text (omega arith)
  whole (suc fuel) text h =
      let P : Bool → Type 0 = λ b. ArePieces size text (if b then text ∷ [] else take size text ∷ cut fuel size (drop size text)) in
      elim (cases_Bool (nat_le (length text) size)) [
        | inl short ↦ subst P (sym short) (one_piece text (leb-true (length text) size short))
        | inr long ↦
            let l : size < length text = leb-false (length text) size long in
            let d = length-drop size text in
            subst P (sym long) (more_pieces text (cut fuel size (drop size text)) l (whole fuel (drop size text) (omega (arith, d, h))))
      ]

pub pieces_are_whole : PiecesAreWhole
pieces_are_whole limit large text = (let s = (size_is_some limit large).0 in whole (piece_size limit) (omega arith) (length text) text (omega arith))

-- ---- one cut

abbrev joined : List (List ℕ) → List ℕ
joined parts = flat_map (λ (x : List ℕ). x) parts

split_same : (x y a b : List ℕ) → length x ≡ length y → x ++ a ≡ y ++ b → (x ≡ y) × (a ≡ b)
split_same [] [] a b n e = (refl, e)
split_same [] (y ∷ ys) a b n e = absurd (omega (arith, n))
split_same (x ∷ xs) [] a b n e = absurd (omega (arith, n))
split_same (x ∷ xs) (y ∷ ys) a b n e =
    let heads : x ≡ y = cc e in
    let tails : xs ++ a ≡ ys ++ b = cc e in
    let r = split_same xs ys a b (omega (arith, n)) tails in
    (ap (λ (z : ℕ). z ∷ xs) heads ∙ ap (λ (zs : List ℕ). y ∷ zs) r.0, r.1)

nothing_long : (l : List ℕ) → length l ≡ 0 → l ≡ []
nothing_long [] n = refl
nothing_long (x ∷ xs) n = absurd (omega (arith, n))

module _ (size : ℕ) (some : 1 ≤ size) where
  -- a last piece that isn't over full is no full piece with something behind it
  not_longer : (fs : List (List ℕ)) (a b : List ℕ) → length a ≤ size → (f : List ℕ) → length f ≡ size → (b ≡ [] → ⊥) → joined (a ∷ []) ≡ joined (f ∷ (fs ++ b ∷ [])) → ⊥
  not_longer fs a b short f full b_some e =
      let n : length (a ++ []) ≡ length (f ++ joined (fs ++ b ∷ [])) = ap (λ (l : List ℕ). length l) e in
      let behind = ends_in fs in
      omega (arith, n, short, full, behind, length-append a [], length-append f (joined (fs ++ b ∷ [])))
    where
      positive : (l : List ℕ) → (l ≡ [] → ⊥) → 1 ≤ length l
      positive [] o = absurd (o refl)
      positive (x ∷ xs) o = omega arith

      ends_in : (gs : List (List ℕ)) → 1 ≤ length (joined (gs ++ b ∷ []))
      ends_in [] = (let p = positive b b_some in omega (arith, p, length-append b []))
      ends_in (g ∷ gs) = (let p = ends_in gs in omega (arith, p, length-append g (joined (gs ++ b ∷ []))))

  same_parts : (fs gs : List (List ℕ)) (a b : List ℕ) → All (λ (x : List ℕ). length x ≡ size) fs → All (λ (x : List ℕ). length x ≡ size) gs → length a ≤ size → length b ≤ size →
      (a ≡ [] → fs ≡ []) → (b ≡ [] → gs ≡ []) → joined (fs ++ a ∷ []) ≡ joined (gs ++ b ∷ []) → fs ++ a ∷ [] ≡ gs ++ b ∷ []
  same_parts [] [] a b f g s t p q e = ap (λ (x : List ℕ). x ∷ []) (sym (append-nil a) ∙ (e ∙ append-nil b))
  same_parts [] (y ∷ ys) a b f g s t p q e = absurd (not_longer ys a b s y (g 0 y (omega arith)) (λ none. (let n = q none in cc n)) e)
  same_parts (x ∷ xs) [] a b f g s t p q e = absurd (not_longer xs b a t x (f 0 x (omega arith)) (λ none. (let n = p none in cc n)) (sym e))
  same_parts (x ∷ xs) (y ∷ ys) a b f g s t p q e =
      let lengths : length x ≡ length y = f 0 x (omega arith) ∙ sym (g 0 y (omega arith)) in
      let r = split_same x y (joined (xs ++ a ∷ [])) (joined (ys ++ b ∷ [])) lengths e in
      let later = same_parts xs ys a b (λ k d h. f (suc k) d (omega (arith, h))) (λ k d h. g (suc k) d (omega (arith, h))) s t (λ none. (let n = p none in absurd (cc n))) (λ none. (let n = q none in absurd (cc n))) r.1 in
      ap (λ (z : List ℕ). z ∷ (xs ++ a ∷ [])) r.0 ∙ ap (λ (zs : List (List ℕ)). y ∷ zs) later

pub one_cut : OneCut
one_cut size some text a b f g =
    let e : joined (f.front ++ f.final ∷ []) ≡ joined (g.front ++ g.final ∷ []) = ap joined (sym f.are) ∙ (sym f.joined ∙ (g.joined ∙ ap joined g.are)) in
    f.are ∙ (same_parts size some f.front g.front f.final g.final f.full g.full f.short g.short f.some g.some e ∙ sym g.are)

-- ---- PDUs

pub last_is_marked : LastIsMarked
last_is_marked id b [] final = refl
last_is_marked id b (p ∷ []) final = refl
last_is_marked id b (p ∷ q ∷ more) final = ap (λ (l : List Pdu). value_pdu id b false p ∷ l) (last_is_marked id b (q ∷ more) final)

one_fits : (limit id : ℕ) (is_command is_last : Bool) (piece : List ℕ) → length piece ≤ 1048570 → (limit ≡ 0) ⊎ (length piece + 6 ≤ limit) →
    Fits (value_pdu id is_command is_last piece) × MeetsLimit limit (value_pdu id is_command is_last piece)
one_fits limit id is_command is_last piece small within =
    let value : Pdv = record { id = id; header = header_of is_command is_last; fragment = piece } in
    let n : length (flat_map pdv_text (value ∷ [])) ≡ length piece + 6 = simp length-append (omega arith) in
    (values_fit (value ∷ []) (omega (arith, n, small)), elim within [ inl none ↦ inl none | inr h ↦ inr (omega (arith, n, h)) ])

all_fit : (limit id : ℕ) (is_command : Bool) (parts : List (List ℕ)) → All (λ (x : List ℕ). (length x ≤ 1048570) × ((limit ≡ 0) ⊎ (length x + 6 ≤ limit))) parts →
    All (λ (p : Pdu). Fits p × MeetsLimit limit p) (value_pdus id is_command parts)
all_fit limit id is_command [] h = λ k d lt. absurd (omega (arith, lt))
all_fit limit id is_command (p ∷ []) h = All-cons (λ (p : Pdu). Fits p × MeetsLimit limit p) (value_pdu id is_command true p) [] (let o = h 0 p (omega arith) in one_fits limit id is_command true p o.0 o.1) (λ k d lt. absurd (omega (arith, lt)))
all_fit limit id is_command (p ∷ q ∷ more) h = All-cons (λ (p : Pdu). Fits p × MeetsLimit limit p) (value_pdu id is_command false p) (value_pdus id is_command (q ∷ more))
    (let o = h 0 p (omega arith) in one_fits limit id is_command false p o.0 o.1) (all_fit limit id is_command (q ∷ more) (λ k d lt. h (suc k) d (omega (arith, lt))))

-- no piece is over full
short_pieces : (size fuel : ℕ) (text : List ℕ) → 1 ≤ size → length text ≤ fuel → All (λ (x : List ℕ). length x ≤ size) (cut fuel size text)
short_pieces size zero text some h = All-cons (λ (x : List ℕ). length x ≤ size) text [] (omega arith) (λ k d lt. absurd (omega (arith, lt)))
short_pieces size (suc fuel) text some h =
    let P : Bool → Type 0 = λ b. All (λ (x : List ℕ). length x ≤ size) (if b then text ∷ [] else take size text ∷ cut fuel size (drop size text)) in
    elim (cases_Bool (nat_le (length text) size)) [
      | inl short ↦ subst P (sym short) (All-cons (λ (x : List ℕ). length x ≤ size) text [] (leb-true (length text) size short) (λ k d lt. absurd (omega (arith, lt))))
      | inr long ↦
          let l : size < length text = leb-false (length text) size long in
          let d = length-drop size text in
          let t = length-take-le size text (omega arith) in
          subst P (sym long) (All-cons (λ (x : List ℕ). length x ≤ size) (take size text) (cut fuel size (drop size text)) (omega (arith, t)) (short_pieces size fuel (drop size text) some (omega (arith, d, h))))
    ]

pub fragments_fit : FragmentsFit
fragments_fit limit id kind text large =
    let s = size_is_some limit large in
    let short = short_pieces (piece_size limit) (length text) text (omega (arith, s.0)) (omega arith) in
    all_fit limit id (is_command kind) (pieces (piece_size limit) text) (λ k d lt. (
      (let a = short k d lt in omega (arith, a, s.1)),
      elim s.2 [ inl none ↦ inl none | inr h ↦ inr (let a = short k d lt in omega (arith, a, h)) ],
    ))

-- ---- what is written, piece by piece

-- PDUs of some pieces behind one
value_more : (id : ℕ) (b : Bool) (p : List ℕ) (qs : List (List ℕ)) → qs ≢ [] → value_pdus id b (p ∷ qs) ≡ value_pdu id b false p ∷ value_pdus id b qs
value_more id b p [] some = absurd (some refl)
value_more id b p (q ∷ more) some = refl

some_pieces : (size : ℕ) → 1 ≤ size → (text : List ℕ) → pieces size text ≢ []
some_pieces size some text none =
    let w = whole size some (length text) text (omega arith) in
    no_end w.front w.final (sym w.are ∙ none)
  where
    no_end : (front : List (List ℕ)) (final : List ℕ) → front ++ final ∷ [] ≡ [] → ⊥
    no_end [] final e = cc e
    no_end (f ∷ fs) final e = cc e

-- one more full piece is written
pub written_more : (size id : ℕ) (b : Bool) (out out' rest piece later : List ℕ) → 1 ≤ size → size < length rest → piece ≡ take size rest → later ≡ drop size rest →
    out' ≡ out ++ written (value_pdu id b false piece) → out' ++ spellings (value_pdus id b (pieces size later)) ≡ out ++ spellings (value_pdus id b (pieces size rest))
written_more size id b out out' rest piece later some long is_piece is_later e =
    let front : List ℕ = written (value_pdu id b false piece) in
    let behind : List ℕ = spellings (value_pdus id b (pieces size later)) in
    let cut_so : pieces size rest ≡ piece ∷ pieces size later =
    pieces_more size some rest long ∙ (ap (λ (p : List ℕ). p ∷ pieces size (drop size rest)) (sym is_piece) ∙ ap (λ (l : List ℕ). piece ∷ pieces size l) (sym is_later)) in
    let pdus : value_pdus id b (pieces size rest) ≡ value_pdu id b false piece ∷ value_pdus id b (pieces size later) = ap (λ (l : List (List ℕ)). value_pdus id b l) cut_so ∙ value_more id b piece (pieces size later) (some_pieces size some later) in
    ap (λ (l : List ℕ). l ++ behind) e ∙ (append_assoc out front behind ∙ ap (λ (l : List Pdu). out ++ spellings l) (sym pdus))

-- and so is the last one
pub written_last : (size id : ℕ) (b : Bool) (out out' rest : List ℕ) → 1 ≤ size → length rest ≤ size → out' ≡ out ++ written (value_pdu id b true rest) →
    out' ≡ out ++ spellings (value_pdus id b (pieces size rest))
written_last size id b out out' rest some short e =
    let pdus : value_pdus id b (pieces size rest) ≡ value_pdu id b true rest ∷ [] = ap (λ (l : List (List ℕ)). value_pdus id b l) (pieces_last size some rest short) in
    e ∙ (ap (λ (l : List ℕ). out ++ l) (sym (append-nil (written (value_pdu id b true rest)))) ∙ ap (λ (l : List Pdu). out ++ spellings l) (sym pdus))

-- a header and a value make the PDU of the value
pub value_written : (old : List ℕ) (v : Pdv) (len : ℕ) → len ≡ length v.fragment + 6 → (old ++ (4 ∷ 0 ∷ to_be_bytes w32 len)) ++ pdv_text v ≡ old ++ written (Transfer (v ∷ []))
value_written old v len e =
    let body : flat_map pdv_text (v ∷ []) ≡ pdv_text v = append-nil (pdv_text v) in
    let long : length (flat_map pdv_text (v ∷ [])) ≡ len = ap (λ (l : List ℕ). length l) body ∙ (omega (arith, e)) in
    let framed_as : ℕ → List ℕ → List ℕ = λ n b. 4 ∷ 0 ∷ (to_be_bytes w32 n ++ b) in
    append_assoc old (4 ∷ 0 ∷ to_be_bytes w32 len) (pdv_text v)
    ∙ ap (λ (l : List ℕ). old ++ l) (ap (λ (b : List ℕ). framed_as len b) (sym body) ∙ ap (λ (n : ℕ). framed_as n (flat_map pdv_text (v ∷ []))) (sym long))
