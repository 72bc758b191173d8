-- The order of entries, place by place.
use Rattle.std.proofs.Common.{◌≡◌, ◌≢◌, ℕ, suc, zero, ◌<◌, ◌≤◌, ◌⊎◌, inl, inr, refl, sym, ◌∙◌, ap, subst, List, [], ◌∷◌, ◌++◌, length, take, get_or, Contains, arith}
use Rattle.std.specs.Prelude.{All}
use Rattle.std.specs.declared.cmp.Ordering.{Ordering}
use Rattle.std.specs.declared.cmp.Ordering.TheVariants.{Less, Equal, Greater}
use Rattle.std.specs.Ordering.{ordering_reverse}
use Rattle.std.proofs.lemmas.Bool.{cases_lt}
use Rattle.std.proofs.lemmas.Cmp.{nat_list_cmp_total}
use Rattle.std.proofs.lemmas.List.{get_or_default, append_cancel_right}
use Rattle.std.proofs.lemmas.List.Elements.{All-contains, Contains-push}
use Rattle.std.proofs.lemmas.Map.Keys.{Less-from_sorted}
use Rattle.std.proofs.lemmas.Map.Lookups.{exact_bytes}
use Rattle.dr_base.specs.Texts.{Text, text_cmp, IsInByteOrder}
use Rattle.dr_base.specs.Syntaxes.{syntax_uid}
use Rattle.dr_base.specs.declared.syntax.Syntax.{Syntax}
use Rattle.dr_base.specs.declared.syntax.Syntax.TheVariants.{Implicit, Explicit}
use Rattle.dr_route.specs.Laws.{IsPart}
use Rattle.dr_route.specs.declared.cell.OwnedCell.{OwnedCell}
use Rattle.dr_route.specs.declared.cell.FieldValues.{FieldValues}
use Rattle.dr_route.specs.declared.cell.OwnedField.{OwnedField}
use Rattle.dr_route.specs.declared.cell.OwnedField.TheVariants.{Literal, Prefix, Rest}
use Rattle.dr_plan_model.specs.declared.literals.Attribute.TheVariants.{Modality, ModalityPrefix, Station, StationPrefix}
use Rattle.dr_plan_model.specs.Networks.{Network}
use Rattle.dr_plan_model.specs.Formed.{IsLiteral, IsPrefix}
use Rattle.dr_plan_model.specs.Laws.{IsCellOf}
use Rattle.dr_plan_model.specs.Plans.{IsWellFormed, literals_of}
use Rattle.dr_plan_model.proofs.WalksAlike.{named_has_form}
use Rattle.dr_plan_sound.specs.Printed.{printed_field}
use Rattle.dr_plan_entries.specs.InOrder.{IsLess, ComesBefore, IsInPrintedOrder}
use Rattle.dr_plan_entries.specs.Laws.{BeforeGoesOn, OneIsBefore}
use Rattle.dr_plan_entries.proofs.Entries.{cell_that_lies}

-- ---- byte order
pub not_less_itself : (text : Text) → IsLess text text → ⊥
not_less_itself text less =
    let turned : text_cmp text text ≡ ordering_reverse (text_cmp text text) = nat_list_cmp_total.antisymm text text in
    let O : Ordering → Type 0 = λ o. text_cmp text text ≡ ordering_reverse o in
    let more : text_cmp text text ≡ Greater = subst O less turned in
    cc (less, more)

pub less_onward : (x y z : Text) → IsLess x y → IsLess y z → IsLess x z
less_onward x y z a b = nat_list_cmp_total.trans x y z a b

-- of two texts one is less than the other, or they are the same
pub less_cases : (x y : Text) → IsLess x y ⊎ ((x ≡ y) ⊎ IsLess y x)
less_cases x y = by_order (text_cmp x y) refl
  where
    by_order : (o : Ordering) → text_cmp x y ≡ o → IsLess x y ⊎ ((x ≡ y) ⊎ IsLess y x)
    by_order Less e = inl e
    by_order Equal e = inr (inl (exact_bytes x y e))
    by_order Greater e = inr (inr (nat_list_cmp_total.antisymm y x ∙ ap (λ (o : Ordering). ordering_reverse o) e))

pub same_is_not_less : (x y : Text) → x ≡ y → IsLess x y → ⊥
same_is_not_less x y same less = let P : Text → Type 0 = λ t. IsLess t y in not_less_itself y (subst P same less)

-- Implicit is the lesser one of the two
pub explicit_is_not_less : (syntax : Syntax) → IsLess (syntax_uid Explicit) (syntax_uid syntax) → ⊥
explicit_is_not_less Implicit less = cc less
explicit_is_not_less Explicit less = not_less_itself (syntax_uid Explicit) less

pub implicit_is_not_above : (syntax : Syntax) → IsLess (syntax_uid syntax) (syntax_uid Implicit) → ⊥
implicit_is_not_above Implicit less = not_less_itself (syntax_uid Implicit) less
implicit_is_not_above Explicit less = cc less

-- ---- lists in order
-- what is less than an item stands before it
pub stands_before : {X : Type 0} (text : X → Text) (items : List X) (i : ℕ) (x y : X) → IsInPrintedOrder text items → i < length items → get_or items i x ≡ x → Contains items y →
    IsLess (text y) (text x) → Contains (take i items) y
stands_before {X} text items i x y ordered below at among less = elim (cases_lt among.0 i) [
  | inl before ↦ in_front items i among.0 y before among.1 among.2
  | inr behind ↦ elim (cases_lt i among.0) [
    | inl after ↦
        let here : get_or items i y ≡ x = get_or_default items i y x below ∙ at in
        let P : X → Type 0 = λ a. IsLess (text among_item) (text a) → ⊥ in
        let Q : X → Type 0 = λ b. IsLess (text b) (text x) → ⊥ in
        absurd (subst Q among.2 (subst P here (ordered i among.0 y after among.1)) less)
    | inr not_after ↦
        let same : among.0 ≡ i = omega (arith, behind, not_after) in
        let R : ℕ → Type 0 = λ k. get_or items k y ≡ y in
        let both : y ≡ x = sym (subst R same among.2) ∙ (get_or_default items i y x below ∙ at) in
        absurd (same_is_not_less (text y) (text x) (ap text both) less)
  ]
]
  where
    among_item : X
    among_item = get_or items among.0 y

    in_front : (xs : List X) (n k : ℕ) (z : X) → k < n → k < length xs → get_or xs k z ≡ z → Contains (take n xs) z
    in_front [] n k z low high e = absurd (omega (arith, high))
    in_front (a ∷ xs) zero k z low high e = absurd (omega (arith, low))
    in_front (a ∷ xs) (suc n) zero z low high e = (0, omega arith, e)
    in_front (a ∷ xs) (suc n) (suc k) z low high e =
        let later = in_front xs n k z (omega (arith, low)) (omega (arith, high)) e in
        (suc later.0, (let b : later.0 < length (take n xs) = later.1 in omega (arith, b)), later.2)

-- texts in byte order are printed in order
pub byte_order_is_printed : (texts : List Text) → IsInByteOrder texts → IsInPrintedOrder (λ t. t) texts
byte_order_is_printed texts ordered = λ i j d lt long less.
    let up : text_cmp (get_or texts i d) (get_or texts j d) ≡ Less = Less-from_sorted text_cmp texts i j d ordered lt long in
    not_less_itself (get_or texts i d) (less_onward (get_or texts i d) (get_or texts j d) (get_or texts i d) up less)

-- cells of the same values are the same
pub same_cell : (c d : OwnedCell) → c.class ≡ d.class → c.syntax ≡ d.syntax → c.modality ≡ d.modality → c.station ≡ d.station → c ≡ d
same_cell c d a b m e =
    let mk : Text → Syntax → OwnedField → OwnedField → OwnedCell = λ k s f t. record { class = k; syntax = s; modality = f; station = t } in
    ap (λ (x : Text). mk x c.syntax c.modality c.station) a
    ∙ (ap (λ (x : Syntax). mk d.class x c.modality c.station) b
    ∙ (ap (λ (x : OwnedField). mk d.class d.syntax x c.station) m ∙ ap (λ (x : OwnedField). mk d.class d.syntax d.modality x) e))

-- ---- where one entry comes before another, and they are alike up to here
pub by_site : (s t : Text) (c d : OwnedCell) → ComesBefore s c t d → IsLess s t ⊎ (s ≡ t)
by_site s t c d before = elim before [ inl less ↦ inl less | inr rest ↦ inr rest.0 ]

abbrev CellBefore : OwnedCell → OwnedCell → Type 0
CellBefore c d = IsLess c.class d.class ⊎ ((c.class ≡ d.class)
    × (IsLess (syntax_uid c.syntax) (syntax_uid d.syntax) ⊎ ((c.syntax ≡ d.syntax)
    × (IsLess (printed_field c.modality) (printed_field d.modality) ⊎ ((c.modality ≡ d.modality)
    × IsLess (printed_field c.station) (printed_field d.station))))))

abbrev SyntaxBefore : OwnedCell → OwnedCell → Type 0
SyntaxBefore c d = IsLess (syntax_uid c.syntax) (syntax_uid d.syntax) ⊎ ((c.syntax ≡ d.syntax)
    × (IsLess (printed_field c.modality) (printed_field d.modality) ⊎ ((c.modality ≡ d.modality)
    × IsLess (printed_field c.station) (printed_field d.station))))

abbrev ModalityBefore : OwnedCell → OwnedCell → Type 0
ModalityBefore c d = IsLess (printed_field c.modality) (printed_field d.modality) ⊎ ((c.modality ≡ d.modality)
    × IsLess (printed_field c.station) (printed_field d.station))

at_site : (s t : Text) (c d : OwnedCell) → s ≡ t → ComesBefore s c t d → CellBefore c d
at_site s t c d same before = elim before [ inl less ↦ absurd (same_is_not_less s t same less) | inr rest ↦ rest.1 ]

at_class : (s t : Text) (c d : OwnedCell) → s ≡ t → c.class ≡ d.class → ComesBefore s c t d → SyntaxBefore c d
at_class s t c d site same before = elim (at_site s t c d site before) [ inl less ↦ absurd (same_is_not_less c.class d.class same less) | inr rest ↦ rest.1 ]

at_syntax : (s t : Text) (c d : OwnedCell) → s ≡ t → c.class ≡ d.class → c.syntax ≡ d.syntax → ComesBefore s c t d → ModalityBefore c d
at_syntax s t c d site class same before = elim (at_class s t c d site class before) [
  | inl less ↦ absurd (same_is_not_less (syntax_uid c.syntax) (syntax_uid d.syntax) (ap syntax_uid same) less)
  | inr rest ↦ rest.1
]

pub by_class : (s t : Text) (c d : OwnedCell) → s ≡ t → ComesBefore s c t d → IsLess c.class d.class ⊎ (c.class ≡ d.class)
by_class s t c d site before = elim (at_site s t c d site before) [ inl less ↦ inl less | inr rest ↦ inr rest.0 ]

pub by_syntax : (s t : Text) (c d : OwnedCell) → s ≡ t → c.class ≡ d.class → ComesBefore s c t d → IsLess (syntax_uid c.syntax) (syntax_uid d.syntax) ⊎ (c.syntax ≡ d.syntax)
by_syntax s t c d site class before = elim (at_class s t c d site class before) [ inl less ↦ inl less | inr rest ↦ inr rest.0 ]

pub by_modality : (s t : Text) (c d : OwnedCell) → s ≡ t → c.class ≡ d.class → c.syntax ≡ d.syntax → ComesBefore s c t d →
    IsLess (printed_field c.modality) (printed_field d.modality) ⊎ (c.modality ≡ d.modality)
by_modality s t c d site class syntax before = elim (at_syntax s t c d site class syntax before) [ inl less ↦ inl less | inr rest ↦ inr rest.0 ]

pub by_station : (s t : Text) (c d : OwnedCell) → s ≡ t → c.class ≡ d.class → c.syntax ≡ d.syntax → c.modality ≡ d.modality → ComesBefore s c t d →
    IsLess (printed_field c.station) (printed_field d.station)
by_station s t c d site class syntax same before = elim (at_syntax s t c d site class syntax before) [
  | inl less ↦ absurd (same_is_not_less (printed_field c.modality) (printed_field d.modality) (ap printed_field same) less)
  | inr rest ↦ rest.1
]

pub not_before_itself : (site : Text) (cell : OwnedCell) → ComesBefore site cell site cell → ⊥
not_before_itself site cell before = not_less_itself (printed_field cell.station) (by_station site site cell cell refl refl refl refl before)

-- ---- what comes before what comes before
lex_onward : {A : Type 0} (text : A → Text) (x y z : A) (P Q R : Type 0) → (P → Q → R) → IsLess (text x) (text y) ⊎ ((x ≡ y) × P) → IsLess (text y) (text z) ⊎ ((y ≡ z) × Q) →
    IsLess (text x) (text z) ⊎ ((x ≡ z) × R)
lex_onward {A} text x y z P Q R both (inl a) (inl b) = inl (less_onward (text x) (text y) (text z) a b)
lex_onward {A} text x y z P Q R both (inl a) (inr b) = inl (let L : A → Type 0 = λ t. IsLess (text x) (text t) in subst L b.0 a)
lex_onward {A} text x y z P Q R both (inr a) (inl b) = inl (let L : A → Type 0 = λ t. IsLess (text t) (text z) in subst L (sym a.0) b)
lex_onward {A} text x y z P Q R both (inr a) (inr b) = inr (a.0 ∙ b.0, both a.1 b.1)

pub before_onward : BeforeGoesOn
before_onward s t u c d e a b =
    lex_onward (λ x. x) s t u (CellBefore c d) (CellBefore d e) (CellBefore c e)
    (λ p q. lex_onward (λ x. x) c.class d.class e.class (SyntaxBefore c d) (SyntaxBefore d e) (SyntaxBefore c e)
    (λ v w. lex_onward syntax_uid c.syntax d.syntax e.syntax (ModalityBefore c d) (ModalityBefore d e) (ModalityBefore c e)
    (λ m n. lex_onward printed_field c.modality d.modality e.modality _ _ _
    (λ x y. less_onward (printed_field c.station) (printed_field d.station) (printed_field e.station) x y) m n) v w) p q) a b

-- ---- of two entries one comes before the other
lex_cases : {A : Type 0} (text : A → Text) (x y : A) (P S Q : Type 0) → (text x ≡ text y → x ≡ y) → P ⊎ (S ⊎ Q) →
    (IsLess (text x) (text y) ⊎ ((x ≡ y) × P)) ⊎ (((x ≡ y) × S) ⊎ (IsLess (text y) (text x) ⊎ ((y ≡ x) × Q)))
lex_cases text x y P S Q told rest = elim (less_cases (text x) (text y)) [
  | inl less ↦ inl (inl less)
  | inr other ↦ elim other [
    | inl alike ↦
        let same : x ≡ y = told alike in
        elim rest [
          | inl p ↦ inl (inr (same, p))
          | inr more ↦ elim more [ inl q ↦ inr (inl (same, q)) | inr q ↦ inr (inr (inr (sym same, q))) ]
        ]
    | inr more ↦ inr (inr (inl more))
  ]
]

long_same : (s t : Syntax) → length (syntax_uid s) ≡ length (syntax_uid t) → s ≡ t
long_same Implicit Implicit e = refl
long_same Implicit Explicit e = let h : ◌≡◌ {A = ℕ} 17 19 = e in absurd (omega arith)
long_same Explicit Implicit e = let h : ◌≡◌ {A = ℕ} 19 17 = e in absurd (omega arith)
long_same Explicit Explicit e = refl

-- no literal has an asterisk at its end
no_star_behind : (text front : Text) → IsLiteral text → text ≡ front ++ 42 ∷ [] → ⊥
no_star_behind text front literal e =
    let P : ℕ → Type 0 = λ byte. (32 ≤ byte) × (byte < 127) × (byte ≢ 42) in
    let Q : Text → Type 0 = λ t. All P t in
    (All-contains P (front ++ 42 ∷ []) 42 (subst Q e literal.printable) (Contains-push front 42)).2 refl

module _ (plan : Network) (formed : IsWellFormed plan) where
  -- parts of a plan are told by how they are printed
  told : (values : FieldValues) → ((t : Text) → Contains values.literals t → IsLiteral t) → ((t : Text) → Contains values.prefixes t → IsPrefix t) →
      (f g : OwnedField) → IsPart values f → IsPart values g → printed_field f ≡ printed_field g → f ≡ g
  told values literals prefixes (Literal a) (Literal b) p q e = ap (λ (t : Text). Literal t) e
  told values literals prefixes (Literal a) (Prefix b) p q e = absurd (no_star_behind a b (literals a p) e)
  told values literals prefixes (Literal a) Rest p q e = absurd (no_star_behind a [] (literals a p) e)
  told values literals prefixes (Prefix a) (Literal b) p q e = absurd (no_star_behind b a (literals b q) (sym e))
  told values literals prefixes (Prefix a) (Prefix b) p q e = ap (λ (t : Text). Prefix t) (append_cancel_right a b (42 ∷ []) e)
  told values literals prefixes (Prefix a) Rest p q e = absurd ((prefixes a p).some (append_cancel_right a [] (42 ∷ []) e))
  told values literals prefixes Rest (Literal b) p q e = absurd (no_star_behind b [] (literals b q) (sym e))
  told values literals prefixes Rest (Prefix b) p q e = absurd ((prefixes b q).some (append_cancel_right b [] (42 ∷ []) (sym e)))
  told values literals prefixes Rest Rest p q e = refl

  modality_told : (f g : OwnedField) → IsPart (literals_of plan).modalities f → IsPart (literals_of plan).modalities g → printed_field f ≡ printed_field g → f ≡ g
  modality_told = told (literals_of plan).modalities (named_has_form plan formed Modality) (named_has_form plan formed ModalityPrefix)

  station_told : (f g : OwnedField) → IsPart (literals_of plan).stations f → IsPart (literals_of plan).stations g → printed_field f ≡ printed_field g → f ≡ g
  station_told = told (literals_of plan).stations (named_has_form plan formed Station) (named_has_form plan formed StationPrefix)

  stations_cases : (f g : OwnedField) → IsPart (literals_of plan).stations f → IsPart (literals_of plan).stations g →
      IsLess (printed_field f) (printed_field g) ⊎ ((f ≡ g) ⊎ IsLess (printed_field g) (printed_field f))
  stations_cases f g p q = elim (less_cases (printed_field f) (printed_field g)) [
    | inl less ↦ inl less
    | inr other ↦ elim other [ inl alike ↦ inr (inl (station_told f g p q alike)) | inr more ↦ inr (inr more) ]
  ]

  pub cells_cases : (s t : Text) (c d : OwnedCell) → IsCellOf plan c → IsCellOf plan d → ComesBefore s c t d ⊎ (((s ≡ t) × (c ≡ d)) ⊎ ComesBefore t d s c)
  cells_cases s t c d is_c is_d =
      let modality = lex_cases printed_field c.modality d.modality _ (c.station ≡ d.station) _ (modality_told c.modality d.modality is_c.0 is_d.0) (stations_cases c.station d.station is_c.1 is_d.1) in
      let syntax = lex_cases syntax_uid c.syntax d.syntax (ModalityBefore c d) _ (ModalityBefore d c) (λ e. long_same c.syntax d.syntax (ap (λ (uid : Text). length uid) e)) modality in
      let class = lex_cases (λ x. x) c.class d.class (SyntaxBefore c d) _ (SyntaxBefore d c) (λ e. e) syntax in
      elim (lex_cases (λ x. x) s t (CellBefore c d) _ (CellBefore d c) (λ e. e) class) [
        | inl before ↦ inl before
        | inr rest ↦ elim rest [
          | inl same ↦ inr (inl (same.0, same_cell c d same.1.0 same.1.1.0 same.1.1.1.0 same.1.1.1.1))
          | inr behind ↦ inr (inr behind)
        ]
      ]

pub one_is_before : OneIsBefore
one_is_before plan formed s t c d at_s at_t = cells_cases plan formed s t c d (cell_that_lies plan c at_s.0 at_s.1) (cell_that_lies plan d at_t.0 at_t.1)
