-- The pairs that the lines of a certificate show for a hop, sorted.
use Rattle.std.proofs.Common.{◌≡◌, ◌≢◌, suc, ◌<◌, ◌⊎◌, inl, inr, refl, sym, ◌∙◌, ap, subst, List, [], ◌∷◌, length, get_or, Contains, arith}
use Rattle.std.specs.Prelude.{◌↔◌, AllPairs}
use Rattle.std.specs.declared.cmp.Ordering.{Ordering}
use Rattle.std.specs.declared.cmp.Ordering.TheVariants.{Less, Equal, Greater}
use Rattle.std.specs.Ordering.{ordering_then, ordering_reverse}
use Rattle.std.specs.Cmp.{IsTotalOrder}
use Rattle.std.specs.Str.{bytes_eq}
use Rattle.std.proofs.lemmas.Bool.{cases_Bool, false≢true}
use Rattle.std.proofs.lemmas.Slice.Eq.{bytes_eq-Decides}
use Rattle.std.proofs.lemmas.Cmp.{on_total, then_total, nat_list_cmp_total}
use Rattle.std.proofs.lemmas.List.Kept.{AllPairs-cons}
use Rattle.std.proofs.lemmas.Map.Lookups.{exact_bytes}
use Rattle.dr_base.specs.Texts.{Text, text_cmp}
use Rattle.dr_base.specs.Syntaxes.{syntax_uid}
use Rattle.dr_base.specs.declared.syntax.Syntax.{Syntax}
use Rattle.dr_base.specs.declared.syntax.Syntax.TheVariants.{Implicit, Explicit}
use Rattle.dr_route.specs.Routes.{local}
use Rattle.dr_route.specs.declared.key.Key.{Key}
use Rattle.dr_plan_model.specs.Networks.{Network}
use Rattle.dr_plan_model.specs.Plans.{IsWellFormed}
use Rattle.dr_plan_model.specs.Walks.{IsReached, GoesOver}
use Rattle.dr_plan_model.proofs.Gathered.{nothing_in_nil, Contains-cons_cases, Contains-there, Contains-here}
use Rattle.dr_plan_model.proofs.WalksAlike.{all_from_each}
use Rattle.dr_plan_sound.specs.declared.certificate.Stop.{Stop}
use Rattle.dr_plan_sound.specs.declared.certificate.Line.{Line}
use Rattle.dr_plan_sound.specs.declared.certificate.Certificate.{Certificate}
use Rattle.dr_plan_sound.specs.Soundness.{IsSound}
use Rattle.dr_plan_sound.specs.Certificates.{IsCertificateOf, AreHopPairs, HasLine, pair_cmp}
use Rattle.dr_plan_sound.specs.HopPairs.{OverHop, AreOverHop}
use Rattle.dr_plan_sound.specs.HopLists.{HopsHaveLists}
use Rattle.dr_plan_sound.proofs.RankedLines.{some_cell}
use Rattle.dr_plan_sound.proofs.Ranks.{sound_has_rank}
use Rattle.dr_plan_sound.proofs.Hopping.{goes_to, reached_next, reached_not_local}

abbrev Pair : Type 0
Pair = Text × Syntax

pub pair_total : IsTotalOrder pair_cmp
pair_total = then_total (on_total (λ (p : Pair). p.0) nat_list_cmp_total) (on_total (λ (p : Pair). syntax_uid p.1) nat_list_cmp_total)

both_equal : (o p : Ordering) → ordering_then o p ≡ Equal → (o ≡ Equal) × (p ≡ Equal)
both_equal Less p e = absurd (cc e)
both_equal Equal p e = (refl, e)
both_equal Greater p e = absurd (cc e)

-- transfer syntaxes whose UIDs are tied are one
same_syntax : (a b : Syntax) → text_cmp (syntax_uid a) (syntax_uid b) ≡ Equal → a ≡ b
same_syntax Implicit Implicit e = refl
same_syntax Implicit Explicit e = absurd (cc e)
same_syntax Explicit Implicit e = absurd (cc e)
same_syntax Explicit Explicit e = refl

-- tied pairs are one
pub pair_exact : (a b : Pair) → pair_cmp a b ≡ Equal → a ≡ b
pair_exact a b e =
    let both = both_equal (text_cmp a.0 b.0) (text_cmp (syntax_uid a.1) (syntax_uid b.1)) e in
    let pair : Text → Syntax → Pair = λ c s. (c, s) in
    ap (λ (c : Text). pair c a.1) (exact_bytes a.0 b.0 both.0) ∙ ap (λ (s : Syntax). pair b.0 s) (same_syntax a.1 b.1 both.1)

-- ---- sorted lists of pairs

abbrev AreOrdered : List Pair → Type 0
AreOrdered all = AllPairs (λ p q. pair_cmp p q ≡ Less) all

-- one more pair, which may be there already
record HasAdded (x : Pair) (xs ys : List Pair) : Type 0 where
  ordered : AreOrdered ys
  each : (p : Pair) → Contains ys p ↔ ((x ≡ p) ⊎ Contains xs p)

tail_ordered : (y : Pair) (ys : List Pair) → AreOrdered (y ∷ ys) → AreOrdered ys
tail_ordered y ys s i j d lt h = s (suc i) (suc j) d (omega arith) (omega arith)

head_below : (y : Pair) (ys : List Pair) → AreOrdered (y ∷ ys) → (z : Pair) → Contains ys z → pair_cmp y z ≡ Less
head_below y ys s z h =
    let at : pair_cmp y (get_or ys h.0 z) ≡ Less = s 0 (suc h.0) z (omega arith) (let lt : h.0 < length ys = h.1 in omega arith) in
    ap (λ (w : Pair). pair_cmp y w) (sym h.2) ∙ at

in_front : (x : Pair) (xs : List Pair) → (p : Pair) → Contains (x ∷ xs) p ↔ ((x ≡ p) ⊎ Contains xs p)
in_front x xs p = (
  Contains-cons_cases x xs p,
  λ h. elim h [
    | inl same ↦ (let P : Pair → Type 0 = λ q. Contains (x ∷ xs) q in subst P same (Contains-here x xs))
    | inr later ↦ Contains-there x xs p later
  ],
)

added : (x : Pair) (xs : List Pair) → AreOrdered xs → (ys : List Pair) × HasAdded x xs ys
added x [] s = (x ∷ [], record { ordered = AllPairs-cons (λ p q. pair_cmp p q ≡ Less) x [] (all_from_each (λ q. pair_cmp x q ≡ Less) [] (λ q h. absurd (nothing_in_nil q h))) s; each = in_front x [] })
added x (y ∷ ys) s = placed (pair_cmp x y) refl (added x ys (tail_ordered y ys s))
  where
    placed : (o : Ordering) → pair_cmp x y ≡ o → (zs : List Pair) × HasAdded x ys zs → (zs : List Pair) × HasAdded x (y ∷ ys) zs
    placed Less e more = (
      x ∷ y ∷ ys,
      record {
        ordered = AllPairs-cons (λ p q. pair_cmp p q ≡ Less) x (y ∷ ys) (all_from_each (λ q. pair_cmp x q ≡ Less) (y ∷ ys) (λ q h. elim (Contains-cons_cases y ys q h) [
          | inl same ↦ (let P : Pair → Type 0 = λ w. pair_cmp x w ≡ Less in subst P same e)
          | inr later ↦ pair_total.trans x y q e (head_below y ys s q later)
        ])) s;
        each = in_front x (y ∷ ys);
      },
    )
    placed Equal e more = (
      y ∷ ys,
      record {
        ordered = s;
        each = λ p. (
          λ h. inr h,
          λ h. elim h [
            | inl same ↦ (let P : Pair → Type 0 = λ w. Contains (y ∷ ys) w in subst P (sym (pair_exact x y e) ∙ same) (Contains-here y ys))
            | inr among ↦ among
          ],
        );
      },
    )
    placed Greater e more = (
      y ∷ more.0,
      record {
        ordered = AllPairs-cons (λ p q. pair_cmp p q ≡ Less) y more.0 (all_from_each (λ q. pair_cmp y q ≡ Less) more.0 (λ q h. elim ((more.1.each q).0 h) [
          | inl same ↦ (let P : Pair → Type 0 = λ w. pair_cmp y w ≡ Less in subst P same (pair_total.antisymm y x ∙ ap ordering_reverse e))
          | inr later ↦ head_below y ys s q later
        ])) more.1.ordered;
        each = λ p. (
          λ h. elim (Contains-cons_cases y more.0 p h) [
            | inl same ↦ inr (let P : Pair → Type 0 = λ w. Contains (y ∷ ys) w in subst P same (Contains-here y ys))
            | inr later ↦ elim ((more.1.each p).0 later) [ inl same ↦ inl same | inr among ↦ inr (Contains-there y ys p among) ]
          ],
          λ h. elim h [
            | inl same ↦ Contains-there y more.0 p ((more.1.each p).1 (inl same))
            | inr among ↦ elim (Contains-cons_cases y ys p among) [
              | inl same ↦ (let P : Pair → Type 0 = λ w. Contains (y ∷ more.0) w in subst P same (Contains-here y more.0))
              | inr later ↦ Contains-there y more.0 p ((more.1.each p).1 (inr later))
            ]
          ],
        );
      },
    )

-- ---- the pairs that lines show

shown_later : (line : Line) (lines : List Line) (from to : Text) (pair : Pair) → OverHop lines from to pair → OverHop (line ∷ lines) from to pair
shown_later line lines from to pair h = (h.0, h.1, Contains-there line lines (record { stop = h.0; rank = h.1 }) h.2, h.3, h.4, h.5, h.6)

-- the line is one over the hop
abbrev IsOver : Line → Text → Text → Type 0
IsOver line from to = (line.stop.caller ≡ from) × (line.stop.node ≡ to) × (from ≢ local)

same_text : (a b : Text) → (a ≡ b) ⊎ (a ≡ b → ⊥)
same_text a b = elim (cases_Bool (bytes_eq a b)) [
  | inl same ↦ inl ((bytes_eq-Decides a b).0 same)
  | inr apart ↦ inr (λ e. false≢true (sym apart ∙ (bytes_eq-Decides a b).1 e))
]

is_over : (line : Line) (from to : Text) → IsOver line from to ⊎ (IsOver line from to → ⊥)
is_over line from to = elim (same_text line.stop.caller from) [
  | inl a ↦ elim (same_text line.stop.node to) [
    | inl b ↦ elim (same_text from local) [ inl c ↦ inr (λ h. h.2 c) | inr c ↦ inl (a, b, c) ]
    | inr b ↦ inr (λ h. b h.1)
  ]
  | inr a ↦ inr (λ h. a h.0)
]

-- what the first line shows, or a later one
shown_by : (line : Line) (lines : List Line) (from to : Text) (pair : Pair) → OverHop (line ∷ lines) from to pair →
    (IsOver line from to × (pair ≡ (line.stop.cell.class, line.stop.cell.syntax))) ⊎ OverHop lines from to pair
shown_by line lines from to pair h = elim (Contains-cons_cases line lines (record { stop = h.0; rank = h.1 }) h.2) [
  | inl same ↦
      let stop : line.stop ≡ h.0 = ap (λ (l : Line). l.stop) same in
      inl ((ap (λ (s : Stop). s.caller) stop ∙ h.3, ap (λ (s : Stop). s.node) stop ∙ h.4, h.5), h.6 ∙ ap (λ (s : Stop). let p : Pair = (s.cell.class, s.cell.syntax) in p) (sym stop))
  | inr later ↦ inr (h.0, h.1, later, h.3, h.4, h.5, h.6)
]

shown_here : (line : Line) (lines : List Line) (from to : Text) → IsOver line from to → OverHop (line ∷ lines) from to (line.stop.cell.class, line.stop.cell.syntax)
shown_here line lines from to is = (line.stop, line.rank, Contains-here line lines, is.0, is.1, is.2, refl)

pub shown_pairs : (lines : List Line) (from to : Text) → (all : List Pair) × AreOverHop lines from to all
shown_pairs [] from to = (
  [],
  record {
    ordered = λ i j d lt h. absurd (omega arith);
    each = λ pair. (λ h. absurd (nothing_in_nil pair h), λ h. absurd (nothing_in_nil (record { stop = h.0; rank = h.1 }) h.2));
  },
)
shown_pairs (line ∷ lines) from to =
    let rest = shown_pairs lines from to in
    elim (is_over line from to) [
      | inl is ↦
          let pair : Pair = (line.stop.cell.class, line.stop.cell.syntax) in
          let more = added pair rest.0 rest.1.ordered in (
            more.0,
            record {
              ordered = more.1.ordered;
              each = λ p. (
                λ h. elim ((more.1.each p).0 h) [
                  | inl same ↦ (let P : Pair → Type 0 = λ q. OverHop (line ∷ lines) from to q in subst P same (shown_here line lines from to is))
                  | inr among ↦ shown_later line lines from to p ((rest.1.each p).0 among)
                ],
                λ h. elim (shown_by line lines from to p h) [
                  | inl here ↦ (more.1.each p).1 (inl (sym here.1))
                  | inr later ↦ (more.1.each p).1 (inr ((rest.1.each p).1 later))
                ],
              );
            },
          )
      | inr other ↦ (
        rest.0,
        record {
          ordered = rest.1.ordered;
          each = λ p. (
            λ h. shown_later line lines from to p ((rest.1.each p).0 h),
            λ h. elim (shown_by line lines from to p h) [ inl here ↦ absurd (other here.0) | inr later ↦ (rest.1.each p).1 later ],
          );
        },
      )
    ]

-- ---- of a plan with its certificate they are those that go over the hop
module _ (plan : Network) (certificate : Certificate) (formed : IsWellFormed plan) (sound : IsSound plan) (own : IsCertificateOf plan certificate) (from to : Text) where
  shown_goes : (pair : Pair) → OverHop certificate.lines from to pair → GoesOver plan from to pair
  shown_goes pair h =
      let has : HasLine plan (record { stop = h.0; rank = h.1 }) = (own.lines (record { stop = h.0; rank = h.1 })).0 h.2 in
      let P : Text → Type 0 = λ n. IsReached plan has.0 n h.0.node in
      let Q : Text → Type 0 = λ n. IsReached plan has.0 from n in
      let at : (let p : Pair = (h.0.cell.class, h.0.cell.syntax) in p) ≡ (has.0.class, has.0.syntax) =
      ap (λ (c : Text). let p : Pair = (c, h.0.cell.syntax) in p) has.1.class ∙ ap (λ (s : Syntax). let p : Pair = (has.0.class, s) in p) has.1.syntax in
      (has.0, h.6 ∙ at, goes_to plan has.0 from to h.5 (subst Q h.4 (subst P h.3 has.2)))

  goes_shown : (pair : Pair) → GoesOver plan from to pair → OverHop certificate.lines from to pair
  goes_shown pair goes =
      let key : Key = goes.0 in
      let cell = some_cell plan key in
      let reached : IsReached plan key from to = reached_next plan key goes.2.0 from to goes.2.1 goes.2.2 in
      let rank = sound_has_rank plan sound key from to reached in
      let stop : Stop = record { caller = from; node = to; cell = cell.0 } in
      let at : (let p : Pair = (key.class, key.syntax) in p) ≡ (cell.0.class, cell.0.syntax) =
      ap (λ (c : Text). let p : Pair = (c, key.syntax) in p) (sym cell.1.class) ∙ ap (λ (s : Syntax). let p : Pair = (cell.0.class, s) in p) (sym cell.1.syntax) in (
        stop,
        rank.0,
        (own.lines (record { stop = stop; rank = rank.0 })).1 (key, cell.1, reached, rank.1),
        refl,
        refl,
        reached_not_local plan formed key goes.2.0 from goes.2.1,
        goes.1 ∙ at,
      )

  listed : (all : List Pair) × AreHopPairs plan from to all
  listed =
      let shown = shown_pairs certificate.lines from to in (
        shown.0,
        record {
          ordered = shown.1.ordered;
          each = λ pair. (λ h. shown_goes pair ((shown.1.each pair).0 h), λ h. (shown.1.each pair).1 (goes_shown pair h));
        },
      )

pub hops_have_lists : HopsHaveLists
hops_have_lists plan certificate formed sound own from to = listed plan certificate formed sound own from to
