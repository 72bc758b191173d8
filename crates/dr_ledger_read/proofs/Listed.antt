-- Names one behind the other, cut off the front of a text.
use Rattle.std.proofs.Common.{◌≡◌, ◌∙◌, ◌<◌, ◌≤◌, ◌+◌, ℕ, List, [], ◌∷◌, ◌++◌, Option, None, Some, Bor, All, refl, sym, ap, subst, arith, append_assoc, drop, get_or, length, flat_map}
use Rattle.std.proofs.lemmas.List.{append-nil, length-append}
use Rattle.std.proofs.lemmas.List.Concat.{flat_map-append}
use Rattle.std.proofs.lemmas.List.Elements.{All-cons, All-head, All-nil, All-push, All-tail}
use Rattle.dr_base_quoted.specs.Quoting.{quoted}
use Rattle.dr_ledger_text.specs.Lines.{further_name, names_text}
use Rattle.dr_ledger_text.proofs.Pieces.{same_quoted}
use Rattle.dr_ledger_read.specs.Cutting.{Cuts, HasNone, IsCut}
use Rattle.dr_ledger_read.specs.Pieces.{AreBytes, Holds, IsFurther, IsNames, IsQuoted}
use Rattle.dr_ledger_read.specs.Places.{HoldsNames}

abbrev listing : List (List ℕ) → List ℕ
listing names = flat_map further_name names

abbrev NoName : List ℕ → Type 0
NoName rest = (name x : List ℕ) → AreBytes name → rest ≡ 44 ∷ (quoted name ++ x) → ⊥

-- where no name follows, those that were read so far are all
listed : (done names : List (List ℕ)) (rest later : List ℕ) → NoName rest → All AreBytes names → listing names ++ 93 ∷ later ≡ listing done ++ rest → (done ≡ names) × (rest ≡ 93 ∷ later)
listed [] [] rest later none bytes e = (refl, sym e)
listed [] (c ∷ cs) rest later none bytes e =
    absurd (none c (listing cs ++ 93 ∷ later) (All-head AreBytes c cs bytes) (sym e ∙ append_assoc (further_name c) (listing cs) (93 ∷ later)))
listed (d ∷ ds) [] rest later none bytes e = let f : 93 ≡ 44 = ap (λ (l : List ℕ). get_or l 0 0) e in absurd (omega (arith, f))
listed (d ∷ ds) (c ∷ cs) rest later none bytes e =
    let f : quoted c ++ (listing cs ++ 93 ∷ later) ≡ quoted d ++ (listing ds ++ rest) =
    ap (λ (l : List ℕ). drop 1 l) (sym (append_assoc (further_name c) (listing cs) (93 ∷ later)) ∙ e ∙ append_assoc (further_name d) (listing ds) rest) in
    let r = same_quoted c d _ _ f in
    let on = listed ds cs rest later none (All-tail AreBytes c cs bytes) r.1 in
    (ap (λ (n : List ℕ). n ∷ ds) (sym r.0) ∙ ap (λ (l : List (List ℕ)). c ∷ l) on.0, on.1)

module _ (text r : List ℕ) (done : List (List ℕ)) (bytes : All AreBytes done) (read : text ≡ listing done ++ r) where
  pub one_name_more : (behind later name : List ℕ) → r ≡ 44 ∷ behind → behind ≡ quoted name ++ later → text ≡ listing (done ++ name ∷ []) ++ later
  one_name_more behind later name e f =
      read ∙ ap (λ (l : List ℕ). listing done ++ l) (e ∙ ap (λ (l : List ℕ). 44 ∷ l) f) ∙ sym (append_assoc (listing done) (further_name name) later)
      ∙ ap (λ (l : List ℕ). l ++ later) (sym (flat_map-append further_name done (name ∷ []) ∙ ap (λ (l : List ℕ). listing done ++ l) (append-nil (further_name name))))

  ends : NoName r → (names : List (List ℕ)) (later : List ℕ) → IsFurther text names later → (done ≡ names) × (r ≡ 93 ∷ later)
  ends none names later is = listed done names r later none is.0 (sym is.1 ∙ read)

  pub no_further : (behind : List ℕ) → r ≡ 44 ∷ behind → HasNone (IsQuoted behind) → HasNone (IsFurther text)
  no_further behind e none names later is =
      let f : 93 ≡ 44 = ap (λ (l : List ℕ). get_or l 0 0) (sym (ends (λ n x b g. none n x (b, ap (λ (l : List ℕ). drop 1 l) (sym e ∙ g))) names later is).1 ∙ e) in
      omega (arith, f)

  module _ (comma : (x : List ℕ) → r ≡ 44 ∷ x → ⊥) where
    all : (names : List (List ℕ)) (later : List ℕ) → IsFurther text names later → (done ≡ names) × (r ≡ 93 ∷ later)
    all names later is = ends (λ n x b g. comma (quoted n ++ x) g) names later is

    pub unbracketed : ((x : List ℕ) → r ≡ 93 ∷ x → ⊥) → HasNone (IsFurther text)
    unbracketed none names later is = none later (all names later is).1

    pub further_cut : (at rest : Bor (List ℕ)) → at.now ≡ text → r ≡ 93 ∷ rest.now → IsCut (Bor (List ℕ)) (List (List ℕ)) (λ (p : Bor (List ℕ)) (names : List (List ℕ)). p.now ≡ text) (IsFurther text) (at, rest)
    further_cut at rest here closes = record {
      value = done;
      is = (bytes, read ∙ ap (λ (l : List ℕ). listing done ++ l) closes);
      each = λ names later is. (here, ap (λ (l : List ℕ). drop 1 l) (sym (all names later is).1 ∙ closes));
    }

-- ---- all names

abbrev AtNames : Bor (List ℕ) → List (List ℕ) → Type 0
AtNames p names = HoldsNames p.now names

pub no_names_cut : (at rest : Bor (List ℕ)) → at.now ≡ 93 ∷ rest.now → IsCut (Bor (List ℕ)) (List (List ℕ)) AtNames (IsNames at.now) (at, rest)
no_names_cut at rest e = record { value = []; is = (All-nil AreBytes, e); each = one }
  where
    one : (names : List (List ℕ)) (later : List ℕ) → IsNames at.now names later → AtNames at names × (later ≡ rest.now)
    one [] later is = ((later, is), ap (λ (l : List ℕ). drop 1 l) (sym is.1 ∙ e))
    one (c ∷ cs) later is = let f : 34 ≡ 93 = ap (λ (l : List ℕ). get_or l 0 0) (sym is.1 ∙ e) in absurd (omega (arith, f))

-- what is behind the first name
names_then : (c : List ℕ) (cs : List (List ℕ)) (later : List ℕ) → names_text (c ∷ cs) ++ 93 ∷ later ≡ quoted c ++ (listing cs ++ 93 ∷ later)
names_then c cs later = append_assoc (quoted c) (listing cs) (93 ∷ later)

module _ (text : List ℕ) (bracket : (rest : List ℕ) → text ≡ 93 ∷ rest → ⊥) where
  pub no_first : HasNone (IsQuoted text) → HasNone (IsNames text)
  no_first none [] later is = bracket later is.1
  no_first none (c ∷ cs) later is = none c (listing cs ++ 93 ∷ later) (All-head AreBytes c cs is.0, is.1 ∙ names_then c cs later)

  module _ (name more : Bor (List ℕ)) (first : IsCut (Bor (List ℕ)) (List ℕ) (λ (p : Bor (List ℕ)). Holds p.now) (IsQuoted text) (name, more)) where
    behind_first : (c : List ℕ) (cs : List (List ℕ)) (later : List ℕ) → IsNames text (c ∷ cs) later → IsFurther more.now cs later
    behind_first c cs later is =
        (All-tail AreBytes c cs is.0, sym (first.each c (listing cs ++ 93 ∷ later) (All-head AreBytes c cs is.0, is.1 ∙ names_then c cs later)).1)

    pub no_others : HasNone (IsFurther more.now) → HasNone (IsNames text)
    no_others none [] later is = bracket later is.1
    no_others none (c ∷ cs) later is = none cs later (behind_first c cs later is)

    pub names_cut : (at place rest : Bor (List ℕ)) → at.now ≡ text → IsCut (Bor (List ℕ)) (List (List ℕ)) (λ (p : Bor (List ℕ)) (names : List (List ℕ)). p.now ≡ more.now) (IsFurther more.now) (place, rest)
        → IsCut (Bor (List ℕ)) (List (List ℕ)) AtNames (IsNames text) (at, rest)
    names_cut at place rest here others = record {
      value = first.value ∷ others.value;
      is = (
        All-cons AreBytes first.value others.value first.is.0 others.is.0,
        first.is.1 ∙ ap (λ (l : List ℕ). quoted first.value ++ l) others.is.1 ∙ sym (names_then first.value others.value rest.now),
      );
      each = one;
    }
      where
        one : (names : List (List ℕ)) (later : List ℕ) → IsNames text names later → AtNames at names × (later ≡ rest.now)
        one [] later is = absurd (bracket later is.1)
        one (c ∷ cs) later is = ((later, (is.0, here ∙ is.1)), (others.each cs later (behind_first c cs later is)).1)

-- ---- names read again

pub comma_there : (text behind : List ℕ) → text ≡ 44 ∷ behind → (names : List (List ℕ)) (rest : List ℕ) → text ≡ listing names ++ 93 ∷ rest → behind ≡ names_text names ++ 93 ∷ rest
comma_there text behind e [] rest is = let f : 44 ≡ 93 = ap (λ (l : List ℕ). get_or l 0 0) (sym e ∙ is) in absurd (omega (arith, f))
comma_there text behind e (c ∷ cs) rest is = ap (λ (l : List ℕ). drop 1 l) (sym e ∙ is)

pub no_comma : (text : List ℕ) → ((behind : List ℕ) → text ≡ 44 ∷ behind → ⊥) → (names : List (List ℕ)) (rest : List ℕ) → text ≡ listing names ++ 93 ∷ rest → text ≡ names_text names ++ 93 ∷ rest
no_comma text none [] rest is = is
no_comma text none (c ∷ cs) rest is = absurd (none ((quoted c ++ listing cs) ++ 93 ∷ rest) is)

-- what was read so far of any names that stand at the place
abbrev pub SoFar : List ℕ → List (List ℕ) → List ℕ → Type 0
SoFar place done rest = (names : List (List ℕ)) (later : List ℕ) → IsNames place names later → (more : List (List ℕ)) × (names ≡ done ++ more) × IsNames rest more later

pub none_so_far : (place : List ℕ) (done : List (List ℕ)) → done ≡ [] → SoFar place done place
none_so_far place done e names later is = (names, ap (λ (l : List (List ℕ)). l ++ names) (sym e), is)

pub one_more_so_far : (place rest next text : List ℕ) (done grown : List (List ℕ)) (name later : Bor (List ℕ)) → SoFar place done rest
    → IsCut (Bor (List ℕ)) (List ℕ) (λ (p : Bor (List ℕ)). Holds p.now) (IsQuoted rest) (name, later)
    → ((value : List ℕ) → Holds name.now value → text ≡ value)
    → grown ≡ done ++ text ∷ []
    → ((names : List (List ℕ)) (last : List ℕ) → later.now ≡ listing names ++ 93 ∷ last → next ≡ names_text names ++ 93 ∷ last)
    → SoFar place grown next
one_more_so_far place rest next text done grown name later so cut reads grows goes names last is = go (so names last is)
  where
    go : (more : List (List ℕ)) × (names ≡ done ++ more) × IsNames rest more last → (more : List (List ℕ)) × (names ≡ grown ++ more) × IsNames next more last
    go ([], e, m) = let f : 34 ≡ 93 = ap (λ (l : List ℕ). get_or l 0 0) (sym cut.is.1 ∙ m.1) in absurd (omega (arith, f))
    go (c ∷ cs, e, m) =
        let r = cut.each c (listing cs ++ 93 ∷ last) (All-head AreBytes c cs m.0, m.1 ∙ names_then c cs last) in
        let g : grown ≡ done ++ c ∷ [] = grows ∙ ap (λ (t : List ℕ). done ++ t ∷ []) (reads c r.0) in
        (cs, e ∙ sym (append_assoc done (c ∷ []) cs) ∙ ap (λ (l : List (List ℕ)). l ++ cs) (sym g), (All-tail AreBytes c cs m.0, goes cs last (sym r.1)))

pub all_so_far : (place rest : List ℕ) (done : List (List ℕ)) → SoFar place done rest → HasNone (IsQuoted rest) → (names : List (List ℕ)) → HoldsNames place names → done ≡ names
all_so_far place rest done so none names (later, is) = go (so names later is)
  where
    go : (more : List (List ℕ)) × (names ≡ done ++ more) × IsNames rest more later → done ≡ names
    go ([], e, m) = sym (append-nil done) ∙ sym e
    go (c ∷ cs, e, m) = absurd (none c (listing cs ++ 93 ∷ later) (All-head AreBytes c cs m.0, m.1 ∙ names_then c cs later))

pub behind_name : (rest later v : List ℕ) → rest ≡ quoted v ++ later → length later < length rest
behind_name rest later v e =
    let f : length rest ≡ length (quoted v) + length later = ap (λ (l : List ℕ). length l) e ∙ length-append (quoted v) later in
    omega (arith, f)
