-- Journals that are cut one after another, and joined again.
use Rattle.std.proofs.Common.{◌≡◌, ◌∙◌, ◌<◌, ◌≤◌, ◌+◌, ◌++◌, ◌∷◌, [], ℕ, zero, suc, List, append_assoc, append-nil, get_or, length, map as mapped, take, refl, sym, ap, subst, arith}
use Rattle.std.specs.Global.{Vec}
use Rattle.std.proofs.lemmas.List.{map-append, take_more}
use Rattle.dr_ledger_history.specs.declared.line.JournalLine.{JournalLine}
use Rattle.dr_world_audit.specs.declared.audit.NodeJournal.{NodeJournal}
use Rattle.dr_word_audit_at.specs.Cuts.{cut_at, cuts, joined, joined_at, rests_of}

-- these journals are cut, with what stands behind each cut
pub record AreCut (counts : List ℕ) (read nodes : List NodeJournal) (rests : List (Vec JournalLine)) : Type 0 where
  pub long : length nodes ≡ length read
  pub cut : nodes ≡ cuts (take (length read) counts) read
  pub whole : joined nodes (rests_of rests) ≡ read
  pub each : length rests ≡ length read

cuts_pushed : (ns : List ℕ) (n : ℕ) (xs : List NodeJournal) (x : NodeJournal) → length ns ≡ length xs → cuts (ns ++ n ∷ []) (xs ++ x ∷ []) ≡ cuts ns xs ++ cut_at n x ∷ []
cuts_pushed [] n [] x e = refl
cuts_pushed [] n (y ∷ xs) x e = absurd (omega (arith, e))
cuts_pushed (m ∷ ns) n [] x e = absurd (omega (arith, e))
cuts_pushed (m ∷ ns) n (y ∷ xs) x e = ap (λ zs. cut_at m y ∷ zs) (cuts_pushed ns n xs x (omega (arith, e)))

joined_pushed : (xs : List NodeJournal) (rs : List (List JournalLine)) (x : NodeJournal) (r : List JournalLine) → length rs ≡ length xs → joined (xs ++ x ∷ []) (rs ++ r ∷ []) ≡ joined xs rs ++ joined_at x r ∷ []
joined_pushed [] [] x r e = refl
joined_pushed [] (s ∷ rs) x r e = absurd (omega (arith, e))
joined_pushed (y ∷ xs) [] x r e = absurd (omega (arith, e))
joined_pushed (y ∷ xs) (s ∷ rs) x r e = ap (λ zs. joined_at y s ∷ zs) (joined_pushed xs rs x r (omega (arith, e)))

length_pushed : {X : Type 0} (xs : List X) (x : X) → length (xs ++ x ∷ []) ≡ length xs + 1
length_pushed [] x = refl
length_pushed (y ∷ xs) x = let h = length_pushed xs x in omega (arith, h)

length_joined : {X : Type 0} (xs ys : List X) → length (xs ++ ys) ≡ length xs + length ys
length_joined [] ys = omega arith
length_joined (x ∷ xs) ys = let h = length_joined xs ys in omega (arith, h)

length_mapped : {X Y : Type 0} (f : X → Y) (xs : List X) → length (mapped f xs) ≡ length xs
length_mapped f [] = refl
length_mapped f (x ∷ xs) = let h = length_mapped f xs in omega (arith, h)

length_taken : {X : Type 0} (n : ℕ) (xs : List X) → n ≤ length xs → length (take n xs) ≡ n
length_taken zero xs le = refl
length_taken (suc n) [] le = absurd (omega (arith, le))
length_taken (suc n) (x ∷ xs) le = let h = length_taken n xs (omega (arith, le)) in omega (arith, h)

-- one journal more is cut, and others are left
module _ (counts : List ℕ) (all read nodes more left : List NodeJournal) (rests later : List (Vec JournalLine)) (node journal : NodeJournal) (rest : Vec JournalLine) (n : ℕ) (long : length counts ≡ length all) (parts : all ≡ (read ++ node ∷ []) ++ left) (old : AreCut counts read nodes rests)
    (at : n ≡ get_or counts (length nodes) 0) (is : journal ≡ cut_at n node) (back : joined_at journal rest.items ≡ node) (pushed : more ≡ nodes ++ journal ∷ []) (pushed_rest : later ≡ rests ++ rest ∷ []) where
  few : length read < length counts
  few =
      let a : length all ≡ length (read ++ node ∷ []) + length left = ap length parts ∙ length_joined (read ++ node ∷ []) left in
      let b : length (read ++ node ∷ []) ≡ length read + 1 = length_pushed read node in
      omega (arith, a, b, long)

  place : n ≡ get_or counts (length read) 0
  place = at ∙ ap (λ k. get_or counts k 0) old.long

  taken : take (length (read ++ node ∷ [])) counts ≡ take (length read) counts ++ n ∷ []
  taken = ap (λ k. take k counts) (length_pushed read node) ∙ take_more counts (length read) 0 few ∙ ap (λ k. take (length read) counts ++ k ∷ []) (sym place)

  pub cut_one_more : AreCut counts (read ++ node ∷ []) more later
  cut_one_more = record {
    long = let a : length more ≡ length nodes + 1 = ap length pushed ∙ length_pushed nodes journal in
        let b : length (read ++ node ∷ []) ≡ length read + 1 = length_pushed read node in
        let c = old.long in omega (arith, a, b, c);
    cut = pushed ∙ (λ i. old.cut i ++ is i ∷ [])
        ∙ sym (cuts_pushed (take (length read) counts) n read node (length_taken (length read) counts (omega (arith, few))))
        ∙ ap (λ ns. cuts ns (read ++ node ∷ [])) (sym taken);
    whole = (λ i. joined (pushed i) (rests_of (pushed_rest i))) ∙ ap (joined (nodes ++ journal ∷ [])) (map-append (λ (r : Vec JournalLine). r.items) rests (rest ∷ []))
        ∙ joined_pushed nodes (rests_of rests) journal rest.items (length_mapped (λ (r : Vec JournalLine). r.items) rests ∙ old.each ∙ sym old.long) ∙ (λ i. old.whole i ++ back i ∷ []);
    each = let a : length later ≡ length rests + 1 = ap length pushed_rest ∙ length_pushed rests rest in
        let b : length (read ++ node ∷ []) ≡ length read + 1 = length_pushed read node in
        let c = old.each in omega (arith, a, b, c);
  }

-- one more of all is taken
pub goes_on : {X : Type 0} (all done : List X) (x : X) (left rest : List X) → all ≡ done ++ left → left ≡ x ∷ rest → all ≡ (done ++ x ∷ []) ++ rest
goes_on all done x left rest so_far next = so_far ∙ ap (λ ys. done ++ ys) next ∙ sym (append_assoc done (x ∷ []) rest)
