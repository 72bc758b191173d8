-- A stream of PDUs that were written, cut anywhere.
use Rattle.std.proofs.Common.{◌≡◌, ◌≢◌, ◌⊎◌, ℕ, ◌<◌, ◌≤◌, List, [], ◌∷◌, ◌++◌, length, take, drop, refl, ap, subst, ◌∙◌, append_assoc, arith, inl, inr}
use Rattle.std.specs.List.{flat_map, AllByRecursion}
use Rattle.std.proofs.lemmas.List.{append-nil, length-append, nil_from_length}
use Rattle.std.proofs.lemmas.Bool.{cases_lt}
use Rattle.dr_base.specs.Runs.{Run}
use Rattle.dr_pdu.specs.declared.pdu.Pdu.{Pdu}
use Rattle.dr_pdu.specs.declared.fault.PduFault.TheVariants.{More}
use Rattle.dr_pdu.specs.Grammar.{StartsFrame, Spells, Shows}
use Rattle.dr_pdu.specs.Feeding.{StartsPdu, Units}
use Rattle.dr_pdu.specs.Written.{Fits, MeetsLimit, written}
use Rattle.dr_pdu.proofs.FeedLemmas.{excludes}
use Rattle.dr_pdu.proofs.WrittenLemmas.{written_spells}

-- six bytes of a text that goes on are its header
header_stays : (front back : List ℕ) (kind len : ℕ) (rest : List ℕ) → StartsFrame (front ++ back) kind len rest → 6 ≤ length front → StartsFrame front kind len (drop 6 front) × (drop 6 front ++ back ≡ rest)
header_stays [] back kind len rest b h = absurd (omega arith)
header_stays (u ∷ []) back kind len rest b h = absurd (omega arith)
header_stays (u ∷ v ∷ []) back kind len rest b h = absurd (omega arith)
header_stays (u ∷ v ∷ w ∷ []) back kind len rest b h = absurd (omega arith)
header_stays (u ∷ v ∷ w ∷ x ∷ []) back kind len rest b h = absurd (omega arith)
header_stays (u ∷ v ∷ w ∷ x ∷ y ∷ []) back kind len rest b h = absurd (omega arith)
header_stays (u ∷ v ∷ w ∷ x ∷ y ∷ z ∷ more) back kind len rest b h =
    ((b.0, b.1, ap (λ (t : List ℕ). take 6 t ++ more) b.2), ap (λ (t : List ℕ). drop 6 t) b.2)

-- a spelling of which bytes are missing shows nothing but that more is to come
pub cut_waits : (limit : ℕ) (front back : List ℕ) (p : Pdu) → Spells limit (front ++ back) p → back ≢ [] → Shows limit front More
cut_waits limit front back p (kind, body, whole, is, ids) some = by_length (cases_lt (length front) 6)
  where
    by_length : (length front < 6) ⊎ (6 ≤ length front) → Shows limit front More
    by_length (inl short) = inl short
    by_length (inr long) =
        let h = header_stays front back kind (length body) (body ++ []) whole.0 long in
        let all : length (drop 6 front ++ back) ≡ length body = ap (λ (t : List ℕ). length t) (h.1 ∙ append-nil body) in
        let left : length back ≢ 0 = λ e. some (nil_from_length back e) in
        inr (kind, length body, drop 6 front, h.0, whole.1, omega (arith, all, left, length-append (drop 6 front) back))

run_written : (limit : ℕ) (ps : List Pdu) (rest : List ℕ) → AllByRecursion (λ (p : Pdu). Fits p × MeetsLimit limit p) ps → Run (StartsPdu limit) ps (flat_map written ps ++ rest) rest
run_written limit [] rest h = refl
run_written limit (p ∷ ps) rest h =
    (flat_map written ps ++ rest, (written p, append_assoc (written p) (flat_map written ps) rest, written_spells limit p h.0.0 h.0.1), run_written limit ps rest h.1)

-- what comes out of a stream that is cut within a PDU
pub cut_stream : (limit : ℕ) (ps : List Pdu) (p : Pdu) (front back : List ℕ) → AllByRecursion (λ (x : Pdu). Fits x × MeetsLimit limit x) ps → Fits p → MeetsLimit limit p → written p ≡ front ++ back → back ≢ []
    → Units limit (flat_map written ps ++ front) ps front × Shows limit front More
cut_stream limit ps p front back all fits meets e some =
    let waits = cut_waits limit front back p (subst (λ (t : List ℕ). Spells limit t p) e (written_spells limit p fits meets)) some in
    ((run_written limit ps front all, excludes limit front More waits (λ x. cc)), waits)
