-- Fragments as whoever hears them takes them: the whole of their text, and the message of their command.
use Rattle.std.proofs.Common.{◌≡◌, ◌≢◌, ℕ, zero, suc, ◌+◌, ◌≤◌, Bool, true, false, List, [], ◌∷◌, ◌++◌, length, take, drop, Some, None, refl, sym, ap, subst, ◌∙◌, append_assoc, inl, inr, ◌⊎◌}
use Rattle.std.specs.Prelude.{nat_le, if◌then◌else◌}
use Rattle.std.specs.List.{flat_map, AllByRecursion}
use Rattle.std.proofs.lemmas.Bool.{cases_Bool}
use Rattle.std.proofs.lemmas.List.{append-nil, take-append-drop}
use Rattle.dr_pdu.specs.declared.pdu.Pdu.{Pdu}
use Rattle.dr_pdu.specs.declared.pdu.Pdv.{Pdv}
use Rattle.dr_dimse.specs.Messages.{joined, AreInner, IsOfKind, IsWhole, is_command as carries_command, is_last, body_of}
use Rattle.dr_nego.specs.Fragments.{piece_size, cut, pieces, header_of, value_pdu, value_pdus, is_command}
use Rattle.dr_nego.specs.Laws.{values_of, values_in, FragmentsAreWhole, CommandsAreMessages, DataSetsAreMessages}

abbrev value : ℕ → Bool → Bool → List ℕ → Pdv
value id kind last fragment = record { id = id; header = header_of kind last; fragment = fragment }

abbrev text_of : List (List ℕ) → List ℕ
text_of parts = flat_map (λ (x : List ℕ). x) parts

-- cutting loses nothing, whatever the size
cut_joined : (fuel size : ℕ) (text : List ℕ) → text_of (cut fuel size text) ≡ text
cut_joined zero size text = append-nil text
cut_joined (suc more) size text =
    let P : Bool → Type 0 = λ b. text_of (if b then text ∷ [] else take size text ∷ cut more size (drop size text)) ≡ text in
    elim (cases_Bool (nat_le (length text) size)) [
      | inl short ↦ subst P (sym short) (append-nil text)
      | inr long ↦ subst P (sym long) (ap (λ (l : List ℕ). take size text ++ l) (cut_joined more size (drop size text)) ∙ take-append-drop size text)
    ]

cut_some : (fuel size : ℕ) (text : List ℕ) → cut fuel size text ≢ []
cut_some zero size text e = cc e
cut_some (suc more) size text e =
    let P : Bool → Type 0 = λ b. (if b then text ∷ [] else take size text ∷ cut more size (drop size text)) ≡ [] in
    elim (cases_Bool (nat_le (length text) size)) [
      | inl short ↦ (let f : text ∷ [] ≡ [] = subst P short e in cc f)
      | inr long ↦ (let f : take size text ∷ cut more size (drop size text) ≡ [] = subst P long e in cc f)
    ]

of_kind : (id : ℕ) (kind last : Bool) (piece : List ℕ) → IsOfKind kind id (value id kind last piece) × (is_last (value id kind last piece) ≡ last)
of_kind id true true piece = ((refl, refl), refl)
of_kind id true false piece = ((refl, refl), refl)
of_kind id false true piece = ((refl, refl), refl)
of_kind id false false piece = ((refl, refl), refl)

-- the values of the PDUs of some pieces are the whole of what the pieces join to
values_are_whole : (id : ℕ) (kind : Bool) (parts : List (List ℕ)) → parts ≢ [] → IsWhole kind id (values_of (value_pdus id kind parts)) (text_of parts)
values_are_whole id kind [] some = absurd (some refl)
values_are_whole id kind (p ∷ []) some = (let o = of_kind id kind true p in ([], value id kind true p, refl, tt, o.0, o.1, refl))
values_are_whole id kind (p ∷ q ∷ more) some =
    let (front, final, are, inner, kinds, last, text) = values_are_whole id kind (q ∷ more) (λ e. cc e) in
    (value id kind false p ∷ front, final, ap (λ (l : List Pdv). value id kind false p ∷ l) are, (of_kind id kind false p, inner), kinds, last, ap (λ (l : List ℕ). p ++ l) text)

whole_of : (limit id : ℕ) (kind : Bool) (text : List ℕ) → IsWhole kind id (values_of (value_pdus id kind (pieces (piece_size limit) text))) text
whole_of limit id kind text =
    let ps : List (List ℕ) = pieces (piece_size limit) text in
    let P : List ℕ → Type 0 = λ t. IsWhole kind id (values_of (value_pdus id kind ps)) t in
    subst P (cut_joined (length text) (piece_size limit) text) (values_are_whole id kind ps (cut_some (length text) (piece_size limit) text))

pub fragments_are_whole : FragmentsAreWhole
fragments_are_whole limit id kind text = whole_of limit id (is_command kind) text

pub commands_are_messages : CommandsAreMessages
commands_are_messages limit id c text is short none =
    let vs : List Pdv = values_of (value_pdus id true (pieces (piece_size limit) text)) in
    (vs, [], text, sym (append-nil vs), whole_of limit id true text, short, is, inl (none, refl, refl))

values_behind : (ps qs : List Pdu) → values_of (ps ++ qs) ≡ values_of ps ++ values_of qs
values_behind [] qs = refl
values_behind (p ∷ ps) qs = ap (λ (l : List Pdv). values_in p ++ l) (values_behind ps qs) ∙ sym (append_assoc (values_in p) (values_of ps) (values_of qs))

pub data_sets_are_messages : DataSetsAreMessages
data_sets_are_messages limit id c text body is short some =
    let ps : List Pdu = value_pdus id true (pieces (piece_size limit) text) in
    let qs : List Pdu = value_pdus id false (pieces (piece_size limit) body) in
    (values_of ps, values_of qs, text, values_behind ps qs, whole_of limit id true text, short, is, inr (some, (body, whole_of limit id false body, refl)))
