-- The fields of a row.
use Rattle.std.specs.Prelude.{◌≡◌, ℕ, ◌≤◌, List, ◌∷◌, ◌++◌, decimal}
use Rattle.dr_base.specs.Syntaxes.{syntax_uid}
use Rattle.dr_cert_text.specs.Printable.{IsPlain}
use Rattle.dr_cert_text.specs.declared.lines.LineFields.{LineFields}
use Rattle.dr_cert_text.specs.declared.hops.HopFields.{HopFields}

-- the row, without its word, is these seven fields of a line joined by tabs; none has a tab or an
-- LF in it
pub record AreLineFields (row : List ℕ) (fields : LineFields) : Type 0 where
  pub whole : row
      ≡ fields.caller.now ++ (9 ∷ fields.node.now) ++ (9 ∷ fields.class.now)
      ++ (9 ∷ syntax_uid fields.syntax) ++ (9 ∷ fields.modality.now) ++ (9 ∷ fields.station.now)
      ++ (9 ∷ decimal fields.rank)
  pub caller : IsPlain fields.caller.now
  pub node : IsPlain fields.node.now
  pub class : IsPlain fields.class.now
  pub modality : IsPlain fields.modality.now
  pub station : IsPlain fields.station.now
  pub rank : fields.rank ≤ 4294967295

-- the row, without its word, is these five fields of a hop joined by tabs; none has a tab or an LF
-- in it
pub record AreHopFields (row : List ℕ) (fields : HopFields) : Type 0 where
  pub whole : row
      ≡ fields.from.now ++ (9 ∷ fields.to.now) ++ (9 ∷ decimal fields.id) ++ (9 ∷ fields.class.now)
      ++ (9 ∷ syntax_uid fields.syntax)
  pub «from» : IsPlain fields.from.now
  pub «to» : IsPlain fields.to.now
  pub id : fields.id ≤ 255
  pub class : IsPlain fields.class.now
