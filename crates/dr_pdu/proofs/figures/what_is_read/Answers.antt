use Rattle.std.proofs.Common.{arith, refl, inl, inr, List, ◌∷◌, [], drop}
use Rattle.std.specs.Prelude.{codes}
use Rattle.dr_pdu.specs.Items.{Item}
use Rattle.dr_pdu.specs.Vectors.{echo_text, echo_command, explicit, foreign_proposal, foreign_user, foreign_items, foreign_body, foreign_text}
use Rattle.dr_pdu.specs.Written.{implicit}
use Rattle.dr_base.specs.Standard.{image, verification, application_context}
use Rattle.dr_pdu.proofs.figures.what_is_read.Goals as goal

pub returns-clause-echo : goal.returns-clause-echo
returns-clause-echo c =
    (echo_text, [], refl, refl, (4, 0 ∷ 0 ∷ 0 ∷ 0x46 ∷ 1 ∷ 3 ∷ echo_command, ((0, omega arith, refl), refl), (refl, ([], (omega arith, refl), refl)), tt))

pub returns-clause-header_alone : goal.returns-clause-header_alone
returns-clause-header_alone c = inr (1, 262144, [], (0, omega arith, refl), refl, omega arith)

pub returns-clause-too_long : goal.returns-clause-too_long
returns-clause-too_long c = (1, 262145, [], (0, omega arith, refl), refl)

pub returns-clause-too_short : goal.returns-clause-too_short
returns-clause-too_short c = inl (1, 67, [], (0, omega arith, refl), refl)

pub returns-clause-not_four : goal.returns-clause-not_four
returns-clause-not_four c = inl (3, 5, [], (0, omega arith, refl), refl)

pub returns-clause-reserved_bytes : goal.returns-clause-reserved_bytes
returns-clause-reserved_bytes c = (5 ∷ 9 ∷ 0 ∷ 0 ∷ 0 ∷ 4 ∷ 1 ∷ 2 ∷ 3 ∷ 4 ∷ [], 5 ∷ [], refl, refl, (5, 1 ∷ 2 ∷ 3 ∷ 4 ∷ [], ((9, omega arith, refl), refl), (refl, refl), tt))

-- the items, those of the proposal and those of the user information, each where it stands
pub returns-clause-foreign : goal.returns-clause-foreign
returns-clause-foreign c =
    let items : List Item = record { kind = 0x11; body = 7 ∷ 8 ∷ [] } ∷ record { kind = 0x10; body = application_context } ∷ record { kind = 0x20; body = 1 ∷ 1 ∷ 2 ∷ 3 ∷ foreign_proposal } ∷ record { kind = 0x50; body = foreign_user } ∷ [] in
    let proposed : List Item = record { kind = 0x30; body = image } ∷ record { kind = 0x30; body = verification } ∷ record { kind = 0x40; body = explicit } ∷ record { kind = 0x40; body = implicit } ∷ [] in
    let user : List Item = record { kind = 0x51; body = 0 ∷ 0 ∷ 64 ∷ 0 ∷ [] } ∷ record { kind = 0x52; body = 49 ∷ 46 ∷ 50 ∷ [] } ∷ record { kind = 0x53; body = 0 ∷ 1 ∷ 0 ∷ 1 ∷ [] } ∷ record { kind = 0x54; body = 0 ∷ 0 ∷ 1 ∷ 1 ∷ [] } ∷ record { kind = 0x55; body = 68 ∷ [] } ∷ record { kind = 0x56; body = 9 ∷ [] } ∷ record { kind = 0x57; body = 9 ∷ [] } ∷ record { kind = 0x58; body = 1 ∷ 1 ∷ [] } ∷ record { kind = 0x59; body = [] } ∷ [] in (
      foreign_text,
      [],
      refl,
      refl,
      (
        1,
        foreign_body,
        ((7, omega arith, refl), refl),
        (
          refl,
          (
            items,
            foreign_items,
            (9, 8, codes "ARCH            ", codes "GATE            ", omega arith, refl, refl, refl, refl, refl, refl),
            (drop 6 foreign_items, (0, omega arith, refl), (drop 31 foreign_items, (9, omega arith, refl), (drop 133 foreign_items, (4, omega arith, refl), (drop 193 foreign_items, (0, omega arith, refl), refl)))),
            refl,
            ((1, 2, 3, proposed, foreign_proposal, refl, (drop 29 foreign_proposal, (7, omega arith, refl), (drop 50 foreign_proposal, (0, omega arith, refl), (drop 73 foreign_proposal, (5, omega arith, refl), (drop 94 foreign_proposal, (0, omega arith, refl), refl)))), refl, refl, λ e. absurd (cc)), tt),
            (user, (drop 8 foreign_user, (3, omega arith, refl), (drop 15 foreign_user, (0, omega arith, refl), (drop 23 foreign_user, (0, omega arith, refl), (drop 31 foreign_user, (0, omega arith, refl), (drop 36 foreign_user, (0, omega arith, refl), (drop 41 foreign_user, (0, omega arith, refl), (drop 46 foreign_user, (0, omega arith, refl), (drop 52 foreign_user, (0, omega arith, refl), (drop 56 foreign_user, (0, omega arith, refl), refl))))))))), (omega arith, refl)),
          ),
        ),
        (refl, λ h. omega (arith, h.1), tt),
      ),
    )
