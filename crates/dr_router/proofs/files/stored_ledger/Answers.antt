use Rattle.dr_router.proofs.files.stored_ledger.Goals as goal

-- the cells are in use
pub of-requires-clause-kept : goal.of-requires-clause-kept
of-requires-clause-kept g c whole safe =
    ∣ record { kept = c.requires.kept safe.0; own = (c.requires.own safe.0).cells } ∣₁
