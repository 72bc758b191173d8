use Rattle.dr_run_serve.proofs.serving.Deployment.serve_timed.Given as goal

abbrev pub ghosts-share-B-Ledger : goal.ghosts-share-B-Ledger
ghosts-share-B-Ledger g a = record { name = a.blank.name; parts = a.blank.parts }

abbrev pub ghosts-share-B-Sharing : goal.ghosts-share-B-Sharing
ghosts-share-B-Sharing g a =
    record { all = 65536; first = (g.L.Ledger.book a.ledger.ledger).lines; site = a.site }
