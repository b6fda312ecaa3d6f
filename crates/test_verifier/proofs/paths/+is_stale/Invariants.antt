use Rattle.test_verifier.proofs.paths.+is_stale.Given as goal

abbrev pub decreases-is_stale : goal.decreases-is_stale
decreases-is_stale l = l.steps
