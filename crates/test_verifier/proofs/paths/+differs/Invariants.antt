use Rattle.test_verifier.proofs.paths.+differs.Given as goal

abbrev pub decreases-differs : goal.decreases-differs
decreases-differs l = l.steps
