use Rattle.test_passes.proofs.passes.one_with_bases.Goals as goal

pub insert-requires-clause-known : goal.insert-requires-clause-known
insert-requires-clause-known c = c.requires.known
