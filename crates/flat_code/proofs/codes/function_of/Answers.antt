use Rattle.flat_code.proofs.codes.function_of.Goals as goal

pub of-requires : goal.of-requires
of-requires c = rw c.func_at.ensures (c.requires c.args.place)

pub returns : goal.returns
returns c = rw (c.in_ok-source.ensures, c.layouts.ensures.value, c.func_at.ensures) at c.function.ensures
