-- Laws of the pairs that stand at a place along a path.
use Rattle.std.specs.Prelude.{◌≡◌, ℕ, true}
use Rattle.ir_ast.specs.declared.ops.Operand.{Operand}
use Rattle.ir_ast.specs.Funcs.{Function}
use Rattle.pair_facts.specs.declared.bases.Base.{Base}
use Rattle.pair_facts.specs.declared.bases.Base.TheVariants.{Any, Named}
use Rattle.pair_facts.specs.Lines.{named}
use Rattle.pair_facts.specs.Pairs.{Pairs}
use Rattle.pair_facts.specs.Paths.{At}

-- where a pair with a named base stands, the base has itself
abbrev pub BasesAreOwn : Type 0
BasesAreOwn = (func : Function) (block place : ℕ) (pairs : Pairs) (operand : Operand) (value : ℕ) → At func block place pairs
    → pairs operand (Named (named value)) ≡ true → pairs (named value) (Named (named value)) ≡ true

-- what has a base is fresh
abbrev pub FreshWithBase : Type 0
FreshWithBase = (func : Function) (block place : ℕ) (pairs : Pairs) (operand : Operand) (base : Base) → At func block place pairs
    → pairs operand base ≡ true → pairs operand Any ≡ true
