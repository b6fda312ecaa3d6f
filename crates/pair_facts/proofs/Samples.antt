-- Pairs along the lines of a block, by computation, as a check that the definitions say what was meant.
use Rattle.std.proofs.Common.{◌≡◌, ℕ, Bool, true, false, List, [], ◌∷◌, Some, None, refl, map}
use Rattle.ir_ast.specs.declared.types.Ty.{Ty}
use Rattle.ir_ast.specs.declared.types.Ty.TheVariants.{Ptr, Void}
use Rattle.ir_ast.specs.declared.ops.Callee.TheVariants.{Poll}
use Rattle.ir_ast.specs.declared.ops.Elem.TheVariants as elems
use Rattle.ir_ast.specs.declared.ops.Op.{Op}
use Rattle.ir_ast.specs.declared.ops.Op.TheVariants as ops
use Rattle.ir_ast.specs.declared.ops.Operand.{Operand}
use Rattle.ir_ast.specs.declared.ops.Operand.TheVariants.{Int as Literal, Null}
use Rattle.object_meaning.specs.Lines.{Line}
use Rattle.pair_facts.specs.declared.bases.Base.{Base}
use Rattle.pair_facts.specs.declared.bases.Base.TheVariants.{Any, Named}
use Rattle.pair_facts.specs.Lines.{named}
use Rattle.pair_facts.specs.Pairs.{Pairs, null_pairs}
use Rattle.pair_facts.specs.Paths.{pairs_at}

abbrev line : ℕ → Op → Ty → List Operand → Line
line value op ty operands = record { to = Some value; inst = record { result = Some []; op = op; ty = ty; operands = operands; labels = []; bundle = [] } }

abbrev load : ℕ → ℕ → Line
load value from = line value ops.Load Ptr (named from ∷ [])

abbrev step : ℕ → ℕ → Line
step value from = line value (ops.Gep (elems.Int 8) 64 None) Ptr (named from ∷ Literal 8 ∷ [])

abbrev poll : ℕ → List Operand → Line
poll value entries = line value (ops.Statepoint 0 Poll []) Void entries

abbrev relocate : ℕ → ℕ → ℕ → ℕ → Line
relocate value token base derived = line value ops.GcRelocate Ptr (named token ∷ Literal base ∷ Literal derived ∷ [])

abbrev select : ℕ → ℕ → Operand → Operand → Line
select value condition first second = line value ops.Select Ptr (named condition ∷ first ∷ second ∷ [])

-- nothing but `null`
abbrev nothing : Pairs
nothing Null base = null_pairs base
nothing _ base = false

-- each of these pairs, as a test
abbrev told : List Line → ℕ → List (ℕ × Base) → List Bool
told lines place pairs = map (λ pair. pairs_at lines nothing place (named pair.0) pair.1) pairs

abbrev kept : List Line
kept = load 1 0 ∷ step 2 1 ∷ poll 3 (named 1 ∷ named 2 ∷ Null ∷ []) ∷ relocate 4 3 0 1 ∷ relocate 5 3 0 0 ∷ relocate 6 3 2 1 ∷ step 7 4 ∷ []

-- a pointer that was loaded has itself, and a step from it has it
kept_before : told kept 2 ((1, Named (named 1)) ∷ (2, Named (named 1)) ∷ (2, Any) ∷ (2, Named (named 2)) ∷ (2, Named Null) ∷ [])
    ≡ true ∷ true ∷ true ∷ false ∷ false ∷ []
kept_before = refl

-- behind the group only the relocates are fresh: by the index of the base and not by their order
kept_behind : told kept 7 ((1, Any) ∷ (2, Any) ∷ (4, Named (named 5)) ∷ (5, Named (named 5)) ∷ (4, Named (named 4)) ∷ (6, Named Null) ∷ (7, Named (named 5)) ∷ (6, Any) ∷ [])
    ≡ false ∷ false ∷ true ∷ true ∷ false ∷ true ∷ true ∷ true ∷ []
kept_behind = refl

abbrev chosen : List Line
chosen = load 1 0 ∷ load 2 0 ∷ step 3 1 ∷ step 4 2 ∷ select 5 9 (named 1) (named 2) ∷ select 6 9 (named 3) (named 4) ∷ select 7 8 (named 3) (named 4) ∷ []

-- a select over the select of the bases directly before it has that as its base; one of another condition has none by name
chosen_behind : told chosen 7 ((5, Named (named 5)) ∷ (6, Named (named 5)) ∷ (6, Named (named 6)) ∷ (7, Any) ∷ (7, Named (named 6)) ∷ (7, Named (named 5)) ∷ [])
    ≡ true ∷ true ∷ false ∷ true ∷ false ∷ false ∷ []
chosen_behind = refl
