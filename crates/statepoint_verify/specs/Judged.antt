-- The faults of used pairs, by four answers for each.
use Rattle.std.specs.Prelude.{◌≡◌, ℕ, ◌<◌, Bool, true, List, [], ◌∷◌, ◌++◌, Option, Some, None, slice_get}
use Rattle.std.specs.List.{Contains}
use Rattle.ir_ast.specs.declared.ops.Operand.{Operand}
use Rattle.ir_ast.specs.Funcs.{Function}
use Rattle.pair_facts.specs.declared.bases.Base.{Base}
use Rattle.pair_facts.specs.declared.bases.Base.TheVariants.{Any, Named}
use Rattle.pair_facts.specs.Faults.{IsStale, IsLoose}
use Rattle.base_facts.specs.declared.asks.Ask.{Ask}
use Rattle.used_pairs.specs.declared.uses.UsedPair.{UsedPair}
use Rattle.used_pairs.specs.Lists.{use_in, IsUse}
use Rattle.statepoint_verify.specs.declared.marks.Mark.{Mark}
use Rattle.statepoint_verify.specs.Marks.{PairFault, mark_of}

abbrev pub ask_of : UsedPair → Operand → Base → Ask
ask_of pair pointer base = record { block = record { 0 = pair.block }; place = pair.at; pointer = pointer; base = base }

-- whether the pointer and the base are fresh, whether they are a pair, and whether the base has itself
abbrev pub asks_for : UsedPair → List Ask
asks_for pair = ask_of pair pair.address Any ∷ ask_of pair pair.base Any
    ∷ ask_of pair pair.address (Named pair.base) ∷ ask_of pair pair.base (Named pair.base) ∷ []

abbrev pub loose_code : ℕ → Bool → Bool → Option ℕ
loose_code code true true = None
loose_code code _ _ = Some code

abbrev pub code_by : ℕ → Bool → Bool → Bool → Bool → Option ℕ
code_by code true true paired own = loose_code code paired own
code_by code _ _ paired own = Some 1

-- the faults of one pair
pub data UseFault (func : Function) (pair : UsedPair) : ℕ → Type 0 where
  stale : IsStale func pair.block pair.at (use_in pair) → UseFault func pair 1
  loose : IsLoose func pair.block pair.at (use_in pair) → UseFault func pair pair.code

-- the fault of a pair is found
pub record IsJudged (func : Function) (pair : UsedPair) (found : Option ℕ) : Type 0 where
  pub sound : (code : ℕ) → found ≡ Some code → UseFault func pair code
  pub complete : (code : ℕ) → UseFault func pair code → found ≡ Some code

-- the marks are those of the first pairs
pub record AreJudged (func : Function) (used : List UsedPair) (count : ℕ) (marks : List Mark) : Type 0 where
  pub sound : (mark : Mark) → Contains marks mark → PairFault func mark.block mark.place mark.code
  pub complete : (k : ℕ) (pair : UsedPair) (code : ℕ) → k < count → slice_get used k ≡ Some pair → UseFault func pair code
      → Contains marks (mark_of pair.block pair.place code)

abbrev pub AreUses : Function → List UsedPair → Type 0
AreUses func used = (pair : UsedPair) → Contains used pair → IsUse func pair

abbrev pub marked_by : UsedPair → Option ℕ → List Mark → List Mark
marked_by pair None marks = marks
marked_by pair (Some code) marks = marks ++ mark_of pair.block pair.place code ∷ []
