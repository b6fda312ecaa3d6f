-- A loop with a phi and a group, by computation, as a check that the definitions say what was meant.
use Rattle.std.proofs.Common.{◌≡◌, ◌<◌, true, false, List, [], ◌∷◌, Some, None, refl, arith}
use Rattle.std.specs.Prelude.{codes}
use Rattle.sp_ids.specs.declared.ids.BlockId.{BlockId}
use Rattle.ir_ast.specs.declared.types.Ty.TheVariants.{Ptr, Void}
use Rattle.ir_ast.specs.declared.ops.Callee.TheVariants.{Poll}
use Rattle.ir_ast.specs.declared.ops.Op.TheVariants as ops
use Rattle.ir_ast.specs.declared.ops.Operand.TheVariants.{Int as Literal}
use Rattle.ir_ast.specs.Insts.{Instruction}
use Rattle.ir_ast.specs.Funcs.{Function}
use Rattle.ir_cfg.specs.Graphs.{graph_of, Edge, block_at}
use Rattle.object_meaning.specs.Jumps.{phi_count}
use Rattle.pair_facts.specs.declared.bases.Base.TheVariants.{Any, Named}
use Rattle.pair_facts.specs.Lines.{lines_at, named, phis_in}
use Rattle.pair_facts.specs.Pairs.{Pairs, at_entry, on_edge}
use Rattle.pair_facts.specs.Paths.{pairs_at, pairs_at_end, Arrives, start, went}
use Rattle.place_facts.specs.Spots.{IsNumbered}
use Rattle.place_facts.specs.Before.{edge, Before, phi, group, MissesBefore}

-- value 0 is the argument
abbrev jump : List BlockId → Instruction
jump labels = record { result = None; op = ops.Br; ty = Void; operands = []; labels = labels; bundle = [] }

-- value 1: the argument from the entry, and the relocate from the loop
abbrev merge : Instruction
merge = record { result = Some []; op = ops.Phi; ty = Ptr; operands = named 0 ∷ named 3 ∷ []; labels = block_at 0 ∷ block_at 1 ∷ []; bundle = [] }

-- value 2, and value 3
abbrev poll : Instruction
poll = record { result = Some []; op = ops.Statepoint 0 Poll []; ty = Void; operands = named 1 ∷ []; labels = []; bundle = [] }

abbrev relocate : Instruction
relocate = record { result = Some []; op = ops.GcRelocate; ty = Ptr; operands = named 2 ∷ Literal 0 ∷ Literal 0 ∷ []; labels = []; bundle = [] }

abbrev loop : Function
loop = record {
  name = codes "loop";
  answer = Void;
  args = record { name = codes "p"; ty = Ptr } ∷ [];
  blocks = record { name = codes "0"; insts = jump (block_at 1 ∷ []) ∷ [] }
      ∷ record { name = codes "1"; insts = merge ∷ poll ∷ relocate ∷ jump (block_at 1 ∷ []) ∷ [] } ∷ [];
}

into : Edge (graph_of loop) 0 1
into = record { number = 0; leads = refl }

around : Edge (graph_of loop) 1 1
around = record { number = 0; leads = refl }

-- behind the phi, for the first time and again
abbrev once : Pairs
once = on_edge 0 (phis_in (lines_at loop 1)) (pairs_at_end (lines_at loop 0) (at_entry loop))

abbrev again : Pairs
again = on_edge 1 (phis_in (lines_at loop 1)) (pairs_at_end (lines_at loop 1) once)

arrives_once : Arrives loop 1 once
arrives_once = went 0 1 (at_entry loop) start into

-- behind the phi it has itself, whichever way the path came
phi_behind : (once (named 1) (Named (named 1)) ≡ true) × (again (named 1) (Named (named 1)) ≡ true)
phi_behind = (refl, refl)

one_phi : 0 < phi_count (lines_at loop 1)
one_phi = let one : phi_count (lines_at loop 1) ≡ 1 = refl in omega (arith, one)

at_phi : IsNumbered loop 1 1 0
at_phi = record { inst = merge; stands = record { block = record { name = codes "1"; insts = merge ∷ poll ∷ relocate ∷ jump (block_at 1 ∷ []) ∷ [] }; in_function = refl; in_block = refl }; number_is = refl }

-- before it acts it has not been given yet
phi_missed : MissesBefore loop 1 (named 1) (Named (named 1))
phi_missed = record {
  block = 1;
  place = 0;
  pairs = pairs_at_end (lines_at loop 0) (at_entry loop);
  numbered = at_phi;
  before = phi 1 0 (pairs_at_end (lines_at loop 0) (at_entry loop)) one_phi (edge 0 1 (at_entry loop) start into);
  misses = refl;
}

-- the argument stands before it where the path comes from the entry, and is stale where it comes around
argument_first : pairs_at_end (lines_at loop 0) (at_entry loop) (named 0) (Named (named 0)) ≡ true
argument_first = refl

argument_missed : MissesBefore loop 1 (named 0) Any
argument_missed = record {
  block = 1;
  place = 0;
  pairs = pairs_at_end (lines_at loop 1) once;
  numbered = at_phi;
  before = phi 1 0 (pairs_at_end (lines_at loop 1) once) one_phi (edge 1 1 once arrives_once around);
  misses = refl;
}

-- before the relocate stands what does before the poll
relocate_before : Before loop 1 2 (pairs_at (lines_at loop 1) once 1)
relocate_before = group 1 2 1 (pairs_at (lines_at loop 1) once 1) refl (record { front = once; arrives = arrives_once; is = refl })

relocate_stands : (pairs_at (lines_at loop 1) once 1 (named 1) (Named (named 1)) ≡ true) × (pairs_at (lines_at loop 1) once 2 (named 1) (Named (named 1)) ≡ false)
relocate_stands = (refl, refl)

relocate_itself : (pairs_at (lines_at loop 1) once 1 (named 3) Any ≡ false) × (pairs_at (lines_at loop 1) once 2 (named 3) Any ≡ true)
relocate_itself = (refl, refl)
