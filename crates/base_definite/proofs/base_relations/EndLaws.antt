-- The way back from each value ends, where every block is reached and uses are definite.
use Rattle.std.proofs.Common.{◌≡◌, ℕ, zero, suc, ◌+◌, ◌<◌, ◌≤◌, Bool, true, false, if◌then◌else◌, List, [], ◌∷◌, ◌++◌, length, map, take, refl, sym, ap, ◌∙◌, ◌⊎◌, inl, inr, arith}
use Rattle.std.specs.Prelude.{Option, Some, None, slice_get}
use Rattle.std.specs.List.{Contains}
use Rattle.std.specs.Option.{option_and_then}
use Rattle.std.proofs.lemmas.Bool.{cases_lt}
use Rattle.std.proofs.lemmas.List.{length-append, length-map}
use Rattle.std.proofs.lemmas.Option.{slice_get_within}
use Rattle.list_laws.proofs.Places.{filter_map_forth, get_front, get_some}
use Rattle.list_laws.proofs.Contents.{contains_get}
use Rattle.sp_ids.specs.declared.ids.ValueId.{ValueId}
use Rattle.ir_ast.specs.declared.funcs.Arg.{Arg}
use Rattle.ir_ast.specs.declared.ops.Op.{Op}
use Rattle.ir_ast.specs.declared.ops.Op.TheVariants as ops
use Rattle.ir_ast.specs.declared.ops.Operand.{Operand}
use Rattle.ir_ast.specs.declared.ops.Operand.TheVariants as operands
use Rattle.ir_ast.specs.Insts.{Instruction}
use Rattle.ir_ast.specs.Blocks.{BasicBlock}
use Rattle.ir_ast.specs.Edges.{targets}
use Rattle.ir_ast.specs.Funcs.{Function, instructions_of}
use Rattle.ir_ast.specs.Operands.{operands_of, value_in, values_used}
use Rattle.ir_ast.specs.Values.{Definition, Gives, argument, definitions_of, outcome}
use Rattle.ir_ast.specs.Derived.{is_step}
use Rattle.ir_ast.specs.Faults.GroupShape.{number_at}
use Rattle.ir_ast.specs.Faults.PhiEdges.{is_phi}
use Rattle.ir_cfg.specs.DefiniteUses.{Defines, UsesAreDefinite, by_line, text_place}
use Rattle.ir_cfg.specs.Graphs.{graph_of}
use Rattle.ir_cfg.specs.Paths.{Path, along, at_entry, IsReached}
use Rattle.ir_cfg.proofs.PathLemmas.{edge_within}
use Rattle.base_forms.specs.Bases.{source_of, stepped_from}
use Rattle.base_forms.specs.Polls.{placed}
use Rattle.base_definite.specs.Comings.{Comes, over_edge, past_line, to_entry}
use Rattle.base_definite.proofs.base_paths.GivesLaws.{defines_gives, defines_or_not}
use Rattle.base_definite.proofs.base_paths.UndefinedLaws.{Undefined, at_first, behind_edge, behind_line, last_defines_none, undefined_unused}
use Rattle.base_forms.proofs.PlacedLaws.{definitions_placed}
use Rattle.base_definite.proofs.base_relations.GroupLaws.{given_at}

-- a way back that ends
pub data Ends (func : Function) : Operand → Type 0 where
  no_step : (operand : Operand) → stepped_from func operand ≡ None → Ends func operand
  one_step : (operand before : Operand) → stepped_from func operand ≡ Some before → Ends func before → Ends func operand

-- ---- paths come to each place of a reached block

comes_on : (func : Function) (number : ℕ) (block : BasicBlock) → slice_get func.blocks number ≡ Some block → Comes func number 0 → (place : ℕ) → place ≤ length block.insts → Comes func number place
comes_on func number block found path zero within = path
comes_on func number block found path (suc place) within =
    let some = get_some block.insts place (omega arith) in
    past_line number place some.0 (comes_on func number block found path place (omega arith)) (record { block = block; in_function = found; in_block = some.1 })

comes_to : (func : Function) (blocks : List ℕ) (number : ℕ) → Path (graph_of func) blocks number → Comes func number 0
comes_to func _ _ at_entry = to_entry
comes_to func _ _ (along blocks from to path edge) =
    let long = length-map func.blocks targets in
    let some = get_some func.blocks from (let below = edge_within (graph_of func) from to edge in omega arith) in
    over_edge from to some.0 (comes_on func from some.0 some.1 (comes_to func blocks from path) (length some.0.insts) (omega arith)) some.1 edge

-- ---- a place of the text is one of a block

text_block : (blocks : List BasicBlock) (place : ℕ) (inst : Instruction) → slice_get (instructions_of blocks) place ≡ Some inst
    → (number : ℕ) × (at : ℕ) × (block : BasicBlock) × (slice_get blocks number ≡ Some block) × (slice_get block.insts at ≡ Some inst)
    × (place ≡ length (instructions_of (take number blocks)) + at)
text_block [] place inst at = absurd cc
text_block (block ∷ blocks) place inst at = by (split block.insts (instructions_of blocks) place at) (λ k found. text_block blocks k inst found)
  where
    split : (xs ys : List Instruction) (place : ℕ) → slice_get (xs ++ ys) place ≡ Some inst → (slice_get xs place ≡ Some inst) ⊎ ((k : ℕ) × (slice_get ys k ≡ Some inst) × (place ≡ length xs + k))
    split [] ys place at = inr (place, at, omega arith)
    split (x ∷ xs) ys zero at = inl at
    split (x ∷ xs) ys (suc place) at = elim (split xs ys place at) [ inl here ↦ inl here | inr there ↦ inr (there.0, there.1, let is = there.2 in omega arith) ]

    by : (slice_get block.insts place ≡ Some inst) ⊎ ((k : ℕ) × (slice_get (instructions_of blocks) k ≡ Some inst) × (place ≡ length block.insts + k))
        → ((k : ℕ) → slice_get (instructions_of blocks) k ≡ Some inst
        → (number : ℕ) × (at : ℕ) × (b : BasicBlock) × (slice_get blocks number ≡ Some b) × (slice_get b.insts at ≡ Some inst) × (k ≡ length (instructions_of (take number blocks)) + at))
        → (number : ℕ) × (at : ℕ) × (b : BasicBlock) × (slice_get (block ∷ blocks) number ≡ Some b) × (slice_get b.insts at ≡ Some inst)
        × (place ≡ length (instructions_of (take number (block ∷ blocks))) + at)
    by (inl here) further = (0, place, block, refl, here, omega arith)
    by (inr there) further =
        let rest = further there.0 there.1 in
        let long = length-append block.insts (instructions_of (take rest.0 blocks)) in
        (suc rest.0, rest.1, rest.2, rest.3, rest.4, let is = there.2 in let behind = rest.5 in omega arith)

-- ---- the way back ends

step_is_no_phi : (op : Op) → is_step op ≡ true → is_phi op ≡ false
step_is_no_phi (ops.Gep elem width place) step = refl
step_is_no_phi op step = absurd cc

first_used : (inst : Instruction) (value : ValueId) → slice_get inst.operands 0 ≡ Some (operands.Value value) → Contains (values_used inst) value.0
first_used inst value first =
    let at = get_front inst.operands (map (λ entry. entry.1) inst.bundle) 0 (operands.Value value) first in
    let there = filter_map_forth value_in (operands_of inst) 0 (operands.Value value) value.0 at refl in
    contains_get (values_used inst) there.0 value.0 there.1

pub argument_below : (args : List Arg) (rest : List Definition) (value : ℕ) → value < length args → (arg : Arg) × (slice_get (map argument args ++ rest) value ≡ Some (argument arg))
argument_below [] rest value below = absurd (omega arith)
argument_below (arg ∷ args) rest zero below = (arg, refl)
argument_below (arg ∷ args) rest (suc value) below = argument_below args rest value (omega arith)

module _ (func : Function) (definite : UsesAreDefinite func) where
  argument_ends : (value : ValueId) → value.0 < length func.args → Ends func (operands.Value value)
  argument_ends value below =
      let found = argument_below func.args _ value.0 below in
      no_step (operands.Value value) (ap (λ (given : Option Definition). option_and_then source_of given) found.1)

  -- the value that a step steps from has its way back, or isn't defined there
  step_ends : (block place : ℕ) (value : ValueId) (defines : Defines func value.0 block place)
      → ((other : ValueId) → Ends func (operands.Value other) ⊎ Undefined func other.0 block place) → Ends func (operands.Value value)
  step_ends block place value defines others = by (is_step defines.inst.op) refl
    where
      given : Gives func value.0 defines.inst
      given = defines_gives func value.0 block place defines

      source : stepped_from func (operands.Value value) ≡ (if is_step defines.inst.op then slice_get defines.inst.operands 0 else None)
      source = ap (λ (found : Option Definition). option_and_then source_of found) given

      from : is_step defines.inst.op ≡ true → (before : Operand) → slice_get defines.inst.operands 0 ≡ Some before → stepped_from func (operands.Value value) ≡ Some before → Ends func (operands.Value value)
      from step (operands.Value other) first is = elim (others other) [
        | inl ends ↦ one_step (operands.Value value) (operands.Value other) is ends
        | inr clean ↦ elim (cases_lt other.0 (length func.args)) [
          | inl below ↦ one_step (operands.Value value) (operands.Value other) is (argument_ends other below)
          | inr high ↦
              absurd
              (undefined_unused func definite other.0 high (text_place func block place) block place
              (by_line block place other.0 defines.inst defines.stands (step_is_no_phi defines.inst.op step) (first_used defines.inst other first)) clean)
        ]
      ]
      from step (operands.Int literal) first is = one_step (operands.Value value) (operands.Int literal) is (no_step (operands.Int literal) refl)
      from step operands.Null first is = one_step (operands.Value value) operands.Null is (no_step operands.Null refl)
      from step (operands.Fun named) first is = one_step (operands.Value value) (operands.Fun named) is (no_step (operands.Fun named) refl)

      first_operand : is_step defines.inst.op ≡ true → (before : Option Operand) → slice_get defines.inst.operands 0 ≡ before → Ends func (operands.Value value)
      first_operand step None none = no_step (operands.Value value) (source ∙ (ap (λ (b : Bool). if b then slice_get defines.inst.operands 0 else None) step ∙ none))
      first_operand step (Some before) first = from step before first (source ∙ (ap (λ (b : Bool). if b then slice_get defines.inst.operands 0 else None) step ∙ first))

      by : (b : Bool) → is_step defines.inst.op ≡ b → Ends func (operands.Value value)
      by true step = first_operand step (slice_get defines.inst.operands 0) refl
      by false step = no_step (operands.Value value) (source ∙ ap (λ (b : Bool). if b then slice_get defines.inst.operands 0 else None) step)

  ends_or_undefined : (block place : ℕ) → Comes func block place → (value : ValueId) → Ends func (operands.Value value) ⊎ Undefined func value.0 block place
  ends_or_undefined _ _ to_entry = λ value. inr at_first
  ends_or_undefined _ _ (past_line block place inst path stands) =
      let others = ends_or_undefined block place path in
      λ value. elim (others value) [
        | inl ends ↦ inl ends
        | inr clean ↦ elim (defines_or_not func value.0 block place inst stands) [
          | inr none ↦ inr (behind_line block place inst clean stands none)
          | inl defines ↦ inl (step_ends block place value defines others)
        ]
      ]
  ends_or_undefined _ _ (over_edge from to block path found edge) =
      let others = ends_or_undefined from (length block.insts) path in
      λ value. elim (others value) [ inl ends ↦ inl ends | inr clean ↦ inr (behind_edge from to block clean found edge) ]

  pub value_ends : IsReached func → (value : ValueId) → Ends func (operands.Value value)
  value_ends reached value = by (slice_get (definitions_of func) value.0) refl
    where
      by : (given : Option Definition) → slice_get (definitions_of func) value.0 ≡ given → Ends func (operands.Value value)
      by None none = no_step (operands.Value value) (ap (λ (found : Option Definition). option_and_then source_of found) none)
      by (Some (argument arg)) given = no_step (operands.Value value) (ap (λ (found : Option Definition). option_and_then source_of found) given)
      by (Some (outcome inst)) given =
          let at = given_at func value.0 inst given in
          let there = text_block func.blocks at.place inst at.stands in
          let within = slice_get_within func.blocks there.0 there.2 there.3 in
          let path = comes_to func (reached there.0 within).0 there.0 (reached there.0 within).1 in
          let inside = slice_get_within there.2.insts there.1 inst there.4 in
          let comes = comes_on func there.0 there.2 there.3 path (suc there.1) (omega arith) in
          let defines : Defines func value.0 there.0 there.1 = record {
            inst = inst;
            stands = record { block = there.2; in_function = there.3; in_block = there.4 };
            named = at.named;
            numbered = sym (ap (number_at func) there.5) ∙ at.number;
          } in
          elim (ends_or_undefined there.0 (suc there.1) comes value) [
            | inl ends ↦ ends
            | inr clean ↦ absurd (last_defines_none func value.0 there.0 (suc there.1) clean there.1 refl defines)
          ]

-- the same with polls, which give no value
stepped_same : (func : Function) (operand : Operand) → stepped_from (placed func) operand ≡ stepped_from func operand
stepped_same func (operands.Value value) = ap (λ all. option_and_then source_of (slice_get all value.0)) (definitions_placed func)
stepped_same func (operands.Int literal) = refl
stepped_same func operands.Null = refl
stepped_same func (operands.Fun named) = refl

pub ends_placed : (func : Function) (operand : Operand) → Ends func operand → Ends (placed func) operand
ends_placed func _ (no_step operand none) = no_step operand (stepped_same func operand ∙ none)
ends_placed func _ (one_step operand before is rest) = one_step operand before (stepped_same func operand ∙ is) (ends_placed func before rest)
