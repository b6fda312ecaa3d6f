-- In a source module's functions, with their polls and without, phis stand at the front of blocks other than the entry, and have an
-- entry for each edge; and a table of a function is one of it with its polls.
use Rattle.std.proofs.Common.{◌≡◌, ◌==◌, ℕ, zero, suc, ◌+◌, ◌<◌, ◌≤◌, Bool, true, false, cond, not, List, [], ◌∷◌, length, map, take, drop, refl, sym, ap, subst, ◌∙◌, inl, inr, arith}
use Rattle.std.specs.Prelude.{Option, Some, None, slice_get, slice_index}
use Rattle.std.specs.List.{position, position_or_len, prefix_len}
use Rattle.std.specs.Option.{option_map, option_map_or}
use Rattle.std.proofs.lemmas.Bool.{eq-eqb, lt-ltb}
use Rattle.std.proofs.lemmas.List.{length-append, length-map}
use Rattle.std.proofs.lemmas.Option.{none-some, same_Some, slice_get_within}
use Rattle.list_laws.proofs.Contents.{all_at}
use Rattle.list_laws.proofs.Places.{get_some, split_at}
use Rattle.sp_ids.specs.declared.ids.BlockId.{BlockId}
use Rattle.ir_ast.specs.declared.modules.Form.TheVariants.{Source}
use Rattle.ir_ast.specs.declared.ops.Op.{Op}
use Rattle.ir_ast.specs.declared.ops.Op.TheVariants as ops
use Rattle.ir_ast.specs.declared.types.Ty.{Ty}
use Rattle.ir_ast.specs.Blocks.{BasicBlock, EndsAtTerminator}
use Rattle.ir_ast.specs.Edges.{count_of, edges, targets}
use Rattle.ir_ast.specs.Faultless.{FunctionHasNoFault}
use Rattle.ir_ast.specs.Faults.EntryHasPred.{EntryHasNoPred}
use Rattle.ir_ast.specs.Faults.PhiEdges.{PhiIsRight, PhisAreRight}
use Rattle.ir_ast.specs.Faults.TypeClash.{Fits}
use Rattle.ir_ast.specs.Funcs.{Function, phis_of}
use Rattle.ir_ast.specs.Insts.{Instruction}
use Rattle.ir_ast.specs.Lines.{IsLine, LineOf}
use Rattle.ir_ast.specs.Modules.{ModuleContent}
use Rattle.ir_ast.specs.Ops.{is_phi}
use Rattle.ir_ast.specs.Operands.{named}
use Rattle.ir_ast.specs.Values.{Definition, definition_type, definitions_of, value_types}
use Rattle.ir_ast.specs.Derived.{Derived, by_merge, by_step}
use Rattle.ir_cfg.specs.DefiniteUses.{Stands}
use Rattle.ir_cfg.specs.Graphs.{Edge, Graph, block_at, graph_of}
use Rattle.ir_cfg.specs.SourceModules.{IsSourceModule}
use Rattle.ir_cfg.specs.TypedModules.{IsTypedFunction}
use Rattle.ir_cfg.proofs.KeepsCounts.{count_found, count_none, count_some, edges_at}
use Rattle.ir_cfg.proofs.KeepsEntry.{entry_alone}
use Rattle.ir_cfg.proofs.KeepsLines.{line_at}
use Rattle.ir_cfg.proofs.KeepsPaths.{succs_at}
use Rattle.ir_cfg.proofs.PathLemmas.{edge_within}
use Rattle.object_meaning.specs.BlockLines.{lines_at}
use Rattle.object_meaning.specs.Jumps.{phi_count}
use Rattle.object_meaning.specs.Lines.{registers_of}
use Rattle.object_meaning.specs.TargetRuns.{plain_lines}
use Rattle.object_meaning.proofs.LineLaws.{phi_count_is}
use Rattle.base_forms.specs.Polls.{placed, placed_block}
use Rattle.base_laws.proofs.FormLaws.{lead_first, lead_polled, phi_splits}
use Rattle.base_forms.proofs.PlacedLaws.{block_placed, definitions_placed}
use Rattle.base_laws.proofs.PollLaws.{graph_placed}
use Rattle.base_definite.proofs.PolledLaws.{source_line}
use Rattle.folded_forms.specs.Folded.{Table, stands_for}
use Rattle.folded_forms.specs.Foldings.{IsFolding}
use Rattle.folded_forms.specs.Known.{EntryFrom, PhisMeetEdges}

-- with the same definitions the same values are derived
derived_as : (one other : Function) → definitions_of one ≡ definitions_of other → (value : ℕ) → Derived one value → Derived other value
derived_as one other same _ (by_step value inst gives step) = by_step value inst (sym (ap (λ (all : List Definition). slice_get all value) same) ∙ gives) step
derived_as one other same _ (by_merge value operand inst gives merge used derived) =
    by_merge value operand inst (sym (ap (λ (all : List Definition). slice_get all value) same) ∙ gives) merge used (derived_as one other same operand derived)

-- a table of a function is one of it with its polls
pub folding_placed : (func : Function) (table : Table) → IsFolding func table → IsFolding (placed func) table
folding_placed func table folding = record {
  whole = folding.whole ∙ ap (λ (all : List Definition). length all) (sym (definitions_placed func));
  arguments = folding.arguments;
  closed = folding.closed;
  each = λ value inst gives gone. folding.each value inst (sym (ap (λ (all : List Definition). slice_get all value) (definitions_placed func)) ∙ gives) gone;
  typed = λ value ty at.
      let types : value_types (placed func) ≡ value_types func = ap (map definition_type) (definitions_placed func) in
      subst (λ (all : List Ty). Fits all (stands_for table (named value)) ty) (sym types)
      (folding.typed value ty (ap (λ (all : List Ty). slice_get all value) (sym types) ∙ at));
  derived = λ value to stands derived.
      derived_as func (placed func) (sym (definitions_placed func)) value (folding.derived value to stands (derived_as (placed func) func (definitions_placed func) to derived));
}

-- the first place that passes is no later than one that does
first_passing : {A : Type 0} (test : A → Bool) (xs : List A) (place : ℕ) (x : A) → slice_get xs place ≡ Some x → test x ≡ true → position_or_len test xs ≤ place
first_passing test [] place x at passes = absurd (none-some x at)
first_passing test (y ∷ xs) zero x at passes =
    let here : test y ≡ true = ap test (same_Some y x at) ∙ passes in
    let none : prefix_len (λ z. not (test z)) (y ∷ xs) ≡ 0 = ap (λ b. cond (not b) (1 + prefix_len (λ z. not (test z)) xs) 0) here in
    omega (arith, none)
first_passing test (y ∷ xs) (suc place) x at passes = by (test y) (first_passing test xs place x at passes)
  where
    by : (b : Bool) → prefix_len (λ z. not (test z)) xs ≤ place → cond (not b) (1 + prefix_len (λ z. not (test z)) xs) 0 ≤ suc place
    by true rest = omega arith
    by false rest = omega (arith, rest)

first_found : {A : Type 0} (test : A → Bool) (xs : List A) (place : ℕ) (x : A) → slice_get xs place ≡ Some x → test x ≡ true
    → (position test xs ≡ Some (position_or_len test xs)) × (position_or_len test xs < length xs)
first_found test xs place x at passes =
    let early = first_passing test xs place x at passes in
    let within = slice_get_within xs place x at in
    let inside : position_or_len test xs < length xs = omega (arith, early, within) in
    (ap (λ b. cond b (Some (position_or_len test xs)) None) (lt-ltb (position_or_len test xs) (length xs) inside), inside)

module _ (func : Function) (typed : IsTypedFunction Source func) (alone : EntryHasNoPred func) (right : PhisAreRight func) where
  filled : (place : ℕ) (block : BasicBlock) → slice_get func.blocks place ≡ Some block → 0 < length block.insts
  filled place block at =
      let ends = all_at (λ (each : BasicBlock). EndsAtTerminator each.insts) func.blocks place block typed.ends at in
      let long = ap length ends.whole ∙ length-append ends.before (ends.last ∷ []) in
      omega arith

  -- no edge leads to the entry
  no_edge : (from : ℕ) → edges func from 0 ≡ 0
  no_edge from = by (slice_get func.blocks from) refl
    where
      by : (here : Option BasicBlock) → slice_get func.blocks from ≡ here → edges func from 0 ≡ 0
      by None none = ap (λ (each : Option BasicBlock). option_map_or (λ block. count_of 0 (targets block)) each 0) none
      by (Some block) found =
          ap (λ (each : Option BasicBlock). option_map_or (λ block. count_of 0 (targets block)) each 0) found
          ∙ count_none 0 (targets block) (λ k label at is. entry_alone func from block k label alone found at is)

  -- an edge is counted
  edge_counted : (from to : ℕ) → Edge (graph_of func) from to → 0 < edges func from to
  edge_counted from to edge =
      let within = edge_within (graph_of func) from to edge in
      let long = length-map func.blocks targets in
      let block = get_some func.blocks from (omega arith) in
      let at = ap (λ (row : List BlockId). slice_get row edge.number) (sym (succs_at func from block.0 block.1)) ∙ edge.leads in
      let some = count_some to (targets block.0) edge.number (block_at to) at refl in
      let same = edges_at func from to block.0 block.1 in
      omega (arith, some, same)

  -- a phi has as many operands as labels, and at least one
  phi_line : (phi : Instruction) → IsLine phi → (op : Op) → phi.op ≡ op → is_phi op ≡ true → (length phi.labels ≡ length phi.operands) × (0 < length phi.labels)
  phi_line phi line ops.Phi is one =
      let count = ((subst (λ (op : Op). LineOf op phi) is line).0).label_count in
      let some = (subst (λ (op : Op). LineOf op phi) is line).1 in
      (count, omega arith)
  phi_line phi line op is one = absurd cc

  module _ (number place : ℕ) (phi : Instruction) (stands : Stands func number place phi) (is_one : is_phi phi.op ≡ true) where
    its_line : (length phi.labels ≡ length phi.operands) × (0 < length phi.labels)
    its_line = phi_line phi (line_at IsLine func number place phi stands typed.lines) phi.op refl is_one

    its_right : PhiIsRight func number (take place stands.block.insts) phi
    its_right =
        right number stands.block (take place stands.block.insts) (drop (place + 1) stands.block.insts) phi stands.in_function (split_at stands.block.insts place phi stands.in_block) is_one

    no_entry : number ≡ 0 → ⊥
    no_entry is =
        let label = get_some phi.labels 0 its_line.1 in
        let some = count_some label.0.0 phi.labels 0 label.0 label.1 refl in
        let none = its_right.counted label.0.0 ∙ (ap (λ (n : ℕ). edges func label.0.0 n) is ∙ no_edge label.0.0) in
        omega (arith, some, none)

    entry_for : (from : ℕ) → Edge (graph_of func) from number → EntryFrom from phi
    entry_for from edge =
        let some = edge_counted from number edge in
        let same = its_right.counted from in
        let found = count_found from phi.labels (omega (arith, some, same)) in
        let first = first_found (λ (label : BlockId). label.0 == from) phi.labels found.0 found.1 found.2 (eq-eqb found.1.0 from found.3) in
        let long = its_line.0 in
        let inside = first.1 in
        let operand = get_some phi.operands (position_or_len (λ (label : BlockId). label.0 == from) phi.labels) (omega (arith, inside, long)) in
        record { entry = position_or_len (λ (label : BlockId). label.0 == from) phi.labels; operand = operand.0; first = first.0; at = operand.1 }

  pub phis_meet_edges : PhisMeetEdges func
  phis_meet_edges = record {
    front = λ number place phi stands is_one.
        let apart = no_entry number place phi stands is_one in
        let below = lead_first (stands.block).insts (phi_splits (stands.block).insts (λ before after each whole one. (right number stands.block before after each stands.in_function whole one).first))
        place phi stands.in_block is_one in
        let count : phi_count (lines_at func number) ≡ phis_of (stands.block).insts =
        ap (λ (here : Option BasicBlock). phi_count (plain_lines (slice_index (registers_of func) number) (option_map_or (λ b. b.insts) here []))) stands.in_function
        ∙ phi_count_is (slice_index (registers_of func) number) (stands.block).insts in
        (omega (arith, apart), subst (λ (n : ℕ). place < n) (sym count) below);
    entries = λ number place phi stands is_one from edge. entry_for number place phi stands is_one from edge;
  }

  -- ---- with polls

  placed_at : (number : ℕ) (own : BasicBlock) → slice_get func.blocks number ≡ Some own → slice_get (placed func).blocks number ≡ Some (placed_block number own)
  placed_at number own found =
      let same : 0 + number ≡ number = omega arith in
      block_placed 0 number func.blocks ∙ (ap (option_map (placed_block (0 + number))) found ∙ ap (λ n. Some (placed_block n own)) same)

  front_in : (number place : ℕ) (phi : Instruction) → is_phi phi.op ≡ true → (own : BasicBlock) → slice_get func.blocks number ≡ Some own → (number ≡ 0 → ⊥)
      → slice_get (placed_block number own).insts place ≡ Some phi → place < phis_of (placed_block number own).insts
  front_in zero place phi is_one own found apart at = absurd (apart refl)
  front_in (suc number) place phi is_one own found apart at =
      lead_first (placed_block (suc number) own).insts
      (lead_polled (suc number) own.insts (phi_splits own.insts (λ before after each whole one. (right (suc number) own before after each found whole one).first)))
      place phi at is_one

  -- the phi of the function that one with polls is
  from_source : (number place : ℕ) (phi : Instruction) → Stands (placed func) number place phi → is_phi phi.op ≡ true → (own : ℕ) × Stands func number own phi
  from_source number place phi stands is_one = elim (source_line func filled number place phi stands) [
    | inl poll ↦ absurd (let none : true ≡ false = sym is_one ∙ ap (λ (i : Instruction). is_phi i.op) poll in cc)
    | inr source ↦ (source.own, source.stands)
  ]

  pub polls_meet_edges : PhisMeetEdges (placed func)
  polls_meet_edges = record {
    front = λ number place phi stands is_one.
        let source = from_source number place phi stands is_one in
        let apart = no_entry number source.0 phi source.1 is_one in
        let own = (source.1).block in
        let found = (source.1).in_function in
        let both : Some stands.block ≡ Some (placed_block number own) = sym stands.in_function ∙ placed_at number own found in
        let same : stands.block ≡ placed_block number own = cc in
        let at : slice_get (placed_block number own).insts place ≡ Some phi = ap (λ (b : BasicBlock). slice_get b.insts place) (sym same) ∙ stands.in_block in
        let below = front_in number place phi is_one own found apart at in
        let lines : lines_at (placed func) number ≡ plain_lines (slice_index (registers_of (placed func)) number) (placed_block number own).insts =
        ap (λ (here : Option BasicBlock). plain_lines (slice_index (registers_of (placed func)) number) (option_map_or (λ b. b.insts) here [])) (placed_at number own found) in
        let count : phi_count (lines_at (placed func) number) ≡ phis_of (placed_block number own).insts =
        ap phi_count lines ∙ phi_count_is (slice_index (registers_of (placed func)) number) (placed_block number own).insts in
        (omega (arith, apart), subst (λ (n : ℕ). place < n) (sym count) below);
    entries = λ number place phi stands is_one from edge.
        let source = from_source number place phi stands is_one in
        entry_for number source.0 phi source.1 is_one from (subst (λ (g : Graph). Edge g from number) (graph_placed func) edge);
  }

pub source_meets_edges : (content : ModuleContent) → IsSourceModule content → (number : ℕ) (func : Function) → slice_get content.funcs number ≡ Some func → PhisMeetEdges (placed func)
source_meets_edges content source number func found =
    let faultless = all_at (FunctionHasNoFault content) content.funcs number func ((source.typed).no_fault).functions found in
    polls_meet_edges func (all_at (IsTypedFunction Source) content.funcs number func (source.typed).functions found) faultless.entry faultless.phis
