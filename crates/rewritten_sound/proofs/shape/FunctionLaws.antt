-- The rewritten function has no fault and keeps within the limits.
use Rattle.std.proofs.Common.{◌≡◌, ℕ, zero, suc, ◌+◌, ◌<◌, ◌≤◌, Bool, true, false, List, [], ◌∷◌, ◌++◌, length, map, refl, sym, ap, subst, ◌∙◌, arith, lit<}
use Rattle.std.specs.Prelude.{Some, filter, is_some, slice_get}
use Rattle.std.specs.List.{All, flat_map}
use Rattle.std.proofs.lemmas.Bool.{false≢true, true≢false}
use Rattle.std.proofs.lemmas.List.{length-append}
use Rattle.std.proofs.lemmas.List.Elements.{All-append}
use Rattle.list_laws.proofs.Contents.{all_at, all_from_at, all_front}
use Rattle.list_laws.proofs.Places.{map_back}
use Rattle.ir_ast.specs.declared.funcs.Arg.{Arg}
use Rattle.ir_ast.specs.declared.modules.Form.TheVariants.{Rewritten}
use Rattle.ir_ast.specs.declared.types.Ty.{Ty}
use Rattle.ir_ast.specs.declared.types.Ty.TheVariants.{Token}
use Rattle.ir_ast.specs.declared.ops.Callee.{Callee}
use Rattle.ir_ast.specs.declared.ops.Op.{Op}
use Rattle.ir_ast.specs.declared.ops.Op.TheVariants as ops
use Rattle.ir_ast.specs.declared.ops.Operand.{Operand}
use Rattle.ir_ast.specs.Callees.{is_leaf}
use Rattle.ir_ast.specs.Insts.{Instruction}
use Rattle.ir_ast.specs.Blocks.{BasicBlock, EndsAtTerminator}
use Rattle.ir_ast.specs.Funcs.{Function, instructions_of}
use Rattle.ir_ast.specs.Modules.{ModuleContent}
use Rattle.ir_ast.specs.Lines.{IsLine, LineOf}
use Rattle.ir_ast.specs.Lists.{Distinct}
use Rattle.ir_ast.specs.Scope.{scope_of}
use Rattle.ir_ast.specs.Types.{is_answer, is_condition, is_first_class, is_integer, is_pointer, is_void}
use Rattle.ir_ast.specs.Values.{Definition, argument, definition_name, definition_type, definitions_of, outcome, outcome_type, value_types}
use Rattle.ir_ast.specs.Widths.{IsWidth, line_widths, type_widths, widths_of}
use Rattle.ir_ast.specs.Faultless.{FunctionHasNoFault, OfForm}
use Rattle.ir_ast.specs.Faults.EntryHasPred.{LeavesEntry}
use Rattle.ir_ast.specs.Faults.GroupShape.{is_statepoint, number_at}
use Rattle.ir_ast.specs.Faults.PointerOrder.{orders_pointers}
use Rattle.ir_ast.specs.Faults.TypeClash.{FunctionIsTyped, IsTyped}
use Rattle.ir_ast.specs.Faults.UnknownName.{NamesOfFunction, NamesOfModule}
use Rattle.ir_cfg.specs.DefiniteUses.{Stands, text_place}
use Rattle.ir_cfg.specs.Limits.{IsName}
use Rattle.ir_cfg.specs.Statepoints.{IdIsWord, StatepointsAreSmall, relocates_of}
use Rattle.ir_cfg.specs.TypedModules.{IsTypedFunction}
use Rattle.ir_cfg.proofs.KeepsForms.{flat_all}
use Rattle.ir_cfg.proofs.KeepsLines.{all_insts}
use Rattle.object_meaning.specs.Lines.{Line}
use Rattle.rewriting_forms.specs.Numbered.{lines_at}
use Rattle.rewriting_forms.specs.Names as forms
use Rattle.rewriting_forms.specs.Names.{Name, Naming}
use Rattle.rewriting_forms.specs.Rewritten.{Piece, group, names_of, piece_inst, plain, rewritten_blocks, statepoint}
use Rattle.rewriting_laws.specs.Laws.{IsPlain}
use Rattle.rewriting_laws.proofs.JumpLemmas.{one_piece}
use Rattle.rewriting_laws.proofs.NameLemmas.{call_or_not, is_none, is_one}
use Rattle.base_laws.proofs.TypeLaws.{all_given}
use Rattle.rewritten_sound.proofs.definite.NowLaws.{block_now, now, number, text}
use Rattle.rewritten_sound.proofs.definite.PieceLaws.{PieceFrom, call_pieces, from_join, from_line, offset}
use Rattle.rewritten_sound.specs.WellFormed.{IsGroupName, IsWellFormed}
use Rattle.rewritten_sound.proofs.shape.CountLaws.{lines_few, names_few, point_defines, point_small}
use Rattle.rewritten_sound.proofs.shape.EndLaws.{ends_now, phis_now}
use Rattle.rewritten_sound.proofs.shape.GroupLaws.{MemberOf, all_well, from_piece, groups_in_shape, is_relocate, is_result, member_of, only_one}
use Rattle.rewritten_sound.proofs.shape.NamedLaws.{text_back}
use Rattle.rewritten_sound.proofs.shape.PassLaws.{IsNamed}
use Rattle.rewritten_sound.proofs.shape.SpellLaws.{HasFreeNames, names_distinct, names_now}

-- ---- no value is a token where nothing gives one

no_class : (class : Ty → Bool) (ty : Ty) → class Token ≡ false → class ty ≡ true → ty ≡ Token → ⊥
no_class class ty none holds is = false≢true (sym none ∙ (ap class (sym is) ∙ holds))

no_token_line : (op : Op) (inst : Instruction) → LineOf op inst → is_statepoint op ≡ false → outcome_type op inst.ty ≡ Token → ⊥
no_token_line ops.Add inst line none is = no_class is_integer inst.ty refl line.type is
no_token_line ops.Sub inst line none is = no_class is_integer inst.ty refl line.type is
no_token_line ops.Mul inst line none is = no_class is_integer inst.ty refl line.type is
no_token_line ops.Udiv inst line none is = no_class is_integer inst.ty refl line.type is
no_token_line ops.Sdiv inst line none is = no_class is_integer inst.ty refl line.type is
no_token_line ops.Urem inst line none is = no_class is_integer inst.ty refl line.type is
no_token_line ops.Srem inst line none is = no_class is_integer inst.ty refl line.type is
no_token_line ops.And inst line none is = no_class is_integer inst.ty refl line.type is
no_token_line ops.Or inst line none is = no_class is_integer inst.ty refl line.type is
no_token_line ops.Xor inst line none is = no_class is_integer inst.ty refl line.type is
no_token_line ops.Shl inst line none is = no_class is_integer inst.ty refl line.type is
no_token_line ops.Lshr inst line none is = no_class is_integer inst.ty refl line.type is
no_token_line ops.Ashr inst line none is = no_class is_integer inst.ty refl line.type is
no_token_line ops.Select inst line none is = no_class is_first_class inst.ty refl line.type is
no_token_line ops.Load inst line none is = no_class is_first_class inst.ty refl line.type is
no_token_line ops.Store inst line none is = no_class is_first_class inst.ty refl line.type is
no_token_line ops.Br inst line none is = no_class is_void inst.ty refl line.type is
no_token_line ops.CondBr inst line none is = no_class is_condition inst.ty refl line.type is
no_token_line ops.Ret inst line none is = no_class is_answer inst.ty refl line.type is
no_token_line ops.Unreachable inst line none is = no_class is_void inst.ty refl line.type is
no_token_line ops.Phi inst line none is = no_class is_first_class inst.ty refl (line.0).type is
no_token_line (ops.Gep elem index_width place) inst line none is = no_class is_pointer inst.ty refl (line.0).type is
no_token_line ops.GcResult inst line none is = no_class is_first_class inst.ty refl (line.0).type is
no_token_line ops.GcRelocate inst line none is = no_class is_pointer inst.ty refl (line.0).type is
no_token_line ops.Switch inst line none is = no_class is_integer inst.ty refl (line.0).type is
no_token_line (ops.Call callee given) inst line none is = no_class is_answer inst.ty refl line.type is
no_token_line (ops.Icmp pred) inst line none is = cc
no_token_line (ops.Trunc width) inst line none is = cc
no_token_line (ops.Zext width) inst line none is = cc
no_token_line (ops.Sext width) inst line none is = cc
no_token_line (ops.Statepoint id callee given) inst line none is = true≢false none

pub argument_at : (all : List Arg) (insts : List Instruction) (v : ℕ) (arg : Arg) → slice_get (map argument all ++ map outcome insts) v ≡ Some (argument arg) → slice_get all v ≡ Some arg
argument_at [] insts v arg found =
    let back = map_back outcome insts v (argument arg) found in
    let wrong = back.is in
    absurd cc
argument_at (first ∷ all) insts zero arg found = let same : first ≡ arg = cc in ap (λ x. Some x) same
argument_at (first ∷ all) insts (suc v) arg found = argument_at all insts v arg found

abbrev pub NoPoint : Instruction → Type 0
NoPoint inst = is_statepoint inst.op ≡ false

pub no_tokens : (func : Function) → All IsLine (instructions_of func.blocks) → All NoPoint (instructions_of func.blocks) → All (λ arg. is_first_class arg.ty ≡ true) func.args
    → (v : ℕ) → slice_get (value_types func) v ≡ Some Token → ⊥
no_tokens func lines points args v at =
    let back = map_back definition_type (definitions_of func) v Token at in
    by back.before back.stands (sym back.is)
  where
    by : (given : Definition) → slice_get (definitions_of func) v ≡ Some given → definition_type given ≡ Token → ⊥
    by (outcome inst) found is =
        no_token_line inst.op inst (all_given IsLine func lines v inst found) (all_given NoPoint func points v inst found) is
    by (argument arg) found is =
        no_class is_first_class arg.ty refl (all_at (λ (each : Arg). is_first_class each.ty ≡ true) func.args v arg args (argument_at func.args (filter (λ inst. is_some inst.result) (instructions_of func.blocks)) v arg found)) is

module _ (content other : ModuleContent) (func : Function) (table : List Operand) (naming : Naming) (room : ℕ) (is : IsNamed content other func table naming room)
    (before_room : ℕ) (shape : IsPlain func before_room) where
  abbrev to : Name → ℕ
  to = number func table naming

  abbrev after : Function
  after = now func table naming

  abbrev written : Piece → Instruction
  written piece = piece_inst (text func table naming) piece

  -- what holds of each well formed line holds of each line of the function
  pub all_lines : (P : Instruction → Type 0) → ((inst : Instruction) → IsWellFormed other after inst → P inst) → All P (instructions_of after.blocks)
  all_lines P each = all_insts P after.blocks (λ b j block inst in_blocks in_block.
      each inst (all_well content other func table naming room is b j inst (record { block = block; in_function = in_blocks; in_block = in_block })))

  -- ---- statepoints

  -- a statepoint is that of a call
  record PointFrom (b j : ℕ) (inst : Instruction) : Type 0 where
    k : ℕ
    line : Line
    callee : Callee
    types : List Ty
    at : slice_get (lines_at func b) k ≡ Some line
    op : line.inst.op ≡ ops.Call callee types
    no_leaf : is_leaf callee ≡ false
    place : j ≡ offset func table naming to b k + 0
    is_head : inst ≡ written (statepoint func table naming to b k callee types line.inst)

  point_from : (b j : ℕ) (inst : Instruction) → Stands after b j inst → is_statepoint inst.op ≡ true → PointFrom b j inst
  point_from b j inst stands point =
      let from = from_piece content other func table naming room is b j inst stands in
      by from.piece from.is_written from.from
    where
      member : (k i : ℕ) (line : Line) (piece : Piece) → inst ≡ written piece → MemberOf content other func table naming room is b k i line piece → PointFrom b j inst
      member k i line piece same (is_result v given first of_piece) =
          absurd (true≢false (sym point ∙ (ap (λ (x : Instruction). is_statepoint x.op) same ∙ ap (λ (p : Piece). is_statepoint p.inst.op) of_piece)))
      member k i line piece same (is_relocate v listed of_piece) =
          absurd (true≢false (sym point ∙ (ap (λ (x : Instruction). is_statepoint x.op) same ∙ ap (λ (p : Piece). is_statepoint p.inst.op) of_piece)))

      in_group : (k i : ℕ) (line : Line) (piece : Piece) (callee : Callee) (types : List Ty) → inst ≡ written piece → slice_get (lines_at func b) k ≡ Some line → line.inst.op ≡ ops.Call callee types
          → is_leaf callee ≡ false → j ≡ offset func table naming to b k + i
          → slice_get (statepoint func table naming to b k callee types line.inst ∷ group func table naming to b k line) i ≡ Some piece → PointFrom b j inst
      in_group k zero line piece callee types same at op no_leaf place there =
          let head : statepoint func table naming to b k callee types line.inst ≡ piece = cc in
          record { k = k; line = line; callee = callee; types = types; at = at; op = op; no_leaf = no_leaf; place = place; is_head = same ∙ ap written (sym head) }
      in_group k (suc i) line piece callee types same at op no_leaf place there =
          member k i line piece same (member_of content other func table naming room is b k i line piece there)

      by : (piece : Piece) → inst ≡ written piece → PieceFrom func table naming to b j piece → PointFrom b j inst
      by piece same (from_join v at of_piece) =
          absurd (true≢false (sym point ∙ (ap (λ (x : Instruction). is_statepoint x.op) same ∙ ap (λ (p : Piece). is_statepoint p.inst.op) of_piece)))
      by piece same (from_line k i line at place there) = elim (call_or_not line.inst.op) [
        | is_none plain_op ↦
            (let one = only_one (plain func table naming to b k line) piece i (ap (λ (ps : List Piece). slice_get ps i) (sym (one_piece func table naming to b k line line.inst.op plain_op)) ∙ there) in
            absurd (true≢false (sym point ∙ (ap (λ (x : Instruction). is_statepoint x.op) same ∙ (ap (λ (p : Piece). is_statepoint p.inst.op) (sym one) ∙ is.no_statepoint b k line at)))))
        | is_one callee types op no_leaf ↦
            in_group k i line piece callee types same at op no_leaf place (ap (λ (ps : List Piece). slice_get ps i) (sym (call_pieces func table naming to b k line callee types false op no_leaf)) ∙ there)
      ]

  pub statepoints_small : StatepointsAreSmall after
  statepoints_small place inst at point =
      let there = text_back after.blocks place inst at in
      let from = point_from there.0 there.1 inst (record { block = there.2; in_function = there.3; in_block = there.4 }) point in
      let small = point_small content other func table naming room is there.0 from.k from.line from.callee from.types from.at from.op from.no_leaf inst from.is_head in
      let gives = (point_defines content other func table naming room is there.0 from.k from.line from.callee from.types from.at from.op from.no_leaf there.0 from.k from.line from.callee from.types from.at from.op from.no_leaf).numbered in
      let token : number_at after place ≡ to (forms.token there.0 from.k) =
      ap (number_at after) (sym there.5) ∙ (ap (λ n. number_at after (text_place after there.0 n)) from.place ∙ gives) in
      (small.0, subst (λ n. relocates_of after n ≤ 16384) (sym token) small.1)

  plain_id : (op : Op) → is_statepoint op ≡ false → IdIsWord op
  plain_id (ops.Statepoint id callee types) none = absurd (true≢false none)
  plain_id op none = tt

  id_is_word : (b j : ℕ) (inst : Instruction) → Stands after b j inst → IdIsWord inst.op
  id_is_word b j inst stands = by (is_statepoint inst.op) refl
    where
      by : (t : Bool) → is_statepoint inst.op ≡ t → IdIsWord inst.op
      by false none = plain_id inst.op none
      by true point =
          let from = point_from b j inst stands point in
          subst (λ (x : Instruction). IdIsWord x.op) (sym from.is_head) (lit< tt)

  -- ---- the function

  blocks_long : (from : ℕ) (blocks : List BasicBlock) → length (rewritten_blocks func table naming (names_of func table naming) from blocks) ≡ length blocks
  blocks_long from [] = refl
  blocks_long from (block ∷ blocks) = ap suc (blocks_long (suc from) blocks)

  block_names_same : (from : ℕ) (blocks : List BasicBlock) → map (λ (block : BasicBlock). block.name) (rewritten_blocks func table naming (names_of func table naming) from blocks) ≡ map (λ (block : BasicBlock). block.name) blocks
  block_names_same from [] = refl
  block_names_same from (block ∷ blocks) = ap (λ names. block.name ∷ names) (block_names_same (suc from) blocks)

  module _ (typed : IsTypedFunction Rewritten func) (no_fault : FunctionHasNoFault content func) (lines_typed : FunctionIsTyped (scope_of content func) func)
      (apart : Distinct (map definition_name (definitions_of func))) (free : All (λ given. IsGroupName (definition_name given) → ⊥) (definitions_of func))
      (short : length (instructions_of func.blocks) < 32768) (form : other.form ≡ Rewritten) where
    filled : (b : ℕ) (block : BasicBlock) → slice_get func.blocks b ≡ Some block → 0 < length block.insts
    filled b block found =
        let ended = all_at (λ (each : BasicBlock). EndsAtTerminator each.insts) func.blocks b block typed.ends found in
        let long = ap length ended.whole ∙ length-append ended.before (ended.last ∷ []) in
        omega arith

    names_free : HasFreeNames func table naming
    names_free = record {
      names = (typed.names).values;
      apart = apart;
      free = free;
      few = names_few content other func table naming room is filled short;
    }

    pub has_no_fault : FunctionHasNoFault other after
    has_no_fault = record {
      local = all_lines (NamesOfFunction after) (λ inst well. well.local);
      global = all_lines (NamesOfModule other) (λ inst well. well.global);
      entry = all_lines LeavesEntry (λ inst well. well.leaves);
      phis = phis_now content other func table naming room is no_fault.phis before_room shape;
      pointers = all_lines (λ inst. orders_pointers inst.op inst.ty ≡ false) (λ inst well. well.unordered);
      form = subst (λ form. OfForm form after) (sym form) (groups_in_shape content other func table naming room is);
    }

    pub is_typed : FunctionIsTyped (scope_of other after) after
    is_typed = record { answer = lines_typed.answer; args = lines_typed.args; lines = all_lines (IsTyped (scope_of other after)) (λ inst well. well.typed) }

    label_names : All (λ (block : BasicBlock). IsName block.name) after.blocks
    label_names = all_from_at (λ (block : BasicBlock). IsName block.name) after.blocks (λ b block found.
        let here = block_now func table naming b block found in
        let name = all_at (λ (each : BasicBlock). IsName each.name) func.blocks b here.own (typed.names).labels here.stands in
        subst IsName (sym (ap (λ (x : BasicBlock). x.name) here.is)) name)

    widths_now : All IsWidth (widths_of after)
    widths_now =
        All-append IsWidth (type_widths func.answer ++ flat_map (λ (arg : Arg). type_widths arg.ty) func.args) (flat_map line_widths (instructions_of after.blocks))
        (all_front IsWidth (type_widths func.answer ++ flat_map (λ (arg : Arg). type_widths arg.ty) func.args) (flat_map line_widths (instructions_of func.blocks)) typed.widths)
        (flat_all IsWidth line_widths (instructions_of after.blocks) (all_lines (λ inst. All IsWidth (line_widths inst)) (λ inst well. well.widths)))

    pub is_typed_function : IsTypedFunction Rewritten after
    is_typed_function = record {
      has_block = let same = blocks_long 0 func.blocks in let some = typed.has_block in omega (arith, same, some);
      ends = all_from_at (λ (block : BasicBlock). EndsAtTerminator block.insts) after.blocks (λ b block found.
          ends_now content other func table naming room is no_fault.phis before_room shape b block typed.ends found);
      lines = all_lines IsLine (λ inst well. well.line);
      names = record { own = (typed.names).own; values = names_now func table naming names_free; labels = label_names };
      widths = widths_now;
      bundles = all_lines (λ inst. length inst.bundle ≤ 64) (λ inst well. well.few);
      small = record {
        statepoints = statepoints_small;
        ids = all_insts (λ inst. IdIsWord inst.op) after.blocks (λ b j block inst in_blocks in_block.
            id_is_word b j inst (record { block = block; in_function = in_blocks; in_block = in_block }));
        few_instructions = lines_few content other func table naming room is filled short;
      };
    }

    pub distinct_values : Distinct (map definition_name (definitions_of after))
    distinct_values = names_distinct func table naming names_free

    pub distinct_labels : Distinct (map (λ (block : BasicBlock). block.name) func.blocks) → Distinct (map (λ (block : BasicBlock). block.name) after.blocks)
    distinct_labels distinct = subst Distinct (sym (block_names_same 0 func.blocks)) distinct
