-- Where the lines of a folded function stand, and what they define.
use Rattle.std.proofs.Common.{◌≡◌, ℕ, zero, suc, ◌+◌, ◌<◌, ◌≤◌, Bool, true, false, not, ◌&&◌, if◌then◌else◌, List, [], ◌∷◌, ◌++◌, length, map, take, drop, refl, sym, ap, subst, ◌∙◌, arith}
use Rattle.std.specs.Prelude.{Option, Some, is_some, slice_get}
use Rattle.std.specs.List.{All, flat_map}
use Rattle.std.specs.Option.{option_map_or}
use Rattle.std.proofs.lemmas.Bool.{false≢true}
use Rattle.std.proofs.lemmas.List.Concat.{flat_map-append}
use Rattle.std.proofs.lemmas.List.Elements.{All-head, All-tail}
use Rattle.std.proofs.lemmas.Option.{none-some, same_Some, slice_get_within}
use Rattle.list_laws.proofs.Contents.{all_back, all_front}
use Rattle.list_laws.proofs.Places.{get_map, map_back, split_at}
use Rattle.sp_ids.specs.declared.ids.BlockId.{BlockId}
use Rattle.ir_ast.specs.declared.ops.Op.{Op}
use Rattle.ir_ast.specs.declared.ops.Op.TheVariants as ops
use Rattle.ir_ast.specs.Blocks.{BasicBlock}
use Rattle.ir_ast.specs.Edges.{targets}
use Rattle.ir_ast.specs.Funcs.{Function, insts_in, instructions_of}
use Rattle.ir_ast.specs.Insts.{Instruction}
use Rattle.ir_ast.specs.Lines.{IsLine, LineOf}
use Rattle.ir_ast.specs.Ops.{is_terminator}
use Rattle.ir_ast.specs.Faults.GroupShape.{number_at}
use Rattle.graph_search.specs.Paths.{Marked}
use Rattle.ir_cfg.specs.DefiniteUses.{Defines, Stands, text_place}
use Rattle.ir_cfg.specs.Graphs.{graph_of}
use Rattle.ir_cfg.proofs.KeepsPlaces.{kept_back, kept_get, marks_before}
use Rattle.object_meaning.specs.Lines.{after_all, following}
use Rattle.object_meaning.proofs.LineLaws.{after_append}
use Rattle.object_meaning.proofs.GivenLaws.{after_is}
use Rattle.base_definite.proofs.CutLaws.{number_cut}
use Rattle.folded_forms.specs.Folded.{Table, folded, folded_blocks, folded_insts, folded_line, stays}
use Rattle.folded_source.proofs.LineLaws.{before_append, folded_all, folded_kept, folded_length, folded_text, line_marks, line_stays, mark_at, marks_append, marks_whole}
use Rattle.folded_source.proofs.ValueLaws.{counted, number_folded}

-- ---- blocks

abbrev pub folded_block : Table → ℕ → BasicBlock → BasicBlock
folded_block table next block = record block { insts = folded_insts table next block.insts }

-- the number of the first result of a block
abbrev pub first_from : ℕ → List BasicBlock → ℕ → ℕ
first_from next blocks number = after_all next (instructions_of (take number blocks))

block_there : (table : Table) (next : ℕ) (blocks : List BasicBlock) (number : ℕ) (block : BasicBlock) → slice_get blocks number ≡ Some block
    → slice_get (folded_blocks table next blocks) number ≡ Some (folded_block table (first_from next blocks number) block)
block_there table next [] number block at = absurd (none-some block at)
block_there table next (first ∷ blocks) zero block at = ap (λ (b : BasicBlock). Some (folded_block table next b)) (same_Some first block at)
block_there table next (first ∷ blocks) (suc number) block at =
    block_there table (after_all next first.insts) blocks number block at
    ∙ ap (λ (n : ℕ). Some (folded_block table n block)) (sym (after_append next first.insts (instructions_of (take number blocks))))

block_here : (table : Table) (next : ℕ) (blocks : List BasicBlock) (number : ℕ) (new : BasicBlock) → slice_get (folded_blocks table next blocks) number ≡ Some new
    → (block : BasicBlock) × (slice_get blocks number ≡ Some block)
block_here table next [] number new at = absurd (none-some new at)
block_here table next (first ∷ blocks) zero new at = (first, refl)
block_here table next (first ∷ blocks) (suc number) new at = block_here table (after_all next first.insts) blocks number new at

pub blocks_long : (table : Table) (next : ℕ) (blocks : List BasicBlock) → length (folded_blocks table next blocks) ≡ length blocks
blocks_long table next [] = refl
blocks_long table next (block ∷ blocks) = ap suc (blocks_long table (after_all next block.insts) blocks)

blocks_front : (table : Table) (next : ℕ) (blocks : List BasicBlock) (number : ℕ) → take number (folded_blocks table next blocks) ≡ folded_blocks table next (take number blocks)
blocks_front table next [] zero = refl
blocks_front table next [] (suc number) = refl
blocks_front table next (block ∷ blocks) zero = refl
blocks_front table next (block ∷ blocks) (suc number) =
    ap (λ (rest : List BasicBlock). folded_block table next block ∷ rest) (blocks_front table (after_all next block.insts) blocks number)

before_front : (one other : List Bool) (place : ℕ) → place ≤ length one → marks_before (one ++ other) place ≡ marks_before one place
before_front [] [] zero within = refl
before_front [] (mark ∷ other) zero within = refl
before_front [] other (suc place) within = absurd (omega arith)
before_front (mark ∷ one) other zero within = refl
before_front (true ∷ one) other (suc place) within = ap suc (before_front one other place (omega arith))
before_front (false ∷ one) other (suc place) within = before_front one other place (omega arith)

-- ---- terminators stay

ends_plain : (op : Op) (inst : Instruction) → LineOf op inst → is_terminator op ≡ true → is_some inst.result ≡ false
ends_plain ops.Br inst line ends = line.result
ends_plain ops.CondBr inst line ends = line.result
ends_plain ops.Switch inst line ends = (line.0).result
ends_plain ops.Ret inst line ends = line.result
ends_plain ops.Unreachable inst line ends = line.result
ends_plain op inst line ends = absurd (false≢true ends)

pub terminator_plain : (inst : Instruction) → IsLine inst → is_terminator inst.op ≡ true → is_some inst.result ≡ false
terminator_plain inst line ends = ends_plain inst.op inst line ends

abbrev own_labels : Instruction → List BlockId
own_labels inst = if is_terminator inst.op then inst.labels else []

labels_same : (table : Table) (next : ℕ) (insts : List Instruction) → All IsLine insts → flat_map own_labels (folded_insts table next insts) ≡ flat_map own_labels insts
labels_same table next [] lines = refl
labels_same table next (inst ∷ insts) lines =
    by (is_some inst.result) refl (stays table next) (is_terminator inst.op) refl (labels_same table (following next inst) insts (All-tail IsLine inst insts lines))
  where
    by : (given : Bool) → is_some inst.result ≡ given → (stay ends : Bool) → is_terminator inst.op ≡ ends
        → flat_map own_labels (folded_insts table (following next inst) insts) ≡ flat_map own_labels insts
        → flat_map own_labels ((if given && not stay then [] else folded_line table inst ∷ []) ++ folded_insts table (following next inst) insts)
        ≡ (if ends then inst.labels else []) ++ flat_map own_labels insts
    by false is stay ends ends_is rest = ap (λ (b : Bool). (if b then inst.labels else []) ++ flat_map own_labels (folded_insts table (following next inst) insts)) ends_is
        ∙ ap (λ (more : List BlockId). (if ends then inst.labels else []) ++ more) rest
    by true is true ends ends_is rest = ap (λ (b : Bool). (if b then inst.labels else []) ++ flat_map own_labels (folded_insts table (following next inst) insts)) ends_is
        ∙ ap (λ (more : List BlockId). (if ends then inst.labels else []) ++ more) rest
    by true is false true ends_is rest = absurd (false≢true (sym (terminator_plain inst (All-head IsLine inst insts lines) ends_is) ∙ is))
    by true is false false ends_is rest = rest

graph_same : (table : Table) (next : ℕ) (blocks : List BasicBlock) → All IsLine (instructions_of blocks) → map targets (folded_blocks table next blocks) ≡ map targets blocks
graph_same table next [] lines = refl
graph_same table next (block ∷ blocks) lines =
    ap (λ (row : List BlockId). row ∷ map targets (folded_blocks table (after_all next block.insts) blocks))
    (labels_same table next block.insts (all_front IsLine block.insts (instructions_of blocks) lines))
    ∙ ap (λ (rows : List (List BlockId)). targets block ∷ rows)
    (graph_same table (after_all next block.insts) blocks (all_back IsLine block.insts (instructions_of blocks) lines))

pub targets_same : (table : Table) (next : ℕ) (block : BasicBlock) → All IsLine block.insts → targets (folded_block table next block) ≡ targets block
targets_same table next block lines = labels_same table next block.insts lines

-- ---- a function

module _ (func : Function) (table : Table) where
  abbrev pub first : ℕ → ℕ
  first number = first_from (length func.args) func.blocks number

  -- where the line at a place of a block stands, or would stand
  abbrev pub offset : ℕ → ℕ → ℕ
  offset number place = marks_before (line_marks table (first number) (insts_in func number)) place

  insts_are : (number : ℕ) (block : BasicBlock) → slice_get func.blocks number ≡ Some block → insts_in func number ≡ block.insts
  insts_are number block at = ap (λ (found : Option BasicBlock). option_map_or (λ (b : BasicBlock). b.insts) found []) at

  pub graph_folded : All IsLine (instructions_of func.blocks) → graph_of (folded func table) ≡ graph_of func
  graph_folded lines = graph_same table (length func.args) func.blocks lines

  pub block_forth : (number : ℕ) (block : BasicBlock) → slice_get func.blocks number ≡ Some block → slice_get (folded func table).blocks number ≡ Some (folded_block table (first number) block)
  block_forth number block at = block_there table (length func.args) func.blocks number block at

  -- what a block comes from
  pub record BlockFrom (number : ℕ) (new : BasicBlock) : Type 0 where
    pub block : BasicBlock
    pub at : slice_get func.blocks number ≡ Some block
    pub is : new ≡ folded_block table (first number) block
    pub end : offset number (length block.insts) ≡ length new.insts

  pub block_back : (number : ℕ) (new : BasicBlock) → slice_get (folded func table).blocks number ≡ Some new → BlockFrom number new
  block_back number new at =
      let old = block_here table (length func.args) func.blocks number new at in
      let is : new ≡ folded_block table (first number) old.0 = same_Some new (folded_block table (first number) old.0) (sym at ∙ block_forth number old.0 old.1) in
      record {
        block = old.0;
        at = old.1;
        is = is;
        end = ap (λ (insts : List Instruction). marks_before (line_marks table (first number) insts) (length old.0.insts)) (insts_are number old.0 old.1)
            ∙ (sym (folded_length table (first number) old.0.insts) ∙ ap (λ (b : BasicBlock). length b.insts) (sym is));
      }

  -- the number of the next result at a place
  pub number_there : (number place : ℕ) (block : BasicBlock) → slice_get func.blocks number ≡ Some block → place ≤ length block.insts
      → after_all (first number) (take place block.insts) ≡ number_at func (text_place func number place)
  number_there number place block at within =
      let one = after_is (length func.args) (instructions_of (take number func.blocks)) in
      let two = after_is (first number) (take place block.insts) in
      let cut = number_cut func number place block at within in
      omega (arith, one, two, cut)

  text_offset : (number place : ℕ) (block : BasicBlock) → slice_get func.blocks number ≡ Some block → place ≤ length block.insts
      → text_place (folded func table) number (offset number place) ≡ marks_before (line_marks table (length func.args) (instructions_of func.blocks)) (text_place func number place)
  text_offset number place block at within =
      let n = length func.args in
      let front = instructions_of (take number func.blocks) in
      let back = instructions_of (drop (number + 1) func.blocks) in
      let whole : instructions_of func.blocks ≡ front ++ (block.insts ++ back) =
      ap instructions_of (split_at func.blocks number block at) ∙ flat_map-append (λ (b : BasicBlock). b.insts) (take number func.blocks) (block ∷ drop (number + 1) func.blocks) in
      let first_part : length (instructions_of (take number (folded func table).blocks)) ≡ marks_before (line_marks table n front) (length front) =
      ap (λ (blocks : List BasicBlock). length (instructions_of blocks)) (blocks_front table n func.blocks number)
      ∙ (ap length (folded_text table n (take number func.blocks)) ∙ folded_length table n front) in
      let mine = line_marks table (after_all n front) block.insts in
      let others = line_marks table (after_all (after_all n front) block.insts) back in
      let marks : line_marks table n (instructions_of func.blocks) ≡ line_marks table n front ++ (mine ++ others) =
      ap (line_marks table n) whole ∙ (marks_append table n front (block.insts ++ back) ∙ ap (λ (rest : List Bool). line_marks table n front ++ rest) (marks_append table (after_all n front) block.insts back)) in
      let long = marks_whole table n front in
      let own = marks_whole table (after_all n front) block.insts in
      let here : offset number place ≡ marks_before mine place =
      ap (λ (insts : List Instruction). marks_before (line_marks table (first number) insts) place) (insts_are number block at) in
      let split = before_append (line_marks table n front) (mine ++ others) place in
      let same_long : length (line_marks table n front) + place ≡ text_place func number place = omega (arith, long) in
      let cut = before_front mine others place (omega (arith, own, within)) in
      let all = ap (λ (ms : List Bool). marks_before ms (text_place func number place)) marks
      ∙ ap (marks_before (line_marks table n front ++ (mine ++ others))) (sym same_long) in
      let at_long = ap (marks_before (line_marks table n front)) long in
      omega (arith, first_part, here, split, cut, all, at_long)

  -- the line there stays
  abbrev pub StaysAt : ℕ → ℕ → Instruction → Type 0
  StaysAt number place inst = line_stays table (number_at func (text_place func number place)) inst ≡ true

  marked_there : (number place : ℕ) (inst : Instruction) (stands : Stands func number place inst) → StaysAt number place inst
      → Marked (line_marks table (first number) (stands.block).insts) place
  marked_there number place inst stands stay =
      let within = slice_get_within (stands.block).insts place inst stands.in_block in
      mark_at table (first number) (stands.block).insts place inst stands.in_block
      ∙ ap (λ (mark : Bool). Some mark) (ap (λ (n : ℕ). line_stays table n inst) (number_there number place stands.block stands.in_function (omega arith)) ∙ stay)

  pub offset_marked : (number place : ℕ) (inst : Instruction) → Stands func number place inst → StaysAt number place inst → Marked (line_marks table (first number) (insts_in func number)) place
  offset_marked number place inst stands stay =
      subst (λ (insts : List Instruction). Marked (line_marks table (first number) insts) place) (sym (insts_are number stands.block stands.in_function)) (marked_there number place inst stands stay)

  pub stands_forth : (number place : ℕ) (inst : Instruction) → Stands func number place inst → StaysAt number place inst
      → Stands (folded func table) number (offset number place) (folded_line table inst)
  stands_forth number place inst stands stay =
      let block = stands.block in
      let marks = line_marks table (first number) block.insts in
      record {
        block = folded_block table (first number) block;
        in_function = block_forth number block stands.in_function;
        in_block =
            ap (slice_get (folded_insts table (first number) block.insts))
            (ap (λ (insts : List Instruction). marks_before (line_marks table (first number) insts) place) (insts_are number block stands.in_function))
            ∙ (ap (λ (insts : List Instruction). slice_get insts (marks_before marks place)) (folded_kept table (first number) block.insts)
            ∙ get_map (folded_line table) _ (marks_before marks place) inst
            (kept_get marks block.insts place inst (marked_there number place inst stands stay) stands.in_block));
      }

  -- what a line comes from
  pub record LineFrom (number place : ℕ) (new : Instruction) : Type 0 where
    pub own : ℕ
    pub inst : Instruction
    pub stands : Stands func number own inst
    pub stay : StaysAt number own inst
    pub here : offset number own ≡ place
    pub is : new ≡ folded_line table inst

  pub line_back : (number place : ℕ) (new : Instruction) → Stands (folded func table) number place new → LineFrom number place new
  line_back number place new stands =
      let from = block_back number stands.block stands.in_function in
      let block = from.block in
      let marks = line_marks table (first number) block.insts in
      let at : slice_get (map (folded_line table) (_)) place ≡ Some new =
      sym (ap (λ (insts : List Instruction). slice_get insts place) (ap (λ (b : BasicBlock). b.insts) from.is ∙ folded_kept table (first number) block.insts)) ∙ stands.in_block in
      let image = map_back (folded_line table) _ place new at in
      let origin = kept_back marks block.insts place image.before image.stands in
      let within = slice_get_within block.insts origin.place image.before origin.stands in
      let mark : line_stays table (after_all (first number) (take origin.place block.insts)) image.before ≡ true =
      same_Some _ true (sym (mark_at table (first number) block.insts origin.place image.before origin.stands) ∙ origin.marked) in
      record {
        own = origin.place;
        inst = image.before;
        stands = record { block = block; in_function = from.at; in_block = origin.stands };
        stay = ap (λ (n : ℕ). line_stays table n image.before) (sym (number_there number origin.place block from.at (omega arith))) ∙ mark;
        here = ap (λ (insts : List Instruction). marks_before (line_marks table (first number) insts) origin.place) (insts_are number block from.at) ∙ origin.number;
        is = image.is;
      }

  -- what holds of each line that stays, under the table
  pub lines_folded : (P : Instruction → Type 0)
      → ((place : ℕ) (inst : Instruction) → slice_get (instructions_of func.blocks) place ≡ Some inst → line_stays table (number_at func place) inst ≡ true → P (folded_line table inst))
      → All P (instructions_of (folded func table).blocks)
  lines_folded P each =
      subst (All P) (sym (folded_text table (length func.args) func.blocks))
      (folded_all P table (length func.args) (instructions_of func.blocks) (λ place inst at stay.
      each place inst at (ap (λ (n : ℕ). line_stays table n inst) (sym (after_is (length func.args) (take place (instructions_of func.blocks)))) ∙ stay)))

  module _ (arguments : (value : ℕ) → value < length func.args → stays table value ≡ true) where
    -- a value that stays is defined where its line stands
    pub defines_forth : (value number place : ℕ) (defines : Defines func value number place) → stays table value ≡ true
        → Defines (folded func table) (counted table value) number (offset number place) × Marked (line_marks table (first number) (insts_in func number)) place
    defines_forth value number place defines stay =
        let stands = defines.stands in
        let inst = defines.inst in
        let within = slice_get_within (stands.block).insts place inst stands.in_block in
        let there : StaysAt number place inst =
        ap (λ (b : Bool). not (b && not (stays table (number_at func (text_place func number place))))) defines.named
        ∙ (ap (λ (n : ℕ). not (not (stays table n))) defines.numbered ∙ ap (λ (b : Bool). not (not b)) stay) in (
          record {
            inst = folded_line table inst;
            stands = stands_forth number place inst stands there;
            named = defines.named;
            numbered = ap (number_at (folded func table)) (text_offset number place stands.block stands.in_function (omega arith))
                ∙ (number_folded func table arguments (text_place func number place) ∙ ap (counted table) defines.numbered);
          },
          offset_marked number place inst stands there,
        )
