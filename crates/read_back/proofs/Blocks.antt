-- The blocks of a function within the limits.
use Rattle.std.proofs.Common.{◌≡◌, refl, sym, ◌∙◌, subst, ℕ, suc, ◌+◌, ◌<◌, ◌≤◌, true, false, not, List, [], ◌∷◌, ◌++◌, length, map, Some, arith, length-append}
use Rattle.std.specs.List.{flat_map, list_all}
use Rattle.std.proofs.lemmas.Bool.{le-leb, and_parts, not-true}
use Rattle.sp_text.specs.Tokens.{is_name}
use Rattle.ir_ast.specs.Insts.{Instruction}
use Rattle.ir_ast.specs.Blocks.{BasicBlock, EndsAtTerminator}
use Rattle.ir_ast.specs.Funcs.{instructions_of}
use Rattle.ir_ast.specs.Ops.{is_terminator}
use Rattle.ir_printer.specs.Lists.{joined}
use Rattle.ir_printer.specs.Names.{Names}
use Rattle.ir_printer.specs.Texts.{block_text}
use Rattle.ir_ast.specs.declared.modules.Form.{Form as TextForm}
use Rattle.ir_ast.specs.declared.modules.Form.TheVariants as text_forms
use Rattle.ir_ast.specs.declared.ops.Op.{Op}
use Rattle.ir_ast.specs.declared.ops.Op.TheVariants as ast
use Rattle.ir_reader.specs.declared.states.Counted.TheVariants as kinds
use Rattle.ir_reader.specs.declared.states.Counts.{Counts}
use Rattle.ir_reader.specs.declared.states.State.{State}
use Rattle.ir_reader.specs.Limits.{counted, counted_in, counts_fit}
use Rattle.ir_reader.specs.declared.states.Place.TheVariants as places
use Rattle.ir_reader.specs.Places.{behind_label}
use Rattle.ir_reader.specs.Text.{is_top}
use Rattle.read_back.specs.Said.{block_says}
use Rattle.read_back.proofs.LinesRead.{Says}
use Rattle.read_back.proofs.OneLine.{place_after, counted_as}
use Rattle.read_back.proofs.Chains.{AllOk, behind_all, says-chain, behind_inst, InstSays, InstOk, in_block, behind_block, block_read}

-- how many of so many instructions a text of this form counts
abbrev pub weight : TextForm → ℕ → ℕ
weight text_forms.Source n = n
weight text_forms.Rewritten n = 0

-- so many more layouts, functions, values and instructions are within the limits of the form
pub record Room (of : TextForm) (l f v i : ℕ) (c : Counts) : Type 0 where
  pub layouts : c.layouts + l ≤ 4096
  pub functions : c.functions + f ≤ 4096
  pub values : c.values + weight of v ≤ 4096
  pub instructions : c.instructions + weight of i ≤ 65536

pub room-fits : {of : TextForm} {l f v i : ℕ} {c : Counts} → Room of l f v i c → c.relocates ≤ 16384 → counts_fit c ≡ true
room-fits {of} {l} {f} {v} {i} {c} room few =
    let values = room.values in
    let instructions = room.instructions in
    rw (le-leb c.layouts 4096 (omega (arith, room.layouts)), le-leb c.functions 4096 (omega (arith, room.functions)), le-leb c.values 4096 (omega arith), le-leb c.instructions 65536 (omega arith), le-leb c.relocates 16384 few) refl

pub room_as : (of : TextForm) {l f v i : ℕ} {c : Counts} (w j : ℕ) → w ≡ v → j ≡ i → Room of l f v i c → Room of l f w j c
room_as of {l} {f} {v} {i} {c} w j same also room =
    subst (λ (n : ℕ). Room of l f n j c) (sym same) (subst (λ (n : ℕ). Room of l f v n c) (sym also) room)

room_step : (of : TextForm) (op : Op) (c : Counts) {l f v i : ℕ} → Room of l f (suc v) (suc i) c → Room of l f v i (counted (counted_in of (counted_as op)) c)
room_step text_forms.Source ast.GcRelocate c room = record { layouts = room.layouts; functions = room.functions; values = omega (arith, room.values); instructions = omega (arith, room.instructions) }
room_step text_forms.Source _ c room = record { layouts = room.layouts; functions = room.functions; values = omega (arith, room.values); instructions = omega (arith, room.instructions) }
room_step text_forms.Rewritten ast.GcRelocate c room = record { layouts = room.layouts; functions = room.functions; values = room.values; instructions = room.instructions }
room_step text_forms.Rewritten _ c room = record { layouts = room.layouts; functions = room.functions; values = room.values; instructions = room.instructions }

pub room_still : (of : TextForm) (c : Counts) {l f v i : ℕ} → Room of l f v i c → Room of l f v i (counted kinds.Nothing c)
room_still of c room = record { layouts = room.layouts; functions = room.functions; values = room.values; instructions = room.instructions }

-- how many relocates stand in a row behind an instruction
abbrev pub run : Op → ℕ → ℕ
run ast.GcRelocate r = r + 1
run _ r = 0

run_is : (of : TextForm) (op : Op) (c : Counts) → (counted (counted_in of (counted_as op)) c).relocates ≡ run op c.relocates
run_is text_forms.Source ast.GcRelocate c = refl
run_is text_forms.Source _ c = refl
run_is text_forms.Rewritten ast.GcRelocate c = refl
run_is text_forms.Rewritten _ c = refl

-- behind so many, at most 16,384 stand in a row
abbrev pub RunsFit : ℕ → List Instruction → Type 0
RunsFit r [] = Unit {0}
RunsFit r (inst ∷ insts) = (run inst.op r ≤ 16384) × RunsFit (run inst.op r) insts

place-inside : (inst : Instruction) → is_terminator inst.op ≡ false → place_after inst.op ≡ places.Block
place-inside inst inside = rw inside refl

place-end : (inst : Instruction) → is_terminator inst.op ≡ true → place_after inst.op ≡ places.Closed
place-end inst ends = rw ends refl

-- each instruction of a list is read in a block
abbrev pub AllSay : TextForm → Names → List Instruction → Type 0
AllSay of names [] = Unit {0}
AllSay of names (inst ∷ insts) = InstSays of names inst × AllSay of names insts

insts_ok : (of : TextForm) (names : Names) (before : List Instruction) (last : Instruction) (s : State) (l f v i : ℕ) → AllSay of names (before ++ last ∷ []) → list_all (λ inst. not (is_terminator inst.op)) before ≡ true
    → s.form ≡ of → s.place ≡ places.Block → Room s.form l f (length (before ++ last ∷ []) + v) (length (before ++ last ∷ []) + i) s.counts → RunsFit s.counts.relocates (before ++ last ∷ [])
    → AllOk (InstOk of names) behind_inst (before ++ last ∷ []) s
insts_ok of names [] last s l f v i say inside formed at room runs =
    let more : Room s.form l f v i (behind_inst last s).counts = room_step s.form last.op s.counts (room_as s.form (suc v) (suc i) (omega arith) (omega arith) room) in
    ((formed, at, room-fits more (rw (run_is s.form last.op s.counts) runs.0), say.0), tt)
insts_ok of names (inst ∷ before) last s l f v i say inside formed at room runs =
    let parts = and_parts (not (is_terminator inst.op)) (list_all (λ inst. not (is_terminator inst.op)) before) inside in
    let n : ℕ = length (before ++ last ∷ []) in
    let more : Room s.form l f (n + v) (n + i) (behind_inst inst s).counts = room_step s.form inst.op s.counts (room_as s.form (suc (n + v)) (suc (n + i)) (omega arith) (omega arith) room) in
    let later : RunsFit (behind_inst inst s).counts.relocates (before ++ last ∷ []) = subst (λ (r : ℕ). RunsFit r (before ++ last ∷ [])) (sym (run_is s.form inst.op s.counts)) runs.1 in (
      (formed, at, room-fits more (rw (run_is s.form inst.op s.counts) runs.0), say.0),
      insts_ok of names before last (behind_inst inst s) l f v i say.1 parts.1 formed (place-inside inst (not-true (is_terminator inst.op) parts.0)) more later,
    )

-- behind the instructions of a block

closed_behind : (before : List Instruction) (last : Instruction) (s : State) → is_terminator last.op ≡ true → (behind_all behind_inst (before ++ last ∷ []) s).place ≡ places.Closed
closed_behind [] last s ends = place-end last ends
closed_behind (inst ∷ before) last s ends = closed_behind before last (behind_inst inst s) ends

form_behind : (insts : List Instruction) (s : State) → (behind_all behind_inst insts s).form ≡ s.form
form_behind [] s = refl
form_behind (inst ∷ insts) s = form_behind insts (behind_inst inst s)

room_behind : (insts : List Instruction) (s : State) (l f v i : ℕ) → Room s.form l f (length insts + v) (length insts + i) s.counts → Room s.form l f v i (behind_all behind_inst insts s).counts
room_behind [] s l f v i room = room_as s.form v i (omega arith) (omega arith) room
room_behind (inst ∷ insts) s l f v i room =
    let n : ℕ = length insts in
    room_behind insts (behind_inst inst s) l f v i (room_step s.form inst.op s.counts (room_as s.form (suc (n + v)) (suc (n + i)) (omega arith) (omega arith) room))

-- ---- blocks

-- a block that ends at a terminator, with a name, each of whose instructions is read, and with few relocates in a row
pub record BlockSays (of : TextForm) (names : Names) (block : BasicBlock) : Type 0 where
  pub name : is_name block.name ≡ true
  pub ends : EndsAtTerminator block.insts
  pub insts : AllSay of names block.insts
  pub runs : RunsFit 0 block.insts

-- where a label may stand
abbrev pub TakesLabel : State → Type 0
TakesLabel s = (is_top s.place ≡ false) × (behind_label s.place ≡ Some places.Block)

pub block_ok : (of : TextForm) (names : Names) (block : BasicBlock) (s : State) (l f v i : ℕ) → BlockSays of names block → s.form ≡ of → TakesLabel s → Room s.form l f (length block.insts + v) (length block.insts + i) s.counts
    → Says s (block_text names block) (behind_block block s) (block_says names block)
block_ok of names block s l f v i says formed takes room =
    block_read of names block s says.name takes.0 takes.1 (rw says.ends.whole (insts_ok of names says.ends.before says.ends.last (in_block s) l f v i
    (rw says.ends.whole at says.insts) says.ends.inside formed refl (room_still s.form s.counts (rw says.ends.whole at room)) (rw says.ends.whole at says.runs)))

pub block_closes : (of : TextForm) (names : Names) (block : BasicBlock) (s : State) → BlockSays of names block → (behind_block block s).place ≡ places.Closed
block_closes of names block s says = rw says.ends.whole (closed_behind says.ends.before says.ends.last (in_block s) says.ends.ends)

block_form : (block : BasicBlock) (s : State) → (behind_block block s).form ≡ s.form
block_form block s = form_behind block.insts (in_block s)

pub block_room : (block : BasicBlock) (s : State) (l f v i : ℕ) → Room s.form l f (length block.insts + v) (length block.insts + i) s.counts → Room (behind_block block s).form l f v i (behind_block block s).counts
block_room block s l f v i room =
    subst (λ (of : TextForm). Room of l f v i (behind_block block s).counts) (sym (block_form block s)) (room_behind block.insts (in_block s) l f v i (room_still s.form s.counts room))

abbrev pub AllBlocksSay : TextForm → Names → List BasicBlock → Type 0
AllBlocksSay of names [] = Unit {0}
AllBlocksSay of names (block ∷ blocks) = BlockSays of names block × AllBlocksSay of names blocks

abbrev BlockOk : Names → BasicBlock → State → Type 0
BlockOk names block s = Says s (block_text names block) (behind_block block s) (block_says names block)

takes-closed : (s : State) → s.place ≡ places.Closed → TakesLabel s
takes-closed s closed = (rw closed refl, rw closed refl)

split_room : (block : BasicBlock) (blocks : List BasicBlock) (s : State) (l f v i : ℕ) → Room s.form l f (length (instructions_of (block ∷ blocks)) + v) (length (instructions_of (block ∷ blocks)) + i) s.counts
    → Room s.form l f (length block.insts + (length (instructions_of blocks) + v)) (length block.insts + (length (instructions_of blocks) + i)) s.counts
split_room block blocks s l f v i room =
    let split : length (instructions_of (block ∷ blocks)) ≡ length block.insts + length (instructions_of blocks) = length-append block.insts (instructions_of blocks) in
    room_as s.form _ _ (omega (arith, split)) (omega (arith, split)) room

-- the blocks of a function, one after the other
blocks_ok : (of : TextForm) (names : Names) (blocks : List BasicBlock) (s : State) (l f v i : ℕ) → AllBlocksSay of names blocks → s.form ≡ of → TakesLabel s
    → Room s.form l f (length (instructions_of blocks) + v) (length (instructions_of blocks) + i) s.counts → AllOk (BlockOk names) behind_block blocks s
blocks_ok of names [] s l f v i say formed takes room = tt
blocks_ok of names (block ∷ blocks) s l f v i say formed takes room =
    let n : ℕ = length (instructions_of blocks) in
    let here = split_room block blocks s l f v i room in (
      block_ok of names block s l f (n + v) (n + i) say.0 formed takes here,
      blocks_ok of names blocks (behind_block block s) l f v i say.1 (block_form block s ∙ formed) (takes-closed (behind_block block s) (block_closes of names block s say.0))
          (block_room block s l f (n + v) (n + i) here),
    )

pub blocks_read : (of : TextForm) (names : Names) (blocks : List BasicBlock) (s : State) (l f v i : ℕ) → AllBlocksSay of names blocks → s.form ≡ of → TakesLabel s
    → Room s.form l f (length (instructions_of blocks) + v) (length (instructions_of blocks) + i) s.counts
    → Says s (joined [] (map (block_text names) blocks)) (behind_all behind_block blocks s) (flat_map (block_says names) blocks)
blocks_read of names blocks s l f v i say formed takes room =
    says-chain (block_text names) (block_says names) behind_block (BlockOk names) (λ block s ok. ok) blocks s (blocks_ok of names blocks s l f v i say formed takes room)

-- behind the blocks of a function that has one
blocks_close : (of : TextForm) (names : Names) (block : BasicBlock) (blocks : List BasicBlock) (s : State) → AllBlocksSay of names (block ∷ blocks) → (behind_all behind_block (block ∷ blocks) s).place ≡ places.Closed
blocks_close of names block [] s say = block_closes of names block s say.0
blocks_close of names block (next ∷ blocks) s say = blocks_close of names next blocks (behind_block block s) say.1

pub blocks_closed : (of : TextForm) (names : Names) (blocks : List BasicBlock) (s : State) → 0 < length blocks → AllBlocksSay of names blocks → (behind_all behind_block blocks s).place ≡ places.Closed
blocks_closed of names [] s some say = absurd (omega arith)
blocks_closed of names (block ∷ blocks) s some say = blocks_close of names block blocks s say

pub blocks_form : (blocks : List BasicBlock) (s : State) → (behind_all behind_block blocks s).form ≡ s.form
blocks_form [] s = refl
blocks_form (block ∷ blocks) s = blocks_form blocks (behind_block block s) ∙ block_form block s

pub blocks_room : (blocks : List BasicBlock) (s : State) (l f v i : ℕ) → Room s.form l f (length (instructions_of blocks) + v) (length (instructions_of blocks) + i) s.counts
    → Room (behind_all behind_block blocks s).form l f v i (behind_all behind_block blocks s).counts
blocks_room [] s l f v i room = room_as s.form v i (omega arith) (omega arith) room
blocks_room (block ∷ blocks) s l f v i room =
    let n : ℕ = length (instructions_of blocks) in
    blocks_room blocks (behind_block block s) l f v i (block_room block s l f (n + v) (n + i) (split_room block blocks s l f v i room))
