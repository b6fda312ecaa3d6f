-- The rewritten function: its blocks, its lines, what they define, and its edges.
use Rattle.std.proofs.Common.{◌≡◌, ℕ, zero, suc, ◌+◌, Bool, if◌then◌else◌, List, [], ◌∷◌, ◌++◌, map, refl, sym, ap, ◌∙◌, arith}
use Rattle.std.specs.Prelude.{Option, Some, None, slice_get, slice_index}
use Rattle.std.specs.List.{flat_map}
use Rattle.std.specs.Option.{option_map, option_map_or}
use Rattle.std.proofs.lemmas.Grind.{flat_map-append}
use Rattle.std.proofs.lemmas.List.{map-append}
use Rattle.list_laws.proofs.Places.{get_map}
use Rattle.sp_ids.specs.declared.ids.BlockId.{BlockId}
use Rattle.ir_ast.specs.declared.types.Ty.{Ty}
use Rattle.ir_ast.specs.declared.ops.Callee.{Callee}
use Rattle.ir_ast.specs.declared.ops.Op.{Op}
use Rattle.ir_ast.specs.declared.ops.Operand.{Operand}
use Rattle.ir_ast.specs.Insts.{Instruction}
use Rattle.ir_ast.specs.Blocks.{BasicBlock}
use Rattle.ir_ast.specs.Edges.{targets}
use Rattle.ir_ast.specs.Funcs.{Function}
use Rattle.ir_ast.specs.Ops.{is_terminator}
use Rattle.ir_cfg.specs.DefiniteUses.{Defines}
use Rattle.ir_cfg.specs.Graphs.{graph_of}
use Rattle.object_meaning.specs.Lines.{Line, following, registers_of}
use Rattle.object_meaning.specs.TargetRuns.{plain_lines}
use Rattle.rewriting_forms.specs.Numbered.{lines_at}
use Rattle.rewriting_forms.specs.Liveness.{live_list}
use Rattle.rewriting_forms.specs.Names.{Name, Naming}
use Rattle.rewriting_forms.specs.Rewritten.{Piece, expanded, expanded_by, group, inserted_phi, joined_at, names_of, piece_inst, pieces_of, place_in, plain, relocate_of, result_of, rewritten_blocks, rewritten_with, spelled, statepoint}
use Rattle.rewriting_laws.specs.Related.{piece_line}
use Rattle.rewriting_laws.proofs.ApartLaws.{names_apart}
use Rattle.rewriting_laws.proofs.JumpLemmas.{one_piece}
use Rattle.rewriting_laws.proofs.NameLemmas.{call_or_not, is_none, is_one}
use Rattle.rewriting_laws.proofs.PlaceLaws.{text_lines}
use Rattle.rewritten_sound.proofs.definite.LineLaws.{given_defines}

abbrev pub own_targets : Instruction → List BlockId
own_targets inst = if is_terminator inst.op then inst.labels else []

abbrev own_inst : Line → Instruction
own_inst line = line.inst

lines_insts : (next : ℕ) (insts : List Instruction) → map own_inst (plain_lines next insts) ≡ insts
lines_insts next [] = refl
lines_insts next (inst ∷ insts) = ap (λ rest. inst ∷ rest) (lines_insts (following next inst) insts)

module _ (func : Function) (table : List Operand) (naming : Naming) where
  abbrev pub names : List Name
  names = names_of func table naming

  abbrev pub number : Name → ℕ
  number = place_in (names_of func table naming)

  abbrev pub text : Name → List ℕ
  text = spelled func (names_of func table naming)

  abbrev pub now : Function
  now = rewritten_with func table naming

  abbrev pub pieces : ℕ → List Piece
  pieces = pieces_of func table naming number

  abbrev pub insts_now : ℕ → List Instruction
  insts_now b = map (piece_inst text) (pieces b)

  -- ---- blocks

  pub record BlockNow (b : ℕ) (block : BasicBlock) : Type 0 where
    pub own : BasicBlock
    pub stands : slice_get func.blocks b ≡ Some own
    pub is : block ≡ record { name = own.name; insts = insts_now b }

  block_from : (start : ℕ) (blocks : List BasicBlock) (i : ℕ) (block : BasicBlock) → slice_get (rewritten_blocks func table naming names start blocks) i ≡ Some block
      → (own : BasicBlock) × (slice_get blocks i ≡ Some own) × (block ≡ record { name = own.name; insts = insts_now (start + i) })
  block_from start [] i block is = absurd cc
  block_from start (first ∷ blocks) zero block is =
      let e : start ≡ start + 0 = omega arith in
      let same : record { name = first.name; insts = insts_now start } ≡ block = cc in
      (first, refl, sym same ∙ ap (λ n. let made : BasicBlock = record { name = first.name; insts = insts_now n } in made) e)
  block_from start (first ∷ blocks) (suc i) block is =
      let rest = block_from (suc start) blocks i block is in
      let e : suc start + i ≡ start + suc i = omega arith in
      (rest.0, rest.1, rest.2 ∙ ap (λ n. let made : BasicBlock = record { name = (rest.0).name; insts = insts_now n } in made) e)

  pub block_now : (b : ℕ) (block : BasicBlock) → slice_get now.blocks b ≡ Some block → BlockNow b block
  block_now b block is =
      let from = block_from 0 func.blocks b block is in
      let e : 0 + b ≡ b = omega arith in
      record { own = from.0; stands = from.1; is = from.2 ∙ ap (λ n. let made : BasicBlock = record { name = (from.0).name; insts = insts_now n } in made) e }

  block_there : (start : ℕ) (blocks : List BasicBlock) (i : ℕ) (own : BasicBlock) → slice_get blocks i ≡ Some own
      → slice_get (rewritten_blocks func table naming names start blocks) i ≡ Some (record { name = own.name; insts = insts_now (start + i) })
  block_there start [] i own is = absurd cc
  block_there start (first ∷ blocks) zero own is =
      let e : start ≡ start + 0 = omega arith in
      let same : first ≡ own = cc in
      ap (λ (block : BasicBlock). let made : BasicBlock = record { name = block.name; insts = insts_now start } in Some made) same
      ∙ ap (λ n. let made : BasicBlock = record { name = own.name; insts = insts_now n } in Some made) e
  block_there start (first ∷ blocks) (suc i) own is =
      let e : suc start + i ≡ start + suc i = omega arith in
      block_there (suc start) blocks i own is ∙ ap (λ n. let made : BasicBlock = record { name = own.name; insts = insts_now n } in Some made) e

  pub block_forth : (b : ℕ) (own : BasicBlock) → slice_get func.blocks b ≡ Some own → slice_get now.blocks b ≡ Some (record { name = own.name; insts = insts_now b })
  block_forth b own is =
      let e : 0 + b ≡ b = omega arith in
      block_there 0 func.blocks b own is ∙ ap (λ n. let made : BasicBlock = record { name = own.name; insts = insts_now n } in Some made) e

  -- ---- lines

  pub lines_now_are : (b : ℕ) (own : BasicBlock) → slice_get func.blocks b ≡ Some own → lines_at now b ≡ map (piece_line text number) (pieces b)
  lines_now_are b own is =
      ap (λ (here : Option BasicBlock). plain_lines (slice_index (registers_of now) b) (option_map_or (λ block. block.insts) here [])) (block_forth b own is)
      ∙ text_lines func table naming (names_apart func table naming) b (record { name = own.name; insts = insts_now b }) (block_forth b own is)

  pub defines_piece : (b j m : ℕ) (own : BasicBlock) (piece : Piece) (name : Name) → slice_get func.blocks b ≡ Some own → slice_get (pieces b) j ≡ Some piece → piece.name ≡ Some name
      → number name ≡ m → Defines now m b j
  defines_piece b j m own piece name found at named numbered =
      given_defines now m b j (piece_line text number piece)
      (ap (λ (lines : List Line). slice_get lines j) (lines_now_are b own found) ∙ get_map (piece_line text number) (pieces b) j piece at)
      (ap (option_map number) named ∙ ap (λ n. Some n) numbered)

  -- ---- edges

  abbrev leads : List Piece → List BlockId
  leads given = flat_map own_targets (map (piece_inst text) given)

  leads_append : (xs ys : List Piece) → leads (xs ++ ys) ≡ leads xs ++ leads ys
  leads_append xs ys = ap (flat_map own_targets) (map-append (piece_inst text) xs ys) ∙ flat_map-append own_targets (map (piece_inst text) xs) (map (piece_inst text) ys)

  joins_lead : (b : ℕ) (vs : List ℕ) → leads (map (inserted_phi func table naming number b) vs) ≡ []
  joins_lead b [] = refl
  joins_lead b (v ∷ vs) = joins_lead b vs

  relocates_lead : (b k : ℕ) (vs : List ℕ) → leads (map (relocate_of func table naming number b k) vs) ≡ []
  relocates_lead b k [] = refl
  relocates_lead b k (v ∷ vs) = relocates_lead b k vs

  result_leads : (b k : ℕ) (line : Line) (to : Option ℕ) → leads (result_of func table naming number b k line to) ≡ []
  result_leads b k line None = refl
  result_leads b k line (Some x) = refl

  group_leads : (b k : ℕ) (line : Line) (callee : Callee) (types : List Ty) → leads (statepoint func table naming number b k callee types line.inst ∷ group func table naming number b k line) ≡ []
  group_leads b k line callee types =
      leads_append (result_of func table naming number b k line line.to) (map (relocate_of func table naming number b k) (live_list func table b k))
      ∙ (ap (λ (ls : List BlockId). ls ++ leads (map (relocate_of func table naming number b k) (live_list func table b k))) (result_leads b k line line.to) ∙ relocates_lead b k (live_list func table b k))

  line_leads : (b k : ℕ) (line : Line) → leads (expanded_by func table naming number b k line line.inst.op) ≡ own_targets line.inst ++ []
  line_leads b k line = elim (call_or_not line.inst.op) [
    | is_none other ↦ ap leads (one_piece func table naming number b k line line.inst.op other)
    | is_one callee types is other ↦
        ap (λ (op : Op). leads (expanded_by func table naming number b k line op)) is
        ∙ (ap (λ (t : Bool). leads (if t then plain func table naming number b k line ∷ [] else statepoint func table naming number b k callee types line.inst ∷ group func table naming number b k line)) other
        ∙ (group_leads b k line callee types ∙ sym (ap (λ (op : Op). (if is_terminator op then line.inst.labels else []) ++ []) is)))
  ]

  lines_lead : (b k : ℕ) (lines : List Line) → leads (expanded func table naming number b k lines) ≡ flat_map own_targets (map own_inst lines)
  lines_lead b k [] = refl
  lines_lead b k (line ∷ lines) =
      leads_append (expanded_by func table naming number b k line line.inst.op) (expanded func table naming number b (suc k) lines)
      ∙ (ap (λ (ls : List BlockId). ls ++ leads (expanded func table naming number b (suc k) lines)) (line_leads b k line ∙ no_more (own_targets line.inst))
      ∙ ap (λ (ls : List BlockId). own_targets line.inst ++ ls) (lines_lead b (suc k) lines))
    where
      no_more : (ls : List BlockId) → ls ++ [] ≡ ls
      no_more [] = refl
      no_more (l ∷ ls) = ap (λ rest. l ∷ rest) (no_more ls)

  targets_now : (b : ℕ) (own : BasicBlock) → slice_get func.blocks b ≡ Some own → flat_map own_targets (insts_now b) ≡ targets own
  targets_now b own is =
      leads_append (map (inserted_phi func table naming number b) (joined_at func naming b)) (expanded func table naming number b 0 (lines_at func b))
      ∙ (ap (λ (ls : List BlockId). ls ++ leads (expanded func table naming number b 0 (lines_at func b))) (joins_lead b (joined_at func naming b))
      ∙ (lines_lead b 0 (lines_at func b)
      ∙ ap (flat_map own_targets)
      (ap (λ (here : Option BasicBlock). map own_inst (plain_lines (slice_index (registers_of func) b) (option_map_or (λ block. block.insts) here []))) is ∙ lines_insts (slice_index (registers_of func) b) own.insts)))

  rows_now : (start : ℕ) (blocks : List BasicBlock) → ((i : ℕ) (own : BasicBlock) → slice_get blocks i ≡ Some own → slice_get func.blocks (start + i) ≡ Some own)
      → map targets (rewritten_blocks func table naming names start blocks) ≡ map targets blocks
  rows_now start [] each = refl
  rows_now start (block ∷ blocks) each =
      let e : start + 0 ≡ start = omega arith in
      ap (λ (row : List BlockId). row ∷ map targets (rewritten_blocks func table naming names (suc start) blocks))
      (targets_now start block (ap (slice_get func.blocks) (sym e) ∙ each 0 block refl))
      ∙ ap (λ rows. targets block ∷ rows)
      (rows_now (suc start) blocks (λ i own at. let e : suc start + i ≡ start + suc i = omega arith in ap (slice_get func.blocks) e ∙ each (suc i) own at))

  -- the rewriting changes no edge
  pub graph_now : graph_of now ≡ graph_of func
  graph_now = rows_now 0 func.blocks (λ i own at. let e : 0 + i ≡ i = omega arith in ap (slice_get func.blocks) e ∙ at)
