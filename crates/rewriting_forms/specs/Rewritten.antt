-- The rewritten module.
use Rattle.std.specs.Prelude.{ℕ, suc, ◌==◌, ◌&&◌, Bool, true, false, if◌then◌else◌, List, [], ◌∷◌, ◌++◌, length, map, filter, Option, Some, None, slice_get, codes, decimal}
use Rattle.std.specs.List.{list_any, range_with_len, position, flat_map}
use Rattle.std.specs.Option.{option_map_or, option_map}
use Rattle.sp_ids.specs.declared.ids.BlockId.{BlockId}
use Rattle.ir_ast.specs.declared.types.Ty.{Ty}
use Rattle.ir_ast.specs.declared.types.Ty.TheVariants.{Ptr}
use Rattle.ir_ast.specs.declared.ops.Callee.{Callee}
use Rattle.ir_ast.specs.declared.ops.Operand.{Operand}
use Rattle.ir_ast.specs.declared.ops.Operand.TheVariants.{Value, Int, Null, Fun}
use Rattle.ir_ast.specs.declared.ops.Op.{Op}
use Rattle.ir_ast.specs.declared.ops.Op.TheVariants.{Phi, Call, Statepoint, GcResult, GcRelocate}
use Rattle.ir_ast.specs.Insts.{Instruction}
use Rattle.ir_ast.specs.Blocks.{BasicBlock}
use Rattle.ir_ast.specs.declared.modules.Form.TheVariants.{Rewritten}
use Rattle.ir_ast.specs.Modules.{ModuleContent}
use Rattle.ir_ast.specs.Funcs.{Function}
use Rattle.ir_ast.specs.Values.{definitions_of, definition_name}
use Rattle.ir_ast.specs.Callees.{is_leaf}
use Rattle.ir_ast.specs.Faults.PhiEdges.{is_phi}
use Rattle.ir_cfg.specs.Graphs.{graph_of, preds_of}
use Rattle.object_meaning.specs.Lines.{Line}
use Rattle.rewriting_forms.specs.Numbered.{named, lines_at, line_at, calls, pointers, base_at, preds}
use Rattle.rewriting_forms.specs.Liveness.{live_list}
use Rattle.rewriting_forms.specs.Names.{Name, own, relocated, joined, token, Names, Naming, names_at, names_at_end, naming_of}
pub use Rattle.ir_ast.specs.Operands.{is_null}
pub use Rattle.rewriting_forms.specs.Names.{same_name, joined_at}

-- numbers: the place of a name among all values of the final text, arguments first
abbrev pub line_names : Function → List Operand → ℕ → ℕ → List Name
line_names func table b k =
    (if calls (line_at func b k) then token b k ∷ [] else [])
    ++ (option_map_or (λ x. own x ∷ []) (line_at func b k).to []
    ++ (if calls (line_at func b k) then map (relocated b k) (live_list func table b k) else []))

abbrev pub block_names : Function → List Operand → Naming → ℕ → List Name
block_names func table naming b =
    map (joined b) (joined_at func naming b) ++ flat_map (line_names func table b) (range_with_len 0 (length (lines_at func b)))

abbrev pub names_of : Function → List Operand → Naming → List Name
names_of func table naming =
    map own (range_with_len 0 (length func.args)) ++ flat_map (block_names func table naming) (range_with_len 0 (length func.blocks))

-- a name that isn't in the text has a number behind all
abbrev pub behind_all : Name → ℕ
behind_all (own v) = suc v
behind_all (relocated b k v) = suc v
behind_all (joined b v) = suc v
behind_all (token b k) = 0

abbrev pub place_in : List Name → Name → ℕ
place_in [] name = behind_all name
place_in (x ∷ names) name = if same_name x name then 0 else suc (place_in names name)

-- an operand under names and their numbers
abbrev pub renamed : (Name → ℕ) → Names → Operand → Operand
renamed number names (Value id) = named (number (names id.0))
renamed number names (Int word) = Int word
renamed number names Null = Null
renamed number names (Fun func) = Fun func

-- a line of the rewritten function: what its result is, and the rest
pub record Piece : Type 0 where
  pub name : Option Name
  pub inst : Instruction

abbrev pub same_operand : Operand → Operand → Bool
same_operand (Value v) (Value w) = v.0 == w.0
same_operand Null Null = true
same_operand _ _ = false

-- the "gc-live" entries of a call: `null` first where a listed pointer has it as its base
abbrev pub entries : Function → List Operand → ℕ → ℕ → List Operand
entries func table b k =
    (if list_any (λ v. is_null (base_at table v)) (live_list func table b k) then Null ∷ [] else [])
    ++ map (λ v. named v) (live_list func table b k)

-- the index of an operand among the entries
abbrev pub index_of : Function → List Operand → ℕ → ℕ → Operand → ℕ
index_of func table b k o = option_map_or (λ place. place) (position (λ entry. same_operand entry o) (entries func table b k)) 0

module _ (func : Function) (table : List Operand) (naming : Naming) (number : Name → ℕ) where
  -- inserted phis
  abbrev pub inserted_phi : ℕ → ℕ → Piece
  inserted_phi b v = record {
    name = Some (joined b v);
    inst = record {
      result = None;
      op = Phi;
      ty = Ptr;
      operands = map (λ p. named (number (names_at_end func table naming p v))) (preds func b);
      labels = preds_of (graph_of func) b;
      bundle = [];
    };
  }

  -- groups
  abbrev pub statepoint : ℕ → ℕ → Callee → List Ty → Instruction → Piece
  statepoint b k callee types inst = record {
    name = Some (token b k);
    inst = record {
      result = None;
      op = Statepoint 2882400000 callee types;
      ty = inst.ty;
      operands = map (renamed number (names_at func table naming b k)) (inst.operands ++ entries func table b k);
      labels = [];
      bundle = map (λ entry. (entry.0, renamed number (names_at func table naming b k) entry.1)) inst.bundle;
    };
  }

  abbrev pub result_of : ℕ → ℕ → Line → Option ℕ → List Piece
  result_of b k line None = []
  result_of b k line (Some x) = record {
    name = Some (own x);
    inst = record { result = None; op = GcResult; ty = line.inst.ty; operands = named (number (token b k)) ∷ []; labels = []; bundle = [] };
  } ∷ []

  abbrev pub relocate_of : ℕ → ℕ → ℕ → Piece
  relocate_of b k v = record {
    name = Some (relocated b k v);
    inst = record {
      result = None;
      op = GcRelocate;
      ty = Ptr;
      operands = named (number (token b k)) ∷ Int (index_of func table b k (base_at table v)) ∷ Int (index_of func table b k (named v)) ∷ [];
      labels = [];
      bundle = [];
    };
  }

  abbrev pub group : ℕ → ℕ → Line → List Piece
  group b k line = result_of b k line line.to ++ map (relocate_of b k) (live_list func table b k)

  -- an entry of a phi takes the version at the end of its label's block
  abbrev pub phi_operands : List BlockId → List Operand → List Operand
  phi_operands (label ∷ labels) (o ∷ operands) =
      renamed number (names_at_end func table naming label.0) o ∷ phi_operands labels operands
  phi_operands labels operands = []

  abbrev pub renamed_inst : ℕ → ℕ → Instruction → Instruction
  renamed_inst b k inst = record inst {
    operands =
        if is_phi inst.op then phi_operands inst.labels inst.operands
        else map (renamed number (names_at func table naming b k)) inst.operands;
    bundle = map (λ entry. (entry.0, renamed number (names_at func table naming b k) entry.1)) inst.bundle;
  }

  abbrev pub plain : ℕ → ℕ → Line → Piece
  plain b k line = record { name = option_map own line.to; inst = renamed_inst b k line.inst }

  abbrev pub expanded_by : ℕ → ℕ → Line → Op → List Piece
  expanded_by b k line (Call callee types) =
      if is_leaf callee then plain b k line ∷ [] else statepoint b k callee types line.inst ∷ group b k line
  expanded_by b k line _ = plain b k line ∷ []

  abbrev pub expanded : ℕ → ℕ → List Line → List Piece
  expanded b k [] = []
  expanded b k (line ∷ lines) = expanded_by b k line line.inst.op ++ expanded b (suc k) lines

  abbrev pub pieces_of : ℕ → List Piece
  pieces_of b = map (inserted_phi b) (joined_at func naming b) ++ expanded b 0 (lines_at func b)

-- how results are spelled: as before, or %sp.tN, %sp.rN and %sp.mN, each letter counted from 0 in text order
abbrev pub is_token : Name → Bool
is_token (token b k) = true
is_token _ = false

abbrev pub is_relocated : Name → Bool
is_relocated (relocated b k v) = true
is_relocated _ = false

abbrev pub is_joined : Name → Bool
is_joined (joined b v) = true
is_joined _ = false

abbrev pub old_name : Function → ℕ → List ℕ
old_name func v = option_map_or definition_name (slice_get (definitions_of func) v) []

abbrev pub spelled : Function → List Name → Name → List ℕ
spelled func names (own v) = old_name func v
spelled func names (token b k) = codes "sp.t" ++ decimal (place_in (filter is_token names) (token b k))
spelled func names (relocated b k v) = codes "sp.r" ++ decimal (place_in (filter is_relocated names) (relocated b k v))
spelled func names (joined b v) = codes "sp.m" ++ decimal (place_in (filter is_joined names) (joined b v))

abbrev pub piece_inst : (Name → List ℕ) → Piece → Instruction
piece_inst text piece = record piece.inst { result = option_map text piece.name }

abbrev pub rewritten_blocks : Function → List Operand → Naming → List Name → ℕ → List BasicBlock → List BasicBlock
rewritten_blocks func table naming names b [] = []
rewritten_blocks func table naming names b (block ∷ blocks) =
    record { name = block.name; insts = map (piece_inst (spelled func names)) (pieces_of func table naming (place_in names) b) }
    ∷ rewritten_blocks func table naming names (suc b) blocks

-- the function with this naming, numbered and spelled in its own text
abbrev pub rewritten_with : Function → List Operand → Naming → Function
rewritten_with func table naming = record func { blocks = rewritten_blocks func table naming (names_of func table naming) 0 func.blocks }

-- the rewritten function: a function of the one before liveness and its base table
abbrev pub rewritten : Function → List Operand → Function
rewritten func table = rewritten_with func table (naming_of func table)

-- a naming for each function of a module, by its number, from the function and its base table
abbrev pub Choice : Type 0
Choice = ℕ → Function → List Operand → Naming

abbrev pub rewritten_funcs_by : (ℕ → List Operand) → Choice → ℕ → List Function → List Function
rewritten_funcs_by tables choose g [] = []
rewritten_funcs_by tables choose g (func ∷ funcs) =
    rewritten_with func (tables g) (choose g func (tables g)) ∷ rewritten_funcs_by tables choose (suc g) funcs

abbrev pub rewritten_module_by : ModuleContent → (ℕ → List Operand) → Choice → ModuleContent
rewritten_module_by content tables choose =
    record content { funcs = rewritten_funcs_by tables choose 0 content.funcs; form = Rewritten }

-- the rewritten module: a function of the module before liveness and its base tables
abbrev pub rewritten_funcs : (ℕ → List Operand) → ℕ → List Function → List Function
rewritten_funcs tables = rewritten_funcs_by tables (λ g. naming_of)

abbrev pub rewritten_module : ModuleContent → (ℕ → List Operand) → ModuleContent
rewritten_module content tables = rewritten_module_by content tables (λ g. naming_of)
