-- What the rewriting asks of a function, its live values, its names and their numbers.
use Rattle.std.specs.Prelude.{◌≡◌, ℕ, suc, ◌<◌, Bool, true, false, List, [], length, map, drop, Option, Some, None, slice_get}
use Rattle.ir_ast.specs.declared.ops.Callee.{Callee}
use Rattle.ir_ast.specs.declared.types.Ty.{Ty}
use Rattle.ir_ast.specs.declared.ops.Operand.{Operand}
use Rattle.ir_ast.specs.declared.ops.Op.{Op}
use Rattle.ir_ast.specs.declared.ops.Op.TheVariants.{Call, Br, CondBr, Switch}
use Rattle.ir_ast.specs.Funcs.{Function}
use Rattle.ir_ast.specs.Ops.{is_terminator}
use Rattle.ir_ast.specs.Faults.PhiEdges.{is_phi}
use Rattle.ir_ast.specs.Faults.GroupShape.{is_statepoint}
use Rattle.ir_ast.specs.Objects.{Datum}
use Rattle.object_meaning.specs.Lines.{Line}
use Rattle.object_meaning.specs.Frames.{is_member}
use Rattle.object_meaning.specs.Jumps.{phi_count, label_at, branch_taken, case_taken}
use Rattle.rewriting_forms.specs.Numbered.{named, among, lines_at, line_at, gives, calls, pointers, preds}
use Rattle.rewriting_forms.specs.Liveness.{incoming, live_list}
use Rattle.rewriting_forms.specs.Names.{Name, own, relocated, joined, token, Naming, names_at_end}

-- an edge leads from one block to another
abbrev pub Edge : Function → ℕ → ℕ → Type 0
Edge func from to = among from (preds func to) ≡ true

-- where a terminator leads, whatever the value that it asks
abbrev pub LeadsByEdges : Function → ℕ → Line → Op → Type 0
LeadsByEdges func b line Br = Edge func b (label_at line.inst.labels 0)
LeadsByEdges func b line CondBr = (datum : Datum) → Edge func b (label_at line.inst.labels (branch_taken datum))
LeadsByEdges func b line Switch = (datum : Datum) → Edge func b (label_at line.inst.labels (case_taken datum (drop 1 line.inst.operands)))
LeadsByEdges func b line op = Unit {0}

-- a function before liveness: polls and calls are plain, phis stand first, and terminators last
pub record IsPlain (func : Function) (room : ℕ) : Type 0 where
  pub entry : phi_count (lines_at func 0) ≡ 0
  pub last : (b k : ℕ) (line : Line) → slice_get (lines_at func b) k ≡ Some line → is_terminator line.inst.op ≡ true
      → (suc k ≡ length (lines_at func b)) × (line.to ≡ None)
  pub leads : (b k : ℕ) (line : Line) → slice_get (lines_at func b) k ≡ Some line → LeadsByEdges func b line line.inst.op
  pub phis : (b k : ℕ) (line : Line) → slice_get (lines_at func b) k ≡ Some line → is_phi line.inst.op ≡ true → k < phi_count (lines_at func b)
  pub no_statepoint : (b k : ℕ) (line : Line) → slice_get (lines_at func b) k ≡ Some line → is_statepoint line.inst.op ≡ false
  pub no_member : (b k : ℕ) (line : Line) → slice_get (lines_at func b) k ≡ Some line → is_member line.inst.op ≡ false
  pub arguments : (b k : ℕ) (line : Line) (callee : Callee) (types : List Ty) → slice_get (lines_at func b) k ≡ Some line
      → line.inst.op ≡ Call callee types → length types ≡ length line.inst.operands
  pub room_line : (b k x : ℕ) (line : Line) → slice_get (lines_at func b) k ≡ Some line → line.to ≡ Some x → x < room

-- what every table of live values has, also one that counts all integers as live
pub record IsClosed (func : Function) (live : ℕ → ℕ → ℕ → Bool) : Type 0 where
  pub uses : (b k place v : ℕ) (line : Line) → slice_get (lines_at func b) k ≡ Some line → is_phi line.inst.op ≡ false
      → slice_get line.inst.operands place ≡ Some (named v) → live b k v ≡ true
  pub held : (b k place v : ℕ) (line : Line) → slice_get (lines_at func b) k ≡ Some line
      → slice_get (map (λ entry. entry.1) line.inst.bundle) place ≡ Some (named v) → live b k v ≡ true
  pub later : (b k v : ℕ) (line : Line) → slice_get (lines_at func b) k ≡ Some line → gives line v ≡ false → live b (suc k) v ≡ true
      → live b k v ≡ true
  pub crosses : (from to v : ℕ) → Edge func from to → live to 0 v ≡ true → live from (length (lines_at func from)) v ≡ true
  pub entries : (from to k v : ℕ) (phi : Line) → Edge func from to → slice_get (lines_at func to) k ≡ Some phi → is_phi phi.inst.op ≡ true
      → incoming from phi.inst ≡ Some (named v) → live from (length (lines_at func from)) v ≡ true

abbrev pub owner_of : Name → Option ℕ
owner_of (own v) = Some v
owner_of (relocated b k v) = Some v
owner_of (joined b v) = Some v
owner_of (token b k) = None

-- names of different values have different numbers; arguments are the first; those that lines give are below a bound
pub record IsNumbering (func : Function) (table : List Operand) (joins : ℕ → ℕ → Bool) (number : Name → ℕ) (room : ℕ) : Type 0 where
  pub owner : ℕ → Option ℕ
  pub owns : (name : Name) → owner (number name) ≡ owner_of name
  pub arguments : (v : ℕ) → v < length func.args → number (own v) ≡ v
  pub room_line : (b k x : ℕ) (line : Line) → slice_get (lines_at func b) k ≡ Some line → line.to ≡ Some x → number (own x) < room
  pub room_list : (b k v : ℕ) → calls (line_at func b k) ≡ true → among v (live_list func table b k) ≡ true → number (relocated b k v) < room
  pub room_join : (b v : ℕ) → joins b v ≡ true → among v (pointers func) ≡ true → number (joined b v) < room

-- at each edge a live value has an inserted phi or keeps its name
pub record Fits (func : Function) (table : List Operand) (naming : Naming) (live : ℕ → ℕ → ℕ → Bool) : Type 0 where
  pub own_value : (b v : ℕ) → owner_of (naming.front b v) ≡ Some v
  pub at_entry : (v : ℕ) → live 0 0 v ≡ true → naming.front 0 v ≡ own v
  pub no_join : (v : ℕ) → naming.joins 0 v ≡ false
  pub at_join : (b v : ℕ) → naming.joins b v ≡ true → (naming.front b v ≡ joined b v) × (among v (pointers func) ≡ true) × (live b 0 v ≡ true)
  pub at_edge : (from to v : ℕ) → Edge func from to → live to 0 v ≡ true → naming.joins to v ≡ false
      → naming.front to v ≡ names_at_end func table naming from v

-- a block to which a path leads
pub data Reached (func : Function) : ℕ → Type 0 where
  at_first : Reached func 0
  over : (from to : ℕ) → Reached func from → Edge func from to → Reached func to

-- what is true of the graph of a source function without its unreached blocks
pub record IsReached (func : Function) : Type 0 where
  pub entry : preds func 0 ≡ []
  pub blocks : (b : ℕ) → b < length func.blocks → Reached func b
