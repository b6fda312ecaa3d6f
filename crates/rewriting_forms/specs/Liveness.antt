-- Live pointers.
use Rattle.std.specs.Prelude.{◌≡◌, ℕ, zero, suc, ◌==◌, ◌&&◌, ◌||◌, ◌++◌, if◌then◌else◌, nat_le, Bool, true, false, not, List, [], ◌∷◌, length, drop, map, filter, Option, Some, None, slice_get, ◌⊎◌}
use Rattle.std.specs.List.{list_any, Contains, position, flat_map, range_with_len}
use Rattle.std.specs.Option.{option_map_or}
use Rattle.ir_ast.specs.declared.ops.Operand.{Operand}
use Rattle.ir_ast.specs.declared.ops.Operand.TheVariants.{Value}
use Rattle.ir_ast.specs.Insts.{Instruction}
use Rattle.ir_ast.specs.Funcs.{Function}
use Rattle.ir_ast.specs.Faults.PhiEdges.{is_phi}
use Rattle.object_meaning.specs.Lines.{Line}
use Rattle.rewriting_forms.specs.Numbered.{named, among, lines_at, line_at, gives, calls, pointers, base_at, succs}

-- a use of a derived pointer is a use of its base too
abbrev pub IsUse : Function → List Operand → ℕ → Operand → Type 0
IsUse func table v o = (o ≡ named v) ⊎ ((x : ℕ) × (o ≡ named x) × Contains (pointers func) x × (base_at table x ≡ named v))

-- an entry of a phi for a block
pub record IsEntry (phi : Instruction) (from : ℕ) (operand : Operand) : Type 0 where
  pub place : ℕ
  pub label : option_map_or (λ l. l.0 == from) (slice_get phi.labels place) false ≡ true
  pub operand_is : slice_get phi.operands place ≡ Some operand

-- the entries of a phi for one label are the same
abbrev pub PhisAgree : Function → Type 0
PhisAgree func = (b place : ℕ) (phi : Line) → slice_get (lines_at func b) place ≡ Some phi → is_phi phi.inst.op ≡ true
    → (j k : ℕ) → slice_get phi.inst.labels j ≡ slice_get phi.inst.labels k → slice_get phi.inst.operands j ≡ slice_get phi.inst.operands k

-- some walk along edges from a place reaches a use of the value, or of a pointer derived from it, before a definition of it.
-- A place is that before an instruction, or the end of the block
pub data Live (func : Function) (table : List Operand) (v : ℕ) : ℕ → ℕ → Type 0 where
  used : (b k : ℕ) (line : Line) (o : Operand) → slice_get (lines_at func b) k ≡ Some line → is_phi line.inst.op ≡ false
      → Contains line.inst.operands o → IsUse func table v o → Live func table v b k
  -- a bundle operand is a use at its call, and directly after it
  held : (b k : ℕ) (line : Line) (o : Operand) → slice_get (lines_at func b) k ≡ Some line
      → Contains (map (λ entry. entry.1) line.inst.bundle) o → IsUse func table v o → Live func table v b k
  later : (b k : ℕ) (line : Line) → slice_get (lines_at func b) k ≡ Some line → gives line v ≡ false → Live func table v b (suc k)
      → Live func table v b k
  -- an entry of a phi is a use at the end of its label's block
  entry : (b k to place : ℕ) (phi : Line) (o : Operand) → k ≡ length (lines_at func b) → Contains (succs func b) to
      → slice_get (lines_at func to) place ≡ Some phi → is_phi phi.inst.op ≡ true → IsEntry phi.inst b o → IsUse func table v o
      → Live func table v b k
  crosses : (b k to : ℕ) → k ≡ length (lines_at func b) → Contains (succs func b) to → Live func table v to 0 → Live func table v b k

-- the same as a test, of walks over at most so many edges
abbrev pub is_value : ℕ → Operand → Bool
is_value v (Value id) = id.0 == v
is_value v _ = false

abbrev pub is_use : Function → List Operand → ℕ → Operand → Bool
is_use func table v (Value id) = id.0 == v || (among id.0 (pointers func) && is_value v (base_at table id.0))
is_use func table v _ = false

abbrev pub any_use : Function → List Operand → ℕ → List Operand → Bool
any_use func table v operands = list_any (is_use func table v) operands

abbrev pub any_held : Function → List Operand → ℕ → Instruction → Bool
any_held func table v inst = list_any (λ entry. is_use func table v entry.1) inst.bundle

-- the operand of a phi on an edge from a block
abbrev pub incoming : ℕ → Instruction → Option Operand
incoming from phi = option_map_or (λ place. slice_get phi.operands place) (position (λ label. label.0 == from) phi.labels) None

abbrev pub uses_entry : Function → List Operand → ℕ → ℕ → Line → Bool
uses_entry func table v from line = is_phi line.inst.op && option_map_or (is_use func table v) (incoming from line.inst) false

abbrev pub live_over : Function → List Operand → ℕ → (ℕ → Bool) → ℕ → ℕ → Bool
live_over func table v at_front from to = list_any (uses_entry func table v from) (lines_at func to) || at_front to

abbrev pub uses_here : Function → List Operand → ℕ → Line → Bool
uses_here func table v line = (not (is_phi line.inst.op) && any_use func table v line.inst.operands) || any_held func table v line.inst

abbrev pub live_lines : Function → List Operand → ℕ → Bool → List Line → Bool
live_lines func table v beyond [] = beyond
live_lines func table v beyond (line ∷ lines) =
    uses_here func table v line || (not (gives line v) && live_lines func table v beyond lines)

abbrev pub live_front : Function → List Operand → ℕ → ℕ → ℕ → Bool
live_front func table v zero b = false
live_front func table v (suc bound) b =
    live_lines func table v (list_any (live_over func table v (live_front func table v bound) b) (succs func b)) (lines_at func b)

-- live at a place: before an instruction, or at the end of the block
abbrev pub is_live : Function → List Operand → ℕ → ℕ → ℕ → Bool
is_live func table b k v = nat_le k (length (lines_at func b))
    && live_lines func table v (list_any (live_over func table v (live_front func table v (length func.blocks)) b) (succs func b))
    (drop k (lines_at func b))

-- live directly after a call, where its bundle is used once more
abbrev pub is_live_after : Function → List Operand → ℕ → ℕ → ℕ → Bool
is_live_after func table b k v = any_held func table v (line_at func b k).inst || is_live func table b (suc k) v

-- the list of a call: what is live directly after it, without its own result
abbrev pub live_list : Function → List Operand → ℕ → ℕ → List ℕ
live_list func table b k =
    filter (λ v. is_live_after func table b k v && not (gives (line_at func b k) v)) (pointers func)

-- what has no live pointers to keep is kept anyway; behind an instruction its bundle is used once more
abbrev pub live_table : Function → List Operand → ℕ → ℕ → ℕ → Bool
live_table func table b zero v = not (among v (pointers func)) || is_live func table b 0 v
live_table func table b (suc k) v = not (among v (pointers func)) || is_live_after func table b k v

-- the lists of the calls among these lines of a block, the first of which has this place
abbrev pub lists_from : Function → List Operand → ℕ → ℕ → List Line → List (List ℕ)
lists_from func table b k [] = []
lists_from func table b k (line ∷ lines) =
    (if calls line then live_list func table b k ∷ [] else []) ++ lists_from func table b (suc k) lines

-- the lists of all calls of functions that aren't leaves, in text order
abbrev pub live_lists : Function → List Operand → List (List ℕ)
live_lists func table = flat_map (λ b. lists_from func table b 0 (lines_at func b)) (range_with_len 0 (length func.blocks))
