-- A call over final numbers, and the counts of names before it.
use Rattle.std.specs.Prelude.{◌≡◌, ℕ, ◌+◌, List, map, filter, Some, slice_get}
use Rattle.std.specs.Option.{option_map}
use Rattle.ir_ast.specs.declared.ops.Operand.{Operand}
use Rattle.ir_ast.specs.Funcs.{Function}
use Rattle.object_meaning.specs.Lines.{Line}
use Rattle.rewriting_forms.specs.Liveness.{live_list}
use Rattle.rewriting_forms.specs.Names.{Name, relocated, token, Naming, names_at}
use Rattle.rewriting_forms.specs.Rewritten.{place_in, renamed, is_token, is_relocated, old_name}
use Rattle.statepoint_insert.specs.declared.texts.Call.{Call}
use Rattle.statepoint_insert.specs.declared.texts.Counts.{Counts}

-- the parts are those of a call of the function whose operands have the numbers of their names at its place
pub record IsRenumbered (func : Function) (table : List Operand) (naming : Naming) (number : Name → ℕ) (b k : ℕ) (line : Line) (call : Call) : Type 0 where
  pub named : call.named ≡ option_map (old_name func) line.to
  pub ty : call.ty ≡ line.inst.ty
  pub operands : call.operands.items ≡ map (renamed number (names_at func table naming b k)) line.inst.operands
  pub bundle : call.bundle.items ≡ map (λ entry. (entry.0, renamed number (names_at func table naming b k) entry.1)) line.inst.bundle

-- the names of the statepoint and of its relocates are counted on from these
pub record AreCounted (func : Function) (table : List Operand) (names : List Name) (b k : ℕ) (counts : Counts) : Type 0 where
  pub tokens : place_in (filter is_token names) (token b k) ≡ counts.tokens
  pub relocates : (j v : ℕ) → slice_get (live_list func table b k) j ≡ Some v → place_in (filter is_relocated names) (relocated b k v) ≡ counts.relocates + j
