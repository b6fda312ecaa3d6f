-- What the lines of a function lose over its tables is what they lose over what they can name.
use Rattle.std.proofs.Common.{◌≡◌, ◌∙◌, ℕ, inl, inr, List, ap, sym, subst}
use Rattle.std.specs.Prelude.{Option, Result, Ok, Err, OnOk, map}
use Rattle.ir_ast.specs.declared.modules.Form.{Form}
use Rattle.line_parts.specs.Seen.{seen_type}
use Rattle.ir_lines.specs.declared.faults.Fault.{Fault}
use Rattle.ir_lines.specs.declared.scope.Top.{Top}
use Rattle.ir_lines.specs.declared.scope.Local.{Local}
use Rattle.ir_lines.specs.Notes.{Notes}
use Rattle.ir_lines.specs.Again.{FoundByNames}
use Rattle.ir_lines.specs.Scope.{Scope, scope_of}
use Rattle.ir_lines.specs.Sections.{Definition, BlockLines, blocks_of}
use Rattle.ir_lines.specs.Statements.{Statement, Line}
use Rattle.ir_lines.specs.Tables.{seen_head, IsTop, IsLocal}
use Rattle.ir_lines.specs.Faults.UnknownName.{names_unknown}
use Rattle.ir_lines.specs.Faults.PointerCast.{is_cast}
use Rattle.ir_lines.proofs.NoteLemmas.{notes-then}
use Rattle.module_build.specs.Founds.{Found}
use Rattle.module_build.specs.Lost.{Tables, LostBy, LostIn, after_line, nothing_lost, miscounts_in}
use Rattle.module_build.proofs.Founds.{notes-alike, found-more}
use Rattle.module_build.proofs.ScopeLemmas.{AreTables, unknown-same, spelled-same}
use Rattle.text_resolve.specs.Lost.{Lost, LineLostAt, LineLostOf, BlockLostAt, BlockLostOf, BlocksLost, BlocksLostOf, BodyWidths, FunctionLost}

lost-same : (form : Form) (scope : Scope) (tables : Tables) (what : Statement) (code : ℕ) → AreTables scope tables → LostIn form tables what code ≡ Lost form scope what code
lost-same form scope tables what code t =
    ap (λ b. LostBy b (after_line form tables nothing_lost what).misspelled (is_cast what) (miscounts_in form what) code) (unknown-same form scope tables what t)
    ∙ ap (λ b. LostBy (names_unknown scope what) b (is_cast what) (miscounts_in form what) code) (spelled-same form scope tables what t)

lost-in : (form : Form) (scope : Scope) (tables : Tables) → AreTables scope tables → (before : List BlockLines) (here : BlockLines) (after : List BlockLines) (line code : ℕ)
    → BlockLostAt form tables before here after line code → BlockLostOf form scope before here after line code
lost-in form scope tables t before here after line code f =
    found-more (LineLostAt form tables) (LineLostOf form scope) here.lines
    (λ ls l more n c one. (one.0, subst (λ (F : Type 0). F) (lost-same form scope tables l.says c t) one.1)) line code f

lost-of : (form : Form) (scope : Scope) (tables : Tables) → AreTables scope tables → (before : List BlockLines) (here : BlockLines) (after : List BlockLines) (line code : ℕ)
    → BlockLostOf form scope before here after line code → BlockLostAt form tables before here after line code
lost-of form scope tables t before here after line code f =
    found-more (LineLostOf form scope) (LineLostAt form tables) here.lines
    (λ ls l more n c one. (one.0, subst (λ (F : Type 0). F) (sym (lost-same form scope tables l.says c t)) one.1)) line code f

abbrev pub tables_with : Top → Local → Tables
tables_with top local = record {
  layouts = top.layouts;
  heads = top.heads;
  head_list = map seen_head top.head_list.items;
  values = local.values;
  types = map seen_type local.types.items;
  blocks = local.blocks;
}

tables-of : (lines : List Line) (func : Definition) (top : Top) (local : Local) → IsTop lines top → IsLocal func local
    → AreTables (scope_of lines func) (tables_with top local)
tables-of lines func top local t l = record {
  layouts = t.layouts;
  heads = t.heads;
  head_list = t.head_list;
  values = l.values;
  types = l.types;
  blocks = l.blocks;
}

-- the names of a function, the widths of its cases, and then the lines of its blocks
pub notes-function : (form : Form) (lines : List Line) (func : Definition) (top : Top) (local : Local) (blocks : List BlockLines) (old a b new : Option Fault)
    → IsTop lines top → IsLocal func local → blocks ≡ blocks_of func → Notes old a (FoundByNames form func) → Notes a b (BodyWidths func.body)
    → Notes b new (BlocksLost form (tables_with top local) blocks) → Notes old new (FunctionLost form (scope_of lines func) func)
unfolding FunctionLost
notes-function form lines func top local blocks old a b new t l e m w n =
    let tables = tables-of lines func top local t l in
    let scope = scope_of lines func in
    notes-then old a new (FoundByNames form func) _ m
    (notes-then a b new (BodyWidths func.body) (BlocksLostOf form scope (blocks_of func)) w
    (notes-alike (BlockLostAt form (tables_with top local)) (BlockLostOf form scope) (blocks_of func) b new
    (lost-in form scope (tables_with top local) tables) (lost-of form scope (tables_with top local) tables)
    (subst (λ (bs : List BlockLines). Notes b new (BlocksLost form (tables_with top local) bs)) e n)))

pub always : {A E : Type 0} (r : Result A E) (P : Type 0) → P → OnOk r P
always (Ok value) P p = p
always (Err error) P p = tt
