-- A typed function with definite bases has its pairs, and its bundles hold other pointers than their lines give.
use Rattle.std.proofs.Common.{ℕ, List}
use Rattle.std.specs.List.{All}
use Rattle.sp_ids.specs.declared.ids.ValueId.{ValueId}
use Rattle.ir_ast.specs.declared.ops.Operand.{Operand}
use Rattle.ir_ast.specs.Bases.{IsBaseTable}
use Rattle.ir_ast.specs.Faults.PhiEdges.{PhisAreRight}
use Rattle.ir_ast.specs.Faults.TypeClash.{IsTyped}
use Rattle.ir_ast.specs.Funcs.{Function, instructions_of}
use Rattle.ir_ast.specs.Lines.{IsLine}
use Rattle.ir_ast.specs.Modules.{ModuleContent}
use Rattle.ir_ast.specs.Scope.{scope_of}
use Rattle.ir_cfg.specs.Paths.{IsReached}
use Rattle.base_definite.specs.Paths.{HasDefiniteBases}
use Rattle.rewritten_sound.specs.LeadsOut.{PhisAreBare}
use Rattle.rewritten_sound.specs.Pairs.{BasesHavePairs}
use Rattle.rewritten_sound.specs.Takes.{HoldsOthers}
use Rattle.rewritten_sound.proofs.pairs.BaseFacts as base_facts
use Rattle.rewritten_sound.proofs.pairs.DeriveFacts.{derives}
use Rattle.rewritten_sound.proofs.pairs.PhiFacts.{on_edges}
use Rattle.rewritten_sound.proofs.pairs.StayFacts as stay
use Rattle.rewritten_sound.proofs.pairs.UnderivedFacts.{underived}

pub holds_others : (content : ModuleContent) (func : Function) (merged : ℕ → ValueId) (table : List Operand) → HasDefiniteBases func merged → IsBaseTable func merged table
    → PhisAreRight func → PhisAreBare func → IsReached func → All IsLine (instructions_of func.blocks) → All (IsTyped (scope_of content func)) (instructions_of func.blocks)
    → HoldsOthers func
holds_others content func merged table bases table_bases phis bare reached lines typed b k v line held_entry at contained pointer same = (
  base_facts.held_pointer content func table merged bases.bases table_bases typed (underived content func merged bases.bases lines typed) b k v line held_entry at contained pointer same,
  stay.held_other func table merged bases table_bases bare phis reached b k v line held_entry at contained same,
)

pub bases_have_pairs : BasesHavePairs
bases_have_pairs content func merged table room is =
    let none_derived = underived content func merged is.bases.bases is.lines is.typed in
    let own = base_facts.base_is content func table merged is.bases.bases is.table_bases is.typed none_derived in
    record {
      base_is = own;
      base_live = stay.base_live func table merged is.bases is.table_bases is.bare is.phis is.reached own;
      steady = stay.steady func table merged is.bases is.table_bases is.bare is.phis is.reached;
      at_entry = stay.at_entry_own func table merged is.bases is.table_bases is.bare is.phis is.reached own;
      on_edges = λ from to v edge. on_edges content func table merged is.bases is.table_bases is.bare is.phis is.reached is.lines is.typed none_derived from to edge v;
      others = stay.others func table merged is.bases is.table_bases is.bare is.phis is.reached;
      derives = λ b k v line at no_phi given pointer.
          derives content func table merged is.bases is.table_bases is.bare is.phis is.reached is.lines is.typed none_derived room is.plain b k v line at no_phi given pointer;
      takes = is.takes;
      silent = base_facts.silent content func table merged is.bases.bases is.table_bases is.typed none_derived is.lines;
      held = holds_others content func merged table is.bases is.table_bases is.phis is.bare is.reached is.lines is.typed;
    }
