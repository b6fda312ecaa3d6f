-- The functions of a source module keep with their polls what bases are put in for.
use Rattle.std.proofs.Common.{[], refl, arith}
use Rattle.std.specs.List.{Contains}
use Rattle.std.proofs.lemmas.List.Elements.{All-nil, All-map, All-weaker, All-contains}
use Rattle.list_laws.proofs.Contents.{all_contained}
use Rattle.ir_ast.specs.declared.modules.Form.TheVariants.{Source}
use Rattle.ir_ast.specs.Insts.{Instruction}
use Rattle.ir_ast.specs.Funcs.{Function, instructions_of}
use Rattle.ir_ast.specs.Lines.{IsLine}
use Rattle.ir_ast.specs.Faultless.{FunctionHasNoFault}
use Rattle.ir_ast.specs.Faults.UnknownName.{NamesOfFunction, LocalNamesAreKnown}
use Rattle.ir_cfg.specs.TypedModules.{IsTypedFunction}
use Rattle.base_forms.specs.Polls.{poll_call, placed}
use Rattle.base_forms.proofs.PlacedLaws.{all_placed, definitions_placed}
use Rattle.poll_place.specs.Room.{HasFewLines}
use Rattle.poll_place.specs.Ready.{IsReady, SourcesAreReady}
use Rattle.poll_place.proofs.PlacedLemmas.{length-placed_from, few_placed}

names_placed : (func : Function) (inst : Instruction) → NamesOfFunction func inst → NamesOfFunction (placed func) inst
names_placed func inst names = record {
  values = rw (definitions_placed func) names.values;
  blocks = rw (length-placed_from 0 func.blocks) names.blocks;
}

poll_names : (func : Function) → NamesOfFunction func poll_call
poll_names func = record { values = All-nil _; blocks = All-nil _ }

poll_line : IsLine poll_call
poll_line = record { result = refl; type = refl; arguments = tt; no_labels = refl; bundle = refl; leaf = λ _. refl }

known_placed : (func : Function) → LocalNamesAreKnown func → LocalNamesAreKnown (placed func)
known_placed func known =
    all_placed (NamesOfFunction (placed func)) (poll_names (placed func)) 0 func.blocks
    (All-weaker (NamesOfFunction func) (NamesOfFunction (placed func)) (names_placed func) (instructions_of func.blocks) known)

ready_placed : (func : Function) → IsTypedFunction Source func → LocalNamesAreKnown func → IsReady (placed func)
ready_placed func typed known = record {
  lines = all_placed IsLine poll_line 0 func.blocks typed.lines;
  known = known_placed func known;
  few = omega (arith, typed.small, few_placed func.blocks);
}

-- ---- all functions

pub sources_are_ready : SourcesAreReady
sources_are_ready content source =
    let typed = source.typed.functions in
    let faultless = source.typed.no_fault.functions in
    let of_function : (func : Function) → Contains content.funcs func → IsTypedFunction Source func =
    λ func inside. All-contains (IsTypedFunction Source) content.funcs func typed inside in
    record {
      room = all_contained HasFewLines content.funcs (λ func inside. omega (arith, (of_function func inside).small));
      ready = All-map IsReady placed content.funcs (all_contained (λ func. IsReady (placed func)) content.funcs
          (λ func inside.
          ready_placed func (of_function func inside)
          (All-contains (FunctionHasNoFault content) content.funcs func faultless inside).local));
    }
