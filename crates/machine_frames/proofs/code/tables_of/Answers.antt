use Rattle.std.proofs.Common.{◌≡◌, ◌+◌, ◌<◌, ◌++◌, ◌∷◌, [], List, length, map, take, sym, ap, ◌∙◌, subst, arith}
use Rattle.std.specs.List.{All}
use Rattle.std.proofs.lemmas.List.{take_more, map-append}
use Rattle.ir_ast.specs.Funcs.{LinedFunction}
use Rattle.machine_frames.specs.Tables.{Tabled, table_of, IsSmallFunction}
use Rattle.machine_frames.proofs.CodeLemmas.{all_push}
use Rattle.machine_frames.proofs.code.tables_of.Goals as goal

pub loop-func-preserved : goal.loop-func-preserved
loop-func-preserved c =
    let funcs = c.args.funcs.now in let i = c.loop-func.func-index in let func = c.func-item.result in
    let below : c.loop-func.func-index < length c.args.funcs.now = omega (arith, c.loop-func-test.true) in
    let taken : take (c.loop-func.func-index + 1) c.args.funcs.now ≡ take c.loop-func.func-index c.args.funcs.now ++ c.func-item.result ∷ [] =
    take_more funcs i func below ∙ ap (λ (one : LinedFunction). take i funcs ++ one ∷ []) (sym c.func-item.is) in
    record {
      tables = c.in_ok-push.ensures.items ∙ ap (λ (ts : List Tabled). ts ++ c.in_ok-table_of.field-0 ∷ []) c.loop-func.invariant.tables
          ∙ ap (λ (t : Tabled). map (λ (one : LinedFunction). table_of one.content) (take i funcs) ++ t ∷ []) c.in_ok-table_of.ensures.table
          ∙ sym (map-append (λ (one : LinedFunction). table_of one.content) (take i funcs) (func ∷ []))
          ∙ ap (map (λ (one : LinedFunction). table_of one.content)) (sym taken);
      small = subst (All (λ (one : LinedFunction). IsSmallFunction one.content)) (sym taken)
          (all_push (λ (one : LinedFunction). IsSmallFunction one.content) (take i funcs) func c.loop-func.invariant.small c.table_of.ensures.small);
    }
