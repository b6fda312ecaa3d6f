-- The rewriting keeps the names of functions.
use Rattle.std.proofs.Common.{◌≡◌, ℕ, zero, suc, List, [], ◌∷◌, map, refl, ap, ◌∙◌}
use Rattle.std.specs.Prelude.{slice_get}
use Rattle.std.specs.List.{AllZip}
use Rattle.std.specs.Option.{option_map_or}
use Rattle.ir_ast.specs.Funcs.{Function}
use Rattle.ir_cfg.specs.Unreached.{DropsUnreached}
use Rattle.base_forms.specs.Based.{base_table, based}
use Rattle.base_forms.specs.Polls.{placed}
use Rattle.rewriting_forms.specs.Rewritten.{rewritten}
use Rattle.sp_rewrite.proofs.RewrittenLaws.{rewriting_is_by_function}
use Rattle.rewritten_runs.specs.Statements.{NamesAreKept}

abbrev name_at : List Function → ℕ → List ℕ
name_at funcs func = option_map_or (λ defined. defined.name) (slice_get funcs func) []

abbrev made : Function → Function
made func = rewritten (based (placed func)) (base_table (placed func))

names_made : (funcs : List Function) (func : ℕ) → name_at (map made funcs) func ≡ name_at funcs func
names_made [] func = refl
names_made (first ∷ funcs) zero = refl
names_made (first ∷ funcs) (suc func) = names_made funcs func

names_dropped : (funcs after : List Function) → AllZip DropsUnreached funcs after → (func : ℕ) → name_at after func ≡ name_at funcs func
names_dropped [] [] drops func = refl
names_dropped [] (other ∷ after) drops func = absurd drops
names_dropped (first ∷ funcs) [] drops func = absurd drops
names_dropped (first ∷ funcs) (other ∷ after) drops zero = ap (λ (f : Function). f.name) (drops.0).rest
names_dropped (first ∷ funcs) (other ∷ after) drops (suc func) = names_dropped funcs after drops.1 func

pub names_are_kept : NamesAreKept
names_are_kept content after is func =
    ap (λ (funcs : List Function). name_at funcs func) (rewriting_is_by_function content after is)
    ∙ (names_made is.reached.funcs func ∙ names_dropped content.funcs is.reached.funcs (is.drops).functions func)
