-- The function with which a target module begins, and how many registers a function has.
use Rattle.std.proofs.Common.{◌≡◌, ◌≢◌, ℕ, suc, ◌+◌, ◌-◌, ◌<◌, Bool, false, not, List, [], ◌∷◌, ◌++◌, length, refl, sym, ap, ◌∙◌, arith, ltb, Option, Some, None, codes}
use Rattle.std.specs.Prelude.{slice_get, slice_index, unwrap_or, if◌then◌else◌}
use Rattle.std.specs.List.{All, position, prefix_len}
use Rattle.std.specs.Option.{option_map_or}
use Rattle.std.specs.Str.{bytes_eq}
use Rattle.std.proofs.lemmas.Bool.{false_from_ne_true, lt-ltb}
use Rattle.std.proofs.lemmas.Slice.Eq.{bytes_eq-Decides}
use Rattle.std.proofs.lemmas.List.{length-append, length-map}
use Rattle.ir_ast.specs.Faults.NoMain.{HasMain}
use Rattle.ir_ast.specs.Funcs.{Function, instructions_of}
use Rattle.ir_ast.specs.Modules.{ModuleContent}
use Rattle.ir_ast.specs.Values.{definition_type, definitions_of, value_types}
use Rattle.object_meaning.specs.Lines.{main_of, register_count, registers_of}
use Rattle.object_meaning.proofs.LineLaws.{last_register}
use Rattle.object_meaning.proofs.GivenLaws.{after_is, definition_count}

-- ---- registers

-- a register for each value
pub register_for_each : (content : ModuleContent) (number : ℕ) (func : Function) → slice_get content.funcs number ≡ Some func → register_count content number ≡ length (value_types func)
register_for_each content number func found =
    ap (λ (each : Option Function). option_map_or (λ defined. slice_index (registers_of defined) (length (registers_of defined) - 1)) each 0) found
    ∙ (last_register (length func.args) func.blocks ∙ (after_is (length func.args) (instructions_of func.blocks) ∙ (sym (definition_count func) ∙ sym (length-map (definitions_of func) definition_type))))

-- ---- `@main`

abbrev is_main : Function → Bool
is_main func = bytes_eq func.name (codes "main")

not_main : (func : Function) → func.name ≢ codes "main" → bytes_eq func.name (codes "main") ≡ false
not_main func other = false_from_ne_true (bytes_eq func.name (codes "main")) (λ same. other ((bytes_eq-Decides func.name (codes "main")).0 same))

before_is : (earlier : List Function) (main : Function) (later : List Function) → All (λ (func : Function). func.name ≢ codes "main") earlier → main.name ≡ codes "main"
    → prefix_len (λ func. not (bytes_eq func.name (codes "main"))) (earlier ++ main ∷ later) ≡ length earlier
before_is [] main later others name =
    ap (λ (b : Bool). if not b then 1 + prefix_len (λ func. not (bytes_eq func.name (codes "main"))) later else 0) ((bytes_eq-Decides main.name (codes "main")).1 name)
before_is (func ∷ earlier) main later others name =
    ap (λ (b : Bool). if not b then 1 + prefix_len (λ func. not (bytes_eq func.name (codes "main"))) (earlier ++ main ∷ later) else 0) (not_main func (others 0 func (omega arith)))
    ∙ (ap (λ (n : ℕ). 1 + n) (before_is earlier main later (λ k d within. others (suc k) d (omega arith)) name) ∙ (let more : 1 + length earlier ≡ suc (length earlier) = omega arith in more))

get_middle : (earlier : List Function) (main : Function) (later : List Function) → slice_get (earlier ++ main ∷ later) (length earlier) ≡ Some main
get_middle [] main later = refl
get_middle (func ∷ earlier) main later = get_middle earlier main later

pub main_found : (content : ModuleContent) (has : HasMain content) → slice_get content.funcs (main_of content) ≡ Some has.main
main_found content has =
    let funcs = has.earlier ++ has.main ∷ has.later in
    let long = length-append has.earlier (has.main ∷ has.later) in
    let within : length has.earlier < length (has.earlier ++ has.main ∷ has.later) = omega arith in
    let place : unwrap_or (position (λ func. bytes_eq func.name (codes "main")) (has.earlier ++ has.main ∷ has.later)) 0 ≡ length has.earlier =
    ap (λ (n : ℕ). unwrap_or (if ltb n (length (has.earlier ++ has.main ∷ has.later)) then Some n else None) 0) (before_is has.earlier has.main has.later has.first has.name)
    ∙ ap (λ (b : Bool). unwrap_or (if b then Some (length has.earlier) else None) 0) (lt-ltb (length has.earlier) (length (has.earlier ++ has.main ∷ has.later)) within) in
    ap (λ (all : List Function). slice_get all (unwrap_or (position (λ func. bytes_eq func.name (codes "main")) all) 0)) has.whole
    ∙ (ap (slice_get (has.earlier ++ has.main ∷ has.later)) place ∙ get_middle has.earlier has.main has.later)
