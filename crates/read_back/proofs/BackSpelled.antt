-- The lines that a module is printed with spell no number outside its type.
use Rattle.std.proofs.Common.{◌≡◌, ◌∙◌, ℕ, suc, ◌+◌, ◌-◌, ◌*◌, ◌^◌, ◌<◌, ◌≤◌, Bool, true, false, not, ◌||◌, ◌==◌, ℤ, pos, negsuc, ◌-ℤ◌, nat_lt, if◌then◌else◌, List, [], ◌∷◌, refl, ap, sym, subst, arith}
use Rattle.std.specs.List.{AllByRecursion}
use Rattle.std.proofs.Math.Nat.{mod-eq_of_lt}
use Rattle.std.proofs.lemmas.Nat.{pow-add}
use Rattle.std.proofs.lemmas.Bool.{lt-ltb, ltb-false, le-leb}
use Rattle.std.proofs.lemmas.List.Elements.{All-head}
use Rattle.sp_ids.specs.Numbers.{wrapped, signed}
use Rattle.ir_ast.specs.declared.modules.Form.{Form}
use Rattle.ir_ast.specs.declared.types.Ty.{Ty}
use Rattle.ir_ast.specs.declared.types.Ty.TheVariants as tys
use Rattle.ir_ast.specs.declared.ops.Operand.{Operand}
use Rattle.ir_ast.specs.declared.ops.Operand.TheVariants as operands
use Rattle.ir_ast.specs.Modules.{ModuleContent}
use Rattle.ir_ast.specs.Widths.{IsWidth}
use Rattle.ir_printer.specs.Names.{Names}
use Rattle.line_parts.specs.Types.{TypeWord}
use Rattle.line_parts.specs.Types as types
use Rattle.line_parts.specs.Parts.{Val}
use Rattle.line_parts.specs.Parts as values
use Rattle.ir_lines.specs.Statements.{Line, Statement}
use Rattle.ir_lines.specs.Parts.{uses}
use Rattle.ir_lines.specs.Scope.{Scope, scope_of}
use Rattle.ir_lines.specs.Types.{is_within}
use Rattle.ir_lines.specs.InBody.{InBody}
use Rattle.ir_resolve.specs.TextFaults.{is_outside, says_wrong, misspells, miscounts}
use Rattle.read_back.specs.Said.{literal_of, word_of, value_says, operator_says, said_by}
use Rattle.read_back.proofs.BackLines.{said}
use Rattle.read_back.proofs.BackBlocks.{weaker}
use Rattle.read_back.proofs.BackLiterals.{below_zero}
use Rattle.read_back.proofs.BackNames.{Good}
use Rattle.read_back.proofs.BackModules.{IsShaped, names_in, shaped_inst}
use Rattle.read_back.proofs.BackFaults.{no_body_fault}
use Rattle.read_back.proofs.BackUses.{IsUse, Uses, inst_uses}
use Rattle.read_back.proofs.BackUnknown.{any_none}
use Rattle.read_back.proofs.BackCalls.{SaysRight, says_right}

-- ---- literals

literal_within : (w n : ℕ) → 1 ≤ w → n < 2 ^ w → is_within w (literal_of (signed w n)) ≡ true
literal_within w n low below =
    let kept : wrapped w n ≡ n = mod-eq_of_lt below in
    ap (λ (k : ℕ). is_within w (literal_of (if nat_lt (2 * k) (2 ^ w) then pos k else pos k -ℤ pos (2 ^ w)))) kept
    ∙ by (nat_lt (2 * n) (2 ^ w)) refl
  where
    double : 2 ^ w ≡ 2 * 2 ^ (w - 1)
    double = ap (λ (k : ℕ). 2 ^ k) (let e : w ≡ 1 + (w - 1) = omega arith in e) ∙ pow-add 2 1 (w - 1)

    by : (b : Bool) → nat_lt (2 * n) (2 ^ w) ≡ b → is_within w (literal_of (if b then pos n else pos n -ℤ pos (2 ^ w))) ≡ true
    by true e = lt-ltb n (2 ^ w) below
    by false e =
        let under : pos n -ℤ pos (2 ^ w) ≡ negsuc (2 ^ w - n - 1) = below_zero n (2 ^ w) (2 ^ w - n - 1) (omega arith) in
        let high : 2 ^ w ≤ 2 * n = ltb-false (2 * n) (2 ^ w) e in
        let twice = double in
        ap (λ (z : ℤ). is_within w (literal_of z)) under
        ∙ le-leb (suc (2 ^ w - n - 1)) (2 ^ (w - 1)) (omega arith)

-- ---- operands

abbrev IsInside : Val × TypeWord → Type 0
IsInside used = is_outside used.1 used.0 ≡ false

value_inside : (names : Names) (ty : Ty) (o : Operand) → Good names o ty → IsInside (value_says names ty o, word_of ty)
value_inside names ty (operands.Value v) g = refl
value_inside names ty operands.Null g = refl
value_inside names ty (operands.Fun f) g = refl
value_inside names tys.Void (operands.Int n) g = absurd (let e : tys.Void ≡ tys.Int g.fits.0 = g.fits.1 in cc)
value_inside names tys.Ptr (operands.Int n) g = absurd (let e : tys.Ptr ≡ tys.Int g.fits.0 = g.fits.1 in cc)
value_inside names tys.Token (operands.Int n) g = absurd (let e : tys.Token ≡ tys.Int g.fits.0 = g.fits.1 in cc)
value_inside names (tys.Int w) (operands.Int n) g = by (w == 1) refl
  where
    inner : (width : ℕ) → tys.Int w ≡ tys.Int width → w ≡ width
    inner width e = grind (arith, e)

    below : n < 2 ^ w
    below = subst (λ (k : ℕ). n < 2 ^ k) (sym (inner g.fits.0 g.fits.1)) g.fits.2

    by : (b : Bool) → (w == 1) ≡ b
        → IsInside (if b then values.truth (not (wrapped 1 n == 0)) else values.number (literal_of (signed w n)), types.Int w)
    by true e = ap not e
    by false e = ap not (literal_within w n (All-head IsWidth w [] g.widths).0 below)

inside : (names : Names) (used : Val × TypeWord) → IsUse names used → IsInside used
inside names used u = subst IsInside u.is (value_inside names u.ty u.operand u.good)

-- ---- any line

well_spelled : (form : Form) (scope : Scope) (names : Names) (ss : List Statement) → AllByRecursion (Uses names) ss → AllByRecursion (SaysRight form scope) ss
    → AllByRecursion (λ s. misspells form scope s ≡ false) ss
well_spelled form scope names [] used right = tt
well_spelled form scope names (s ∷ ss) used right = (
  ap (λ (b : Bool). b || says_wrong form scope s)
      (any_none (λ (one : Val × TypeWord). is_outside one.1 one.0) (uses s) (weaker (IsUse names) IsInside (inside names) (uses s) used.0)) ∙ right.0.0,
  well_spelled form scope names ss used.1 right.1,
)

pub misspelled-clear : (form : Form) (content : ModuleContent) → IsShaped content → (lines : List Line) → said lines ≡ said_by content
    → (line : ℕ) → ¬ (InBody lines line (misspells form))
misspelled-clear form content shaped lines e line f =
    no_body_fault content lines e (misspells form)
    (λ one func says c inst d.
    well_spelled form (scope_of lines one) (names_in content func) (operator_says (names_in content func) inst.op inst)
    (inst_uses (names_in content func) inst.op inst (shaped_inst content shaped func c inst d))
    (says_right form content shaped lines e one func says c inst d))
    (λ scope name. refl) line f

pub miscounted-clear : (form : Form) (content : ModuleContent) → IsShaped content → (lines : List Line) → said lines ≡ said_by content
    → (line : ℕ) → ¬ (InBody lines line miscounts)
miscounted-clear form content shaped lines e line f =
    no_body_fault content lines e miscounts
    (λ one func says c inst d.
    weaker (SaysRight form (scope_of lines one)) (λ s. miscounts (scope_of lines one) s ≡ false) (λ s right. right.1)
    (operator_says (names_in content func) inst.op inst) (says_right form content shaped lines e one func says c inst d))
    (λ scope name. refl) line f
