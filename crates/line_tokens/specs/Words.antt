-- Words of choice: operators, conversions, casts, predicates.
use Rattle.std.specs.Prelude.{ℕ, List, [], ◌∷◌, Option, Some, None, codes, if◌then◌else◌}
use Rattle.std.specs.Str.{bytes_eq}
use Rattle.sp_text.specs.Tokens.{Tok, tok}
use Rattle.sp_text.specs.declared.tokens.Kind.TheVariants as kinds
use Rattle.ir_ast.specs.declared.ops.Pred.{Pred}
use Rattle.ir_ast.specs.declared.ops.Pred.TheVariants as preds
use Rattle.line_tokens.specs.declared.words.Binary.{Binary}
use Rattle.line_tokens.specs.declared.words.Binary.TheVariants as ops
use Rattle.line_tokens.specs.declared.words.Conversion.{Conversion}
use Rattle.line_tokens.specs.declared.words.Conversion.TheVariants as convs
use Rattle.line_tokens.specs.declared.words.Cast.{Cast}
use Rattle.line_tokens.specs.declared.words.Cast.TheVariants as casts
use Rattle.line_tokens.specs.declared.words.Flags.{Flags}
use Rattle.line_tokens.specs.declared.words.Flags.TheVariants as flags

-- the first of a list whose word this is
abbrev pub spelled_by : {A : Type 0} → (A → List ℕ) → List A → List ℕ → Option A
spelled_by word [] bytes = None
spelled_by word (x ∷ xs) bytes = if bytes_eq bytes (word x) then Some x else spelled_by word xs bytes

-- ---- operators, conversions, casts

abbrev pub binary_word : Binary → List ℕ
binary_word ops.Add = codes "add"
binary_word ops.Sub = codes "sub"
binary_word ops.Mul = codes "mul"
binary_word ops.Udiv = codes "udiv"
binary_word ops.Sdiv = codes "sdiv"
binary_word ops.Urem = codes "urem"
binary_word ops.Srem = codes "srem"
binary_word ops.And = codes "and"
binary_word ops.Or = codes "or"
binary_word ops.Xor = codes "xor"
binary_word ops.Shl = codes "shl"
binary_word ops.Lshr = codes "lshr"
binary_word ops.Ashr = codes "ashr"

-- the flags that are dropped behind the word
abbrev pub binary_flags : Binary → Flags
binary_flags ops.Add = flags.Wrapping
binary_flags ops.Sub = flags.Wrapping
binary_flags ops.Mul = flags.Wrapping
binary_flags ops.Shl = flags.Wrapping
binary_flags ops.Udiv = flags.Exact
binary_flags ops.Sdiv = flags.Exact
binary_flags ops.Lshr = flags.Exact
binary_flags ops.Ashr = flags.Exact
binary_flags ops.Or = flags.Disjoint
binary_flags ops.Urem = flags.Nothing
binary_flags ops.Srem = flags.Nothing
binary_flags ops.And = flags.Nothing
binary_flags ops.Xor = flags.Nothing

abbrev pub conversion_word : Conversion → List ℕ
conversion_word convs.Trunc = codes "trunc"
conversion_word convs.Zext = codes "zext"
conversion_word convs.Sext = codes "sext"

abbrev pub conversion_flags : Conversion → Flags
conversion_flags convs.Trunc = flags.Wrapping
conversion_flags convs.Zext = flags.NonNegative
conversion_flags convs.Sext = flags.Nothing

abbrev pub cast_word : Cast → List ℕ
cast_word casts.PtrToInt = codes "ptrtoint"
cast_word casts.IntToPtr = codes "inttoptr"
cast_word casts.AddrSpaceCast = codes "addrspacecast"
cast_word casts.BitCast = codes "bitcast"

abbrev pub all_binaries : List Binary
all_binaries = ops.Add ∷ ops.Sub ∷ ops.Mul ∷ ops.Udiv ∷ ops.Sdiv ∷ ops.Urem ∷ ops.Srem ∷ ops.And ∷ ops.Or ∷ ops.Xor ∷ ops.Shl ∷ ops.Lshr ∷ ops.Ashr ∷ []

abbrev pub all_conversions : List Conversion
all_conversions = convs.Trunc ∷ convs.Zext ∷ convs.Sext ∷ []

abbrev pub all_casts : List Cast
all_casts = casts.PtrToInt ∷ casts.IntToPtr ∷ casts.AddrSpaceCast ∷ casts.BitCast ∷ []

-- ---- predicates

abbrev pub pred_word : Pred → List ℕ
pred_word preds.Eq = codes "eq"
pred_word preds.Ne = codes "ne"
pred_word preds.Ugt = codes "ugt"
pred_word preds.Uge = codes "uge"
pred_word preds.Ult = codes "ult"
pred_word preds.Ule = codes "ule"
pred_word preds.Sgt = codes "sgt"
pred_word preds.Sge = codes "sge"
pred_word preds.Slt = codes "slt"
pred_word preds.Sle = codes "sle"

abbrev pub all_preds : List Pred
all_preds = preds.Eq ∷ preds.Ne ∷ preds.Ugt ∷ preds.Uge ∷ preds.Ult ∷ preds.Ule ∷ preds.Sgt ∷ preds.Sge ∷ preds.Slt ∷ preds.Sle ∷ []

-- the predicate that a word names
abbrev pub pred_of : Tok → Option Pred
pred_of (tok kinds.Word bytes) = spelled_by pred_word all_preds bytes
pred_of _ = None
