-- What a line has that the profile lacks, by its words, and the reasons of a text.
use Rattle.std.specs.Prelude.{ℕ, Bool, true, false, List, [], ◌∷◌, drop, flat_map, Option, Some, None, is_some, codes, if◌then◌else◌}
use Rattle.std.specs.List.{list_any}
use Rattle.std.specs.Str.{bytes_eq}
use Rattle.sp_text.specs.Tokens.{Tok, tok, bad, tokens}
use Rattle.sp_text.specs.Labels.{label_of}
use Rattle.sp_text.specs.Lines.{NumberedLine, lines_of}
use Rattle.sp_text.specs.declared.tokens.Kind.TheVariants as kinds
use Rattle.line_tokens.specs.Marks.{is_word, is_mark, is_local, begins}
use Rattle.llvm_features.specs.Words.{is_one_of, float_words, exception_words, cast_words, atomic_words, indirect_words, cell_words, access_words, dropped_words, is_unknown}
use Rattle.llvm_features.specs.declared.features.Feature.{Feature}
use Rattle.llvm_features.specs.declared.features.Feature.TheVariants.{Spelling, FrameMemory, Float, Global, NoStrategy, Varargs, IndirectCall, Exceptions, PointerCast, Atomics, Aggregates, Assembly, SmallAccess, PlainPointer, Intrinsic}
use Rattle.llvm_features.specs.declared.features.Reason.{Reason}

-- ---- in a body

-- a word that tells a feature wherever it stands
abbrev pub lone_tells : List ℕ → Option Feature
lone_tells bytes =
    if bytes_eq bytes (codes "alloca") then Some FrameMemory else
    if is_one_of float_words bytes then Some Float else
    if is_one_of exception_words bytes then Some Exceptions else
    if bytes_eq bytes (codes "va_arg") then Some Varargs else
    if is_one_of cast_words bytes then Some PointerCast else
    if is_one_of atomic_words bytes then Some Atomics else
    if bytes_eq bytes (codes "insertvalue") then Some Aggregates else
    if bytes_eq bytes (codes "asm") then Some Assembly else
    if is_one_of indirect_words bytes then Some IndirectCall else None

-- the type of an access, which stands directly behind `load` or `store`
abbrev pub type_tells : List ℕ → Option Feature
type_tells bytes =
    if is_one_of cell_words bytes then None else
    if is_one_of atomic_words bytes then Some Atomics else
    if is_one_of float_words bytes then Some Float else Some SmallAccess

abbrev pub access_tells : List Tok → Option Feature
access_tells (tok kinds.Word bytes ∷ ts) = type_tells bytes
access_tells _ = None

-- a word, with what stands behind it: a value of the type `ptr` alone is a pointer outside the heap
abbrev pub word_tells : List ℕ → List Tok → Option Feature
word_tells bytes ts =
    if is_one_of access_words bytes then access_tells ts else
    if bytes_eq bytes (codes "ptr") then (if begins is_local ts then Some PlainPointer else None) else lone_tells bytes

-- a value, which is called where a parenthesis follows
abbrev pub value_tells : List Tok → Option Feature
value_tells ts = if begins (is_mark (codes "(")) ts then Some IndirectCall else None

-- the name of a function
abbrev pub name_tells : List ℕ → Option Feature
name_tells name = if is_unknown name then Some Intrinsic else None

-- a token, with what stands behind it
unfoldable pub tells : Tok → List Tok → Option Feature
tells (tok kinds.Word bytes) ts = word_tells bytes ts
tells (tok kinds.Local bytes) ts = value_tells ts
tells (tok kinds.Global bytes) ts = name_tells (drop 1 bytes)
tells bad ts = Some Spelling
tells _ ts = None

abbrev pub or_else : Option Feature → Option Feature → Option Feature
or_else (Some feature) other = Some feature
or_else None other = other

-- what the first token tells that tells anything
abbrev pub body_tells : List Tok → Option Feature
body_tells [] = None
body_tells (t ∷ ts) = or_else (tells t ts) (body_tells ts)

-- ---- at the top

abbrev pub is_bad : Tok → Bool
is_bad bad = true
is_bad _ = false

-- a definition's head
unfoldable pub head_tells : List Tok → Option Feature
head_tells ts =
    if list_any is_bad ts then Some Spelling else
    if list_any (is_word (codes "...")) ts then Some Varargs else
    if list_any (is_word (codes "personality")) ts then Some Exceptions else
    if list_any (is_word (codes "gc")) ts then None else Some NoStrategy

-- a line that begins with this word
abbrev pub worded_tells : List ℕ → List Tok → Option Feature
worded_tells bytes ts =
    if is_one_of dropped_words bytes then None else
    if bytes_eq bytes (codes "module") then Some Assembly else
    if bytes_eq bytes (codes "define") then head_tells ts else body_tells (tok kinds.Word bytes ∷ ts)

-- a line of these tokens; metadata tells nothing
unfoldable pub line_tells : List Tok → Option Feature
line_tells (tok kinds.Global bytes ∷ ts) = Some Global
line_tells (tok kinds.Bang bytes ∷ ts) = None
line_tells (tok kinds.Word bytes ∷ ts) = worded_tells bytes ts
line_tells ts = body_tells ts

-- ---- the reasons of a text: all its lines that tell a feature, in their order

abbrev pub reason_at : ℕ → Option Feature → List Reason
reason_at line None = []
reason_at line (Some feature) = record { line = line; feature = feature } ∷ []

-- a label tells nothing
abbrev pub told_by : NumberedLine → List Reason
told_by line = if is_some (label_of line.bytes) then [] else reason_at line.number (line_tells (tokens line.bytes))

abbrev pub reasons_in : List NumberedLine → List Reason
reasons_in lines = flat_map told_by lines

abbrev pub reasons_of : List ℕ → List Reason
reasons_of text = reasons_in (lines_of text)
