-- The words by which a line of LLVM's text says that it has what the profile lacks (LLVM Language Reference, "Instruction
-- Reference", "Type System" and "Intrinsic Functions").
use Rattle.std.specs.Prelude.{ℕ, Bool, not, ◌&&◌, ◌||◌, List, [], ◌∷◌, ◌++◌, nat_eq, codes}
use Rattle.std.specs.List.{list_any, starts_with}
use Rattle.std.specs.Str.{bytes_eq}

abbrev pub is_one_of : List (List ℕ) → List ℕ → Bool
is_one_of words bytes = list_any (λ word. bytes_eq bytes word) words

abbrev pub float_words : List (List ℕ)
float_words = codes "float" ∷ codes "double" ∷ codes "half" ∷ codes "bfloat" ∷ codes "fp128" ∷ codes "x86_fp80" ∷ []

abbrev pub exception_words : List (List ℕ)
exception_words = codes "invoke" ∷ codes "landingpad" ∷ codes "resume" ∷ codes "cleanuppad" ∷ codes "catchpad" ∷ codes "catchswitch" ∷ []

abbrev pub cast_words : List (List ℕ)
cast_words = codes "ptrtoint" ∷ codes "inttoptr" ∷ codes "ptrtoaddr" ∷ codes "addrspacecast" ∷ []

abbrev pub atomic_words : List (List ℕ)
atomic_words = codes "atomic" ∷ codes "volatile" ∷ codes "atomicrmw" ∷ codes "cmpxchg" ∷ codes "fence" ∷ []

-- branches to where a value says
abbrev pub indirect_words : List (List ℕ)
indirect_words = codes "indirectbr" ∷ codes "callbr" ∷ []

-- the types that cells have
abbrev pub cell_words : List (List ℕ)
cell_words = codes "i64" ∷ codes "ptr" ∷ []

abbrev pub access_words : List (List ℕ)
access_words = codes "load" ∷ codes "store" ∷ []

-- lines at the top that are dropped, or are dropped where nothing needs them
abbrev pub dropped_words : List (List ℕ)
dropped_words = codes "source_filename" ∷ codes "target" ∷ codes "attributes" ∷ codes "declare" ∷ []

-- ---- intrinsics

abbrev pub begins_with : List ℕ → List ℕ → Bool
begins_with name front = starts_with nat_eq name front

-- what says nothing that the meaning has
abbrev pub hint_fronts : List (List ℕ)
hint_fronts = codes "llvm.lifetime." ∷ codes "llvm.dbg." ∷ codes "llvm.experimental.noalias.scope.decl" ∷ []

abbrev pub hint_names : List (List ℕ)
hint_names = codes "llvm.assume" ∷ codes "llvm.donothing" ∷ codes "llvm.sideeffect" ∷ []

unfoldable pub is_hint : List ℕ → Bool
is_hint name = list_any (begins_with name) hint_fronts || is_one_of hint_names name

-- what ends the program
abbrev pub trap_names : List (List ℕ)
trap_names = codes "llvm.trap" ∷ codes "llvm.ubsantrap" ∷ []

-- what is written out
abbrev pub picked_fronts : List (List ℕ)
picked_fronts = codes "llvm.smax." ∷ codes "llvm.smin." ∷ codes "llvm.umax." ∷ codes "llvm.umin." ∷ codes "llvm.abs." ∷ []

abbrev pub moved_fronts : List (List ℕ)
moved_fronts = codes "llvm.usub.sat." ∷ codes "llvm.uadd.sat." ∷ codes "llvm.ctpop." ∷ codes "llvm.bswap." ∷ codes "llvm.fshl." ∷ codes "llvm.fshr." ∷ []

abbrev pub checked_fronts : List (List ℕ)
checked_fronts =
    codes "llvm.uadd.with.overflow." ∷ codes "llvm.usub.with.overflow." ∷ codes "llvm.umul.with.overflow."
    ∷ codes "llvm.sadd.with.overflow." ∷ codes "llvm.ssub.with.overflow." ∷ codes "llvm.smul.with.overflow." ∷ []

unfoldable pub is_written_out : List ℕ → Bool
is_written_out name = list_any (begins_with name) picked_fronts || (list_any (begins_with name) moved_fronts || list_any (begins_with name) checked_fronts)

-- what is dropped, ends the program, is written out, or is left to the front end
unfoldable pub is_known : List ℕ → Bool
is_known name = begins_with name (codes "llvm.experimental.") || (is_hint name || (is_one_of trap_names name || is_written_out name))

-- an intrinsic that isn't written out
unfoldable pub is_unknown : List ℕ → Bool
is_unknown name = begins_with name (codes "llvm.") && not (is_known name)
