-- Sets of pairs, and what lines, groups and edges make of them. A pair of a pointer and a base says that the pointer is
-- fresh and that this is its fresh base; a pair with the base `Any` says that it is fresh.
use Rattle.std.specs.Prelude.{ℕ, Bool, true, false, ◌==◌, ◌&&◌, ◌||◌, if◌then◌else◌, List, [], ◌∷◌, Option, Some, None, slice_get}
use Rattle.std.specs.List.{list_any, position}
use Rattle.std.specs.Option.{option_map_or}
use Rattle.ir_ast.specs.declared.ops.Operand.{Operand}
use Rattle.ir_ast.specs.declared.ops.Operand.TheVariants.{Value, Null}
use Rattle.ir_ast.specs.declared.ops.Op.{Op}
use Rattle.ir_ast.specs.declared.ops.Op.TheVariants.{Select, Gep, Load, GcResult, GcRelocate}
use Rattle.ir_ast.specs.Insts.{Instruction}
use Rattle.ir_ast.specs.Funcs.{Function}
use Rattle.ir_ast.specs.Types.{is_pointer}
use Rattle.object_meaning.specs.Lines.{Line}
use Rattle.object_meaning.specs.Frames.{index_in}
use Rattle.pair_facts.specs.declared.bases.Base.{Base}
use Rattle.pair_facts.specs.declared.bases.Base.TheVariants.{Any, Named}
use Rattle.pair_facts.specs.Lines.{named, gives, operand_at, is_null, same_operand, is_select, is_relocate}

abbrev pub Pairs : Type 0
Pairs = Operand → Base → Bool

abbrev pub is_named : ℕ → Operand → Bool
is_named value (Value other) = value == other.0
is_named value _ = false

abbrev pub is_base_named : ℕ → Base → Bool
is_base_named value (Named operand) = is_named value operand
is_base_named value Any = false

-- `null` has itself as its base
abbrev pub null_pairs : Base → Bool
null_pairs Any = true
null_pairs (Named operand) = is_null operand

-- a pointer that is its own base
abbrev pub own_pairs : ℕ → Base → Bool
own_pairs value Any = true
own_pairs value (Named operand) = is_named value operand

abbrev pub is_pointer_argument : Function → ℕ → Bool
is_pointer_argument func value = option_map_or (λ arg. is_pointer arg.ty) (slice_get func.args value) false

-- at the entry `null` and each pointer argument has itself
abbrev pub at_entry : Function → Pairs
at_entry func Null base = null_pairs base
at_entry func (Value value) base = is_pointer_argument func value.0 && own_pairs value.0 base
at_entry func _ base = false

-- ---- a definition first removes each pair that has its name

abbrev pub without : ℕ → Pairs → Pairs
without value pairs operand base =
    if is_named value operand then false else (if is_base_named value base then false else pairs operand base)

-- a definition whose value has these pairs
abbrev pub with_own : ℕ → (Base → Bool) → Pairs → Pairs
with_own value own pairs operand base = if is_named value operand then own base else without value pairs operand base

abbrev pub with_given : Option ℕ → (ℕ → Base → Bool) → Pairs → Pairs
with_given None own pairs = pairs
with_given (Some value) own pairs = with_own value (own value) pairs

-- ---- selects

-- both operands have themselves
abbrev pub are_own : Pairs → List Operand → Bool
are_own pairs operands =
    pairs (operand_at operands 1) (Named (operand_at operands 1)) && pairs (operand_at operands 2) (Named (operand_at operands 2))

-- the line is a select of the same condition, and each operand has the matching operand of it as a base
abbrev pub follows : Pairs → List Operand → Line → Bool
follows pairs operands line = (is_select line.inst.op && is_pointer line.inst.ty)
    && (same_operand (operand_at line.inst.operands 0) (operand_at operands 0)
    && (pairs (operand_at operands 1) (Named (operand_at line.inst.operands 1))
    && pairs (operand_at operands 2) (Named (operand_at line.inst.operands 2))))

-- the line before has this value, and the select follows it
abbrev pub follows_named : Pairs → Option Line → List Operand → Operand → Bool
follows_named pairs last operands (Value value) = option_map_or (λ line. gives line value.0 && follows pairs operands line) last false
follows_named pairs last operands _ = false

abbrev pub selected : Pairs → Option Line → List Operand → ℕ → Base → Bool
selected pairs last operands value (Named operand) =
    (is_named value operand && are_own pairs operands) || follows_named pairs last operands operand
selected pairs last operands value Any = pairs (operand_at operands 1) Any && pairs (operand_at operands 2) Any

-- ---- lines outside groups

-- the pairs of the value that a line gives, from those that stand before without its name
abbrev pub given_pairs : Pairs → Option Line → Instruction → Op → ℕ → Base → Bool
given_pairs pairs last inst Load value base = is_pointer inst.ty && own_pairs value base
given_pairs pairs last inst (Gep elem index_width place) value base = pairs (operand_at inst.operands 0) base
given_pairs pairs last inst Select value base = is_pointer inst.ty && selected pairs last inst.operands value base
given_pairs pairs last inst op value base = false

abbrev pub after : Pairs → Option Line → Line → Pairs
after pairs last line = with_given line.to (λ value. given_pairs (without value pairs) last line.inst line.inst.op value) pairs

-- ---- groups

abbrev pub base_index : Line → ℕ
base_index line = index_in (slice_get line.inst.operands 1)

abbrev pub derived_index : Line → ℕ
derived_index line = index_in (slice_get line.inst.operands 2)

-- a relocate with this entry as base and as derived pointer
abbrev pub relocates_base : ℕ → Line → Bool
relocates_base entry line = is_relocate line.inst.op && (base_index line == entry && derived_index line == entry)

abbrev pub has_base : List Line → ℕ → Bool
has_base group entry = list_any (relocates_base entry) group

-- the pairs of a relocate with this base entry
abbrev pub relocated_pairs : List Operand → List Line → ℕ → Base → Bool
relocated_pairs entries group entry (Named (Value value)) = list_any (λ line. gives line value.0 && relocates_base entry line) group
relocated_pairs entries group entry (Named operand) = is_null operand && is_null (operand_at entries entry)
relocated_pairs entries group entry Any = has_base group entry || is_null (operand_at entries entry)

abbrev pub member_pairs : List Operand → List Line → ℕ → Line → Op → Base → Bool
member_pairs entries group value line GcResult base = is_pointer line.inst.ty && own_pairs value base
member_pairs entries group value line GcRelocate base = relocated_pairs entries group (base_index line) base
member_pairs entries group value line op base = false

-- behind a group only `null` and what the group gives have pairs, whatever stood before
abbrev pub after_group : List Operand → List Line → Pairs
after_group entries group Null base = null_pairs base
after_group entries group (Value value) base =
    list_any (λ line. gives line value.0 && member_pairs entries group value.0 line line.inst.op base) group
after_group entries group _ base = false

-- ---- edges: the phis of a block act together

-- the operand of a phi on an edge from this block
abbrev pub incoming : ℕ → Instruction → Operand
incoming from phi = option_map_or (λ place. operand_at phi.operands place) (position (λ label. label.0 == from) phi.labels) Null

-- what a value was before the phis
abbrev pub value_along : ℕ → List Line → ℕ → Operand
value_along from [] value = named value
value_along from (phi ∷ phis) value = if gives phi value then incoming from phi.inst else value_along from phis value

abbrev pub along : ℕ → List Line → Operand → Operand
along from phis (Value value) = value_along from phis value.0
along from phis operand = operand

abbrev pub base_along : ℕ → List Line → Base → Base
base_along from phis (Named operand) = Named (along from phis operand)
base_along from phis Any = Any

abbrev pub on_edge : ℕ → List Line → Pairs → Pairs
on_edge from phis pairs operand base = pairs (along from phis operand) (base_along from phis base)
