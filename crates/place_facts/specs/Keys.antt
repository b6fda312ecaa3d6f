-- Questions as keys.
use Rattle.std.specs.Prelude.{Bool, true, false, ◌==◌, ◌&&◌}
use Rattle.ir_ast.specs.declared.ops.Operand.{Operand}
use Rattle.ir_ast.specs.declared.ops.Operand.TheVariants as operands
use Rattle.pair_facts.specs.declared.bases.Base.{Base}
use Rattle.pair_facts.specs.declared.bases.Base.TheVariants as bases
use Rattle.place_facts.specs.declared.keys.Name.{Name}
use Rattle.place_facts.specs.declared.keys.Name.TheVariants as names
use Rattle.place_facts.specs.declared.keys.Wanted.{Wanted}
use Rattle.place_facts.specs.declared.keys.Wanted.TheVariants as wanted
use Rattle.place_facts.specs.declared.keys.Key.{Key}
use Rattle.place_facts.specs.declared.facts.Question.{Question}

abbrev pub name_of : Operand → Name
name_of (operands.Value value) = names.Value value.0
name_of (operands.Int number) = names.Int number
name_of operands.Null = names.Null
name_of (operands.Fun func) = names.Fun func.0

abbrev pub wanted_of : Base → Wanted
wanted_of bases.Any = wanted.Any
wanted_of (bases.Named operand) = wanted.Named (name_of operand)

abbrev pub key_of : Question → Key
key_of question = record { place = question.place; pointer = name_of question.pointer; base = wanted_of question.base }

-- ---- keys that are the same

abbrev pub same_name : Name → Name → Bool
same_name (names.Value one) (names.Value other) = one == other
same_name (names.Int one) (names.Int other) = one == other
same_name names.Null names.Null = true
same_name (names.Fun one) (names.Fun other) = one == other
same_name _ _ = false

abbrev pub same_wanted : Wanted → Wanted → Bool
same_wanted wanted.Any wanted.Any = true
same_wanted (wanted.Named one) (wanted.Named other) = same_name one other
same_wanted _ _ = false

abbrev pub same_key : Key → Key → Bool
same_key one other = (one.place == other.place) && (same_name one.pointer other.pointer && same_wanted one.base other.base)
