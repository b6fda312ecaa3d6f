use Rattle.std.proofs.Common.{◌≡◌, ℕ, List, ◌++◌, length, map, take}
use Rattle.std.specs.Prelude.{filter}
use Rattle.ir_ast.specs.Objects.{number}
use Rattle.frame_forms.specs.FrameSizes.{is_named_integer}
use Rattle.object_meaning.specs.Numbers.{width_of, sign_extended}
use Rattle.object_meaning.specs.Registers.{value, number_in}
use Rattle.machine_meaning.specs.Machines.{over}
use Rattle.machine_frames.proofs.slots.keep_bundle.Given as goal

abbrev pub invariant-loop-entry : goal.invariant-loop-entry
invariant-loop-entry l =
    (words before : List ℕ) → length words ≡ l.kept → l.initial.stack ≡ over words before
    → let wide = map (λ entry. sign_extended (width_of entry.0) 64 (number_in (value (map number l.registers) entry.1))) (filter (λ entry. is_named_integer entry.0 entry.1) (take l.entry-index l.bundle)) in
    (l.stack ≡ over (words ++ wide) before) × (length (words ++ wide) ≡ l.next)
