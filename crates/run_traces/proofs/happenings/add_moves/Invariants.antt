use Rattle.std.proofs.Common.{◌≡◌, ◌++◌, drop, map}
use Rattle.std.specs.List.{filter_map}
use Rattle.machine_meaning.specs.Happenings.{object_move}
use Rattle.run_traces.specs.Happenings.{move_of}
use Rattle.run_traces.proofs.happenings.add_moves.Given as goal

abbrev pub invariant-loop-place : goal.invariant-loop-place
invariant-loop-place l =
    map move_of l.moves.items ++ filter_map (object_move l.heap.moves) (drop l.place l.heap.stands)
    ≡ map move_of l.initial.moves.items ++ filter_map (object_move l.heap.moves) l.heap.stands
