use Rattle.std.proofs.Common.{◌≡◌, ◌++◌, drop}
use Rattle.std.specs.Prelude.{map}
use Rattle.line_parts.specs.Seen.{seen_argument}
use Rattle.module_build.proofs.ArgumentLists.{paired}
use Rattle.module_build.proofs.heads.arguments_of.Given as goal

abbrev pub invariant-loop-i : goal.invariant-loop-i
invariant-loop-i l =
    l.args.items ++ paired (map seen_argument (drop l.i l.arguments)) (map (λ n. n.items) (drop l.i l.names))
    ≡ paired (map seen_argument l.arguments) (map (λ n. n.items) l.names)
