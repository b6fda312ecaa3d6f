use Rattle.std.proofs.Common.{◌≡◌, ℕ, ◌≤◌, [], ◌++◌, take, drop}
use Rattle.std.specs.Prelude.{map}
use Rattle.line_parts.specs.Seen.{seen_argument}
use Rattle.ir_lines.specs.Sections.{arguments_named, count_numbered}
use Rattle.ir_lines.proofs.sections.HeadNames.of.Given as goal

abbrev pub invariant-loop-argument : goal.invariant-loop-argument
invariant-loop-argument l = record {
  named : (line : ℕ) → map (λ n. n.items) l.names.items
      ++ map (λ one. one.name) (arguments_named line (map seen_argument (take l.argument-index l.arguments)) (map seen_argument (drop l.argument-index l.arguments)))
      ≡ map (λ one. one.name) (arguments_named line [] (map seen_argument l.arguments));
  counted : l.numbered ≡ count_numbered (map seen_argument (take l.argument-index l.arguments));
  few : l.numbered ≤ l.argument-index;
}
