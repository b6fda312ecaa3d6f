use Rattle.std.proofs.Common.{◌≡◌, ◌++◌, drop}
use Rattle.std.specs.Prelude.{map}
use Rattle.line_forms.specs.Seen.{seen_kept}
use Rattle.ir_lines.specs.Modules.{kept_entry}
use Rattle.module_build.specs.Known.{known_in}
use Rattle.module_build.specs.Lost.{after_uses}
use Rattle.module_build.proofs.scope.Scope.bundle.Given as goal

abbrev pub invariant-loop-one : goal.invariant-loop-one
invariant-loop-one l = record {
  made : l.bundle.items ++ map (kept_entry (known_in l.self)) (map seen_kept (drop l.one-index l.kept))
      ≡ map (kept_entry (known_in l.self)) (map seen_kept l.kept);
  lost : after_uses l.self.local.now.values l.lost (map seen_kept (drop l.one-index l.kept))
      ≡ after_uses l.self.local.now.values l.initial.lost (map seen_kept l.kept);
}
