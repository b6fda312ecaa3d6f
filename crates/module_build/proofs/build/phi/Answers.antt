use Rattle.std.proofs.Common.{◌≤◌, ℕ, Bool, false, List, length, refl, arith}
use Rattle.std.specs.Prelude.{map}
use Rattle.line_parts.specs.declared.readings.Entry.{Entry}
use Rattle.line_parts.specs.Parts.{Val}
use Rattle.line_parts.specs.Seen.{seen_type, seen_entry}
use Rattle.ir_lines.specs.Parts.{entry_use}
use Rattle.module_build.specs.declared.lost.Lost.{Lost}
use Rattle.module_build.specs.Lost.{after_uses, after_names}
use Rattle.module_build.proofs.LostLemmas.{named-apart, all-done}
use Rattle.module_build.proofs.build.phi.Goals as goal

pub returns-clause-lost : goal.returns-clause-lost
returns-clause-lost c =
    let names = c.args.local.now.values in
    let blocks = c.args.local.now.blocks in
    let entries = c.args.entries.now in
    let used = map (entry_use (seen_type c.args.ty)) (map seen_entry entries) in
    let wanted = map (λ (entry : Val × List ℕ). entry.1) (map seen_entry entries) in
    let past : length entries ≤ c.loop-entry.entry-index = omega arith in
    named-apart names blocks wanted used c.args.lost.now c.loop-entry.lost c.add_unknown.new.lost c.loop-entry.lost_labels.unknown
    (all-done (λ (lost : Lost) (es : List Entry). after_uses names lost (map (entry_use (seen_type c.args.ty)) (map seen_entry es))) entries c.loop-entry.entry-index
    c.loop-entry.lost (after_uses names c.args.lost.now used) past refl c.loop-entry.invariant.lost)
    (all-done (λ (unknown : Bool) (es : List Entry). after_names blocks unknown (map (λ (entry : Val × List ℕ). entry.1) (map seen_entry es))) entries c.loop-entry.entry-index
    c.loop-entry.lost_labels.unknown (after_names blocks false wanted) past refl c.loop-entry.invariant.unknown)
    c.add_unknown.ensures
