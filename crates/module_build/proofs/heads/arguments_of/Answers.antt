use Rattle.std.proofs.Common.{◌∙◌, ◌<◌, ap, arith, length}
use Rattle.std.specs.Prelude.{map}
use Rattle.std.proofs.lemmas.List.{length-map}
use Rattle.line_parts.specs.declared.readings.Argument.{Argument}
use Rattle.line_parts.specs.Seen.{seen_type, seen_argument}
use Rattle.ir_lines.specs.Modules.{type_of}
use Rattle.module_build.proofs.ArgumentLists.{as-many, paired, paired-is, paired-more, paired-all}
use Rattle.module_build.proofs.heads.arguments_of.Goals as goal

pub bounds-names-i : goal.bounds-names-i
bounds-names-i c =
    let same = as-many c.args.line (map seen_argument c.args.arguments.now) (λ n. n.items) c.args.names.now c.requires in
    let long = length-map c.args.arguments.now seen_argument in
    omega (arith, same, long)

pub loop-i-preserved : goal.loop-i-preserved
loop-i-preserved c =
    let same = as-many c.args.line (map seen_argument c.args.arguments.now) (λ n. n.items) c.args.names.now c.requires in
    let long = length-map c.args.arguments.now seen_argument in
    let within : c.loop-i.i < length c.args.names.now = omega (arith, same, long) in
    paired-more seen_argument (λ n. n.items) c.args.arguments.now c.args.names.now c.loop-i.i c.index-arguments-i.result
    c.index-names-i.result c.in_ok-name.name c.type_of.result c.loop-i.args.items c.push.new.self.items
    (paired (map seen_argument c.args.arguments.now) (map (λ n. n.items) c.args.names.now)) c.loop-i-test.true within c.index-names-i.is
    (c.in_ok-name.ensures ∙ c.as_slice.ensures.value) (c.type_of.ensures ∙ ap (λ (one : Argument). type_of (seen_type one.ty)) c.index-arguments-i.is) c.in_ok-push.ensures.items c.loop-i.invariant

pub returns : goal.returns
returns c =
    paired-all seen_argument (λ n. n.items) c.args.arguments.now c.args.names.now c.loop-i.i c.loop-i.args.items
    (paired (map seen_argument c.args.arguments.now) (map (λ n. n.items) c.args.names.now)) c.loop-i-test.false c.loop-i.invariant
    ∙ paired-is c.args.line (map seen_argument c.args.arguments.now) (map (λ n. n.items) c.args.names.now) c.requires
