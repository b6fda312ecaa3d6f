use Rattle.std.proofs.Common.{◌≡◌, ◌∙◌, refl, ap, sym}
use Rattle.std.specs.Prelude.{is_none, Some, None}
use Rattle.ir_lines.proofs.FirstLemmas.{in_table, first-in-table, adds-to-table, put-back, same_keeps}
use Rattle.ir_lines.proofs.firsts.Firsts.add_to_table.Goals as goal

pub returns-in-Ok-None-clause-is_new : goal.returns-in-Ok-None-clause-is_new
returns-in-Ok-None-clause-is_new c =
    let a = c.in-Ok-None.ensures.old in
    let b = c.in-Ok-None.field-0-is in
    let none : in_table c.args.self.now c.args.name.now ≡ None = cc in
    sym (ap is_none (first-in-table c.args.self.now c.args.name.now c.requires ∙ none))

pub returns-in-Ok-None-clause-added : goal.returns-in-Ok-None-clause-added
returns-in-Ok-None-clause-added c =
    let a = c.in-Ok-None.ensures.old in
    let b = c.in-Ok-None.field-0-is in
    let none : in_table c.args.self.now c.args.name.now ≡ None = cc in
    adds-to-table _ _ c.args.name.now c.args.place (first-in-table c.args.self.now c.args.name.now c.requires ∙ none) refl
    c.in-Ok-None.ensures.updates.3 c.in-Ok-None.ensures.updates.1

pub returns-in-Ok-clause-is_new : goal.returns-in-Ok-clause-is_new
returns-in-Ok-clause-is_new c =
    let a = c.in-Ok-Some.ensures.old in
    let b = c.in-Ok-Some.field-0-is in
    let d = c.in-Ok-Some.first-is in
    let some : in_table c.args.self.now c.args.name.now ≡ Some c.in-Ok-Some.first = cc in
    sym (ap is_none (first-in-table c.args.self.now c.args.name.now c.requires ∙ some))

pub returns-in-Ok-clause-added : goal.returns-in-Ok-clause-added
returns-in-Ok-clause-added c =
    let a = c.in-Ok-Some.ensures.old in
    let b = c.in-Ok-Some.field-0-is in
    let d = c.in-Ok-Some.first-is in
    let some : in_table c.args.self.now c.args.name.now ≡ Some c.in-Ok-Some.first = cc in
    put-back _ _ c.insert.new.self.entries c.args.name.now c.args.place c.in-Ok-Some.first refl
    c.in-Ok-Some.ensures.updates.3 c.in-Ok.ensures.updates.3 some c.in-Ok-Some.ensures.updates.1 c.in-Ok.ensures.updates.1

pub returns-in-Err-clause-err : goal.returns-in-Err-clause-err
returns-in-Err-clause-err c = same_keeps _ _ c.in-Err.ensures.err refl
