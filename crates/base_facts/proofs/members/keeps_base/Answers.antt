use Rattle.std.proofs.Common.{◌∙◌, ap, sym, Option, ℕ, false}
use Rattle.std.specs.Option.{option_map_or}
use Rattle.pair_facts.specs.Lines.{lines_at, line_in, group_in}
use Rattle.pair_facts.specs.Pairs.{base_index, has_base}
use Rattle.base_facts.proofs.members.keeps_base.Goals as goal

pub returns : goal.returns
returns c =
    let lines = lines_at c.args.func.now.content c.args.block in
    c.is_based.ensures
    ∙ ap (λ (h : Option ℕ). option_map_or (λ head. has_base (group_in lines head) (base_index (line_in lines c.args.at))) h false) c.requires.group
    ∙ ap (has_base (group_in lines c.args.head)) (sym c.requires.entry)
