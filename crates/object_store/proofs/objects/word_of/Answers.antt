use Rattle.std.proofs.Common.{map, sym, ap, ◌∙◌, arith, false}
use Rattle.std.proofs.lemmas.List.{length-map, get_or-map, get_or_past}
use Rattle.object_meaning.specs.Registers.{nothing}
use Rattle.object_store.specs.declared.words.Word.{Word}
use Rattle.object_store.specs.Words.{datum}
use Rattle.object_store.proofs.objects.word_of.Goals as goal

abbrev zero_word : Word
zero_word = record { is_pointer = false; object = 0; bits = 0 }

pub returns-then-place-words : goal.returns-then-place-words
returns-then-place-words c = sym (get_or-map datum c.args.words.now c.args.place zero_word nothing c.if-place-words.true)

pub returns-else-place-words : goal.returns-else-place-words
returns-else-place-words c =
    ap datum c.of.ensures ∙ sym (get_or_past (map datum c.args.words.now) c.args.place nothing (let m = length-map c.args.words.now datum in omega arith))
