-- What the calls of `clap` answer, of the words behind a command's name.
use Rattle.std.proofs.Common.{◌≡◌, ◌∙◌, List, [], ◌∷◌, None, String, true, ap, drop, inl, inr, map, string_bytes, subst, sym}
use Rattle.std.proofs.lemmas.Str.{IsUtf8-string_bytes}
use Rattle.clap.specs.Faults.{fault_of, is_simple_and_free}
use Rattle.clap.specs.Kinds.{HasKind, IsAmong, Kinds}
use Rattle.clap.specs.Simple.{App, HasMatchesOf}
use Rattle.clap.specs.Values.{kind_of}
use Rattle.clap.specs.Walk.{Text}
use Rattle.clap.specs.declared.error.Error.{Error}
use Rattle.clap.specs.declared.error.kind.ErrorKind.TheVariants.{OutOfMemory}
use Rattle.clap.specs.declared.parser.matches.ArgMatches.{ArgMatches}
use Rattle.tool_words.specs.Reader.{ReadsParts, reader_app, sound_parts}
use Rattle.tool_words.proofs.Outcomes.{read_words, refused_words}
use Rattle.tool_words.proofs.Rules.{is_free_reader}
use Rattle.tool_words.proofs.Uses.{AreTexts}

all_texts : {Z : Type 0} (words : List (String Z)) → AreTexts (map string_bytes words)
all_texts [] = tt
all_texts (word ∷ rest) = (IsUtf8-string_bytes word, all_texts rest)

pub later_texts : {Z : Type 0} (words : List (String Z)) → AreTexts (drop 1 (map string_bytes words))
later_texts [] = tt
later_texts (word ∷ rest) = all_texts rest

module _ (name : Text) (app : App) (words : List Text) (is : app ≡ reader_app name) (are : AreTexts (drop 1 words)) where
  pub taken : (matches : ArgMatches) → (is_simple_and_free app ≡ true → fault_of app words ≡ []) → HasMatchesOf app words matches → ReadsParts (drop 1 words) matches
  taken matches faultless has =
      read_words name words are matches (ap (λ (a : App). fault_of a words) (sym is) ∙ faultless (ap is_simple_and_free is ∙ is_free_reader name))
      (subst (λ (a : App). HasMatchesOf a words matches) is has)

  pub refused : (error : Error) → (is_simple_and_free app ≡ true → HasKind (fault_of app words) error) → (kind_of error ≡ OutOfMemory → ⊥) → sound_parts (drop 1 words) ≡ None
  refused error fails no_memory =
      refused_words name words are (λ faultless.
      by (fault_of app words) (ap (λ (a : App). fault_of a words) is ∙ faultless) (fails (ap is_simple_and_free is ∙ is_free_reader name)))
    where
      by : (faults : Kinds) → faults ≡ [] → HasKind faults error → ⊥
      by faults none (inl memory) = no_memory memory
      by faults none (inr among) = subst (IsAmong (kind_of error)) none among
