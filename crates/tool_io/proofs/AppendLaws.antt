-- What several calls on a sink add together.
use Rattle.std.proofs.Common.{◌≡◌, ℕ, List, [], ◌∷◌, ◌++◌, Option, Some, None, Result, Ok, Err, OnErr, refl, sym, ◌∙◌, ap, append-nil, append_assoc, take, drop, take-append-drop}
use Rattle.std.proofs.lemmas.List.Folds.{concat-append}
use Rattle.std.specs.List.{concat}
use Rattle.tool_io.specs.Sink.{append_known, AppendsFront}

-- the sink grew by what stands before `left` in `whole`
pub record AppendsBefore (old new : Option (List ℕ)) (whole left : List ℕ) : Type 0 where
  pub done : List ℕ
  pub split : whole ≡ done ++ left
  pub added : new ≡ append_known old done

-- nothing added
pub append_known-nil : (old : Option (List ℕ)) → append_known old [] ≡ old
append_known-nil None = refl
append_known-nil (Some held) = ap Some (append-nil held)

-- the bytes of some pieces and one more
pub concat-add : (pieces : List (List ℕ)) (piece : List ℕ) → concat (pieces ++ piece ∷ []) ≡ concat pieces ++ piece
concat-add pieces piece = concat-append pieces (piece ∷ []) ∙ ap (λ rest. concat pieces ++ rest) (append-nil piece)

-- two pieces, one after the other
pub append_known-append_known : (old : Option (List ℕ)) (first second : List ℕ) → append_known (append_known old first) second ≡ append_known old (first ++ second)
append_known-append_known None first second = refl
append_known-append_known (Some held) first second = ap Some (append_assoc held first second)

-- all of one piece, and then all of another
pub append_known-then : (old mid new : Option (List ℕ)) (first second : List ℕ) → mid ≡ append_known old first → new ≡ append_known mid second → new ≡ append_known old (first ++ second)
append_known-then old mid new first second one two =
    two ∙ ap (λ (known : Option (List ℕ)). append_known known second) one ∙ append_known-append_known old first second

-- a sink that is as it was has a front of any bytes
pub AppendsFront-nothing : (old : Option (List ℕ)) (bytes : List ℕ) → AppendsFront old old bytes
AppendsFront-nothing old bytes = record { front = []; rest = bytes; whole = refl; added = sym (append_known-nil old) }

-- all of the bytes are a front of them
pub AppendsFront-all : (old new : Option (List ℕ)) (bytes : List ℕ) → new ≡ append_known old bytes → AppendsFront old new bytes
AppendsFront-all old new bytes added = record { front = bytes; rest = []; whole = sym (append-nil bytes); added = added }

-- the first bytes, whatever their number
pub AppendsFront-take : (old new : Option (List ℕ)) (bytes : List ℕ) (count : ℕ) → new ≡ append_known old (take count bytes) → AppendsFront old new bytes
AppendsFront-take old new bytes count added =
    record { front = take count bytes; rest = drop count bytes; whole = sym (take-append-drop count bytes); added = added }

-- a front of the first piece is a front of the whole
pub AppendsFront-first : {old new : Option (List ℕ)} {first : List ℕ} → AppendsFront old new first → (second : List ℕ) → AppendsFront old new (first ++ second)
AppendsFront-first {old} {new} {first} front second =
    record {
      front = front.front;
      rest = front.rest ++ second;
      whole = ap (λ bytes. bytes ++ second) front.whole ∙ append_assoc front.front front.rest second;
      added = front.added;
    }

-- all of the first piece, and then a front of the second
pub AppendsFront-second : {mid new : Option (List ℕ)} {second : List ℕ} → (old : Option (List ℕ)) (first : List ℕ) → mid ≡ append_known old first → AppendsFront mid new second → AppendsFront old new (first ++ second)
AppendsFront-second {mid} {new} {second} old first added front =
    record {
      front = first ++ front.front;
      rest = front.rest;
      whole = ap (λ bytes. first ++ bytes) front.whole ∙ sym (append_assoc first front.front front.rest);
      added = append_known-then old mid new first front.front added front.added;
    }

-- a front of the same bytes
pub AppendsFront-same : {old new : Option (List ℕ)} {bytes : List ℕ} → AppendsFront old new bytes → (others : List ℕ) → others ≡ bytes → AppendsFront old new others
AppendsFront-same front others same =
    record { front = front.front; rest = front.rest; whole = same ∙ front.whole; added = front.added }

-- a front of bytes that stand at the front of others
pub AppendsFront-front : {old new : Option (List ℕ)} {bytes : List ℕ} → AppendsFront old new bytes → (rest whole : List ℕ) → whole ≡ bytes ++ rest → AppendsFront old new whole
AppendsFront-front front rest whole split = AppendsFront-same (AppendsFront-first front rest) whole split

-- The general form: what was added so far, then a front of one piece, then what didn't come to be
-- added.
pub AppendsFront-among : {mid new : Option (List ℕ)} {piece : List ℕ} → (old : Option (List ℕ)) (done rest whole : List ℕ) → mid ≡ append_known old done → AppendsFront mid new piece → whole ≡ done ++ (piece ++ rest) → AppendsFront old new whole
AppendsFront-among {mid} {new} {piece} old done rest whole added front split =
    AppendsFront-same (AppendsFront-second old done added (AppendsFront-first front rest)) whole split

-- A loop of calls: `AppendsBefore` holds as it begins, after each piece, and gives what is owed where
-- it ends, where a piece fails, and where the loop is left for another cause.

pub AppendsBefore-next : {old mid : Option (List ℕ)} {whole left : List ℕ} → AppendsBefore old mid whole left → (new : Option (List ℕ)) (piece rest : List ℕ) → new ≡ append_known mid piece → left ≡ piece ++ rest → AppendsBefore old new whole rest
AppendsBefore-next {old} {mid} before new piece rest added split =
    record {
      done = before.done ++ piece;
      split = before.split ∙ ap (λ bytes. before.done ++ bytes) split ∙ sym (append_assoc before.done piece rest);
      added = append_known-then old mid new before.done piece before.added added;
    }

pub AppendsBefore-end : {old new : Option (List ℕ)} {whole : List ℕ} → AppendsBefore old new whole [] → new ≡ append_known old whole
AppendsBefore-end {old} before =
    before.added ∙ ap (λ bytes. append_known old bytes) (sym (before.split ∙ append-nil before.done))

pub AppendsBefore-failed : {old mid new : Option (List ℕ)} {whole left piece : List ℕ} → AppendsBefore old mid whole left → AppendsFront mid new piece → (rest : List ℕ) → left ≡ piece ++ rest → AppendsFront old new whole
AppendsBefore-failed {old} {whole = whole} before front rest split =
    AppendsFront-among old before.done rest whole before.added front (before.split ∙ ap (λ bytes. before.done ++ bytes) split)

-- what holds whatever a call answered, as at the exit of a `?`
pub OnErr-always : {T E P : Type 0} → (result : Result T E) → P → OnErr result P
OnErr-always (Ok _) p = tt
OnErr-always (Err _) p = p
