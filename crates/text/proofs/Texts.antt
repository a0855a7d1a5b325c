-- The digits of bytes, one byte more.
use Rattle.std.proofs.Common.{◌≡◌, ℕ, ◌+◌, ◌<◌, List, [], ◌∷◌, ◌++◌, length, get_or, take, sym, ap, ◌∙◌, append_assoc, append-nil}
use Rattle.std.specs.Fmt.{HasWritten}
use Rattle.std.specs.declared.fmt.Formatter.{Formatter}
use Rattle.std.proofs.Output.{has_written_append, has_written_of_eq}
use Rattle.std.proofs.lemmas.List.{take_more}
use Rattle.text.specs.HexText.{byte_text, bytes_text}

bytes_push : (xs : List ℕ) (b : ℕ) → bytes_text (xs ++ (b ∷ [])) ≡ bytes_text xs ++ byte_text b
unfolding bytes_text
bytes_push [] b = append-nil (byte_text b)
bytes_push (x ∷ xs) b = ap (λ l. byte_text x ++ l) (bytes_push xs b) ∙ sym (append_assoc (byte_text x) (bytes_text xs) (byte_text b))

module _ {W : Type 0} (took : W → List ℕ → W → Type 0) (f g h : Formatter W) (xs : List ℕ) (i : ℕ) (within : i < length xs) where
  pub put_byte : HasWritten took f (bytes_text (take i xs)) g → HasWritten took g (byte_text (get_or xs i 0)) h → HasWritten took f (bytes_text (take (i + 1) xs)) h
  put_byte before byte =
      let more = ap bytes_text (take_more xs i 0 within) ∙ bytes_push (take i xs) (get_or xs i 0) in
      has_written_of_eq took f _ _ h (sym more) (has_written_append took f _ g _ h before byte)
