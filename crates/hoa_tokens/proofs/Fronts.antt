-- The token at a place, by the byte that stands there. Assumes nothing.
use mathlib.Core.Path.{◌≡◌}
use mathlib.Core.Bool.{true, false}
use mathlib.Core.List.{List}
use Prim.Native.Nat.{ℕ, ◌+◌, ◌≤◌, ◌<◌}
use lib.ListN.{length, get_or, drop, drop_of_length-le}
use borrow.Author.Tests.{eq-eqb, ne_eqb}
use Rattle.hoa_tokens.specs.Bytes.{is_digit, is_letter}
use Rattle.hoa_tokens.specs.Token.{finish, taken, number, named, quoted, closed, at, fixed, sign_of, single, front}
use Rattle.hoa_tokens.proofs.Runs.{here}

-- no byte
pub front_out : (text : List ℕ) (i : ℕ) → length text ≤ i → front (drop i text) ≡ taken finish 0
unfolding front
front_out text i l = rw (drop_of_length-le text l)

module _ (text : List ℕ) (i : ℕ) (l : i < length text) where
  -- the byte there
  abbrev byte : ℕ
  byte = get_or text i 0

  -- a digit
  pub front_number : is_digit byte ≡ true → front (drop i text) ≡ number (drop i text)
  unfolding front
  front_number e = rw (here text i l, e)

  module _ (d : is_digit byte ≡ false) where
    -- a letter
    pub front_named : is_letter byte ≡ true → front (drop i text) ≡ named (drop i text)
    unfolding front
    front_named e = rw (here text i l, d, e)

    module _ (n : is_letter byte ≡ false) where
      -- a quote
      pub front_string : byte ≡ 34 → front (drop i text) ≡ closed (drop (i + 1) text) (quoted (drop (i + 1) text))
      unfolding front
      front_string e = rw (here text i l, d, n, eq-eqb byte 34 e)

      module _ (q : byte ≡ 34 → ⊥) where
        -- an `@`
        pub front_alias : byte ≡ 64 → front (drop i text) ≡ at (drop (i + 1) text)
        unfolding front
        front_alias e = rw (here text i l, d, n, ne_eqb byte 34 q, eq-eqb byte 64 e)

        module _ (a : byte ≡ 64 → ⊥) where
          -- a `-`
          pub front_fixed : byte ≡ 45 → front (drop i text) ≡ fixed (drop i text)
          unfolding front
          front_fixed e = rw (here text i l, d, n, ne_eqb byte 34 q, ne_eqb byte 64 a, eq-eqb byte 45 e)

          -- any other byte
          pub front_single : (byte ≡ 45 → ⊥) → front (drop i text) ≡ single (sign_of byte)
          unfolding front
          front_single e = rw (here text i l, d, n, ne_eqb byte 34 q, ne_eqb byte 64 a, ne_eqb byte 45 e)
