-- What is found is the token of the rule: each form at its place, and the token behind a gap. Assumes nothing.
use mathlib.Core.Path.{◌≡◌, refl, sym, ap, ◌∙◌}
use mathlib.Core.Bool.{Bool, true, false}
use mathlib.Core.List.{List}
use mathlib.Core.Option.{Option, some, none}
use Prim.Native.Nat.{ℕ, ◌+◌, ◌-◌, ◌<◌}
use native.Mathlib.Omega.{arith}
use lib.Dec.{eqb}
use lib.ListN.{length, get_or, drop, length-drop}
use lib.Seq.{drop-drop, get_or-drop}
use borrow.Author.Tests.{eq-eqb, ne_eqb, eqb-true}
use Rattle.hoa_tokens.specs.declared.Word.{Word}
use Rattle.hoa_tokens.specs.declared.Header.{Header}
use Rattle.hoa_tokens.specs.declared.Sign.{Sign}
use Rattle.hoa_tokens.specs.declared.Kind.{Kind}
use Rattle.hoa_tokens.specs.declared.Kind.TheVariants as kind_is
use Rattle.hoa_tokens.specs.declared.Found.{Found}
use Rattle.hoa_tokens.specs.Bytes.{bytes, is_digit, is_name, run}
use Rattle.hoa_tokens.specs.Token.{Token, bad, finish, taken, word_of, header_of, digits, number, named}
use Rattle.hoa_tokens.specs.Token.{later, quoted, closed, at as alias, begins, fixed, single, front}
use Rattle.hoa_tokens.specs.Stream.{Gap, gap, unclosed, lost, behind, gap_of, placed, first_of, first, part, token_of, TokenAt}
use Rattle.hoa_tokens.specs.inner.Reads.{RunTo, Says, Reads, gap_from}
use Rattle.hoa_tokens.proofs.Sizes.{GapIn, gap_in, QuoteIn, quote_in, byte_in}
use Rattle.hoa_tokens.proofs.Next.{found_at}

-- what is found, by its parts
abbrev pub found : ℕ → ℕ → Kind → Found
found a b k = record { first = a; next = b; kind = k }

-- ---- numbers and names

module _ (text : List ℕ) (at next : ℕ) where
  -- how long the run is
  size : (class : ℕ → Bool) → RunTo class text at next → next - at ≡ run class (drop at text)
  size class r = omega (arith, r.place)

  -- a run of digits
  pub number_found : (k : Kind) → RunTo is_digit text at next → Says k (digits (part text at next)) → Reads text at (found at next k) (number (drop at text))
  unfolding number
  number_found k r s = record { first = refl; next = r.place; token = rw (← size is_digit r) (s.says text at next) }

  -- the byte behind the run
  behind_run_lem : RunTo is_name text at next → get_or (drop at text) (run is_name (drop at text)) 0 ≡ get_or text next 0
  behind_run_lem r = get_or-drop at text (run is_name (drop at text)) 0 ∙ ap (λ (k : ℕ). get_or text k 0) (sym r.place)

  -- a name with a `:` behind it
  pub header_found : (h : Header) → RunTo is_name text at next → eqb (get_or text next 0) 58 ≡ true → h ≡ header_of (part text at next)
      → Reads text at (found at (next + 1) (kind_is.Header h)) (named (drop at text))
  unfolding named
  header_found h r e q =
      rw (behind_run_lem r, e) (record { first = refl; next = omega (arith, r.place); token = rw (← size is_name r, q) })

  -- a name with another byte behind it, or none
  pub word_found : (w : Word) → RunTo is_name text at next → eqb (get_or text next 0) 58 ≡ false → w ≡ word_of (part text at next)
      → Reads text at (found at next (kind_is.Word w)) (named (drop at text))
  unfolding named
  word_found w r e q = rw (behind_run_lem r, e) (record { first = refl; next = r.place; token = rw (← size is_name r, q) })

-- a `:` is one of the bytes
pub colon_in : (text : List ℕ) (i : ℕ) → eqb (get_or text i 0) 58 ≡ true → i < length text
colon_in text i e = byte_in text i (λ (z : get_or text i 0 ≡ 0). omega (arith, eqb-true (get_or text i 0) 58 e))

module _ (text : List ℕ) (at next : ℕ) (r : RunTo is_name text (at + 1) next) where
  -- an `@` alone
  pub alias_bad : next ≡ at + 1 → Reads text at (found at next kind_is.Bad) (alias (drop (at + 1) text))
  unfolding alias
  alias_bad e =
      let z : run is_name (drop (at + 1) text) ≡ 0 = omega (arith, r.place) in
      rw (eq-eqb (run is_name (drop (at + 1) text)) 0 z) (record { first = refl; next = omega arith; token = refl })

  -- an `@` and a name
  pub alias_found : (next ≡ at + 1 → ⊥) → Reads text at (found at next kind_is.Alias) (alias (drop (at + 1) text))
  unfolding alias
  alias_found e =
      rw (ne_eqb (run is_name (drop (at + 1) text)) 0 (λ z. e (let q : next ≡ at + 1 = omega (arith, r.place, z) in q)))
      (record { first = refl; next = omega (arith, r.place); token = refl })

-- ---- strings

-- the closing quote is a byte of the text
pub quote_within : (text : List ℕ) (at i : ℕ) → later at (quoted (drop at text)) ≡ some i → i < length text
quote_within text at i = go (quoted (drop at text)) (quote_in (drop at text))
  where
    go : (o : Option ℕ) → QuoteIn (length (drop at text)) o → later at o ≡ some i → i < length text
    go none h e = absurd (let z : ◌≡◌ {A = ℕ} 0 1 = cc in omega arith)
    go (some k) h e = let q : at + k ≡ i = cc in omega (arith, length-drop at text)

-- a string with its closing quote
pub string_closed : (text : List ℕ) (at i : ℕ) → later (at + 1) (quoted (drop (at + 1) text)) ≡ some i
    → Reads text at (found at (i + 1) kind_is.Quoted) (closed (drop (at + 1) text) (quoted (drop (at + 1) text)))
string_closed text at i = go (quoted (drop (at + 1) text))
  where
    go : (o : Option ℕ) → later (at + 1) o ≡ some i → Reads text at (found at (i + 1) kind_is.Quoted) (closed (drop (at + 1) text) o)
    go none e = absurd (let z : ◌≡◌ {A = ℕ} 0 1 = cc in omega arith)
    go (some k) e =
        let q : at + 1 + k ≡ i = cc in
        let s : i + 1 - 1 - (at + 1) ≡ k = omega arith in
        record { first = refl; next = omega arith; token = rw s }

-- a string that is open to the text's end
pub string_open : (text : List ℕ) (at : ℕ) → at < length text → later (at + 1) (quoted (drop (at + 1) text)) ≡ none
    → Reads text at (found at (length text) kind_is.Bad) (closed (drop (at + 1) text) (quoted (drop (at + 1) text)))
string_open text at l = go (quoted (drop (at + 1) text))
  where
    go : (o : Option ℕ) → later (at + 1) o ≡ none → Reads text at (found at (length text) kind_is.Bad) (closed (drop (at + 1) text) o)
    go none e = record { first = refl; next = omega (arith, length-drop (at + 1) text); token = refl }
    go (some k) e = absurd (let z : ◌≡◌ {A = ℕ} 0 1 = cc in omega arith)

-- ---- fixed texts and marks

module _ (text : List ℕ) (at : ℕ) where
  -- `--BODY--`
  pub fixed_body : begins (bytes "--BODY--") (drop at text) ≡ true → Reads text at (found at (at + 8) kind_is.Body) (fixed (drop at text))
  unfolding fixed
  fixed_body e = rw e (record { first = refl; next = refl; token = refl })

  module _ (nobody : begins (bytes "--BODY--") (drop at text) ≡ false) where
    -- `--END--`
    pub fixed_end : begins (bytes "--END--") (drop at text) ≡ true → Reads text at (found at (at + 7) kind_is.End) (fixed (drop at text))
    unfolding fixed
    fixed_end e = rw (nobody, e) (record { first = refl; next = refl; token = refl })

    module _ (noend : begins (bytes "--END--") (drop at text) ≡ false) where
      -- `--ABORT--`
      pub fixed_abort : begins (bytes "--ABORT--") (drop at text) ≡ true → Reads text at (found at (at + 9) kind_is.Abort) (fixed (drop at text))
      unfolding fixed
      fixed_abort e = rw (nobody, noend, e) (record { first = refl; next = refl; token = refl })

      -- a `-` that begins none of these
      pub fixed_none : begins (bytes "--ABORT--") (drop at text) ≡ false → Reads text at (found at (at + 1) kind_is.Bad) (fixed (drop at text))
      unfolding fixed
      fixed_none e = rw (nobody, noend, e) (record { first = refl; next = refl; token = refl })

  -- a mark of one byte, or none
  pub single_found : (k : Kind) (o : Option Sign) → Says k (single o).token → Reads text at (found at (at + 1) k) (single o)
  single_found k none s = record { first = refl; next = refl; token = s.says text at (at + 1) }
  single_found k (some m) s = record { first = refl; next = refl; token = s.says text at (at + 1) }

  -- the text's end
  pub finish_found : Reads text at (found at at kind_is.Finish) (taken finish 0)
  finish_found = record { first = refl; next = omega arith; token = refl }

-- ---- behind a gap

-- by its parts
placed_same : {a b p q : ℕ} {t u : Token} → a ≡ p → b ≡ q → t ≡ u → placed a b t ≡ placed p q u
placed_same x y z = rw (x, y, z)

-- a token behind a gap
pub clear_found : (text : List ℕ) (at i : ℕ) (f : Found) → gap_from text at 0 ≡ gap i → Reads text i f (front (drop i text)) → TokenAt text at f
unfolding first
clear_found text at i f e r = found_at text at f (go (gap_of (drop at text) 0) e)
  where
    go : (g : Gap) → behind at g ≡ gap i → first_of at (drop at text) g ≡ placed f.first f.next (token_of text f.first f.next f.kind)
    go (gap n) e =
        let q : at + n ≡ i = cc in
        rw (drop-drop n at text, q) (placed_same (sym r.first) (sym r.next) (sym r.token))
    go (unclosed n) e = absurd (let z : ◌≡◌ {A = ℕ} 0 1 = cc in omega arith)
    go lost e = absurd (let z : ◌≡◌ {A = ℕ} 0 1 = cc in omega arith)

-- a comment that is never closed
pub unclosed_found : (text : List ℕ) (at i : ℕ) → gap_from text at 0 ≡ unclosed i → TokenAt text at (found i (length text) kind_is.Bad)
unfolding first
unclosed_found text at i e = found_at text at (found i (length text) kind_is.Bad) (go (gap_of (drop at text) 0) (gap_in (drop at text) 0) e)
  where
    go : (g : Gap) → GapIn (length (drop at text)) 0 g → behind at g ≡ unclosed i → first_of at (drop at text) g ≡ placed i (length text) bad
    go (gap n) h e = absurd (let z : ◌≡◌ {A = ℕ} 0 1 = cc in omega arith)
    go (unclosed n) h e = let q : at + n ≡ i = cc in placed_same q (omega (arith, length-drop at text)) refl
    go lost h e = absurd (let z : ◌≡◌ {A = ℕ} 0 1 = cc in omega arith)
