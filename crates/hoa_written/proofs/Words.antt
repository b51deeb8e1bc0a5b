-- The words, headers, signs and keys of a written text spell their tokens. Assumes nothing.
use mathlib.Core.Path.{◌≡◌, refl, sym}
use mathlib.Core.Bool.{Bool, true, false, false≢true, ◌||◌}
use mathlib.Core.List.{List, [], ◌∷◌, ◌++◌}
use Prim.Native.Nat.{ℕ, ◌<◌}
use native.Mathlib.Omega.{arith}
use lib.Dec.{eqb}
use lib.ListN.{length, get_or}
use Rattle.hoa_tokens.specs.declared.Kind.TheVariants as kind_is
use Rattle.hoa_tokens.specs.declared.Word.{Word}
use Rattle.hoa_tokens.specs.declared.Word.TheVariants as word_is
use Rattle.hoa_tokens.specs.declared.Header.{Header}
use Rattle.hoa_tokens.specs.declared.Header.TheVariants as header_is
use Rattle.hoa_tokens.specs.declared.Sign.{Sign}
use Rattle.hoa_tokens.specs.declared.Sign.TheVariants as sign_is
use Rattle.hoa_tokens.specs.Bytes.{bytes, same, is_digit, is_capital, is_letter, is_name, is_blank, run}
use Rattle.hoa_tokens.specs.Token.{Token, int, word, header, sign, body, end, taken, int_limit, word_of, header_of, named, fixed, sign_of, front}
use Rattle.puts.specs.Put.{held}
use Rattle.hoa_written.proofs.Spells.{Apart, Spells, spells_apart, spells_both, spells_blank, spells_token}
use Rattle.hoa_written.proofs.Ints.{spells_int}

-- ---- words

-- neither a byte of a name nor `:`
no_name : (b : ℕ) → (is_name b || eqb b 58) ≡ false → (is_name b ≡ false) × (eqb b 58 ≡ false)
no_name b e = go (is_name b) (eqb b 58) e
  where
    go : (n c : Bool) → (n || c) ≡ false → (n ≡ false) × (c ≡ false)
    go true c q = absurd (false≢true (sym q))
    go false c q = (refl, q)

-- so no name goes on there
no_names : (bs : List ℕ) → Apart true bs → run is_name bs ≡ 0
unfolding run
no_names [] h = refl
no_names (b ∷ bs) h = rw (no_name b h).0

module _ (b : ℕ) (a : List ℕ) (w : Word) where
  -- a word
  spells_word : is_blank b ≡ false → eqb b 47 ≡ false → ((bs : List ℕ) → Apart true bs → front (b ∷ (a ++ bs)) ≡ taken (word w) (length (b ∷ a)))
      → Spells true (b ∷ a) (λ ts. word w ∷ ts)
  spells_word clear slash shows =
      spells_token true b a (kind_is.Word w) (word w) (λ text i j. refl) (λ q. let z : ◌≡◌ {A = ℕ} 0 1 = cc in omega arith) clear slash shows

-- `t`
pub spells_t : Spells true (bytes "t") (λ ts. word word_is.True ∷ ts)
unfolding bytes front is_digit is_capital is_letter is_name is_blank run named word_of same
spells_t = spells_word 116 [] word_is.True refl refl (λ bs h. rw (no_names bs h, (no_name (get_or bs 0 0) h).1))

-- `f`
pub spells_f : Spells true (bytes "f") (λ ts. word word_is.False ∷ ts)
unfolding bytes front is_digit is_capital is_letter is_name is_blank run named word_of same
spells_f = spells_word 102 [] word_is.False refl refl (λ bs h. rw (no_names bs h, (no_name (get_or bs 0 0) h).1))

-- `v1`
pub spells_v1 : Spells true (bytes "v1") (λ ts. word word_is.V1 ∷ ts)
unfolding bytes front is_digit is_capital is_letter is_name is_blank run named word_of same
spells_v1 = spells_word 118 (bytes "1") word_is.V1 refl refl (λ bs h. rw (no_names bs h, (no_name (get_or bs 0 0) h).1))

-- `Inf`
spells_inf : Spells true (bytes "Inf") (λ ts. word word_is.Inf ∷ ts)
unfolding bytes front is_digit is_capital is_letter is_name is_blank run named word_of same
spells_inf = spells_word 73 (bytes "nf") word_is.Inf refl refl (λ bs h. rw (no_names bs h, (no_name (get_or bs 0 0) h).1))

-- `Fin`
spells_fin : Spells true (bytes "Fin") (λ ts. word word_is.Fin ∷ ts)
unfolding bytes front is_digit is_capital is_letter is_name is_blank run named word_of same
spells_fin = spells_word 70 (bytes "in") word_is.Fin refl refl (λ bs h. rw (no_names bs h, (no_name (get_or bs 0 0) h).1))

-- ---- signs

module _ (b : ℕ) (s : Sign) where
  -- a sign
  spells_sign : is_blank b ≡ false → eqb b 47 ≡ false → ((bs : List ℕ) → front (b ∷ bs) ≡ taken (sign s) 1) → Spells false (b ∷ []) (λ ts. sign s ∷ ts)
  spells_sign clear slash shows =
      spells_token false b [] (kind_is.Sign s) (sign s) (λ text i j. refl) (λ q. let z : ◌≡◌ {A = ℕ} 0 1 = cc in omega arith) clear slash (λ bs h. shows bs)

-- `(`
pub spells_open : Spells false (bytes "(") (λ ts. sign sign_is.ParenLeft ∷ ts)
unfolding bytes front is_digit is_capital is_letter is_blank sign_of
spells_open = spells_sign 40 sign_is.ParenLeft refl refl (λ bs. refl)

-- `)`
pub spells_shut : Spells false (bytes ")") (λ ts. sign sign_is.ParenRight ∷ ts)
unfolding bytes front is_digit is_capital is_letter is_blank sign_of
spells_shut = spells_sign 41 sign_is.ParenRight refl refl (λ bs. refl)

-- `&`
pub spells_and : Spells false (bytes "&") (λ ts. sign sign_is.And ∷ ts)
unfolding bytes front is_digit is_capital is_letter is_blank sign_of
spells_and = spells_sign 38 sign_is.And refl refl (λ bs. refl)

-- `|`
pub spells_or : Spells false (bytes "|") (λ ts. sign sign_is.Or ∷ ts)
unfolding bytes front is_digit is_capital is_letter is_blank sign_of
spells_or = spells_sign 124 sign_is.Or refl refl (λ bs. refl)

-- `[`
spells_bracket : Spells false (bytes "[") (λ ts. sign sign_is.BracketLeft ∷ ts)
unfolding bytes front is_digit is_capital is_letter is_blank sign_of
spells_bracket = spells_sign 91 sign_is.BracketLeft refl refl (λ bs. refl)

-- `]`
spells_bracketed : Spells false (bytes "]") (λ ts. sign sign_is.BracketRight ∷ ts)
unfolding bytes front is_digit is_capital is_letter is_blank sign_of
spells_bracketed = spells_sign 93 sign_is.BracketRight refl refl (λ bs. refl)

-- `{`
pub spells_brace : Spells false (bytes "{") (λ ts. sign sign_is.BraceLeft ∷ ts)
unfolding bytes front is_digit is_capital is_letter is_blank sign_of
spells_brace = spells_sign 123 sign_is.BraceLeft refl refl (λ bs. refl)

-- `}`
pub spells_braced : Spells false (bytes "}") (λ ts. sign sign_is.BraceRight ∷ ts)
unfolding bytes front is_digit is_capital is_letter is_blank sign_of
spells_braced = spells_sign 125 sign_is.BraceRight refl refl (λ bs. refl)

-- ---- headers, and what is fixed

module _ (b : ℕ) (a : List ℕ) (h : Header) where
  -- a header
  spells_header : is_blank b ≡ false → eqb b 47 ≡ false → ((bs : List ℕ) → front (b ∷ (a ++ bs)) ≡ taken (header h) (length (b ∷ a))) → Spells false (b ∷ a) (λ ts. header h ∷ ts)
  spells_header clear slash shows =
      spells_token false b a (kind_is.Header h) (header h) (λ text i j. refl) (λ q. let z : ◌≡◌ {A = ℕ} 0 1 = cc in omega arith) clear slash (λ bs q. shows bs)

-- `HOA:`
spells_hoa : Spells false (bytes "HOA:") (λ ts. header header_is.Hoa ∷ ts)
unfolding bytes front is_digit is_capital is_letter is_name is_blank run named header_of same
spells_hoa = spells_header 72 (bytes "OA:") header_is.Hoa refl refl (λ bs. refl)

-- `States:`
spells_states : Spells false (bytes "States:") (λ ts. header header_is.States ∷ ts)
unfolding bytes front is_digit is_capital is_letter is_name is_blank run named header_of same
spells_states = spells_header 83 (bytes "tates:") header_is.States refl refl (λ bs. refl)

-- `Start:`
spells_start : Spells false (bytes "Start:") (λ ts. header header_is.Start ∷ ts)
unfolding bytes front is_digit is_capital is_letter is_name is_blank run named header_of same
spells_start = spells_header 83 (bytes "tart:") header_is.Start refl refl (λ bs. refl)

-- `AP:`
spells_ap : Spells false (bytes "AP:") (λ ts. header header_is.Ap ∷ ts)
unfolding bytes front is_digit is_capital is_letter is_name is_blank run named header_of same
spells_ap = spells_header 65 (bytes "P:") header_is.Ap refl refl (λ bs. refl)

-- `Acceptance:`
spells_acceptance : Spells false (bytes "Acceptance:") (λ ts. header header_is.Acceptance ∷ ts)
unfolding bytes front is_digit is_capital is_letter is_name is_blank run named header_of same
spells_acceptance = spells_header 65 (bytes "cceptance:") header_is.Acceptance refl refl (λ bs. refl)

-- `State:`
spells_state : Spells false (bytes "State:") (λ ts. header header_is.State ∷ ts)
unfolding bytes front is_digit is_capital is_letter is_name is_blank run named header_of same
spells_state = spells_header 83 (bytes "tate:") header_is.State refl refl (λ bs. refl)

-- `--BODY--`
pub spells_body : Spells false (bytes "--BODY--") (λ ts. body ∷ ts)
unfolding bytes front is_digit is_capital is_letter is_blank fixed same
spells_body =
    spells_token false 45 (bytes "-BODY--") kind_is.Body body (λ text i j. refl) (λ q. let z : ◌≡◌ {A = ℕ} 0 1 = cc in omega arith) refl refl (λ bs h. refl)

-- `--END--`
pub spells_end : Spells false (bytes "--END--") (λ ts. end ∷ ts)
unfolding bytes front is_digit is_capital is_letter is_blank fixed same
spells_end =
    spells_token false 45 (bytes "-END--") kind_is.End end (λ text i j. refl) (λ q. let z : ◌≡◌ {A = ℕ} 0 1 = cc in omega arith) refl refl (λ bs h. refl)

-- ---- blanks

-- ` `
pub spells_space : Spells false (bytes " ") (λ ts. ts)
unfolding bytes is_blank
spells_space = spells_blank 32 refl

-- the newline byte
pub spells_newline : Spells false (10 ∷ []) (λ ts. ts)
unfolding is_blank
spells_newline = spells_blank 10 refl

-- ---- keys

-- a sign or a blank stands apart
pub apart_space : (bs : List ℕ) → Apart true (32 ∷ bs)
unfolding is_name is_letter is_capital is_digit
apart_space bs = refl

-- the newline byte
pub apart_newline : (bs : List ℕ) → Apart true (10 ∷ bs)
unfolding is_name is_letter is_capital is_digit
apart_newline bs = refl

-- `(`
pub apart_open : (bs : List ℕ) → Apart true (40 ∷ bs)
unfolding is_name is_letter is_capital is_digit
apart_open bs = refl

-- `)`
pub apart_shut : (bs : List ℕ) → Apart true (41 ∷ bs)
unfolding is_name is_letter is_capital is_digit
apart_shut bs = refl

-- `]`
apart_bracketed : (bs : List ℕ) → Apart true (93 ∷ bs)
unfolding is_name is_letter is_capital is_digit
apart_bracketed bs = refl

-- `}`
pub apart_braced : (bs : List ℕ) → Apart true (125 ∷ bs)
unfolding is_name is_letter is_capital is_digit
apart_braced bs = refl

-- `Inf(`
pub key_inf : Spells false (bytes "Inf(") (λ ts. word word_is.Inf ∷ (sign sign_is.ParenLeft ∷ ts))
unfolding bytes
key_inf = spells_apart spells_inf (λ bs h. apart_open bs) spells_open

-- `&Inf(`
pub key_and_inf : Spells false (bytes "&Inf(") (λ ts. sign sign_is.And ∷ (word word_is.Inf ∷ (sign sign_is.ParenLeft ∷ ts)))
unfolding bytes
key_and_inf = spells_both spells_and key_inf

-- `|Inf(`
pub key_or_inf : Spells false (bytes "|Inf(") (λ ts. sign sign_is.Or ∷ (word word_is.Inf ∷ (sign sign_is.ParenLeft ∷ ts)))
unfolding bytes
key_or_inf = spells_both spells_or key_inf

-- `(Fin(`
pub key_pair : Spells false (bytes "(Fin(") (λ ts. sign sign_is.ParenLeft ∷ (word word_is.Fin ∷ (sign sign_is.ParenLeft ∷ ts)))
unfolding bytes
key_pair = spells_both spells_open (spells_apart spells_fin (λ bs h. apart_open bs) spells_open)

-- `&(Fin(`
pub key_and_pair : Spells false (bytes "&(Fin(") (λ ts. sign sign_is.And ∷ (sign sign_is.ParenLeft ∷ (word word_is.Fin ∷ (sign sign_is.ParenLeft ∷ ts))))
unfolding bytes
key_and_pair = spells_both spells_and key_pair

-- `|(Fin(`
pub key_or_pair : Spells false (bytes "|(Fin(") (λ ts. sign sign_is.Or ∷ (sign sign_is.ParenLeft ∷ (word word_is.Fin ∷ (sign sign_is.ParenLeft ∷ ts))))
unfolding bytes
key_or_pair = spells_both spells_or key_pair

-- `[t] `
pub key_label : Spells false (bytes "[t] ") (λ ts. sign sign_is.BracketLeft ∷ (word word_is.True ∷ (sign sign_is.BracketRight ∷ ts)))
unfolding bytes
key_label = spells_both spells_bracket (spells_apart spells_t (λ bs h. apart_bracketed bs) (spells_both spells_bracketed spells_space))

-- `HOA: `
pub key_hoa : Spells false (bytes "HOA: ") (λ ts. header header_is.Hoa ∷ ts)
unfolding bytes
key_hoa = spells_both spells_hoa spells_space

-- `States: `
pub key_states : Spells false (bytes "States: ") (λ ts. header header_is.States ∷ ts)
unfolding bytes
key_states = spells_both spells_states spells_space

-- `Start: `
pub key_start : Spells false (bytes "Start: ") (λ ts. header header_is.Start ∷ ts)
unfolding bytes
key_start = spells_both spells_start spells_space

-- `AP: `
pub key_ap : Spells false (bytes "AP: ") (λ ts. header header_is.Ap ∷ ts)
unfolding bytes
key_ap = spells_both spells_ap spells_space

-- `Acceptance: `
pub key_acceptance : Spells false (bytes "Acceptance: ") (λ ts. header header_is.Acceptance ∷ ts)
unfolding bytes
key_acceptance = spells_both spells_acceptance spells_space

-- `State: `
pub key_state : Spells false (bytes "State: ") (λ ts. header header_is.State ∷ ts)
unfolding bytes
key_state = spells_both spells_state spells_space

-- ---- a number between a key and a byte

module _ {key : List ℕ} {f : List Token → List Token} (k : Spells false key f) (n : ℕ) (small : n < int_limit) where
  -- a bracket behind it
  pub held_shut : Spells false (held key n 41) (λ ts. f (int n ∷ (sign sign_is.ParenRight ∷ ts)))
  unfolding bytes
  held_shut = spells_apart (spells_both k (spells_int n small)) (λ bs h. apart_shut bs) spells_shut

  -- a blank behind it
  pub held_space : Spells false (held key n 32) (λ ts. f (int n ∷ ts))
  unfolding bytes
  held_space = spells_apart (spells_both k (spells_int n small)) (λ bs h. apart_space bs) spells_space

  -- a newline byte behind it
  pub held_newline : Spells false (held key n 10) (λ ts. f (int n ∷ ts))
  held_newline = spells_apart (spells_both k (spells_int n small)) (λ bs h. apart_newline bs) spells_newline
