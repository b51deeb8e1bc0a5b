-- Tokens taken one by one: a token is admitted and leads on, ends the stretch, or is faulty; the first of the last two decides
-- (docs/RULES.md, "The Hanoi format", the faulty token: "Read the tokens from the left"). Assumes nothing.
use Rattle.std.specs.Prelude.{List, [], ◌∷◌, ℕ}
use Rattle.hoa_tokens.specs.Token.{Token, int, word, header, str, aname, sign, body, end, abort, finish, bad}
use Rattle.hoa_tokens.specs.Stream.{Placed}

-- what one token does
pub data Step (S D : Type 0) : Type 0 where
  -- it is admitted
  go : S → Step S D
  -- it is admitted, and the stretch is over
  done : D → Step S D
  -- it is faulty, with this number
  wrong : ℕ → Step S D

-- how a stretch ends
pub data End (D : Type 0) : Type 0 where
  -- the tokens behind it are left
  done_at : D → List Placed → End D
  -- the number and the place of the faulty token
  wrong_at : ℕ → ℕ → End D
  -- no token is left
  cut : End D

abbrev pub end_by : {S D : Type 0} → Step S D → ℕ → List Placed → (S → End D) → End D
end_by (go s) place ps more = more s
end_by (done d) place ps more = done_at d ps
end_by (wrong n) place ps more = wrong_at n place

unfoldable pub run : {S D : Type 0} → (S → Token → Step S D) → List Placed → S → End D
run step [] s = cut
run step (p ∷ ps) s = end_by (step s p.token) p.place ps (λ t. run step ps t)

-- where an INT is wanted: 40 for every other token, but "`--ABORT--`: always" 41
unfoldable pub wants_int : {S D : Type 0} → (ℕ → Step S D) → Token → Step S D
wants_int f (int i) = f i
wants_int f (word w) = wrong 40
wants_int f (header h) = wrong 40
wants_int f (str bs) = wrong 40
wants_int f aname = wrong 40
wants_int f (sign s) = wrong 40
wants_int f body = wrong 40
wants_int f end = wrong 40
wants_int f abort = wrong 41
wants_int f finish = wrong 40
wants_int f bad = wrong 40

-- where a STRING is wanted, whatever its bytes
unfoldable pub wants_text : {S D : Type 0} → S → Token → Step S D
wants_text s (str bs) = go s
wants_text s (int i) = wrong 40
wants_text s (word w) = wrong 40
wants_text s (header h) = wrong 40
wants_text s aname = wrong 40
wants_text s (sign g) = wrong 40
wants_text s body = wrong 40
wants_text s end = wrong 40
wants_text s abort = wrong 41
wants_text s finish = wrong 40
wants_text s bad = wrong 40
