-- Signatures token by token, behind their `{` (docs/RULES.md, "The Hanoi format", the faulty token: "INT in a sig"). Assumes nothing.
use Rattle.std.specs.Prelude.{cond, ℕ, ◌^◌, ltb}
use Rattle.marks.specs.Mark.{union, width}
use Rattle.hoa_tokens.specs.declared.Sign.{Sign}
use Rattle.hoa_tokens.specs.declared.Sign.TheVariants as sign_is
use Rattle.hoa_tokens.specs.Token.{Token, int, word, header, str, aname, sign, body, end, abort, finish, bad}
use Rattle.hoa_step.specs.Machine.{Step, go, done, wrong}

-- a sig's marks so far, and in the end
abbrev pub SigStep : Type 0
SigStep = Step ℕ ℕ

-- mark i alone, of those that a set can hold
unfoldable pub alone : ℕ → ℕ
alone i = cond (ltb i width) (2 ^ i) 0

-- the marks, and mark i
abbrev pub with_mark : ℕ → ℕ → ℕ
with_mark m i = union m (alone i)

abbrev pub sig_sign : ℕ → Sign → SigStep
sig_sign m sign_is.BraceRight = done m
sig_sign m sign_is.ParenLeft = wrong 40
sig_sign m sign_is.ParenRight = wrong 40
sig_sign m sign_is.BracketLeft = wrong 40
sig_sign m sign_is.BracketRight = wrong 40
sig_sign m sign_is.BraceLeft = wrong 40
sig_sign m sign_is.And = wrong 40
sig_sign m sign_is.Or = wrong 40
sig_sign m sign_is.Not = wrong 40

-- "Each INT in a sig is below c; any order, repeats allowed, empty allowed"
unfoldable pub sig_step : ℕ → ℕ → Token → SigStep
sig_step c m (int i) = cond (ltb i c) (go (with_mark m i)) (wrong 41)
sig_step c m (sign s) = sig_sign m s
sig_step c m abort = wrong 41
sig_step c m (word w) = wrong 40
sig_step c m (header h) = wrong 40
sig_step c m (str bs) = wrong 40
sig_step c m aname = wrong 40
sig_step c m body = wrong 40
sig_step c m end = wrong 40
sig_step c m finish = wrong 40
sig_step c m bad = wrong 40
