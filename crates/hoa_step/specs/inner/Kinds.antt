-- What a token is where an INT or a STRING is wanted. Assumes nothing.
use Rattle.std.specs.Prelude.{ℕ, Result, Ok, Err}
use Rattle.hoa_tokens.specs.declared.Kind.{Kind}
use Rattle.hoa_tokens.specs.declared.Kind.TheVariants as kind_is

-- an INT with its value, or the number of another token
abbrev pub int_kind : Kind → Result ℕ ℕ
int_kind (kind_is.Int n) = Ok n
int_kind (kind_is.Word w) = Err 40
int_kind (kind_is.Header h) = Err 40
int_kind kind_is.Quoted = Err 40
int_kind kind_is.Alias = Err 40
int_kind (kind_is.Sign s) = Err 40
int_kind kind_is.Body = Err 40
int_kind kind_is.End = Err 40
int_kind kind_is.Abort = Err 41
int_kind kind_is.Finish = Err 40
int_kind kind_is.Bad = Err 40

-- a STRING, or the number of another token
abbrev pub text_kind : Kind → Result Unit ℕ
text_kind (kind_is.Int n) = Err 40
text_kind (kind_is.Word w) = Err 40
text_kind (kind_is.Header h) = Err 40
text_kind kind_is.Quoted = Ok tt
text_kind kind_is.Alias = Err 40
text_kind (kind_is.Sign s) = Err 40
text_kind kind_is.Body = Err 40
text_kind kind_is.End = Err 40
text_kind kind_is.Abort = Err 41
text_kind kind_is.Finish = Err 40
text_kind kind_is.Bad = Err 40
